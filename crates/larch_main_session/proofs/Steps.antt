-- How steps of the code follow one another.
use Rattle.std.proofs.Common.{◌≡◌, ℕ, ◌+◌, ◌-◌, ◌<◌, ◌≤◌, inl, inr, Bool, true, false, List, [], ◌∷◌, ◌++◌}
use Rattle.std.proofs.Common.{length, Option, Result, Ok, Err, refl, sym, ap}
use Rattle.std.proofs.Common.{ap₂, subst, ◌∙◌, arith, append_assoc, append-nil, length-append}
use Rattle.std.specs.Io.KnownBytes.{IsAtEnd}
use Rattle.std.proofs.KnownBytes.{Consumes-nil, Consumes-trans}
use Rattle.larch_base.specs.declared.limits.TheConstants.{MAX_LINE_BYTES, MAX_SOURCE_BYTES}
use Rattle.larch_io.specs.Reader.{Taken, ReadsBytes, Takes, room_of}
use Rattle.larch_io.specs.Refusal.{LineRefused, BytesRefused}
use Rattle.larch_io.specs.Take.{TakesLine}
use Rattle.larch_io.specs.declared.refusal.TakeRefusal.{TakeRefusal}
use Rattle.larch_io.specs.declared.refusal.TakeRefusal.TheVariants as take_
use Rattle.larch_main_session.specs.declared.progress.Progress.{Progress}
use Rattle.larch_main_session.specs.declared.progress.Move.{Move}
use Rattle.larch_main_session.specs.declared.progress.Move.TheVariants.{Goes, Stops}
use Rattle.larch_main_status.specs.declared.halt.Halt.{Halt}
use Rattle.larch_main_status.specs.declared.halt.Halt.TheVariants.{ReadFault, Memory}
use Rattle.larch_main_status.specs.declared.status.Status.{Status}
use Rattle.larch_main_status.specs.declared.status.Status.TheVariants.{Malformed, Size}
use Rattle.larch_main_session.specs.Command.{command_of}
use Rattle.larch_main_session.specs.Lines.{line, line_at}
use Rattle.larch_session.specs.declared.session.Session.{Session as Holder}
use Rattle.larch_main_session.specs.Replies.{nothing}
use Rattle.larch_main_session.specs.Session.{State, took, Step, goes, stops, step, on_line}
use Rattle.larch_main_session.specs.Session.{on_command, on_bytes, on_file}
use Rattle.larch_main_session.specs.Session.{status_of, room_left, malformed_text, large_text}
use Rattle.larch_main_session.specs.Progress.{state_of, Machine, at_line, at_command, at_bytes, at_file, MayFollow}
use Rattle.larch_main_session.specs.Progress.{Makes}
use Rattle.larch_main_session.specs.Progress.{Wants, Moves, IsStop, Never, Refuses, PutsIn}
use Rattle.larch_main_session.proofs.Found.{line_found, last_found, none_found, long_found, full_found}
use Rattle.larch_main_session.proofs.Found.{unfinished_found}
use Rattle.larch_main_session.proofs.Found.{bytes_found, cut_found, wanting_found, too_many_found}
use Rattle.larch_session.specs.SessionKeptKept.{limit_in}

true_is_false : {P : Type 0} → true ≡ false → P
true_is_false e = cc

-- reading nothing
pub reads_none : (reader : Taken) (left : Option (List ℕ)) → ReadsBytes reader reader left left []
reads_none reader left = record { gave = Consumes-nil left; quiet = λ e. (refl, refl, e); ends = λ e. inl e }

nothing_and_nothing : (xs ys : List ℕ) → xs ≡ [] → ys ≡ [] → xs ++ ys ≡ []
nothing_and_nothing xs ys p q = cc

-- reading twice
pub reads_then : {a b c : Taken} {x y z : Option (List ℕ)} (g h : List ℕ) → ReadsBytes a b x y g → ReadsBytes b c y z h
    → ReadsBytes a c x z (g ++ h)
reads_then {a} {b} {c} {x} {y} {z} g h r s = record {
  gave = Consumes-trans x y z g h r.gave s.gave;
  quiet = λ e. let first = r.quiet e in let second = s.quiet first.2 in
      (nothing_and_nothing g h first.0 second.0, second.1 ∙ first.1, second.2);
  ends = λ e. elim (s.ends e) [
    | inl over ↦ elim (r.ends over) [
      | inl over_before ↦ inl over_before
      | inr at_end ↦ inr (subst IsAtEnd (sym (s.quiet over).1) at_end)
    ]
    | inr at_end ↦ inr at_end
  ];
}

-- what one machine does on what was kept and given is what another does on what is kept now
pub record Passes (first second : Machine) (old new : Taken) (before after : Option (List ℕ)) : Type 0 where
  pub given : List ℕ
  pub reads : ReadsBytes old new before after given
  pub same : (ended : Bool) (rest : List ℕ) → MayFollow new.ended ended rest
      → first ended (old.kept ++ (given ++ rest)) ≡ second ended (new.kept ++ rest)

-- what may follow what was given later may follow, with that, what was given earlier
pub may_follow_both : {b c : Taken} {y z : Option (List ℕ)} (h : List ℕ) (ended : Bool) (rest : List ℕ)
    → ReadsBytes b c y z h → MayFollow c.ended ended rest → MayFollow b.ended ended (h ++ rest)
may_follow_both h ended rest s m = λ over.
    let quiet = s.quiet over in
    let follows = m quiet.2 in
    (follows.0, nothing_and_nothing h rest quiet.0 follows.1)

makes_after : {first second : Machine} {a b c : Taken} {x y z : Option (List ℕ)} (made : List ℕ → Step)
    → Passes first second a b x y → Makes second b c y z made → Makes first a c x z made
makes_after {first} {second} {a} {b} {c} made p m = record {
  given = p.given ++ m.given;
  reads = reads_then p.given m.given p.reads m.reads;
  step_is = λ ended rest follows.
      ap (λ bytes. first ended (a.kept ++ bytes)) (append_assoc p.given m.given rest)
      ∙ p.same ended (m.given ++ rest) (may_follow_both m.given ended rest m.reads follows)
      ∙ m.step_is ended rest follows;
}

wants_after : {first second : Machine} {a b c : Taken} {x y z : Option (List ℕ)} → Passes first second a b x y
    → Wants second b c y z → Wants first a c x z
wants_after {first} {second} {a} {b} {c} p w = record {
  given = p.given ++ w.given;
  reads = reads_then p.given w.given p.reads w.reads;
  open_still = w.open_still;
  step_is = p.same false w.given (λ over. true_is_false (sym (w.reads.quiet over).2 ∙ w.open_still)) ∙ w.step_is;
}

-- the step of a machine is that of the one that it passes to
pub moves_after : {first second : Machine} (p : Progress) (reader : Taken) (r : Progress) (x y z : Option (List ℕ))
    (was is : ℕ) (result : Result Move Halt)
    → Passes first second p.reader reader x y → Moves second (record p { reader = reader }) r y z was is result
    → Moves first p r x z was is result
moves_after p reader r x y z was is (Ok (Goes written)) passes m = record {
  reply = m.reply;
  shown = m.shown;
  least = m.least;
  most = m.most;
  makes = makes_after (λ rest. goes (state_of r) m.reply rest) passes m.makes;
}
moves_after p reader r x y z was is (Ok (Stops written status)) passes m = record {
  none = m.none;
  makes = makes_after (λ rest. stops (state_of r) written status) passes m.makes;
}
moves_after p reader r x y z was is (Err ReadFault) passes m = (wants_after passes m.0, m.1)
moves_after p reader r x y z was is (Err Memory) passes m = elim m [
  | inl same ↦ inl same
  | inr lacks ↦ inr (record {
    next = lacks.next;
    reply = lacks.reply;
    least = lacks.least;
    most = lacks.most;
    makes = makes_after (λ rest. goes lacks.next lacks.reply rest) passes lacks.makes;
  })
]

-- a machine that stops whatever follows
pub stop_moves : (machine : Machine) (p q : Progress) (x y : Option (List ℕ)) (n : ℕ) (given text : List ℕ)
    (status : Status) (result : Result Move Halt)
    → ReadsBytes p.reader q.reader x y given
    → ((ended : Bool) (rest : List ℕ) → MayFollow q.reader.ended ended rest
    → machine ended (p.reader.kept ++ (given ++ rest)) ≡ stops (state_of q) text status)
    → IsStop text status result → Moves machine p q x y n n result
stop_moves machine p q x y n given text status (Ok (Goes written)) reads stop is = absurd is
stop_moves machine p q x y n given text status (Ok (Stops written ended)) reads stop is = record {
  none = refl;
  makes = record {
    given = given;
    reads = reads;
    step_is = λ e rest follows. stop e rest follows ∙ ap₂ (stops (state_of q)) (sym is.0) (sym is.1);
  };
}
stop_moves machine p q x y n given text status (Err ReadFault) reads stop is = absurd is
stop_moves machine p q x y n given text status (Err Memory) reads stop is = inl refl

-- what was kept and given, and what follows
seam : (kept given front now rest : List ℕ) → kept ++ given ≡ front ++ now
    → kept ++ (given ++ rest) ≡ front ++ (now ++ rest)
seam kept given front now rest moved =
    sym (append_assoc kept given rest) ∙ ap (λ bytes. bytes ++ rest) moved ∙ append_assoc front now rest

-- the state behind what was taken
state_behind : (p : Progress) (reader : Taken) (front rest : List ℕ) → reader.count ≡ p.reader.count + length front
    → took (state_of p) (front ++ rest) rest ≡ state_of (record p { reader = reader })
state_behind p reader front rest counted =
    let e : p.reader.count + (length (front ++ rest) - length rest) ≡ reader.count =
    omega (arith, length-append front rest) in
    λ i. record { limit = limit_in p.session.base; files = p.session.files; taken = e i; good = p.good }

-- a reader from which nothing was taken stands for the same state
state_kept : (p : Progress) (reader : Taken) → reader.count ≡ p.reader.count + 0
    → state_of p ≡ state_of (record p { reader = reader })
state_kept p reader counted =
    let e : p.reader.count ≡ reader.count = omega arith in
    λ i. record { limit = limit_in p.session.base; files = p.session.files; taken = e i; good = p.good }

-- a step that stops in one state stops in an equal one
stops_in : {made : Step} {a b : State} (text : List ℕ) (status : Status) → made ≡ stops a text status → a ≡ b
    → made ≡ stops b text status
stops_in text status is same = is ∙ ap (λ state. stops state text status) same

-- a line and its newline
with_newline : (front rest : List ℕ) → (front ++ 10 ∷ []) ++ rest ≡ front ++ 10 ∷ rest
with_newline front rest = append_assoc front (10 ∷ []) rest

-- a line was found: its command is carried out in the state behind it
line_step : (p : Progress) (reader : Taken) (text rest : List ℕ) (ended : Bool) (input : List ℕ) (taken : List ℕ)
    → input ≡ taken ++ rest → reader.count ≡ p.reader.count + length taken
    → line_at ended (room_left (state_of p)) input ≡ line text rest
    → step ended (state_of p) input
    ≡ on_command ended p.reader.count (state_of (record p { reader = reader })) rest (command_of text)
line_step p reader text rest ended input taken is counted found =
    ap (on_line ended (state_of p) input) found
    ∙ ap (λ state. on_command ended p.reader.count state rest (command_of text))
    (ap (λ bytes. took (state_of p) bytes rest) is ∙ state_behind p reader taken rest counted)

pub line_passes : (p : Progress) (reader : Taken) (x y : Option (List ℕ)) (text : List ℕ)
    → TakesLine p.reader reader x y text → reader.count ≤ MAX_SOURCE_BYTES
    → Passes (at_line (state_of p))
    (at_command p.reader.count (state_of (record p { reader = reader })) (command_of text)) p.reader reader x y
line_passes p reader x y text t limit = elim t.1 [
  | inl whole ↦ record {
    given = whole.given;
    reads = whole.reads;
    same = λ ended rest follows.
        let is = seam p.reader.kept whole.given (text ++ 10 ∷ []) reader.kept rest whole.moved in
        let long = length-append text (10 ∷ []) in
        let counted : reader.count ≡ p.reader.count + length (text ++ 10 ∷ []) = whole.counted in
        let few : length text < room_left (state_of p) = omega arith in
        line_step p reader text (reader.kept ++ rest) ended _ (text ++ 10 ∷ []) is counted
        (ap (line_at ended (room_left (state_of p))) (is ∙ with_newline text (reader.kept ++ rest))
        ∙ line_found ended _ text (reader.kept ++ rest) t.0 few);
  }
  | inr last ↦ record {
    given = last.0.given;
    reads = last.0.reads;
    same = λ ended rest follows.
        let at_end = follows last.3 in
        let none : reader.kept ++ rest ≡ [] = nothing_and_nothing reader.kept rest last.2 at_end.1 in
        let is = seam p.reader.kept last.0.given text reader.kept rest last.0.moved in
        let all : p.reader.kept ++ (last.0.given ++ rest) ≡ text =
        is ∙ ap (λ bytes. text ++ bytes) none ∙ append-nil text in
        let counted : reader.count ≡ p.reader.count + length text = last.0.counted in
        let few : length text ≤ room_left (state_of p) = omega arith in
        line_step p reader text (reader.kept ++ rest) ended _ text is counted
        (ap₂ (λ e bytes. line_at e (room_left (state_of p)) bytes) at_end.0 all ∙ last_found _ text t.0 last.1 few
        ∙ ap (line text) (sym none));
  }
]

-- what a refusal leaves in the reader is what was kept and given
nothing_taken : (kept given now rest : List ℕ) → kept ++ given ≡ [] ++ now → kept ++ (given ++ rest) ≡ now ++ rest
nothing_taken kept given now rest moved = seam kept given [] now rest moved

-- no line could be taken: the session stops, or waits
pub line_refused : (p : Progress) (reader : Taken) (x y : Option (List ℕ)) (n : ℕ) (refusal : TakeRefusal)
    (result : Result Move Halt)
    → Takes p.reader reader x y [] → LineRefused refusal p.reader reader
    → Refuses refusal (IsStop [] (status_of (state_of p)))
    (IsStop (malformed_text p.reader.count) Malformed) result
    → Moves (at_line (state_of p)) p (record p { reader = reader }) x y n n result
line_refused p reader x y n take_.ReadFault result t why is =
    subst (Moves (at_line (state_of p)) p (record p { reader = reader }) x y n n) (sym is) (
      record {
        given = t.given;
        reads = t.reads;
        open_still = why.0;
        step_is =
            ap (λ bytes. step false (state_of p) bytes) t.moved
            ∙ ap (on_line false (state_of p) reader.kept)
            (unfinished_found _ reader.kept
            (let few : length reader.kept ≤ MAX_LINE_BYTES = why.1.1 in omega arith) why.2 why.1.0);
      },
      refl,
    )
line_refused p reader x y n take_.End result t why is =
    stop_moves _ p (record p { reader = reader }) x y n t.given [] _ result t.reads
    (λ ended rest follows.
    let at_end = follows why.1 in
    let none : p.reader.kept ++ (t.given ++ rest) ≡ [] = nothing_taken p.reader.kept t.given reader.kept rest t.moved
    ∙ nothing_and_nothing reader.kept rest why.0 at_end.1 in
    stops_in [] (status_of (state_of p))
    (ap₂ (λ e bytes. step e (state_of p) bytes) at_end.0 none
    ∙ ap (on_line true (state_of p) []) (none_found (room_left (state_of p))))
    (state_kept p reader t.counted))
    is
line_refused p reader x y n take_.TooLong result t why is =
    stop_moves _ p (record p { reader = reader }) x y n t.given _ _ result t.reads
    (λ ended rest follows.
    stops_in (malformed_text p.reader.count) Malformed
    (ap (λ bytes. step ended (state_of p) bytes) (nothing_taken p.reader.kept t.given reader.kept rest t.moved)
    ∙ ap (on_line ended (state_of p) (reader.kept ++ rest)) (long_found ended _ reader.kept rest why.0 why.1 why.2))
    (state_kept p reader t.counted))
    is
line_refused p reader x y n take_.Full result t why is =
    stop_moves _ p (record p { reader = reader }) x y n t.given _ _ result t.reads
    (λ ended rest follows.
    stops_in large_text Size
    (ap (λ bytes. step ended (state_of p) bytes) (nothing_taken p.reader.kept t.given reader.kept rest t.moved)
    ∙ ap (on_line ended (state_of p) (reader.kept ++ rest))
    (full_found ended _ reader.kept rest why.0
    (let few : room_of p.reader ≤ MAX_LINE_BYTES = why.1 in omega arith) why.2))
    (state_kept p reader t.counted))
    is
line_refused p reader x y n take_.Memory result t why is =
    subst (Moves (at_line (state_of p)) p (record p { reader = reader }) x y n n) (sym is) (inl refl)

-- so many bytes were found: they are put in as a file in the state behind them
pub bytes_pass : (p : Progress) (reader : Taken) (x y : Option (List ℕ)) (before : ℕ) (name text : List ℕ)
    → Takes p.reader reader x y text → reader.count ≤ MAX_SOURCE_BYTES
    → Passes (at_bytes before (state_of p) name (length text))
    (at_file (state_of (record p { reader = reader })) name text) p.reader reader x y
bytes_pass p reader x y before name text t limit = record {
  given = t.given;
  reads = t.reads;
  same = λ ended rest follows.
      let is = seam p.reader.kept t.given text reader.kept rest t.moved in
      let counted : reader.count ≡ p.reader.count + length text = t.counted in
      let few : length text ≤ room_left (state_of p) = omega arith in
      ap (at_bytes before (state_of p) name (length text) ended) is
      ∙ ap (on_bytes before (state_of p) name (text ++ (reader.kept ++ rest)))
      (bytes_found ended (room_left (state_of p)) text (reader.kept ++ rest) few)
      ∙ ap (λ state. on_file state name text (reader.kept ++ rest))
      (state_behind p reader text (reader.kept ++ rest) counted);
}

-- the file is put in, or is one too many
pub file_moves : (p : Progress) (session : Holder) (x : Option (List ℕ)) (n : ℕ) (name text : List ℕ)
    (result : Result Move Halt)
    → PutsIn p.session session name text result
    → Moves (at_file (state_of p) name text) p (record p { session = session }) x x n n result
file_moves p session x n name text (Ok (Goes written)) puts = record {
  reply = nothing;
  shown = record { spells = puts.0; justifies = tt };
  least = omega arith;
  most = omega arith;
  makes = record {
    given = [];
    reads = reads_none p.reader x;
    step_is =
        λ ended rest follows. rw puts.1
        (ap (λ s. goes (state_of (record p { session = s })) nothing (p.reader.kept ++ rest)) (sym puts.2));
  };
}
file_moves p session x n name text (Ok (Stops written status)) puts = record {
  none = refl;
  makes = record {
    given = [];
    reads = reads_none p.reader x;
    step_is =
        λ ended rest follows. rw puts.2
        (λ i. stops (state_of (record p { session = sym puts.3 i })) (sym puts.0 i) (sym puts.1 i));
  };
}
file_moves p session x n name text (Err ReadFault) puts = absurd puts
file_moves p session x n name text (Err Memory) puts = inl refl

-- the bytes of a file couldn't be taken
pub bytes_refused : (p : Progress) (reader : Taken) (x y : Option (List ℕ)) (n before : ℕ) (name : List ℕ) (count : ℕ)
    (refusal : TakeRefusal) (result : Result Move Halt)
    → Takes p.reader reader x y [] → BytesRefused refusal count p.reader reader
    → Refuses refusal (IsStop (malformed_text before) Malformed) Never result
    → Moves (at_bytes before (state_of p) name count) p (record p { reader = reader }) x y n n result
bytes_refused p reader x y n before name count take_.ReadFault result t why is =
    subst (Moves (at_bytes before (state_of p) name count) p (record p { reader = reader }) x y n n) (sym is) (
      record {
        given = t.given;
        reads = t.reads;
        open_still = why.0;
        step_is =
            ap (at_bytes before (state_of p) name count false) t.moved
            ∙ ap (on_bytes before (state_of p) name reader.kept) (wanting_found _ count reader.kept why.1 why.2);
      },
      refl,
    )
bytes_refused p reader x y n before name count take_.End result t why is =
    stop_moves _ p (record p { reader = reader }) x y n t.given _ _ result t.reads
    (λ ended rest follows.
    let at_end = follows why.0 in
    let all : p.reader.kept ++ (t.given ++ rest)
    ≡ reader.kept =
    nothing_taken p.reader.kept t.given reader.kept rest t.moved ∙ ap (λ bytes. reader.kept ++ bytes) at_end.1
    ∙ append-nil reader.kept in
    stops_in (malformed_text before) Malformed
    (ap₂ (at_bytes before (state_of p) name count) at_end.0 all
    ∙ ap (on_bytes before (state_of p) name reader.kept) (cut_found _ count reader.kept why.1 why.2))
    (state_kept p reader t.counted))
    is
bytes_refused p reader x y n before name count take_.TooLong result t why is = absurd why
bytes_refused p reader x y n before name count take_.Full result t why is =
    stop_moves _ p (record p { reader = reader }) x y n t.given _ _ result t.reads
    (λ ended rest follows.
    stops_in large_text Size
    (ap (at_bytes before (state_of p) name count ended) (nothing_taken p.reader.kept t.given reader.kept rest t.moved)
    ∙ ap (on_bytes before (state_of p) name (reader.kept ++ rest))
    (too_many_found ended _ count reader.kept rest why.0 why.1))
    (state_kept p reader t.counted))
    is
bytes_refused p reader x y n before name count take_.Memory result t why is =
    subst (Moves (at_bytes before (state_of p) name count) p (record p { reader = reader }) x y n n) (sym is)
    (inl refl)
