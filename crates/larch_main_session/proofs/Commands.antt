-- What the commands of lines do, as steps.
use Rattle.std.proofs.Common.{◌≡◌, ℕ, ◌+◌, ◌<◌, ◌≤◌, inr, Bool, true, false, cond, List, [], ◌++◌}
use Rattle.std.proofs.Common.{Option, Some, None, Result, Ok, Err, IfOk, IfErr, OnOk, nat_lt, refl, sym, ap}
use Rattle.std.proofs.Common.{subst, arith, ◌∙◌}
use Rattle.std.proofs.lemmas.Bool.Decides.{nat_tests}
use Rattle.larch_base.specs.declared.label.Label.{Label}
use Rattle.larch_base.specs.declared.limits.TheConstants.{MAX_FILE_BYTES}
use Rattle.larch_io.specs.Reader.{ReadsBytes, Taken}
use Rattle.larch_main_status.specs.TraitsFiles.{drop_file}
use Rattle.larch_main_session.specs.declared.progress.Progress.{Progress}
use Rattle.larch_main_session.specs.declared.progress.Move.{Move}
use Rattle.larch_main_session.specs.declared.progress.Move.TheVariants.{Goes, Stops}
use Rattle.larch_main_status.specs.declared.halt.Halt.{Halt}
use Rattle.larch_main_status.specs.declared.halt.Halt.TheVariants.{ReadFault, Memory}
use Rattle.larch_main_session.specs.declared.command.Command.{Command}
use Rattle.larch_main_session.specs.declared.command.Command.TheVariants.{Derive, Drop, Put, Quit, Report, Skip}
use Rattle.larch_main_status.specs.declared.status.Status.TheVariants.{Malformed, Size}
use Rattle.larch_prove_meaning.specs.Redo.{redo}
use Rattle.larch_report.specs.Counts.{counts_of, is_good}
use Rattle.larch_session.specs.SessionSourcesJustified.{IsJustifiedReport}
use Rattle.larch_session.specs.declared.session.Session.{Session as Holder}
use Rattle.larch_session_derive_meaning.specs.SessionMeaningFiles.{report_of}
use Rattle.larch_session_derive_meaning.specs.SessionMeaningRedone.{replayed_on}
use Rattle.larch_main_session.specs.Replies.{Reply, nothing, reported, derived, Justifies, Spells, steps_of}
use Rattle.larch_main_session.specs.Session.{goes, stops, status_of, malformed_text, large_text}
use Rattle.larch_main_session.specs.Progress.{state_of, at_command, at_bytes, IsAnswer, IsStop, Moves}
use Rattle.larch_main_session.proofs.Derived.{derivation_shows}
use Rattle.larch_main_session.proofs.Steps.{reads_none, stop_moves}
use Rattle.larch_session.specs.SessionKeptKept.{limit_in}

-- the line is no command
pub none_moves : (p : Progress) (x : Option (List ℕ)) (n before : ℕ) (result : Result Move Halt)
    → IsStop (malformed_text before) Malformed result
    → Moves (at_command before (state_of p) None) p p x x n n result
none_moves p x n before result is =
    stop_moves (at_command before (state_of p) None) p p x x n [] (malformed_text before) Malformed result
    (reads_none p.reader x) (λ ended rest follows. refl) is

-- the line is empty
pub skip_moves : (p : Progress) (x : Option (List ℕ)) (n before : ℕ) (written : List ℕ) → written ≡ []
    → Moves (at_command before (state_of p) (Some Skip)) p p x x n n (Ok (Goes written))
skip_moves p x n before written is = record {
  reply = nothing;
  shown = record { spells = is; justifies = tt };
  least = omega arith;
  most = omega arith;
  makes = record { given = []; reads = reads_none p.reader x; step_is = λ ended rest follows. refl };
}

-- a file was taken out
pub drop_moves : (p : Progress) (session : Holder) (x : Option (List ℕ)) (n before : ℕ) (name written : List ℕ)
    → session ≡ record p.session { files = drop_file p.session.files name } → written ≡ []
    → Moves (at_command before (state_of p) (Some (Drop name))) p (record p { session = session }) x x n n
    (Ok (Goes written))
drop_moves p session x n before name written is nothing_said = record {
  reply = nothing;
  shown = record { spells = nothing_said; justifies = tt };
  least = omega arith;
  most = omega arith;
  makes = record {
    given = [];
    reads = reads_none p.reader x;
    step_is = λ ended rest follows.
        ap (λ s. goes (state_of (record p { session = s })) nothing (p.reader.kept ++ rest)) (sym is);
  };
}

-- `quit` ends the session
pub quit_moves : (p : Progress) (x : Option (List ℕ)) (n before : ℕ) (command : Option Command) (move : Move)
    → command ≡ Some Quit
    → move ≡ Stops [] (status_of (state_of p)) → Moves (at_command before (state_of p) command) p p x x n n (Ok move)
quit_moves p x n before command move quits is =
    subst (λ asked. Moves (at_command before (state_of p) asked) p p x x n n (Ok move)) (sym quits)
    (subst (λ made. Moves (at_command before (state_of p) (Some Quit)) p p x x n n (Ok made)) (sym is)
    (record {
      none = refl;
      makes = record { given = []; reads = reads_none p.reader x; step_is = λ ended rest follows. refl };
    }))

-- `report` or `derive` was answered, or memory ran out in it: so many steps were taken, and of the state only whether
-- the last report was good may be another
module _ (p q : Progress) (x : Option (List ℕ)) (command : Command) (before was is : ℕ) (reply : Reply) (good : Bool)
    (command_is : (ended : Bool) (rest : List ℕ) → at_command before (state_of p) (Some command) ended rest
    ≡ goes (record (state_of p) { good = good }) reply rest)
    (reader : q.reader ≡ p.reader) (files : q.session.files ≡ p.session.files)
    (limit : limit_in q.session.base ≡ limit_in p.session.base)
    (least : was ≤ is) (most : is ≤ was + steps_of reply) where
  reads_same : ReadsBytes p.reader q.reader x x []
  reads_same = subst (λ r. ReadsBytes p.reader r x x []) (sym reader) (reads_none p.reader x)

  pub answer_moves : (result : Result Move Halt) → IfOk result (IsAnswer reply)
      → ((written : List ℕ) → result ≡ Ok (Goes written) → Spells reply written → Justifies reply written)
      → OnOk result (q.good ≡ good) → IfErr result (λ halt. halt ≡ Memory)
      → Moves (at_command before (state_of p) (Some command)) p q x x was is result
  answer_moves (Ok (Goes written)) told justifies goodness memory = record {
    reply = reply;
    shown = record { spells = told; justifies = justifies written refl told };
    least = least;
    most = most;
    makes = record {
      given = [];
      reads = reads_same;
      step_is = λ ended rest follows.
          let same : goes (record (state_of p) { good = good }) reply (p.reader.kept ++ rest)
          ≡ goes (state_of q) reply (q.reader.kept ++ rest) = λ i.
          goes (record {
            limit = sym limit i;
            files = sym files i;
            taken = (sym reader i).count;
            good = sym goodness i;
          }) reply ((sym reader i).kept ++ rest) in
          command_is ended (p.reader.kept ++ rest) ∙ same;
    };
  }
  answer_moves (Ok (Stops text status)) told justifies goodness memory = absurd told
  answer_moves (Err ReadFault) told justifies goodness memory = cc
  answer_moves (Err Memory) told justifies goodness memory = inr (record {
    next = record (state_of p) { good = good };
    reply = reply;
    least = least;
    most = most;
    makes = record {
      given = [];
      reads = reads_same;
      step_is = λ ended rest follows.
          command_is ended (p.reader.kept ++ rest)
          ∙ ap (λ (r : Taken). goes (record (state_of p) { good = good }) reply (r.kept ++ rest)) (sym reader);
    };
  })

-- in a report each duty that it calls proved is derivable
pub report_moves : (p q : Progress) (x : Option (List ℕ)) (before was is : ℕ)
    → q.reader ≡ p.reader → q.session.files ≡ p.session.files → limit_in q.session.base ≡ limit_in p.session.base
    → was ≤ is → is ≤ was + redo [] (replayed_on (limit_in p.session.base) p.session.files)
    → (result : Result Move Halt) → IfOk result (IsAnswer (reported (limit_in p.session.base) p.session.files))
    → OnOk result (q.good ≡ is_good (counts_of (report_of (limit_in p.session.base) p.session.files)))
    → OnOk result (IsJustifiedReport (limit_in p.session.base) p.session.files) → IfErr result (λ halt. halt ≡ Memory)
    → Moves (at_command before (state_of p) (Some Report)) p q x x was is result
report_moves p q x before was is reader files limit least most result told good proved memory =
    answer_moves p q x Report before was is (reported (limit_in p.session.base) p.session.files)
    (is_good (counts_of (report_of (limit_in p.session.base) p.session.files))) (λ ended rest. refl) reader files limit
    least most result told
    (λ written ok spells. subst (λ r. OnOk r (IsJustifiedReport (limit_in p.session.base) p.session.files)) ok proved)
    good memory

-- a derivation shows that its duty is derivable
pub derive_moves : (p q : Progress) (x : Option (List ℕ)) (before was is : ℕ) (stem : List ℕ) (label : Label)
    → q.reader ≡ p.reader → q.session.files ≡ p.session.files → limit_in q.session.base ≡ limit_in p.session.base
    → was ≤ is → is ≤ was + redo [] (replayed_on (limit_in p.session.base) p.session.files)
    → (result : Result Move Halt)
    → IfOk result (IsAnswer (derived (limit_in p.session.base) p.session.files stem label)) → q.good ≡ p.good
    → IfErr result (λ halt. halt ≡ Memory)
    → Moves (at_command before (state_of p) (Some (Derive stem label))) p q x x was is result
derive_moves p q x before was is stem label reader files limit least most result told good memory =
    answer_moves p q x (Derive stem label) before was is
    (derived (limit_in p.session.base) p.session.files stem label) p.good
    (λ ended rest. refl) reader files limit least most result told
    (λ written ok spells. derivation_shows (limit_in p.session.base) p.session.files stem label written spells)
    (on_ok result good) memory
  where
    on_ok : {A : Type 0} (made : Result Move Halt) → A → OnOk made A
    on_ok (Ok move) a = a
    on_ok (Err halt) a = tt

-- a length above the limit
pub put_too_large : (p : Progress) (x : Option (List ℕ)) (n before : ℕ) (name : List ℕ) (count : ℕ)
    (result : Result Move Halt)
    → MAX_FILE_BYTES < count → IsStop large_text Size result
    → Moves (at_command before (state_of p) (Some (Put name count))) p p x x n n result
put_too_large p x n before name count result large is =
    let test : nat_lt MAX_FILE_BYTES count ≡ true = grind (arith, nat_tests) in
    stop_moves _ p p x x n [] large_text Size result (reads_none p.reader x)
    (λ ended rest follows. ap (λ larger.
    cond larger (stops (state_of p) large_text Size)
    (at_bytes before (state_of p) name count ended (p.reader.kept ++ rest))) test)
    is

-- a length within it
pub put_passes : (p q : Progress) (x y : Option (List ℕ)) (n before : ℕ) (name : List ℕ) (count : ℕ)
    (result : Result Move Halt)
    → count ≤ MAX_FILE_BYTES → Moves (at_bytes before (state_of p) name count) p q x y n n result
    → Moves (at_command before (state_of p) (Some (Put name count))) p q x y n n result
put_passes p q x y n before name count result within moves =
    let test : nat_lt MAX_FILE_BYTES count ≡ false = grind (arith, nat_tests) in
    subst
    (λ large. Moves (λ ended input.
    cond large (stops (state_of p) large_text Size) (at_bytes before (state_of p) name count ended input)) p q x y n n
    result) (sym test) moves
