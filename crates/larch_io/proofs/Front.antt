-- Steps of reads, and what is taken from the front of the bytes that a reader keeps.
use Rattle.std.proofs.Common.{◌≡◌, ◌≢◌, ◌≤◌, ◌<◌, ◌+◌, ◌∙◌, ◌⊎◌, inl, inr, ℕ, Bool, true, false, List, ◌∷◌, [], ◌++◌}
use Rattle.std.proofs.Common.{All, length, take, drop, Option, refl, sym, ap, subst, arith, append_assoc, append-nil}
use Rattle.std.proofs.Common.{take-append-drop, length-take, length-drop, length-append, add-zero}
use Rattle.std.proofs.lemmas.List.{take-take, take_at, take_all, drop_all, drop-append-le}
use Rattle.std.proofs.lemmas.Bool.{false≢true}
use Rattle.std.proofs.lemmas.List.Elements.{All-take}
use Rattle.std.proofs.KnownBytes.{Consumes-nil, Consumes-trans, Consumes-kept}
use Rattle.std.specs.Io.{StartsWith, appended_bytes}
use Rattle.std.specs.Io.KnownBytes.{Consumes, Keeps, IsAtEnd}
use Rattle.larch_io.specs.Reader.{Taken, ReadsBytes, Takes}
use Rattle.larch_io.specs.Take.{HasNoNewline, IsLine, LineStands, TakesLine}

-- what no byte of a front is, no byte of a shorter front is
pub none_in_front : (bytes : List ℕ) (few many : ℕ) → few ≤ many → HasNoNewline (take many bytes)
    → HasNoNewline (take few bytes)
none_in_front bytes few many le none =
    subst (All (λ byte. byte ≢ 10)) (take-take few many bytes le)
    (All-take (λ byte. byte ≢ 10) few (take many bytes) none)

-- nothing was read and nothing taken
pub takes_none : (reader : Taken) (left : Option (List ℕ)) → Takes reader reader left left []
takes_none reader left = record {
  given = [];
  reads = record { gave = Consumes-nil left; quiet = λ ended. (refl, refl, ended); ends = λ ended. inl ended };
  moved = append-nil reader.kept;
  counted = sym (add-zero reader.count);
}

-- the ends of two reads, one after the other
ends_by_either : (first second : Bool) (between after : Option (List ℕ)) → (first ≡ true) ⊎ IsAtEnd between
    → after ≡ between → (first ≡ true) ⊎ IsAtEnd after
ends_by_either first second between after (inl ended) same = inl ended
ends_by_either first second between after (inr end) same = inr (subst IsAtEnd (sym same) end)

either_ends : (old mid : Taken) (between after : Option (List ℕ)) (given : List ℕ)
    → (mid.ended ≡ true → (old.ended ≡ true) ⊎ IsAtEnd between)
    → (mid.ended ≡ true → (given ≡ []) × (after ≡ between)) → (mid.ended ≡ true) ⊎ IsAtEnd after
    → (old.ended ≡ true) ⊎ IsAtEnd after
either_ends old mid between after given first quiet (inl ended) =
    ends_by_either old.ended mid.ended between after (first ended) (quiet ended).1
either_ends old mid between after given first quiet (inr end) = inr end

reads_more : (old mid new : Taken) (before between after : Option (List ℕ)) (given more : List ℕ)
    → ReadsBytes old mid before between given → ReadsBytes mid new between after more
    → ReadsBytes old new before after (given ++ more)
reads_more old mid new before between after given more first second = record {
  gave = Consumes-trans before between after given more first.gave second.gave;
  quiet = λ ended.
      let early = first.quiet ended in
      let late = second.quiet early.2 in
      (ap (λ xs. xs ++ more) early.0 ∙ late.0, late.1 ∙ early.1, late.2);
  ends =
      λ ended. either_ends old mid between after more first.ends (λ e. let late = second.quiet e in (late.0, late.1))
      (second.ends ended);
}

-- what was read is kept, and more behind it
pub takes_none_more : (old mid new : Taken) (before between after : Option (List ℕ)) → Takes old mid before between []
    → Takes mid new between after [] → Takes old new before after []
takes_none_more old mid new before between after first second = record {
  given = first.given ++ second.given;
  reads = reads_more old mid new before between after first.given second.given first.reads second.reads;
  moved =
      sym (append_assoc old.kept first.given second.given) ∙ ap (λ xs. xs ++ second.given) first.moved ∙ second.moved;
  counted = second.counted ∙ ap (λ n. n + 0) (first.counted ∙ add-zero old.count);
}

-- what is kept is taken from its front
pub takes_kept : (old mid new : Taken) (before after : Option (List ℕ)) (bytes : List ℕ) → Takes old mid before after []
    → mid.kept ≡ bytes ++ new.kept
    → new.count ≡ mid.count + length bytes → new.ended ≡ mid.ended → Takes old new before after bytes
takes_kept old mid new before after bytes none front more ended = record {
  given = none.given;
  reads = record {
    gave = none.reads.gave;
    quiet = λ e. let q = none.reads.quiet e in (q.0, q.1, ended ∙ q.2);
    ends = λ e. none.reads.ends (sym ended ∙ e);
  };
  moved = none.moved ∙ front;
  counted = more ∙ ap (λ n. n + length bytes) (none.counted ∙ add-zero old.count);
}

-- a reader that looks the same afterwards, whose source gave nothing
pub takes_nothing : (old new : Taken) (before after : Option (List ℕ)) → new ≡ old → after ≡ before
    → Takes old new before after []
takes_nothing old new before after same left =
    subst (λ reader. Takes old reader before after []) (sym same)
    (subst (λ x. Takes old old before x []) (sym left) (takes_none old before))

-- a read that is refused gives nothing
pub takes_refused : (old new : Taken) (before after : Option (List ℕ)) → new.kept ≡ old.kept → new.count ≡ old.count
    → old.ended ≡ false → new.ended ≡ false → Keeps before after → Takes old new before after []
takes_refused old new before after kept count early late same = record {
  given = [];
  reads = record {
    gave = Consumes-kept before before after [] (Consumes-nil before) same;
    quiet = λ e. absurd (false≢true (sym early ∙ e));
    ends = λ e. absurd (false≢true (sym late ∙ e));
  };
  moved = append-nil old.kept ∙ sym kept;
  counted = count ∙ sym (add-zero old.count);
}

-- what begins with a list is the list and what stands behind it
as_appended : (old new : List ℕ) → StartsWith new old → new ≡ old ++ drop (length old) new
as_appended old new e = sym (take-append-drop (length old) new) ∙ ap (λ front. front ++ drop (length old) new) e

-- what one read gives is kept behind what is kept already
pub takes_read : (old new : Taken) (before after : Option (List ℕ)) (start : ℕ) (xs ys : List ℕ)
    → old.kept ≡ drop start xs → new.kept ≡ drop start ys → start ≤ length xs → StartsWith ys xs
    → Consumes before after (appended_bytes xs ys) → old.ended ≡ false → (new.ended ≡ true → IsAtEnd after)
    → new.count ≡ old.count → Takes old new before after []
takes_read old new before after start xs ys kept keeps within front gave early late count = record {
  given = drop (length xs) ys;
  reads = record { gave = gave; quiet = λ e. absurd (false≢true (sym early ∙ e)); ends = λ e. inr (late e) };
  moved =
      ap (λ front. front ++ drop (length xs) ys) kept ∙ sym (drop-append-le start xs (drop (length xs) ys) within)
      ∙ ap (drop start) (sym (as_appended xs ys front)) ∙ sym keeps;
  counted = count ∙ sym (add-zero old.count);
}

-- and begins with what is kept already
pub front_kept : (start : ℕ) (kept xs ys : List ℕ) → kept ≡ drop start xs → start ≤ length xs → StartsWith ys xs
    → StartsWith (drop start ys) kept
front_kept start kept xs ys same within front =
    let grown : drop start ys ≡ kept ++ drop (length xs) ys =
    ap (drop start) (as_appended xs ys front) ∙ drop-append-le start xs (drop (length xs) ys) within
    ∙ ap (λ front. front ++ drop (length xs) ys) (sym same) in
    ap (take (length kept)) grown ∙ take_at kept (drop (length xs) ys) (length kept) refl

-- a line with its newline is taken from the front
takes_ended_line : (old mid new : Taken) (before after : Option (List ℕ)) (given ending : ℕ) (line : List ℕ)
    → Takes old mid before after [] → line ≡ take given mid.kept
    → new.kept ≡ drop (given + ending) mid.kept → new.count ≡ mid.count + (given + ending) → new.ended ≡ mid.ended
    → ending ≡ 1 → mid.kept ≡ take given mid.kept ++ 10 ∷ drop (given + 1) mid.kept
    → Takes old new before after (line ++ 10 ∷ [])
takes_ended_line old mid new before after given ending line none is rest more ended one stands =
    let behind : new.kept ≡ drop (given + 1) mid.kept = rest ∙ ap (λ n. drop (given + n) mid.kept) one in
    let split : mid.kept ≡ line ++ 10 ∷ new.kept =
    stands ∙ ap (λ xs. xs ++ 10 ∷ drop (given + 1) mid.kept) (sym is) ∙ ap (λ xs. line ++ 10 ∷ xs) (sym behind) in
    let long : length line ≡ given = omega (
      arith,
      ap length is,
      length-take given mid.kept,
      ap length stands,
      length-append (take given mid.kept) (10 ∷ drop (given + 1) mid.kept),
      length-drop (given + 1) mid.kept,
    ) in
    takes_kept old mid new before after (line ++ 10 ∷ []) none (split ∙ sym (append_assoc line (10 ∷ []) new.kept))
    (omega (arith, length-append line (10 ∷ []))) ended

-- the last line lacks its newline
takes_last_line : (old mid new : Taken) (before after : Option (List ℕ)) (given ending : ℕ) (line : List ℕ)
    → Takes old mid before after [] → line ≡ take given mid.kept
    → new.kept ≡ drop (given + ending) mid.kept → new.count ≡ mid.count + (given + ending) → new.ended ≡ mid.ended
    → ending ≡ 0 → 0 < given → given ≡ length mid.kept → mid.ended ≡ true
    → Takes old new before after line × (0 < length line) × (new.kept ≡ []) × (new.ended ≡ true)
takes_last_line old mid new before after given ending line none is rest more ended zero some all last =
    let whole : line ≡ mid.kept = is ∙ take_all given mid.kept (omega arith) in
    let nothing : new.kept ≡ [] = rest ∙ drop_all (given + ending) mid.kept (omega arith) in
    let long : length line ≡ length mid.kept = ap length whole in (
      takes_kept old mid new before after line none
          (sym whole ∙ sym (append-nil line) ∙ ap (λ xs. line ++ xs) (sym nothing)) (omega arith) ended,
      omega arith,
      nothing,
      ended ∙ last,
    )

pub takes_line : (old mid new : Taken) (before after : Option (List ℕ)) (given ending : ℕ) (line : List ℕ)
    → Takes old mid before after [] → LineStands mid.kept mid.ended given ending → line ≡ take given mid.kept
    → new.kept ≡ drop (given + ending) mid.kept → new.count ≡ mid.count + (given + ending) → new.ended ≡ mid.ended
    → TakesLine old new before after line
takes_line old mid new before after given ending line none stands is rest more ended = (
  subst IsLine (sym is) stands.0,
  elim stands.1 [
    | inl w ↦ inl (takes_ended_line old mid new before after given ending line none is rest more ended w.0 w.1)
    | inr w ↦ inr (takes_last_line old mid new before after given ending line none is rest more ended w.0 w.1 w.2 w.3)
  ],
)
