-- Marks that are taken, in a draft and in the proof that it is of.
use Rattle.std.specs.Prelude.{◌≡◌, ◌<◌, Bool, true, false, not, List, [], ◌∷◌, drop, length, if◌then◌else◌, None}
use Rattle.std.specs.Prelude.{Option, Some, Ok, Err, Vec, refl, slice_get, vec_len}
use Rattle.std.specs.Option.{option_eq}
use mathlib.Core.Bool.{beq}
use Rattle.std.specs.declared.alloc.Global.{Global}
use Rattle.std.proofs.Common.{ap, arith, subst, sym, true≢false, ◌∙◌}
use Rattle.larch_base.proofs.Options.{some_inj}
use Rattle.larch_base.specs.declared.code.Code.TheVariants as refusal
use Rattle.larch_prove_resuming.proofs.ProveDraftAlike.{alike_same}
use Rattle.larch_prove_resuming.specs.ProveDraftDraft.{Counts, IsProofBy, IsProofOf, Leads}
use Rattle.larch_prove_resuming.specs.ProveDraftDraftDraft.{Draft}
use Rattle.larch_prove_meaning.specs.Levels.{Proof, unless}
use Rattle.larch_prove_meaning.specs.Replays.{mark_command, mark_taken}
use Rattle.larch_prove_meaning.specs.Steps.{check_boxes}
use Rattle.larch_script_commands.specs.Same.{same_truth}
use Rattle.larch_store.specs.Numbered.{Numbered}
use Rattle.larch_term.specs.declared.statement.Statement.{Statement}
use Rattle.larch_term.specs.declared.statement.Theory.{Theory}

-- ---- what a draft and its proof have in common

counts_by : (t : Theory) (s : Statement) (store : List Numbered) (d : Draft) (p : Proof) (b : Bool)
    → IsProofBy b t s store d p → Counts d p
counts_by t s store d p true w = w.counts
counts_by t s store d p false w = w.1.1.counts

pub counts_of : (t : Theory) (s : Statement) (store : List Numbered) (d : Draft) (p : Proof)
    → IsProofOf t s store d p → Counts d p
counts_of t s store d p w = counts_by t s store d p p.is_proved w

end_by : (t : Theory) (s : Statement) (store : List Numbered) (d : Draft) (p : Proof) (b : Bool)
    → IsProofBy b t s store d p → p.is_proved ≡ d.is_proved
end_by t s store d p true w = w.proved.1 ∙ sym w.proved.0
end_by t s store d p false w = w.1.1.undone.1 ∙ sym w.1.1.undone.0

-- both are done, or neither is
pub end_of : (t : Theory) (s : Statement) (store : List Numbered) (d : Draft) (p : Proof)
    → IsProofOf t s store d p → p.is_proved ≡ d.is_proved
end_of t s store d p w = end_by t s store d p p.is_proved w

-- ---- other marks wait

module _ (t : Theory) (s : Statement) (store : List Numbered) (d : Draft) (p : Proof) (c e : Bool) (v : Vec Bool Global)
    (ws : List Bool) (same : c ≡ e) (waits : v.items ≡ ws) where
  marked_by : (b : Bool) → IsProofBy b t s store d p
      → IsProofBy b t s store (record d { checking = c; waiting = v }) (record p { checking = e; waiting = ws })
  marked_by true w = record {
    counts = (same, (waits, w.counts.1.1));
    proved = w.proved;
    finished = w.finished;
  }
  marked_by false w = (
    w.0,
    (
      w.1.0,
      record {
        counts = (same, (waits, w.1.1.counts.1.1));
        undone = w.1.1.undone;
        current = w.1.1.current;
        level_is = w.1.1.level_is;
        idle = w.1.1.idle;
        ready = w.1.1.ready;
        stored = w.1.1.stored;
        below = w.1.1.below;
        holds = w.1.1.holds;
      },
    ),
  )

  pub marked_of : IsProofOf t s store d p
      → IsProofOf t s store (record d { checking = c; waiting = v }) (record p { checking = e; waiting = ws })
  marked_of w = marked_by p.is_proved w

-- ---- a mark is taken

-- where boxes aren't checked, it does nothing
pub unchecked_taken : (t : Theory) (s : Statement) (store : List Numbered) (d : Draft) (p : Proof) (b : Bool)
    → d.checking ≡ false → IsProofOf t s store d p → Leads t s store d p None (mark_command b p)
unchecked_taken t s store d p b off w =
    let e : p.checking ≡ false = sym (counts_of t s store d p w).0 ∙ off in (
      p,
      (ap (λ c. elim c [ true ↦ mark_taken b p.waiting p | false ↦ Ok p ]) e, (alike_same p, w)),
    )

-- where they are, it is the next one that waits
by_waiting : (b : Bool) (p : Proof) → p.checking ≡ true → mark_command b p ≡ mark_taken b p.waiting p
by_waiting b p e = ap (λ c. elim c [ true ↦ mark_taken b p.waiting p | false ↦ Ok p ]) e

itself : (b : Bool) → same_truth b b ≡ true
itself true = refl
itself false = refl

other : (a b : Bool) → (a ≡ b → ⊥) → same_truth a b ≡ false
other true true n = absurd (n refl)
other true false n = refl
other false true n = refl
other false false n = absurd (n refl)

first_taken : (b : Bool) (ws : List Bool) (p : Proof) → slice_get ws 0 ≡ Some b
    → mark_taken b ws p ≡ Ok (record p { waiting = drop 1 ws })
first_taken b [] p e = absurd (cc)
first_taken b (first ∷ others) p e =
    ap (λ x. unless refusal.Mark (same_truth x b) (Ok (record p { waiting = others }))) (some_inj e)
    ∙ ap (λ x. unless refusal.Mark x (Ok (record p { waiting = others }))) (itself b)

first_refused : (b : Bool) (ws : List Bool) (p : Proof) → (slice_get ws 0 ≡ Some b → ⊥)
    → mark_taken b ws p ≡ Err refusal.Mark
first_refused b [] p n = refl
first_refused b (first ∷ others) p n =
    ap (λ x. unless refusal.Mark x (Ok (record p { waiting = others }))) (other first b (λ e. n (ap Some e)))

pub mark_is_taken : (t : Theory) (s : Statement) (store : List Numbered) (d : Draft) (v : Vec Bool Global) (p : Proof)
    (b : Bool) → d.checking ≡ true → slice_get d.waiting.items 0 ≡ Some b → v.items ≡ drop 1 d.waiting.items
    → IsProofOf t s store d p → Leads t s store (record d { waiting = v }) p None (mark_command b p)
mark_is_taken t s store d v p b on next left w =
    let n = counts_of t s store d p w in
    let ws = drop 1 p.waiting in (
      record p { waiting = ws },
      (
        by_waiting b p (sym n.0 ∙ on)
            ∙ first_taken b p.waiting p (ap (λ xs. slice_get xs 0) (sym n.1.0) ∙ next),
        (
          record {
            theory = refl;
            lemmas = refl;
            scope = refl;
            constants = refl;
            ranks = refl;
            limit = refl;
            commands = refl;
          },
          marked_of t s store d p d.checking p.checking v ws n.0 (left ∙ ap (drop 1) n.1.0) w,
        ),
      ),
    )

pub mark_is_refused : (t : Theory) (s : Statement) (store : List Numbered) (d : Draft) (p : Proof) (b : Bool)
    → d.checking ≡ true → (slice_get d.waiting.items 0 ≡ Some b → ⊥) → IsProofOf t s store d p
    → mark_command b p ≡ Err refusal.Mark
mark_is_refused t s store d p b on other w =
    let n = counts_of t s store d p w in
    by_waiting b p (sym n.0 ∙ on)
    ∙ first_refused b p.waiting p (λ e. other (ap (λ xs. slice_get xs 0) n.1.0 ∙ e))

-- the test of the code, whether the next mark is this one
itself_again : (b : Bool) → not (beq b b) ≡ false
itself_again true = refl
itself_again false = refl

pub not_next : (next : Option Bool) (b r : Bool) → r ≡ not (option_eq beq next (Some b)) → r ≡ true → next ≡ Some b → ⊥
not_next next b r e t h =
    true≢false (sym t ∙ (subst (λ m. r ≡ not (option_eq beq m (Some b))) h e ∙ itself_again b))

same_mark : (a b r : Bool) → r ≡ not (beq a b) → r ≡ false → a ≡ b
same_mark true true r e f = refl
same_mark true false r e f = absurd (true≢false (sym e ∙ f))
same_mark false true r e f = absurd (true≢false (sym e ∙ f))
same_mark false false r e f = refl

pub is_next : (next : Option Bool) (b r : Bool) → r ≡ not (option_eq beq next (Some b)) → r ≡ false → next ≡ Some b
is_next None b r e f = absurd (true≢false (sym e ∙ f))
is_next (Some a) b r e f = ap (λ x. Some x) (same_mark a b r e f)

some_first : (ws : List Bool) (b : Bool) → slice_get ws 0 ≡ Some b → 0 < length ws
some_first [] b e = absurd (cc)
some_first (w ∷ ws) b e = omega arith

pub one_waits : (v : Vec Bool Global) (b : Bool) → slice_get v.items 0 ≡ Some b → 0 < vec_len v
one_waits v b e = subst (λ n. 0 < n) (sym v.ok.0) (some_first v.items b e)

-- ---- boxes are checked from now on, or aren't

pub checked_on : (t : Theory) (s : Statement) (store : List Numbered) (d : Draft) (p : Proof) (on : Bool) → on ≡ true
    → IsProofOf t s store d p → IsProofOf t s store (record d { checking = on }) (check_boxes on p)
checked_on t s store d p on e w =
    marked_of t s store d p on on d.waiting (if on then p.waiting else []) refl
    ((counts_of t s store d p w).1.0 ∙ sym (ap (λ x. if x then p.waiting else []) e)) w

pub checked_off : (t : Theory) (s : Statement) (store : List Numbered) (d : Draft) (v : Vec Bool Global) (p : Proof)
    (on : Bool) → on ≡ false → v.items ≡ [] → IsProofOf t s store d p
    → IsProofOf t s store (record d { checking = on; waiting = v }) (check_boxes on p)
checked_off t s store d v p on e h w =
    marked_of t s store d p on on v (if on then p.waiting else []) refl
    (h ∙ sym (ap (λ x. if x then p.waiting else []) e)) w
