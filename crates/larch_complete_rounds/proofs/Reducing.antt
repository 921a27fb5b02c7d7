-- Both sides of an equation in normal form.
use Rattle.std.specs.Prelude.{◌≡◌, ◌-◌, ◌<◌, ◌≤◌, true, nat_lt, ℕ, suc, List, Ok, refl}
use Rattle.std.proofs.Common.{inl, inr, ap, ap₂, arith, sym, subst, ◌∙◌}
use Rattle.std.proofs.lemmas.Bool.Decides.{leb_tells}
use Rattle.larch_base.specs.declared.limits.TheConstants.{MAX_TERM_NODES}
use Rattle.larch_complete_meaning.specs.Rounds.{normal_sides}
use Rattle.larch_complete_meaning.specs.Steps.{unless_event}
use Rattle.larch_complete_rounds.specs.Halt.{Tells, from_rewriting}
use Rattle.larch_complete_rounds.specs.Ready.{IsReady}
use Rattle.larch_complete_rounds.specs.declared.rewriter.Rewriter.{Rewriter}
use Rattle.larch_derive.specs.Predicates.{Extends}
use Rattle.larch_rewrite.specs.Refusal.{IsMade, TellsEvent, from_store}
use Rattle.larch_rewrite.specs.declared.refusal.RewriteRefusal.{RewriteRefusal}
use Rattle.larch_rewrite.specs.declared.refusal.RewriteRefusal.TheVariants.{Limit, TooLarge, Memory}
use Rattle.larch_rewrite.specs.RuleSet.{Serves}
use Rattle.larch_rewrite.proofs.RuleSets.{serves_later}
use Rattle.larch_rewrite_law.proofs.Turns.{begins_large}
use Rattle.larch_rewrite_meaning.specs.NormalForm.{normal}
use Rattle.larch_rewrite_meaning.specs.Sides.{Sides}
use Rattle.larch_rewrite_meaning.specs.Work.{Made, then_work}
use Rattle.larch_store.proofs.Growth.{grows_refl}
use Rattle.larch_store.specs.Refusal.{MayRefuse}
use Rattle.larch_store.specs.declared.refusal.StoreRefusal.{StoreRefusal}
use Rattle.larch_store.specs.declared.refusal.StoreRefusal.TheVariants.{TooLarge as store_too_large}
use Rattle.larch_store.specs.declared.refusal.StoreRefusal.TheVariants.{Memory as store_memory}
use Rattle.larch_term.specs.Tree.{Tree, nodes}

less_told : (m n : ℕ) → m < n → nat_lt m n ≡ true
less_told m n h = elim (leb_tells (suc m) n) [
  | inl k ↦ k.0
  | inr k ↦ let l = k.1 in absurd (omega (arith, h, l))
]

-- a term that a store doesn't take has no normal form
pub start_tells : (rules : List Sides) (t : Tree) (b : ℕ) (given : StoreRefusal) → MayRefuse (nodes t) given
    → TellsEvent (normal rules t b) (from_store given)
start_tells rules t b store_too_large h = begins_large rules t b (less_told MAX_TERM_NODES (nodes t) h)
start_tells rules t b store_memory h = tt

-- the rules are the same still
pub made_still : (rules later : List Sides) (t u : Tree) (b n : ℕ) → later ≡ rules
    → IsMade b n u (normal later t b) → IsMade b n u (normal rules t b)
made_still rules later t u b n e h = subst (λ rs. IsMade b n u (normal rs t b)) e h

pub tells_still : (rules later : List Sides) (t : Tree) (b : ℕ) (x : RewriteRefusal) → later ≡ rules
    → TellsEvent (normal later t b) x → TellsEvent (normal rules t b) x
tells_still rules later t b x e h = subst (λ rs. TellsEvent (normal rs t b) x) e h

abbrev two : Tree → Tree → Sides
two l r = record { left = l; right = r }

-- both sides are made
pub both_made : (rules : List Sides) (e : Sides) (b k j c : ℕ) (l r : Tree) → IsMade b k l (normal rules e.left b)
    → c ≡ b - k → IsMade c j r (normal rules e.right c)
    → unless_event (normal_sides rules e b) ≡ Ok (record { left = l; right = r })
both_made rules e b k j c l r p q h =
    ap (λ w. unless_event (then_work w (λ t d. then_work (normal rules e.right d) (λ u a. Made (two t u) a))))
    (p.1 ∙ ap (Made l) (sym q))
    ∙ ap (λ w. unless_event (then_work w (λ u a. Made (two l u) a))) h.1

-- or one of them isn't
pub left_tells : (rules : List Sides) (e : Sides) (b : ℕ) (x : RewriteRefusal) → TellsEvent (normal rules e.left b) x
    → Tells (unless_event (normal_sides rules e b)) (from_rewriting x)
left_tells rules e b Limit h =
    ap (λ w. unless_event (then_work w (λ t d. then_work (normal rules e.right d) (λ u a. Made (two t u) a)))) h
left_tells rules e b TooLarge h =
    ap (λ w. unless_event (then_work w (λ t d. then_work (normal rules e.right d) (λ u a. Made (two t u) a)))) h
left_tells rules e b Memory h = tt

pub right_tells : (rules : List Sides) (e : Sides) (b k c : ℕ) (l : Tree) (x : RewriteRefusal)
    → IsMade b k l (normal rules e.left b) → c ≡ b - k → TellsEvent (normal rules e.right c) x
    → Tells (unless_event (normal_sides rules e b)) (from_rewriting x)
right_tells rules e b k c l Limit p q h =
    ap (λ w. unless_event (then_work w (λ t d. then_work (normal rules e.right d) (λ u a. Made (two t u) a))))
    (p.1 ∙ ap (Made l) (sym q))
    ∙ ap (λ w. unless_event (then_work w (λ u a. Made (two l u) a))) h
right_tells rules e b k c l TooLarge p q h =
    ap (λ w. unless_event (then_work w (λ t d. then_work (normal rules e.right d) (λ u a. Made (two t u) a))))
    (p.1 ∙ ap (Made l) (sym q))
    ∙ ap (λ w. unless_event (then_work w (λ u a. Made (two l u) a))) h
right_tells rules e b k c l Memory p q h = tt

pub between_made : (rules : List Sides) (e d : Sides) (b k j c : ℕ) (l r : Tree)
    → IsMade b k l (normal rules e.left b) → c ≡ b - k → IsMade c j r (normal rules e.right c) → d.left ≡ l
    → d.right ≡ r → unless_event (normal_sides rules e b) ≡ Ok d
between_made rules e d b k j c l r p q h x y =
    both_made rules e b k j c l r p q h ∙ ap₂ (λ t u. Ok (two t u)) (sym x) (sym y)

-- what rewrites by rules does so with further lines
pub ready_still : (old new : Rewriter) → Extends old.builder new.builder → new.store ≡ old.store
    → new.rules ≡ old.rules → IsReady old → IsReady new
ready_still old new x p q h =
    subst (λ s. Serves s new.builder new.rules) (sym p)
    (subst (λ rs. Serves old.store new.builder rs) (sym q)
    (serves_later old.store old.store old.builder new.builder old.rules old.rules refl (grows_refl old.store) x h))
