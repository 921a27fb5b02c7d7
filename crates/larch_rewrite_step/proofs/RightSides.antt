-- Right sides that are made of shared terms.
use Rattle.std.specs.Prelude.{◌≡◌, ◌≤◌, ◌<◌, ℕ, zero, suc, List, [], ◌∷◌, get_or, length}
use Rattle.std.proofs.Common.{arith, ap, ap₂, subst}
use Rattle.std.proofs.lemmas.Bool.{lt-ltb}
use Rattle.std.proofs.lemmas.List.Elements.{All-weaker}
use Rattle.larch_rewrite_match.specs.Bound.{AreBound, entries_of}
use Rattle.larch_rewrite_match.specs.declared.patterns.Bound.{Bound}
use Rattle.larch_store.specs.Numbered.{Numbered, term_of}
use Rattle.larch_store.specs.Refusal.{MayRefuse as MayRefuseTerm}
use Rattle.larch_store.specs.Stored.{Belongs, Grows}
use Rattle.larch_store.specs.declared.refusal.StoreRefusal.{StoreRefusal}
use Rattle.larch_store.specs.declared.refusal.StoreRefusal.TheVariants.{TooLarge as store_too_large}
use Rattle.larch_store.specs.declared.refusal.StoreRefusal.TheVariants.{Memory as store_memory}
use Rattle.larch_store.proofs.Growth.{belongs_stays}
use Rattle.larch_term.specs.Substitution.{instance_of, substituted_all}
use Rattle.larch_term.specs.Tree.{Tree, forest_of, nodes, nodes_all}
use Rattle.larch_term.specs.declared.substitution.Entry.{Entry}
use Rattle.larch_rewrite_step.specs.Applying.{MayRefuse, from_store}

-- what is bound stays in a store that grows
pub bound_stay : (s u : List Numbered) (bs : List Bound) → Grows s u → AreBound s bs → AreBound u bs
bound_stay s u bs g h =
    All-weaker (λ b. Belongs s b.term) (λ b. Belongs u b.term) (λ b p. belongs_stays s u b.term g p) bs h

-- a part has no more nodes than the whole
pub part_within : (es : List Entry) (ts : List Tree) (i : ℕ) (t : Tree) → i < length ts → t ≡ get_or ts i t
    → nodes (instance_of es t) ≤ nodes_all (substituted_all es (forest_of ts))
part_within es [] i t lt e = absurd (omega (arith, lt))
part_within es (u ∷ us) zero t lt e = omega (arith, ap (λ v. nodes (instance_of es v)) e)
part_within es (u ∷ us) (suc i) t lt e =
    let k = part_within es us i t (omega (arith, lt)) e in omega (arith, k)

-- what a store refuses as too large is so
refuses : (t : Tree) (e : StoreRefusal) → MayRefuseTerm (nodes t) e → MayRefuse t (from_store e)
refuses t store_too_large h = lt-ltb 5000 (nodes t) h
refuses t store_memory h = tt

pub store_refuses : (t u : Tree) (e : StoreRefusal) → t ≡ u → MayRefuseTerm (nodes t) e → MayRefuse u (from_store e)
store_refuses t u e q h = refuses u e (subst (λ v. MayRefuseTerm (nodes v) e) q h)

-- a right side with its bindings, by other names
pub same_right : (bs cs : List Bound) (l r : Tree) → bs ≡ cs → l ≡ r
    → instance_of (entries_of bs) l ≡ instance_of (entries_of cs) r
same_right bs cs l r p q = ap₂ (λ ds t. instance_of (entries_of ds) t) p q
