-- How a level was entered doesn't depend on its facts and its goal.
use Rattle.std.specs.Prelude.{◌≡◌, List, [], ◌∷◌, map, Option, None, Some}
use Rattle.std.proofs.Common.{ap, subst, sym, ◌∙◌}
use Rattle.larch_term.specs.declared.statement.Statement.{Statement}
use Rattle.larch_term.specs.declared.statement.Statement.TheVariants.{Equation, Generated, Partitioned}
use Rattle.larch_methods.specs.ProveMeaningLevels.{OfDuty, OfProof, OfSubgoal, Purpose}
use Rattle.larch_methods.specs.ProvePlansSubgoalsSubgoal as stated
use Rattle.larch_prove_invariant.specs.Book.{Book, Kept, Running}
use Rattle.larch_prove_invariant.specs.Holding.{Begins, Enters, EntersClause, IsEntered, IsForSubgoal, shape_of}

clause_same : (s : stated.Subgoal) (k j : Book) → j.first ≡ k.first → j.entrance ≡ k.entrance → EntersClause s k
    → EntersClause s j
clause_same s k j e f h = record { first = e ∙ h.first; entrance = ap (map shape_of) f ∙ h.entrance }

begins_same : (s : Statement) (k j : Book) → j.first ≡ k.first → j.entrance ≡ k.entrance → Begins s k → Begins s j
begins_same (Equation l r) k j e f h = (e ∙ h.0, f ∙ h.1)
begins_same (Generated z fs) k j e f (n, h) = (n, clause_same _ k j e f h)
begins_same (Partitioned z os) k j e f (n, (m, (d, h))) = (n, (m, (d, clause_same _ k j e f h)))

enters_subgoal : (o : Option Running) (k j : Book) → j.first ≡ k.first → j.entrance ≡ k.entrance → IsForSubgoal o k
    → IsForSubgoal o j
enters_subgoal None k j e f h = h
enters_subgoal (Some r) k j e f h = record { first = e ∙ h.first; entrance = ap (map shape_of) f ∙ h.entrance }

enters_same : (u : Purpose) (o : Option Running) (k j : Book) → j.first ≡ k.first → j.entrance ≡ k.entrance
    → Enters u o k → Enters u o j
enters_same OfDuty o k j e f h = h
enters_same OfSubgoal o k j e f h = enters_subgoal o k j e f h
enters_same (OfProof t) o k j e f h =
    record { first = e ∙ h.first; entrance = f ∙ h.entrance; idle = h.idle }

pub entered_same : (s : Statement) (ks : List Kept) (k j : Kept) → j.level.purpose ≡ k.level.purpose
    → j.book.first ≡ k.book.first → j.book.entrance ≡ k.book.entrance → IsEntered s ks k → IsEntered s ks j
entered_same s [] k j u e f h = (u ∙ h.0, begins_same s k.book j.book e f h.1)
entered_same s (n ∷ ks) k j u e f h =
    subst (λ p. Enters p n.book.running j.book) (sym u)
    (enters_same k.level.purpose n.book.running k.book j.book e f h)
