-- Theories with new operators.
use Rattle.std.proofs.Common.{◌≡◌, ◌≢◌, inl, inr, List, [], ◌∷◌, ◌++◌, All, AllPairs, Contains, refl, ap}
use Rattle.std.proofs.lemmas.List.{append_assoc}
use Rattle.std.proofs.lemmas.List.Elements.{All-append, All-weaker, All-contains}
use Rattle.std.proofs.lemmas.List.Kept.{AllPairs-cons}
use Rattle.larch_term.proofs.BaseLists.{all_from, pairs_head, pairs_tail}
use Rattle.larch_term.proofs.BaseMembers.{contains_here, contains_later, contains_right}
use Rattle.larch_term.specs.Operator.{PlainOperator}
use Rattle.larch_term.specs.BuiltIn.{IsBuiltIn}
use Rattle.larch_term.specs.Sorts.{IsKnown}
use Rattle.larch_term.specs.Statement.{IsStatementOver, IsTheory, statement_zero}
use Rattle.larch_term.specs.declared.statement.Statement.{Statement}
use Rattle.larch_term.specs.declared.statement.Theory.{Theory}
use Rattle.larch_calculus.specs.Theories.{IsNewName, AreNew, extend}
use Rattle.larch_calculus.specs.Derivable.{Derivable, axiom_}
use Rattle.larch_calculus.proofs.Sorted.{extended_well_sorted}

-- new operators are none of the theory's
apart_from_new : (t : Theory) (cs : List PlainOperator) → AreNew t cs → (f : PlainOperator) → IsKnown t.operators f
    → All (λ c. f ≢ c) cs
apart_from_new t cs n f k =
    All-weaker (λ c. IsNewName t c.name) (λ c. f ≢ c) (λ c h e. h f k (ap (λ g. g.name) e)) cs n.names

different_more : (t : Theory) (cs : List PlainOperator) → AreNew t cs → (fs : List PlainOperator)
    → ((f : PlainOperator) → Contains fs f → IsKnown t.operators f) → AllPairs (λ f g. f ≢ g) fs
    → AllPairs (λ f g. f ≢ g) (fs ++ cs)
different_more t cs n [] k d = λ i j e lt within p. n.different i j e lt within (ap (λ g. g.name) p)
different_more t cs n (f ∷ fs) k d =
    AllPairs-cons (λ f g. f ≢ g) f (fs ++ cs)
    (All-append (λ g. f ≢ g) fs cs (pairs_head (λ f g. f ≢ g) f fs d)
    (apart_from_new t cs n f (k f (contains_here f fs))))
    (different_more t cs n fs (λ g c. k g (contains_later f g fs c)) (pairs_tail (λ f g. f ≢ g) f fs d))

not_built_in : (t : Theory) (cs : List PlainOperator) → AreNew t cs → All (λ f. IsBuiltIn f → ⊥) cs
not_built_in t cs n = All-weaker (λ c. IsNewName t c.name) (λ f. IsBuiltIn f → ⊥) (λ c h b. h c (inr b) refl) cs n.names

-- a theory with new operators, and hypotheses that are well sorted over all of them, is one
pub extended_theory : (t : Theory) (cs : List PlainOperator) (hs : List Statement) → IsTheory t → AreNew t cs
    → All (IsStatementOver (t.operators ++ cs)) hs → IsTheory (extend t cs hs)
extended_theory t cs hs w n h =
    record {
      different = different_more t cs n t.operators (λ f c. inl c) w.different;
      own = All-append (λ f. IsBuiltIn f → ⊥) t.operators cs w.own (not_built_in t cs n);
      well_sorted = extended_well_sorted t cs hs w.well_sorted h;
    }

-- what extends an extension extends the theory
pub extended_twice : (t : Theory) (cs ds : List PlainOperator) (hs ks : List Statement)
    → extend (extend t cs hs) ds ks ≡ extend t (cs ++ ds) (hs ++ ks)
extended_twice t cs ds hs ks =
    λ i. record { operators = append_assoc t.operators cs ds i; statements = append_assoc t.statements hs ks i }

-- the hypotheses are derivable in the extension
pub supposed_all : (t : Theory) (cs : List PlainOperator) (hs : List Statement)
    → All (IsStatementOver (t.operators ++ cs)) hs
    → All (Derivable (extend t cs hs)) hs
supposed_all t cs hs w =
    all_from (Derivable (extend t cs hs)) hs
    (λ h c. axiom_ (contains_later statement_zero h (t.statements ++ hs) (contains_right t.statements hs h c))
    (All-contains (IsStatementOver (t.operators ++ cs)) hs h w c))
