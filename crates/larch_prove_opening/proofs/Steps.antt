-- Facts statement by statement.
use Rattle.std.specs.Prelude.{◌≡◌, ◌+◌, ◌<◌, ℕ, suc, List, ◌∷◌, drop, get_or, length, Result, Ok, Err}
use Rattle.std.specs.Prelude.{IfErr, OnOk}
use Rattle.std.proofs.Common.{add-one, ap, sym, ◌∙◌}
use Rattle.std.proofs.lemmas.List.{drop_more}
use Rattle.larch_base.specs.declared.code.Code.{Code}
use Rattle.larch_base.specs.declared.fact_name.FactLetter.{FactLetter}
use Rattle.larch_base.specs.declared.fact_name.FactLetter.TheVariants.{Axiom, Lemma as lemma_letter}
use Rattle.larch_order.specs.declared.precedence.Ranked.{Ranked}
use Rattle.larch_prove_adding.specs.Equation.{sides_in}
use Rattle.larch_prove_adding.specs.Turns.{Tells, manner_of}
use Rattle.larch_prove_adding.specs.declared.equation.SaidEquation.{SaidEquation}
use Rattle.larch_prove_adding.specs.ProveMeaningFacts.{Facts, add, no_facts, whole_name}
use Rattle.larch_prove_adding.specs.ProveMeaningLevels.{EarlierDuty, work_result}
use Rattle.larch_prove_opening.proofs.Stating.{code_told, first_told, same_told}
use Rattle.larch_prove_opening.specs.FirstFacts.{facts_with, facts_with_axioms, facts_with_each, facts_with_lemmas}
use Rattle.larch_prove_opening.specs.FirstFacts.{first_facts}
use Rattle.larch_prove_opening.specs.Stating.{TellsCode, duties_of}
use Rattle.larch_prove_opening.specs.declared.opening.Lemma.{Lemma}
use Rattle.larch_prove_adding.specs.RewriteRefusalRewriteRefusal.{RewriteRefusal}
use Rattle.larch_rewrite_meaning.specs.Sides.{sides_of}
use Rattle.larch_term.specs.Tree.{Tree}
use Rattle.larch_term.specs.declared.statement.Statement.{Statement}
use Rattle.larch_term.specs.declared.statement.Statement.TheVariants.{Equation}
use Rattle.larch_base_meaning.specs.Steps.{after}

-- ---- one statement

-- an equation that is stated, by a number and sides that are the same
each_is : (ranks : List Ranked) (limit : ℕ) (letter : FactLetter) (n m : ℕ) (s : Statement) (l r : Tree)
    (e : SaidEquation) (facts : Facts) → s ≡ Equation l r → m ≡ n → e.left ≡ l → e.right ≡ r
    → facts_with_each ranks limit letter n (sides_of s) facts
    ≡ after (facts_with ranks limit (whole_name letter m) (sides_in e) facts) (λ more. Ok more)
each_is ranks limit letter n m s l r e facts g k p q =
    ap (λ x. facts_with_each ranks limit letter n (sides_of x) facts) g
    ∙ (λ i. after
    (facts_with ranks limit (whole_name letter (sym k i)) (record { left = sym p i; right = sym q i }) facts)
    (λ more. Ok more))

-- it is added as it was
pub each_added : {A E : Type 0} (ranks : List Ranked) (limit : ℕ) (letter : FactLetter) (n m : ℕ) (s : Statement)
    (l r : Tree) (e : SaidEquation) (facts more : Facts) (result : Result A E) → s ≡ Equation l r → m ≡ n
    → e.left ≡ l → e.right ≡ r
    → OnOk result (work_result (add (manner_of ranks (whole_name letter m)) (sides_in e) facts limit) ≡ Ok more)
    → OnOk result (facts_with_each ranks limit letter n (sides_of s) facts ≡ Ok more)
each_added ranks limit letter n m s l r e facts more (Ok x) g k p q h =
    each_is ranks limit letter n m s l r e facts g k p q ∙ ap (λ a. after a (λ x. Ok x)) h
each_added ranks limit letter n m s l r e facts more (Err x) g k p q h = tt

-- and refused
pub each_refused : {A : Type 0} (ranks : List Ranked) (limit : ℕ) (letter : FactLetter) (n m : ℕ) (s : Statement)
    (l r : Tree) (e : SaidEquation) (facts : Facts) (result : Result A RewriteRefusal) → s ≡ Equation l r → m ≡ n
    → e.left ≡ l → e.right ≡ r
    → IfErr result (Tells (add (manner_of ranks (whole_name letter m)) (sides_in e) facts limit))
    → IfErr result (TellsCode (facts_with_each ranks limit letter n (sides_of s) facts))
each_refused ranks limit letter n m s l r e facts (Ok x) g k p q h = tt
each_refused ranks limit letter n m s l r e facts (Err x) g k p q h =
    same_told (facts_with_each ranks limit letter n (sides_of s) facts) _ x
    (each_is ranks limit letter n m s l r e facts g k p q)
    (first_told (facts_with ranks limit (whole_name letter m) (sides_in e) facts) (λ more. Ok more) x
    (code_told (add (manner_of ranks (whole_name letter m)) (sides_in e) facts limit) x h))

-- ---- the statements of a theory

axioms_next : (ranks : List Ranked) (limit : ℕ) (ss : List Statement) (i : ℕ) (s : Statement) (facts : Facts)
    → i < length ss → s ≡ get_or ss i s
    → facts_with_axioms ranks limit (i + 1) (drop i ss) facts
    ≡ after (facts_with_each ranks limit Axiom (i + 1) (sides_of s) facts)
    (λ more. facts_with_axioms ranks limit (suc (i + 1)) (drop (i + 1) ss) more)
axioms_next ranks limit ss i s facts lt e =
    ap (λ xs. facts_with_axioms ranks limit (i + 1) xs facts)
    (drop_more ss i s lt ∙ ap (λ x. x ∷ drop (i + 1) ss) (sym e))

pub axioms_step : (ranks : List Ranked) (limit : ℕ) (ss : List Statement) (i : ℕ) (s : Statement) (facts more : Facts)
    (all : Result Facts Code) → i < length ss → s ≡ get_or ss i s
    → all ≡ facts_with_axioms ranks limit (i + 1) (drop i ss) facts
    → facts_with_each ranks limit Axiom (i + 1) (sides_of s) facts ≡ Ok more
    → all ≡ facts_with_axioms ranks limit (i + 1 + 1) (drop (i + 1) ss) more
axioms_step ranks limit ss i s facts more all lt e g h =
    g ∙ axioms_next ranks limit ss i s facts lt e
    ∙ ap (λ m. after m (λ x. facts_with_axioms ranks limit (suc (i + 1)) (drop (i + 1) ss) x)) h
    ∙ ap (λ k. facts_with_axioms ranks limit k (drop (i + 1) ss) more) (sym (add-one (i + 1)))

-- ---- lemmas

lemmas_next : (ranks : List Ranked) (limit : ℕ) (ls : List Lemma) (i : ℕ) (l : Lemma) (facts : Facts)
    → i < length ls → l ≡ get_or ls i l
    → facts_with_lemmas ranks limit (duties_of (drop i ls)) facts
    ≡ after (facts_with_each ranks limit lemma_letter l.number (sides_of l.statement) facts)
    (λ more. facts_with_lemmas ranks limit (duties_of (drop (i + 1) ls)) more)
lemmas_next ranks limit ls i l facts lt e =
    ap (λ xs. facts_with_lemmas ranks limit (duties_of xs) facts)
    (drop_more ls i l lt ∙ ap (λ x. x ∷ drop (i + 1) ls) (sym e))

pub lemmas_step : (ranks : List Ranked) (limit : ℕ) (ls : List Lemma) (i n : ℕ) (l : Lemma) (facts more : Facts)
    (all : Result Facts Code) → i < length ls → l ≡ get_or ls i l → n ≡ l.number
    → all ≡ facts_with_lemmas ranks limit (duties_of (drop i ls)) facts
    → facts_with_each ranks limit lemma_letter n (sides_of l.statement) facts ≡ Ok more
    → all ≡ facts_with_lemmas ranks limit (duties_of (drop (i + 1) ls)) more
lemmas_step ranks limit ls i n l facts more all lt e k g h =
    g ∙ lemmas_next ranks limit ls i l facts lt e
    ∙ ap (λ m. after m (λ x. facts_with_lemmas ranks limit (duties_of (drop (i + 1) ls)) x))
    (ap (λ m. facts_with_each ranks limit lemma_letter m (sides_of l.statement) facts) (sym k) ∙ h)

-- ---- both

axioms_first : (ranks : List Ranked) (limit : ℕ) (ss xs : List Statement) (ls : List EarlierDuty) (start : Facts)
    → start ≡ no_facts → xs ≡ ss
    → first_facts ranks limit ss ls no_facts
    ≡ after (facts_with_axioms ranks limit 1 xs start) (λ more. facts_with_lemmas ranks limit ls more)
axioms_first ranks limit ss xs ls start n e =
    λ i. after (facts_with_axioms ranks limit 1 (sym e i) (sym n i)) (λ more. facts_with_lemmas ranks limit ls more)

pub both_added : (ranks : List Ranked) (limit : ℕ) (ss xs : List Statement) (ls : List EarlierDuty)
    (start mid made : Facts) → start ≡ no_facts → xs ≡ ss → facts_with_axioms ranks limit 1 xs start ≡ Ok mid
    → facts_with_lemmas ranks limit ls mid ≡ Ok made → first_facts ranks limit ss ls no_facts ≡ Ok made
both_added ranks limit ss xs ls start mid made n e g h =
    axioms_first ranks limit ss xs ls start n e
    ∙ ap (λ m. after m (λ more. facts_with_lemmas ranks limit ls more)) g ∙ h

pub first_refused : (ranks : List Ranked) (limit : ℕ) (ss xs : List Statement) (ls : List EarlierDuty) (start : Facts)
    (x : RewriteRefusal) → start ≡ no_facts → xs ≡ ss → TellsCode (facts_with_axioms ranks limit 1 xs start) x
    → TellsCode (first_facts ranks limit ss ls no_facts) x
first_refused ranks limit ss xs ls start x n e h =
    same_told (first_facts ranks limit ss ls no_facts) _ x (axioms_first ranks limit ss xs ls start n e)
    (first_told (facts_with_axioms ranks limit 1 xs start) (λ more. facts_with_lemmas ranks limit ls more) x h)

pub second_refused : (ranks : List Ranked) (limit : ℕ) (ss xs : List Statement) (ls : List EarlierDuty)
    (start mid : Facts) (x : RewriteRefusal) → start ≡ no_facts → xs ≡ ss
    → facts_with_axioms ranks limit 1 xs start ≡ Ok mid → TellsCode (facts_with_lemmas ranks limit ls mid) x
    → TellsCode (first_facts ranks limit ss ls no_facts) x
second_refused ranks limit ss xs ls start mid x n e g h =
    same_told (first_facts ranks limit ss ls no_facts) (facts_with_lemmas ranks limit ls mid) x
    (axioms_first ranks limit ss xs ls start n e
    ∙ ap (λ m. after m (λ more. facts_with_lemmas ranks limit ls more)) g)
    h
