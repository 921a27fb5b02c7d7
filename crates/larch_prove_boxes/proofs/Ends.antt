-- The end of a duty: of an equation and of clauses.
use Rattle.std.specs.Prelude.{◌≡◌, ◌≢◌, ℕ, List, [], ◌∷◌, length, All, Contains, IfNone, IfSome, IsSome, Option, None}
use Rattle.std.specs.Prelude.{Some, refl}
use Rattle.std.proofs.Common.{ap, subst, sym, ◌∙◌}
use Rattle.larch_term.specs.Operator.{PlainOperator}
use Rattle.larch_term.specs.Statement.{IsStatementOver}
use Rattle.larch_term.specs.Tree.{Tree}
use Rattle.larch_term.specs.Truth.{truth}
use Rattle.larch_term.specs.declared.statement.Statement.{Statement}
use Rattle.larch_term.specs.declared.statement.Statement.TheVariants.{Equation, Generated, Partitioned}
use Rattle.larch_term.specs.declared.statement.Theory.{Theory}
use Rattle.larch_calculus.specs.Formula.{formula}
use Rattle.larch_derive.specs.VerifyMeaningLastLine.{EndsWithoutStatedClause}
use Rattle.larch_derive.specs.Builder.{lines_in, theory_in}
use Rattle.larch_derive.specs.Finished.{IsFinished}
use Rattle.larch_derive.specs.Predicates.{Extends, Grows, HasEquation, HasStatement}
use Rattle.larch_derive.specs.declared.builder.Builder.{Builder}
use Rattle.larch_derive.specs.declared.open_box.OpenBox.{OpenBox}
use Rattle.larch_derive.proofs.Growth.{extends_grows}
use Rattle.larch_traits_items.specs.Laws.{NamesOwn}
use Rattle.larch_prove_invariant.specs.ProvePlansClauseGoals.{generation_goal, partition_goal}
use Rattle.larch_prove_invariant.specs.ProvePlansSubgoalsSubgoal as stated
use Rattle.larch_prove_invariant.specs.MethodsClauses.{ByConstants, ByPredicate}
use Rattle.larch_prove_invariant.proofs.MethodsUndoing.{missing_so}
use Rattle.larch_prove_boxes.specs.BoxLists.{box_list, boxes_with}
use Rattle.larch_prove_boxes.specs.Finishing.{HasEntrance}
use Rattle.larch_prove_invariant.specs.Book.{Book, Kept, SupposingBox}
use Rattle.larch_prove_invariant.specs.Holding.{EntersClause, IsEntered, stated_shape}
use Rattle.larch_prove_invariant.specs.Leaving.{Leaving}
use Rattle.larch_prove_invariant.proofs.Entrances.{generation_ends, partition_ends}
use Rattle.larch_prove_invariant.proofs.Left.{end_clause, end_equation, leaving_grows, left_levels}
use Rattle.larch_prove_invariant.proofs.Shared.{shapes_one}

-- ---- the box of a clause

one_same : (x y : SupposingBox) → x ∷ [] ≡ y ∷ [] → x ≡ y
one_same x y e = cc

only_box : (x : SupposingBox) (entrance : Option OpenBox) → boxes_with (x ∷ []) ≡ box_list entrance
    → entrance ≡ Some x.box
only_box x None e = cc
only_box x (Some y) e = cc

-- the box by which a clause's level was entered is the one that is handed over
pub entrance_of : (g : stated.Subgoal) (k : Book) (entrance : Option OpenBox) → EntersClause g k
    → boxes_with k.entrance ≡ box_list entrance
    → (x : SupposingBox) × ((k.entrance ≡ x ∷ []) × (entrance ≡ Some x.box))
entrance_of g k entrance h e =
    let o = shapes_one k.entrance (stated_shape g) h.entrance in
    (o.0, (o.1.0, only_box o.0 entrance (sym (ap boxes_with o.1.0) ∙ e)))

some_there : (g : stated.Subgoal) (k : Book) (entrance : Option OpenBox) → EntersClause g k
    → boxes_with k.entrance ≡ box_list entrance → IsSome entrance
some_there g k entrance h e = subst (λ (o : Option OpenBox). IsSome o) (sym (entrance_of g k entrance h e).1.1) refl

pub has_entrance : (s : Statement) (k : Kept) (entrance : Option OpenBox) → IsEntered s [] k
    → boxes_with k.book.entrance ≡ box_list entrance → HasEntrance s entrance
has_entrance (Equation l r) k entrance h e = tt
has_entrance (Generated z fs) k entrance h e = some_there _ k.book entrance h.1.1 e
has_entrance (Partitioned z os) k entrance h e = some_there _ k.book entrance h.1.1.1.1 e

-- ---- an equation

pub equation_finished : (t : Theory) (s : Statement) (b c d : Builder) (l r : Tree) (n m : ℕ) → Leaving t s b [] []
    → Extends b c → HasEquation c n l r → Extends c d → HasEquation d m l r → m ≡ length (lines_in d)
    → IsFinished t (Equation l r) (lines_in d)
equation_finished t s b c d l r n m w x h y q e =
    end_equation t s d l r m
    (leaving_grows t s c d [] [] (extends_grows c d y) (leaving_grows t s b c [] [] (extends_grows b c x) w)) q e

-- ---- clauses

pub generation_finished : (t : Theory) (s : Statement) (b c : Builder) (n z : List ℕ) (fs : List PlainOperator)
    (k : Book) (x : SupposingBox) (number line m : ℕ) → IsStatementOver t.operators (Generated z fs)
    → EntersClause (generation_goal n z fs) k → k.entrance ≡ x ∷ [] → x.box.number ≡ number
    → Leaving t s b k.entrance [] → HasEquation b line k.first truth
    → ((a : Builder) → theory_in a ≡ t → ByPredicate a b z fs number line → HasStatement c m (Generated z fs))
    → ((a : Builder) → theory_in a ≡ t → ByPredicate a b z fs number line → Grows a c) → m ≡ length (lines_in c)
    → EndsWithoutStatedClause (theory_in c) (lines_in c) → IsFinished t (Generated z fs) (lines_in c)
generation_finished t s b c n z fs k x number line m over h alone e w says said grows last ends =
    let i = generation_ends t s b n z fs k line h w over says in
    let start = left_levels t s i.outside [] i.leaving in
    let q : i.box.box.number ≡ number =
    ap (λ (y : SupposingBox). y.box.number) (one_same i.box x (sym i.alone ∙ alone)) ∙ e in
    let shown = subst (λ j. ByPredicate i.outside b z fs j line) q i.shown in
    end_clause t s c (Generated z fs) m
    (leaving_grows t s i.outside c [] [] (grows i.outside start.theory shown) i.leaving)
    (said i.outside start.theory shown) last ends

pub partition_finished : (t : Theory) (s : Statement) (b c : Builder) (n p z : List ℕ) (os : List PlainOperator)
    (k : Book) (x : SupposingBox) (number line m : ℕ) → n ≢ p → IsStatementOver t.operators (Partitioned z os)
    → EntersClause (partition_goal n p z os) k → k.entrance ≡ x ∷ [] → x.box.number ≡ number
    → Leaving t s b k.entrance [] → HasEquation b line k.first truth
    → ((a : Builder) → theory_in a ≡ t → ByConstants a b z os number line → HasStatement c m (Partitioned z os))
    → ((a : Builder) → theory_in a ≡ t → ByConstants a b z os number line → Grows a c) → m ≡ length (lines_in c)
    → EndsWithoutStatedClause (theory_in c) (lines_in c) → IsFinished t (Partitioned z os) (lines_in c)
partition_finished t s b c n p z os k x number line m d over h alone e w says said grows last ends =
    let i = partition_ends t s b n p z os k line d h w over says in
    let start = left_levels t s i.outside [] i.leaving in
    let q : i.box.box.number ≡ number =
    ap (λ (y : SupposingBox). y.box.number) (one_same i.box x (sym i.alone ∙ alone)) ∙ e in
    let shown = subst (λ j. ByConstants i.outside b z os j line) q i.shown in
    end_clause t s c (Partitioned z os) m
    (leaving_grows t s i.outside c [] [] (grows i.outside start.theory shown) i.leaving)
    (said i.outside start.theory shown) last ends

-- ---- a duty, by its statement

-- what ends an equation's certificate, and the certificates of clauses, says
abbrev pub ClosesEquation : Builder → Builder → Tree → Tree → ℕ → Type 0
ClosesEquation b c l r n =
    (t : Theory) (s : Statement) → Leaving t s b [] [] → HasEquation b n (formula l r) truth
    → IsFinished t (Equation l r) (lines_in c)

abbrev pub ClosesGeneration : Theory → Builder → Builder → List ℕ → List PlainOperator → ℕ → ℕ → Type 0
ClosesGeneration v b c z fs number line =
    (s : Statement) (n : List ℕ) (k : Book) (x : SupposingBox) → IsStatementOver v.operators (Generated z fs)
    → EntersClause (generation_goal n z fs) k → k.entrance ≡ x ∷ [] → x.box.number ≡ number
    → Leaving v s b k.entrance [] → HasEquation b line k.first truth → IsFinished v (Generated z fs) (lines_in c)

abbrev pub ClosesPartition : Theory → Builder → Builder → List ℕ → List PlainOperator → ℕ → ℕ → Type 0
ClosesPartition v b c z os number line =
    (s : Statement) (n m : List ℕ) (k : Book) (x : SupposingBox) → n ≢ m
    → IsStatementOver v.operators (Partitioned z os) → EntersClause (partition_goal n m z os) k
    → k.entrance ≡ x ∷ [] → x.box.number ≡ number → Leaving v s b k.entrance [] → HasEquation b line k.first truth
    → IsFinished v (Partitioned z os) (lines_in c)

-- and what the end of a duty says
abbrev pub ClosesDuty : Theory → Statement → Option OpenBox → Builder → Builder → ℕ → Type 0
ClosesDuty v u entrance b c n =
    (t : Theory) (s : Statement) (k : Kept) → v ≡ t → u ≡ s → IsStatementOver t.operators s → IsEntered s [] k
    → boxes_with k.book.entrance ≡ box_list entrance → Leaving t s b k.book.entrance []
    → HasEquation b n k.book.first truth → IsFinished t s (lines_in c)

-- the goal of an equation's duty is its formula, and no box is open
pub equation_ends_duty : (v : Theory) (u : Statement) (entrance : Option OpenBox) (b c : Builder) (l r : Tree) (n : ℕ)
    → u ≡ Equation l r → ClosesEquation b c l r n → ClosesDuty v u entrance b c n
equation_ends_duty v u entrance b c l r n p f t s k g q over w boxes m h =
    let e = sym q ∙ p in
    let here = subst (λ y. IsEntered y [] k) e w in
    subst (λ y. IsFinished t y (lines_in c)) (sym e)
    (f t s (subst (λ xs. Leaving t s b xs []) here.1.1 m) (subst (λ y. HasEquation b n y truth) here.1.0 h))

number_there : (x : SupposingBox) (entrance : Option OpenBox) (number : ℕ)
    → IfSome entrance (λ y. number ≡ y.number) → entrance ≡ Some x.box → x.box.number ≡ number
number_there x entrance number h e = sym (subst (λ o. IfSome o (λ (y : OpenBox). number ≡ y.number)) e h)

-- a clause is shown in its box
pub generation_ends_duty : (v : Theory) (u : Statement) (entrance : Option OpenBox) (b c : Builder) (z : List ℕ)
    (fs : List PlainOperator) (number n : ℕ) → u ≡ Generated z fs → IfSome entrance (λ y. number ≡ y.number)
    → ClosesGeneration v b c z fs number n → ClosesDuty v u entrance b c n
generation_ends_duty v u entrance b c z fs number n p i f t s k g q over w boxes m h =
    let e = sym q ∙ p in
    let here = subst (λ y. IsEntered y [] k) e w in
    let clause = here.1.1 in
    let o = entrance_of (generation_goal here.1.0 z fs) k.book entrance clause boxes in
    subst (λ y. IsFinished t y (lines_in c)) (sym e) (subst (λ y. IsFinished y (Generated z fs) (lines_in c)) g
    (f s here.1.0 k.book o.0
    (subst (λ (y : Theory). IsStatementOver y.operators (Generated z fs)) (sym g) (subst (IsStatementOver t.operators) e
    over)) clause o.1.0 (number_there o.0 entrance number i o.1.1)
    (subst (λ y. Leaving y s b k.book.entrance []) (sym g) m) h))

pub partition_ends_duty : (v : Theory) (u : Statement) (entrance : Option OpenBox) (b c : Builder) (z : List ℕ)
    (os : List PlainOperator) (number n : ℕ) → u ≡ Partitioned z os → IfSome entrance (λ y. number ≡ y.number)
    → ClosesPartition v b c z os number n → ClosesDuty v u entrance b c n
partition_ends_duty v u entrance b c z os number n p i f t s k g q over w boxes m h =
    let e = sym q ∙ p in
    let here = subst (λ y. IsEntered y [] k) e w in
    let names = here.1 in
    let clause = names.1.1.1 in
    let o = entrance_of (partition_goal names.0 names.1.0 z os) k.book entrance clause boxes in
    subst (λ y. IsFinished t y (lines_in c)) (sym e) (subst (λ y. IsFinished y (Partitioned z os) (lines_in c)) g
    (f s names.0 names.1.0 k.book o.0 names.1.1.0
    (subst (λ (y : Theory). IsStatementOver y.operators (Partitioned z os)) (sym g)
    (subst (IsStatementOver t.operators) e over)) clause o.1.0 (number_there o.0 entrance number i o.1.1)
    (subst (λ y. Leaving y s b k.book.entrance []) (sym g) m) h))

-- what is asked for of a clause, so that its end answers a line
pub never_none : {X : Type 0} (said : Option X) (P : Type 0) → said ≡ None → IfNone said (P → ⊥) → P → ⊥
never_none said P e h p = missing_so said (P → ⊥) h e p

pub generation_boxed : (u : Statement) (entrance : Option OpenBox) (z : List ℕ) (fs : List PlainOperator)
    → u ≡ Generated z fs → HasEntrance u entrance → IsSome entrance
generation_boxed u entrance z fs e h = subst (λ y. HasEntrance y entrance) e h

pub partition_boxed : (u : Statement) (entrance : Option OpenBox) (z : List ℕ) (os : List PlainOperator)
    → u ≡ Partitioned z os → HasEntrance u entrance → IsSome entrance
partition_boxed u entrance z os e h = subst (λ y. HasEntrance y entrance) e h

pub generation_named : (u : Statement) (own : List PlainOperator) (z : List ℕ) (fs gs : List PlainOperator)
    → u ≡ Generated z fs → gs ≡ fs → NamesOwn own u → All (Contains own) gs
generation_named u own z fs gs e q h = subst (All (Contains own)) (sym q) (subst (NamesOwn own) e h)

pub partition_named : (u : Statement) (own : List PlainOperator) (z : List ℕ) (os gs : List PlainOperator)
    → u ≡ Partitioned z os → gs ≡ os → NamesOwn own u → All (Contains own) gs
partition_named u own z os gs e q h = subst (All (Contains own)) (sym q) (subst (NamesOwn own) e h)
