-- Boxes that show an equation of what generators make, one after the other.
use Rattle.std.proofs.Common.{◌≡◌, ℕ, suc, ◌+◌, ◌<◌, Bool, true, false, ◌&&◌, if◌then◌else◌, List, [], ◌∷◌, length}
use Rattle.std.proofs.Common.{drop, get_or, bytes_eq, Option, Some, None, refl, sym, ◌∙◌, ap}
use Rattle.std.specs.Option.{option_map_or, option_and_then}
use Rattle.std.proofs.lemmas.List.{drop_more}
use Rattle.larch_base.proofs.Bools.{and_not_left, and_not_right}
use Rattle.larch_term.specs.Equality.{same_statement}
use Rattle.larch_term.specs.Operator.{PlainOperator}
use Rattle.larch_term.specs.Tree.{Tree, app}
use Rattle.larch_term.specs.declared.statement.Statement.{Statement}
use Rattle.larch_term.specs.declared.statement.Statement.TheVariants.{Equation, Generated, Partitioned}
use Rattle.larch_calculus.specs.Generation.{constant_terms, equation_at, induction_hypotheses}
use Rattle.larch_certificate.specs.declared.line.CodedVar.{CodedVar}
use Rattle.larch_verify_meaning.specs.BoxRules.{shows_case, shows_cases, induct_over}
use Rattle.larch_verify_meaning.specs.Context.{find_closed, find_line}
use Rattle.larch_verify_meaning.specs.Events.{Event, PlainBox, operators_of}
use Rattle.larch_verify_meaning.specs.Matching.{same_statements, has_constants}
use Rattle.larch_verify_box_rules.specs.Inductions.{generators_of}

-- there are more generators or more boxes
pub counts_differ : (h : List Event) (x : CodedVar) (l r : Tree) (fs : List PlainOperator) (bs : List ℕ)
    → (length fs ≡ length bs → ⊥) → false ≡ shows_cases h x (Equation l r) fs bs
counts_differ h x l r [] [] n = absurd (n refl)
counts_differ h x l r [] (b ∷ bs) n = refl
counts_differ h x l r (f ∷ fs) [] n = refl
counts_differ h x l r (f ∷ fs) (b ∷ bs) n =
    sym (and_not_right (option_map_or (shows_case x l r f) (find_closed h b) false)
    (shows_cases h x (Equation l r) fs bs)
    (sym (counts_differ h x l r fs bs (λ e. n (ap suc e)))))

abbrev whether : Option (List PlainOperator) → List Event → CodedVar → List ℕ → Statement → Option Statement
whether o h x bs e = option_and_then (λ fs. if shows_cases h x e fs bs then Some e else None) o

-- the clause of a sort
pub by_generators : (h : List Event) (x : CodedVar) (bs : List ℕ) (e s : Statement)
    → induct_over h x bs e s ≡ whether (generators_of x.sort s) h x bs e
by_generators h x bs e (Equation l r) = refl
by_generators h x bs e (Partitioned z fs) = refl
by_generators h x bs e (Generated z fs) = by (bytes_eq z x.sort)
  where
    by : (b : Bool) → (if b && shows_cases h x e fs bs then Some e else None)
        ≡ whether (if b then Some fs else None) h x bs e
    by true = refl
    by false = refl

-- the box's parts are others
pub wrong_parts : (x : CodedVar) (l r : Tree) (f : PlainOperator) (c : PlainBox × Statement) (q : Bool)
    → q ≡ has_constants c.0 f.domain
    → q ≡ false → false ≡ shows_case x l r f c
wrong_parts x l r f c q e h =
    sym (and_not_left (has_constants c.0 f.domain)
    (same_statements c.0.hypotheses (induction_hypotheses x.name x.sort l r (operators_of c.0))
    && same_statement c.1 (equation_at x.name x.sort l r (app f (constant_terms (operators_of c.0))))) (sym e ∙ h))

-- its parts and hypotheses are right
pub right_case : (x : CodedVar) (l r : Tree) (f : PlainOperator) (c : PlainBox × Statement) (q s t : Bool)
    → q ≡ has_constants c.0 f.domain
    → q ≡ true → s ≡ same_statements c.0.hypotheses (induction_hypotheses x.name x.sort l r (operators_of c.0))
    → s ≡ true
    → t ≡ same_statement c.1 (equation_at x.name x.sort l r (app f (constant_terms (operators_of c.0))))
    → t ≡ shows_case x l r f c
right_case x l r f c q s t e h k m z =
    z ∙ (λ i. (sym h ∙ e) i && ((sym m ∙ k) i
    && same_statement c.1 (equation_at x.name x.sort l r (app f (constant_terms (operators_of c.0))))))

-- the next generator's box is looked at, while the pool has grown
pub step_shows : (h k : List Event) (x : CodedVar) (l r m n : Tree) (fs : List PlainOperator) (bs : List ℕ) (i d : ℕ)
    (f : PlainOperator) (s : Bool)
    → i < length fs → i < length bs → f ≡ get_or fs i f → k ≡ h → m ≡ l → n ≡ r
    → s ≡ option_map_or (shows_case x m n f) (find_closed k (get_or bs i d)) false
    → shows_cases h x (Equation l r) (drop i fs) (drop i bs)
    ≡ (s && shows_cases h x (Equation l r) (drop (i + 1) fs) (drop (i + 1) bs))
step_shows h k x l r m n fs bs i d f s a b e p q w z =
    (λ j. shows_cases h x (Equation l r) ((drop_more fs i f a ∙ ap (λ y. y ∷ drop (i + 1) fs) (sym e)) j)
    (drop_more bs i d b j))
    ∙ ap (λ y. y && shows_cases h x (Equation l r) (drop (i + 1) fs) (drop (i + 1) bs))
    (sym (z ∙ (λ j. option_map_or (shows_case x (q j) (w j) f) (find_closed (p j) (get_or bs i d)) false)))

-- the line says of no operators that they generate the sort
pub no_generators : (h : List Event) (x : CodedVar) (bs : List ℕ) (e s : Statement) (o : Option Statement) → Some s ≡ o
    → None ≡ generators_of x.sort s → None ≡ option_and_then (induct_over h x bs e) o
no_generators h x bs e s o p k =
    ap (λ g. whether g h x bs e) k ∙ sym (by_generators h x bs e s) ∙ ap (option_and_then (induct_over h x bs e)) p

-- it says so of some
pub with_generators : (h : List Event) (x : CodedVar) (bs : List ℕ) (e s : Statement) (o : Option Statement)
    (fs : List PlainOperator) (q : Bool) (r : Option Statement)
    → Some s ≡ o → Some fs ≡ generators_of x.sort s → q ≡ shows_cases h x e fs bs → r ≡ (if q then Some e else None)
    → r ≡ option_and_then (induct_over h x bs e) o
with_generators h x bs e s o fs q r p w z k =
    k ∙ ap (λ b. if b then Some e else None) z ∙ ap (λ g. whether g h x bs e) w ∙ sym (by_generators h x bs e s)
    ∙ ap (option_and_then (induct_over h x bs e)) p

-- the equation that is read
pub of_equation : (h k : List Event) (x : CodedVar) (bs : List ℕ) (m : ℕ) (e : Statement) (o r : Option Statement)
    → k ≡ h → Some e ≡ o
    → r ≡ option_and_then (induct_over k x bs e) (find_line k m)
    → r ≡ option_and_then (λ g. option_and_then (induct_over h x bs g) (find_line h m)) o
of_equation h k x bs m e o r p q z =
    z ∙ (λ j. option_and_then (induct_over (p j) x bs e) (find_line (p j) m))
    ∙ ap (option_and_then (λ g. option_and_then (induct_over h x bs g) (find_line h m))) q
