-- Statements, each once.
use Rattle.std.proofs.Common.{◌≡◌, refl, sym, ap, ◌∙◌, Bool, true, false, cond, ◌||◌, ◌&&◌, not, List, [], ◌∷◌, ◌++◌}
use Rattle.std.proofs.Common.{map, filter}
use Rattle.std.specs.Prelude.{fold}
use Rattle.std.proofs.lemmas.List.Elements.{filter-append}
use Rattle.larch_renaming.specs.Renaming.{renamed_statement}
use Rattle.larch_term.proofs.Decided.{statement_Decides}
use Rattle.larch_term.specs.Equality.{same_statement}
use Rattle.larch_term.specs.declared.statement.Statement.{Statement}
use Rattle.larch_flat_meaning.specs.Flat.{renamed_mark, with_mark}
use Rattle.larch_flat_meaning.specs.Gathered.{Marked, new_among, stands_in, statements_in, with_new, with_statement}
use Rattle.larch_flat_meaning.specs.Replacements.{Replacements, renaming}
use Rattle.larch_flat.specs.FlatStatementsHashInput.{statement_equivalence}
use Rattle.larch_duties.specs.Steps.{new_in, renamed_in}
use Rattle.larch_duties.proofs.Once.{statements_found}

pushed : (c : Bool) (x : Statement) (ss : List Statement) (y : Statement)
    → (x ∷ cond c ss (ss ++ y ∷ [])) ≡ cond c (x ∷ ss) (x ∷ ss ++ y ∷ [])
pushed true x ss y = refl
pushed false x ss y = refl

-- the statements behind an insertion
stated_by : (s : Statement) (a : Bool) (m : Marked) (ms : List Marked) (b : Bool) → same_statement s m.statement ≡ b
    → statements_in (with_statement s a ms) ≡ with_new (statements_in ms) s
    → statements_in (cond b (record { statement = m.statement; assumed = m.assumed && a } ∷ ms)
    (m ∷ with_statement s a ms))
    ≡ cond (b || stands_in (statements_in ms) s) (m.statement ∷ statements_in ms)
    (m.statement ∷ statements_in ms ++ s ∷ [])
stated_by s a m ms true e later = refl
stated_by s a m ms false e later =
    ap (λ ss. m.statement ∷ ss) later ∙ pushed (stands_in (statements_in ms) s) m.statement (statements_in ms) s

pub stated : (s : Statement) (a : Bool) (ms : List Marked)
    → statements_in (with_statement s a ms) ≡ with_new (statements_in ms) s
stated s a [] = refl
stated s a (m ∷ ms) =
    ap
    (λ b. statements_in (cond b (record { statement = m.statement; assumed = m.assumed && a } ∷ ms)
    (m ∷ with_statement s a ms)))
    (statement_equivalence.symm m.statement s)
    ∙ stated_by s a m ms (same_statement s m.statement) refl (stated s a ms)

-- the statements of those that are renamed, each once
renamed_once : (by : Replacements) (kept ms : List Marked)
    → statements_in (fold with_mark kept (map (renamed_mark by) ms))
    ≡ fold with_new (statements_in kept) (renamed_in by ms)
renamed_once by kept [] = refl
renamed_once by kept (m ∷ ms) =
    renamed_once by (with_statement (renamed_statement (renaming by) m.statement) m.assumed kept) ms
    ∙ ap (λ ss. fold with_new ss (renamed_in by ms))
    (stated (renamed_statement (renaming by) m.statement) m.assumed kept)

asserted_once : (kept : List Marked) (ss : List Statement)
    → statements_in (fold (λ ms s. with_statement s false ms) kept ss) ≡ fold with_new (statements_in kept) ss
asserted_once kept [] = refl
asserted_once kept (s ∷ ss) =
    asserted_once (with_statement s false kept) ss ∙ ap (λ xs. fold with_new xs ss) (stated s false kept)

filter_by : (p q : Statement → Bool) (x : Statement) (ys zs : List Statement) → p x ≡ q x → ys ≡ zs
    → cond (p x) (x ∷ ys) ys ≡ cond (q x) (x ∷ zs) zs
filter_by p q x ys zs e f = ap (λ b. cond b (x ∷ ys) ys) e ∙ ap (λ us. cond (q x) (x ∷ us) us) f

filter_same : (p q : Statement → Bool) → ((x : Statement) → p x ≡ q x) → (xs : List Statement)
    → filter p xs ≡ filter q xs
filter_same p q h [] = refl
filter_same p q h (x ∷ xs) = filter_by p q x (filter p xs) (filter q xs) (h x) (filter_same p q h xs)

-- what is new beside statements that are asserted
pub new_beside : (ds ss : List Statement)
    → new_among (statements_in (fold (λ ms s. with_statement s false ms) [] ds)) ss ≡ new_among ds ss
new_beside ds ss =
    ap (fold with_new [])
    (filter_same (λ s. not (stands_in (statements_in (fold (λ ms s. with_statement s false ms) [] ds)) s))
    (λ s. not (stands_in ds s))
    (λ s. ap not (ap (λ xs. stands_in xs s) (asserted_once [] ds) ∙ statements_found ds s)) ss)

append_nil : (xs : List Statement) → xs ++ [] ≡ xs
append_nil [] = refl
append_nil (x ∷ xs) = ap (λ ys. x ∷ ys) (append_nil xs)

kept_none : (p : Statement → Bool) (x : Statement) (ss : List Statement) → p x ≡ false
    → filter p (ss ++ x ∷ []) ≡ filter p ss
kept_none p x ss e =
    filter-append p ss (x ∷ []) ∙ ap (λ b. filter p ss ++ cond b (x ∷ []) []) e ∙ append_nil (filter p ss)

kept_one : (p : Statement → Bool) (x : Statement) (ss : List Statement) → p x ≡ true
    → filter p (ss ++ x ∷ []) ≡ filter p ss ++ x ∷ []
kept_one p x ss e = filter-append p ss (x ∷ []) ∙ ap (λ b. filter p ss ++ cond b (x ∷ []) []) e

stays_by : (p : Statement → Bool) (x : Statement) → p x ≡ true → (s : Statement) (ss : List Statement) (b c : Bool)
    → p s ≡ b → same_statement x s ≡ c
    → stands_in (filter p ss) x ≡ stands_in ss x
    → stands_in (cond b (s ∷ filter p ss) (filter p ss)) x ≡ (c || stands_in ss x)
stays_by p x e s ss true c f g later = ap (λ b. b || stands_in (filter p ss) x) g ∙ ap (λ b. c || b) later
stays_by p x e s ss false true f g later =
    absurd (let q : true ≡ false = sym e ∙ ap p ((statement_Decides x s).0 g) ∙ f in cc)
stays_by p x e s ss false false f g later = later

-- a statement that passes a test stands in a list exactly where it stands among those that pass
stays : (p : Statement → Bool) (x : Statement) → p x ≡ true → (ss : List Statement)
    → stands_in (filter p ss) x ≡ stands_in ss x
stays p x e [] = refl
stays p x e (s ∷ ss) = stays_by p x e s ss (p s) (same_statement x s) refl refl (stays p x e ss)

new_pass : (p : Statement → Bool) (x : Statement) (ss : List Statement) (c : Bool) → p x ≡ true
    → filter p (cond c ss (ss ++ x ∷ [])) ≡ cond c (filter p ss) (filter p ss ++ x ∷ [])
new_pass p x ss true e = refl
new_pass p x ss false e = kept_one p x ss e

new_kept : (p : Statement → Bool) (x : Statement) (ss : List Statement) (b c : Bool) → p x ≡ b → stands_in ss x ≡ c
    → filter p (cond c ss (ss ++ x ∷ [])) ≡ cond b (with_new (filter p ss) x) (filter p ss)
new_kept p x ss true c e f =
    let q : stands_in (filter p ss) x ≡ c = stays p x e ss ∙ f in
    new_pass p x ss c e ∙ sym (ap (λ d. cond d (filter p ss) (filter p ss ++ x ∷ [])) q)
new_kept p x ss false true e f = refl
new_kept p x ss false false e f = kept_none p x ss e

pick : (p : Statement → Bool) (x : Statement) (ss xs : List Statement) (b : Bool) → p x ≡ b
    → fold with_new (cond b (with_new ss x) ss) (filter p xs)
    ≡ fold with_new ss (cond b (x ∷ filter p xs) (filter p xs))
pick p x ss xs true e = refl
pick p x ss xs false e = refl

-- those that pass a test, each once
pub once_kept : (p : Statement → Bool) (ss xs : List Statement)
    → filter p (fold with_new ss xs) ≡ fold with_new (filter p ss) (filter p xs)
once_kept p ss [] = refl
once_kept p ss (x ∷ xs) =
    once_kept p (with_new ss x) xs
    ∙ ap (λ ys. fold with_new ys (filter p xs)) (new_kept p x ss (p x) (stands_in ss x) refl refl)
    ∙ pick p x (filter p ss) xs (p x) refl

-- the statements of another trait that aren't the trait's own
pub new_renamed : (own : List Marked) (by : Replacements) (ms : List Marked)
    → new_among (statements_in own) (renamed_in by ms) ≡ new_in own by ms
new_renamed own by ms =
    sym (ap (filter (λ s. not (stands_in (statements_in own) s))) (renamed_once by [] ms)
    ∙ once_kept (λ s. not (stands_in (statements_in own) s)) [] (renamed_in by ms))
