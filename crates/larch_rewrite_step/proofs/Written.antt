-- How lines write what is bound.
use Rattle.std.specs.Prelude.{◌≡◌, ◌+◌, ◌<◌, ℕ, List, [], ◌∷◌, ◌++◌, Contains, get_or, length, map, sum_by, take, refl}
use Rattle.std.proofs.Common.{arith, ap, sym, subst, ◌∙◌}
use Rattle.std.proofs.lemmas.List.{map_push, take_more}
use Rattle.std.proofs.lemmas.List.Elements.{All-contains, All-push, All-weaker}
use Rattle.larch_rewrite_step.specs.Encoding.{AreEncodings, AreOfStore}
use Rattle.larch_rewrite_step.specs.declared.encoding.Encoding.{Encoding}
use Rattle.larch_certificate.specs.Coded.{CodedTree, coded_app, coded_forest_of, coded_var}
use Rattle.larch_certificate.specs.declared.line.Binding.{Binding}
use Rattle.larch_certificate.specs.declared.symbol.Symbol.{Symbol}
use Rattle.larch_derive.specs.Builder.{IsCodeIn}
use Rattle.larch_derive.specs.Coding.{AreCodesOf, IsSymbolOf}
use Rattle.larch_derive.specs.Predicates.{Extends}
use Rattle.larch_derive.specs.declared.builder.Builder.{Builder}
use Rattle.larch_derive.proofs.Codes.{codes_push}
use Rattle.larch_derive.proofs.Growth.{code_stays}
use Rattle.larch_derive_lines.specs.Rules.{AreWritten}
use Rattle.larch_derive_lines.proofs.Instances.{written_push}
use Rattle.larch_rewrite_match.specs.Bound.{entries_of, entry_of}
use Rattle.larch_rewrite_match.specs.declared.patterns.Bound.{Bound}
use Rattle.larch_store.specs.Numbered.{Numbered, children_of, several, term_of, terms_of}
use Rattle.larch_store.specs.SharedView.{view_shared}
use Rattle.larch_store.specs.Stored.{AllBelong, Belongs, Grows}
use Rattle.larch_store.specs.declared.shared.SharedNode.TheVariants.{Variable, Application}
use Rattle.larch_store.proofs.Counting.{nodes_several}
use Rattle.larch_store.proofs.Growth.{belongs_stays}
use Rattle.larch_store.proofs.Standing.{branch_term, listed_several}
use Rattle.larch_term.specs.Operator.{PlainOperator}
use Rattle.larch_term.specs.Tree.{forest_of, nodes, nodes_all}
use Rattle.larch_term.specs.declared.substitution.Entry.{Entry}

-- ---- what is kept

-- a kept code is the term's
pub found_encoding : (b : Builder) (encodings : List Encoding) (k : Encoding) (x : Numbered) (c : CodedTree)
    → Contains encodings k
    → term_of k.term ≡ term_of x → c ≡ k.coded → AreEncodings b encodings → IsCodeIn b (term_of x) c
found_encoding b encodings k x c m e p h =
    subst (λ d. IsCodeIn b (term_of x) d) (sym p)
    (subst (λ t. IsCodeIn b t k.coded) e (All-contains (λ k. IsCodeIn b (term_of k.term) k.coded) encodings k h m))

pub kept_belongs : (s : List Numbered) (encodings new : List Encoding) (x : Numbered) (c : CodedTree)
    → new ≡ encodings ++ record { term = x; coded = c } ∷ [] → Belongs s x → AreOfStore s encodings → AreOfStore s new
kept_belongs s encodings new x c e b h =
    subst (AreOfStore s) (sym e) (All-push (λ k. Belongs s k.term) encodings (record { term = x; coded = c }) h b)

pub kept_encodings : (b : Builder) (encodings new : List Encoding) (x : Numbered) (c : CodedTree)
    → new ≡ encodings ++ record { term = x; coded = c } ∷ [] → IsCodeIn b (term_of x) c → AreEncodings b encodings
    → AreEncodings b new
kept_encodings b encodings new x c e d h =
    subst (AreEncodings b) (sym e)
    (All-push (λ k. IsCodeIn b (term_of k.term) k.coded) encodings (record { term = x; coded = c }) h d)

-- what is kept stays in a store that grows, and where the builder has further lines
pub of_store_stay : (s u : List Numbered) (encodings : List Encoding) → Grows s u → AreOfStore s encodings
    → AreOfStore u encodings
of_store_stay s u encodings g h =
    All-weaker (λ k. Belongs s k.term) (λ k. Belongs u k.term) (λ k p. belongs_stays s u k.term g p) encodings h

pub encodings_stay : (a b : Builder) (encodings : List Encoding) → Extends a b → AreEncodings a encodings
    → AreEncodings b encodings
encodings_stay a b encodings x h =
    All-weaker (λ k. IsCodeIn a (term_of k.term) k.coded) (λ k. IsCodeIn b (term_of k.term) k.coded)
    (λ k p. code_stays a b (term_of k.term) k.coded x p) encodings h

-- ---- a term by its root

pub code_of_variable : (b : Builder) (x : Numbered) (k z : ℕ) (n s : List ℕ) (c : CodedTree)
    → view_shared k z (Variable n s) ≡ x → c ≡ coded_var n s → IsCodeIn b (term_of x) c
code_of_variable b x k z n s c v e =
    subst (λ d. IsCodeIn b (term_of x) d) (sym e) (subst (λ y. IsCodeIn b (term_of y) (coded_var n s)) v (refl, refl))

pub code_of_application : (b : Builder) (x : Numbered) (k z : ℕ) (f : PlainOperator) (xs : List Numbered) (g : Symbol)
    (cs : List CodedTree) (c : CodedTree) → view_shared k z (Application f xs) ≡ x
    → c ≡ coded_app g (coded_forest_of cs) → IsSymbolOf b.boxes b.theory.operators f g
    → AreCodesOf b.boxes b.theory.operators (forest_of (map term_of xs)) (coded_forest_of cs)
    → IsCodeIn b (term_of x) c
code_of_application b x k z f xs g cs c v e s h =
    subst (λ d. IsCodeIn b (term_of x) d) (sym e)
    (subst (λ t. IsCodeIn b t (coded_app g (coded_forest_of cs))) (sym (branch_term k z f xs) ∙ ap term_of v) (s, h))

-- its arguments belong to the store, and have fewer nodes
pub children_are : (s : List Numbered) (x : Numbered) (k z : ℕ) (f : PlainOperator) (xs items : List Numbered)
    → view_shared k z (Application f xs) ≡ x → items ≡ xs → AllBelong s (children_of x) → AllBelong s items
children_are s x k z f xs items v e h =
    subst (AllBelong s) (sym e)
    (subst (AllBelong s) (listed_several xs) (subst (λ y. AllBelong s (children_of y)) (sym v) h))

pub fewer_nodes : (x : Numbered) (k z : ℕ) (f : PlainOperator) (xs items : List Numbered)
    → view_shared k z (Application f xs) ≡ x → items ≡ xs
    → sum_by (λ y. nodes (term_of y)) items + 1 ≡ nodes (term_of x)
fewer_nodes x k z f xs items v e =
    let n : nodes (term_of (view_shared k z (Application f xs))) ≡ nodes (term_of x) = ap (λ y. nodes (term_of y)) v in
    let m : sum_by (λ y. nodes (term_of y)) items ≡ sum_by (λ y. nodes (term_of y)) xs =
    ap (sum_by (λ y. nodes (term_of y))) e in
    let j : nodes_all (terms_of (several xs)) ≡ sum_by (λ y. nodes (term_of y)) xs = nodes_several xs in
    omega (arith, n, m, j)

-- one term more of a list
one_more : {A B : Type 0} (f : A → B) (xs : List A) (i : ℕ) (y : A) → i < length xs → y ≡ get_or xs i y
    → map f (take i xs) ++ f y ∷ [] ≡ map f (take (i + 1) xs)
one_more f xs i y lt is =
    sym (ap (map f) (take_more xs i y lt ∙ ap (λ z. take i xs ++ z ∷ []) (sym is)) ∙ map_push f (take i xs) y)

pub codes_more : (b : Builder) (xs : List Numbered) (i : ℕ) (y : Numbered) (cs new : List CodedTree) (c : CodedTree)
    → i < length xs → y ≡ get_or xs i y → new ≡ cs ++ c ∷ []
    → AreCodesOf b.boxes b.theory.operators (forest_of (map term_of (take i xs))) (coded_forest_of cs)
    → IsCodeIn b (term_of y) c
    → AreCodesOf b.boxes b.theory.operators (forest_of (map term_of (take (i + 1) xs))) (coded_forest_of new)
codes_more b xs i y cs new c lt is e h d =
    subst (λ ts. AreCodesOf b.boxes b.theory.operators (forest_of ts) (coded_forest_of new))
    (one_more term_of xs i y lt is)
    (subst (λ ds. AreCodesOf b.boxes b.theory.operators (forest_of (map term_of (take i xs) ++ term_of y ∷ []))
    (coded_forest_of ds)) (sym e)
    (codes_push b.boxes b.theory.operators (map term_of (take i xs)) cs (term_of y) c h d))

-- ---- replacements

pub bound_more : (b : Builder) (bs : List Bound) (i : ℕ) (y : Bound) (xs new : List Binding) (x : Binding)
    → i < length bs → y ≡ get_or bs i y → new ≡ xs ++ x ∷ [] → AreWritten b (entries_of (take i bs)) xs
    → x.name ≡ (entry_of y).name → x.sort ≡ (entry_of y).sort → IsCodeIn b (entry_of y).term x.term
    → AreWritten b (entries_of (take (i + 1) bs)) new
bound_more b bs i y xs new x lt is e h n s d =
    subst (λ es. AreWritten b es new) (one_more entry_of bs i y lt is)
    (subst (λ ys. AreWritten b (entries_of (take i bs) ++ entry_of y ∷ []) ys) (sym e)
    (written_push b (entries_of (take i bs)) xs (entry_of y) x h n s d))

pub written_stays : (a b : Builder) (es : List Entry) (xs : List Binding) → Extends a b → AreWritten a es xs
    → AreWritten b es xs
written_stays a b [] [] x h = tt
written_stays a b [] (y ∷ ys) x h = absurd h
written_stays a b (e ∷ es) [] x h = absurd h
written_stays a b (e ∷ es) (y ∷ ys) x h =
    (h.0, h.1, code_stays a b e.term y.term x h.2, written_stays a b es ys x h.3)
