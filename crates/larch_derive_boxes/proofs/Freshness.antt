-- Variables in the places of a box's constants.
use Rattle.std.proofs.Common.{◌≡◌, ◌≢◌, ◌+◌, ℕ, zero, suc, Bool, true, false, cond, List, [], ◌∷◌, ◌++◌, map, All}
use Rattle.std.proofs.Common.{Option, Some, None, not, bytes_eq, refl, sym, ◌∙◌, ap, ap₂, subst, arith}
use Rattle.std.specs.Option.{option_map, option_or, option_and_then}
use Rattle.std.specs.List.{slice_get, list_all, AllPairs}
use Rattle.std.specs.Cmp.Lexicographic.{pointwise}
use Rattle.std.proofs.lemmas.Bool.{cond-true}
use Rattle.std.proofs.lemmas.List.Elements.{All-head, All-tail, All-contains}
use Rattle.larch_base.proofs.Bools.{and_both}
use Rattle.larch_base.proofs.Lists.{pairs_head, pairs_tail}
use Rattle.larch_base.proofs.Members.{got_contains}
use Rattle.larch_base.proofs.Options.{some_inj}
use Rattle.larch_term.specs.Operator.{PlainOperator}
use Rattle.larch_term.specs.OperatorKey.{same_operator, operator_Decides, sorts_Decides}
use Rattle.larch_term.specs.Sorts.{sort_of}
use Rattle.larch_term.specs.Substitution.{instance_of}
use Rattle.larch_term.specs.Tree.{Tree, var, app, none}
use Rattle.larch_term.specs.declared.statement.Statement.{Statement}
use Rattle.larch_term.specs.declared.statement.Statement.TheVariants.{Equation}
use Rattle.larch_term.specs.declared.variable.Variable.{Variable}
use Rattle.larch_term.specs.Variable.{occurrences}
use Rattle.larch_verify_law.specs.RenamingRenaming.{renamed_entry}
use Rattle.larch_verify_law.proofs.RenamingRenamedSubstitutions.{renamed_substituted, apart_by_sorts}
use Rattle.larch_verify_law.specs.CalculusFreed.{free_constants, constants_for}
use Rattle.larch_verify_law.specs.CalculusTheories.{AreConstants, AreNew}
use Rattle.larch_verify_law.proofs.CalculusFreeing.{freed_constants}
use Rattle.larch_certificate.specs.declared.line.CodedVar.{CodedVar}
use Rattle.larch_certificate.specs.declared.line.Line.TheVariants.{Fresh}
use Rattle.larch_derive.specs.CertificateTextLineText.{IsWord, FitVariable}
use Rattle.larch_derive.specs.CertificateTextParts.{Each}
use Rattle.larch_verify_law.specs.VerifyMeaningBoxRules.{freed_equation, freed_result}
use Rattle.larch_verify_law.specs.VerifyMeaningContext.{theory_of}
use Rattle.larch_verify_law.specs.VerifyMeaningEvents.{State, start, operators_of, operators_from, part_operator}
use Rattle.larch_verify_law.specs.VerifyMeaningMatching.{has_constants, variable_of}
use Rattle.larch_verify_law.specs.VerifyMeaningRun.{judge}
use Rattle.larch_derive.specs.declared.builder.Builder.{Builder}
use Rattle.larch_derive.specs.declared.open_box.OpenBox.{OpenBox}
use Rattle.larch_derive.specs.Builder.{IsPushed, part_for, part_sort}
use Rattle.larch_derive.specs.OpenBox.{place_from, constant_of, in_lines, naming}
use Rattle.larch_derive.specs.Predicates.{AreOthers, written_term, written_statement, StandIn, KnownIn, Known}
use Rattle.larch_derive.specs.Predicates.{HasStatement, Extends}
use Rattle.larch_derive.specs.Words.{IsWordedOperator, AreWordedOperators}
use Rattle.larch_derive.proofs.Pushing.{pushed_says, pushed_extends, one_state}
use Rattle.larch_derive.proofs.Runs.{down_run}
use Rattle.larch_derive_boxes.specs.Boxes.{box_of, ResultIn, HasResult, AreOwnConstants, with_constants}
use Rattle.larch_derive_boxes.proofs.Renaming.{inside_written}
use Rattle.larch_derive_boxes.proofs.Knowing.{constant_in_lines}

-- ---- places of different constants

other_first : (g f : PlainOperator) (k : ℕ) (o : Option ℕ) → g ≢ f → (b : Bool) → same_operator g f ≡ b
    → cond b (Some k) o ≡ o
other_first g f k o d true e = absurd (d ((operator_Decides g f).0 e))
other_first g f k o d false e = refl

got_differs : (P : PlainOperator → Type 0) (fs : List PlainOperator) (i : ℕ) (f : PlainOperator)
    → slice_get fs i ≡ Some f
    → All P fs → P f
got_differs P fs i f e h = All-contains P fs f h (got_contains fs i f e)

place_at : (k : ℕ) (fs : List PlainOperator) (i : ℕ) (f : PlainOperator) → AllPairs (λ g h. g ≢ h) fs
    → slice_get fs i ≡ Some f → place_from k fs f ≡ Some (k + i)
place_at k [] i f d e = cc
place_at k (g ∷ gs) zero f d e =
    let p : g ≡ f = some_inj e in
    cond-true (same_operator g f) (Some k) (place_from (suc k) gs f) ((operator_Decides g f).1 p)
    ∙ ap Some (let z : k ≡ k + 0 = omega arith in z)
place_at k (g ∷ gs) (suc i) f d e =
    other_first g f k (place_from (suc k) gs f)
    (got_differs (λ h. g ≢ h) gs i f e (pairs_head (λ g h. g ≢ h) g gs d)) (same_operator g f) refl
    ∙ place_at (suc k) gs i f (pairs_tail (λ g h. g ≢ h) g gs d) e
    ∙ ap Some (let z : suc k + i ≡ k + suc i = omega arith in z)

-- an operator that no outer box has is the constant of the inner one
pub innermost_constant : (bs : List OpenBox) (x : OpenBox) (f : PlainOperator) (k : ℕ) → constant_of bs f ≡ None
    → place_from 1 x.constants f ≡ Some k → constant_of (bs ++ x ∷ []) f ≡ Some (x.number, k)
innermost_constant [] x f k e p = ap (λ o. option_or (option_map (λ j. (x.number, j)) o) None) p
innermost_constant (b ∷ bs) x f k e p =
    by_place (constant_of bs f) (constant_of (bs ++ x ∷ []) f) (x.number, k) (λ q. innermost_constant bs x f k q p)
    (option_map (λ j. (b.number, j)) (place_from 1 b.constants f)) e
  where
    by_place : (m n : Option (ℕ × ℕ)) (p : ℕ × ℕ) → (m ≡ None → n ≡ Some p) → (o : Option (ℕ × ℕ))
        → option_or o m ≡ None → option_or o n ≡ Some p
    by_place m n p k None q = k q
    by_place m n p k (Some r) q = cc

-- ---- the constants as they are written

abbrev pub Named : List OpenBox → ℕ → ℕ → List PlainOperator → Type 0
Named bs n j cs =
    (i : ℕ) (c : PlainOperator) → slice_get cs i ≡ Some c → part_operator n (j + i) (part_for c) ≡ in_lines bs c

entries_written : (bs : List OpenBox) (n j : ℕ) (vs : List Variable) (cs : List PlainOperator) → Named bs n j cs
    → map (renamed_entry (naming bs)) (constants_for vs cs) ≡ constants_for vs (operators_from n j (map part_for cs))
entries_written bs n j [] cs h = refl
entries_written bs n j (v ∷ vs) [] h = refl
entries_written bs n j (v ∷ vs) (c ∷ cs) h =
    let here : part_operator n j (part_for c) ≡ in_lines bs c =
    ap (λ k. part_operator n k (part_for c)) (let z : j ≡ j + 0 = omega arith in z) ∙ h 0 c refl in
    let rest = entries_written bs n (suc j) vs cs
    (λ i d e. ap (λ k. part_operator n k (part_for d)) (let z : suc j + i ≡ j + suc i = omega arith in z)
    ∙ h (suc i) d e) in
    λ i. record { name = v.name; sort = v.sort; term = app (sym here i) none } ∷ rest i

pub own_named : (bs : List OpenBox) (x : OpenBox) → AreOwnConstants bs x → Named (bs ++ x ∷ []) x.number 1 x.constants
own_named bs x h i c e =
    constant_in_lines (bs ++ x ∷ []) c x.number (1 + i)
    (got_differs (λ f. f.domain ≡ []) x.constants i c e h.constants)
    (innermost_constant bs x c (1 + i) (got_differs (λ f. constant_of bs f ≡ None) x.constants i c e h.outer)
    (place_at 1 x.constants i c h.different e))

-- ---- the test

pub sort_of_part : (c : PlainOperator) → c.domain ≡ [] → part_for c ≡ record { sort = c.range; predicate = false }
sort_of_part c e = ap (part_sort c) e

parts_sorts : (cs : List PlainOperator) → AreConstants cs
    → map (λ p. p.sort) (map part_for cs) ≡ map (λ c. c.range) cs
parts_sorts [] h = refl
parts_sorts (c ∷ cs) h =
    let e = sort_of_part c (All-head (λ f. f.domain ≡ []) c cs h) in
    let rest = parts_sorts cs (All-tail (λ f. f.domain ≡ []) c cs h) in
    λ i. (e i).sort ∷ rest i

no_predicates : (cs : List PlainOperator) → AreConstants cs → list_all (λ p. not p.predicate) (map part_for cs) ≡ true
no_predicates [] h = refl
no_predicates (c ∷ cs) h =
    and_both (not (part_for c).predicate) (list_all (λ p. not p.predicate) (map part_for cs))
    (ap (λ p. not p.predicate) (sort_of_part c (All-head (λ f. f.domain ≡ []) c cs h)))
    (no_predicates cs (All-tail (λ f. f.domain ≡ []) c cs h))

-- the parts are constants of the sorts
pub has_sorts : (x : OpenBox) (hs : List Statement) (ss : List (List ℕ)) → AreConstants x.constants
    → map (λ c. c.range) x.constants ≡ ss → has_constants (box_of x hs) ss ≡ true
has_sorts x hs ss k e =
    and_both (list_all (λ p. not p.predicate) (map part_for x.constants))
    (pointwise bytes_eq (map (λ p. p.sort) (map part_for x.constants)) ss)
    (no_predicates x.constants k)
    ((sorts_Decides (map (λ p. p.sort) (map part_for x.constants)) ss).1 (parts_sorts x.constants k ∙ e))

-- ---- fresh

freed_side : (a : Builder) (st : State) (x : OpenBox) (vs : List Variable) (t : Tree)
    → AreNew (theory_of a.theory st.history) (operators_of (box_of x [])) → AreOthers a.theory x.constants
    → KnownIn a.theory a.boxes a.lines st t → AreOwnConstants a.boxes x
    → free_constants (operators_of (box_of x [])) vs
    (written_term (a.boxes ++ x ∷ []) (instance_of (constants_for vs x.constants) t))
    ≡ written_term a.boxes t
freed_side a st x vs t new others k own =
    let u = a.theory in
    let bs = a.boxes in
    let xs = bs ++ x ∷ [] in
    let es = constants_for vs x.constants in
    let cs = operators_of (box_of x []) in
    let down = down_run u a.lines start st k.stand.runs tt in
    ap (free_constants cs vs)
    (renamed_substituted (naming xs) es t (apart_by_sorts (naming xs) es (occurrences t) (λ s z e. e))
    ∙ ap₂ instance_of (entries_written xs x.number 1 vs x.constants (own_named bs x own))
    (sym (inside_written u k.stand.plain st.history st.count bs x down others t k.over.1)))
    ∙ freed_constants (theory_of u st.history) cs vs (written_term bs t) new k.over.1

fresh_judged : (a : Builder) (st : State) (x : OpenBox) (ws : List CodedVar) (l r : Tree)
    → ResultIn a.theory a.boxes a.lines st x [] (Equation (with_constants ws x l) (with_constants ws x r))
    → AreOwnConstants a.boxes x → map (λ c. c.range) x.constants ≡ map (λ v. v.sort) (map variable_of ws)
    → KnownIn a.theory a.boxes a.lines st l → KnownIn a.theory a.boxes a.lines st r
    → judge a.theory st.history (Fresh x.number ws) ≡ Some (written_statement a.boxes (Equation l r))
fresh_judged a st x ws l r h own sorts kl kr =
    let vs = map variable_of ws in
    let xs = a.boxes ++ x ∷ [] in
    let cs = operators_of (box_of x []) in
    let s = written_statement xs (Equation (with_constants ws x l) (with_constants ws x r)) in
    ap (option_and_then (λ c. freed_result c.0 c.1 vs)) h.result
    ∙ cond-true (has_constants (box_of x []) (map (λ v. v.sort) vs)) (freed_equation cs vs s) None
    (has_sorts x [] (map (λ v. v.sort) vs) own.constants sorts)
    ∙ ap₂ (λ p q. Some (Equation p q)) (freed_side a st x vs l h.new h.others kl own)
    (freed_side a st x vs r h.new h.others kr own)

pub sort_written : (bs : List OpenBox) (t : Tree) → sort_of (written_term bs t) ≡ sort_of t
sort_written bs (var n s) = refl
sort_written bs (app f ts) = refl

pub known_at : (a : Builder) (st : State) (t : Tree) → StandIn a.theory a.boxes a.lines st → Known a t
    → KnownIn a.theory a.boxes a.lines st t
unfolding Known
known_at a st t h (su, k) =
    subst (λ z. KnownIn a.theory a.boxes a.lines z t) (one_state a.theory a.lines st su h.runs k.stand.runs) k

-- variables with words as names that have the sorts of constants in words have texts
variables_fit : (cs : List PlainOperator) (ws : List CodedVar) → AreWordedOperators cs
    → map (λ c. c.range) cs ≡ map (λ v. v.sort) (map variable_of ws) → All (λ w. IsWord w.name) ws → Each FitVariable ws
variables_fit cs [] h e n = tt
variables_fit [] (w ∷ ws) h e n = cc
variables_fit (c ∷ cs) (w ∷ ws) h e n =
    let here : c.range ≡ w.sort = cc in
    let rest : map (λ c. c.range) cs ≡ map (λ v. v.sort) (map variable_of ws) = cc in (
      (All-head (λ w. IsWord w.name) w ws n, subst IsWord here (All-head IsWordedOperator c cs h).1),
      variables_fit cs ws (All-tail IsWordedOperator c cs h) rest (All-tail (λ w. IsWord w.name) w ws n),
    )

pub fresh_says : (a b : Builder) (j n : ℕ) (ws : List CodedVar) (x : OpenBox) (l r : Tree) → IsPushed a b (Fresh j ws) n
    → x.number ≡ j → HasResult a x [] (Equation (with_constants ws x l) (with_constants ws x r))
    → AreOwnConstants a.boxes x → map (λ c. c.range) x.constants ≡ map (λ v. v.sort) (map variable_of ws)
    → Known a l → Known a r → sort_of l ≡ sort_of r → All (λ w. IsWord w.name) ws → HasStatement b n (Equation l r)
unfolding HasResult
fresh_says a b j n ws x l r p e (st, h) own sorts kl kr q names =
    let il = known_at a st l h.stand kl in
    let ir = known_at a st r h.stand kr in
    let pushed = subst (λ m. IsPushed a b (Fresh m ws) n) (sym e) p in
    pushed_says a b (Fresh x.number ws) n st (Equation l r) pushed h.stand
    (fresh_judged a st x ws l r h own sorts il ir)
    (il.over, ir.over, sort_written a.boxes l ∙ q ∙ sym (sort_written a.boxes r))
    (pushed.numbers, variables_fit x.constants ws h.parts sorts names) (il.words, ir.words)

pub fresh_extends : (a b : Builder) (j n : ℕ) (ws : List CodedVar) (x : OpenBox) (l r : Tree)
    → IsPushed a b (Fresh j ws) n
    → x.number ≡ j → HasResult a x [] (Equation (with_constants ws x l) (with_constants ws x r))
    → AreOwnConstants a.boxes x → map (λ c. c.range) x.constants ≡ map (λ v. v.sort) (map variable_of ws)
    → Known a l → Known a r → All (λ w. IsWord w.name) ws → Extends a b
unfolding HasResult
fresh_extends a b j n ws x l r p e (st, h) own sorts kl kr names =
    let pushed = subst (λ m. IsPushed a b (Fresh m ws) n) (sym e) p in
    pushed_extends a b (Fresh x.number ws) n st (written_statement a.boxes (Equation l r)) pushed h.stand.runs
    (fresh_judged a st x ws l r h own sorts (known_at a st l h.stand kl) (known_at a st r h.stand kr))
    (pushed.numbers, variables_fit x.constants ws h.parts sorts names)
