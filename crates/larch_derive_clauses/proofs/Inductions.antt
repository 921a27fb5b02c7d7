-- Lines that say an equation by induction.
use Rattle.std.proofs.Common.{◌≡◌, ◌&&◌, ℕ, true, false, List, [], ◌∷◌, ◌++◌, map, All, Some, None, bytes_eq, refl, sym}
use Rattle.std.proofs.Common.{◌∙◌, ap}
use Rattle.std.specs.Option.{option_map_or, option_and_then}
use Rattle.std.proofs.lemmas.Bool.{cond-true}
use Rattle.std.proofs.lemmas.List.Elements.{All-head, All-tail}
use Rattle.std.proofs.lemmas.Slice.Eq.{bytes_eq-Decides}
use Rattle.larch_base.proofs.Bools.{and_both}
use Rattle.larch_term.specs.Equality.{same_statement}
use Rattle.larch_term.specs.Operator.{PlainOperator}
use Rattle.larch_term.specs.Sorts.{sort_of, IsKnown}
use Rattle.larch_term.specs.Tree.{Tree, app}
use Rattle.larch_term.specs.declared.statement.Statement.TheVariants.{Equation, Generated}
use Rattle.larch_derive_boxes.specs.CalculusGeneration.{constant_terms, equation_at, induction_hypotheses}
use Rattle.larch_derive_boxes.proofs.CalculusRenamedHypotheses.{constants_renamed, equation_renamed, induction_renamed}
use Rattle.larch_certificate.specs.declared.line.CodedEquation.{CodedEquation}
use Rattle.larch_certificate.specs.declared.line.CodedVar.{CodedVar}
use Rattle.larch_certificate.specs.declared.line.Line.TheVariants.{Induct}
use Rattle.larch_derive_boxes.specs.VerifyMeaningBoxRules.{shows_case, shows_cases, induct_over}
use Rattle.larch_derive_boxes.specs.VerifyMeaningContext.{find_line, find_closed}
use Rattle.larch_derive_boxes.specs.VerifyMeaningEvents.{State, start, operators_from}
use Rattle.larch_derive_boxes.specs.VerifyMeaningMatching.{same_statements, has_constants}
use Rattle.larch_derive_boxes.specs.VerifyMeaningRun.{judge}
use Rattle.larch_derive_boxes.specs.DeriveBuilderBuilder.{Builder}
use Rattle.larch_derive_boxes.specs.DeriveBuilder.{IsPushed, IsCodeIn, part_for}
use Rattle.larch_derive_boxes.specs.DeriveOpenBox.{in_lines, naming}
use Rattle.larch_derive_boxes.specs.DerivePredicates.{operators_at, written_term, written_statement}
use Rattle.larch_derive_boxes.specs.DerivePredicates.{KnownIn, SaysIn, Known}
use Rattle.larch_derive_boxes.specs.DerivePredicates.{HasStatement, Extends}
use Rattle.larch_derive_boxes.proofs.DerivePushing.{pushed_says, pushed_extends}
use Rattle.larch_derive_boxes.proofs.DeriveRuns.{down_run}
use Rattle.larch_derive_boxes.specs.Boxes.{box_of}
use Rattle.larch_derive_boxes.proofs.Freshness.{own_named, has_sorts, known_at}
use Rattle.larch_derive_boxes.proofs.Renaming.{inside_in_lines, inside_written}
use Rattle.larch_derive_clauses.specs.Showing.{ShowsCase, ShowCases}
use Rattle.larch_derive_boxes.specs.CertificateTextLineText.{IsWord}
use Rattle.larch_derive_clauses.proofs.Written.{equation_means, equation_known, equation_fits, result_at}
use Rattle.larch_derive_clauses.proofs.Written.{inside_faithful, found_by}
use Rattle.larch_derive_clauses.proofs.Written.{constants_named, statements_same, statement_same}

-- the box of one generator passes the test
case_shown : (a : Builder) (st : State) (v : CodedVar) (l r : Tree) (f : PlainOperator) (n : ℕ)
    → KnownIn a.theory a.boxes a.lines st l → KnownIn a.theory a.boxes a.lines st r
    → IsKnown (operators_at a.theory st) (in_lines a.boxes f) → ShowsCase a v l r f n
    → option_map_or (shows_case v (written_term a.boxes l) (written_term a.boxes r) (in_lines a.boxes f))
    (find_closed st.history n) false ≡ true
case_shown a st v l r f n kl kr kf c =
    let t = a.theory in
    let bs = a.boxes in
    let x = c.box in
    let cs = x.constants in
    let xs = bs ++ x ∷ [] in
    let hs = induction_hypotheses v.name v.sort l r cs in
    let s = equation_at v.name v.sort l r (app f (constant_terms cs)) in
    let res = result_at a st x hs s kl.stand c.shown in
    let down = down_run t a.lines start st kl.stand.runs tt in
    let faithful = inside_faithful a st x hs s res in
    let os = operators_from x.number 1 (map part_for cs) in
    let named : map (in_lines xs) cs ≡ os = constants_named xs x.number 1 cs (own_named bs x c.own) in
    let terms = constants_renamed (naming xs) cs ∙ ap constant_terms named in
    let left = sym (inside_written t kl.stand.plain st.history st.count bs x down res.others l kl.over.1) in
    let right = sym (inside_written t kl.stand.plain st.history st.count bs x down res.others r kr.over.1) in
    let same = sym (inside_in_lines t kl.stand.plain st.history st.count bs x down res.others f kf) in
    let gs = induction_hypotheses v.name v.sort (written_term bs l) (written_term bs r) os in
    let g =
    equation_at v.name v.sort (written_term bs l) (written_term bs r) (app (in_lines bs f) (constant_terms os)) in
    let ws = map (written_statement xs) hs in
    let supposed : ws ≡ gs =
    induction_renamed (naming xs) faithful v.name v.sort l r cs
    ∙ (λ i. induction_hypotheses v.name v.sort (left i) (right i) (named i)) in
    let result : written_statement xs s ≡ g =
    equation_renamed (naming xs) faithful.apart v.name v.sort l r (app f (constant_terms cs))
    ∙ (λ i. equation_at v.name v.sort (left i) (right i) (app (same i) (terms i))) in
    ap (λ o. option_map_or (shows_case v (written_term bs l) (written_term bs r) (in_lines bs f)) o false)
    (found_by a st x hs s n res c.number)
    ∙ and_both (has_constants (box_of x ws) f.domain)
    (same_statements ws gs && same_statement (written_statement xs s) g)
    (has_sorts x ws f.domain c.own.constants c.sorts)
    (and_both (same_statements ws gs) (same_statement (written_statement xs s) g) (statements_same ws gs supposed)
    (statement_same (written_statement xs s) g result))

-- so do those of all generators
cases_shown : (a : Builder) (st : State) (v : CodedVar) (l r : Tree) → KnownIn a.theory a.boxes a.lines st l
    → KnownIn a.theory a.boxes a.lines st r → (fs : List PlainOperator) (ns : List ℕ)
    → All (λ g. IsKnown (operators_at a.theory st) g × (g.range ≡ v.sort)) (map (in_lines a.boxes) fs)
    → ShowCases a v l r fs ns
    → shows_cases st.history v (Equation (written_term a.boxes l) (written_term a.boxes r))
    (map (in_lines a.boxes) fs) ns ≡ true
cases_shown a st v l r kl kr [] [] w c = refl
cases_shown a st v l r kl kr [] (n ∷ ns) w c = absurd c
cases_shown a st v l r kl kr (f ∷ fs) [] w c = absurd c
cases_shown a st v l r kl kr (f ∷ fs) (n ∷ ns) w c =
    let P : PlainOperator → Type 0 = λ g. IsKnown (operators_at a.theory st) g × (g.range ≡ v.sort) in
    let g = in_lines a.boxes f in
    let gs = map (in_lines a.boxes) fs in
    let x = written_term a.boxes l in
    let y = written_term a.boxes r in
    and_both (option_map_or (shows_case v x y g) (find_closed st.history n) false)
    (shows_cases st.history v (Equation x y) gs ns)
    (case_shown a st v l r f n kl kr (All-head P g gs w).0 c.0)
    (cases_shown a st v l r kl kr fs ns (All-tail P g gs w) c.1)

induct_judged : (a : Builder) (st : State) (m : ℕ) (v : CodedVar) (l r : Tree) (e : CodedEquation)
    (fs : List PlainOperator) (ns : List ℕ) → SaysIn a.theory a.boxes a.lines st m (Generated v.sort fs)
    → KnownIn a.theory a.boxes a.lines st l → KnownIn a.theory a.boxes a.lines st r → sort_of l ≡ sort_of r
    → IsCodeIn a l e.left → IsCodeIn a r e.right → ShowCases a v l r fs ns
    → judge a.theory st.history (Induct m v e ns) ≡ Some (written_statement a.boxes (Equation l r))
induct_judged a st m v l r e fs ns h kl kr s cl cr c =
    let g = written_statement a.boxes (Equation l r) in
    let gs = map (in_lines a.boxes) fs in
    let shown = shows_cases st.history v g gs ns in
    ap (option_and_then (λ q. option_and_then (induct_over st.history v ns q) (find_line st.history m)))
    (equation_means a st l r e kl kr s cl cr)
    ∙ ap (option_and_then (induct_over st.history v ns g)) h.says
    ∙ cond-true (bytes_eq v.sort v.sort && shown) (Some g) None
    (and_both (bytes_eq v.sort v.sort) shown ((bytes_eq-Decides v.sort v.sort).1 refl)
    (cases_shown a st v l r kl kr fs ns h.over c))

pub induct_says : (a b : Builder) (m n : ℕ) (v : CodedVar) (l r : Tree) (e : CodedEquation) (ns : List ℕ)
    (fs : List PlainOperator) → IsCodeIn a l e.left → IsCodeIn a r e.right → IsPushed a b (Induct m v e ns) n
    → HasStatement a m (Generated v.sort fs) → ShowCases a v l r fs ns → Known a l → Known a r
    → sort_of l ≡ sort_of r → IsWord v.name → HasStatement b n (Equation l r)
unfolding HasStatement
induct_says a b m n v l r e ns fs cl cr p (st, h) c kl kr s w =
    let il = known_at a st l h.stand kl in
    let ir = known_at a st r h.stand kr in
    pushed_says a b (Induct m v e ns) n st (Equation l r) p h.stand
    (induct_judged a st m v l r e fs ns h il ir s cl cr c) (equation_known a st l r il ir s)
    (p.numbers.0, ((w, h.words.0), (equation_fits a l r e cl cr il.words ir.words, p.numbers.1))) (il.words, ir.words)

pub induct_extends : (a b : Builder) (m n : ℕ) (v : CodedVar) (l r : Tree) (e : CodedEquation) (ns : List ℕ)
    (fs : List PlainOperator) → IsCodeIn a l e.left → IsCodeIn a r e.right → IsPushed a b (Induct m v e ns) n
    → HasStatement a m (Generated v.sort fs) → ShowCases a v l r fs ns → Known a l → Known a r
    → sort_of l ≡ sort_of r → IsWord v.name → Extends a b
unfolding HasStatement
induct_extends a b m n v l r e ns fs cl cr p (st, h) c kl kr s w =
    let il = known_at a st l h.stand kl in
    let ir = known_at a st r h.stand kr in
    pushed_extends a b (Induct m v e ns) n st (written_statement a.boxes (Equation l r)) p h.stand.runs
    (induct_judged a st m v l r e fs ns h il ir s cl cr c)
    (p.numbers.0, ((w, h.words.0), (equation_fits a l r e cl cr il.words ir.words, p.numbers.1)))
