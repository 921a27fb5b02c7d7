-- What rules say of lines, they say moved of moved lines.
use Rattle.std.proofs.Common.{◌≡◌, ℕ, suc, true, false, cond, ◌&&◌, List, [], ◌∷◌, map, bytes_eq, Option, Some}
use Rattle.std.proofs.Common.{None, option_map, option_and_then, unwrap_or, refl, sym, ◌∙◌, ap, subst}
use Rattle.std.specs.List.{slice_get}
use Rattle.std.specs.Option.{option_map_or}
use Rattle.std.proofs.lemmas.Option.{option_and_then_some, cond_some, slice_get-map}
use Rattle.larch_base.proofs.Bools.{and_left, and_right, and_both}
use Rattle.larch_base.proofs.Lists.{map_map}
use Rattle.larch_term.proofs.Decided.{tree_Decides}
use Rattle.larch_term.specs.Equality.{same_tree, same_statement}
use Rattle.larch_term.specs.Operator.{PlainOperator}
use Rattle.larch_term.specs.Place.{at, put}
use Rattle.larch_term.specs.Sorts.{sort_of}
use Rattle.larch_term.specs.Tree.{Tree, Forest, var, app, none, more}
use Rattle.larch_term.specs.Truth.{truth}
use Rattle.larch_term.specs.Variable.{occurrences}
use Rattle.larch_term.specs.declared.statement.Statement.{Statement}
use Rattle.larch_term.specs.declared.statement.Statement.TheVariants.{Equation, Generated, Partitioned}
use Rattle.larch_term.specs.declared.statement.Theory.{Theory}
use Rattle.larch_term.specs.declared.substitution.Entry.{Entry}
use Rattle.larch_term.specs.declared.variable.Variable.{Variable}
use Rattle.larch_verify_meaning.proofs.RenamingRenamed.{renamed_sort, renamed_put}
use Rattle.larch_verify_meaning.specs.RenamingRenaming.{Renaming, rename_tree, renamed_all}
use Rattle.larch_verify_meaning.specs.RenamingRenaming.{renamed_variable, renamed_entry}
use Rattle.larch_verify_meaning.specs.RenamingRenaming.{renamed_statement}
use Rattle.larch_verify_meaning.proofs.CalculusRenamed.{renamed_at, renamed_substituted}
use Rattle.larch_verify_meaning.proofs.CalculusRenamedHypotheses.{truth_renamed, falsity_renamed, equality_renamed}
use Rattle.larch_verify_meaning.proofs.CalculusRenamedHypotheses.{constants_renamed, equation_renamed}
use Rattle.larch_verify_meaning.proofs.CalculusRenamedHypotheses.{induction_renamed}
use Rattle.larch_verify_meaning.specs.CalculusFormula.{falsity, equality}
use Rattle.larch_verify_meaning.specs.CalculusFreed.{place_of, variable_for, free_constants, freed_all}
use Rattle.larch_verify_meaning.specs.CalculusGeneration.{constant_terms, equation_at, induction_hypotheses}
use Rattle.larch_verify_meaning.specs.CalculusRenaming.{KeepsSortsApart, IsFaithful}
use Rattle.larch_certificate.specs.declared.line.BoxPart.{BoxPart}
use Rattle.larch_certificate.specs.declared.line.CodedVar.{CodedVar}
use Rattle.larch_verify_meaning.specs.BoxRules.{freed_equation, freed_result, equation_alone, only_left_side, supposes}
use Rattle.larch_verify_meaning.specs.BoxRules.{common_result, cases_of, shows_case, shows_cases, induct_over}
use Rattle.larch_verify_meaning.specs.Context.{find_closed}
use Rattle.larch_verify_meaning.specs.Events.{PlainBox, part_operator, operators_from, operators_of, Event}
use Rattle.larch_verify_meaning.specs.Matching.{is_empty, same_statements, variable_of, has_constants}
use Rattle.larch_verify_meaning.specs.Rules.{exchange_sides, instance_by, stands_at, replace_right, equality_sides}
use Rattle.larch_verify_meaning.specs.Rules.{stated_equal}
use Rattle.larch_verify_law.specs.Carrying.{IsEquation, IsMove}
use Rattle.larch_verify_law.specs.Moves.{Move, moved_part, moved_variable, moved_box}
use Rattle.larch_verify_law.proofs.Contexts.{part_name}
use Rattle.larch_verify_law.proofs.MovedTerms.{bound}
use Rattle.larch_verify_law.proofs.MovedTests.{same_bytes, is_same, are_same, chosen, empty_mapped, absent_moved}
use Rattle.larch_verify_law.proofs.MovedTests.{operators_moved, constants_moved, statements_moved, statement_moved}
use Rattle.larch_verify_law.proofs.MovedTests.{name_test}
use Rattle.larch_verify_law.proofs.Told.{cond_then, map_or_true, bytes_told, statement_told, place_told}

-- sym
pub exchange_moved : (r : Renaming) (s z : Statement) → exchange_sides s ≡ Some z
    → exchange_sides (renamed_statement r s) ≡ Some (renamed_statement r z)
exchange_moved r (Equation a b) z e = ap (option_map (renamed_statement r)) e
exchange_moved r (Generated s fs) z e = cc
exchange_moved r (Partitioned s fs) z e = cc

-- inst
pub instance_moved : (r : Renaming) → KeepsSortsApart r → (es : List Entry) (s z : Statement)
    → instance_by es s ≡ Some z
    → instance_by (map (renamed_entry r) es) (renamed_statement r s) ≡ Some (renamed_statement r z)
instance_moved r k es (Equation a b) z e =
    (λ i. Some (Equation (sym (renamed_substituted r k es a) i) (sym (renamed_substituted r k es b) i)))
    ∙ ap (option_map (renamed_statement r)) e
instance_moved r k es (Generated s fs) z e = cc
instance_moved r k es (Partitioned s fs) z e = cc

-- repl
pub replace_moved : (r : Renaming) (p : List ℕ) (s q z : Statement) → replace_right p s q ≡ Some z
    → replace_right p (renamed_statement r s) (renamed_statement r q) ≡ Some (renamed_statement r z)
replace_moved r p (Equation a b) (Equation u v) z e =
    let c = cond_some (stands_at b p u) (Equation a (put b p v)) z e in
    let x = rename_tree r u in
    chosen (stands_at (rename_tree r b) p x) (Equation (rename_tree r a) (put (rename_tree r b) p (rename_tree r v)))
    (ap (λ o. option_map_or (λ w. same_tree w x) o false) (renamed_at r b p u (place_told b p u c.0))
    ∙ (tree_Decides x x).1 refl)
    ∙ (λ i. Some (Equation (rename_tree r a) (sym (renamed_put r b p v) i))) ∙ ap (λ w. Some
    (renamed_statement r w)) c.1
replace_moved r p (Equation a b) (Generated s fs) z e = cc
replace_moved r p (Equation a b) (Partitioned s fs) z e = cc
replace_moved r p (Generated s fs) q z e = cc
replace_moved r p (Partitioned s fs) q z e = cc

-- equal
sides_moved : (r : Renaming) → IsFaithful r → (s : Statement) (a b : Tree) (z : Statement)
    → equality_sides s a b ≡ Some z
    → equality_sides (renamed_statement r s) (rename_tree r a) (rename_tree r b) ≡ Some (renamed_statement r z)
sides_moved r h s a b z e =
    let old = Equation (equality (sort_of a) a b) truth in
    let x = rename_tree r a in
    let y = rename_tree r b in
    let new = Equation (equality (sort_of x) x y) truth in
    let c = cond_some (same_statement s old) (Equation a b) z e in
    chosen (same_statement (renamed_statement r s) new) (Equation x y)
    (is_same (renamed_statement r s) new
    (statement_moved r s old c.0
    ∙ (λ i. Equation (equality_renamed r h.built_in (sort_of a) a b i) (truth_renamed r h.built_in i))
    ∙ (λ i. Equation (equality (sym (renamed_sort r h.signatures a) i) x y) truth)))
    ∙ ap (λ w. Some (renamed_statement r w)) c.1

pub stated_moved : (r : Renaming) → IsFaithful r → (s z : Statement) → stated_equal s ≡ Some z
    → stated_equal (renamed_statement r s) ≡ Some (renamed_statement r z)
stated_moved r h (Equation a b) z e =
    let old = Equation a b in
    let new = renamed_statement r old in
    let x = rename_tree r a in
    option_and_then_some (λ s. option_and_then (equality_sides old s) (at a (2 ∷ []))) (at a (1 ∷ [])) z e
    (λ u p q. option_and_then_some (equality_sides old u) (at a (2 ∷ [])) z q
    (λ v i j.
    bound (λ s. option_and_then (equality_sides new s) (at x (2 ∷ []))) (at x (1 ∷ [])) (rename_tree r u)
    (renamed_statement r z) (renamed_at r a (1 ∷ []) u p)
    (bound (equality_sides new (rename_tree r u)) (at x (2 ∷ [])) (rename_tree r v) (renamed_statement r z)
    (renamed_at r a (2 ∷ []) v i) (sides_moved r h old u v z j))))
stated_moved r h (Generated s fs) z e = cc
stated_moved r h (Partitioned s fs) z e = cc

-- fresh: a box's constants stand where they stood
place_moved : (m : Move) (t u : Theory) → IsMove m t u → (b k : ℕ) (ps : List BoxPart) (f : PlainOperator)
    → place_of (map m.renaming.operator (operators_from b k ps)) (m.renaming.operator f).name
    ≡ place_of (operators_from b k ps) f.name
place_moved m t u x b k [] f = refl
place_moved m t u x b k (p ∷ ps) f =
    λ i. cond (name_test m t u x (part_operator b k p) f b k (part_name b k p) i) (Some 0)
    (option_map suc (place_moved m t u x b (suc k) ps f i))

variable_moved : (r : Renaming) (vs : List Variable) (o : Option ℕ)
    → option_and_then (slice_get (map (renamed_variable r) vs)) o
    ≡ option_map (renamed_variable r) (option_and_then (slice_get vs) o)
variable_moved r vs None = refl
variable_moved r vs (Some k) = slice_get-map (renamed_variable r) vs k

-- the operator's variable, or the term
abbrev or_variable : Option Variable → Tree → Tree
or_variable o a = unwrap_or (option_map (λ v. var v.name v.sort) o) a

or_moved : (r : Renaming) (o : Option Variable) (a : Tree)
    → rename_tree r (or_variable o a) ≡ or_variable (option_map (renamed_variable r) o) (rename_tree r a)
or_moved r None a = refl
or_moved r (Some v) a = refl

-- operators keep their places among others
abbrev KeepsPlaces : Renaming → List PlainOperator → Type 0
KeepsPlaces r cs =
    (f : PlainOperator) → place_of (map r.operator cs) (r.operator f).name ≡ place_of cs f.name

mutual
  free_moved : (r : Renaming) (cs : List PlainOperator) (vs : List Variable) → KeepsPlaces r cs → (a : Tree)
      → rename_tree r (free_constants cs vs a)
      ≡ free_constants (map r.operator cs) (map (renamed_variable r) vs) (rename_tree r a)
  free_moved r cs vs k (var n s) = refl
  free_moved r cs vs k (app f ts) =
      or_moved r (variable_for cs vs f.name) (app f (freed_all cs vs ts))
      ∙ (λ i. or_variable
      (sym (ap (option_and_then (slice_get (map (renamed_variable r) vs))) (k f)
      ∙ variable_moved r vs (place_of cs f.name)) i) (app (r.operator f) (free_all_moved r cs vs k ts i)))

  free_all_moved : (r : Renaming) (cs : List PlainOperator) (vs : List Variable) → KeepsPlaces r cs → (ts : Forest)
      → renamed_all r (freed_all cs vs ts)
      ≡ freed_all (map r.operator cs) (map (renamed_variable r) vs) (renamed_all r ts)
  free_all_moved r cs vs k none = refl
  free_all_moved r cs vs k (more a ts) = λ i. more (free_moved r cs vs k a i) (free_all_moved r cs vs k ts i)

-- the equation that is freed, and what it becomes
freed_equation_moved : (r : Renaming) (cs : List PlainOperator) (vs : List Variable) → KeepsPlaces r cs
    → (s z : Statement) → freed_equation cs vs s ≡ Some z
    → IsEquation s
    × (freed_equation (map r.operator cs) (map (renamed_variable r) vs) (renamed_statement r s)
    ≡ Some (renamed_statement r z))
freed_equation_moved r cs vs k (Equation a b) z e = (
  tt,
  (λ i. Some (Equation (sym (free_moved r cs vs k a) i) (sym (free_moved r cs vs k b) i)))
      ∙ ap (option_map (renamed_statement r)) e,
)
freed_equation_moved r cs vs k (Generated s fs) z e = cc
freed_equation_moved r cs vs k (Partitioned s fs) z e = cc

pub fresh_moved : (m : Move) (t u : Theory) → IsMove m t u → (b : PlainBox) (s : Statement) (vs : List CodedVar)
    (z : Statement) → freed_result b s (map variable_of vs) ≡ Some z
    → IsEquation s
    × (freed_result (moved_box m b) (renamed_statement m.renaming s) (map variable_of (map (moved_variable m) vs))
    ≡ Some (renamed_statement m.renaming z))
fresh_moved m t u x b s vs z e =
    let r = m.renaming in
    let old = map variable_of vs in
    let new = map variable_of (map (moved_variable m) vs) in
    let bare = is_empty b.hypotheses in
    let test = has_constants b (map (λ v. v.sort) old) in
    let c = cond_then (bare && test) (freed_equation (operators_of b) old s) z e in
    let vars : map (renamed_variable r) old ≡ new =
    map_map (renamed_variable r) variable_of vs ∙ sym (map_map variable_of (moved_variable m) vs) in
    let sorts : map r.sort (map (λ v. v.sort) old) ≡ map (λ v. v.sort) new =
    map_map r.sort (λ v. v.sort) old ∙ sym (map_map (λ v. v.sort) (renamed_variable r) old)
    ∙ ap (map (λ v. v.sort)) vars in
    let f = freed_equation_moved r (operators_of b) old (place_moved m t u x b.number 1 b.parts) s z c.1 in
    let passes : (is_empty (moved_box m b).hypotheses && has_constants (moved_box m b) (map (λ v. v.sort) new)) ≡ true =
    and_both (is_empty (moved_box m b).hypotheses) (has_constants (moved_box m b) (map (λ v. v.sort) new))
    (empty_mapped (renamed_statement r) b.hypotheses ∙ and_left bare test c.0)
    (ap (has_constants (moved_box m b)) (sym sorts)
    ∙ constants_moved m b (map (λ v. v.sort) old) (and_right bare test c.0)) in (
      f.0,
      ap (λ y. cond y (freed_equation (operators_of (moved_box m b)) new (renamed_statement r s)) None) passes
          ∙ (λ i. freed_equation (sym (operators_moved m t u x b) i) (sym vars i) (renamed_statement r s)) ∙ f.1,
    )

-- cases
left_side_moved : (r : Renaming) (hs : List Statement) (f : Tree) → only_left_side hs ≡ Some f
    → only_left_side (map (renamed_statement r) hs) ≡ Some (rename_tree r f)
left_side_moved r [] f e = cc
left_side_moved r (Equation a b ∷ []) f e = ap (option_map (rename_tree r)) e
left_side_moved r (Generated s fs ∷ []) f e = cc
left_side_moved r (Partitioned s fs ∷ []) f e = cc
left_side_moved r (Equation a b ∷ h ∷ hs) f e = cc
left_side_moved r (Generated s fs ∷ h ∷ hs) f e = cc
left_side_moved r (Partitioned s fs ∷ h ∷ hs) f e = cc

supposes_moved : (m : Move) (b : PlainBox) (f v : Tree) → rename_tree m.renaming v ≡ v → supposes b f v ≡ true
    → supposes (moved_box m b) (rename_tree m.renaming f) v ≡ true
supposes_moved m b f v k e =
    let r = m.renaming in
    let test = same_statements b.hypotheses (Equation f v ∷ []) in
    and_both (is_empty (moved_box m b).parts)
    (same_statements (moved_box m b).hypotheses (Equation (rename_tree r f) v ∷ []))
    (empty_mapped (moved_part m) b.parts ∙ and_left (is_empty b.parts) test e)
    (are_same (moved_box m b).hypotheses (Equation (rename_tree r f) v ∷ [])
    (statements_moved r b.hypotheses (Equation f v ∷ []) (and_right (is_empty b.parts) test e)
    ∙ ap (λ w. Equation (rename_tree r f) w ∷ []) k))

alone_moved : (r : Renaming) (s z : Statement) → equation_alone s ≡ Some z
    → IsEquation s × (equation_alone (renamed_statement r s) ≡ Some (renamed_statement r z))
alone_moved r (Equation a b) z e = (tt, ap (option_map (renamed_statement r)) e)
alone_moved r (Generated s fs) z e = cc
alone_moved r (Partitioned s fs) z e = cc

-- the closed box and its result, moved
abbrev pub moved_closed : Move → PlainBox × Statement → PlainBox × Statement
moved_closed m c = (moved_box m c.0, renamed_statement m.renaming c.1)

common_moved : (m : Move) → IsFaithful m.renaming → (c d : PlainBox × Statement) (f : Tree) (z : Statement)
    → common_result c d f ≡ Some z
    → IsEquation c.1 × IsEquation d.1
    × (common_result (moved_closed m c) (moved_closed m d) (rename_tree m.renaming f)
    ≡ Some (renamed_statement m.renaming z))
common_moved m h c d f z e =
    let r = m.renaming in
    let g = rename_tree r f in
    let yes = supposes c.0 f truth in
    let no = supposes d.0 f falsity in
    let closed = is_empty (occurrences f) in
    let same = same_statement c.1 d.1 in
    let w = cond_then (yes && (no && (closed && same))) (equation_alone c.1) z e in
    let second = and_right yes (no && (closed && same)) w.0 in
    let third = and_right no (closed && same) second in
    let equal : c.1 ≡ d.1 = statement_told c.1 d.1 (and_right closed same third) in
    let a = alone_moved r c.1 z w.1 in
    let yes_new = supposes (moved_box m c.0) g truth in
    let no_new = supposes (moved_box m d.0) g falsity in
    let closed_new = is_empty (occurrences g) in
    let same_new = same_statement (renamed_statement r c.1) (renamed_statement r d.1) in (
      a.0,
      subst IsEquation equal a.0,
      ap (λ b. cond b (equation_alone (renamed_statement r c.1)) None)
          (and_both yes_new (no_new && (closed_new && same_new))
          (supposes_moved m c.0 f truth (truth_renamed r h.built_in) (and_left yes (no && (closed && same)) w.0))
          (and_both no_new (closed_new && same_new)
          (supposes_moved m d.0 f falsity (falsity_renamed r h.built_in) (and_left no (closed && same) second))
          (and_both closed_new same_new (absent_moved r f (and_left closed same third))
          (is_same (renamed_statement r c.1) (renamed_statement r d.1) (ap (renamed_statement r) equal)))))
          ∙ a.1,
    )

pub cases_moved : (m : Move) → IsFaithful m.renaming → (c d : PlainBox × Statement) (z : Statement)
    → cases_of c d ≡ Some z
    → IsEquation c.1 × IsEquation d.1
    × (cases_of (moved_closed m c) (moved_closed m d) ≡ Some (renamed_statement m.renaming z))
cases_moved m h c d z e =
    let r = m.renaming in
    option_and_then_some (common_result c d) (only_left_side c.0.hypotheses) z e
    (λ f p q.
    let w = common_moved m h c d f z q in (
      w.0,
      w.1,
      bound (common_result (moved_closed m c) (moved_closed m d))
          (only_left_side (map (renamed_statement r) c.0.hypotheses)) (rename_tree r f) (renamed_statement r z)
          (left_side_moved r c.0.hypotheses f p) w.2,
    ))

-- induct
case_moved : (m : Move) (t u : Theory) → IsMove m t u → (x : CodedVar) (a b : Tree) (f : PlainOperator)
    (c : PlainBox × Statement) → shows_case x a b f c ≡ true
    → IsEquation c.1
    × (shows_case (moved_variable m x) (rename_tree m.renaming a) (rename_tree m.renaming b) (m.renaming.operator f)
    (moved_closed m c) ≡ true)
case_moved m t u x v a b f c e =
    let r = m.renaming in
    let h = x.faithful in
    let d = moved_box m c.0 in
    let made = operators_of c.0 in
    let hs = induction_hypotheses v.name v.sort a b made in
    let goal = equation_at v.name v.sort a b (app f (constant_terms made)) in
    let left = rename_tree r a in
    let right = rename_tree r b in
    let hs_new = induction_hypotheses v.name (r.sort v.sort) left right (operators_of d) in
    let goal_new = equation_at v.name (r.sort v.sort) left right (app (r.operator f) (constant_terms
    (operators_of d))) in
    let constants = has_constants c.0 f.domain in
    let supposed = same_statements c.0.hypotheses hs in
    let shown = same_statement c.1 goal in
    let rest = and_right constants (supposed && shown) e in
    let result : c.1 ≡ goal = statement_told c.1 goal (and_right supposed shown rest) in (
      subst IsEquation (sym result) tt,
      and_both (has_constants d (r.operator f).domain)
          (same_statements d.hypotheses hs_new && same_statement (renamed_statement r c.1) goal_new)
          (ap (has_constants d) (h.signatures.domain f)
          ∙ constants_moved m c.0 f.domain (and_left constants (supposed && shown) e))
          (and_both (same_statements d.hypotheses hs_new) (same_statement (renamed_statement r c.1) goal_new)
          (are_same d.hypotheses hs_new
          (statements_moved r c.0.hypotheses hs (and_left supposed shown rest)
          ∙ induction_renamed r h v.name v.sort a b made
          ∙ ap (induction_hypotheses v.name (r.sort v.sort) left right) (operators_moved m t u x c.0)))
          (is_same (renamed_statement r c.1) goal_new
          (ap (renamed_statement r) result
          ∙ equation_renamed r h.apart v.name v.sort a b (app f (constant_terms made))
          ∙ ap (λ ts. equation_at v.name (r.sort v.sort) left right (app (r.operator f) ts))
          (constants_renamed r made ∙ ap constant_terms (operators_moved m t u x c.0))))),
    )

-- closed boxes with equations as results are found moved
abbrev pub ClosedMoved : Move → List Event → List Event → Type 0
ClosedMoved m h g =
    (b : ℕ) (c : PlainBox × Statement) → IsEquation c.1 → find_closed h b ≡ Some c
    → find_closed g (m.box b) ≡ Some (moved_closed m c)

cases_shown_moved : (m : Move) (t u : Theory) → IsMove m t u → (h g : List Event) → ClosedMoved m h g → (x : CodedVar)
    (s : Statement) (fs : List PlainOperator) (bs : List ℕ) → shows_cases h x s fs bs ≡ true
    → shows_cases g (moved_variable m x) (renamed_statement m.renaming s) (map m.renaming.operator fs) (map m.box bs)
    ≡ true
cases_shown_moved m t u x h g k v (Equation a b) [] [] e = refl
cases_shown_moved m t u x h g k v (Equation a b) [] (n ∷ ns) e = cc
cases_shown_moved m t u x h g k v (Equation a b) (f ∷ fs) [] e = cc
cases_shown_moved m t u x h g k v (Equation a b) (f ∷ fs) (n ∷ ns) e =
    let r = m.renaming in
    let first = option_map_or (shows_case v a b f) (find_closed h n) false in
    let rest = shows_cases h v (Equation a b) fs ns in
    let new = shows_case (moved_variable m v) (rename_tree r a) (rename_tree r b) (r.operator f) in
    and_both (option_map_or new (find_closed g (m.box n)) false)
    (shows_cases g (moved_variable m v) (renamed_statement r (Equation a b)) (map r.operator fs) (map m.box ns))
    (map_or_true (shows_case v a b f) (find_closed h n) (and_left first rest e)
    (λ c p q.
    let w = case_moved m t u x v a b f c q in
    ap (λ o. option_map_or new o false) (k n c w.0 p) ∙ w.1))
    (cases_shown_moved m t u x h g k v (Equation a b) fs ns (and_right first rest e))
cases_shown_moved m t u x h g k v (Generated s gs) fs bs e = cc
cases_shown_moved m t u x h g k v (Partitioned s gs) fs bs e = cc

pub induct_moved : (m : Move) (t u : Theory) → IsMove m t u → (h g : List Event) → ClosedMoved m h g → (x : CodedVar)
    (bs : List ℕ) (s c z : Statement) → induct_over h x bs s c ≡ Some z
    → induct_over g (moved_variable m x) (map m.box bs) (renamed_statement m.renaming s)
    (renamed_statement m.renaming c) ≡ Some (renamed_statement m.renaming z)
induct_moved m t u x h g k v bs s (Generated q fs) z e =
    let r = m.renaming in
    let shown = shows_cases h v s fs bs in
    let c = cond_some (bytes_eq q v.sort && shown) s z e in
    let shown_new = shows_cases g (moved_variable m v) (renamed_statement r s) (map r.operator fs) (map m.box bs) in
    chosen (bytes_eq (r.sort q) (r.sort v.sort) && shown_new) (renamed_statement r s)
    (and_both (bytes_eq (r.sort q) (r.sort v.sort)) shown_new
    (same_bytes (r.sort q) (r.sort v.sort)
    (ap r.sort (bytes_told q v.sort (and_left (bytes_eq q v.sort) shown c.0))))
    (cases_shown_moved m t u x h g k v s fs bs (and_right (bytes_eq q v.sort) shown c.0)))
    ∙ ap (λ w. Some (renamed_statement r w)) c.1
induct_moved m t u x h g k v bs s (Equation a b) z e = cc
induct_moved m t u x h g k v bs s (Partitioned q fs) z e = cc
