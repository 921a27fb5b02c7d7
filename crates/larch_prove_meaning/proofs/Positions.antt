-- What a command does doesn't depend on positions.
use Rattle.std.specs.Prelude.{◌≡◌, ◌+◌, ◌&&◌, nat_lt, ℕ, suc, Bool, true, false, not, cond, List, [], ◌∷◌, ◌++◌, ◌||◌}
use Rattle.std.specs.Prelude.{map, filter, find}
use Rattle.std.specs.Prelude.{is_some, Option, Some, None, option_map, bytes_eq, Result, Ok, Err, refl}
use Rattle.std.specs.List.{flat_map, list_all, list_any}
use Rattle.std.proofs.Common.{ap, ap₂, ◌∙◌, sym}
use Rattle.larch_base.specs.declared.code.Code.{Code}
use Rattle.larch_base.specs.declared.code.Code.TheVariants.{Ambiguous, NoReading, UnknownSort}
use Rattle.larch_base.specs.declared.code.Code.TheVariants as refusal
use Rattle.larch_base.specs.declared.fact_name.FactName.{FactName}
use Rattle.larch_base.specs.declared.limits.TheConstants.{MAX_COMMANDS}
use Rattle.larch_base.specs.declared.fault.Fault.{Fault}
use Rattle.larch_base.specs.declared.position.Pos.{Pos}
use Rattle.larch_base.specs.declared.way.Way.{Way}
use Rattle.larch_raw.specs.RawTree.{RawTree, RawForest, apply, qualified, no_more, one_more}
use Rattle.larch_raw.specs.declared.declared.RawOpRef.{RawOpRef}
use Rattle.larch_raw.specs.declared.declared.RawSig.{RawSig}
use Rattle.larch_raw.specs.declared.declared.RawWord.{RawWord}
use Rattle.larch_raw.specs.declared.equation.RawEquation.{RawEquation}
use Rattle.larch_raw.specs.declared.equation.RawRight.{RawRight}
use Rattle.larch_script_commands.specs.Bare.{bare_all, bare_equation, bare_instance, bare_kind, bare_reference}
use Rattle.larch_script_commands.specs.Bare.{bare_right, bare_signature, bare_tree, bare_word}
use Rattle.larch_script_commands.specs.declared.command.CommandKind.{CommandKind}
use Rattle.larch_script_commands.specs.declared.command.CommandKind.TheVariants as command
use Rattle.larch_script_commands.specs.declared.command.RawInstance.{RawInstance}
use Rattle.larch_term.specs.Operator.{PlainOperator, plain}
use Rattle.larch_term.specs.BuiltIn.{bool_sort}
use Rattle.larch_term.specs.Tree.{Tree, more}
use Rattle.larch_term.specs.Equality.{same_name, same_operator, same_statement, same_tree}
use Rattle.larch_term.specs.Sorts.{sort_of}
use Rattle.larch_term.specs.declared.statement.Statement.TheVariants.{Equation}
use Rattle.larch_rewrite_meaning.specs.CalculusFormula.{formula}
use Rattle.larch_base_meaning.specs.Steps.{after}
use Rattle.larch_order.specs.SortsKnownSorts.{exists_sort}
use Rattle.larch_sorts_meaning.specs.Faults.{fault, fault_at, unless}
use Rattle.larch_sorts_meaning.specs.Parts.{parts, parts_of, sides, in_sides, right_sides, head_of}
use Rattle.larch_sorts_meaning.specs.Read.{is_empty, unread_in, first_unread, only, answer, read_equation, read_term}
use Rattle.larch_sorts_meaning.specs.ReadingLists.{readings, choices, applications, variable_or, right_readings}
use Rattle.larch_sorts_meaning.specs.ReadingLists.{equation_readings, lone_readings}
use Rattle.larch_sorts_meaning.specs.Readings.{variable_sort}
use Rattle.larch_sorts_meaning.specs.Scope.{Variables}
use Rattle.larch_sorts_meaning.specs.Signature.{taking_part}
use Rattle.larch_sorts_meaning.specs.Unknown.{sort_words, sort_words_of, unknown_among, unknown_sort}
use Rattle.larch_order.specs.Precedence.{raise, with_status}
use Rattle.larch_rewrite_meaning.specs.Sides.{Sides, sides_under}
use Rattle.larch_prove_meaning.specs.Levels.{Proof, derived_by, settle_goal, unless as unless_code}
use Rattle.larch_prove_meaning.specs.Plans.{Cases, with_found}
use Rattle.larch_prove_meaning.specs.Redo.{Replayed, begin_alike}
use Rattle.larch_prove_meaning.specs.Replays.{AtCommand, AtOpening, Duty, InPreamble, all_prepared, all_stepped}
use Rattle.larch_prove_meaning.specs.Replays.{begun_with, blank, by_kind, count_command, duty_opened, locate, prepare}
use Rattle.larch_prove_meaning.specs.Replays.{step, told_number, unless_marks_wait, unless_proved}
use Rattle.larch_prove_meaning.specs.Steps.{as_sides, carried_out, declare, fact_named, has_signature, heighten}
use Rattle.larch_prove_meaning.specs.Steps.{instantiate, instantiation, is_referred, level_opened, own_operators}
use Rattle.larch_prove_meaning.specs.Steps.{read_lone, read_or, read_sides, refer, resume, serves_beside, stands_once}
use Rattle.larch_prove_meaning.specs.Steps.{texts, the_only, variable_in, with_way}
use Rattle.larch_prove_meaning.proofs.Redone.{alike_Decides}

map_append : {A B : Type 0} (f : A → B) (xs ys : List A) → map f (xs ++ ys) ≡ map f xs ++ map f ys
map_append f [] ys = refl
map_append f (x ∷ xs) ys = ap (λ zs. f x ∷ zs) (map_append f xs ys)

variable_bare : (vs : Variables) (n : List ℕ) (raws : RawForest)
    → variable_sort vs n (bare_all raws) ≡ variable_sort vs n raws
variable_bare vs n no_more = refl
variable_bare vs n (one_more raw raws) = refl

mutual
  unfolding readings

  readings_bare : (fs : List PlainOperator) (vs : Variables) (raw : RawTree)
      → readings fs vs (bare_tree raw) ≡ readings fs vs raw
  readings_bare fs vs (apply n raws p) =
      ap₂ (λ v cs. variable_or v n (flat_map (applications n cs) (taking_part fs))) (variable_bare vs n raws)
      (choices_bare fs vs raws)
  readings_bare fs vs (qualified raw w p) =
      ap (λ ts. filter (λ t. bytes_eq (sort_of t) w.name) ts) (readings_bare fs vs raw)

  choices_bare : (fs : List PlainOperator) (vs : Variables) (raws : RawForest)
      → choices fs vs (bare_all raws) ≡ choices fs vs raws
  choices_bare fs vs no_more = refl
  choices_bare fs vs (one_more raw raws) =
      ap₂ (λ cs ts. flat_map (λ t. map (more t) cs) ts) (choices_bare fs vs raws) (readings_bare fs vs raw)

-- words without their positions
abbrev names_of : List RawWord → List (List ℕ)
names_of ws = map (λ w. w.name) ws

names_append : (xs ys : List RawWord) → names_of (xs ++ ys) ≡ names_of xs ++ names_of ys
names_append [] ys = refl
names_append (x ∷ xs) ys = ap (λ ns. x.name ∷ ns) (names_append xs ys)

mutual
  words_bare : (raw : RawTree)
      → names_of (sort_words (bare_tree raw)) ≡ names_of (sort_words raw)
  words_bare (apply n raws p) = all_words_bare raws
  words_bare (qualified raw w p) =
      names_append (sort_words (bare_tree raw)) _
      ∙ (ap (λ ns. ns ++ w.name ∷ []) (words_bare raw)
      ∙ sym (names_append (sort_words raw) (w ∷ [])))

  all_words_bare : (raws : RawForest)
      → names_of (sort_words_of (bare_all raws)) ≡ names_of (sort_words_of raws)
  all_words_bare no_more = refl
  all_words_bare (one_more raw raws) =
      names_append (sort_words (bare_tree raw)) (sort_words_of (bare_all raws))
      ∙ (ap₂ (λ ms ns. ms ++ ns) (words_bare raw) (all_words_bare raws)
      ∙ sym (names_append (sort_words raw) (sort_words_of raws)))

-- the parts of two terms are read alike, one by one
mutual
  found_bare : (fs : List PlainOperator) (vs : Variables) (raw : RawTree)
      → map (λ r. is_empty (readings fs vs r)) (parts (bare_tree raw))
      ≡ map (λ r. is_empty (readings fs vs r)) (parts raw)
  found_bare fs vs (apply n raws p) =
      map_append (λ r. is_empty (readings fs vs r)) (parts_of (bare_all raws)) _
      ∙ (ap₂ (λ xs x. xs ++ x ∷ []) (all_found_bare fs vs raws)
      (ap is_empty (readings_bare fs vs (apply n raws p)))
      ∙ sym (map_append (λ r. is_empty (readings fs vs r)) (parts_of raws) (apply n raws p ∷ [])))
  found_bare fs vs (qualified raw w p) =
      map_append (λ r. is_empty (readings fs vs r)) (parts (bare_tree raw)) _
      ∙ (ap₂ (λ xs x. xs ++ x ∷ []) (found_bare fs vs raw)
      (ap is_empty (readings_bare fs vs (qualified raw w p)))
      ∙ sym (map_append (λ r. is_empty (readings fs vs r)) (parts raw) (qualified raw w p ∷ [])))

  all_found_bare : (fs : List PlainOperator) (vs : Variables) (raws : RawForest)
      → map (λ r. is_empty (readings fs vs r)) (parts_of (bare_all raws))
      ≡ map (λ r. is_empty (readings fs vs r)) (parts_of raws)
  all_found_bare fs vs no_more = refl
  all_found_bare fs vs (one_more raw raws) =
      map_append (λ r. is_empty (readings fs vs r)) (parts (bare_tree raw))
      (parts_of (bare_all raws))
      ∙ (ap₂ (λ xs ys. xs ++ ys) (found_bare fs vs raw) (all_found_bare fs vs raws)
      ∙ sym (map_append (λ r. is_empty (readings fs vs r)) (parts raw) (parts_of raws)))

-- whether a test is passed somewhere, by the tests' answers alone
found_by_tests : {A B : Type 0} (f : A → B) (test : A → Bool) (xs : List A)
    → is_some (option_map f (find test xs)) ≡ list_any (λ b. b) (map test xs)
found_by_tests f test [] = refl
found_by_tests f test (x ∷ xs) =
    elim (test x) as (λ b. is_some (option_map f (cond b (Some x) (find test xs)))
    ≡ (b || list_any (λ c. c) (map test xs))) [
      | true ↦ refl
      | false ↦ found_by_tests f test xs
    ]

-- whether sorts don't exist
abbrev unknown_names : List PlainOperator → List (List ℕ) → List Bool
unknown_names fs ns = map (λ n. not (exists_sort fs n)) ns

unknown_by_names : (fs : List PlainOperator) (ws : List RawWord)
    → map (λ w. not (exists_sort fs w.name)) ws ≡ unknown_names fs (names_of ws)
unknown_by_names fs [] = refl
unknown_by_names fs (w ∷ ws) = ap (λ bs. not (exists_sort fs w.name) ∷ bs) (unknown_by_names fs ws)

words_beside : (l : RawTree) (right : Option RawRight)
    → names_of (in_sides sort_words (bare_tree l ∷ right_sides (option_map bare_right right)))
    ≡ names_of (in_sides sort_words (l ∷ right_sides right))
words_beside l None =
    names_append (sort_words (bare_tree l)) [] ∙ (ap (λ ns. ns ++ []) (words_bare l)
    ∙ sym (names_append (sort_words l) []))
words_beside l (Some r) =
    names_append (sort_words (bare_tree l))
    (sort_words (bare_tree r.term) ++ [])
    ∙ (ap₂ (λ ms ns. ms ++ ns) (words_bare l)
    (names_append (sort_words (bare_tree r.term)) [] ∙ (ap (λ ns. ns ++ []) (words_bare r.term)
    ∙ sym (names_append (sort_words r.term) [])))
    ∙ sym (names_append (sort_words l) (sort_words r.term ++ [])))

sides_words : (raw : RawEquation)
    → names_of (in_sides sort_words (sides (bare_equation raw))) ≡ names_of (in_sides sort_words (sides raw))
sides_words raw = words_beside raw.left raw.right

unknown_bare : (fs : List PlainOperator) (raw : RawEquation)
    → is_some (unknown_sort fs (bare_equation raw)) ≡ is_some (unknown_sort fs raw)
unfolding unknown_among
unknown_bare fs raw =
    found_by_tests (λ w. w.pos) (λ w. not (exists_sort fs w.name)) (in_sides sort_words (sides (bare_equation raw)))
    ∙ (ap (list_any (λ b. b)) (unknown_by_names fs (in_sides sort_words (sides (bare_equation raw)))
    ∙ (ap (unknown_names fs) (sides_words raw) ∙ sym (unknown_by_names fs (in_sides sort_words (sides raw)))))
    ∙ sym (found_by_tests (λ w. w.pos) (λ w. not (exists_sort fs w.name)) (in_sides sort_words (sides raw))))

-- whether terms have no reading
abbrev unread : List PlainOperator → Variables → List RawTree → List Bool
unread fs vs raws = map (λ r. is_empty (readings fs vs r)) raws

unread_append : (fs : List PlainOperator) (vs : Variables) (xs ys : List RawTree)
    → unread fs vs (xs ++ ys) ≡ unread fs vs xs ++ unread fs vs ys
unread_append fs vs xs ys = map_append (λ r. is_empty (readings fs vs r)) xs ys

found_beside : (fs : List PlainOperator) (vs : Variables) (l : RawTree) (right : Option RawRight)
    → unread fs vs (in_sides parts (bare_tree l ∷ right_sides (option_map bare_right right)))
    ≡ unread fs vs (in_sides parts (l ∷ right_sides right))
found_beside fs vs l None =
    unread_append fs vs (parts (bare_tree l)) [] ∙ (ap (λ bs. bs ++ []) (found_bare fs vs l)
    ∙ sym (unread_append fs vs (parts l) []))
found_beside fs vs l (Some r) =
    unread_append fs vs (parts (bare_tree l)) (parts (bare_tree r.term) ++ [])
    ∙ (ap₂ (λ ms ns. ms ++ ns) (found_bare fs vs l)
    (unread_append fs vs (parts (bare_tree r.term)) []
    ∙ (ap (λ ns. ns ++ []) (found_bare fs vs r.term)
    ∙ sym (unread_append fs vs (parts r.term) [])))
    ∙ sym (unread_append fs vs (parts l) (parts r.term ++ [])))

sides_found : (fs : List PlainOperator) (vs : Variables) (raw : RawEquation)
    → unread fs vs (in_sides parts (sides (bare_equation raw))) ≡ unread fs vs (in_sides parts (sides raw))
sides_found fs vs raw = found_beside fs vs raw.left raw.right

unread_bare : (fs : List PlainOperator) (vs : Variables) (raw : RawEquation)
    → is_some (first_unread fs vs (bare_equation raw)) ≡ is_some (first_unread fs vs raw)
unfolding unread_in
unread_bare fs vs raw =
    found_by_tests head_of (λ r. is_empty (readings fs vs r)) (in_sides parts (sides (bare_equation raw)))
    ∙ (ap (list_any (λ b. b)) (sides_found fs vs raw)
    ∙ sym (found_by_tests head_of (λ r. is_empty (readings fs vs r)) (in_sides parts (sides raw))))

-- a fault, or else an answer: only its code counts, and whether there is a fault
unless_codes : {A : Type 0} (code : Code) (p q : Option Pos) (x y : Result A Fault) → is_some p ≡ is_some q
    → read_or x ≡ read_or y → read_or (unless (fault_at code p) x) ≡ read_or (unless (fault_at code q) y)
unless_codes code None None x y e h = h
unless_codes code None (Some b) x y e h = cc
unless_codes code (Some a) None x y e h = cc
unless_codes code (Some a) (Some b) x y e h = refl

only_codes : {A : Type 0} (same : A → A → Bool) (a b : RawEquation) (xs : List A)
    → read_or (only same a xs) ≡ read_or (only same b xs)
only_codes same a b [] = refl
only_codes same a b (x ∷ xs) =
    elim (list_all (same x) xs) as (λ t. read_or (cond t (Ok x) (Err (fault Ambiguous a.first)))
    ≡ read_or (cond t (Ok x) (Err (fault Ambiguous b.first)))) [ true ↦ refl | false ↦ refl ]

answer_bare : {A : Type 0} (fs : List PlainOperator) (vs : Variables) (raw : RawEquation) (same : A → A → Bool)
    (found : List A) → read_or (answer fs vs (bare_equation raw) same found) ≡ read_or (answer fs vs raw same found)
answer_bare fs vs raw same found =
    unless_codes UnknownSort (unknown_sort fs (bare_equation raw)) (unknown_sort fs raw) _ _ (unknown_bare fs raw)
    (unless_codes NoReading (first_unread fs vs (bare_equation raw)) (first_unread fs vs raw) _ _
    (unread_bare fs vs raw)
    (only_codes same (bare_equation raw) raw found))

right_read_bare : (fs : List PlainOperator) (vs : Variables) (l : Tree) (right : Option RawRight)
    → right_readings fs vs (option_map bare_right right) l ≡ right_readings fs vs right l
right_read_bare fs vs l None = refl
right_read_bare fs vs l (Some r) = ap (filter (λ t. bytes_eq (sort_of l) (sort_of t))) (readings_bare fs vs r.term)

flat_same : {A B : Type 0} (f g : A → List B) (xs : List A) → ((x : A) → f x ≡ g x) → flat_map f xs ≡ flat_map g xs
flat_same f g [] e = refl
flat_same f g (x ∷ xs) e = ap₂ (λ ys zs. ys ++ zs) (e x) (flat_same f g xs e)

equations_bare : (fs : List PlainOperator) (vs : Variables) (raw : RawEquation)
    → equation_readings fs vs (bare_equation raw) ≡ equation_readings fs vs raw
equations_bare fs vs raw =
    flat_same (λ l. map (Equation l) (right_readings fs vs (bare_equation raw).right l))
    (λ l. map (Equation l) (right_readings fs vs raw.right l)) (readings fs vs (bare_equation raw).left)
    (λ l. ap (map (Equation l)) (right_read_bare fs vs l raw.right))
    ∙ ap (flat_map (λ l. map (Equation l) (right_readings fs vs raw.right l))) (readings_bare fs vs raw.left)

lone_bare : (fs : List PlainOperator) (vs : Variables) (wanted : Option (List ℕ)) (raw : RawEquation)
    → lone_readings fs vs wanted (bare_equation raw) ≡ lone_readings fs vs wanted raw
lone_bare fs vs None raw = readings_bare fs vs raw.left
lone_bare fs vs (Some s) raw = ap (filter (λ t. bytes_eq (sort_of t) s)) (readings_bare fs vs raw.left)

-- an equation reads as the same, or is refused with the same code, whatever its positions
equation_bare : (fs : List PlainOperator) (vs : Variables) (raw : RawEquation)
    → read_or (read_equation fs vs (bare_equation raw)) ≡ read_or (read_equation fs vs raw)
unfolding read_equation
equation_bare fs vs raw =
    answer_bare fs vs raw same_statement (equation_readings fs vs (bare_equation raw))
    ∙ ap (λ found. read_or (answer fs vs raw same_statement found)) (equations_bare fs vs raw)

term_bare : (fs : List PlainOperator) (vs : Variables) (wanted : Option (List ℕ)) (raw : RawEquation)
    → read_or (read_term fs vs wanted (bare_equation raw)) ≡ read_or (read_term fs vs wanted raw)
unfolding read_term
term_bare fs vs wanted raw =
    answer_bare fs vs raw same_tree (lone_readings fs vs wanted (bare_equation raw))
    ∙ ap (λ found. read_or (answer fs vs raw same_tree found)) (lone_bare fs vs wanted raw)

-- ---- parts of commands

texts_bare : (ws : List RawWord) → texts (map bare_word ws) ≡ texts ws
texts_bare [] = refl
texts_bare (w ∷ ws) = ap (λ ns. w.name ∷ ns) (texts_bare ws)

signature_bare : (o : Option RawSig) (f : PlainOperator)
    → has_signature (option_map bare_signature o) f ≡ has_signature o f
signature_bare None f = refl
signature_bare (Some sig) f =
    ap (λ ds. same_operator f (record { name = f.name; domain = ds; range = sig.range.name })) (texts_bare sig.domain)

referred_bare : (r : RawOpRef) (f : PlainOperator) → is_referred (bare_reference r) f ≡ is_referred r f
referred_bare r f = ap (λ b. same_name f.name (plain r.form.name) && b) (signature_bare r.sig f)

refer_bare : (p : Proof) (r : RawOpRef) → refer p (bare_reference r) ≡ refer p r
refer_bare p r = λ i. the_only (filter (λ f. referred_bare r f i) (own_operators p))

height_bare : (p : Proof) (upper lower : RawOpRef)
    → heighten (bare_reference upper) (bare_reference lower) p ≡ heighten upper lower p
height_bare p upper lower = λ i.
    after (refer_bare p upper i) (λ f. after (refer_bare p lower i) (λ g. Ok (record p { ranks = raise p.ranks f g })))

status_bare : (p : Proof) (way : Way) (r : RawOpRef) → with_way way (bare_reference r) p ≡ with_way way r p
status_bare p way r = λ i. after (refer_bare p r i) (λ f. Ok (record p { ranks = with_status p.ranks f way }))

sides_bare : (p : Proof) (e : RawEquation) → read_sides p (bare_equation e) ≡ read_sides p e
sides_bare p e = ap (λ r. after r as_sides) (equation_bare (own_operators p) p.scope e)

alone_bare : (p : Proof) (s : List ℕ) (e : RawEquation) → read_lone p s (bare_equation e) ≡ read_lone p s e
alone_bare p s e = term_bare (own_operators p) p.scope (Some s) e

variables_bare : (is : List RawInstance)
    → map (λ (j : RawInstance). j.name.name) (map bare_instance is) ≡ map (λ (j : RawInstance). j.name.name) is
variables_bare [] = refl
variables_bare (i ∷ is) = ap (λ ns. i.name.name ∷ ns) (variables_bare is)

instances_bare : (p : Proof) (e : Sides) (names : List (List ℕ)) (is : List RawInstance)
    → instantiation p e names (map bare_instance is) ≡ instantiation p e names is
instances_bare p e names [] = refl
instances_bare p e names (j ∷ js) = λ i.
    with_found refusal.Variable (variable_in e j.name.name) (λ v.
    unless_code refusal.Variable (stands_once names j.name.name)
    (after (alone_bare p v.sort j.term i) (λ t.
    after (instances_bare p e names js i) (λ es. Ok (record { name = v.name; sort = v.sort; term = t } ∷ es)))))

instances_named : (p : Proof) (e : Sides) (is : List RawInstance)
    → instantiation p e (map (λ (j : RawInstance). j.name.name) (map bare_instance is)) (map bare_instance is)
    ≡ instantiation p e (map (λ (j : RawInstance). j.name.name) is) is
instances_named p e is =
    ap (λ ns. instantiation p e ns (map bare_instance is)) (variables_bare is)
    ∙ instances_bare p e (map (λ (j : RawInstance). j.name.name) is) is

instance_bare : (p : Proof) (is : List RawInstance) (n : FactName)
    → instantiate (map bare_instance is) n p ≡ instantiate is n p
instance_bare p is n = λ i.
    after (fact_named n p) (λ e.
    after (instances_named p e is i) (λ es.
    after (derived_by (serves_beside n) (sides_under es e) p) settle_goal))

-- ---- commands

carried_bare : (c : CommandKind) (p : Proof) → carried_out (bare_kind c) p ≡ carried_out c p
carried_bare (command.Declare ns s) p = ap (λ ms. declare ms s.name p) (texts_bare ns)
carried_bare (command.Height upper lower) p = height_bare p upper lower
carried_bare (command.Status way r) p = status_bare p way r
carried_bare (command.Prove e) p =
    ap (λ r. after r (λ sides. level_opened (formula sides.left sides.right) p)) (sides_bare p e)
carried_bare (command.Cases t) p = ap (λ r. after r (λ f. resume (Cases f) p)) (alone_bare p bool_sort t)
carried_bare (command.Instantiate is n) p = instance_bare p is n
carried_bare c p = refl

by_kind_bare : (c : CommandKind) (p : Proof) → by_kind (bare_kind c) p ≡ by_kind c p
by_kind_bare (command.Mark proved) p = refl
by_kind_bare command.Qed p = refl
by_kind_bare (command.BoxChecking false) p = refl
by_kind_bare c p = ap (λ x. unless_marks_wait p (unless_proved p x)) (carried_bare c p)

counted_bare : (c : CommandKind) (p : Proof) → count_command (bare_kind c) p ≡ count_command c p
counted_bare c p =
    ap (unless_code refusal.Size (nat_lt p.commands MAX_COMMANDS))
    (by_kind_bare c (record p { commands = p.commands + 1 }))

step_bare : (c : CommandKind) (p : Proof) → step (bare_kind c) p ≡ step c p
unfolding step
step_bare (command.Bad code) p = refl
step_bare c p = counted_bare c p

prepare_bare : (c : CommandKind) (p : Proof) → prepare (bare_kind c) p ≡ prepare c p
prepare_bare (command.Declare ns s) p = carried_bare (command.Declare ns s) p
prepare_bare (command.Height upper lower) p = carried_bare (command.Height upper lower) p
prepare_bare (command.Status way r) p = carried_bare (command.Status way r) p
prepare_bare c p = refl

-- ---- blocks and preambles

prepared_bare : (k : ℕ) (cs : List CommandKind) (p : Proof)
    → all_prepared k (map bare_kind cs) p ≡ all_prepared k cs p
unfolding all_prepared
prepared_bare k [] p = refl
prepared_bare k (c ∷ cs) p = λ i.
    after (locate (InPreamble (told_number k)) (prepare_bare c p i)) (λ q. prepared_bare (suc k) cs q i)

stepped_bare : (cs : List CommandKind) (p : Proof) → all_stepped (map bare_kind cs) p ≡ all_stepped cs p
stepped_bare [] p = refl
stepped_bare (c ∷ cs) p = λ i.
    after (locate (AtCommand (told_number (p.commands + 1))) (step_bare c p i)) (λ q. stepped_bare cs q i)

-- ---- what equal commands do

pub step_alike : (c d : CommandKind) (p : Proof) → bare_kind c ≡ bare_kind d → step c p ≡ step d p
step_alike c d p e = sym (step_bare c p) ∙ (ap (λ k. step k p) e ∙ step_bare d p)

pub prepared_alike : (k : ℕ) (cs ds : List CommandKind) (p : Proof) → map bare_kind cs ≡ map bare_kind ds
    → all_prepared k cs p ≡ all_prepared k ds p
prepared_alike k cs ds p e =
    sym (prepared_bare k cs p) ∙ (ap (λ es. all_prepared k es p) e ∙ prepared_bare k ds p)

pub stepped_alike : (cs ds : List CommandKind) (p : Proof) → map bare_kind cs ≡ map bare_kind ds
    → all_stepped cs p ≡ all_stepped ds p
stepped_alike cs ds p e = sym (stepped_bare cs p) ∙ (ap (λ es. all_stepped es p) e ∙ stepped_bare ds p)

-- behind preambles that are equal without positions
begun_same : (duty : Duty) (limit : ℕ) (cs ds : List CommandKind) → map bare_kind cs ≡ map bare_kind ds
    → begun_with duty limit cs ≡ begun_with duty limit ds
begun_same duty limit cs ds e =
    ap (λ r. after r (λ p. locate AtOpening (duty_opened duty.statement p)))
    (prepared_alike 1 cs ds (blank duty limit) e)

pub begun_alike : (r q : Replayed) (limit : ℕ) → begin_alike r q ≡ true
    → begun_with r.duty limit r.preamble ≡ begun_with q.duty limit q.preamble
begun_alike r q limit e =
    let h = (alike_Decides r q).0 e in
    ap (λ d. begun_with d limit r.preamble) h.0 ∙ begun_same q.duty limit r.preamble q.preamble h.1
