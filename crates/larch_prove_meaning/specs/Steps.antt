-- What each command does, and when it is refused.
use Rattle.std.specs.Prelude.{ℕ, ◌==◌, ◌&&◌, Bool, true, false, not, if◌then◌else◌, List, [], ◌∷◌, ◌++◌, map, filter}
use Rattle.std.specs.Prelude.{fold, length, bytes_eq, Option, Some, None, is_some, Result, Ok, Err, find}
use Rattle.std.specs.List.{list_any, list_all}
use Rattle.larch_base.specs.declared.code.Code.{Code}
use Rattle.larch_base.specs.declared.code.Code.TheVariants as refusal
use Rattle.larch_base.specs.declared.fact_name.FactName.{FactName}
use Rattle.larch_base.specs.declared.fault.Fault.{Fault}
use Rattle.larch_base.specs.declared.way.Way.{Way}
use Rattle.larch_raw.specs.declared.declared.RawOpRef.{RawOpRef}
use Rattle.larch_raw.specs.declared.declared.RawSig.{RawSig}
use Rattle.larch_raw.specs.declared.declared.RawWord.{RawWord}
use Rattle.larch_raw.specs.declared.equation.RawEquation.{RawEquation}
use Rattle.larch_script_commands.specs.Same.{same_fact_name}
use Rattle.larch_script_commands.specs.declared.command.CommandKind.{CommandKind}
use Rattle.larch_script_commands.specs.declared.command.CommandKind.TheVariants as command
use Rattle.larch_script_commands.specs.declared.command.RawInstance.{RawInstance}
use Rattle.larch_term.specs.Operator.{PlainOperator, plain, name_bytes}
use Rattle.larch_term.specs.BuiltIn.{bool_sort}
use Rattle.larch_term.specs.Tree.{Tree}
use Rattle.larch_term.specs.Equality.{same_name, same_operator}
use Rattle.larch_term.specs.Variable.{variables_of}
use Rattle.larch_term.specs.Statement.{statement_zero}
use Rattle.larch_term.specs.declared.substitution.Entry.{Entry}
use Rattle.larch_term.specs.declared.variable.Variable.{Variable}
use Rattle.larch_term.specs.declared.statement.Statement.{Statement}
use Rattle.larch_term.specs.declared.statement.Statement.TheVariants.{Equation, Generated, Partitioned}
use Rattle.larch_order.specs.SortsKnownSorts.{exists_sort}
use Rattle.larch_rewrite_meaning.specs.CalculusFormula.{formula}
use Rattle.larch_base_meaning.specs.Steps.{after}
use Rattle.larch_sorts_meaning.specs.Read.{read_equation, read_term}
use Rattle.larch_sorts_meaning.specs.Scope.{Variables, sort_in, with_variable}
use Rattle.larch_order.specs.Precedence.{raise, with_status}
use Rattle.larch_rewrite_meaning.specs.Sides.{Sides, sides_under}
use Rattle.larch_pairs_critical.specs.Pairs.{critical_pairs}
use Rattle.larch_pairs_critical.specs.PairsUnify.{Oversize}
use Rattle.larch_pairs_critical.specs.declared.pair.Pair.{Pair}
use Rattle.larch_pairs_critical.specs.declared.pair.Rule.{Rule}
use Rattle.larch_prove_meaning.specs.Facts.{Fact}
use Rattle.larch_prove_meaning.specs.Plans.{Method, Setting, plan, with_found, Cases, Implication, Conjunction}
use Rattle.larch_prove_meaning.specs.Plans.{Contradiction, Induction, Partition}
use Rattle.larch_prove_meaning.specs.Levels.{Proof, Next, OfProof, level_for, with_facts, derive, derived_by}
use Rattle.larch_prove_meaning.specs.Levels.{normal_goal}
use Rattle.larch_prove_meaning.specs.Levels.{settle_goal, begun, unless, is_settled}

-- the code of a reading that is refused; where it stands in a command isn't told
abbrev pub read_or : {A : Type 0} → Result A Fault → Result A Code
read_or (Ok x) = Ok x
read_or (Err fault) = Err fault.code

-- the operators that a command can name beside the built-in ones: the theory's, and the constants of the block
abbrev pub own_operators : Proof → List PlainOperator
own_operators p = p.theory.operators ++ p.constants

-- the sides of a statement that was read; what is read is never a clause
abbrev pub as_sides : Statement → Result Sides Code
as_sides (Equation l r) = Ok (record { left = l; right = r })
as_sides (Generated s fs) = Err refusal.NoReading
as_sides (Partitioned s fs) = Err refusal.NoReading

-- what an equation or formula of a command reads as
abbrev pub read_sides : Proof → RawEquation → Result Sides Code
read_sides p e = after (read_or (read_equation (own_operators p) p.scope e)) as_sides

-- what a term of a command reads as, at a sort
abbrev pub read_lone : Proof → List ℕ → RawEquation → Result Tree Code
read_lone p s t = read_or (read_term (own_operators p) p.scope (Some s) t)

-- the texts of words
abbrev pub texts : List RawWord → List (List ℕ)
texts ws = map (λ w. w.name) ws

-- whether an operator has this signature
abbrev pub has_signature : Option RawSig → PlainOperator → Bool
has_signature None f = true
has_signature (Some sig) f =
    same_operator f (record { name = f.name; domain = texts sig.domain; range = sig.range.name })

-- whether a reference names an operator
abbrev pub is_referred : RawOpRef → PlainOperator → Bool
is_referred r f = same_name f.name (plain r.form.name) && has_signature r.sig f

-- the only one of operators
abbrev pub the_only : List PlainOperator → Result PlainOperator Code
the_only [] = Err refusal.Operator
the_only (f ∷ []) = Ok f
the_only (f ∷ g ∷ fs) = Err refusal.Operator

-- the one operator that a reference names, a built-in one being none
abbrev pub refer : Proof → RawOpRef → Result PlainOperator Code
refer p r = the_only (filter (is_referred r) (own_operators p))

-- whether a variable may have this sort: its name has no other sort
abbrev pub agrees : Option (List ℕ) → List ℕ → Bool
agrees None s = true
agrees (Some z) s = bytes_eq z s

-- whether a name can be declared at a sort: it is no constant's, and no variable's of another sort
abbrev pub may_declare : Proof → List ℕ → List ℕ → Bool
may_declare p s n = not (list_any (λ c. same_name c.name (plain n)) p.constants) && agrees (sort_in p.scope n) s

-- the variables in scope with one more behind them, unless its name is there
abbrev pub with_new : Variables → List ℕ × List ℕ → Variables
with_new scope v = with_variable (not (is_some (sort_in scope v.0))) scope v.0 v.1

-- the variables in scope with others in turn: each name is there once, as it comes first
abbrev pub with_all_new : Variables → Variables → Variables
with_all_new scope vs = fold with_new scope vs

-- variables are declared at a sort
abbrev pub declare : List (List ℕ) → List ℕ → Next
declare ns s p =
    unless refusal.UnknownSort (exists_sort p.theory.operators s)
    (unless refusal.Variable (list_all (may_declare p s) ns)
    (Ok (record p { scope = with_all_new p.scope (map (λ n. (n, s)) ns) })))

-- boxes are checked from now on; or aren't, and what waits is forgotten
abbrev pub check_boxes : Bool → Proof → Proof
check_boxes on p = record p { checking = on; waiting = if on then p.waiting else [] }

-- a first operator is registered as higher than a second
abbrev pub heighten : RawOpRef → RawOpRef → Next
heighten upper lower p =
    after (refer p upper) (λ f. after (refer p lower) (λ g. Ok (record p { ranks = raise p.ranks f g })))

-- an operator is registered with a status
abbrev pub with_way : Way → RawOpRef → Next
with_way way r p = after (refer p r) (λ f. Ok (record p { ranks = with_status p.ranks f way }))

-- the clauses by which methods go: that of truth values, the theory's, and those among the lemmas
abbrev pub clauses : Proof → List Statement
clauses p = statement_zero ∷ (p.theory.statements ++ map (λ lemma. lemma.statement) p.lemmas)

-- the names that new constants avoid, beside those of the goal's variables
abbrev pub taken_names : Proof → List (List ℕ)
taken_names p = map (λ f. name_bytes f.name) (own_operators p) ++ map (λ v. v.0) p.scope

-- what a method looks at in a proof, beside the goal
abbrev pub setting_of : Proof → Setting
setting_of p = record { clauses = clauses p; taken = taken_names p }

-- a method is carried out on the current goal
abbrev pub resume : Method → Next
resume method p =
    after (plan (setting_of p) p.current.goal method) (λ made. begun made p)

-- a level for a formula that is to be proved
abbrev pub level_opened : Tree → Next
level_opened f p =
    after (normal_goal (record p { current = level_for (OfProof f) p.current f; below = p.current ∷ p.below }))
    settle_goal

-- whether a fact has a name
abbrev pub has_name : FactName → Fact → Bool
has_name n fact = same_fact_name n fact.name

-- the sides of a fact, where there is one
abbrev pub sides_or : Option Fact → Result Sides Code
sides_or None = Err refusal.Fact
sides_or (Some fact) = Ok fact.sides

-- the sides of the current level's fact with a name
abbrev pub fact_named : FactName → Proof → Result Sides Code
fact_named n p = sides_or (find (has_name n) p.current.facts.rules)

-- a fact serves that hasn't this name
abbrev pub serves_beside : FactName → Fact → Bool
serves_beside n fact = not (has_name n fact)

-- the proof without the current level's facts of a name
abbrev pub without : FactName → Proof → Proof
without n p =
    with_facts (record p.current.facts { rules = filter (serves_beside n) p.current.facts.rules }) p

-- a fact is taken out of the list, and its equation is added
abbrev pub normalize : FactName → Next
normalize n p = after (fact_named n p) (λ e. after (derive e (without n p)) settle_goal)

-- the first variable of a name in an equation, the left side being looked at first
abbrev pub variable_in : Sides → List ℕ → Option Variable
variable_in e n = find (λ v. bytes_eq v.name n) (variables_of e.left ++ variables_of e.right)

-- whether a name stands once in a list
abbrev pub stands_once : List (List ℕ) → List ℕ → Bool
stands_once ns n = length (filter (bytes_eq n) ns) == 1

-- the substitution that a command writes for an equation, pair by pair; all the names that it writes are looked at
abbrev pub instantiation : Proof → Sides → List (List ℕ) → List RawInstance → Result (List Entry) Code
instantiation p e names [] = Ok []
instantiation p e names (i ∷ is) =
    with_found refusal.Variable (variable_in e i.name.name) (λ v.
    unless refusal.Variable (stands_once names i.name.name)
    (after (read_lone p v.sort i.term) (λ t.
    after (instantiation p e names is) (λ es. Ok (record { name = v.name; sort = v.sort; term = t } ∷ es)))))

-- an instance of a fact is added, while the fact itself doesn't serve as a rule
abbrev pub instantiate : List RawInstance → FactName → Next
instantiate is n p =
    after (fact_named n p) (λ e.
    after (instantiation p e (map (λ i. i.name.name) is) is) (λ es.
    after (derived_by (serves_beside n) (sides_under es e) p) settle_goal))

-- equations are added in turn, until the goal is proved
abbrev pub all_derived : List Sides → Next
all_derived [] p = Ok p
all_derived (e ∷ es) p = after (derive e p) (λ q. elim (is_settled q.current) [
  | true ↦ Ok q
  | false ↦ all_derived es q
])

-- the sides of a fact as a rule
abbrev pub rule_of : Sides → Rule
rule_of e = record { left = e.left; right = e.right }

-- the equations of critical pairs, or that a term is too large
abbrev pub equations_of : Result (List Pair) Oversize → Result (List Sides) Code
equations_of (Ok found) = Ok (map (λ q. record { left = q.left; right = q.right }) found)
equations_of (Err e) = Err refusal.Size

-- the critical pairs of two facts are added, all of them being formed before
abbrev pub pair_facts : FactName → FactName → Next
pair_facts n m p =
    after (fact_named n p) (λ e.
    after (fact_named m p) (λ d.
    after (equations_of (critical_pairs (rule_of e) (rule_of d) (same_fact_name n m))) (λ found.
    after (all_derived found p) settle_goal)))

-- what a command does whose turn it is
abbrev pub carried_out : CommandKind → Next
carried_out (command.Declare ns s) p = declare (texts ns) s.name p
carried_out (command.Limit n) p = Ok (record p { limit = n })
carried_out (command.BoxChecking on) p = Ok (check_boxes on p)
carried_out (command.Height upper lower) p = heighten upper lower p
carried_out (command.Status way r) p = with_way way r p
carried_out (command.Prove e) p = after (read_sides p e) (λ sides. level_opened (formula sides.left sides.right) p)
carried_out (command.Cases t) p = after (read_lone p bool_sort t) (λ f. resume (Cases f) p)
carried_out command.Implication p = resume Implication p
carried_out command.Conjunction p = resume Conjunction p
carried_out command.Contradiction p = resume Contradiction p
carried_out (command.Induction x) p = resume (Induction x.name) p
carried_out command.Partition p = resume Partition p
carried_out (command.Instantiate is n) p = instantiate is n p
carried_out (command.CriticalPairs n m) p = pair_facts n m p
carried_out (command.Normalize n) p = normalize n p
carried_out command.Qed p = unless refusal.Open p.is_proved (Ok p)
-- never: marks and bad lines have no turn
carried_out (command.Mark proved) p = Ok p
carried_out (command.Bad code) p = Err code
