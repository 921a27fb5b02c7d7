-- What is written of a theory's completion.
use Rattle.std.specs.Prelude.{◌≡◌, ℕ, suc, Bool, true, false, List, [], ◌∷◌, ◌++◌, length, All, codes, decimal}
use Rattle.larch_print.specs.Print.{printed_statement, printing_of}
use Rattle.larch_term.specs.declared.statement.Statement.{Statement}
use Rattle.larch_term.specs.declared.statement.Theory.{Theory}
use Rattle.larch_rewrite_meaning.specs.Sides.{Sides}
use Rattle.larch_complete_meaning.specs.Completion.{Completion, Decides, IsDerivable, complete, equations_of}
use Rattle.larch_complete_meaning.specs.declared.answer.CompletionAnswer.{CompletionAnswer}
use Rattle.larch_complete_meaning.specs.declared.answer.CompletionAnswer.TheVariants as answer_
use Rattle.larch_complete_answer.specs.declared.telling.Told.{Told}

-- the line of the rule with a number
abbrev pub rule_line : ℕ → Sides → List ℕ
rule_line n rule =
    codes "R" ++ (decimal n ++ (codes " " ++ (printing_of rule.left ++ (codes " -> " ++ (printing_of rule.right
    ++ codes "\n")))))

-- the lines of rules, with numbers from here on
abbrev pub rule_lines : ℕ → List Sides → List ℕ
rule_lines n [] = []
rule_lines n (rule ∷ rules) = rule_line n rule ++ rule_lines (suc n) rules

-- how many rules there are
abbrev pub count_text : ℕ → List ℕ
count_text n = codes "complete " ++ (decimal n ++ codes " rules\n")

-- rules that decide
abbrev pub rules_text : List Sides → List ℕ
rules_text rules = count_text (length rules) ++ (rule_lines 1 rules ++ codes "end\n")

-- an equation neither side of which is greater
abbrev pub unoriented_text : Statement → List ℕ
unoriented_text s = codes "unoriented " ++ (printed_statement s ++ codes "\n")

-- what is written of a completion that ends so, with these rules
abbrev pub ending_text : CompletionAnswer → List Sides → List ℕ
ending_text answer_.Complete rules = rules_text rules
ending_text (answer_.Unoriented s) rules = unoriented_text s
ending_text answer_.Limit rules = codes "LIMIT\n"
ending_text answer_.TooLarge rules = codes "SIZE\n"
ending_text answer_.Spent rules = codes "spent\n"

-- whether a completion that ends so is complete
abbrev pub is_complete : CompletionAnswer → Bool
is_complete answer_.Complete = true
is_complete _ = false

-- what is written of a completion, and whether it is complete
abbrev pub told_of : Completion → Told
told_of c = record { text = ending_text c.answer c.rules; complete = is_complete c.answer }

-- the same of a theory's completion, with a rewriting limit
abbrev pub completion_told : Theory → ℕ → Told
completion_told theory limit = told_of (complete theory limit)

-- a text tells rules that are derivable from a theory and decide its equations
pub record TellsRules (theory : Theory) (limit : ℕ) (text : List ℕ) : Type 0 where
  pub rules : List Sides
  pub tells : text ≡ rules_text rules
  pub derivable : All (IsDerivable theory) rules
  pub decides : Decides rules limit (equations_of theory)
