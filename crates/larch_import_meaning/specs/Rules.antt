-- The rule of a line.
use Rattle.std.specs.Prelude.{ℕ, List, [], ◌∷◌, Option, Some, None}
use Rattle.larch_certificate.specs.declared.line.Line.{Line}
use Rattle.larch_certificate.specs.declared.line.Line.TheVariants.{Axiom, Hyp, Row, Refl, Sym, Inst, Repl, Equal}
use Rattle.larch_certificate.specs.declared.line.Line.TheVariants.{BoxLine, Done, Fresh, Cases, Induct, Observe}
use Rattle.larch_certificate.specs.declared.line.Line.TheVariants.{Generated, Partitioned}

-- the number of a line's rule among the rules
abbrev pub rule_of : Line → ℕ
rule_of (Axiom k) = 1
rule_of (Hyp b k) = 2
rule_of (Row k s) = 3
rule_of (Refl c) = 4
rule_of (Sym n) = 5
rule_of (Inst n bs) = 6
rule_of (Repl n p k) = 7
rule_of (Equal n) = 8
rule_of (BoxLine ps es) = 9
rule_of Done = 10
rule_of (Fresh b vs) = 11
rule_of (Cases b c) = 12
rule_of (Induct n x e bs) = 13
rule_of (Observe n e ns) = 14
rule_of (Generated b s ks) = 15
rule_of (Partitioned b s ks) = 16

-- the rule of the last line, where there is one
abbrev pub last_rule : List Line → Option ℕ
last_rule [] = None
last_rule (l ∷ []) = Some (rule_of l)
last_rule (l ∷ k ∷ ls) = last_rule (k ∷ ls)
