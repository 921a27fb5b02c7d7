-- How renamed certificates end.
use Rattle.std.proofs.Common.{◌≡◌, List, [], ◌∷◌, map, Some, refl, ap}
use Rattle.larch_certificate.specs.declared.line.Line.{Line}
use Rattle.larch_certificate.specs.declared.line.Line.TheVariants.{Axiom, Hyp, Row, Refl, Sym, Inst, Repl, Equal}
use Rattle.larch_certificate.specs.declared.line.Line.TheVariants.{BoxLine, Done, Fresh, Cases, Induct, Observe}
use Rattle.larch_certificate.specs.declared.line.Line.TheVariants.{Generated, Partitioned}
use Rattle.larch_verify_law.specs.Moves.{Move, moved_line}
use Rattle.larch_import_meaning.specs.Rules.{rule_of, last_rule}

rule_stays : (m : Move) (l : Line) → rule_of (moved_line m l) ≡ rule_of l
rule_stays m (Axiom k) = refl
rule_stays m (Hyp b k) = refl
rule_stays m (Row k s) = refl
rule_stays m (Refl c) = refl
rule_stays m (Sym n) = refl
rule_stays m (Inst n bs) = refl
rule_stays m (Repl n p k) = refl
rule_stays m (Equal n) = refl
rule_stays m (BoxLine ps es) = refl
rule_stays m Done = refl
rule_stays m (Fresh b vs) = refl
rule_stays m (Cases b c) = refl
rule_stays m (Induct n x e bs) = refl
rule_stays m (Observe n e ns) = refl
rule_stays m (Generated b s ks) = refl
rule_stays m (Partitioned b s ks) = refl

pub last_rule_stays : (m : Move) (ls : List Line) → last_rule (map (moved_line m) ls) ≡ last_rule ls
last_rule_stays m [] = refl
last_rule_stays m (l ∷ []) = ap Some (rule_stays m l)
last_rule_stays m (l ∷ k ∷ ls) = last_rule_stays m (k ∷ ls)
