-- Rules by what they say and by what they take.
use Rattle.std.specs.Prelude.{Bool, true, false}
use Rattle.larch_certificate.specs.declared.line.Line.{Line}
use Rattle.larch_certificate.specs.declared.line.Line.TheVariants.{Axiom, Row, BoxLine, Done, Fresh, Cases, Induct}
use Rattle.larch_certificate.specs.declared.line.Line.TheVariants.{Observe, Generated, Partitioned}

-- whether what a line says, if it says something, is an equation by its rule
abbrev pub says_equations : Line → Bool
says_equations (Axiom k) = false
says_equations (Row k s) = false
says_equations (BoxLine ps es) = false
says_equations Done = false
says_equations (Generated b s ks) = false
says_equations (Partitioned b s ks) = false
says_equations line = true

-- whether a line's rule goes by closed boxes, or by a clause and lines for what it wants shown
abbrev pub goes_by_boxes : Line → Bool
goes_by_boxes (Fresh b vs) = true
goes_by_boxes (Cases b c) = true
goes_by_boxes (Induct m x e bs) = true
goes_by_boxes (Observe m e ns) = true
goes_by_boxes line = false
