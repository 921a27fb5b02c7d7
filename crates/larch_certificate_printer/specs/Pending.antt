-- What is still to be written of a term.
use Rattle.std.specs.Prelude.{ℕ, ◌+◌, ◌-◌, ◌*◌, List, [], ◌∷◌, ◌++◌, Option, Some, None}
use Rattle.std.specs.Borrow.{Bor}
use Rattle.larch_certificate_text.specs.declared.here.Here.{Here}
use Rattle.larch_certificate_text.specs.TermText.{term_text, others_text}
use Rattle.larch_certificate.specs.Coded.{CodedTree, coded_forest_of, coded_nodes, coded_nodes_all}

-- the text of the further arguments that wait, the innermost first
abbrev pub pending : Here → List (Bor (List CodedTree)) → List ℕ
pending h [] = []
pending h (ts ∷ k) = others_text h (coded_forest_of ts.now) ++ pending h k

-- the text of the term that comes next
abbrev pub next_text : Here → Option (Bor CodedTree) → List ℕ
next_text h None = []
next_text h (Some t) = term_text h t.now

-- bounds for how many steps are to come
abbrev pub waits : List (Bor (List CodedTree)) → ℕ
waits [] = 0
waits (ts ∷ k) = 3 * coded_nodes_all (coded_forest_of ts.now) + 1 + waits k

abbrev pub next_waits : Option (Bor CodedTree) → ℕ
next_waits None = 0
next_waits (Some t) = 3 * coded_nodes t.now - 1
