use Rattle.std.proofs.Common.{ap}
use Rattle.larch_prove_invariant.specs.ProvePlansPlanning.{method_of}
use Rattle.larch_prove_invariant.specs.Holding.{entrances}
use Rattle.larch_prove_boxes.proofs.entering.opens_boxes.Goals as goal

pub returns-in-Conjunction : goal.returns-in-Conjunction
returns-in-Conjunction c g = ap (λ m. entrances (method_of m) g) c.in-Conjunction.is

pub returns-in-Cases : goal.returns-in-Cases
returns-in-Cases c g = ap (λ m. entrances (method_of m) g) c.in-Cases.is

pub returns-in-Implication : goal.returns-in-Implication
returns-in-Implication c g = ap (λ m. entrances (method_of m) g) c.in-Implication.is

pub returns-in-Contradiction : goal.returns-in-Contradiction
returns-in-Contradiction c g = ap (λ m. entrances (method_of m) g) c.in-Contradiction.is

pub returns-in-Induction : goal.returns-in-Induction
returns-in-Induction c g = ap (λ m. entrances (method_of m) g) c.in-Induction.is

pub returns-in-Partition : goal.returns-in-Partition
returns-in-Partition c g = ap (λ m. entrances (method_of m) g) c.in-Partition.is
