use Rattle.std.specs.Prelude.{Option, option_map}
use Rattle.std.proofs.Common.{Bor, ap, sym, ◌∙◌}
use Rattle.std.proofs.lemmas.Result.{on_ok_weaker}
use Rattle.larch_term.specs.declared.statement.Statement.TheVariants.{Generated, Partitioned}
use Rattle.larch_derive.specs.declared.open_box.OpenBox.{OpenBox}
use Rattle.larch_prove_boxes.proofs.Ends.{ClosesDuty, ClosesEquation, ClosesGeneration, ClosesPartition}
use Rattle.larch_prove_boxes.proofs.Ends.{equation_ends_duty}
use Rattle.larch_prove_boxes.proofs.Ends.{generation_ends_duty, generation_named, partition_ends_duty, partition_named}
use Rattle.larch_prove_boxes.proofs.finishing.end_duty.Goals as goal

-- the box that is handed over
abbrev entrance_now : Option (Bor OpenBox) → Option OpenBox
entrance_now entrance = option_map (λ (x : Bor OpenBox). x.now) entrance

pub end_generation-requires : goal.end_generation-requires
end_generation-requires c =
    generation_named c.args.statement.now c.args.theory.now.operators c.in-Generated.sort c.in-Generated.operators
    c.as_slice.result.now c.in-Generated.is c.as_slice.ensures c.requires.named

pub end_partition-requires : goal.end_partition-requires
end_partition-requires c =
    partition_named c.args.statement.now c.args.theory.now.operators c.in-Partitioned.sort c.in-Partitioned.operators
    c.as_slice-in-Partitioned.result.now c.in-Partitioned.is c.as_slice-in-Partitioned.ensures c.requires.named

pub returns-in-Equation : goal.returns-in-Equation
returns-in-Equation c =
    let b = c.args.builder.now in
    let d = c.end_equation.new.builder in
    let l = c.in-Equation.left in
    let r = c.in-Equation.right in
    on_ok_weaker {P = ClosesEquation b d l r c.args.line}
    {Q = ClosesDuty c.args.theory.now c.args.statement.now (entrance_now c.args.entrance) b d c.args.line}
    c.end_equation.result
    (equation_ends_duty c.args.theory.now c.args.statement.now (entrance_now c.args.entrance) b d l r c.args.line
    c.in-Equation.is) c.end_equation.ensures

pub returns-in-Generated : goal.returns-in-Generated
returns-in-Generated c =
    let b = c.args.builder.now in
    let d = c.end_generation.new.builder in
    let z = c.in-Generated.sort in
    let fs = c.as_slice.result.now in
    on_ok_weaker {P = ClosesGeneration c.args.theory.now b d z fs c.number_of.result c.args.line}
    {Q = ClosesDuty c.args.theory.now c.args.statement.now (entrance_now c.args.entrance) b d c.args.line}
    c.end_generation.result
    (generation_ends_duty c.args.theory.now c.args.statement.now (entrance_now c.args.entrance) b d z fs
    c.number_of.result c.args.line (c.in-Generated.is ∙ ap (Generated z) (sym c.as_slice.ensures))
    c.number_of.ensures) c.end_generation.ensures

pub returns-in-Partitioned : goal.returns-in-Partitioned
returns-in-Partitioned c =
    let b = c.args.builder.now in
    let d = c.end_partition.new.builder in
    let z = c.in-Partitioned.sort in
    let os = c.as_slice-in-Partitioned.result.now in
    on_ok_weaker {P = ClosesPartition c.args.theory.now b d z os c.number_of-in-Partitioned.result c.args.line}
    {Q = ClosesDuty c.args.theory.now c.args.statement.now (entrance_now c.args.entrance) b d c.args.line}
    c.end_partition.result
    (partition_ends_duty c.args.theory.now c.args.statement.now (entrance_now c.args.entrance) b d z os
    c.number_of-in-Partitioned.result c.args.line
    (c.in-Partitioned.is ∙ ap (Partitioned z) (sym c.as_slice-in-Partitioned.ensures))
    c.number_of-in-Partitioned.ensures) c.end_partition.ensures
