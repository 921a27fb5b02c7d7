-- What is answered was to be written; nothing was, where memory ran out.
use Rattle.std.proofs.Common.{refl}
use Rattle.larch_words.specs.declared.call.Call.TheVariants.{Generate}
use Rattle.larch_main.proofs.Whole.{generates_nothing, generates_told, generation_sink, generation_writes}
use Rattle.larch_main.proofs.Whole.{nothing_written}
use Rattle.larch_main.proofs.running.run_generate.Goals as goal

pub returns-in-Ok-clause-output : goal.returns-in-Ok-clause-output
returns-in-Ok-clause-output g c = λ told left.
    generation_writes c.args.traits c.bytes.result.now c.in-Ok.answer c.bytes.ensures c.in-Ok.ensures.answer told left
    _ _ _ _ c.say_at_end.result c.say_at_end.ensures

pub returns-in-Ok-clause-reports : goal.returns-in-Ok-clause-reports
returns-in-Ok-clause-reports g c =
    generates_told c.args.traits _ _ _ c.generate.ensures.least c.generate.ensures.most c.in-Ok.ensures.proved _ _ _ _
    _ c.say_at_end.result c.say_at_end.ensures

pub returns-in-Ok-clause-sink_faults : goal.returns-in-Ok-clause-sink_faults
returns-in-Ok-clause-sink_faults g c =
    generation_sink c.args.traits c.bytes.result.now c.in-Ok.answer c.bytes.ensures c.in-Ok.ensures.answer
    _ _ _ _ c.say_at_end.result c.say_at_end.ensures

pub returns-in-Err-clause-output : goal.returns-in-Err-clause-output
returns-in-Err-clause-output g c = λ told left. nothing_written (Generate c.args.traits) told left _

pub returns-in-Err-clause-reports : goal.returns-in-Err-clause-reports
returns-in-Err-clause-reports g c =
    generates_nothing c.args.traits _ _ _ c.generate.ensures.least c.generate.ensures.most

pub returns-in-Err-clause-sink_faults : goal.returns-in-Err-clause-sink_faults
returns-in-Err-clause-sink_faults g c = refl
