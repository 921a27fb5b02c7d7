use Rattle.std.proofs.Common.{◌∙◌}
use Rattle.larch_session_law.specs.ScriptScripts.{script_of}
use Rattle.larch_session_sources.proofs.Among.{among_none, among_some, if_ok_is, mapped_none, mapped_some, no_parts}
use Rattle.larch_session_sources.proofs.Named.{script_named}
use Rattle.larch_session_sources.proofs.scripts.script_among.Goals as goal
use Rattle.larch_session_law.specs.SessionMeaningFiles.{script_among}

pub text_under-requires : goal.text_under-requires
text_under-requires c = script_named c.args.stem.now

pub returns-in-Some : goal.returns-in-Some
returns-in-Some c =
    if_ok_is c.read_script.result (script_of c.in-Some.text.now) (script_among c.args.files.now c.args.stem.now)
    (among_some c.args.files.now c.args.stem.now c.in-Some.text.now
    (mapped_some _ c.in_ok-found.found c.in-Some.text _ c.in_ok-found.ensures.text c.in-Some.is))
    c.read_script.ensures

pub returns-in-None : goal.returns-in-None
returns-in-None c =
    no_parts c.new.result c.new-in-None.result c.new.ensures c.new-in-None.ensures
    ∙ among_none c.args.files.now c.args.stem.now
    (mapped_none _ c.in_ok-found.found _ c.in_ok-found.ensures.text c.in-None.is)
