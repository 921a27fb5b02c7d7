use Rattle.std.proofs.Common.{◌≡◌, ◌<◌, ◌-◌, length, get_or, sym, ◌∙◌, ap, arith}
use Rattle.std.specs.Prelude.{reverse}
use Rattle.std.proofs.lemmas.Grind.{common_steps}
use Rattle.larch_verify_history.proofs.OpenLevel.{level_last, level_none}
use Rattle.larch_verify_history.proofs.past.KeptHistory.level.Goals as goal

pub returns-then-is_empty : goal.returns-then-is_empty
returns-then-is_empty c =
    let l : length c.args.self.now.levels.items ≡ 0 = grind arith in
    sym (level_none (reverse c.args.self.now.events.items) c.args.self.now.levels.items c.requires l)

pub returns : goal.returns
returns c =
    let l : 0 < length c.args.self.now.levels.items = grind arith in
    let k : c.len.result ≡ length c.args.self.now.levels.items = grind (arith, common_steps) in
    c.index.ensures ∙ ap (λ n. get_or c.args.self.now.levels.items (n - 1) c.index.result.now) k
    ∙ sym (level_last (reverse c.args.self.now.events.items) c.args.self.now.levels.items c.index.result.now
    c.requires l)
