use Rattle.std.proofs.Common.{IfSome, ap, subst, ◌∙◌}
use Rattle.std.specs.Prelude.{find}
use Rattle.std.specs.Option.{option_copied}
use Rattle.larch_session_kept.proofs.Helps.{found_kept, found_so}
use Rattle.larch_session_kept.proofs.base.Base.find.Goals as goal
use Rattle.larch_session_kept.specs.Kept.{IsKept, is_for, is_kept_for, limit_in, records_in}

pub returns-clause-found : goal.returns-clause-found
returns-clause-found c =
    found_so c.self.inside.kept c.args.stem.now c.args.label (option_copied c.find_kept.result)
    (c.find_kept.ensures ∙ ap (find (is_kept_for c.args.stem.now c.args.label)) c.as_slice.ensures)
    ∙ ap (λ base. find (is_for c.args.stem.now c.args.label) (records_in base)) c.self.view_is

pub returns-clause-kept : goal.returns-clause-kept
returns-clause-kept c =
    subst (λ base. IfSome c.find_kept.result (λ kept. IsKept (limit_in base) kept.now)) c.self.view_is
    (found_kept c.self.inside.limit c.self.inside.kept c.args.stem.now c.args.label c.find_kept.result
    (c.find_kept.ensures ∙ ap (find (is_kept_for c.args.stem.now c.args.label)) c.as_slice.ensures) c.self.invariant)
