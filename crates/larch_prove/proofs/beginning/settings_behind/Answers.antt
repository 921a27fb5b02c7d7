-- The settings with the constants, and then with the scope and the precedence.
use Rattle.std.proofs.Common.{subst, sym}
use Rattle.larch_prove.proofs.beginning.settings_behind.Goals as goal
use Rattle.larch_prove.specs.Begun.{AreOpenedSettings, HaveConstants}

pub returns : goal.returns
returns c =
    let named = subst (λ fs. HaveConstants c.args.prepared.now.settings fs c.in_ok-settings.settings)
    c.as_slice.ensures c.in_ok-settings.ensures in
    subst (AreOpenedSettings c.args.prepared.now.settings c.args.constants c.args.scope c.args.precedence)
    (sym c.put_order.ensures) (record {
      named = record {
        operators = named.operators;
        sorts = named.sorts;
        constants = named.constants;
        limit = named.limit;
      };
      scope_is = c.in_ok-scope.ensures.ok;
      ranks_are = c.in_ok-precedence.ensures.ok;
    })
