-- One instance further.
use Rattle.std.proofs.Common.{ℕ, suc, ◌≡◌, ◌+◌, ◌-◌, ◌≤◌, ◌<◌, Option, Some, None, option_and_then, List, ◌++◌}
use Rattle.std.proofs.Common.{append_assoc, refl, sym, ap, arith}
use Rattle.larch_script_commands.specs.declared.command.RawInstance.{RawInstance}
use Rattle.larch_lexer.specs.TokenList.{TokenList}
use Rattle.larch_script.specs.Instances.{behind_others, instance_at, instances_at, with_further}

-- while there are turns left, an instance is read
pub turn_on : (all : TokenList) (n k index : ℕ) → k < n
    → instances_at (n - k) all index
    ≡ option_and_then (with_further all (λ next. instances_at (n - (k + 1)) all next)) (instance_at all index)
turn_on all n k index h =
    let e : n - k ≡ suc (n - (k + 1)) = omega arith in
    rw e refl

-- no turn is left
pub last_turn : (all : TokenList) (n k index : ℕ) → n ≤ k → instances_at (n - k) all index ≡ None
last_turn all n k index h =
    let e : n - k ≡ 0 = omega arith in
    rw e refl

-- instances behind others, and these behind more
pub behind_both : (xs ys : List RawInstance) (found : Option (List RawInstance × ℕ))
    → behind_others xs (behind_others ys found) ≡ behind_others (xs ++ ys) found
behind_both xs ys None = refl
behind_both xs ys (Some found) = ap (λ (zs : List RawInstance). Some (zs, found.1)) (sym (append_assoc xs ys found.0))
