use Rattle.std.proofs.Common.{◌≤◌, codes, arith}
use Rattle.larch_calculus.specs.Example.{number_sort}
use Rattle.larch_models_meaning.proofs.examples.assignments_keep_to_sorts.Goals as goal

pub returns : goal.returns
returns c a r =
    let x : a (codes "x") number_sort ≤ 0 = r (codes "x") number_sort in
    let y : a (codes "y") number_sort ≤ 0 = r (codes "y") number_sort in
    omega (arith, x, y)
