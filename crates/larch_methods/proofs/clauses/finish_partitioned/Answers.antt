use Rattle.larch_methods.proofs.Undoing.{ends_as, found_so, grows_as, lasts_as, made_so, made_then, missing_so}
use Rattle.larch_methods.proofs.Undoing.{says_as}
use Rattle.larch_methods.proofs.Shown.{constants_for_sort, numbers_own, others_among, partitioned_for}
use Rattle.larch_methods.proofs.clauses.finish_partitioned.Goals as goal

pub returns-in_default-clause-none : goal.returns-in_default-clause-none
returns-in_default-clause-none c =
    others_among _ _ _ c.as_slice.ensures (missing_so _ _ c.in_ok-found.ensures.none c.in_default.is)

pub returns-clause-says : goal.returns-clause-says
returns-clause-says c a e h =
    let z = c.in_ok-sort.ensures in
    let k = found_so _ _ _ c.in_ok-found.ensures.some c.in-Some.is in
    partitioned_for _ _ _ _ _ z
    (says_as _ _ _ _ c.in_ok-said.ensures.ok
    (made_so _ _ _ c.write_partitioned-made.ensures.says c.in_ok-said.ensures.made a _
    (numbers_own a _ _ _ _ e c.as_slice.ensures k) (constants_for_sort a _ _ _ _ _ _ z h)))

pub returns-clause-grows : goal.returns-clause-grows
returns-clause-grows c a e h =
    let z = c.in_ok-sort.ensures in
    let k = found_so _ _ _ c.in_ok-found.ensures.some c.in-Some.is in
    grows_as a _ _ c.in_ok-said.ensures.ok
    (made_then _ _ _ c.write_partitioned-made.ensures.grows c.in_ok-said.ensures.made a _
    (numbers_own a _ _ _ _ e c.as_slice.ensures k) (constants_for_sort a _ _ _ _ _ _ z h))

pub returns-clause-last : goal.returns-clause-last
returns-clause-last c =
    lasts_as _ _ _ c.in_ok-said.ensures.ok
    (made_so _ _ _ c.write_partitioned-made.ensures.last c.in_ok-said.ensures.made)

pub returns-clause-ends : goal.returns-clause-ends
returns-clause-ends c =
    ends_as _ _ c.in_ok-said.ensures.ok
    (made_then _ _ _ c.write_partitioned-made.ensures.ends c.in_ok-said.ensures.made)
