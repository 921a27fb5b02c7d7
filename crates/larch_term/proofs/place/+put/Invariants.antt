use Rattle.std.proofs.Common.{◌≡◌, ◌++◌, drop}
use Rattle.larch_term.proofs.TreeLists.{put_in_list}
use Rattle.larch_term.proofs.place.+put.Given as goal

-- the arguments so far and the changed ones that are left are all the changed ones
abbrev pub invariant-put_in-loop-term : goal.invariant-put_in-loop-term
invariant-put_in-loop-term l =
    l.items.items ++ put_in_list (drop l.term-index l.term-items) l.left l.place l.by
    ≡ put_in_list l.term-items l.fn.number l.place l.by
