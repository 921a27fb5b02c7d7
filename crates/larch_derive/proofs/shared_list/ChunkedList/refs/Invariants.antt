use Rattle.std.proofs.Common.{◌≡◌, map, take}
use Rattle.std.specs.List.{flat_map}
use Rattle.larch_derive.proofs.shared_list.ChunkedList.refs.Given as goal

-- references to the things in the chunks so far
abbrev pub invariant-loop-chunk : goal.invariant-loop-chunk
invariant-loop-chunk g l =
    map (λ item. item.now) l.refs.items
    ≡ flat_map (λ chunk. map (λ item. item.value) chunk.items)
    (map (λ chunk. chunk.value) (take l.chunk-index l.chunk-items))
