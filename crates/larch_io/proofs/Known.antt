-- Steps of writes, where the bytes are told and where they aren't.
use Rattle.std.proofs.Common.{◌<◌, ◌+◌, ◌∙◌, ℕ, List, ◌++◌, length, take, drop, Option, Some, None, sym, ap, arith}
use Rattle.std.proofs.Common.{append_assoc, append-nil, take-append-drop, length-drop}
use lib.Seq.{take-add}
use Rattle.std.proofs.KnownBytes.{Appends-kept}
use Rattle.std.specs.Io.KnownBytes.{Keeps, Appends}
use Rattle.larch_io.specs.Put.{PutsFront}

-- nothing was appended yet
pub front_of_none : (held : Option (List ℕ)) (bytes : List ℕ) → Appends held held (take 0 bytes)
front_of_none None bytes = tt
front_of_none (Some holds) bytes = sym (append-nil holds)

-- a front was appended, and then a front of the rest
pub front_and_more : (before held after : Option (List ℕ)) (put count : ℕ) (bytes : List ℕ)
    → Appends before held (take put bytes) → Appends held after (take count (drop put bytes))
    → Appends before after (take (put + count) bytes)
front_and_more None held after put count bytes first second = tt
front_and_more (Some x) None after put count bytes first second = absurd first
front_and_more (Some x) (Some y) None put count bytes first second = absurd second
front_and_more (Some x) (Some y) (Some z) put count bytes first second =
    second ∙ ap (λ front. front ++ take count (drop put bytes)) first
    ∙ append_assoc x (take put bytes) (take count (drop put bytes))
    ∙ ap (λ front. x ++ front) (sym (take-add put count bytes))

-- a refused write appends nothing
pub puts_front : (before held after : Option (List ℕ)) (put : ℕ) (bytes : List ℕ)
    → put < length bytes → Appends before held (take put bytes) → Keeps held after → PutsFront before after bytes
puts_front before held after put bytes within first same = (
  take put bytes,
  drop put bytes,
  sym (take-append-drop put bytes),
  omega (arith, length-drop put bytes),
  Appends-kept before held after (take put bytes) first same,
)
