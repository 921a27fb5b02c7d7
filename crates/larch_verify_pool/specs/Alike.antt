-- Lists of sorts that are equal are hashed alike.
use Rattle.std.specs.Prelude.{nat_eq}
use Rattle.std.specs.Cmp.Lexicographic.{pointwise}
use Rattle.std.specs.Hash.{Alike, items_Alike, same_Alike, slice, u8}
use Rattle.std.proofs.lemmas.Bool.Decides.{Decides-eqb}

pub sorts_alike : Alike (pointwise (pointwise nat_eq)) (slice (slice u8))
sorts_alike = items_Alike (items_Alike (same_Alike u8 Decides-eqb))
