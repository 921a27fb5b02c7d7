-- What has no number of a line or box stays when it is moved, and a list of terms is moved term by term.
use Rattle.std.proofs.Common.{◌≡◌, ℕ, ◌+◌, ◌<◌, List, [], ◌∷◌, ◌++◌, Option, map, length, take, get_or, refl, sym}
use Rattle.std.proofs.Common.{◌∙◌}
use Rattle.std.proofs.Common.{ap, append_assoc}
use Rattle.std.proofs.lemmas.Iterator.Adapters.{option_map_id}
use Rattle.std.proofs.lemmas.List.{map-id, map_more}
use Rattle.larch_certificate.specs.Coded.{CodedTree, term_then, coded_forest_of}
use Rattle.larch_certificate.specs.declared.line.Line.TheVariants.{Row, Generated, Partitioned}
use Rattle.larch_verify_law.specs.Moves.{Move, moved_line, moved_term, moved_terms}
use Rattle.larch_trim.specs.ByNumbers.{move_of, number_at}
use Rattle.larch_trim.specs.declared.numbers.NewNumbers.{NewNumbers}

pub row_stays : (s : NewNumbers) (k : ℕ) (z : Option (List ℕ)) → Row k z ≡ moved_line (move_of s) (Row k z)
row_stays s k z = ap (Row k) (sym (option_map_id z))

pub generated_stays : (s : NewNumbers) (b : ℕ) (z : List ℕ) (ks : List ℕ)
    → Generated (number_at s b) z ks ≡ moved_line (move_of s) (Generated b z ks)
generated_stays s b z ks = ap (Generated (number_at s b) z) (sym (map-id ks))

pub partitioned_stays : (s : NewNumbers) (b : ℕ) (z : List ℕ) (ks : List ℕ)
    → Partitioned (number_at s b) z ks ≡ moved_line (move_of s) (Partitioned b z ks)
partitioned_stays s b z ks = ap (Partitioned (number_at s b) z) (sym (map-id ks))

-- a list of terms is moved term by term
pub moved_list : (m : Move) (ts : List CodedTree)
    → moved_terms m (coded_forest_of ts) ≡ coded_forest_of (map (moved_term m) ts)
moved_list m [] = refl
moved_list m (t ∷ ts) = ap (term_then (moved_term m t)) (moved_list m ts)

-- behind others stand the images of the first so many items; now of one more
pub one_more : {X Y : Type 0} (f : X → Y) (before held : List Y) (xs : List X) (i : ℕ) (x : X) (y : Y) → i < length xs
    → x ≡ get_or xs i x → y ≡ f x → held ≡ before ++ map f (take i xs)
    → held ++ y ∷ [] ≡ before ++ map f (take (i + 1) xs)
one_more f before held xs i x y lt is made e =
    let more : map f (take i xs) ++ y ∷ [] ≡ map f (take (i + 1) xs) =
    ap (λ z. map f (take i xs) ++ z ∷ []) (made ∙ ap f is) ∙ sym (map_more f xs i x lt) in
    ap (λ ys. ys ++ y ∷ []) e ∙ append_assoc before (map f (take i xs)) (y ∷ []) ∙ ap (λ ys. before ++ ys) more
