-- Lists that are moved item by item, and what stays.
use Rattle.std.proofs.Common.{◌≡◌, ℕ, ◌+◌, ◌<◌, List, [], ◌∷◌, ◌++◌, map, length, take, get_or, refl, sym, ◌∙◌}
use Rattle.std.proofs.Common.{ap}
use Rattle.std.specs.Prelude.{Result, Ok, Err, IfOk}
use Rattle.std.proofs.lemmas.List.{map-id, map_more}
use Rattle.larch_base.specs.declared.memory.Memory.{Memory}
use Rattle.larch_certificate.specs.Coded.{CodedTree, term_then, coded_forest_of}
use Rattle.larch_certificate.specs.declared.line.Line.{Line}
use Rattle.larch_verify_law.specs.Moves.{Move, moved_term, moved_terms}
use Rattle.std.proofs.Common.{subst}

-- numbers that stay
pub all_kept : (ns : List ℕ) → ns ≡ map (λ n. n) ns
all_kept ns = sym (map-id ns)

-- a list of terms is moved term by term
pub moved_list : (m : Move) (ts : List CodedTree)
    → moved_terms m (coded_forest_of ts) ≡ coded_forest_of (map (moved_term m) ts)
moved_list m [] = refl
moved_list m (t ∷ ts) = ap (term_then (moved_term m t)) (moved_list m ts)

-- the images of the first so many items; now of one more
pub one_more : {X Y : Type 0} (f : X → Y) (held : List Y) (xs : List X) (i : ℕ) (x : X) (y : Y) → i < length xs
    → x ≡ get_or xs i x → y ≡ f x → held ≡ map f (take i xs) → held ++ y ∷ [] ≡ map f (take (i + 1) xs)
one_more f held xs i x y lt is made e =
    ap (λ ys. ys ++ y ∷ []) e ∙ ap (λ z. map f (take i xs) ++ z ∷ []) (made ∙ ap f is) ∙ sym (map_more f xs i x lt)

-- what holds of the lines that an answer is, if it is one, holds of the answer
pub if_made : (r : Result (List Line) Memory) (ls : List Line) → IfOk r (λ made. made ≡ ls) → (P : List Line → Type 0)
    → P ls → IfOk r P
if_made (Ok l) ls e P p = subst P (sym e) p
if_made (Err m) ls e P p = tt
