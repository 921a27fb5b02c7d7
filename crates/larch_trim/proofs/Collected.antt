-- The boxes that lists of terms name.
use Rattle.std.proofs.Common.{◌≡◌, ℕ, List, [], ◌∷◌, ◌++◌, flat_map, sym, refl, ◌∙◌, ap, append_assoc}
use Rattle.std.specs.Prelude.{Result, Ok, Err, OnOk}
use Rattle.larch_base.specs.declared.memory.Memory.{Memory}
use Rattle.larch_certificate.specs.Coded.{CodedTree, coded_app, coded_forest_of}
use Rattle.larch_certificate.specs.declared.symbol.Symbol.{Symbol}
use Rattle.larch_trim_meaning.specs.Needed.{box_of_symbol, boxes_in, boxes_in_all}

-- arguments and lists of terms name the same
pub boxes_of_list : (ts : List CodedTree) → boxes_in_all (coded_forest_of ts) ≡ flat_map boxes_in ts
boxes_of_list [] = refl
boxes_of_list (t ∷ ts) = ap (λ bs. boxes_in t ++ bs) (boxes_of_list ts)

pub four_lists : (a b c d : List ℕ) → (a ++ b) ++ (c ++ d) ≡ a ++ ((b ++ c) ++ d)
four_lists a b c d = append_assoc a b (c ++ d) ∙ ap (λ xs. a ++ xs) (sym (append_assoc b c d))

-- an application's boxes are its symbol's and those of its arguments
pub application_boxes : (t : CodedTree) (f : Symbol) (ts : List CodedTree) (named named_new come come_new : List ℕ)
    → coded_app f (coded_forest_of ts) ≡ t → named_new ≡ named ++ box_of_symbol f
    → come_new ≡ flat_map boxes_in ts ++ come → named_new ++ come_new ≡ named ++ (boxes_in t ++ come)
application_boxes t f ts named named_new come come_new e n c =
    (λ i. n i ++ c i)
    ∙ four_lists named (box_of_symbol f) (flat_map boxes_in ts) come
    ∙ ap (λ bs. named ++ ((box_of_symbol f ++ bs) ++ come)) (sym (boxes_of_list ts))
    ∙ ap (λ u. named ++ (boxes_in u ++ come)) e

-- what follows from two things that hold where there is an answer
pub both_ok : {T P Q R : Type 0} (r : Result T Memory) → OnOk r P → OnOk r Q → (P → Q → R) → OnOk r R
both_ok (Ok x) p q f = f p q
both_ok (Err e) p q f = tt
