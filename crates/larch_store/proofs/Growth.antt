-- Stores that grow keep what belongs to them.
use Rattle.std.proofs.Common.{◌≡◌, List, [], ◌∷◌, ◌++◌, map, slice_get, Some, refl, sym, ◌∙◌, ap}
use Rattle.std.proofs.lemmas.List.Elements.{All-head, All-tail, All-weaker}
use Rattle.larch_store.specs.Numbered.{Numbered, number_of}
use Rattle.larch_store.specs.Stored.{Belongs, AllBelong, Grows}
use Rattle.larch_store.proofs.Front.{front_get, front_refl, front_trans, front_append}

pub grows_refl : (s : List Numbered) → Grows s s
unfolding Grows
grows_refl s = front_refl s

pub grows_trans : (s u v : List Numbered) → Grows s u → Grows u v → Grows s v
unfolding Grows
grows_trans s u v g h = front_trans s u v g h

pub grows_append : (s u : List Numbered) → Grows s (s ++ u)
unfolding Grows
grows_append s u = front_append s u

pub belongs_stays : (s u : List Numbered) (x : Numbered) → Grows s u → Belongs s x → Belongs u x
unfolding Grows Belongs
belongs_stays s u x g b = front_get s u (number_of x) x g b

pub all_belong_stay : (s u xs : List Numbered) → Grows s u → AllBelong s xs → AllBelong u xs
all_belong_stay s u xs g b = All-weaker (Belongs s) (Belongs u) (λ x h. belongs_stays s u x g h) xs b

-- shared terms with one number are one
pub belongs_once : (s : List Numbered) (x y : Numbered) → Belongs s x → Belongs s y → number_of x ≡ number_of y → x ≡ y
unfolding Belongs
belongs_once s x y b c e = let p : Some x ≡ Some y = sym b ∙ ap (slice_get s) e ∙ c in cc

-- likewise lists of them
pub all_belong_once : (s xs ys : List Numbered) → AllBelong s xs → AllBelong s ys
    → map number_of xs ≡ map number_of ys → xs ≡ ys
all_belong_once s [] [] b c e = refl
all_belong_once s [] (y ∷ ys) b c e = absurd cc
all_belong_once s (x ∷ xs) [] b c e = absurd cc
all_belong_once s (x ∷ xs) (y ∷ ys) b c e =
    let p : number_of x ≡ number_of y = cc in
    let q : map number_of xs ≡ map number_of ys = cc in
    let h : x ≡ y = belongs_once s x y (All-head (Belongs s) x xs b) (All-head (Belongs s) y ys c) p in
    let t : xs ≡ ys = all_belong_once s xs ys (All-tail (Belongs s) x xs b) (All-tail (Belongs s) y ys c) q in
    λ i. h i ∷ t i
