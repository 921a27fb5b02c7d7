-- Options and the choice between two values.
use Rattle.std.proofs.Common.{◌≡◌, Bool, true, false, cond, Option, Some, None, refl}
use Rattle.std.specs.Option.{option_map, option_or}

pub some_inj : {X : Type 0} {x y : X} → Some x ≡ Some y → x ≡ y
some_inj e = cc

pub map_or : {X Y : Type 0} (f : X → Y) (a b : Option X)
    → option_map f (option_or a b) ≡ option_or (option_map f a) (option_map f b)
map_or f None b = refl
map_or f (Some x) b = refl

pub map_cond : {X Y : Type 0} (f : X → Y) (b : Bool) (x y : X) → f (cond b x y) ≡ cond b (f x) (f y)
map_cond f true x y = refl
map_cond f false x y = refl

pub cond_by : {X : Type 0} (b : Bool) (x y z w : X) → x ≡ z → y ≡ w → cond b x y ≡ cond b z w
cond_by true x y z w p q = p
cond_by false x y z w p q = q
