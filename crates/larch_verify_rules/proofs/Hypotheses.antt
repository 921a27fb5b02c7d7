-- Things under numbers.
use Rattle.std.proofs.Common.{◌≡◌, ℕ, ◌==◌, ◌-◌, Bool, true, false, if◌then◌else◌, List, map, All, Option, Some, None}
use Rattle.std.proofs.Common.{refl, sym, ◌∙◌, ap}
use Rattle.std.specs.Prelude.{IfSome}
use Rattle.std.specs.List.{slice_get}
use Rattle.std.specs.Option.{option_map, option_and_then}
use Rattle.std.proofs.lemmas.List.Elements.{All-contains}
use Rattle.std.proofs.lemmas.Option.{slice_get-map}
use Rattle.larch_base.proofs.Members.{got_contains}
use Rattle.larch_base.specs.ByNumber.{numbered}
use Rattle.larch_tables.proofs.Identities.{at_place}
use Rattle.larch_verify_meaning.specs.Events.{PlainBox}
use Rattle.larch_term.specs.declared.statement.Statement.{Statement}

pub numbered_map : {X Y : Type 0} (f : X → Y) (xs : List X) (k : ℕ)
    → numbered (map f xs) k ≡ option_map f (numbered xs k)
numbered_map f xs k = by (k == 0)
  where
    by : (b : Bool) → (if b then None else slice_get (map f xs) (k - 1))
        ≡ option_map f (if b then None else slice_get xs (k - 1))
    by true = refl
    by false = slice_get-map f xs (k - 1)

pub numbered_all : {X : Type 0} (P : X → Type 0) (xs : List X) (k : ℕ) (r : Option X) → All P xs → r ≡ numbered xs k
    → IfSome r P
numbered_all P xs k None a e = tt
numbered_all P xs k (Some x) a e = All-contains P xs x a (got_contains xs (k - 1) x (at_place xs k x (sym e)))

-- the hypothesis with a number
pub hypothesis : (o : Option PlainBox) (b : PlainBox) (k : ℕ) (r : Option Statement) → Some b ≡ o
    → r ≡ numbered b.hypotheses k
    → r ≡ option_and_then (λ box. numbered box.hypotheses k) o
hypothesis o b k r e h = h ∙ ap (option_and_then (λ box. numbered box.hypotheses k)) e
