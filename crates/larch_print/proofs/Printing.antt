-- The text of a name with arguments, step by step.
use Rattle.std.proofs.Common.{◌≡◌, ℕ, ◌<◌, ◌==◌, Bool, true, false, List, [], ◌∷◌, ◌++◌, take, drop, length, get_or}
use Rattle.std.proofs.Common.{zero, suc, ◌+◌, ◌≤◌, add-one, drop-cons, drop-drop, length-drop, append_assoc, refl}
use Rattle.std.proofs.Common.{arith}
use Rattle.larch_term.specs.Operator.{PlainOperator}
use Rattle.larch_term.specs.Tree.{Tree, app, forest_of}
use Rattle.larch_print.specs.Print.{Piece, pieces_of, fill_name, first_placed, inside_after, begins_with_marker}
use Rattle.larch_term.specs.Truth.{is_truth}

-- a marker gives way to the first argument
pub filled_marker : (inside : Bool) (bytes : List ℕ) (pieces : List Piece) → begins_with_marker bytes ≡ true
    → fill_name inside bytes pieces ≡ first_placed inside pieces ++ fill_name inside (drop 2 bytes) (drop 1 pieces)
filled_marker inside [] pieces h = cc
filled_marker inside (byte ∷ []) pieces h = cc
filled_marker inside (byte ∷ next ∷ bytes) pieces h = rw h

-- any other byte stays
pub filled_byte : (inside : Bool) (bytes : List ℕ) (pieces : List Piece) → begins_with_marker bytes ≡ false
    → 0 < length bytes
    → fill_name inside bytes pieces
    ≡ take 1 bytes ++ fill_name (inside_after inside (get_or bytes 0 0)) (drop 1 bytes) pieces
filled_byte inside [] pieces h l = absurd (omega arith)
filled_byte inside (byte ∷ []) pieces h l = refl
filled_byte inside (byte ∷ next ∷ bytes) pieces h l = rw h

pieces_tail : (n : ℕ) (ts : List Tree)
    → drop 1 (pieces_of (forest_of (drop n ts))) ≡ pieces_of (forest_of (drop (suc n) ts))
pieces_tail zero [] = refl
pieces_tail zero (t ∷ ts) = refl
pieces_tail (suc n) [] = refl
pieces_tail (suc n) (t ∷ ts) = pieces_tail n ts

-- at a marker
pub marker_step : (inside : Bool) (name : List ℕ) (ts : List Tree) (at next : ℕ)
    → begins_with_marker (drop at name) ≡ true
    → fill_name inside (drop at name) (pieces_of (forest_of (drop next ts)))
    ≡ first_placed inside (pieces_of (forest_of (drop next ts)))
    ++ fill_name inside (drop (at + 2) name) (pieces_of (forest_of (drop (next + 1) ts)))
marker_step inside name ts at next h =
    rw (add-one, ← pieces_tail next ts, ← drop-drop 2 at name)
    (filled_marker inside (drop at name) (pieces_of (forest_of (drop next ts))) h)

long_marker : (bytes : List ℕ) → begins_with_marker bytes ≡ true → 2 ≤ length bytes
long_marker [] h = cc
long_marker (byte ∷ []) h = cc
long_marker (byte ∷ next ∷ bytes) h = omega arith

pub marker_within : (name : List ℕ) (at : ℕ) → begins_with_marker (drop at name) ≡ true → at + 2 ≤ length name
marker_within name at h = let l : 2 ≤ length (drop at name) = long_marker (drop at name) h in
    omega (arith, length-drop at name)

-- at any other byte
pub byte_step : (inside : Bool) (name : List ℕ) (pieces : List Piece) (at : ℕ)
    → begins_with_marker (drop at name) ≡ false → at < length name
    → fill_name inside (drop at name) pieces
    ≡ get_or name at 0 ∷ fill_name (inside_after inside (get_or name at 0)) (drop (at + 1) name) pieces
byte_step inside name pieces at h l =
    let e : drop at name ≡ get_or name at 0 ∷ drop (at + 1) name = rw add-one (drop-cons name at 0 l) in
    let g : begins_with_marker (get_or name at 0 ∷ drop (at + 1) name) ≡ false = rw e at h in
    rw e (filled_byte inside (get_or name at 0 ∷ drop (at + 1) name) pieces g (omega arith))

-- what is left to write is written in part
pub went_on : (text new all part left whole : List ℕ) → new ≡ text ++ part → whole ≡ part ++ left → text ++ whole ≡ all
    → new ++ left ≡ all
went_on text new all part left whole a b h = rw (a, append_assoc, ← b) h
