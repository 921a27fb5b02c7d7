-- The files of a table by number and by name.
use Rattle.std.proofs.Common.{◌≡◌, refl, ℕ, zero, suc, ◌<◌, Bool, true, false, cond, length, ap, sym, subst, ◌∙◌, arith}
use Rattle.std.proofs.Common.{inl, inr}
use Rattle.std.proofs.Common.{Option, Some, None, List, [], ◌∷◌, Contains, Result}
use Rattle.std.specs.Prelude.{IfSome, bytes_eq, is_some}
use Rattle.std.specs.List.{position, slice_get}
use Rattle.std.specs.Map.{lookup}
use Rattle.std.proofs.lemmas.Bool.{cases_order}
use Rattle.std.proofs.lemmas.Cmp.{nat_list_eq_equiv}
use Rattle.std.proofs.lemmas.List.Quantifiers.{position-Some}
use Rattle.std.proofs.lemmas.Map.Entries.{length-keys_of, lookup_from_place, place_from_lookup}
use Rattle.std.proofs.lemmas.Map.Keys.{apart_from_distinct}
use Rattle.std.proofs.lemmas.Option.{slice_get_within}
use Rattle.std.proofs.lemmas.Slice.Eq.{bytes_eq-Decides}
use Rattle.larch_base.specs.declared.fault.Fault.{Fault}
use Rattle.larch_base.proofs.Members.{contains_here, contains_later}
use Rattle.larch_raw.specs.declared.equation.RawTrait.{RawTrait}
use Rattle.larch_flat_meaning.specs.Files.{is_there}
use Rattle.larch_flat_meaning.specs.Laws.{AreAmong}
use Rattle.larch_flat_sources.specs.Sources.{AreApart, Table, files_in, name_at, names_in}

among_by : (n m : List ℕ) (rest : Table) (v : Result RawTrait Fault) (b : Bool) → bytes_eq m n ≡ b
    → is_some (cond b (Some v) (lookup (bytes_eq m) rest)) ≡ true
    → (is_some (lookup (bytes_eq m) rest) ≡ true → Contains (names_in rest) m) → Contains (n ∷ names_in rest) m
among_by n m rest v true e h k =
    subst (Contains (n ∷ names_in rest)) (sym ((bytes_eq-Decides m n).0 e)) (contains_here n (names_in rest))
among_by n m rest v false e h k = contains_later n m (names_in rest) (k h)

-- the names of files are those of the table
pub among : (table : Table) → AreAmong (files_in table) (names_in table)
among [] m h = cc
among (e ∷ rest) m h = among_by e.0 m rest e.1 (bytes_eq m e.0) refl h (among rest m)

pub names_length : (table : Table) → length (names_in table) ≡ length table
names_length table = length-keys_of table

-- the entry with a number has its name, and what its text says
pub name_got : (table : Table) (i : ℕ) (n : List ℕ) (v : Result RawTrait Fault) → slice_get table i ≡ Some (n, v)
    → name_at table i ≡ n
name_got [] i n v e = cc
name_got (t ∷ table) zero n v e = cc
name_got (t ∷ table) (suc i) n v e = name_got table i n v e

pub text_got : (table : Table) (i : ℕ) (n : List ℕ) (v : Result RawTrait Fault) → AreApart table
    → slice_get table i ≡ Some (n, v)
    → files_in table (name_at table i) ≡ Some v
text_got table i n v d e =
    subst (λ m. files_in table m ≡ Some v) (sym (name_got table i n v e))
    (lookup_from_place nat_list_eq_equiv table i n v d e)

there_case : (b : Bool) (v : Result RawTrait Fault) (o : Option (Result RawTrait Fault)) → is_some o ≡ true
    → is_some (cond b (Some v) o) ≡ true
there_case true v o e = refl
there_case false v o e = e

-- there is a file for each number
pub there_at : (table : Table) (i : ℕ) → i < length table → is_there (files_in table) (name_at table i) ≡ true
there_at [] i lt = absurd (omega (arith, lt))
there_at (t ∷ table) zero lt =
    ap (λ b. is_some (cond b (Some t.1) (lookup (bytes_eq t.0) table))) ((bytes_eq-Decides t.0 t.0).1 refl)
there_at (t ∷ table) (suc i) lt =
    there_case (bytes_eq (name_at table i) t.0) t.1 (lookup (bytes_eq (name_at table i)) table)
    (there_at table i (omega (arith, lt)))

some_of : {A : Type 0} (o : Option A) → is_some o ≡ true → (x : A) × (o ≡ Some x)
some_of None e = cc
some_of (Some x) e = (x, refl)

-- and a number for each file
pub number_there : (table : Table) (m : List ℕ) → is_there (files_in table) m ≡ true
    → (i : ℕ) × (i < length table) × (name_at table i ≡ m)
number_there table m h =
    let s = some_of (files_in table m) h in
    let p = place_from_lookup (bytes_eq m) table s.0 s.1 in (
      p.0,
      slice_get_within table p.0 (p.1, s.0) p.2,
      name_got table p.0 p.1 s.0 p.2 ∙ sym ((bytes_eq-Decides m p.1).0 p.3),
    )

unequal_false : (n m : List ℕ) → n ≡ m → bytes_eq n m ≡ false → ⊥
unequal_false n m e f = let t : bytes_eq n m ≡ true = (bytes_eq-Decides n m).1 e in let w : true ≡ false = sym t ∙ f in
    cc

-- numbers of one name are one
pub one_number : (table : Table) → AreApart table → (i j : ℕ) → i < length table → j < length table
    → name_at table i ≡ name_at table j → i ≡ j
one_number table d i j l k e =
    elim (cases_order i j) [
      | inl q ↦ q
      | inr r ↦ elim r [
        | inl lt ↦
            absurd (unequal_false (name_at table i) (name_at table j) e
            (apart_from_distinct bytes_eq (names_in table) i j [] d lt
            (subst (λ n. j < n) (sym (names_length table)) k)))
        | inr lt ↦
            absurd (unequal_false (name_at table j) (name_at table i) (sym e)
            (apart_from_distinct bytes_eq (names_in table) j i [] d lt
            (subst (λ n. i < n) (sym (names_length table)) l)))
      ]
    ]

number_named : (table : Table) (name : List ℕ) (number : ℕ) → position (bytes_eq name) (names_in table) ≡ Some number
    → name_at table number ≡ name
number_named table name number e =
    sym ((bytes_eq-Decides name (name_at table number)).0
    (position-Some (bytes_eq name) (names_in table) number [] e).1)

-- the number of a name is that of a file of the name
pub position_named : (table : Table) (name : List ℕ) (o : Option ℕ) → o ≡ position (bytes_eq name) (names_in table)
    → IfSome o (λ number. name_at table number ≡ name)
position_named table name None e = tt
position_named table name (Some number) e = number_named table name number (sym e)

-- what isn't there is none
pub none_of : {A : Type 0} (o : Option A) → is_some o ≡ false → o ≡ None
none_of None e = refl
none_of (Some x) e = cc
