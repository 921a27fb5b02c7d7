-- The links, as they are found one by one.
use Rattle.std.proofs.Common.{◌≡◌, refl, ℕ, suc, ◌+◌, ◌-◌, ◌≤◌, ◌<◌, ◌≢◌, ◌⊎◌, ◌==◌, Bool, true, false, cond, length}
use Rattle.std.proofs.Common.{get_or, replicate, map, take, ap, sym, subst, ◌∙◌, arith, inl, inr}
use Rattle.std.proofs.Common.{Option, Some, None, List, [], ◌∷◌, ◌++◌, Contains, length-append}
use Rattle.std.specs.Prelude.{is_some, ◌↔◌}
use Rattle.std.specs.List.{slice_get}
use Rattle.std.proofs.lemmas.Bool.{cases_order}
use Rattle.std.proofs.lemmas.Bool.Decides.{Decides-eqb}
use Rattle.std.proofs.lemmas.List.{get_or-set_other, get_or-set_same, length-replicate, length-set, map-append}
use Rattle.std.proofs.lemmas.List.{take_more}
use Rattle.larch_base.proofs.Members.{contains_either, contains_here, contains_left, contains_none, contains_one}
use Rattle.larch_base.proofs.Members.{contains_right, got_contains}
use Rattle.larch_flat_sources.specs.Building.{AreLinksSoFar, Refers, is_last, is_this, with_last, with_link}
use Rattle.larch_flat_sources.specs.Links.{AreLinks, AreWithin, referring}
use Rattle.larch_flat_sources.specs.Sources.{AreApart, Table, files_in, name_at, targets_of}
use Rattle.larch_flat_sources.proofs.Numbers.{nothing_refers, referring_within, false_true}
use Rattle.larch_flat_sources.proofs.Tables.{one_number, there_at}

pub plus_one : (k : ℕ) → k + 1 ≡ suc k
plus_one k = omega arith

same_or_not : (a b : ℕ) → (a ≡ b) ⊎ (a ≢ b)
same_or_not a b =
    elim (cases_order a b) [
      | inl q ↦ inl q
      | inr r ↦
          elim r [
            | inl l ↦ (let u : a ≢ b = omega (arith, l) in inr u)
            | inr l ↦ (let u : a ≢ b = omega (arith, l) in inr u)
          ]
    ]

this_one : (o : Option ℕ) (n : ℕ) → is_this o n ≡ true → o ≡ Some n
this_one None n e = cc
this_one (Some m) n e = ap Some ((Decides-eqb m n).0 e)

-- the last one is there
last_there : (ns : List ℕ) (n : ℕ) → is_last ns n ≡ true → Contains ns n
last_there ns n e = got_contains ns (length ns - 1) n (this_one (slice_get ns (length ns - 1)) n e)

last_got : (ns : List ℕ) (n : ℕ) → slice_get (ns ++ n ∷ []) (length ns) ≡ Some n
last_got [] n = refl
last_got (m ∷ ns) n = last_got ns n

is_itself : (n : ℕ) → (n == n) ≡ true
is_itself n = (Decides-eqb n n).1 refl

-- what is put behind the others is the last one
pushed_last : (ns : List ℕ) (n : ℕ) → is_last (ns ++ n ∷ []) n ≡ true
pushed_last ns n =
    let one_longer : length (ns ++ n ∷ []) ≡ suc (length ns) = length-append ns (n ∷ []) ∙ plus_one (length ns) in
    let place : length (ns ++ n ∷ []) - 1 ≡ length ns = omega (arith, one_longer) in
    ap (λ k. is_this (slice_get (ns ++ n ∷ []) k) n) place ∙ ap (λ o. is_this o n) (last_got ns n) ∙ is_itself n

has_case : (ns : List ℕ) (n m : ℕ) (b : Bool) → is_last ns n ≡ b → Contains (cond b ns (ns ++ n ∷ [])) m
    → Contains ns m ⊎ (m ≡ n)
has_case ns n m true e c = inl c
has_case ns n m false e c =
    elim (contains_either ns (n ∷ []) m c) [ inl x ↦ inl x | inr y ↦ inr (sym (contains_one n m y)) ]

has_last : (ns : List ℕ) (n m : ℕ) → Contains (with_last ns n) m → Contains ns m ⊎ (m ≡ n)
has_last ns n m c = has_case ns n m (is_last ns n) refl c

stays_case : (ns : List ℕ) (n m : ℕ) (b : Bool) → Contains ns m → Contains (cond b ns (ns ++ n ∷ [])) m
stays_case ns n m true c = c
stays_case ns n m false c = contains_left ns (n ∷ []) m c

stays : (ns : List ℕ) (n m : ℕ) → Contains ns m → Contains (with_last ns n) m
stays ns n m c = stays_case ns n m (is_last ns n) c

new_case : (ns : List ℕ) (n : ℕ) (b : Bool) → is_last ns n ≡ b → Contains (cond b ns (ns ++ n ∷ [])) n
new_case ns n true e = last_there ns n e
new_case ns n false e = contains_right ns (n ∷ []) n (contains_here n [])

new : (ns : List ℕ) (n : ℕ) → Contains (with_last ns n) n
new ns n = new_case ns n (is_last ns n) refl

-- how long a list of numbers is before a number, or once that stands in it
abbrev IsShort : ℕ → List ℕ → Type 0
IsShort n ns = length ns ≤ cond (is_last ns n) (suc n) n

short_case : (ns : List ℕ) (n : ℕ) (b : Bool) → is_last ns n ≡ b → length ns ≤ cond b (suc n) n
    → IsShort n (cond b ns (ns ++ n ∷ []))
short_case ns n true e l = subst (λ b. length ns ≤ cond b (suc n) n) (sym e) l
short_case ns n false e l =
    let k : length (ns ++ n ∷ []) ≡ suc (length ns) = length-append ns (n ∷ []) ∙ plus_one (length ns) in
    subst (λ b. length (ns ++ n ∷ []) ≤ cond b (suc n) n) (sym (pushed_last ns n)) (omega (arith, k, l))

still_short : (ns : List ℕ) (n : ℕ) → IsShort n ns → IsShort n (with_last ns n)
still_short ns n l = short_case ns n (is_last ns n) refl l

shorter_case : (k n : ℕ) (b c : Bool) → k ≤ cond b (suc n) n → k ≤ cond c (suc (suc n)) (suc n)
shorter_case k n true true l = omega (arith, l)
shorter_case k n true false l = omega (arith, l)
shorter_case k n false true l = omega (arith, l)
shorter_case k n false false l = omega (arith, l)

at_most : (k n : ℕ) (b : Bool) → k ≤ cond b (suc n) n → k ≤ suc n
at_most k n true l = l
at_most k n false l = omega (arith, l)

-- no links yet
pub none_so_far : (table : Table) → AreApart table → AreLinksSoFar table 0 [] (replicate (length table) [])
none_so_far table d =
    record {
      apart = d;
      size = length-replicate (length table) [];
      each = λ to m lt. (
        (λ c. absurd (contains_none m (subst (λ ns. Contains ns m) (nothing_refers (length table) to) c))),
        (λ r. elim r [
          | inl x ↦ (let l = x.0 in absurd (omega (arith, l)))
          | inr y ↦ absurd (contains_none (name_at table to) y.1)
        ]),
      );
      short = λ to. subst (λ ns. IsShort 0 ns) (sym (nothing_refers (length table) to)) (omega arith);
    }

-- what refers with fewer names refers with one more
refers_more : (table : Table) (number : ℕ) (names : List (List ℕ)) (t : List ℕ) (m to : ℕ)
    → Refers table number names m to → Refers table number (names ++ t ∷ []) m to
refers_more table number names t m to r =
    elim r [ inl x ↦ inl x | inr y ↦ inr (y.0, contains_left names (t ∷ []) (name_at table to) y.1) ]

-- what refers with one more name refers with fewer, or by that name
refers_fewer : (table : Table) (number : ℕ) (names : List (List ℕ)) (t : List ℕ) (m to : ℕ)
    → Refers table number (names ++ t ∷ []) m to
    → Refers table number names m to ⊎ ((m ≡ number) × (t ≡ name_at table to))
refers_fewer table number names t m to r =
    elim r [
      | inl x ↦ inl (inl x)
      | inr y ↦
          elim (contains_either names (t ∷ []) (name_at table to) y.1)
          [ inl a ↦ inl (inr (y.0, a)) | inr b ↦ inr (y.0, contains_one t (name_at table to) b) ]
    ]

module _ (table : Table) (number : ℕ) (names : List (List ℕ)) (links : List (List ℕ))
    (s : AreLinksSoFar table number names links) (t : List ℕ) where
  -- a name of which there is no file adds no link
  pub absent_so_far : files_in table t ≡ None → AreLinksSoFar table number (names ++ t ∷ []) links
  absent_so_far e =
      record {
        apart = s.apart;
        size = s.size;
        each = λ to m lt. (
          (λ c. refers_more table number names t m to ((s.each to m lt).0 c)),
          (λ r. elim (refers_fewer table number names t m to r) [
            | inl x ↦ (s.each to m lt).1 x
            | inr y ↦ absurd (false_true (sym (ap is_some (ap (files_in table) (sym y.1) ∙ e)) ∙ there_at table to lt))
          ]),
        );
        short = s.short;
      }

  there_each : (k : ℕ) → k < length table → name_at table k ≡ t → (to m : ℕ) → to < length table → (to ≡ k) ⊎ (to ≢ k)
      → Contains (referring (with_link links k number) to) m ↔ Refers table number (names ++ t ∷ []) m to
  there_each k kl e to m lt (inl q) =
      let room : k < length links = subst (λ n. k < n) (sym s.size) kl in
      let now : referring (with_link links k number) to ≡ with_last (referring links k) number =
      ap (referring (with_link links k number)) q
      ∙ get_or-set_same links k (with_last (referring links k) number) [] room in
      let each_k : Contains (referring links k) m ↔ Refers table number names m k = s.each k m kl in
      let named : t ≡ name_at table to = sym e ∙ ap (name_at table) (sym q) in (
        (λ c. elim (has_last (referring links k) number m (subst (λ ns. Contains ns m) now c)) [
          | inl x ↦
              refers_more table number names t m to (subst (λ j. Refers table number names m j) (sym q) (each_k.0 x))
          | inr y ↦
              inr (
                y,
                contains_right names (t ∷ []) (name_at table to)
                    (subst (λ z. Contains (t ∷ []) z) named (contains_here t [])),
              )
        ]),
        (λ r. subst (λ ns. Contains ns m) (sym now) (elim (refers_fewer table number names t m to r) [
          | inl x ↦ stays (referring links k) number m (each_k.1 (subst (λ j. Refers table number names m j) q x))
          | inr y ↦ subst (Contains (with_last (referring links k) number)) (sym y.0) (new (referring links k) number)
        ])),
      )
  there_each k kl e to m lt (inr u) =
      let now : referring (with_link links k number) to ≡ referring links to =
      get_or-set_other links k to (with_last (referring links k) number) [] u in (
        (λ c. refers_more table number names t m to ((s.each to m lt).0 (subst (λ ns. Contains ns m) now c))),
        (λ r. subst (λ ns. Contains ns m) (sym now) (elim (refers_fewer table number names t m to r) [
          | inl x ↦ (s.each to m lt).1 x
          | inr y ↦ absurd (u (one_number table s.apart to k lt kl (sym y.1 ∙ sym e)))
        ])),
      )

  there_short : (k : ℕ) → k < length table → (to : ℕ) → (to ≡ k) ⊎ (to ≢ k)
      → IsShort number (referring (with_link links k number) to)
  there_short k kl to (inl q) =
      let room : k < length links = subst (λ n. k < n) (sym s.size) kl in
      subst (λ ns. IsShort number ns)
      (sym (ap (referring (with_link links k number)) q
      ∙ get_or-set_same links k (with_last (referring links k) number) [] room))
      (still_short (referring links k) number (s.short k))
  there_short k kl to (inr u) =
      subst (λ ns. IsShort number ns) (sym (get_or-set_other links k to (with_last (referring links k) number) [] u))
      (s.short to)

  -- the name of a file adds a link from that file
  pub there_so_far : (k : ℕ) → k < length table → name_at table k ≡ t
      → AreLinksSoFar table number (names ++ t ∷ []) (with_link links k number)
  there_so_far k kl e =
      record {
        apart = s.apart;
        size = length-set links k (with_last (referring links k) number) ∙ s.size;
        each = λ to m lt. there_each k kl e to m lt (same_or_not to k);
        short = λ to. there_short k kl to (same_or_not to k);
      }

-- all names of a file are linked
pub next_so_far : (table : Table) (number : ℕ) (links : List (List ℕ))
    → AreLinksSoFar table number (targets_of table number) links → AreLinksSoFar table (suc number) [] links
next_so_far table number links s =
    record {
      apart = s.apart;
      size = s.size;
      each = λ to m lt. (
        (λ c. elim ((s.each to m lt).0 c) [
          | inl x ↦ (let l = x.0 in inl (omega (arith, l), x.1))
          | inr y ↦
              (let q = y.0 in
              inl (omega (arith, q), subst (λ k. Contains (targets_of table k) (name_at table to)) (sym q) y.1))
        ]),
        (λ r. elim r [
          | inl x ↦ (s.each to m lt).1 (elim (cases_order m number) [
            | inl q ↦ inr (q, subst (λ k. Contains (targets_of table k) (name_at table to)) q x.1)
            | inr o ↦ elim o [ inl l ↦ inl (l, x.1) | inr l ↦ (let k = x.0 in absurd (omega (arith, k, l))) ]
          ])
          | inr y ↦ absurd (contains_none (name_at table to) y.1)
        ]),
      );
      short =
          λ to. shorter_case (length (referring links to)) number (is_last (referring links to) number)
          (is_last (referring links to) (suc number)) (s.short to);
    }

short_at_end : (table : Table) (links : List (List ℕ)) → AreLinksSoFar table (length table) [] links → (to : ℕ)
    → (b : Bool) → is_last (referring links to) (length table) ≡ b
    → length (referring links to) ≤ cond b (suc (length table)) (length table)
    → length (referring links to) ≤ length table
short_at_end table links s to false e l = l
short_at_end table links s to true e l =
    let n : ℕ = length table in
    let c : Contains (referring links to) n = last_there (referring links to) n e in
    let lt : to < n = subst (λ k. to < k) s.size (referring_within links to n c) in
    elim ((s.each to n lt).0 c) [
      | inl x ↦ (let no = x.0 in absurd (omega (arith, no)))
      | inr y ↦ absurd (contains_none (name_at table to) y.1)
    ]

-- all files are linked
pub all_linked : (table : Table) (links : List (List ℕ)) → AreLinksSoFar table (length table) [] links
    → AreLinks table links
all_linked table links s =
    record {
      apart = s.apart;
      size = s.size;
      each = λ to m lt. (
        (λ c. elim ((s.each to m lt).0 c) [ inl x ↦ x | inr y ↦ absurd (contains_none (name_at table to) y.1) ]),
        (λ x. (s.each to m lt).1 (inl x)),
      );
      short = λ to. short_at_end table links s to (is_last (referring links to) (length table)) refl (s.short to);
    }

-- links have numbers of files alone
pub links_within : (table : Table) (links : List (List ℕ)) → AreLinks table links → AreWithin links
links_within table links s to m c =
    let lt : to < length table = subst (λ k. to < k) s.size (referring_within links to m c) in
    subst (λ k. m < k) (sym s.size) ((s.each to m lt).0 c).0

-- one more of a list
pub map_take_more : {A B : Type 0} (f : A → B) (xs : List A) (i : ℕ) (x : A) → i < length xs → x ≡ get_or xs i x
    → map f (take i xs) ++ f x ∷ [] ≡ map f (take (i + 1) xs)
map_take_more f xs i x lt e =
    ap (λ y. map f (take i xs) ++ f y ∷ []) e ∙ sym (map-append f (take i xs) (get_or xs i x ∷ []))
    ∙ ap (map f) (sym (take_more xs i x lt))
