-- Operators that are found by their places are enough.
use Rattle.std.proofs.Common.{◌≡◌, ℕ, zero, suc, ◌+◌, ◌<◌, ◌==◌, ◌&&◌, Bool, true, false, cond, List, [], ◌∷◌, ◌++◌}
use Rattle.std.proofs.Common.{Contains, Option, Some, None, bytes_eq, take, length, get_or, map, refl, sym, ◌∙◌, ap}
use Rattle.std.proofs.Common.{subst, append_assoc, arith}
use Rattle.std.proofs.lemmas.List.{append-nil, take_more, length-map, length-take-le}
use Rattle.std.proofs.lemmas.Bool.Decides.{Decides-eqb}
use Rattle.std.proofs.lemmas.Slice.Eq.{bytes_eq-Decides}
use Rattle.larch_base.proofs.Members.{contains_filter, contained_in_filter, contains_flat_map, contained_in_flat_map}
use Rattle.larch_term.specs.Operator.{PlainOperator}
use Rattle.larch_term.specs.Tree.{Tree}
use Rattle.larch_sorts_signature.specs.Application.{found_by}
use Rattle.larch_sorts_signature.specs.Operators.{arguments_at, operators_at, with_argument}
use Rattle.larch_sorts_signature.specs.Overloads.{AreEnough, IsMade}
use Rattle.larch_sorts_signature.specs.Places.{IsPlaced, has_at, kept_at, same_place, takes_at}
use Rattle.larch_sorts_signature.specs.Table.{sorts_in, Entries, reading_at}
use Rattle.larch_sorts_counts.specs.SortsMeaningFoundFound.{Found}
use Rattle.larch_sorts_signature.specs.declared.place.Place.{Place}
use Rattle.larch_sorts_signature.proofs.Arguments.{entries_at, with_none, found_in_entry}

-- behind the last sort there is none
past_end : (zs : List (List ℕ)) (s : List ℕ) (i : ℕ) → length zs ≡ i → has_at zs i s ≡ false
past_end [] s i e = refl
past_end (z ∷ zs) s zero e = cc
past_end (z ∷ zs) s (suc i) e = past_end zs s i (omega (arith, e))

-- one sort more, at its place and elsewhere
at_end : (zs : List (List ℕ)) (z s : List ℕ) (i : ℕ) → length zs ≡ i → has_at (zs ++ z ∷ []) i s ≡ bytes_eq z s
at_end [] z s zero e = refl
at_end [] z s (suc i) e = cc
at_end (y ∷ zs) z s zero e = cc
at_end (y ∷ zs) z s (suc i) e = at_end zs z s i (omega (arith, e))

before_end : (zs : List (List ℕ)) (z s : List ℕ) (i : ℕ) → ((length zs ≡ i) → ⊥)
    → has_at (zs ++ z ∷ []) i s ≡ has_at zs i s
before_end [] z s zero h = absurd (h refl)
before_end [] z s (suc i) h = refl
before_end (y ∷ zs) z s zero h = refl
before_end (y ∷ zs) z s (suc i) h = before_end zs z s i (λ e. h (ap suc e))

kept_by : {X : Type 0} (m e h k g : Bool) (xs : List X) → ((e ≡ true) → (h ≡ false) × (g ≡ k)) → ((e ≡ false) → g ≡ h)
    → cond (m && h) xs [] ++ cond (m && (e && k)) xs [] ≡ cond (m && g) xs []
kept_by false e h k g xs a b = refl
kept_by true true h k g xs a b = let w = a refl in
    ap (λ x. cond x xs [] ++ cond k xs []) w.0 ∙ sym (ap (λ x. cond x xs []) w.1)
kept_by true false h k g xs a b = append-nil (cond h xs []) ∙ sym (ap (λ x. cond x xs []) (b refl))

-- an operator is kept at the places of its first sorts
abbrev pub kept_first : ℕ → PlainOperator → Place → List PlainOperator
kept_first i f p = cond ((length f.domain == p.arity) && has_at (take i f.domain) p.position p.sort) (f ∷ []) []

kept_one_more : (i : ℕ) (f : PlainOperator) (z : List ℕ) (p : Place) → i < length f.domain → z ≡ get_or f.domain i z
    → kept_first i f p ++ cond (same_place (record { arity = length f.domain; position = i; sort = z }) p) (f ∷ []) []
    ≡ kept_first (i + 1) f p
kept_one_more i f z p lt e =
    let long : length (take i f.domain) ≡ i = length-take-le i f.domain (omega (arith, lt)) in
    let more : take (i + 1) f.domain ≡ take i f.domain ++ z ∷ [] =
    take_more f.domain i z lt ∙ ap (λ x. take i f.domain ++ x ∷ []) (sym e) in
    let grown : has_at (take (i + 1) f.domain) p.position p.sort
    ≡ has_at (take i f.domain ++ z ∷ []) p.position p.sort = ap (λ zs. has_at zs p.position p.sort) more in
    kept_by (length f.domain == p.arity) (i == p.position) (has_at (take i f.domain) p.position p.sort)
    (bytes_eq z p.sort) (has_at (take (i + 1) f.domain) p.position p.sort) (f ∷ [])
    (λ q. let here : i ≡ p.position = (Decides-eqb i p.position).0 q in (
      past_end (take i f.domain) p.sort p.position (long ∙ here),
      grown ∙ at_end (take i f.domain) z p.sort p.position (long ∙ here),
    ))
    (λ q. grown ∙ before_end (take i f.domain) z p.sort p.position
    (λ d. let w : (i == p.position) ≡ true = (Decides-eqb i p.position).1 (sym long ∙ d) in cc))

-- one place more
pub kept_next : (was now : List (Place × List PlainOperator)) (old : List PlainOperator) (i : ℕ) (f : PlainOperator)
    (ds : List (List ℕ)) (z y : List ℕ) (p : Place) → ds ≡ f.domain → i < length ds → y ≡ get_or ds i y → z ≡ y
    → kept_at was p ≡ old ++ kept_first i f p
    → kept_at now p ≡ kept_at was p
    ++ cond (same_place (record { arity = length ds; position = i; sort = z }) p) (f ∷ []) []
    → kept_at now p ≡ old ++ kept_first (i + 1) f p
kept_next was now old i f ds z y p d lt e zy before put =
    let lt2 : i < length f.domain = subst (λ x. i < length x) d lt in
    let e2 : z ≡ get_or f.domain i z =
    subst (λ x. x ≡ get_or f.domain i x) (sym zy) (subst (λ x. y ≡ get_or x i y) d e) in
    let put2 =
    subst (λ x. kept_at now p ≡ kept_at was p
    ++ cond (same_place (record { arity = length x; position = i; sort = z }) p) (f ∷ []) []) d put in
    put2 ∙ ap (λ xs. xs ++ cond (same_place (record { arity = length f.domain; position = i; sort = z }) p) (f ∷ []) [])
    before
    ∙ append_assoc old (kept_first i f p)
    (cond (same_place (record { arity = length f.domain; position = i; sort = z }) p) (f ∷ []) [])
    ∙ ap (λ xs. old ++ xs) (kept_one_more i f z p lt2 e2)

-- where there are arguments, there are as many as sorts
same_lengths : (tables : List Entries) (ss : List (List ℕ)) → ((arguments_at tables ss ≡ None) → ⊥)
    → length ss ≡ length tables
same_lengths [] [] h = refl
same_lengths [] (s ∷ ss) h = absurd (h refl)
same_lengths (es ∷ tables) [] h = absurd (h refl)
same_lengths (es ∷ tables) (s ∷ ss) h =
    ap suc (same_lengths tables ss (λ e. h (ap (with_argument (reading_at es s)) e ∙ with_none (reading_at es s))))

pub found_here : (es : Entries) (s : List ℕ) (rest : Option (Found (List Tree))) (o : Option (Found Tree))
    → reading_at es s ≡ o → ((with_argument (reading_at es s) rest ≡ None) → ⊥) → Contains (sorts_in es) s
found_here es s rest None e h = absurd (h (ap (λ x. with_argument x rest) e))
found_here es s rest (Some x) e h = found_in_entry es s x e

-- a sort of an argument stands in the domain
abbrev Standing : List (List ℕ) → ℕ → Entries → Type 0
Standing ss i es = (s : List ℕ) × (has_at ss i s ≡ true) × Contains (sorts_in es) s

argument_found : (tables : List Entries) (ss : List (List ℕ)) (i : ℕ) (es : Entries) → i < length tables
    → es ≡ get_or tables i es → ((arguments_at tables ss ≡ None) → ⊥) → Standing ss i es
argument_found [] ss i es lt e h = absurd (omega (arith, lt))
argument_found (t ∷ tables) [] i es lt e h = absurd (h refl)
argument_found (t ∷ tables) (s ∷ ss) zero es lt e h = (
  s,
  (bytes_eq-Decides s s).1 refl,
  subst (λ x. Contains (sorts_in x) s) (sym e) (found_here t s (arguments_at tables ss) (reading_at t s) refl h),
)
argument_found (t ∷ tables) (s ∷ ss) (suc i) es lt e h =
    argument_found tables ss i es (omega (arith, lt)) e
    (λ d. h (ap (with_argument (reading_at t s)) d ∙ with_none (reading_at t s)))

both : (a b : Bool) → a ≡ true → b ≡ true → (a && b) ≡ true
both true true e d = refl
both true false e d = d
both false b e d = e

-- the operators that are found by the sorts of an argument are enough
pub found_enough : (entries : List (Place × List PlainOperator)) (fs : List PlainOperator) (tables : List Entries)
    (i : ℕ) (es : Entries)
    → IsPlaced entries fs → i < length tables → es ≡ get_or tables i es
    → AreEnough tables fs (found_by entries (length tables) i (sorts_in es))
found_enough entries fs tables i es placed lt e = (
  λ f c.
      let w = contained_in_flat_map (λ s. kept_at entries (record { arity = length tables; position = i; sort = s }))
      (sorts_in es) f c in
      (contained_in_filter (takes_at (record { arity = length tables; position = i; sort = w.0 })) fs f
      (subst (λ gs. Contains gs f) (placed (record { arity = length tables; position = i; sort = w.0 })) w.2)).0,
  λ f c h.
      let w = argument_found tables f.domain i es lt e h in
      contains_flat_map (λ s. kept_at entries (record { arity = length tables; position = i; sort = s }))
      (sorts_in es) w.0 f w.2
      (subst (λ gs. Contains gs f) (sym (placed (record { arity = length tables; position = i; sort = w.0 })))
      (contains_filter (takes_at (record { arity = length tables; position = i; sort = w.0 })) fs f c
      (both (length f.domain == length tables) (has_at f.domain i w.0)
      ((Decides-eqb (length f.domain) (length tables)).1 (same_lengths tables f.domain h)) w.1))),
)

-- all operators are enough
pub all_enough : (tables : List Entries) (fs : List PlainOperator) → AreEnough tables fs fs
all_enough tables fs = (λ f c. c, λ f c h. c)

pub no_tables : {X : Type 0} (xs : List X) → (length xs == 0) ≡ true → xs ≡ []
no_tables [] e = refl
no_tables (x ∷ xs) e = let w : length (x ∷ xs) ≡ 0 = (Decides-eqb (length (x ∷ xs)) 0).0 e in cc

-- what is made by the operators that are found by the sorts of an argument
pub found_made : {X : Type 0} (f : X → Entries) (tables : List X) (entries : List (Place × List PlainOperator))
    (fs : List PlainOperator) (i : ℕ) (t : X) (es : Entries)
    → IsPlaced entries fs → i < length tables → t ≡ get_or tables i t
    → ((s : List ℕ) → reading_at es s
    ≡ operators_at (map f tables) (found_by entries (length tables) i (sorts_in (f t))) s) → IsMade es (map f tables) fs
found_made f tables entries fs i t es placed lt e is = (
  found_by entries (length tables) i (sorts_in (f t)),
  subst (λ n. AreEnough (map f tables) fs (found_by entries n i (sorts_in (f t)))) (length-map tables f)
      (found_enough entries fs (map f tables) i (f t) placed (let long = length-map tables f in omega (arith, long, lt))
      (entries_at f tables i t lt e)),
  is,
)
