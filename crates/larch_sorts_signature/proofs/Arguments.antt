-- Arguments in tables.
use Rattle.std.proofs.Common.{◌≡◌, ℕ, ◌+◌, ◌<◌, Bool, true, false, List, [], ◌∷◌, ◌++◌, map, drop, length, get_or}
use Rattle.std.proofs.Common.{Option, Some, None, append_assoc, refl, sym, ◌∙◌, ap, ap₂, arith, cond, Contains}
use Rattle.std.proofs.Common.{bytes_eq, subst}
use Rattle.std.proofs.lemmas.List.{drop_more, get_or-map, length-map}
use Rattle.std.specs.Map.{lookup}
use Rattle.std.proofs.lemmas.Slice.Eq.{bytes_eq-Decides}
use Rattle.larch_base.proofs.Members.{contains_here, contains_later}
use Rattle.larch_term.specs.Tree.{Tree}
use Rattle.larch_sorts_signature.specs.Table.{Entries, reading_at, sorts_in}
use Rattle.larch_sorts_signature.specs.Operators.{arguments_at, with_argument, resume_arguments}
use Rattle.larch_sorts_counts.specs.SortsMeaningFoundFound.{Found}
use Rattle.larch_sorts_counts.specs.SortsMeaningFoundFound.TheVariants.{One, Several}

found_or_later : (s : List ℕ) (e : List ℕ × Found Tree) (es : Entries) (x : Found Tree) (b : Bool) → bytes_eq s e.0 ≡ b
    → (lookup (bytes_eq s) es ≡ Some x → Contains (sorts_in es) s)
    → cond b (Some e.1) (lookup (bytes_eq s) es) ≡ Some x → Contains (sorts_in (e ∷ es)) s
found_or_later s e es x true q later h =
    subst (Contains (sorts_in (e ∷ es))) (sym ((bytes_eq-Decides s e.0).0 q)) (contains_here e.0 (sorts_in es))
found_or_later s e es x false q later h = contains_later e.0 s (sorts_in es) (later h)

-- what is found stands in an entry
pub found_in_entry : (es : Entries) (s : List ℕ) (x : Found Tree) → reading_at es s ≡ Some x → Contains (sorts_in es) s
found_in_entry [] s x h = cc
found_in_entry (e ∷ es) s x h = found_or_later s e es x (bytes_eq s e.0) refl (found_in_entry es s x) h

-- one argument more is put behind those so far
pub resumed_one : (ts : List Tree) (several : Bool) (t : Tree) (rest : Option (Found (List Tree)))
    → resume_arguments (ts ++ t ∷ []) several rest ≡ resume_arguments ts several (with_argument (Some (One t)) rest)
resumed_one ts several t None = refl
resumed_one ts true t (Some (One us)) = refl
resumed_one ts true t (Some Several) = refl
resumed_one ts false t (Some Several) = refl
resumed_one ts false t (Some (One us)) = ap (λ vs. Some (One vs)) (append_assoc ts (t ∷ []) us)

pub resumed_several : (ts : List Tree) (several : Bool) (rest : Option (Found (List Tree)))
    → resume_arguments ts true rest ≡ resume_arguments ts several (with_argument (Some Several) rest)
resumed_several ts several None = refl
resumed_several ts true (Some rest) = refl
resumed_several ts false (Some rest) = refl

pub with_none : (found : Option (Found Tree)) → with_argument found None ≡ None
with_none None = refl
with_none (Some found) = refl

-- lists of different lengths are no arguments
pub unequal_lengths : (tables : List Entries) (ss : List (List ℕ)) → (length tables ≡ length ss → ⊥)
    → None ≡ arguments_at tables ss
unequal_lengths [] [] h = absurd (h refl)
unequal_lengths [] (s ∷ ss) h = refl
unequal_lengths (es ∷ tables) [] h = refl
unequal_lengths (es ∷ tables) (s ∷ ss) h =
    sym (rw (sym (unequal_lengths tables ss (λ e. h (omega (arith, e))))) (with_none (reading_at es s)))

-- the arguments from a place on begin with what is found there
pub unrolled : (tables : List Entries) (ss : List (List ℕ)) (i : ℕ) (es : Entries) (s : List ℕ) → i < length tables
    → i < length ss → es ≡ get_or tables i es → s ≡ get_or ss i s
    → arguments_at (drop i tables) (drop i ss)
    ≡ with_argument (reading_at es s) (arguments_at (drop (i + 1) tables) (drop (i + 1) ss))
unrolled tables ss i es s lt less e f =
    ap₂ arguments_at (drop_more tables i es lt ∙ ap (λ x. x ∷ drop (i + 1) tables) (sym e))
    (drop_more ss i s less ∙ ap (λ x. x ∷ drop (i + 1) ss) (sym f))

-- a table among others, seen as its entries
pub entries_at : {X : Type 0} (f : X → Entries) (tables : List X) (i : ℕ) (t : X) → i < length tables
    → t ≡ get_or tables i t → f t ≡ get_or (map f tables) i (f t)
entries_at f tables i t lt e = ap f e ∙ sym (get_or-map f tables i t (f t) lt)

module _ {X : Type 0} (f : X → Entries) (tables : List X) (ss : List (List ℕ)) (i : ℕ) (t : X) (s : List ℕ)
    (ts : List Tree) (several : Bool) where
  -- where nothing is found there are no arguments
  pub nothing_found : length tables ≡ length ss → i < length ss → t ≡ get_or tables i t → s ≡ get_or ss i s
      → None ≡ reading_at (f t) s
      → resume_arguments ts several (arguments_at (drop i (map f tables)) (drop i ss)) ≡ arguments_at (map f tables) ss
      → None ≡ arguments_at (map f tables) ss
  nothing_found same lt e d found invariant =
      let long = length-map tables f in
      let is = unrolled (map f tables) ss i (f t) s (omega arith) lt (entries_at f tables i t (omega arith) e) d in
      ap (λ rest. resume_arguments ts several
      (with_argument rest (arguments_at (drop (i + 1) (map f tables)) (drop (i + 1) ss)))) found
      ∙ sym (ap (resume_arguments ts several) is) ∙ invariant

  -- what is found goes behind the arguments so far
  pub next_found : (found : Found Tree) (us : List Tree) (now : Bool) → length tables ≡ length ss → i < length ss
      → t ≡ get_or tables i t → s ≡ get_or ss i s → Some found ≡ reading_at (f t) s
      → ((rest : Option (Found (List Tree)))
      → resume_arguments us now rest ≡ resume_arguments ts several (with_argument (Some found) rest))
      → resume_arguments ts several (arguments_at (drop i (map f tables)) (drop i ss)) ≡ arguments_at (map f tables) ss
      → resume_arguments us now (arguments_at (drop (i + 1) (map f tables)) (drop (i + 1) ss))
      ≡ arguments_at (map f tables) ss
  next_found found us now same lt e d is goes invariant =
      let long = length-map tables f in
      let next = unrolled (map f tables) ss i (f t) s (omega arith) lt (entries_at f tables i t (omega arith) e) d in
      goes (arguments_at (drop (i + 1) (map f tables)) (drop (i + 1) ss))
      ∙ ap (λ x. resume_arguments ts several
      (with_argument x (arguments_at (drop (i + 1) (map f tables)) (drop (i + 1) ss)))) is
      ∙ sym (ap (resume_arguments ts several) next) ∙ invariant
