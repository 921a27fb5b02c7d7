-- Lists and named parts as texts, both ways.
use Rattle.std.specs.Prelude.{◌≡◌, ℕ, ◌==◌, Bool, true, false, List, [], ◌∷◌, ◌++◌, bytes_eq, Option}
use Rattle.std.specs.Prelude.{Some, None, option_and_then}
use Rattle.std.specs.Prelude.{if◌then◌else◌}
use Rattle.std.specs.List.{slice_split, join_with_byte}
use Rattle.larch_certificate_text.specs.ByteClasses.{passes}
use Rattle.larch_certificate_text.specs.Parts.{cut_at}
use Rattle.larch_certificate_text.specs.declared.here.Here.{Here}

-- what a part's reader and its text owe each other: what is written is read again, what is read is written so,
-- and what is written has certain bytes
pub record Laws {A : Type 0} (p : ℕ → Bool) (read : List ℕ → Option A) (spell : A → List ℕ) (Fit : A → Type 0)
    : Type 0 where
  pub again : (x : A) → Fit x → read (spell x) ≡ Some x
  pub back : (text : List ℕ) (x : A) → read text ≡ Some x → (text ≡ spell x) × Fit x
  pub bytes : (x : A) → Fit x → passes p (spell x) ≡ true

-- the parts between the bytes of one kind
abbrev pub split_at : ℕ → List ℕ → List (List ℕ)
split_at c text = slice_split (λ b. b == c) text

-- the items with a separator between them, and - for none
abbrev pub list_text : ℕ → List (List ℕ) → List ℕ
list_text c [] = 45 ∷ []
list_text c (x ∷ xs) = join_with_byte c (x ∷ xs)

-- an item in front of further ones, where all are there
abbrev pub both : {A : Type 0} → Option A → Option (List A) → Option (List A)
both (Some x) (Some xs) = Some (x ∷ xs)
both (Some x) None = None
both None xs = None

-- each text read, where each can be
abbrev pub read_each : {A : Type 0} → (List ℕ → Option A) → List (List ℕ) → Option (List A)
read_each f [] = Some []
read_each f (x ∷ xs) = both (f x) (read_each f xs)

-- the items that a text lists
abbrev pub read_listed : {A : Type 0} → (List ℕ → Option A) → ℕ → List ℕ → Option (List A)
read_listed f c text = if bytes_eq text (45 ∷ []) then Some [] else read_each f (split_at c text)

-- a part with its name in front, where parts have names
abbrev pub named_by : Bool → List ℕ → List ℕ → List ℕ
named_by false label text = text
named_by true label text = label ++ (61 ∷ text)

-- a part with its name in front, as parts are written here
abbrev pub part_with_label : Here → List ℕ → List ℕ → List ℕ
part_with_label h label text = named_by h.relative label text

-- what stands behind the right name
abbrev pub with_label : List ℕ → List ℕ × List ℕ → Option (List ℕ)
with_label label p = if bytes_eq p.0 label then Some p.1 else None

-- a part without its name, where parts have names
abbrev pub unnamed_by : Bool → List ℕ → List ℕ → Option (List ℕ)
unnamed_by false label text = Some text
unnamed_by true label text = option_and_then (with_label label) (cut_at 61 text)

-- a part without its name, as parts are written here
abbrev pub without_label : Here → List ℕ → List ℕ → Option (List ℕ)
without_label h label text = unnamed_by h.relative label text

-- what a named part says
abbrev pub part : {A : Type 0} → Here → List ℕ → (List ℕ → Option A) → List ℕ → Option A
part h label f text = option_and_then f (without_label h label text)

-- the name of a part with its sign, where parts have names
abbrev pub label_by : Bool → List ℕ → List ℕ
label_by false label = []
label_by true label = label ++ (61 ∷ [])
