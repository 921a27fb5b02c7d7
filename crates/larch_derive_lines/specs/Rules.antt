-- What rules take: replacements as lines write them.
use Rattle.std.specs.Prelude.{◌≡◌, ℕ, List, [], ◌∷◌, All, Option, Some, None}
use Rattle.larch_term.specs.Sorts.{sort_of}
use Rattle.larch_term.specs.declared.substitution.Entry.{Entry}
use Rattle.larch_term.specs.declared.variable.Variable.{Variable}
use Rattle.larch_derive.specs.CertificateLineBinding.{Binding}
use Rattle.larch_derive.specs.CertificateTextLineText.{IsWord}
use Rattle.larch_derive.specs.declared.builder.Builder.{Builder}
use Rattle.larch_derive.specs.Builder.{IsCodeIn}
use Rattle.larch_derive.specs.Predicates.{Known}

-- the variable of an entry
abbrev pub variable_in : Entry → Variable
variable_in e = record { name = e.name; sort = e.sort }

-- each entry has a known term of its variable's sort, and the variable's name is a word
abbrev pub AreKnownEntries : Builder → List Entry → Type 0
AreKnownEntries b es = All (λ e. Known b e.term × (sort_of e.term ≡ e.sort) × IsWord e.name) es

-- the sort at which a row is said is a word, if there is one
abbrev pub IsWordedSort : Option (List ℕ) → Type 0
IsWordedSort None = Unit {0}
IsWordedSort (Some s) = IsWord s

-- the replacements are the entries, as the builder's next lines write them
abbrev pub AreWritten : Builder → List Entry → List Binding → Type 0
AreWritten b [] [] = Unit {0}
AreWritten b [] (x ∷ xs) = ⊥
AreWritten b (e ∷ es) [] = ⊥
AreWritten b (e ∷ es) (x ∷ xs) =
    (x.name ≡ e.name) × (x.sort ≡ e.sort) × IsCodeIn b e.term x.term × AreWritten b es xs
