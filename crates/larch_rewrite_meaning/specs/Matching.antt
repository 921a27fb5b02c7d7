-- Patterns that match terms.
use Rattle.std.specs.Prelude.{ℕ, true, false, if◌then◌else◌, List, [], ◌∷◌, bytes_eq, Option, Some, None}
use Rattle.std.specs.Prelude.{option_and_then}
use Rattle.larch_term.specs.Tree.{Tree, Forest, var, app, none, more}
use Rattle.larch_term.specs.Sorts.{sort_of}
use Rattle.larch_term.specs.Equality.{same_operator, same_tree}
use Rattle.larch_term.specs.Substitution.{is_entry_of}
use Rattle.larch_term.specs.declared.substitution.Entry.{Entry}

-- all entries, with a variable bound to a term as well, unless some of them bind it to another one
abbrev pub bound : List Entry → List ℕ → List ℕ → Tree → List Entry → Option (List Entry)
bound all n s t [] = Some (record { name = n; sort = s; term = t } ∷ all)
bound all n s t (e ∷ es) = elim (is_entry_of n s e) [
  | true ↦ if same_tree e.term t then Some all else None
  | false ↦ bound all n s t es
]

abbrev mutual
  -- the substitution, extended so that it makes a pattern the term, where that can be
  pub match_term : Tree → Tree → List Entry → Option (List Entry)
  match_term (var n s) t es = if bytes_eq (sort_of t) s then bound es n s t es else None
  match_term (app f ps) (var n s) es = None
  match_term (app f ps) (app g ts) es = elim (same_operator f g) [
    | true ↦ matched_all ps ts es
    | false ↦ None
  ]

  pub matched_all : Forest → Forest → List Entry → Option (List Entry)
  matched_all none none es = Some es
  matched_all none (more t ts) es = None
  matched_all (more p ps) none es = None
  matched_all (more p ps) (more t ts) es = option_and_then (λ ds. matched_all ps ts ds) (match_term p t es)
