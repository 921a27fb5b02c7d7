-- Terms and theories by a renaming under which no two sorts become one, and by one that is taken back.
use Rattle.std.proofs.Common.{◌≡◌, ℕ, List, map, bytes_eq, Some, option_map, Contains, sym, ◌∙◌, ap}
use Rattle.std.proofs.lemmas.Slice.Eq.{bytes_eq-Decides}
use Rattle.larch_term.proofs.BaseBools.{same_truth}
use Rattle.larch_term.proofs.BaseLists.{map_by}
use Rattle.larch_term.specs.BuiltIn.{built_in, bool_sort}
use Rattle.larch_term.specs.Operator.{PlainOperator}
use Rattle.larch_term.specs.Place.{at}
use Rattle.larch_term.specs.Sorts.{IsKnown}
use Rattle.larch_term.specs.Substitution.{instance_of}
use Rattle.larch_term.specs.Tree.{Tree}
use Rattle.larch_term.specs.Variable.{occurrences}
use Rattle.larch_term.specs.declared.built_in.BuiltIn.{BuiltIn}
use Rattle.larch_term.specs.declared.substitution.Entry.{Entry}
use Rattle.larch_term.specs.declared.variable.Variable.{Variable}
use Rattle.larch_term.specs.declared.statement.Statement.{Statement}
use Rattle.larch_term.specs.declared.statement.Theory.{Theory}
use Rattle.larch_renaming.specs.Renaming.{Renaming, no_renaming, after, rename_tree, renamed_variable, renamed_entry}
use Rattle.larch_renaming.specs.Renaming.{renamed_statement, renamed_theory, KeepsBuiltIns, AreAlikeOver}
use Rattle.larch_renaming.proofs.Renamed.{at_renamed}
use Rattle.larch_renaming.proofs.RenamedStatements.{statement_after, statement_alike, statement_unchanged, theory_after}
use Rattle.larch_renaming.proofs.RenamedStatements.{theory_alike, theory_unchanged}
use Rattle.larch_renaming.proofs.RenamedSubstitutions as by_entries
use Rattle.larch_calculus.specs.Renaming.{KeepsSortsApart, TakesBack}

-- what stands at a place
pub renamed_at : (r : Renaming) (t : Tree) (p : List ℕ) (u : Tree) → at t p ≡ Some u
    → at (rename_tree r t) p ≡ Some (rename_tree r u)
renamed_at r t p u h = at_renamed r t p ∙ ap (option_map (rename_tree r)) h

-- sorts are told apart as before
pub sort_test : (r : Renaming) → KeepsSortsApart r → (s q : List ℕ) → bytes_eq (r.sort s) (r.sort q) ≡ bytes_eq s q
sort_test r k s q =
    same_truth (bytes_eq (r.sort s) (r.sort q)) (bytes_eq s q)
    (λ e. (bytes_eq-Decides s q).1 (k s q ((bytes_eq-Decides (r.sort s) (r.sort q)).0 e)))
    (λ e. (bytes_eq-Decides (r.sort s) (r.sort q)).1 (ap r.sort ((bytes_eq-Decides s q).0 e)))

-- so are variables
pub variable_back : (r : Renaming) → KeepsSortsApart r → (v w : Variable)
    → renamed_variable r v ≡ renamed_variable r w → v ≡ w
variable_back r k v w e = λ i. record { name = ap (λ x. x.name) e i; sort = k v.sort w.sort (ap (λ x. x.sort) e) i }

pub renamed_substituted : (r : Renaming) → KeepsSortsApart r → (es : List Entry) (t : Tree)
    → rename_tree r (instance_of es t) ≡ instance_of (map (renamed_entry r) es) (rename_tree r t)
renamed_substituted r k es t = by_entries.renamed_substituted r es t (by_entries.apart_by_sorts r es (occurrences t) k)

-- renamings that do the same with known operators do so with lists of them
pub operators_alike : (r q : Renaming) (fs : List PlainOperator) → AreAlikeOver r q fs → (gs : List PlainOperator)
    → ((g : PlainOperator) → Contains gs g → IsKnown fs g) → map r.operator gs ≡ map q.operator gs
operators_alike r q fs h gs k = map_by r.operator q.operator gs (λ g c. h.operators g (k g c))

-- what a renaming makes, taken back
pub statement_back : (q r : Renaming) → TakesBack q r → (s : Statement)
    → renamed_statement q (renamed_statement r s) ≡ s
statement_back q r h s =
    sym (statement_after q r s) ∙ statement_alike (after q r) no_renaming h s ∙ statement_unchanged s

pub theory_back : (q r : Renaming) → TakesBack q r → (t : Theory) → renamed_theory q (renamed_theory r t) ≡ t
theory_back q r h t = sym (theory_after q r t) ∙ theory_alike (after q r) no_renaming h t ∙ theory_unchanged t

-- a built-in operator over Bool stays
pub built_in_kept : (r : Renaming) → KeepsBuiltIns r → (b : BuiltIn)
    → r.operator (built_in b bool_sort) ≡ built_in b bool_sort
built_in_kept r k b = k.operators b bool_sort ∙ ap (built_in b) k.truth_values
