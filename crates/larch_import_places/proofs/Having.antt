-- Where all is found, the second theory has the first one.
use Rattle.std.proofs.Common.{◌≡◌, ℕ, suc, ◌==◌, ◌&&◌, Bool, true, false, not, List, Contains, Some, refl, sym, ◌∙◌, ap}
use Rattle.std.proofs.Common.{subst, ◌↔◌, IsTrue}
use Rattle.std.specs.List.{list_all}
use Rattle.std.proofs.lemmas.List.Elements.{All-contains}
use Rattle.larch_base.proofs.Bools.{and_both, both_true}
use Rattle.larch_base.proofs.Lists.{all_from}
use Rattle.larch_base.proofs.Members.{contains_got}
use Rattle.larch_base.specs.ByNumber.{numbered}
use Rattle.larch_term.proofs.Decided.{operator_Decides, statement_Decides}
use Rattle.larch_term.specs.BuiltIn.{bool_sort}
use Rattle.larch_term.specs.Equality.{same_operator, same_statement}
use Rattle.larch_term.specs.declared.statement.Theory.{Theory}
use Rattle.larch_verify_law.proofs.MovedTests.{numbered_mapped}
use Rattle.larch_verify_law.proofs.Told.{numbered_contains}
use Rattle.larch_verify_meaning.specs.RenamingRenaming.{renamed_statement}
use Rattle.larch_import_meaning.proofs.Moving.{at_suc}
use Rattle.larch_import_meaning.specs.Imported.{number_among, new_numbers, HasRenamed}
use Rattle.larch_import_names.specs.Apartness.{IsApart}
use Rattle.larch_import_names.specs.Names.{named_sort, renaming}
use Rattle.larch_import_names.specs.declared.pairs.Renaming.{Renaming}
use Rattle.larch_import_places.proofs.Found.{image_passes, numbered_by, images_pass, found_by}
use Rattle.larch_import_places.proofs.NamesTold.{theory_told, theory_back}
use Rattle.larch_import_places.specs.NamedSorts.{names_theory}
use Rattle.larch_import_places.specs.Places.{place_among, places_by}

-- whether the number is one of something
abbrev is_found : ℕ → Bool
is_found n = not (n == 0)

pub has_renamed : (by : Renaming) (t u : Theory) (truth numbers places : List ℕ) → truth ≡ bool_sort
    → named_sort by truth ≡ Some truth → IsApart by → names_theory by t ≡ true → numbers ≡ new_numbers by t u
    → list_all is_found numbers ≡ true → places ≡ places_by by t u → list_all is_found places ≡ true
    → HasRenamed by t u places
has_renamed by t u truth numbers places bool stays apart named made operators put statements =
    record {
      sorts = record { apart = apart; truth_values = subst (λ s. named_sort by s ≡ Some s) bool stays };
      named = theory_told by t named;
      operators = all_from (λ f. Contains u.operators ((renaming by).operator f)) t.operators
          (λ f c.
          let g = (renaming by).operator f in
          let found = image_passes is_found (λ h. number_among u.operators ((renaming by).operator h)) t.operators
          (ap (list_all is_found) (sym made) ∙ operators) f c in
          numbered_contains u.operators (number_among u.operators g) g
          (numbered_by same_operator (λ x y. (operator_Decides x y).0) u.operators g found));
      statements = λ k s e.
          let z = renamed_statement (renaming by) s in
          let found = image_passes is_found (λ r. place_among u.statements (renamed_statement (renaming by) r))
          t.statements (ap (list_all is_found) (sym put) ∙ statements) s (numbered_contains t.statements k s e) in (
            place_among u.statements z,
            ap (λ ps. numbered ps k) put
                ∙ numbered_mapped (λ r. place_among u.statements (renamed_statement (renaming by) r)) t.statements
                k s e,
            numbered_by same_statement (λ x y. (statement_Decides x y).0) u.statements z found,
          );
    }

-- what is had is found: each test passes
pub record IsFound (by : Renaming) (t u : Theory) : Type 0 where
  pub named : names_theory by t ≡ true
  pub operators : list_all is_found (new_numbers by t u) ≡ true
  pub statements : list_all is_found (places_by by t u) ≡ true

pub had_is_found : (by : Renaming) (t u : Theory) (places : List ℕ) → HasRenamed by t u places → IsFound by t u
had_is_found by t u places x =
    record {
      named = theory_back by t x.named;
      operators = images_pass is_found (λ f. number_among u.operators ((renaming by).operator f)) t.operators
          (λ f c.
          found_by same_operator (λ g. (operator_Decides g g).1 refl) u.operators ((renaming by).operator f)
          (All-contains (λ g. Contains u.operators ((renaming by).operator g)) t.operators f x.operators c));
      statements = images_pass is_found (λ s. place_among u.statements (renamed_statement (renaming by) s)) t.statements
          (λ s c.
          let at = contains_got t.statements s c in
          let there = x.statements (suc at.0) s (at_suc t.statements at.0 ∙ at.1) in
          let z = renamed_statement (renaming by) s in
          found_by same_statement (λ r. (statement_Decides r r).1 refl) u.statements z
          (numbered_contains u.statements there.0 z there.2));
    }

-- so where a test fails nothing is had
pub none_had : (by : Renaming) (t u : Theory) (truth numbers places : List ℕ) (a b c d e : Bool) → truth ≡ bool_sort
    → (IsTrue a ↔ (named_sort by truth ≡ Some truth)) → (IsTrue b ↔ IsApart by) → c ≡ names_theory by t
    → d ≡ list_all is_found numbers → numbers ≡ new_numbers by t u → e ≡ list_all is_found places
    → places ≡ places_by by t u → (a && (b && (c && (d && e)))) ≡ false → (ps : List ℕ) → HasRenamed by t u ps → ⊥
none_had by t u truth numbers places a b c d e bool stays apart named operators made statements put fails ps x =
    let found = had_is_found by t u ps x in
    let first = stays.1 (subst (λ s. named_sort by s ≡ Some s) (sym bool) x.sorts.truth_values) in
    let last = and_both d e (operators ∙ ap (list_all is_found) made ∙ found.operators)
    (statements ∙ ap (list_all is_found) put ∙ found.statements) in
    let all = and_both a (b && (c && (d && e))) first
    (and_both b (c && (d && e)) (apart.1 x.sorts.apart) (and_both c (d && e) (named ∙ found.named) last)) in
    let v = sym all ∙ fails in cc

-- what passes of five tests
pub five_true : (a b c d e : Bool) → (a && (b && (c && (d && e)))) ≡ true
    → (a ≡ true) × (b ≡ true) × (c ≡ true) × (d ≡ true) × (e ≡ true)
five_true a b c d e h =
    let p = both_true a (b && (c && (d && e))) h in
    let q = both_true b (c && (d && e)) p.1 in
    let r = both_true c (d && e) q.1 in
    let s = both_true d e r.1 in
    (p.0, q.0, r.0, s.0, s.1)
