-- To substitute and then rename is to rename and then substitute, where variables stay apart.
use Rattle.std.proofs.Common.{◌≡◌, ℕ, ◌&&◌, Bool, true, false, cond, List, [], ◌∷◌, ◌++◌, map, All, Contains, bytes_eq}
use Rattle.std.proofs.Common.{refl, sym, ◌∙◌, ap, ap₂}
use Rattle.std.proofs.lemmas.List.Elements.{All-map, All-weaker}
use Rattle.std.proofs.lemmas.Slice.Eq.{bytes_eq-Decides}
use Rattle.larch_term.proofs.BaseBools.{same_truth, both_true, and_both}
use Rattle.larch_term.proofs.BaseMembers.{contains_here, contains_later, contains_left, contains_right}
use Rattle.larch_term.proofs.BaseOptions.{map_cond}
use Rattle.larch_term.specs.Operator.{PlainOperator}
use Rattle.larch_term.specs.Sorts.{sort_of, WellSorted, IsOver}
use Rattle.larch_term.specs.Substitution.{is_entry_of, image, instance_of, substituted_all, Fits}
use Rattle.larch_term.specs.Tree.{Tree, Forest, var, app, none, more}
use Rattle.larch_term.specs.Variable.{occurrences, occurrences_in}
use Rattle.larch_term.specs.declared.substitution.Entry.{Entry}
use Rattle.larch_term.specs.declared.variable.Variable.{Variable}
use Rattle.larch_renaming.specs.Renaming.{Renaming, rename_tree, renamed_all, renamed_entry, FitsSignatures, Carries}
use Rattle.larch_renaming.specs.Renaming.{TellsApart}
use Rattle.larch_renaming.proofs.Renamed.{renamed_sort, renamed_well_sorted, renamed_over}

-- an entry is that of a variable exactly where the renamed entry is that of the renamed variable
entry_renamed : (r : Renaming) (e : Entry) (n s : List ℕ) → (e.name ≡ n → r.sort e.sort ≡ r.sort s → e.sort ≡ s)
    → is_entry_of n s e ≡ is_entry_of n (r.sort s) (renamed_entry r e)
entry_renamed r e n s apart =
    same_truth (bytes_eq e.name n && bytes_eq e.sort s) (bytes_eq e.name n && bytes_eq (r.sort e.sort) (r.sort s))
    (λ h. let b = both_true (bytes_eq e.name n) (bytes_eq e.sort s) h in
    and_both (bytes_eq e.name n) (bytes_eq (r.sort e.sort) (r.sort s)) b.0
    ((bytes_eq-Decides (r.sort e.sort) (r.sort s)).1 (ap r.sort ((bytes_eq-Decides e.sort s).0 b.1))))
    (λ h. let b = both_true (bytes_eq e.name n) (bytes_eq (r.sort e.sort) (r.sort s)) h in
    and_both (bytes_eq e.name n) (bytes_eq e.sort s) b.0
    ((bytes_eq-Decides e.sort s).1
    (apart ((bytes_eq-Decides e.name n).0 b.0) ((bytes_eq-Decides (r.sort e.sort) (r.sort s)).0 b.1))))

renamed_image : (r : Renaming) (es : List Entry) (n s : List ℕ) → TellsApart r es (record { name = n; sort = s } ∷ [])
    → rename_tree r (image es n s) ≡ image (map (renamed_entry r) es) n (r.sort s)
renamed_image r [] n s apart = refl
renamed_image r (e ∷ es) n s apart =
    let v : Variable = record { name = n; sort = s } in
    let here = entry_renamed r e n s (apart e v (contains_here e es) (contains_here v [])) in
    let later = renamed_image r es n s (λ d w c. apart d w (contains_later e d es c)) in
    map_cond (rename_tree r) (is_entry_of n s e) e.term (image es n s)
    ∙ (λ i. cond (here i) (rename_tree r e.term) (later i))

mutual
  pub renamed_substituted : (r : Renaming) (es : List Entry) (t : Tree) → TellsApart r es (occurrences t)
      → rename_tree r (instance_of es t) ≡ instance_of (map (renamed_entry r) es) (rename_tree r t)
  renamed_substituted r es (var n s) apart = renamed_image r es n s apart
  renamed_substituted r es (app f ts) apart = ap (app (r.operator f)) (renamed_all_substituted r es ts apart)

  pub renamed_all_substituted : (r : Renaming) (es : List Entry) (ts : Forest) → TellsApart r es (occurrences_in ts)
      → renamed_all r (substituted_all es ts) ≡ substituted_all (map (renamed_entry r) es) (renamed_all r ts)
  renamed_all_substituted r es none apart = refl
  renamed_all_substituted r es (more t ts) apart =
      let first =
      renamed_substituted r es t (λ e v c o. apart e v c (contains_left (occurrences t) (occurrences_in ts) v o)) in
      let rest = renamed_all_substituted r es ts
      (λ e v c o. apart e v c (contains_right (occurrences t) (occurrences_in ts) v o)) in
      λ i. more (first i) (rest i)

-- a renaming that takes no two sorts to one tells all variables apart
pub apart_by_sorts : (r : Renaming) (es : List Entry) (vs : List Variable)
    → ((s z : List ℕ) → r.sort s ≡ r.sort z → s ≡ z) → TellsApart r es vs
apart_by_sorts r es vs h e v c o n m = h e.sort v.sort m

pub renamed_fits : (r : Renaming) → FitsSignatures r → (es : List Entry) → Fits es → Fits (map (renamed_entry r) es)
renamed_fits r h es f =
    All-map (λ e. WellSorted e.term × (sort_of e.term ≡ e.sort)) (renamed_entry r) es
    (All-weaker (λ e. WellSorted e.term × (sort_of e.term ≡ e.sort))
    (λ e. WellSorted (rename_tree r e.term) × (sort_of (rename_tree r e.term) ≡ r.sort e.sort))
    (λ e p. (renamed_well_sorted r h e.term p.0, renamed_sort r h e.term ∙ ap r.sort p.1)) es f)

pub renamed_entries_over : (r : Renaming) (fs gs : List PlainOperator) → Carries r fs gs → (es : List Entry)
    → All (λ e. IsOver fs e.term) es → All (λ e. IsOver gs e.term) (map (renamed_entry r) es)
renamed_entries_over r fs gs k es h =
    All-map (λ e. IsOver gs e.term) (renamed_entry r) es
    (All-weaker (λ e. IsOver fs e.term) (λ e. IsOver gs (rename_tree r e.term))
    (λ e p. renamed_over r fs gs k e.term p) es h)
