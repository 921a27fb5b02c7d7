-- Terms in words over the theory's operators and the constants of open boxes are known, and no others.
use Rattle.std.specs.Prelude.{◌≡◌, ℕ, ◌-◌, List, [], ◌∷◌, ◌++◌, map, All, Contains, Option, None, Some, option_map}
use Rattle.std.specs.Prelude.{refl}
use Rattle.std.specs.List.{flat_map}
use Rattle.std.specs.Option.{option_or}
use Rattle.std.proofs.Common.{inl, inr, subst, sym, ◌∙◌}
use Rattle.std.proofs.lemmas.List.Elements.{All-contains}
use Rattle.larch_base.proofs.Members.{contained_in_flat_map, contains_either, contains_left, contains_right}
use Rattle.larch_base.proofs.Members.{got_contains}
use Rattle.larch_term.specs.Operator.{PlainOperator}
use Rattle.larch_term.specs.Sorts.{AllOver, AllWellSorted, IsKnown, IsOver, IsTermOver, WellSorted}
use Rattle.larch_term.specs.Tree.{Forest, Tree, var, app, none, more}
use Rattle.larch_term.specs.declared.statement.Theory.{Theory}
use Rattle.larch_calculus.specs.RenamingRenaming.{Carries, rename_tree, renamed_all}
use Rattle.larch_calculus.proofs.RenamingRenamed.{renamed_term_over}
use Rattle.larch_calculus.specs.Renaming.{HasPlainNames}
use Rattle.larch_derive.specs.VerifyMeaningContext.{theory_of}
use Rattle.larch_derive.specs.VerifyMeaningEvents.{Event, start}
use Rattle.larch_derive.specs.Builder.{shape_of}
use Rattle.larch_derive.specs.OpenBox.{constant_of, in_lines, naming, place_from}
use Rattle.larch_derive.specs.Predicates.{AreOthers, Known, HasNoBadLine, operators_at, shapes_of}
use Rattle.larch_derive.specs.Words.{IsWordedTerm}
use Rattle.larch_derive.specs.declared.builder.Builder.{Builder}
use Rattle.larch_derive.specs.declared.open_box.OpenBox.{OpenBox}
use Rattle.larch_derive.proofs.Codes.{place_got}
use Rattle.larch_derive.proofs.Decoding.{known_plain, plain_own, sorts_in_lines, stays_in_lines}
use Rattle.larch_derive.proofs.Runs.{GoDown, down_run}
use Rattle.larch_derive.proofs.Unchanged.{known_in_boxes, naming_faithful, own_in_lines}
use Rattle.larch_methods.specs.DeriveBoxesBoxes.{IsPart}
use Rattle.larch_methods.proofs.DeriveBoxesKnowing.{part_there}
use Rattle.larch_prove_invariant.specs.Holding.{open_constants}

-- the constants of boxes
abbrev made_in : List OpenBox → List PlainOperator
made_in bs = flat_map (λ x. x.constants) bs

-- the theory's own operators and the boxes' constants are known where these are open, as they are written there
open_carries : (t : Theory) (bs : List OpenBox) (h : List Event) → HasPlainNames t
    → All (λ y. AreOthers t y.constants) bs → shapes_of h ≡ map shape_of bs → All IsPart (made_in bs)
    → Carries (naming bs) (t.operators ++ made_in bs) (theory_of t h).operators
open_carries t bs h p others opened parts f (inr b) =
    subst (IsKnown (theory_of t h).operators) (sym (own_in_lines t bs f p others (inr b))) (known_in_boxes t h f
    (inr b))
open_carries t bs h p others opened parts f (inl c) =
    elim (contains_either t.operators (made_in bs) f c) [
      | inl d ↦
          subst (IsKnown (theory_of t h).operators) (sym (own_in_lines t bs f p others (inl d)))
          (known_in_boxes t h f (inl d))
      | inr d ↦
          let x = contained_in_flat_map (λ (y : OpenBox). y.constants) bs f d in
          inl (part_there t bs h opened x.0 f x.1 x.2 (All-contains IsPart (made_in bs) f parts d))
    ]

pub open_known : (b : Builder) (a : Tree) → HasNoBadLine b → All IsPart (open_constants b)
    → IsTermOver (b.theory.operators ++ open_constants b) a → IsWordedTerm a → Known b a
unfolding HasNoBadLine Known
open_known b a (st, h) parts w words =
    let faithful = naming_faithful b.theory b.boxes h.plain h.others in (
      st,
      record {
        stand = h;
        over = renamed_term_over (naming b.boxes) (b.theory.operators ++ made_in b.boxes) (operators_at b.theory st)
            faithful.signatures (open_carries b.theory b.boxes st.history h.plain h.others h.opened parts) a w;
        words = words;
      },
    )

-- ---- and no others

made_at : (b : OpenBox) (bs : List OpenBox) (f : PlainOperator) (p : ℕ × ℕ)
    → (constant_of bs f ≡ Some p → Contains (made_in bs) f) → (o : Option ℕ) → place_from 1 b.constants f ≡ o
    → option_or (option_map (λ k. (b.number, k)) o) (constant_of bs f) ≡ Some p
    → Contains (b.constants ++ made_in bs) f
made_at b bs f p rest None e h = contains_right b.constants (made_in bs) f (rest h)
made_at b bs f p rest (Some k) e h =
    contains_left b.constants (made_in bs) f (got_contains b.constants (k - 1) f (place_got 1 b.constants f k e).1)

-- what stands for a constant of open boxes is made by one of them
made_there : (bs : List OpenBox) (f : PlainOperator) (p : ℕ × ℕ) → constant_of bs f ≡ Some p → Contains (made_in bs) f
made_there [] f p e = cc
made_there (b ∷ bs) f p e = made_at b bs f p (made_there bs f p) (place_from 1 b.constants f) refl e

-- an operator that is known is the theory's, built in or a constant of an open box
operator_open : (t : Theory) → HasPlainNames t → (h : List Event) (c : ℕ) (bs : List OpenBox) (f : PlainOperator)
    → GoDown c h → IsKnown (theory_of t h).operators (in_lines bs f) → IsKnown (t.operators ++ made_in bs) f
operator_open t p h c bs f g w = by_naming (constant_of bs f) refl
  where
    by_naming : (o : Option (ℕ × ℕ)) → constant_of bs f ≡ o → IsKnown (t.operators ++ made_in bs) f
    by_naming (Some q) e = inl (contains_right t.operators (made_in bs) f (made_there bs f q e))
    by_naming None e =
        let n = known_plain t p h c bs f g e w in
        elim (subst (IsKnown (theory_of t h).operators) (stays_in_lines bs f n.0 e n.1) w) [
          | inl x ↦ inl (contains_left t.operators (made_in bs) f (plain_own t h n.0 f x n.1))
          | inr i ↦ inr i
        ]

mutual
  term_open : (t : Theory) → HasPlainNames t → (h : List Event) (c : ℕ) (bs : List OpenBox) → GoDown c h → (a : Tree)
      → IsOver (theory_of t h).operators (rename_tree (naming bs) a) → IsOver (t.operators ++ made_in bs) a
  term_open t p h c bs g (var n s) w = tt
  term_open t p h c bs g (app f ts) w = (operator_open t p h c bs f g w.0, terms_open t p h c bs g ts w.1)

  terms_open : (t : Theory) → HasPlainNames t → (h : List Event) (c : ℕ) (bs : List OpenBox) → GoDown c h
      → (ts : Forest) → AllOver (theory_of t h).operators (renamed_all (naming bs) ts)
      → AllOver (t.operators ++ made_in bs) ts
  terms_open t p h c bs g none w = tt
  terms_open t p h c bs g (more a ts) w = (term_open t p h c bs g a w.0, terms_open t p h c bs g ts w.1)

mutual
  sorted_open : (bs : List OpenBox) (a : Tree) → WellSorted (rename_tree (naming bs) a) → WellSorted a
  sorted_open bs (var n s) w = tt
  sorted_open bs (app f ts) w = (sym (sorts_in_lines bs ts) ∙ w.0, all_sorted_open bs ts w.1)

  all_sorted_open : (bs : List OpenBox) (ts : Forest) → AllWellSorted (renamed_all (naming bs) ts) → AllWellSorted ts
  all_sorted_open bs none w = tt
  all_sorted_open bs (more a ts) w = (sorted_open bs a w.0, all_sorted_open bs ts w.1)

pub known_over : (b : Builder) (a : Tree) → Known b a → IsTermOver (b.theory.operators ++ open_constants b) a
unfolding Known
known_over b a (st, h) =
    let down = down_run b.theory b.lines start st h.stand.runs tt in (
      sorted_open b.boxes a h.over.0,
      term_open b.theory h.stand.plain st.history st.count b.boxes down a h.over.1,
    )
