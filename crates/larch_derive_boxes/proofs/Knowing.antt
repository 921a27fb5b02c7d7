-- Constants of open boxes are known.
use Rattle.std.proofs.Common.{◌≡◌, inl, inr, ℕ, suc, Bool, true, false, cond, List, [], ◌∷◌, map, Contains, Option}
use Rattle.std.proofs.Common.{Some, None, refl, sym, ◌∙◌, ap, subst}
use Rattle.std.specs.Option.{option_map, option_or}
use Rattle.std.proofs.lemmas.List.Elements.{All-contains}
use Rattle.larch_base.proofs.Members.{contains_here, contains_later, contains_left, contains_right, contains_either}
use Rattle.larch_base.proofs.Members.{contains_cases, contains_none, contains_one, contains_map}
use Rattle.larch_base.proofs.Options.{some_inj}
use Rattle.larch_term.specs.BuiltIn.{bool_sort}
use Rattle.larch_term.specs.Operator.{PlainOperator, boxed}
use Rattle.larch_term.specs.OperatorKey.{same_operator, operator_Decides}
use Rattle.larch_term.specs.Tree.{app, none}
use Rattle.larch_term.specs.declared.statement.Theory.{Theory}
use Rattle.larch_certificate.specs.declared.line.BoxPart.{BoxPart}
use Rattle.larch_verify_law.specs.VerifyMeaningContext.{theory_of}
use Rattle.larch_verify_law.specs.VerifyMeaningEvents.{Event, Said, Opened, Closed}
use Rattle.larch_verify_law.specs.VerifyMeaningEvents.{operators_of, operators_from, part_operator}
use Rattle.larch_derive.specs.declared.builder.Builder.{Builder}
use Rattle.larch_derive.specs.declared.open_box.OpenBox.{OpenBox}
use Rattle.larch_derive.specs.Builder.{part_for, part_sort, shape_of}
use Rattle.larch_derive.specs.OpenBox.{place_from, constant_of, in_lines, name_in_lines}
use Rattle.larch_derive.specs.Predicates.{shapes_of, HasNoBadLine, Known}
use Rattle.larch_derive.specs.Words.{IsWordedOperator, AreWordedOperators}
use Rattle.larch_derive_boxes.specs.Boxes.{IsPart}

-- ---- places

at_head : (k : ℕ) (g : PlainOperator) (gs : List PlainOperator) (f : PlainOperator) → Contains (g ∷ gs) f
    → (Contains gs f → (j : ℕ) × (place_from (suc k) gs f ≡ Some j)) → (b : Bool) → same_operator g f ≡ b
    → (j : ℕ) × (place_from k (g ∷ gs) f ≡ Some j)
at_head k g gs f c next true e = (k, ap (λ b. cond b (Some k) (place_from (suc k) gs f)) e)
at_head k g gs f c next false e =
    let behind : Contains gs f =
    elim (contains_cases g f gs c) [
      | inl q ↦ let y : same_operator g f ≡ true = (operator_Decides g f).1 q in
          absurd (let z : true ≡ false = sym y ∙ e in cc)
      | inr d ↦ d
    ] in
    let r = next behind in
    (r.0, ap (λ b. cond b (Some k) (place_from (suc k) gs f)) e ∙ r.1)

place_there : (k : ℕ) (fs : List PlainOperator) (f : PlainOperator) → Contains fs f
    → (j : ℕ) × (place_from k fs f ≡ Some j)
place_there k [] f c = absurd (contains_none f c)
place_there k (g ∷ gs) f c = at_head k g gs f c (λ d. place_there (suc k) gs f d) (same_operator g f) refl

-- the box by which an operator is named, and its place there
record IsNamedBy (bs : List OpenBox) (f : PlainOperator) : Type 0 where
  box : OpenBox
  place : ℕ
  open_ : Contains bs box
  placed : place_from 1 box.constants f ≡ Some place
  named : constant_of bs f ≡ Some (box.number, place)

at_box : (b : OpenBox) (bs : List OpenBox) (f : PlainOperator) → (place_from 1 b.constants f ≡ None → IsNamedBy bs f)
    → (o : Option ℕ) → place_from 1 b.constants f ≡ o → IsNamedBy (b ∷ bs) f
at_box b bs f next (Some k) e =
    record {
      box = b;
      place = k;
      open_ = contains_here b bs;
      placed = e;
      named = ap (λ o. option_or (option_map (λ j. (b.number, j)) o) (constant_of bs f)) e;
    }
at_box b bs f next None e =
    let r = next e in
    record {
      box = r.box;
      place = r.place;
      open_ = contains_later b r.box bs r.open_;
      placed = r.placed;
      named = ap (λ o. option_or (option_map (λ j. (b.number, j)) o) (constant_of bs f)) e ∙ r.named;
    }

named_by : (bs : List OpenBox) (x : OpenBox) (f : PlainOperator) → Contains bs x → Contains x.constants f
    → IsNamedBy bs f
named_by [] x f c d = absurd (contains_none x c)
named_by (b ∷ bs) x f c d =
    at_box b bs f
    (λ e. elim (contains_cases b x bs c) [
      | inl q ↦
          let r = place_there 1 b.constants f (subst (λ y. Contains y.constants f) (sym q) d) in
          let z : None ≡ Some r.0 = sym e ∙ r.1 in
          absurd (cc)
      | inr later ↦ named_by bs x f later d
    ]) (place_from 1 b.constants f) refl

-- ---- what open boxes make

made_here : (n j : ℕ) (g f : PlainOperator) (gs : List PlainOperator) (k : ℕ) → (place_from (suc j) gs f ≡ Some k
    → Contains (operators_from n (suc j) (map part_for gs)) (part_operator n k (part_for f))) → (b : Bool)
    → same_operator g f ≡ b → cond b (Some j) (place_from (suc j) gs f) ≡ Some k
    → Contains (operators_from n j (map part_for (g ∷ gs))) (part_operator n k (part_for f))
made_here n j g f gs k next true e h =
    let p : j ≡ k = some_inj h in
    let q : g ≡ f = (operator_Decides g f).0 e in
    subst (λ i. Contains (operators_from n j (map part_for (g ∷ gs))) (part_operator n i (part_for f))) p
    (subst (λ o. Contains (operators_from n j (map part_for (g ∷ gs))) (part_operator n j (part_for o))) q
    (contains_here (part_operator n j (part_for g)) (operators_from n (suc j) (map part_for gs))))
made_here n j g f gs k next false e h =
    contains_later (part_operator n j (part_for g)) (part_operator n k (part_for f))
    (operators_from n (suc j) (map part_for gs)) (next h)

made : (n j : ℕ) (fs : List PlainOperator) (f : PlainOperator) (k : ℕ) → place_from j fs f ≡ Some k
    → Contains (operators_from n j (map part_for fs)) (part_operator n k (part_for f))
made n j [] f k h = cc
made n j (g ∷ gs) f k h =
    made_here n j g f gs k (λ e. made n (suc j) gs f k e) (same_operator g f) refl h

shape_there : (t : Theory) (h : List Event) (p : ℕ × List BoxPart) (o : PlainOperator) → Contains (shapes_of h) p
    → Contains (operators_from p.0 1 p.1) o → Contains (theory_of t h).operators o
shape_there t [] p o c d = absurd (contains_none p c)
shape_there t (Said n s ∷ h) p o c d = shape_there t h p o c d
shape_there t (Opened b ∷ h) p o c d =
    elim (contains_either (shapes_of h) ((b.number, b.parts) ∷ []) p c) [
      | inl outer ↦ contains_left (theory_of t h).operators (operators_of b) o (shape_there t h p o outer d)
      | inr own ↦
          contains_right (theory_of t h).operators (operators_of b) o
          (subst (λ q. Contains (operators_from q.0 1 q.1) o) (sym (contains_one (b.number, b.parts) p own)) d)
    ]
shape_there t (Closed b s ∷ h) p o c d = shape_there t h p o c d

pub constant_in_lines : (bs : List OpenBox) (f : PlainOperator) (n k : ℕ) → f.domain ≡ []
    → constant_of bs f ≡ Some (n, k)
    → part_operator n k (part_for f) ≡ in_lines bs f
constant_in_lines bs f n k e q =
    let name : boxed n k ≡ name_in_lines (constant_of bs f) f.name = ap (λ o. name_in_lines o f.name) (sym q) in
    ap (λ d. part_operator n k (part_sort f d)) e
    ∙ (λ i. record { name = name i; domain = sym e i; range = f.range })

pub predicate_in_lines : (bs : List OpenBox) (f : PlainOperator) (s : List ℕ) (n k : ℕ) → f.domain ≡ s ∷ []
    → f.range ≡ bool_sort → constant_of bs f ≡ Some (n, k) → part_operator n k (part_for f) ≡ in_lines bs f
predicate_in_lines bs f s n k e r q =
    let name : boxed n k ≡ name_in_lines (constant_of bs f) f.name = ap (λ o. name_in_lines o f.name) (sym q) in
    ap (λ d. part_operator n k (part_sort f d)) e
    ∙ (λ i. record { name = name i; domain = sym e i; range = sym r i })

part_in_lines : (bs : List OpenBox) (f : PlainOperator) (n k : ℕ) → IsPart f → constant_of bs f ≡ Some (n, k)
    → part_operator n k (part_for f) ≡ in_lines bs f
part_in_lines bs f n k (inl e) q = constant_in_lines bs f n k e q
part_in_lines bs f n k (inr (s, e, r)) q = predicate_in_lines bs f s n k e r q

-- what stands for a part of an open box is there
pub part_there : (t : Theory) (bs : List OpenBox) (h : List Event) → shapes_of h ≡ map shape_of bs → (x : OpenBox)
    (f : PlainOperator) → Contains bs x → Contains x.constants f → IsPart f
    → Contains (theory_of t h).operators (in_lines bs f)
part_there t bs h opened x f c d e =
    let r = named_by bs x f c d in
    let there = subst (λ l. Contains l (shape_of r.box)) (sym opened) (contains_map shape_of bs r.box r.open_) in
    let known = shape_there t h (shape_of r.box) (part_operator r.box.number r.place (part_for f)) there
    (made r.box.number 1 r.box.constants f r.place r.placed) in
    subst (Contains (theory_of t h).operators) (part_in_lines bs f r.box.number r.place e r.named) known

pub constant_known : (b : Builder) (x : OpenBox) (f : PlainOperator) → HasNoBadLine b → Contains b.boxes x
    → Contains x.constants f → f.domain ≡ [] → Known b (app f none)
unfolding HasNoBadLine Known
constant_known b x f (st, h) c d e = (
  st,
  record {
    stand = h;
    over = (
      (sym e, tt),
      (inl (part_there b.theory b.boxes st.history h.opened x f c d (inl e)), tt),
    );
    words = (
      All-contains IsWordedOperator x.constants f
          (All-contains (λ y. AreWordedOperators y.constants) b.boxes x h.parts c) d,
      tt,
    );
  },
)
