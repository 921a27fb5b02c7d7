-- When a box is opened for each constant of a term that isn't open, the term can be written.
use Rattle.std.specs.Prelude.{◌≡◌, ◌&&◌, ◌||◌, ◌⊎◌, Bool, true, false, cond, not, List, [], ◌∷◌, ◌++◌, Contains}
use Rattle.std.specs.Prelude.{None, refl}
use Rattle.std.proofs.Common.{ap, ap₂, inl, inr, subst, sym, ◌∙◌, arith}
use Rattle.std.proofs.lemmas.List.{append_assoc, append-nil}
use Rattle.std.proofs.lemmas.List.Elements.{All-cons, All-contains, All-nil}
use Rattle.larch_base.proofs.Members.{contains_cases, contains_either, contains_here, contains_later, contains_left}
use Rattle.larch_base.proofs.Members.{contains_none, contains_right}
use Rattle.larch_term.specs.Equality.{same_operator}
use Rattle.larch_term.specs.Operator.{PlainOperator}
use Rattle.larch_term.specs.OperatorKey.{operator_Decides}
use Rattle.larch_term.specs.Sorts.{AllOver, IsKnown, IsOver, IsTermOver}
use Rattle.larch_term.specs.Tree.{Forest, Tree, var, app, none, more}
use Rattle.larch_term.specs.declared.statement.Statement.{Statement}
use Rattle.larch_term.specs.declared.statement.Theory.{Theory}
use Rattle.larch_derive.specs.Builder.{boxes_in}
use Rattle.larch_derive.specs.OpenBox.{constant_of}
use Rattle.larch_derive.specs.Predicates.{Known}
use Rattle.larch_derive.specs.Words.{IsWordedTerm}
use Rattle.larch_derive.specs.declared.builder.Builder.{Builder}
use Rattle.larch_methods.specs.ProveMeaningLevels.{Level}
use Rattle.larch_prove_invariant.specs.Book.{Kept, made_first}
use Rattle.larch_prove_invariant.specs.Holding.{AreOwn, HoldsLevels, open_constants}
use Rattle.larch_prove_invariant.specs.Unopened.{is_among, operators_in, operators_in_all, unopened_in, unopened_of}
use Rattle.larch_prove_invariant.proofs.Apart.{not_constant}
use Rattle.larch_prove_invariant.proofs.BlockConstants.{first_among, open_made, open_parts}
use Rattle.larch_prove_invariant.proofs.Held.{boxes_held, holding_stands}
use Rattle.larch_prove_invariant.proofs.Knowing.{open_known}

-- ---- being one of operators

either_true : (a b : Bool) → (a || b) ≡ true → (a ≡ true) ⊎ (b ≡ true)
either_true true b e = inl refl
either_true false b e = inr e

among_there : (fs : List PlainOperator) (f : PlainOperator) → is_among fs f ≡ true → Contains fs f
among_there [] f e = cc
among_there (g ∷ gs) f e = elim (either_true (same_operator f g) (is_among gs f) e) [
  | inl p ↦ subst (Contains (g ∷ gs)) (sym ((operator_Decides f g).0 p)) (contains_here g gs)
  | inr p ↦ contains_later g f gs (among_there gs f p)
]

not_head : (g : PlainOperator) (gs : List PlainOperator) (f : PlainOperator) (b : Bool) → same_operator f g ≡ b
    → (b || is_among gs f) ≡ false → (is_among gs f ≡ false → Contains gs f → ⊥) → Contains (g ∷ gs) f → ⊥
not_head g gs f true q h next c = cc
not_head g gs f false q h next c = elim (contains_cases g f gs c) [
  | inl p ↦ let y : same_operator f g ≡ true = (operator_Decides f g).1 (sym p) in
      let z : true ≡ false = sym y ∙ q in cc
  | inr d ↦ next h d
]

there_among : (fs : List PlainOperator) (f : PlainOperator) → is_among fs f ≡ false → Contains fs f → ⊥
there_among [] f e c = contains_none f c
there_among (g ∷ gs) f e c = not_head g gs f (same_operator f g) refl e (there_among gs f) c

-- ---- the list

-- an operator is listed, or isn't
split : (block opened : List PlainOperator) (f : PlainOperator) (P : Type 0)
    → (is_among block f ≡ true → is_among opened f ≡ false → (is_among block f && not (is_among opened f)) ≡ true → P)
    → ((Contains block f → Contains opened f) → (is_among block f && not (is_among opened f)) ≡ false → P) → P
split block opened f P there away = by_both (is_among block f) (is_among opened f) refl refl
  where
    by_both : (a b : Bool) → is_among block f ≡ a → is_among opened f ≡ b → P
    by_both true true d e = away (λ c. among_there opened f e) (ap₂ (λ x y. x && not y) d e)
    by_both true false d e = there d e (ap₂ (λ x y. x && not y) d e)
    by_both false b d e = away (λ c. absurd (there_among block f d c)) (ap₂ (λ x y. x && not y) d e)

listed : (block opened : List PlainOperator) (f : PlainOperator) (fs : List PlainOperator)
    → (is_among block f && not (is_among opened f)) ≡ true
    → unopened_of block opened (f ∷ fs) ≡ f ∷ unopened_of block (opened ++ f ∷ []) fs
listed block opened f fs e =
    ap (λ b. cond b (f ∷ unopened_of block (opened ++ f ∷ []) fs) (unopened_of block opened fs)) e

left_out : (block opened : List PlainOperator) (f : PlainOperator) (fs : List PlainOperator)
    → (is_among block f && not (is_among opened f)) ≡ false
    → unopened_of block opened (f ∷ fs) ≡ unopened_of block opened fs
left_out block opened f fs e =
    ap (λ b. cond b (f ∷ unopened_of block (opened ++ f ∷ []) fs) (unopened_of block opened fs)) e

-- each that is listed is the block's, and neither open nor listed before
record IsNext (block opened : List PlainOperator) (f : PlainOperator) : Type 0 where
  of_block : Contains block f
  not_open : Contains opened f → ⊥

heads_same : (f g : PlainOperator) (fs gs : List PlainOperator) → f ∷ fs ≡ g ∷ gs → (f ≡ g) × (fs ≡ gs)
heads_same f g fs gs e = (cc, cc)

listed_next : (block opened fs done : List PlainOperator) (f : PlainOperator) (rest : List PlainOperator)
    → unopened_of block opened fs ≡ done ++ f ∷ rest → IsNext block (opened ++ done) f
listed_next block opened [] [] f rest e = cc
listed_next block opened [] (d ∷ ds) f rest e = cc
listed_next block opened (g ∷ gs) [] f rest e =
    split block opened g (IsNext block (opened ++ []) f)
    (λ p q b.
    let same = (heads_same g f _ rest (sym (listed block opened g gs b) ∙ e)).0 in
    subst (IsNext block (opened ++ [])) same (record {
      of_block = among_there block g p;
      not_open = λ c. there_among opened g q (subst (λ hs. Contains hs g) (append-nil opened) c);
    }))
    (λ w b. listed_next block opened gs [] f rest (sym (left_out block opened g gs b) ∙ e))
listed_next block opened (g ∷ gs) (d ∷ ds) f rest e =
    split block opened g (IsNext block (opened ++ d ∷ ds) f)
    (λ p q b.
    let same = heads_same g d _ (ds ++ f ∷ rest) (sym (listed block opened g gs b) ∙ e) in
    let next = listed_next block (opened ++ g ∷ []) gs ds f rest same.1 in
    subst (λ hs. IsNext block hs f) (append_assoc opened (g ∷ []) ds ∙ ap (λ h. opened ++ h ∷ ds) same.0) next)
    (λ w b. listed_next block opened gs (d ∷ ds) f rest (sym (left_out block opened g gs b) ∙ e))

-- what is the block's is open or listed
all_listed : (block opened fs : List PlainOperator) (f : PlainOperator) → Contains fs f → Contains block f
    → Contains (opened ++ unopened_of block opened fs) f
all_listed block opened [] f c d = absurd (contains_none f c)
all_listed block opened (g ∷ gs) f c d =
    split block opened g (Contains (opened ++ unopened_of block opened (g ∷ gs)) f)
    (λ p q b.
    let rest = unopened_of block (opened ++ g ∷ []) gs in
    subst (λ hs. Contains (opened ++ hs) f) (sym (listed block opened g gs b))
    (elim (contains_cases g f gs c) [
      | inl e ↦ contains_right opened (g ∷ rest) f (subst (Contains (g ∷ rest)) e (contains_here g rest))
      | inr i ↦ subst (λ hs. Contains hs f) (append_assoc opened (g ∷ []) rest)
          (all_listed block (opened ++ g ∷ []) gs f i d)
    ]))
    (λ w b.
    subst (λ hs. Contains (opened ++ hs) f) (sym (left_out block opened g gs b))
    (elim (contains_cases g f gs c) [
      | inl e ↦ contains_left opened (unopened_of block opened gs) f
          (subst (Contains opened) e (w (subst (Contains block) (sym e) d)))
      | inr i ↦ all_listed block opened gs f i d
    ]))

-- ---- terms

known_by : (own fs gs : List PlainOperator) (f : PlainOperator) → (Contains fs f → Contains gs f)
    → IsKnown (own ++ fs) f → IsKnown (own ++ gs) f
known_by own fs gs f h (inr i) = inr i
known_by own fs gs f h (inl i) = inl (elim (contains_either own fs f i) [
  | inl c ↦ contains_left own gs f c
  | inr c ↦ contains_right own gs f (h c)
])

mutual
  over_by : (own fs gs : List PlainOperator) (t : Tree)
      → ((f : PlainOperator) → Contains (operators_in t) f → Contains fs f → Contains gs f) → IsOver (own ++ fs) t
      → IsOver (own ++ gs) t
  over_by own fs gs (var n s) h w = tt
  over_by own fs gs (app f ts) h w = (
    known_by own fs gs f (h f (contains_here f (operators_in_all ts))) w.0,
    all_over_by own fs gs ts (λ g c. h g (contains_later f g (operators_in_all ts) c)) w.1,
  )

  all_over_by : (own fs gs : List PlainOperator) (ts : Forest)
      → ((f : PlainOperator) → Contains (operators_in_all ts) f → Contains fs f → Contains gs f)
      → AllOver (own ++ fs) ts → AllOver (own ++ gs) ts
  all_over_by own fs gs none h w = tt
  all_over_by own fs gs (more t ts) h w = (
    over_by own fs gs t (λ f c. h f (contains_left (operators_in t) (operators_in_all ts) f c)) w.0,
    all_over_by own fs gs ts (λ f c. h f (contains_right (operators_in t) (operators_in_all ts) f c)) w.1,
  )

-- over the open constants and those that are listed the term is well sorted
pub unopened_over : (own block opened : List PlainOperator) (t : Tree) → IsTermOver (own ++ block) t
    → IsTermOver (own ++ (opened ++ unopened_in block opened t)) t
unopened_over own block opened t w = (
  w.0,
  over_by own block (opened ++ unopened_in block opened t) t (λ f c d. all_listed block opened
      (operators_in t) f c d) w.1,
)

-- ---- builders

-- a constant of the block that isn't open is a box's own
pub unopened_own : (t : Theory) (s : Statement) (b : Builder) (cs : List PlainOperator) (levels : List Level)
    (ks : List Kept) (f : PlainOperator) → HoldsLevels t s b cs levels ks → Contains cs f
    → (Contains (open_constants b) f → ⊥) → AreOwn b (f ∷ [])
unopened_own t s b cs levels ks f h c o =
    let plain = All-contains (λ (k : PlainOperator). (k.domain ≡ []) ⊎ Contains
    (made_first ks) k) cs f h.constants.plain c in
    let domain : f.domain ≡ [] = elim plain [
      | inl e ↦ e
      | inr i ↦ absurd (o (subst (λ fs. Contains fs f) (sym (open_made t s b ks h.held)) (first_among ks f i)))
    ] in
    record {
      constants = All-cons (λ (k : PlainOperator). k.domain ≡ []) f [] domain (All-nil (λ
          (k : PlainOperator). k.domain ≡ []));
      different = λ i j d l m. absurd (omega (arith, l, m));
      outer = All-cons (λ k. constant_of (boxes_in b) k ≡ None) f [] (not_constant (boxes_in b) f o)
          (All-nil (λ k. constant_of (boxes_in b) k ≡ None));
    }

pub next_unopened : (block opened : List PlainOperator) (t : Tree) (done : List PlainOperator) (f : PlainOperator)
    (rest : List PlainOperator) → unopened_in block opened t ≡ done ++ f ∷ rest
    → Contains block f × (Contains (opened ++ done) f → ⊥)
next_unopened block opened t done f rest e =
    let n = listed_next block opened (operators_in t) done f rest e in (n.of_block, n.not_open)

-- where all are open that weren't, the term can be written
pub unopened_known : (t : Theory) (s : Statement) (c : Builder) (cs opened : List PlainOperator) (levels : List Level)
    (ks : List Kept) (a : Tree) → HoldsLevels t s c cs levels ks → open_constants c ≡ opened ++ unopened_in cs opened a
    → IsTermOver (t.operators ++ cs) a → IsWordedTerm a → Known c a
unopened_known t s c cs opened levels ks a h e w words =
    let theory = (boxes_held t s c ks h.held).0 in
    open_known c a (holding_stands t s c ks h.held) (open_parts t s c cs ks h.held h.constants)
    (subst (λ (u : Theory). IsTermOver (u.operators ++ open_constants c) a) (sym theory)
    (subst (λ fs. IsTermOver (t.operators ++ fs) a) (sym e) (unopened_over t.operators cs opened a w))) words
