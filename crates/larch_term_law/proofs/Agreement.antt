-- Two substitutions give one term exactly where they agree on its occurrences.
use Rattle.std.proofs.Common.{◌≡◌, ◌↔◌, ℕ, List, [], ◌∷◌, ◌++◌, All, refl, sym, ◌∙◌, ap}
use Rattle.std.specs.List.{flat_map}
use Rattle.std.proofs.lemmas.List.Elements.{All-nil, All-cons, All-head, All-tail, All-append}
use Rattle.std.proofs.lemmas.List.{append-nil}
use Rattle.std.proofs.lemmas.Grind.{flat_map-append}
use Rattle.larch_term.specs.Operator.{PlainOperator}
use Rattle.larch_term.specs.Substitution.{image, instance_of, substituted_all}
use Rattle.larch_term.specs.Tree.{Tree, Forest, var, app, none, more}
use Rattle.larch_term.specs.Variable.{occurrences, occurrences_in}
use Rattle.larch_term.specs.declared.substitution.Entry.{Entry}
use Rattle.larch_term.specs.declared.variable.Variable.{Variable}
use Rattle.larch_term_law.proofs.Substitutions.{substituted_nil}

-- two substitutions agree on a variable
abbrev pub AgreeOn : List Entry → List Entry → Variable → Type 0
AgreeOn es ds v = image es v.name v.sort ≡ image ds v.name v.sort

front : {X : Type 0} (P : X → Type 0) (xs ys : List X) → All P (xs ++ ys) → All P xs
front P [] ys h = All-nil P
front P (x ∷ xs) ys h = All-cons P x xs (All-head P x (xs ++ ys) h) (front P xs ys (All-tail P x (xs ++ ys) h))

rest : {X : Type 0} (P : X → Type 0) (xs ys : List X) → All P (xs ++ ys) → All P ys
rest P [] ys h = h
rest P (x ∷ xs) ys h = rest P xs ys (All-tail P x (xs ++ ys) h)

mutual
  pub same_by_agreement : (es ds : List Entry) (t : Tree) → All (AgreeOn es ds) (occurrences t)
      → instance_of es t ≡ instance_of ds t
  same_by_agreement es ds (var n s) h = All-head (AgreeOn es ds) (record { name = n; sort = s }) [] h
  same_by_agreement es ds (app f ts) h = ap (app f) (all_same_by_agreement es ds ts h)

  pub all_same_by_agreement : (es ds : List Entry) (ts : Forest) → All (AgreeOn es ds) (occurrences_in ts)
      → substituted_all es ts ≡ substituted_all ds ts
  all_same_by_agreement es ds none h = refl
  all_same_by_agreement es ds (more t ts) h =
      let a = same_by_agreement es ds t (front (AgreeOn es ds) (occurrences t) (occurrences_in ts) h) in
      let b = all_same_by_agreement es ds ts (rest (AgreeOn es ds) (occurrences t) (occurrences_in ts) h) in
      λ i. more (a i) (b i)

mutual
  pub agreement_by_same : (es ds : List Entry) (t : Tree) → instance_of es t ≡ instance_of ds t
      → All (AgreeOn es ds) (occurrences t)
  agreement_by_same es ds (var n s) e =
      All-cons (AgreeOn es ds) (record { name = n; sort = s }) [] e (All-nil (AgreeOn es ds))
  agreement_by_same es ds (app f ts) e =
      let i : substituted_all es ts ≡ substituted_all ds ts = cc in all_agreement_by_same es ds ts i

  pub all_agreement_by_same : (es ds : List Entry) (ts : Forest) → substituted_all es ts ≡ substituted_all ds ts
      → All (AgreeOn es ds) (occurrences_in ts)
  all_agreement_by_same es ds none e = All-nil (AgreeOn es ds)
  all_agreement_by_same es ds (more t ts) e =
      let i : instance_of es t ≡ instance_of ds t = cc in
      let j : substituted_all es ts ≡ substituted_all ds ts = cc in
      All-append (AgreeOn es ds) (occurrences t) (occurrences_in ts) (agreement_by_same es ds t i)
      (all_agreement_by_same es ds ts j)

pub agreement : (es ds : List Entry) (t : Tree)
    → (instance_of es t ≡ instance_of ds t) ↔ All (AgreeOn es ds) (occurrences t)
agreement es ds t = (agreement_by_same es ds t, same_by_agreement es ds t)

-- the occurrences in what takes the place of a variable
abbrev pub image_occurrences : List Entry → Variable → List Variable
image_occurrences es v = occurrences (image es v.name v.sort)

mutual
  pub substituted_occurrences : (es : List Entry) (t : Tree)
      → occurrences (instance_of es t) ≡ flat_map (image_occurrences es) (occurrences t)
  substituted_occurrences es (var n s) = sym (append-nil (occurrences (image es n s)))
  substituted_occurrences es (app f ts) = substituted_all_occurrences es ts

  pub substituted_all_occurrences : (es : List Entry) (ts : Forest)
      → occurrences_in (substituted_all es ts) ≡ flat_map (image_occurrences es) (occurrences_in ts)
  substituted_all_occurrences es none = refl
  substituted_all_occurrences es (more t ts) =
      (λ i. substituted_occurrences es t i ++ substituted_all_occurrences es ts i)
      ∙ sym (flat_map-append (image_occurrences es) (occurrences t) (occurrences_in ts))

none_in : {X Y : Type 0} (f : X → List Y) (xs : List X) → All (λ x. f x ≡ []) xs → flat_map f xs ≡ []
none_in f [] h = refl
none_in f (x ∷ xs) h =
    (λ i. All-head (λ y. f y ≡ []) x xs h i ++ flat_map f xs) ∙ none_in f xs (All-tail (λ y. f y ≡ []) x xs h)

-- a term whose variables all become closed terms becomes closed
pub closed_by_images : (es : List Entry) (t : Tree) → All (λ v. image_occurrences es v ≡ []) (occurrences t)
    → occurrences (instance_of es t) ≡ []
closed_by_images es t h = substituted_occurrences es t ∙ none_in (image_occurrences es) (occurrences t) h

-- a closed term stays as it is
pub closed_stays : (es : List Entry) (t : Tree) → occurrences t ≡ [] → instance_of es t ≡ t
closed_stays es t e =
    same_by_agreement es [] t (rw e (All-nil (AgreeOn es []))) ∙ substituted_nil t
