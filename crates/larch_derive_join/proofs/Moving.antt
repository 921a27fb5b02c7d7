-- What has no number of a line or box stays when it is moved, and a list of terms is moved term by term.
use Rattle.std.proofs.Common.{◌≡◌, ℕ, ◌+◌, ◌-◌, ◌<◌, ◌^◌, ◌%◌, List, [], ◌∷◌, ◌++◌, Option, map}
use Rattle.std.proofs.Common.{length, take, get_or, refl, sym, ◌∙◌, ap, append_assoc, arith}
use Rattle.std.specs.Prelude.{Result, Ok, Err, IfOk}
use Rattle.std.proofs.Math.Nat.{mod-eq_of_lt, mod-eq-sub-mod}
use Rattle.std.proofs.lemmas.Iterator.Adapters.{option_map_id}
use Rattle.std.proofs.lemmas.List.{map-id, map_more}
use Rattle.larch_base.specs.declared.memory.Memory.{Memory}
use Rattle.larch_certificate.specs.Coded.{CodedTree, CodedForest, coded_var, coded_app, no_terms, term_then}
use Rattle.larch_certificate.specs.Coded.{coded_forest_of}
use Rattle.larch_certificate.specs.declared.line.Line.TheVariants.{Row, Generated, Partitioned}
use Rattle.larch_certificate.specs.declared.symbol.Symbol.{Symbol}
use Rattle.larch_certificate.specs.declared.symbol.Symbol.TheVariants.{Own, Constant, BuiltIn}
use Rattle.larch_verify_law.specs.Moves.{Move, moved_line, moved_symbol, moved_term, moved_terms}
use Rattle.larch_derive_join.proofs.Numbers.{by_end}
use Rattle.larch_derive_join.specs.ByShift.{move_of}
use Rattle.larch_derive_join.specs.Joined.{move_on, moved_on}
use Rattle.larch_derive_join.specs.declared.lemma.Lemma.{Lemma}
use Rattle.larch_derive_join.specs.declared.part.Part.{Part}
use Rattle.larch_derive_join.specs.declared.shift.Shift.{Shift}

pub row_stays : (o : ℕ) (lemmas : List Lemma) (p : Part) (k : ℕ) (s : Option (List ℕ))
    → Row k s ≡ moved_line (move_on o lemmas p) (Row k s)
row_stays o lemmas p k s = ap (Row k) (sym (option_map_id s))

pub generated_stays : (o : ℕ) (lemmas : List Lemma) (p : Part) (b : ℕ) (s : List ℕ) (ks : List ℕ)
    → Generated (moved_on o b) s ks ≡ moved_line (move_on o lemmas p) (Generated b s ks)
generated_stays o lemmas p b s ks = ap (Generated (moved_on o b) s) (sym (map-id ks))

pub partitioned_stays : (o : ℕ) (lemmas : List Lemma) (p : Part) (b : ℕ) (s : List ℕ) (ks : List ℕ)
    → Partitioned (moved_on o b) s ks ≡ moved_line (move_on o lemmas p) (Partitioned b s ks)
partitioned_stays o lemmas p b s ks = ap (Partitioned (moved_on o b) s) (sym (map-id ks))

-- a list of terms is moved term by term
pub moved_list : (m : Move) (ts : List CodedTree)
    → moved_terms m (coded_forest_of ts) ≡ coded_forest_of (map (moved_term m) ts)
moved_list m [] = refl
moved_list m (t ∷ ts) = ap (term_then (moved_term m t)) (moved_list m ts)

-- in the first part numbers stay
nothing_in_front : (n : ℕ) → moved_on 0 n ≡ n
nothing_in_front n =
    by_end 0 n (moved_on 0 n ≡ n) (λ p q. omega (arith, q)) (λ p k q. absurd (omega (arith, p, k))) (λ p q. q)

symbol_stays : (lemmas : List Lemma) (p : Part) (f : Symbol) → moved_symbol (move_on 0 lemmas p) f ≡ f
symbol_stays lemmas p (Own k) = refl
symbol_stays lemmas p (Constant b k) = ap (λ n. Constant n k) (nothing_in_front b)
symbol_stays lemmas p (BuiltIn b) = refl

mutual
  term_stays : (lemmas : List Lemma) (p : Part) (t : CodedTree) → moved_term (move_on 0 lemmas p) t ≡ t
  term_stays lemmas p (coded_var n s) = refl
  term_stays lemmas p (coded_app f ts) = λ i. coded_app (symbol_stays lemmas p f i) (terms_stay lemmas p ts i)

  terms_stay : (lemmas : List Lemma) (p : Part) (ts : CodedForest) → moved_terms (move_on 0 lemmas p) ts ≡ ts
  terms_stay lemmas p no_terms = refl
  terms_stay lemmas p (term_then t ts) = λ i. term_then (term_stays lemmas p t i) (terms_stay lemmas p ts i)

pub first_stays : (s : Shift) (t : CodedTree) (r : Result CodedTree Memory) → s.by ≡ 0 → IfOk r (λ copied. copied ≡ t)
    → IfOk r (λ moved. moved ≡ moved_term (move_of s) t)
first_stays s t (Ok c) e copied =
    copied ∙ sym (term_stays s.lemmas.now s.part.now t)
    ∙ ap (λ o. moved_term (move_on o s.lemmas.now s.part.now) t) (sym e)
first_stays s t (Err m) e copied = tt

-- numbers go round as they are moved on
pub goes_round : (o n : ℕ) → o < 2 ^ 64 → n < 2 ^ 64 → (n + o) % 2 ^ 64 ≡ moved_on o n
goes_round o n small lt =
    by_end o n ((n + o) % 2 ^ 64 ≡ moved_on o n) (λ p q. mod-eq_of_lt p ∙ sym q)
    (λ p k q.
    let rest : n + o - 2 ^ 64 < 2 ^ 64 = omega (arith, p, small) in
    mod-eq-sub-mod k ∙ mod-eq_of_lt rest ∙ omega (arith, k, q))
    (λ p q. absurd (omega (arith, p, lt)))

-- behind others stand the images of the first so many items; now of one more
pub one_more : {X Y : Type 0} (f : X → Y) (before held : List Y) (xs : List X) (i : ℕ) (x : X) (y : Y) → i < length xs
    → x ≡ get_or xs i x → y ≡ f x → held ≡ before ++ map f (take i xs)
    → held ++ y ∷ [] ≡ before ++ map f (take (i + 1) xs)
one_more f before held xs i x y lt is made e =
    let more : map f (take i xs) ++ y ∷ [] ≡ map f (take (i + 1) xs) =
    ap (λ z. map f (take i xs) ++ z ∷ []) (made ∙ ap f is) ∙ sym (map_more f xs i x lt) in
    ap (λ ys. ys ++ y ∷ []) e ∙ append_assoc before (map f (take i xs)) (y ∷ []) ∙ ap (λ ys. before ++ ys) more
