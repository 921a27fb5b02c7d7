-- Numbers above the lengths of names, and variables and words so far.
use Rattle.std.specs.Prelude.{◌≡◌, ◌<◌, ◌≤◌, ◌+◌, ◌++◌, ℕ, zero, suc, All, List, [], ◌∷◌, map, length, get_or, refl}
use Rattle.std.proofs.Common.{arith, ap, sym, subst, ◌∙◌, take, drop}
use Rattle.std.proofs.lemmas.List.{append-nil, append_assoc, drop_all, drop_more, take_all}
use Rattle.std.proofs.lemmas.List.Elements.{All-more, All-weaker}
use Rattle.larch_term.specs.Operator.{PlainOperator}
use Rattle.larch_term.specs.declared.variable.Variable.{Variable}
use Rattle.larch_certificate.specs.declared.line.CodedVar.{CodedVar}
use Rattle.larch_methods.specs.Inside.{written_variable}
use Rattle.larch_methods.specs.Observers.{variables_for, word_of}

-- one name more is below the number
pub longer_more : (vs : List Variable) (i n m : ℕ) (v : Variable) (name : List ℕ) → i < length vs → v ≡ get_or vs i v
    → name ≡ v.name → n ≤ m → length name < m
    → All (λ w. length w.name < n) (take i vs) → All (λ w. length w.name < m) (take (i + 1) vs)
longer_more vs i n m v name lt e b le above h =
    All-more (λ (w : Variable). length w.name < m) vs i v lt
    (All-weaker (λ (w : Variable). length w.name < n) (λ (w : Variable). length w.name < m)
    (λ w k. omega (arith, le, k)) (take i vs) h)
    (subst (λ (w : Variable). length w.name < m) e (subst (λ (bs : List ℕ). length bs < m) b above))

pub longer_all : (vs : List Variable) (i n : ℕ) → length vs ≤ i → All (λ w. length w.name < n) (take i vs)
    → All (λ w. length w.name < n) vs
longer_all vs i n le h = subst (λ ws. All (λ (w : Variable). length w.name < n) ws) (take_all i vs le) h

-- one letter more
word_more : (n : ℕ) → word_of n ++ 120 ∷ [] ≡ word_of (suc n)
word_more zero = refl
word_more (suc n) = ap (λ w. 120 ∷ w) (word_more n)

pub word_push : (n : ℕ) → word_of n ++ 120 ∷ [] ≡ word_of (n + 1)
word_push n = let e : suc n ≡ n + 1 = omega arith in word_more n ∙ ap word_of e

-- one variable more
pub variables_next : (done : List CodedVar) (n m i : ℕ) (cs : List PlainOperator) (c : PlainOperator) (v : CodedVar)
    (all : List CodedVar) → i < length cs → c ≡ get_or cs i c → v.name ≡ word_of n → v.sort ≡ c.range → m ≡ suc n
    → done ++ map written_variable (variables_for n (drop i cs)) ≡ all
    → (done ++ v ∷ []) ++ map written_variable (variables_for m (drop (i + 1) cs)) ≡ all
variables_next done n m i cs c v all lt e name sort k h =
    append_assoc done (v ∷ []) (map written_variable (variables_for m (drop (i + 1) cs)))
    ∙ (λ j. done ++ record { name = name j; sort = sort j }
    ∷ map written_variable (variables_for (k j) (drop (i + 1) cs)))
    ∙ ap (λ x. done ++ map written_variable (variables_for n (x ∷ drop (i + 1) cs))) e
    ∙ ap (λ xs. done ++ map written_variable (variables_for n xs)) (sym (drop_more cs i c lt))
    ∙ h

pub variables_all : (done : List CodedVar) (n i : ℕ) (cs : List PlainOperator) (all : List CodedVar) → length cs ≤ i
    → done ++ map written_variable (variables_for n (drop i cs)) ≡ all → done ≡ all
variables_all done n i cs all le h =
    sym (append-nil done) ∙ ap (λ xs. done ++ map written_variable (variables_for n xs)) (sym (drop_all i cs le)) ∙ h
