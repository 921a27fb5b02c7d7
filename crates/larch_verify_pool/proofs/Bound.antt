-- A number is bound exactly where its variable has an entry.
use Rattle.std.proofs.Common.{◌≡◌, ◌==◌, ℕ, ◌<◌, Bool, true, false, List, length, refl, sym, ◌∙◌, ap, arith, true≢false}
use Rattle.std.proofs.Common.{bytes_eq}
use Rattle.std.proofs.lemmas.Bool.Decides.{Decides-eqb}
use Rattle.std.proofs.lemmas.Slice.Eq.{bytes_eq-Decides}
use Rattle.larch_term.specs.Substitution.{is_entry_of}
use Rattle.larch_term.specs.Tree.{Tree, var, app}
use Rattle.larch_verify_pool.specs.Pooled.{tree_in}
use Rattle.larch_verify_pool.specs.Substitution.{entry_from, IsVar}

-- two tests that pass together
one_test : (x y : Bool) → (x ≡ true → y ≡ true) → (y ≡ true → x ≡ true) → x ≡ y
one_test true true p q = refl
one_test true false p q = absurd (true≢false (sym (p refl)))
one_test false true p q = absurd (true≢false (sym (q refl)))
one_test false false p q = refl

-- a variable's number is bound where its entry is the variable's
pub bound_test : (us : List Tree) (v q : ℕ) (n s : List ℕ) (x t : Tree)
    → ((i j : ℕ) → i < length us → j < length us → tree_in us i ≡ tree_in us j → i ≡ j)
    → v < length us → q < length us → IsVar x → tree_in us v ≡ x → tree_in us q ≡ var n s
    → (v == q) ≡ is_entry_of n s (entry_from x t)
bound_test us v q n s (app f ts) t apart lv lq i e h = absurd i
bound_test us v q n s (var m r) t apart lv lq i e h =
    one_test (v == q) (is_entry_of n s (entry_from (var m r) t))
    (λ p.
    let o : var m r ≡ var n s = sym e ∙ ap (tree_in us) ((Decides-eqb v q).0 p) ∙ h in
    let a : m ≡ n = cc in
    let b : r ≡ s = cc in
    let x : bytes_eq m n ≡ true = (bytes_eq-Decides m n).1 a in
    let y : bytes_eq r s ≡ true = (bytes_eq-Decides r s).1 b in
    grind (arith, x, y))
    (λ p.
    let x : bytes_eq m n ≡ true = grind arith in
    let y : bytes_eq r s ≡ true = grind arith in
    let a : m ≡ n = (bytes_eq-Decides m n).0 x in
    let b : r ≡ s = (bytes_eq-Decides r s).0 y in
    (Decides-eqb v q).1 (apart v q lv lq (e ∙ (λ j. var (a j) (b j)) ∙ sym h)))
