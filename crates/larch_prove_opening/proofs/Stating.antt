-- Statements among the axioms of a builder, and what refusals tell.
use Rattle.std.specs.Prelude.{◌≡◌, ◌+◌, ◌<◌, ℕ, zero, suc, nat_lt, true, List, [], ◌∷◌, ◌++◌, All, length}
use Rattle.std.specs.Prelude.{Some, option_map, Result, Ok, Err}
use Rattle.std.specs.List.{slice_get}
use Rattle.std.proofs.Common.{inl, inr, ap, arith, subst, sym, ◌∙◌}
use Rattle.std.proofs.lemmas.Bool.Decides.{leb_tells}
use Rattle.std.proofs.lemmas.List.Elements.{All-contains, All-map}
use Rattle.larch_base.proofs.Members.{got_contains}
use Rattle.larch_base.specs.declared.code.Code.{Code}
use Rattle.larch_base.specs.declared.code.Code.TheVariants as code
use Rattle.larch_base.specs.declared.fact_name.FactLetter.{FactLetter}
use Rattle.larch_calculus.specs.Theories.{with_statements}
use Rattle.larch_derive.specs.Builder.{theory_in}
use Rattle.larch_derive.specs.Predicates.{Extends, HasNoBadLine}
use Rattle.larch_derive.specs.declared.builder.Builder.{Builder}
use Rattle.larch_derive.proofs.Growth.{extends_grows, grown_stands, grows_alike}
use Rattle.larch_order.specs.declared.precedence.Ranked.{Ranked}
use Rattle.larch_prove_adding.specs.Turns.{Tells, manner_of}
use Rattle.larch_prove_adding.specs.ProveMeaningFacts.{Facts, add, add_waiting, max_fact_number, most_taken, whole_name}
use Rattle.larch_prove_adding.specs.ProveMeaningLevels.{EarlierDuty, work_result}
use Rattle.larch_prove_adding.specs.ProveMeaningWellSorted.{AreLemmasOver}
use Rattle.larch_prove_opening.specs.FirstFacts.{facts_with_each}
use Rattle.larch_prove_opening.specs.Stating.{AreStated, IsStated, TellsCode, duties_of, what_state}
use Rattle.larch_prove_opening.specs.declared.opening.Lemma.{Lemma}
use Rattle.larch_prove_adding.specs.RewriteRefusalRewriteRefusal.{RewriteRefusal}
use Rattle.larch_prove_adding.specs.RewriteRefusalRewriteRefusal.TheVariants.{Limit, TooLarge, Memory}
use Rattle.larch_rewrite_meaning.specs.Sides.{sides_of}
use Rattle.larch_rewrite_meaning.specs.Work.{Work, within_size}
use Rattle.larch_term.specs.Statement.{IsStatementOver, IsWellSortedTheory, statement_zero}
use Rattle.larch_term.specs.Tree.{Tree}
use Rattle.larch_term.specs.declared.statement.Statement.{Statement}
use Rattle.larch_term.specs.declared.statement.Statement.TheVariants.{Equation}
use Rattle.larch_term.specs.declared.statement.Theory.{Theory}
use Rattle.larch_base_meaning.specs.Steps.{after}

-- ---- axioms

-- what is stated stays so
pub stated_stay : (a b : Builder) (n : ℕ) (ss : List Statement) → Extends a b → AreStated a n ss → AreStated b n ss
stated_stay a b n ss x h =
    let e : theory_in b ≡ theory_in a = (grows_alike a b (extends_grows a b x)).0 in
    record {
      stands = grown_stands a b (extends_grows a b x) h.stands;
      are = λ i s g. subst (λ (t : Theory). slice_get (statement_zero ∷ t.statements) (n + i) ≡ Some s) (sym e)
          (h.are i s g);
      sorted = subst (λ (t : Theory). All (IsStatementOver t.operators) ss) (sym e) h.sorted;
    }

-- one of several axioms
pub stated_at : (b : Builder) (n m i : ℕ) (ss : List Statement) (s : Statement) → AreStated b n ss
    → slice_get ss i ≡ Some s → m ≡ n + i → IsStated b m s
stated_at b n m i ss s h g e = record {
  stands = h.stands;
  is = ap (slice_get (statement_zero ∷ (theory_in b).statements)) e ∙ h.are i s g;
  sorted = All-contains (IsStatementOver (theory_in b).operators) ss s h.sorted (got_contains ss i s g);
}

got_front : {X : Type 0} (xs ys : List X) (i : ℕ) (x : X) → slice_get xs i ≡ Some x → slice_get (xs ++ ys) i ≡ Some x
got_front [] ys i x e = cc
got_front (z ∷ xs) ys zero x e = e
got_front (z ∷ xs) ys (suc i) x e = got_front xs ys i x e

got_behind : {X : Type 0} (xs ys : List X) (i : ℕ) (x : X) → slice_get ys i ≡ Some x
    → slice_get (xs ++ ys) (length xs + i) ≡ Some x
got_behind [] ys i x e = let p : 0 + i ≡ i = omega arith in ap (slice_get ys) p ∙ e
got_behind (z ∷ xs) ys i x e =
    let p : suc (length xs) + i ≡ suc (length xs + i) = omega arith in
    ap (slice_get (z ∷ (xs ++ ys))) p ∙ got_behind xs ys i x e

-- with the truth values' clause before the statements
got_second : {X : Type 0} (z : X) (xs : List X) (n i : ℕ) (x : X) → n ≡ suc i → slice_get xs i ≡ Some x
    → slice_get (z ∷ xs) n ≡ Some x
got_second z xs n i x e g = ap (slice_get (z ∷ xs)) e ∙ g

-- the theory's own statements are the first axioms of a builder that is over it and more
pub own_stated : (b : Builder) (t : Theory) (more : List Statement) → theory_in b ≡ with_statements t more
    → HasNoBadLine b → IsWellSortedTheory t → AreStated b 1 t.statements
own_stated b t more e h w = record {
  stands = h;
  are = λ i s g. subst (λ (u : Theory). slice_get (statement_zero ∷ u.statements) (1 + i) ≡ Some s) (sym e)
      (got_second statement_zero (t.statements ++ more) (1 + i) i s (omega arith)
      (got_front t.statements more i s g));
  sorted = subst (λ (u : Theory). All (IsStatementOver u.operators) t.statements) (sym e) w;
}

-- and what lemmas state follows them
pub lemmas_stated : (b : Builder) (t : Theory) (ls : List EarlierDuty) (n : ℕ)
    → theory_in b ≡ with_statements t (what_state ls) → HasNoBadLine b → AreLemmasOver t.operators ls
    → n ≡ length t.statements + 1 → AreStated b n (what_state ls)
lemmas_stated b t ls n e h w p = record {
  stands = h;
  are = λ i s g. subst (λ (u : Theory). slice_get (statement_zero ∷ u.statements) (n + i) ≡ Some s) (sym e)
      (got_second statement_zero (t.statements ++ what_state ls) (n + i) (length t.statements + i) s
      (omega (arith, p)) (got_behind t.statements (what_state ls) i s g));
  sorted = subst (λ (u : Theory). All (IsStatementOver u.operators) (what_state ls)) (sym e)
      (All-map (IsStatementOver t.operators) (λ (l : EarlierDuty). l.statement) ls w);
}

-- what a lemma states has the lemma's place
pub lemma_states : (ls : List Lemma) (i : ℕ) (l : Lemma) → slice_get ls i ≡ Some l
    → slice_get (what_state (duties_of ls)) i ≡ Some l.statement
lemma_states [] i l e = cc
lemma_states (m ∷ ls) zero l e = ap (λ o. option_map (λ (x : Lemma). x.statement) o) e
lemma_states (m ∷ ls) (suc i) l e = lemma_states ls i l e

-- ---- refusals

pub code_told : {A : Type 0} (w : Work A) (x : RewriteRefusal) → Tells w x → TellsCode (work_result w) x
code_told w Limit h = ap work_result h
code_told w TooLarge h = ap work_result h
code_told w Memory h = tt

-- what refuses a step refuses all behind it
pub first_told : {A B : Type 0} (made : Result A Code) (next : A → Result B Code) (x : RewriteRefusal)
    → TellsCode made x → TellsCode (after made next) x
first_told made next Limit h = ap (λ m. after m next) h
first_told made next TooLarge h = ap (λ m. after m next) h
first_told made next Memory h = tt

pub same_told : {A : Type 0} (made other : Result A Code) (x : RewriteRefusal) → made ≡ other → TellsCode other x
    → TellsCode made x
same_told made other x e h = subst (λ m. TellsCode m x) (sym e) h

above_told : (m n : ℕ) → m < n → nat_lt m n ≡ true
above_told m n h = elim (leb_tells (suc m) n) [
  | inl k ↦ k.0
  | inr k ↦ let l = k.1 in absurd (omega (arith, h, l))
]

-- an equation's number that no fact can have is too large
pub number_told : (ranks : List Ranked) (limit : ℕ) (letter : FactLetter) (n : ℕ) (s : Statement) (l r : Tree)
    (facts : Facts) → s ≡ Equation l r → max_fact_number < n
    → facts_with_each ranks limit letter n (sides_of s) facts ≡ Err code.Size
unfolding add
number_told ranks limit letter n s l r facts e h =
    ap (λ x. facts_with_each ranks limit letter n (sides_of x) facts) e
    ∙ ap (λ q. after (work_result (within_size q
    (add_waiting (most_taken limit) (manner_of ranks (whole_name letter n)) 0 (record { left = l; right = r } ∷ [])
    facts limit))) (λ more. Ok more))
    (above_told max_fact_number n h)
