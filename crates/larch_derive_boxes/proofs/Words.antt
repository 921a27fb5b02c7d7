-- What boxes suppose is in words, and the lines that open them have texts.
use Rattle.std.proofs.Common.{◌≡◌, ◌<◌, ◌==◌, ◌+◌, ◌/◌, ◌%◌, ◌&&◌, ◌||◌, ℕ, zero, suc, nat_lt, Bool, true, false, cond}
use Rattle.std.proofs.Common.{List}
use Rattle.std.proofs.Common.{[], ◌∷◌, map, All, bytes_eq, refl, sym, ◌∙◌, ap, subst, arith}
use Rattle.std.specs.Fmt.{digit_glyph, digits_onto, digits}
use Rattle.std.specs.Char.{is_ascii_alphanumeric}
use Rattle.std.proofs.lemmas.Bool.{cond-true, lt-ltb}
use Rattle.std.proofs.lemmas.List.Elements.{All-nil, All-cons, All-head, All-tail, All-map, All-contains}
use Rattle.larch_base.proofs.Lists.{all_from}
use Rattle.larch_base.specs.Word.{begins_alphanumeric, goes_on}
use Rattle.larch_term.specs.BuiltIn.{bool_sort}
use Rattle.larch_term.specs.Operator.{PlainOperator}
use Rattle.larch_term.specs.Tree.{Tree, var, app}
use Rattle.larch_term.specs.Truth.{truth}
use Rattle.larch_term.specs.declared.statement.Statement.{Statement}
use Rattle.larch_term.specs.declared.statement.Statement.TheVariants.{Equation, Generated, Partitioned}
use Rattle.larch_term.specs.declared.variable.Variable.{Variable}
use Rattle.larch_verify_law.specs.CalculusFormula.{apply_one, conjunction}
use Rattle.larch_verify_law.specs.CalculusGeneration.{place_name, variables_from, variable_terms}
use Rattle.larch_verify_law.specs.CalculusGeneration.{holding, conjunction_from}
use Rattle.larch_verify_law.specs.CalculusGeneration.{implied_by, generation_formula, generation_hypotheses}
use Rattle.larch_verify_law.specs.CalculusObservation.{Observation, arguments_with, observer_term}
use Rattle.larch_verify_law.specs.CalculusObservation.{observations_of, observations}
use Rattle.larch_verify_law.proofs.CalculusObserved.{observation_is}
use Rattle.larch_certificate.specs.declared.line.CodedEquation.{CodedEquation}
use Rattle.larch_derive.specs.CertificateTextEquationText.{FitEquation}
use Rattle.larch_derive.specs.CertificateTextLineText.{IsWord, FitBoxPart}
use Rattle.larch_derive.specs.CertificateTextParts.{Each}
use Rattle.larch_derive.specs.declared.open_box.OpenBox.{OpenBox}
use Rattle.larch_derive.specs.Builder.{part_for, part_sort}
use Rattle.larch_derive.specs.Coding.{AreCodesOfEquations}
use Rattle.larch_derive.specs.Words.{IsWordedOperator, AreWordedOperators, IsWordedTerm, AreWordedTerms}
use Rattle.larch_derive.specs.Words.{IsWordedStatement, AreWordedStatements}
use Rattle.larch_derive.proofs.Words.{term_fits}

-- ---- the line of a box

pub equations_fit : (bs : List OpenBox) (fs : List PlainOperator) (hs : List Statement) (es : List CodedEquation)
    → AreCodesOfEquations bs fs hs es → AreWordedStatements hs → Each FitEquation es
equations_fit bs fs [] [] d w = tt
equations_fit bs fs [] (e ∷ es) d w = absurd d
equations_fit bs fs (Equation l r ∷ hs) [] d w = absurd d
equations_fit bs fs (Equation l r ∷ hs) (e ∷ es) d w =
    let here = All-head IsWordedStatement (Equation l r) hs w in (
      (term_fits bs fs l e.left d.0 here.0, term_fits bs fs r e.right d.1 here.1),
      equations_fit bs fs hs es d.2 (All-tail IsWordedStatement (Equation l r) hs w),
    )
equations_fit bs fs (Generated s gs ∷ hs) es d w =
    equations_fit bs fs hs es d (All-tail IsWordedStatement (Generated s gs) hs w)
equations_fit bs fs (Partitioned s gs ∷ hs) es d w =
    equations_fit bs fs hs es d (All-tail IsWordedStatement (Partitioned s gs) hs w)

part_fits : (f : PlainOperator) (ss : List (List ℕ)) → Each IsWord ss → IsWord f.range → FitBoxPart (part_sort f ss)
part_fits f [] w r = r
part_fits f (s ∷ ss) w r = w.0

pub parts_fit : (fs : List PlainOperator) → AreWordedOperators fs → Each FitBoxPart (map part_for fs)
parts_fit [] w = tt
parts_fit (f ∷ fs) w =
    let here = All-head IsWordedOperator f fs w in
    (part_fits f f.domain here.0 here.1, parts_fit fs (All-tail IsWordedOperator f fs w))

-- ---- constants and predicates

pub constant_worded : (c : PlainOperator) (s : List ℕ) → c.domain ≡ [] → c.range ≡ s → IsWord s → IsWordedOperator c
constant_worded c s d r w = (subst (Each IsWord) (sym d) tt, subst IsWord (sym r) w)

predicate_worded : (p : PlainOperator) (s : List ℕ) → p.domain ≡ s ∷ [] → p.range ≡ bool_sort → IsWord s
    → IsWordedOperator p
predicate_worded p s d r w = (subst (Each IsWord) (sym d) (w, tt), subst IsWord (sym r) refl)

-- ---- names of places

-- a digit goes on in a word
digit_goes : (m : ℕ) → m < 10 → is_ascii_alphanumeric (48 + m) ≡ true
digit_goes zero lt = refl
digit_goes (suc zero) lt = refl
digit_goes (suc (suc zero)) lt = refl
digit_goes (suc (suc (suc zero))) lt = refl
digit_goes (suc (suc (suc (suc zero)))) lt = refl
digit_goes (suc (suc (suc (suc (suc zero))))) lt = refl
digit_goes (suc (suc (suc (suc (suc (suc zero)))))) lt = refl
digit_goes (suc (suc (suc (suc (suc (suc (suc zero))))))) lt = refl
digit_goes (suc (suc (suc (suc (suc (suc (suc (suc zero)))))))) lt = refl
digit_goes (suc (suc (suc (suc (suc (suc (suc (suc (suc zero))))))))) lt = refl
digit_goes (suc (suc (suc (suc (suc (suc (suc (suc (suc (suc m)))))))))) lt = absurd (omega (arith, lt))

glyph_goes : (m : ℕ) → m < 10 → is_ascii_alphanumeric (digit_glyph false m) ≡ true
glyph_goes m lt =
    ap is_ascii_alphanumeric (cond-true (nat_lt m 10) (48 + m) (87 + m) (lt-ltb m 10 lt)) ∙ digit_goes m lt

byte_goes : (b : ℕ) (bs : List ℕ) → is_ascii_alphanumeric b ≡ true → goes_on bs ≡ true → goes_on (b ∷ bs) ≡ true
byte_goes b bs e r =
    ap (λ x. (x || (b == 39) || ((b == 95) && begins_alphanumeric bs)) && goes_on bs) e ∙ r

digits_go : (k n : ℕ) (bs : List ℕ) → goes_on bs ≡ true → goes_on (digits_onto k 10 false n bs) ≡ true
digits_go zero n bs r = r
digits_go (suc k) n bs r =
    let less : n % 10 < 10 = omega arith in
    let here = byte_goes (digit_glyph false (n % 10)) bs (glyph_goes (n % 10) less) r in
    either (n / 10 == 0) (digit_glyph false (n % 10) ∷ bs)
    (digits_onto k 10 false (n / 10) (digit_glyph false (n % 10) ∷ bs)) here (digits_go k (n / 10)
    (digit_glyph false (n % 10) ∷ bs) here)
  where
    either : (b : Bool) (xs ys : List ℕ) → goes_on xs ≡ true → goes_on ys ≡ true → goes_on (cond b xs ys) ≡ true
    either true xs ys p q = p
    either false xs ys p q = q

pub place_worded : (k : ℕ) → IsWord (place_name k)
unfolding digits
place_worded k = digits_go 64 k [] refl

-- ---- generation

conjunctions_worded : (t : Tree) (us : List Tree) → IsWordedTerm t → All IsWordedTerm us
    → IsWordedTerm (conjunction_from t us)
conjunctions_worded t [] w h = w
conjunctions_worded t (u ∷ us) w h =
    conjunctions_worded (conjunction t u) us (((refl, (refl, tt)), refl), (w, (All-head IsWordedTerm u us h, tt)))
    (All-tail IsWordedTerm u us h)

implied_worded : (us : List Tree) (t : Tree) → All IsWordedTerm us → IsWordedTerm t → IsWordedTerm (implied_by us t)
implied_worded [] t h w = w
implied_worded (u ∷ us) t h w = (
  ((refl, (refl, tt)), refl),
  (conjunctions_worded u us (All-head IsWordedTerm u us h) (All-tail IsWordedTerm u us h), (w, tt)),
)

-- variables in words
abbrev AreWordedVariables : List Variable → Type 0
AreWordedVariables vs = All (λ v. IsWord v.name × IsWord v.sort) vs

variables_worded : (k : ℕ) (ss : List (List ℕ)) → Each IsWord ss → AreWordedVariables (variables_from k ss)
variables_worded k [] w = All-nil (λ v. IsWord v.name × IsWord v.sort)
variables_worded k (s ∷ ss) w =
    All-cons (λ v. IsWord v.name × IsWord v.sort) (record { name = place_name k; sort = s }) (variables_from (suc k) ss)
    (place_worded k, w.0) (variables_worded (suc k) ss w.1)

terms_worded : (vs : List Variable) → AreWordedVariables vs → AreWordedTerms (variable_terms vs)
terms_worded [] w = tt
terms_worded (v ∷ vs) w = (
  All-head (λ v. IsWord v.name × IsWord v.sort) v vs w,
  terms_worded vs (All-tail (λ v. IsWord v.name × IsWord v.sort) v vs w),
)

holding_worded : (p : PlainOperator) (s : List ℕ) (vs : List Variable) → IsWordedOperator p → AreWordedVariables vs
    → All IsWordedTerm (holding p s vs)
holding_worded p s [] o w = All-nil IsWordedTerm
holding_worded p s (v ∷ vs) o w =
    let here = All-head (λ v. IsWord v.name × IsWord v.sort) v vs w in
    let rest = holding_worded p s vs o (All-tail (λ v. IsWord v.name × IsWord v.sort) v vs w) in
    either_all (bytes_eq v.sort s) (apply_one p (var v.name v.sort)) (holding p s vs) (o, (here, tt)) rest
  where
    either_all : (b : Bool) (t : Tree) (ts : List Tree) → IsWordedTerm t → All IsWordedTerm ts
        → All IsWordedTerm (cond b (t ∷ ts) ts)
    either_all true t ts w h = All-cons IsWordedTerm t ts w h
    either_all false t ts w h = h

pub generation_worded : (p : PlainOperator) (s : List ℕ) (fs : List PlainOperator) → p.domain ≡ s ∷ []
    → p.range ≡ bool_sort → IsWordedStatement (Generated s fs) → AreWordedStatements (generation_hypotheses p s fs)
generation_worded p s fs d r w =
    let o = predicate_worded p s d r w.0 in
    all_worded (λ f. Equation (generation_formula p s f) truth) fs
    (λ f k.
    let vs = variables_worded 1 f.domain k.0 in (
      implied_worded (holding p s (variables_from 1 f.domain))
          (apply_one p (app f (variable_terms (variables_from 1 f.domain))))
          (holding_worded p s (variables_from 1 f.domain) o vs)
          (o, ((k, terms_worded (variables_from 1 f.domain) vs), tt)),
      ((tt, refl), tt),
    )) w.1
  where
    all_worded : (g : PlainOperator → Statement) (fs : List PlainOperator)
        → ((f : PlainOperator) → IsWordedOperator f → IsWordedStatement (g f)) → AreWordedOperators fs
        → AreWordedStatements (map g fs)
    all_worded g [] k w = All-nil IsWordedStatement
    all_worded g (f ∷ fs) k w =
        All-cons IsWordedStatement (g f) (map g fs) (k f (All-head IsWordedOperator f fs w))
        (all_worded g fs k (All-tail IsWordedOperator f fs w))

-- ---- partition

arguments_worded : (names : ℕ → List ℕ) (place : ℕ) (t : Tree) (k : ℕ) (ss : List (List ℕ))
    → ((i : ℕ) → IsWord (names i)) → IsWordedTerm t → Each IsWord ss
    → AreWordedTerms (arguments_with names place t k ss)
arguments_worded names place t k [] n w h = tt
arguments_worded names place t k (s ∷ ss) n w h = (
  either_worded (k == place) t (var (names k) s) w (n k, h.0),
  arguments_worded names place t (suc k) ss n w h.1,
)
  where
    either_worded : (b : Bool) (t u : Tree) → IsWordedTerm t → IsWordedTerm u → IsWordedTerm (cond b t u)
    either_worded true t u p q = p
    either_worded false t u p q = q

pub observer_worded : (names : ℕ → List ℕ) (w : Observation) (t : Tree) → ((i : ℕ) → IsWord (names i))
    → IsWordedOperator w.observer → IsWordedTerm t → IsWordedTerm (observer_term names w t)
observer_worded names w t n o h = (o, arguments_worded names w.place t 1 w.observer.domain n h o.0)

pub observations_worded : (s : List ℕ) (os : List PlainOperator) (t u : Tree) → AreWordedOperators os → IsWordedTerm t
    → IsWordedTerm u → AreWordedStatements (observations place_name s os t u)
observations_worded s os t u h p q =
    All-map IsWordedStatement (λ w. Equation (observer_term place_name w t) (observer_term place_name w u))
    (observations_of s os)
    (all_from (λ w. IsWordedStatement (Equation (observer_term place_name w t) (observer_term place_name w u)))
    (observations_of s os)
    (λ w c.
    let o = All-contains IsWordedOperator os w.observer h (observation_is s os w c).0 in
    (observer_worded place_name w t place_worded o p, observer_worded place_name w u place_worded o q)))
