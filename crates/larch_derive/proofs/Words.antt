-- Lines in words have texts.
use Rattle.std.proofs.Common.{◌≡◌, ◌<◌, ◌+◌, ℕ, zero, suc, true, List, [], ◌∷◌, ◌++◌, length, take, get_or, All, Some}
use Rattle.std.proofs.Common.{sym, subst, arith}
use Rattle.std.proofs.lemmas.Option.{option_and_then_some}
use Rattle.std.proofs.lemmas.List.{take_more}
use Rattle.std.proofs.lemmas.List.Elements.{All-weaker}
use Rattle.larch_term.specs.Place.{argument, at, put, put_in}
use Rattle.larch_term.specs.Operator.{PlainOperator}
use Rattle.larch_term.specs.Sorts.{sort_of}
use Rattle.larch_term.specs.Substitution.{instance_of, substituted_all, is_entry_of}
use Rattle.larch_term.specs.Tree.{Tree, Forest, var, app, none, more}
use Rattle.larch_term.specs.declared.statement.Statement.{Statement}
use Rattle.larch_term.specs.declared.substitution.Entry.{Entry}
use Rattle.larch_verify_meaning.proofs.TermLawSubstitutions.{image_holds}
use Rattle.larch_certificate_text.specs.CertificateCoded.{CodedTree, CodedForest, coded_var}
use Rattle.larch_certificate_text.specs.CertificateCoded.{coded_app, no_terms, term_then}
use Rattle.larch_certificate_text.specs.CertificateLineLine.{Line}
use Rattle.larch_certificate_text.specs.CertificateText.{FitLines, Writable}
use Rattle.larch_certificate_text.specs.LineText.{IsWord, IsArgument, FitLine}
use Rattle.larch_certificate_text.specs.Parts.{IsSmall, Each}
use Rattle.larch_certificate_text.specs.TermText.{FitTerm, FitTerms}
use Rattle.larch_derive.specs.declared.builder.Builder.{Builder}
use Rattle.larch_derive.specs.declared.open_box.OpenBox.{OpenBox}
use Rattle.larch_derive.specs.Builder.{IsPushed}
use Rattle.larch_derive.specs.Coding.{IsCodeOf, AreCodesOf}
use Rattle.larch_derive.specs.Predicates.{HasNoBadLine, Known, HasStatement}
use Rattle.larch_derive.specs.Words.{IsWordedTerm, AreWordedTerms, IsWordedStatement, IsWordedTheory}

-- ---- one more of what holds of each

pub each_push : {A : Type 0} (P : A → Type 0) (xs : List A) (x : A) → Each P xs → P x → Each P (xs ++ x ∷ [])
each_push P [] x h w = (w, tt)
each_push P (y ∷ ys) x h w = (h.0, each_push P ys x h.1 w)

pub small_step : (ns : List ℕ) (i d : ℕ) → i < length ns → IsSmall (get_or ns i d) → Each IsSmall (take i ns)
    → Each IsSmall (take (i + 1) ns)
small_step ns i d lt w h =
    subst (Each IsSmall) (sym (take_more ns i d lt)) (each_push IsSmall (take i ns) (get_or ns i d) h w)

-- ---- terms

-- a term in words has a text as lines write it
mutual
  pub term_fits : (bs : List OpenBox) (fs : List PlainOperator) (t : Tree) (c : CodedTree) → IsCodeOf bs fs t c
      → IsWordedTerm t → FitTerm c
  term_fits bs fs (var n s) (coded_var m r) (e, q) w =
      (subst IsWord (sym e) w.0, subst IsWord (sym q) w.1)
  term_fits bs fs (var n s) (coded_app g ds) e w = absurd e
  term_fits bs fs (app f ts) (coded_var m r) e w = absurd e
  term_fits bs fs (app f ts) (coded_app g ds) e w = (e.0.1, terms_fit bs fs ts ds e.1 w.1)

  pub terms_fit : (bs : List OpenBox) (fs : List PlainOperator) (ts : Forest) (cs : CodedForest)
      → AreCodesOf bs fs ts cs
      → AreWordedTerms ts → FitTerms cs
  terms_fit bs fs none no_terms e w = tt
  terms_fit bs fs none (term_then c cs) e w = absurd e
  terms_fit bs fs (more t ts) no_terms e w = absurd e
  terms_fit bs fs (more t ts) (term_then c cs) e w = (term_fits bs fs t c e.0 w.0, terms_fit bs fs ts cs e.1 w.1)

pub worded_sort : (t : Tree) → IsWordedTerm t → IsWord (sort_of t)
worded_sort (var n s) w = w.1
worded_sort (app f ts) w = w.0.1

-- the term with another one at a place
mutual
  pub put_worded : (t : Tree) (q : List ℕ) (v : Tree) → IsWordedTerm t → IsWordedTerm v → IsWordedTerm (put t q v)
  put_worded t [] v w x = x
  put_worded (var n s) (k ∷ q) v w x = w
  put_worded (app f ts) (k ∷ q) v w x = (w.0, put_in_worded ts k q v w.1 x)

  put_in_worded : (ts : Forest) (k : ℕ) (q : List ℕ) (v : Tree) → AreWordedTerms ts → IsWordedTerm v
      → AreWordedTerms (put_in ts k q v)
  put_in_worded none k q v w x = tt
  put_in_worded (more y ys) zero q v w x = w
  put_in_worded (more y ys) (suc zero) q v w x = (put_worded y q v w.0 x, w.1)
  put_in_worded (more y ys) (suc (suc k)) q v w x = (w.0, put_in_worded ys (suc k) q v w.1 x)

-- the term with terms in the places of variables
mutual
  pub instance_worded : (es : List Entry) (t : Tree) → All (λ e. IsWordedTerm e.term) es → IsWordedTerm t
      → IsWordedTerm (instance_of es t)
  instance_worded es (var n s) h w =
      image_holds IsWordedTerm n s es w
      (All-weaker (λ e. IsWordedTerm e.term) (λ e. is_entry_of n s e ≡ true → IsWordedTerm e.term) (λ e p q. p) es h)
  instance_worded es (app f ts) h w = (w.0, instances_worded es ts h w.1)

  pub instances_worded : (es : List Entry) (ts : Forest) → All (λ e. IsWordedTerm e.term) es → AreWordedTerms ts
      → AreWordedTerms (substituted_all es ts)
  instances_worded es none h w = tt
  instances_worded es (more t ts) h w = (instance_worded es t h w.0, instances_worded es ts h w.1)

-- ---- places

positive : (ts : Forest) (k : ℕ) (t : Tree) → argument ts k ≡ Some t → 0 < k
positive none k t e = cc
positive (more u us) zero t e = cc
positive (more u us) (suc k) t e = omega arith

-- the numbers of a place that a term has are those of arguments
pub place_fits : (t : Tree) (q : List ℕ) (u : Tree) → at t q ≡ Some u → Each IsSmall q → Each IsArgument q
place_fits t [] u e w = tt
place_fits (var n s) (k ∷ q) u e w = cc
place_fits (app f ts) (k ∷ q) u e w =
    option_and_then_some (λ x. at x q) (argument ts k) u e
    (λ x a b. ((positive ts k x a, w.0), place_fits x q u b w.1))

-- ---- lines

fits_push : (n : ℕ) (ls : List Line) (line : Line) → FitLines n ls → IsSmall (n + length ls) → FitLine line
    → FitLines n (ls ++ line ∷ [])
fits_push n [] line w s f = (let x = s in omega (arith, x), f, tt)
fits_push n (l ∷ ls) line w s f =
    (w.0, w.1, fits_push (n + 1) ls line w.2 (let x = s in omega (arith, x)) f)

-- lines with one more that has a text
pub further_fits : (ls : List Line) (line : Line) → IsSmall (suc (length ls)) → FitLine line → Writable ls
    → Writable (ls ++ line ∷ [])
further_fits ls line s f w = fits_push 1 ls line w (let x = s in omega (arith, x)) f

pub pushed_fits : (a b : Builder) (line : Line) (n : ℕ) → IsPushed a b line n → FitLine line → Writable a.lines
    → Writable b.lines
pushed_fits a b line n p f w =
    subst Writable (sym p.lines) (further_fits a.lines line (subst IsSmall p.number p.small) f w)

-- ---- the laws

pub writable : (b : Builder) → HasNoBadLine b → Writable b.lines
unfolding HasNoBadLine
writable b (st, h) = h.fits

pub theory_worded : (b : Builder) → HasNoBadLine b → IsWordedTheory b.theory
unfolding HasNoBadLine
theory_worded b (st, h) = h.worded

pub known_worded : (b : Builder) (t : Tree) → Known b t → IsWordedTerm t
unfolding Known
known_worded b t (st, h) = h.words

pub known_sort : (b : Builder) (t : Tree) → Known b t → IsWord (sort_of t)
known_sort b t k = worded_sort t (known_worded b t k)

pub said_worded : (b : Builder) (n : ℕ) (s : Statement) → HasStatement b n s → IsWordedStatement s
unfolding HasStatement
said_worded b n s (st, h) = h.words
