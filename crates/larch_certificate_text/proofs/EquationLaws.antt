-- An equation has one text.
use Rattle.std.proofs.Common.{◌≡◌, ◌≢◌, ℕ, ◌==◌, ◌&&◌, not, cond, Bool, true, false, List, [], ◌∷◌, ◌++◌, Option, Some}
use Rattle.std.proofs.Common.{None, refl, sym, ◌∙◌, ap, arith, append-nil, append_assoc, subst}
use Rattle.std.specs.Prelude.{decimal, bytes_eq, option_map, option_and_then}
use Rattle.std.proofs.lemmas.Bool.{cond-false, ne_eqb, eqb-true, and_parts, and_left, and_from, false≢true}
use Rattle.std.proofs.lemmas.Option.{none-some, some_pair_parts, cond_some, option_and_then_some}
use Rattle.std.specs.Char.{is_ascii_digit}
use Rattle.std.proofs.lemmas.Fmt.{digits_decimal}
use Rattle.std.proofs.lemmas.Slice.Eq.{bytes_eq-Decides}
use Rattle.larch_certificate.specs.BaseWord.{is_word}
use Rattle.larch_certificate_text.specs.declared.here.Here.{Here}
use Rattle.larch_certificate.specs.TermBuilt_inBuiltIn.TheVariants as built
use Rattle.larch_certificate.specs.declared.symbol.Symbol.{Symbol}
use Rattle.larch_certificate.specs.declared.symbol.Symbol.TheVariants as symbol
use Rattle.larch_certificate.specs.declared.line.CodedEquation.{CodedEquation}
use Rattle.larch_certificate_text.specs.ByteClasses.{Lacks, is_ref_byte, is_word_byte}
use Rattle.larch_certificate_text.specs.EquationText.{equation_text, FitEquation, behind_equals, cut_by, cut_equals}
use Rattle.larch_certificate_text.specs.EquationText.{begins_term, lends, rest_of, adjust_sides, bare_cut, is_nothing}
use Rattle.larch_certificate_text.specs.EquationText.{whole, read_term, equation, with_right, behind_left, equation_by}
use Rattle.larch_certificate_text.specs.EquationText.{read_equation}
use Rattle.larch_certificate_text.specs.SymbolText.{symbol_text, FitSymbol, read_leaf}
use Rattle.larch_certificate_text.specs.Parts.{IsSmall, onto, ref_text}
use Rattle.larch_certificate_text.specs.TermText.{term_text, arguments_text, others_text, FitTerm, Front, fresh}
use Rattle.larch_certificate_text.specs.TermText.{with_atom, at_end, run}
use Rattle.larch_certificate.specs.Coded.{CodedTree, CodedForest, coded_var, coded_app, no_terms, term_then}
use Rattle.larch_certificate_text.proofs.Bytes.{lacks, passes_more, word_passes, digits_pass, digit_in_ref}
use Rattle.larch_certificate_text.proofs.Numbers.{own}
use Rattle.larch_certificate_text.proofs.SymbolLaws.{mapped, variable_again, constant_again, leaf_read}
use Rattle.larch_certificate_text.proofs.Refs.{ref_passes}
use Rattle.larch_certificate_text.proofs.TermLaws.{tree_run, run_read, after}

-- ---- terms with nothing behind them

atom_end : (h : Here) (xs : List ℕ) → run h (with_atom xs []) [] ≡ at_end (read_leaf h xs) []
unfolding run
atom_end h xs = refl

after_end : (h : Here) (t : CodedTree) → IsSmall h.line → FitTerm t → after h t [] [] ≡ Some (t, [])
after_end h (coded_var n s) l f = atom_end h (n ++ (58 ∷ s)) ∙ ap (λ v. at_end v []) (variable_again h n s f.0 f.1)
after_end h (coded_app g no_terms) l f = atom_end h (symbol_text h g) ∙ ap (λ v. at_end v []) (constant_again h g l f.0)
after_end h (coded_app g (term_then t ts)) l f = refl

pub term_again : (h : Here) (t : CodedTree) → IsSmall h.line → FitTerm t → read_term h (term_text h t) ≡ Some t
term_again h t l f =
    ap (option_and_then whole) (ap (run h (fresh [])) (sym (append-nil (term_text h t))) ∙ tree_run h t [] [] l f
    ∙ after_end h t l f)

pub nothing_left : (xs : List ℕ) → is_nothing xs ≡ true → xs ≡ []
nothing_left [] e = refl
nothing_left (x ∷ xs) e = absurd (false≢true e)

pub term_read : (h : Here) (text : List ℕ) (t : CodedTree) → IsSmall h.line → read_term h text ≡ Some t
    → (text ≡ term_text h t) × FitTerm t
term_read h text t l e =
    option_and_then_some whole (run h (fresh []) text) t e (λ p i j.
    let w = cond_some (is_nothing p.1) p.0 t j in
    let r = run_read h text p.0 p.1 l (fresh []) (tt, tt) i in (
      r.0 ∙ ap (λ z. term_text h p.0 ++ z) (nothing_left p.1 w.0) ∙ append-nil (term_text h p.0) ∙ ap (term_text h) w.1,
      subst FitTerm w.1 r.1,
    ))

-- ---- the cut behind a left side without arguments

not_equals : (a : ℕ) (bs : List ℕ) → a ≢ 61 → behind_equals (a ∷ bs) ≡ None
not_equals a [] n = refl
not_equals a (b ∷ bs) n =
    cond-false ((a == 61) && (b == 61)) (Some bs) None (and_left (a == 61) (b == 61) (ne_eqb a 61 n))

cut_equals_again : (xs rest : List ℕ) → Lacks 61 xs → Lacks 40 xs
    → cut_equals (xs ++ (61 ∷ 61 ∷ rest)) ≡ Some (xs, rest)
cut_equals_again [] rest l p = refl
cut_equals_again (x ∷ xs) rest l p =
    cond-false (x == 40) None (cut_by (behind_equals (x ∷ (xs ++ (61 ∷ 61 ∷ rest))))
    (option_map (onto x) (cut_equals (xs ++ (61 ∷ 61 ∷ rest))))) (ne_eqb x 40 p.0)
    ∙ ap (λ o. cut_by o (option_map (onto x) (cut_equals (xs ++ (61 ∷ 61 ∷ rest)))))
    (not_equals x (xs ++ (61 ∷ 61 ∷ rest)) l.0)
    ∙ ap (option_map (onto x)) (cut_equals_again xs rest l.1 p.1)

cut_equals_none : (xs rest : List ℕ) → Lacks 61 xs → Lacks 40 xs → cut_equals (xs ++ (40 ∷ rest)) ≡ None
cut_equals_none [] rest l p = refl
cut_equals_none (x ∷ xs) rest l p =
    cond-false (x == 40) None (cut_by (behind_equals (x ∷ (xs ++ (40 ∷ rest))))
    (option_map (onto x) (cut_equals (xs ++ (40 ∷ rest))))) (ne_eqb x 40 p.0)
    ∙ ap (λ o. cut_by o (option_map (onto x) (cut_equals (xs ++ (40 ∷ rest))))) (not_equals x (xs ++ (40 ∷ rest)) l.0)
    ∙ ap (option_map (onto x)) (cut_equals_none xs rest l.1 p.1)

-- a left side that is not ~ and has no equality sign behind its first byte
plain_cut : (b : ℕ) (xs rest : List ℕ) → b ≢ 126 → Lacks 61 xs → Lacks 40 xs
    → bare_cut (b ∷ (xs ++ (61 ∷ 61 ∷ rest))) ≡ Some (b ∷ xs, rest)
plain_cut b xs rest n l p =
    ap (λ o. option_map adjust_sides (option_map (onto b) o)) (cut_equals_again xs rest l p)
    ∙ ap Some (cond-false (bytes_eq (b ∷ xs) (126 ∷ []) && lends rest) (126 ∷ 61 ∷ [], rest_of rest) (b ∷ xs, rest)
    (and_left (bytes_eq (b ∷ xs) (126 ∷ [])) (lends rest) (and_left (b == 126) (bytes_eq xs []) (ne_eqb b 126 n))))

plain_none : (b : ℕ) (xs rest : List ℕ) → Lacks 61 xs → Lacks 40 xs → bare_cut (b ∷ (xs ++ (40 ∷ rest))) ≡ None
plain_none b xs rest l p = ap (λ o. option_map adjust_sides (option_map (onto b) o)) (cut_equals_none xs rest l p)

lacks_append : (c : ℕ) (xs ys : List ℕ) → Lacks c xs → Lacks c ys → Lacks c (xs ++ ys)
lacks_append c [] ys a b = b
lacks_append c (x ∷ xs) ys a b = (a.0, lacks_append c xs ys a.1 b)

decimal_lacks : (c k : ℕ) → IsSmall k → is_ref_byte c ≡ false → Lacks c (decimal k)
decimal_lacks c k s f =
    lacks is_ref_byte c (decimal k)
    (passes_more is_ascii_digit is_ref_byte digit_in_ref (decimal k) (digits_pass (decimal k) (digits_decimal own k s)))
    f

ref_lacks : (h : Here) (c b k : ℕ) → IsSmall h.line → IsSmall b → IsSmall k → is_ref_byte c ≡ false → c ≢ 46
    → Lacks c (ref_text h b ++ (46 ∷ decimal k))
ref_lacks h c b k l s t f n =
    lacks_append c (ref_text h b) (46 ∷ decimal k)
    (lacks is_ref_byte c (ref_text h b) (ref_passes h.relative h.line b l s) f)
    (λ e. n (sym e), decimal_lacks c k t f)

-- how a term begins
op_begins : (h : Here) (f : Symbol) (rest : List ℕ) → begins_term (symbol_text h f ++ rest) ≡ true
op_begins h (symbol.Own k) rest = refl
op_begins h (symbol.Constant b k) rest = refl
op_begins h (symbol.BuiltIn built.True) rest = refl
op_begins h (symbol.BuiltIn built.False) rest = refl
op_begins h (symbol.BuiltIn built.If) rest = refl
op_begins h (symbol.BuiltIn built.Not) rest = refl
op_begins h (symbol.BuiltIn built.And) rest = refl
op_begins h (symbol.BuiltIn built.Or) rest = refl
op_begins h (symbol.BuiltIn built.Implies) rest = refl
op_begins h (symbol.BuiltIn built.Iff) rest = refl
op_begins h (symbol.BuiltIn built.Equal) rest = refl
op_begins h (symbol.BuiltIn built.Unequal) rest = refl

word_begins : (w rest : List ℕ) → is_word w ≡ true → (begins_term (w ++ rest) ≡ true) × (lends (w ++ rest) ≡ false)
word_begins [] rest a = absurd (false≢true a)
word_begins (b ∷ bs) rest a =
    let p = word_passes (b ∷ bs) a in (
      and_from (not (b == 40)) (not (b == 62)) (ap not (ne_eqb b 40 (lacks is_word_byte 40 (b ∷ bs) p refl).0))
          (ap not (ne_eqb b 62 (lacks is_word_byte 62 (b ∷ bs) p refl).0)),
      and_left (b == 61) (begins_term (bs ++ rest)) (ne_eqb b 61 (lacks is_word_byte 61 (b ∷ bs) p refl).0),
    )

tree_begins : (h : Here) (t : CodedTree) → FitTerm t → begins_term (term_text h t) ≡ true
tree_begins h (coded_var n s) f = (word_begins n (58 ∷ s) f.0).0
tree_begins h (coded_app g ts) f = op_begins h g (arguments_text h ts)

op_lends : (h : Here) (f : Symbol) (ts : CodedForest) → lends (symbol_text h f ++ arguments_text h ts) ≡ false
op_lends h (symbol.Own k) ts = refl
op_lends h (symbol.Constant b k) ts = refl
op_lends h (symbol.BuiltIn built.True) ts = refl
op_lends h (symbol.BuiltIn built.False) ts = refl
op_lends h (symbol.BuiltIn built.If) ts = refl
op_lends h (symbol.BuiltIn built.Not) ts = refl
op_lends h (symbol.BuiltIn built.And) ts = refl
op_lends h (symbol.BuiltIn built.Or) ts = refl
op_lends h (symbol.BuiltIn built.Implies) ts = refl
op_lends h (symbol.BuiltIn built.Iff) ts = refl
op_lends h (symbol.BuiltIn built.Equal) no_terms = refl
op_lends h (symbol.BuiltIn built.Equal) (term_then t ts) = refl
op_lends h (symbol.BuiltIn built.Unequal) ts = refl

tree_lends : (h : Here) (t : CodedTree) → FitTerm t → lends (term_text h t) ≡ false
tree_lends h (coded_var n s) f = (word_begins n (58 ∷ s) f.0).1
tree_lends h (coded_app g ts) f = op_lends h g ts

-- the cut behind each operator without arguments, where a term stands on the right
op_cut : (h : Here) (f : Symbol) (rest : List ℕ) → IsSmall h.line → FitSymbol f → begins_term rest ≡ true
    → lends rest ≡ false → bare_cut (symbol_text h f ++ (61 ∷ 61 ∷ rest)) ≡ Some (symbol_text h f, rest)
op_cut h (symbol.Own k) rest l s b e =
    plain_cut 35 (decimal k) rest (λ i. omega arith) (decimal_lacks 61 k s refl) (decimal_lacks 40 k s refl)
op_cut h (symbol.Constant m k) rest l s b e =
    plain_cut 64 (ref_text h m ++ (46 ∷ decimal k)) rest (λ i. omega arith)
    (ref_lacks h 61 m k l s.0 s.1 refl (λ i. omega arith)) (ref_lacks h 40 m k l s.0 s.1 refl (λ i. omega arith))
op_cut h (symbol.BuiltIn built.True) rest l s b e = refl
op_cut h (symbol.BuiltIn built.False) rest l s b e = refl
op_cut h (symbol.BuiltIn built.If) rest l s b e = refl
op_cut h (symbol.BuiltIn built.Not) rest l s b e = rw e refl
op_cut h (symbol.BuiltIn built.And) rest l s b e = refl
op_cut h (symbol.BuiltIn built.Or) rest l s b e = refl
op_cut h (symbol.BuiltIn built.Implies) rest l s b e = refl
op_cut h (symbol.BuiltIn built.Iff) rest l s b e = refl
op_cut h (symbol.BuiltIn built.Equal) rest l s b e = refl
op_cut h (symbol.BuiltIn built.Unequal) rest l s b e = rw b refl

op_no_cut : (h : Here) (f : Symbol) (rest : List ℕ) → IsSmall h.line → FitSymbol f
    → bare_cut (symbol_text h f ++ (40 ∷ rest)) ≡ None
op_no_cut h (symbol.Own k) rest l s =
    plain_none 35 (decimal k) rest (decimal_lacks 61 k s refl) (decimal_lacks 40 k s refl)
op_no_cut h (symbol.Constant m k) rest l s =
    plain_none 64 (ref_text h m ++ (46 ∷ decimal k)) rest (ref_lacks h 61 m k l s.0 s.1 refl (λ i. omega arith))
    (ref_lacks h 40 m k l s.0 s.1 refl (λ i. omega arith))
op_no_cut h (symbol.BuiltIn built.True) rest l s = refl
op_no_cut h (symbol.BuiltIn built.False) rest l s = refl
op_no_cut h (symbol.BuiltIn built.If) rest l s = refl
op_no_cut h (symbol.BuiltIn built.Not) rest l s = refl
op_no_cut h (symbol.BuiltIn built.And) rest l s = refl
op_no_cut h (symbol.BuiltIn built.Or) rest l s = refl
op_no_cut h (symbol.BuiltIn built.Implies) rest l s = refl
op_no_cut h (symbol.BuiltIn built.Iff) rest l s = refl
op_no_cut h (symbol.BuiltIn built.Equal) rest l s = refl
op_no_cut h (symbol.BuiltIn built.Unequal) rest l s = refl

word_cut : (n s rest : List ℕ) → is_word n ≡ true → is_word s ≡ true
    → bare_cut ((n ++ (58 ∷ s)) ++ (61 ∷ 61 ∷ rest)) ≡ Some (n ++ (58 ∷ s), rest)
word_cut [] s rest a b = absurd (false≢true a)
word_cut (x ∷ xs) s rest a b =
    let p = word_passes (x ∷ xs) a in
    let q = word_passes s b in
    plain_cut x (xs ++ (58 ∷ s)) rest (lacks is_word_byte 126 (x ∷ xs) p refl).0
    (lacks_append 61 xs (58 ∷ s) (lacks is_word_byte 61 (x ∷ xs) p refl).1
    (λ e. omega arith, lacks is_word_byte 61 s q refl))
    (lacks_append 40 xs (58 ∷ s) (lacks is_word_byte 40 (x ∷ xs) p refl).1
    (λ e. omega arith, lacks is_word_byte 40 s q refl))

-- ---- equations

equation_at : (h : Here) (l r : CodedTree) → IsSmall h.line → FitTerm l → FitTerm r
    → read_equation h (term_text h l ++ (61 ∷ 61 ∷ term_text h r)) ≡ Some (equation l r)
equation_at h (coded_var n s) r l f g =
    ap (λ p. equation_by h p (run h (fresh []) ((n ++ (58 ∷ s)) ++ (61 ∷ 61 ∷ term_text h r))))
    (word_cut n s (term_text h r) f.0 f.1)
    ∙ ap (option_and_then (with_right h (term_text h r))) (variable_again h n s f.0 f.1)
    ∙ ap (option_map (equation (coded_var n s))) (term_again h r l g)
equation_at h (coded_app q no_terms) r l f g =
    ap (read_equation h) (ap (λ z. z ++ (61 ∷ 61 ∷ term_text h r)) (append-nil (symbol_text h q)))
    ∙ ap (λ p. equation_by h p (run h (fresh []) (symbol_text h q ++ (61 ∷ 61 ∷ term_text h r))))
    (op_cut h q (term_text h r) l f.0 (tree_begins h r g) (tree_lends h r g))
    ∙ ap (option_and_then (with_right h (term_text h r))) (constant_again h q l f.0)
    ∙ ap (option_map (equation (coded_app q no_terms))) (term_again h r l g)
equation_at h (coded_app q (term_then t ts)) r l f g =
    ap
    (λ p. equation_by h p (run h (fresh [])
    (term_text h (coded_app q (term_then t ts)) ++ (61 ∷ 61 ∷ term_text h r))))
    (ap bare_cut (append_assoc (symbol_text h q) (arguments_text h (term_then t ts)) (61 ∷ 61 ∷ term_text h r))
    ∙ op_no_cut h q ((term_text h t ++ others_text h ts) ++ (61 ∷ 61 ∷ term_text h r)) l f.0)
    ∙ ap (option_and_then (behind_left h)) (tree_run h (coded_app q (term_then t ts)) [] (61 ∷ 61 ∷ term_text h r) l f)
    ∙ ap (option_map (equation (coded_app q (term_then t ts)))) (term_again h r l g)

pub equation_again : (h : Here) (e : CodedEquation) → IsSmall h.line → FitEquation e
    → read_equation h (equation_text h e) ≡ Some e
equation_again h e l f = equation_at h e.left e.right l f.0 f.1

equals_some : (text rest : List ℕ) → behind_equals text ≡ Some rest → text ≡ 61 ∷ 61 ∷ rest
equals_some [] rest e = absurd (none-some rest e)
equals_some (a ∷ []) rest e = absurd (none-some rest e)
equals_some (a ∷ b ∷ bs) rest e =
    let w = cond_some ((a == 61) && (b == 61)) bs rest e in
    let s = and_parts (a == 61) (b == 61) w.0 in
    cc (eqb-true a 61 s.0, eqb-true b 61 s.1, w.1)

cut_more : (b : ℕ) (bs : List ℕ) (o : Option (List ℕ × List ℕ)) (xs ys : List ℕ)
    → ((us vs : List ℕ) → o ≡ Some (us, vs) → bs ≡ us ++ (61 ∷ 61 ∷ vs)) → option_map (onto b) o ≡ Some (xs, ys)
    → b ∷ bs ≡ xs ++ (61 ∷ 61 ∷ ys)
cut_more b bs None xs ys f e = absurd (none-some (xs, ys) e)
cut_more b bs (Some p) xs ys f e =
    let q = some_pair_parts (b ∷ p.0) xs p.1 ys e in
    ap (λ z. b ∷ z) (f p.0 p.1 refl) ∙ ap (λ z. z ++ (61 ∷ 61 ∷ p.1)) q.0 ∙ ap (λ z. xs ++ (61 ∷ 61 ∷ z)) q.1

cut_first : (b : ℕ) (bs : List ℕ) (t : Bool) (q : Option (List ℕ)) → behind_equals (b ∷ bs) ≡ q
    → (o : Option (List ℕ × List ℕ)) (xs ys : List ℕ)
    → ((us vs : List ℕ) → o ≡ Some (us, vs) → bs ≡ us ++ (61 ∷ 61 ∷ vs))
    → cond {A = Option (List ℕ × List ℕ)} t None (cut_by q (option_map (onto b) o)) ≡ Some (xs, ys)
    → b ∷ bs ≡ xs ++ (61 ∷ 61 ∷ ys)
cut_first b bs true q i o xs ys f e = absurd (none-some (xs, ys) e)
cut_first b bs false None i o xs ys f e = cut_more b bs o xs ys f e
cut_first b bs false (Some r) i o xs ys f e =
    let q = some_pair_parts [] xs r ys e in
    equals_some (b ∷ bs) r i ∙ ap (λ z. z ++ (61 ∷ 61 ∷ r)) q.0 ∙ ap (λ z. xs ++ (61 ∷ 61 ∷ z)) q.1

cut_equals_some : (text xs ys : List ℕ) → cut_equals text ≡ Some (xs, ys) → text ≡ xs ++ (61 ∷ 61 ∷ ys)
cut_equals_some [] xs ys e = absurd (none-some (xs, ys) e)
cut_equals_some (b ∷ bs) xs ys e =
    cut_first b bs (b == 40) (behind_equals (b ∷ bs)) refl (cut_equals bs) xs ys
    (λ us vs i. cut_equals_some bs us vs i) e

lent : (text : List ℕ) → lends text ≡ true → text ≡ 61 ∷ rest_of text
lent [] e = absurd (false≢true e)
lent (b ∷ bs) e = ap (λ z. z ∷ bs) (eqb-true b 61 (and_parts (b == 61) (begins_term bs) e).0)

adjusted_by : (xs ys : List ℕ) (t : Bool) → (bytes_eq xs (126 ∷ []) && lends ys) ≡ t → (zs us : List ℕ)
    → cond {A = List ℕ × List ℕ} t (126 ∷ 61 ∷ [], rest_of ys) (xs, ys) ≡ (zs, us)
    → xs ++ (61 ∷ 61 ∷ ys) ≡ zs ++ (61 ∷ 61 ∷ us)
adjusted_by xs ys true i zs us e =
    let s = and_parts (bytes_eq xs (126 ∷ [])) (lends ys) i in
    let a = (bytes_eq-Decides xs (126 ∷ [])).0 s.0 in
    let q = some_pair_parts (126 ∷ 61 ∷ []) zs (rest_of ys) us (ap Some e) in
    ap (λ z. z ++ (61 ∷ 61 ∷ ys)) a ∙ ap (λ z. 126 ∷ 61 ∷ 61 ∷ z) (lent ys s.1)
    ∙ ap (λ z. z ++ (61 ∷ 61 ∷ rest_of ys)) q.0 ∙ ap (λ z. zs ++ (61 ∷ 61 ∷ z)) q.1
adjusted_by xs ys false i zs us e =
    let q = some_pair_parts xs zs ys us (ap Some e) in
    ap (λ z. z ++ (61 ∷ 61 ∷ ys)) q.0 ∙ ap (λ z. zs ++ (61 ∷ 61 ∷ z)) q.1

pub bare_read : (text xs ys : List ℕ) → bare_cut text ≡ Some (xs, ys) → text ≡ xs ++ (61 ∷ 61 ∷ ys)
bare_read [] xs ys e = absurd (none-some (xs, ys) e)
bare_read (b ∷ bs) xs ys e =
    mapped adjust_sides (option_map (onto b) (cut_equals bs)) (xs, ys) e (λ p i j.
    mapped (onto b) (cut_equals bs) p i (λ q u v.
    let k = cut_equals_some bs q.0 q.1 u in
    ap (λ z. b ∷ z) k ∙ adjusted_by (b ∷ q.0) q.1 (bytes_eq (b ∷ q.0) (126 ∷ []) && lends q.1) refl xs ys
    (ap adjust_sides v ∙ j)))

right_read : (h : Here) (text : List ℕ) (l : CodedTree) (e : CodedEquation) → IsSmall h.line
    → with_right h text l ≡ Some e → (l ≡ e.left) × (text ≡ term_text h e.right) × FitTerm e.right
right_read h text l e s i =
    mapped (equation l) (read_term h text) e i (λ r p q.
    let k = term_read h text r s p in
    subst (λ e. (l ≡ e.left) × (text ≡ term_text h e.right) × FitTerm e.right) q (refl, k.0, k.1))

equation_read_by : (h : Here) (text : List ℕ) (e : CodedEquation) (c : Option (List ℕ × List ℕ)) (f : Front)
    → IsSmall h.line → bare_cut text ≡ c → run h (fresh []) text ≡ f → equation_by h c f ≡ Some e
    → (text ≡ equation_text h e) × FitEquation e
equation_read_by h text e (Some p) f l i j k =
    option_and_then_some (with_right h p.1) (read_leaf h p.0) e k (λ t u v.
    let a = leaf_read h p.0 t l u in
    let b = right_read h p.1 t e l v in (
      bare_read text p.0 p.1 i ∙ ap (λ z. z ++ (61 ∷ 61 ∷ p.1)) (a.0 ∙ ap (term_text h) b.0)
          ∙ ap (λ z. term_text h e.left ++ (61 ∷ 61 ∷ z)) b.1,
      (subst FitTerm b.0 a.1, b.2),
    ))
equation_read_by h text e None None l i j k = absurd (none-some e k)
equation_read_by h text e None (Some p) l i j k =
    option_and_then_some (λ r. with_right h r p.0) (behind_equals p.1) e k (λ r u v.
    let a = run_read h text p.0 p.1 l (fresh []) (tt, tt) j in
    let b = right_read h r p.0 e l v in (
      a.0 ∙ ap (λ z. term_text h p.0 ++ z) (equals_some p.1 r u) ∙ ap (λ z. term_text h z ++ (61 ∷ 61 ∷ r)) b.0
          ∙ ap (λ z. term_text h e.left ++ (61 ∷ 61 ∷ z)) b.1,
      (subst FitTerm b.0 a.1, b.2),
    ))

pub equation_read : (h : Here) (text : List ℕ) (e : CodedEquation) → IsSmall h.line → read_equation h text ≡ Some e
    → (text ≡ equation_text h e) × FitEquation e
equation_read h text e l i = equation_read_by h text e (bare_cut text) (run h (fresh []) text) l refl refl i

pub equation_not_dash : (h : Here) → read_equation h (45 ∷ []) ≡ None
unfolding run
equation_not_dash h = refl
