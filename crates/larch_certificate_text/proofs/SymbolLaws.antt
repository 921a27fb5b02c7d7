-- An operator has one text, and so has a leaf.
use Rattle.std.proofs.Common.{◌≡◌, ℕ, ◌==◌, ◌&&◌, cond, Bool, true, false, List, [], ◌∷◌, ◌++◌, Option, Some, None}
use Rattle.std.proofs.Common.{refl, sym, ◌∙◌, ap, append-nil, subst}
use Rattle.std.specs.Prelude.{decimal, bytes_eq, option_map, option_and_then}
use Rattle.std.specs.Char.{is_ascii_digit}
use Rattle.std.proofs.lemmas.Fmt.{digits_decimal}
use Rattle.std.proofs.lemmas.Bool.{cond-true, and_parts, and_from, eqb-true}
use Rattle.std.proofs.lemmas.Option.{cond_some, option_and_then_some, none-some, same_Some}
use Rattle.std.proofs.lemmas.Slice.Eq.{bytes_eq-Decides}
use Rattle.larch_certificate.specs.BaseWord.{is_word}
use Rattle.larch_certificate_text.specs.declared.here.Here.{Here}
use Rattle.larch_certificate.specs.TermBuilt_inBuiltIn.{BuiltIn}
use Rattle.larch_certificate.specs.TermBuilt_inBuiltIn.TheVariants as built
use Rattle.larch_certificate.specs.declared.symbol.Symbol.{Symbol}
use Rattle.larch_certificate.specs.declared.symbol.Symbol.TheVariants as symbol
use Rattle.larch_certificate_text.specs.ByteClasses.{passes, is_ref_byte, is_word_byte, is_op_byte}
use Rattle.larch_certificate_text.specs.SymbolText.{built_in_text, read_built_in, symbol_text, FitSymbol, read_symbol}
use Rattle.larch_certificate_text.specs.SymbolText.{constant_of, leaf_by, read_leaf}
use Rattle.larch_certificate_text.specs.Parts.{IsSmall, read_number, read_ref, ref_text, cut_at}
use Rattle.larch_certificate_text.specs.TermText.{term_text, FitTerm}
use Rattle.larch_certificate.specs.Coded.{CodedTree, coded_var, coded_app, no_terms}
use Rattle.larch_certificate_text.proofs.Bytes.{lacks, passes_more, passes_append, digits_pass, digit_in_word}
use Rattle.larch_certificate_text.proofs.Bytes.{word_in_op, ref_in_op, word_passes}
use Rattle.larch_certificate_text.proofs.Cuts.{cut_again, cut_none, cut_some}
use Rattle.larch_certificate_text.proofs.Numbers.{own, number_again, number_read}
use Rattle.larch_certificate_text.proofs.Refs.{ref_by_again, ref_by_read, ref_passes}

pub built_in_again : (b : BuiltIn) → read_built_in (built_in_text b) ≡ Some b
built_in_again built.True = refl
built_in_again built.False = refl
built_in_again built.If = refl
built_in_again built.Not = refl
built_in_again built.And = refl
built_in_again built.Or = refl
built_in_again built.Implies = refl
built_in_again built.Iff = refl
built_in_again built.Equal = refl
built_in_again built.Unequal = refl

-- one row of the table
row : (text : List ℕ) (x : BuiltIn) (more : Option BuiltIn) (b : BuiltIn) (t : Bool)
    → bytes_eq text (built_in_text x) ≡ t → (more ≡ Some b → text ≡ built_in_text b) → cond t (Some x) more ≡ Some b
    → text ≡ built_in_text b
row text x more b true i f e = (bytes_eq-Decides text (built_in_text x)).0 i ∙ ap built_in_text (same_Some x b e)
row text x more b false i f e = f e

pub built_in_read : (text : List ℕ) (b : BuiltIn) → read_built_in text ≡ Some b → text ≡ built_in_text b
built_in_read text b e =
    row text built.True _ b _ refl (λ e. row text built.False _ b _ refl (λ e. row text built.If _ b _ refl (λ e.
    row text built.Not _ b _ refl (λ e. row text built.And _ b _ refl (λ e. row text built.Or _ b _ refl (λ e.
    row text built.Implies _ b _ refl (λ e. row text built.Iff _ b _ refl (λ e. row text built.Equal _ b _ refl (λ e.
    row text built.Unequal None b _ refl (λ e. absurd (none-some b e)) e) e) e) e) e) e) e) e) e) e

decimal_passes : (k : ℕ) → IsSmall k → passes is_op_byte (decimal k) ≡ true
decimal_passes k s =
    passes_more is_ascii_digit is_op_byte (λ b e. word_in_op b (digit_in_word b e)) (decimal k)
    (digits_pass (decimal k) (digits_decimal own k s))

pub op_passes : (h : Here) (f : Symbol) → IsSmall h.line → FitSymbol f → passes is_op_byte (symbol_text h f) ≡ true
op_passes h (symbol.Own k) l s = decimal_passes k s
op_passes h (symbol.Constant b k) l s =
    passes_append is_op_byte (ref_text h b) (46 ∷ decimal k)
    (passes_more is_ref_byte is_op_byte ref_in_op (ref_text h b) (ref_passes h.relative h.line b l s.0))
    (decimal_passes k s.1)
op_passes h (symbol.BuiltIn built.True) l s = refl
op_passes h (symbol.BuiltIn built.False) l s = refl
op_passes h (symbol.BuiltIn built.If) l s = refl
op_passes h (symbol.BuiltIn built.Not) l s = refl
op_passes h (symbol.BuiltIn built.And) l s = refl
op_passes h (symbol.BuiltIn built.Or) l s = refl
op_passes h (symbol.BuiltIn built.Implies) l s = refl
op_passes h (symbol.BuiltIn built.Iff) l s = refl
op_passes h (symbol.BuiltIn built.Equal) l s = refl
op_passes h (symbol.BuiltIn built.Unequal) l s = refl

pub op_again : (h : Here) (f : Symbol) → IsSmall h.line → FitSymbol f → read_symbol h (symbol_text h f) ≡ Some f
op_again h (symbol.Own k) l s = ap (option_map (λ k. symbol.Own k)) (number_again k s)
op_again h (symbol.Constant b k) l s =
    ap (option_and_then (constant_of h))
    (cut_again 46 (ref_text h b) (decimal k)
    (lacks is_ref_byte 46 (ref_text h b) (ref_passes h.relative h.line b l s.0) refl))
    ∙ rw (ref_by_again h.relative h.line b l s.0) (rw (number_again k s.1) refl)
op_again h (symbol.BuiltIn built.True) l s = refl
op_again h (symbol.BuiltIn built.False) l s = refl
op_again h (symbol.BuiltIn built.If) l s = refl
op_again h (symbol.BuiltIn built.Not) l s = refl
op_again h (symbol.BuiltIn built.And) l s = refl
op_again h (symbol.BuiltIn built.Or) l s = refl
op_again h (symbol.BuiltIn built.Implies) l s = refl
op_again h (symbol.BuiltIn built.Iff) l s = refl
op_again h (symbol.BuiltIn built.Equal) l s = refl
op_again h (symbol.BuiltIn built.Unequal) l s = refl

-- what an option became
pub mapped : {A B P : Type 0} (f : A → B) (o : Option A) (y : B) → option_map f o ≡ Some y
    → ((x : A) → o ≡ Some x → f x ≡ y → P) → P
mapped f None y e k = absurd (none-some y e)
mapped f (Some x) y e k = k x refl (same_Some (f x) y e)

op_read_by : (h : Here) (b : ℕ) (bs : List ℕ) (f : Symbol) (s t : Bool) → (b == 35) ≡ s → (b == 64) ≡ t → IsSmall h.line
    → cond s (option_map (λ k. symbol.Own k) (read_number bs))
    (cond t (option_and_then (constant_of h) (cut_at 46 bs))
    (option_map (λ c. symbol.BuiltIn c) (read_built_in (b ∷ bs)))) ≡ Some f
    → (b ∷ bs ≡ symbol_text h f) × FitSymbol f
op_read_by h b bs f true t i j l e =
    mapped (λ k. symbol.Own k) (read_number bs) f e (λ k p q.
    let r = number_read bs k p in
    subst (λ f. (b ∷ bs ≡ symbol_text h f) × FitSymbol f) q (cc (eqb-true b 35 i, r.0), r.1))
op_read_by h b bs f false true i j l e =
    option_and_then_some (constant_of h) (cut_at 46 bs) f e (λ p c d.
    option_and_then_some (λ b. option_map (λ k. symbol.Constant b k) (read_number p.1)) (read_ref h p.0) f d (λ m x y.
    mapped (λ k. symbol.Constant m k) (read_number p.1) f y (λ k u v.
    let r = number_read p.1 k u in
    let w = ref_by_read h.relative h.line p.0 m l x in
    let o = cut_some 46 bs p.0 p.1 c in
    subst (λ f. (b ∷ bs ≡ symbol_text h f) × FitSymbol f) v (cc (eqb-true b 64 j, o, w.0, r.0), (w.1, r.1)))))
op_read_by h b bs f false false i j l e =
    mapped (λ c. symbol.BuiltIn c) (read_built_in (b ∷ bs)) f e (λ c p q.
    subst (λ f. (b ∷ bs ≡ symbol_text h f) × FitSymbol f) q (built_in_read (b ∷ bs) c p, tt))

pub op_read : (h : Here) (text : List ℕ) (f : Symbol) → IsSmall h.line → read_symbol h text ≡ Some f
    → (text ≡ symbol_text h f) × FitSymbol f
op_read h [] f l e = absurd (none-some f e)
op_read h (b ∷ bs) f l e = op_read_by h b bs f (b == 35) (b == 64) refl refl l e

pub variable_again : (h : Here) (n s : List ℕ) → is_word n ≡ true → is_word s ≡ true
    → read_leaf h (n ++ (58 ∷ s)) ≡ Some (coded_var n s)
variable_again h n s a b =
    ap (λ p. leaf_by p (read_symbol h (n ++ (58 ∷ s))))
    (cut_again 58 n s (lacks is_word_byte 58 n (word_passes n a) refl))
    ∙ cond-true (is_word n && is_word s) (Some (coded_var n s)) None (and_from (is_word n) (is_word s) a b)

pub constant_again : (h : Here) (f : Symbol) → IsSmall h.line → FitSymbol f
    → read_leaf h (symbol_text h f) ≡ Some (coded_app f no_terms)
constant_again h f l s =
    ap (λ p. leaf_by p (read_symbol h (symbol_text h f)))
    (cut_none 58 (symbol_text h f) (lacks is_op_byte 58 (symbol_text h f) (op_passes h f l s) refl))
    ∙ ap (option_map (λ g. coded_app g no_terms)) (op_again h f l s)

leaf_read_by : (h : Here) (text : List ℕ) (t : CodedTree) (p : Option (List ℕ × List ℕ)) → cut_at 58 text ≡ p
    → IsSmall h.line → leaf_by p (read_symbol h text) ≡ Some t → (text ≡ term_text h t) × FitTerm t
leaf_read_by h text t (Some p) i l e =
    let c = cond_some (is_word p.0 && is_word p.1) (coded_var p.0 p.1) t e in
    let a = and_parts (is_word p.0) (is_word p.1) c.0 in
    subst (λ t. (text ≡ term_text h t) × FitTerm t) c.1 (cut_some 58 text p.0 p.1 i, a)
leaf_read_by h text t None i l e =
    mapped (λ g. coded_app g no_terms) (read_symbol h text) t e (λ f p q.
    let r = op_read h text f l p in
    subst (λ t. (text ≡ term_text h t) × FitTerm t) q (r.0 ∙ sym (append-nil (symbol_text h f)), (r.1, tt)))

pub leaf_read : (h : Here) (text : List ℕ) (t : CodedTree) → IsSmall h.line → read_leaf h text ≡ Some t
    → (text ≡ term_text h t) × FitTerm t
leaf_read h text t l e = leaf_read_by h text t (cut_at 58 text) refl l e
