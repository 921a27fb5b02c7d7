-- What is written of a term means the term.
use Rattle.std.proofs.Common.{◌≡◌, ◌≤◌, ◌<◌, ◌-◌, ◌==◌, inl, inr, ℕ, suc, Bool, true, false, cond, List, [], ◌∷◌}
use Rattle.std.proofs.Common.{Contains, Option, Some, None, bytes_eq, refl, sym, ◌∙◌, ap, ap₂, subst, arith}
use Rattle.std.specs.Option.{option_map, option_and_then}
use Rattle.std.specs.Cmp.Lexicographic.{pointwise}
use Rattle.std.specs.List.{slice_get}
use Rattle.std.proofs.lemmas.List.Elements.{All-contains}
use Rattle.std.proofs.lemmas.Bool.{cond-true}
use Rattle.larch_term.proofs.BaseMembers.{contains_either, contains_cases, contains_none}
use Rattle.larch_term.specs.BaseByNumber.{numbered}
use Rattle.larch_term.specs.BuiltIn.{IsBuiltIn, built_in, bool_sort}
use Rattle.larch_term.specs.Operator.{OperatorName, PlainOperator, plain, boxed}
use Rattle.larch_term.specs.OperatorKey.{sorts_Decides}
use Rattle.larch_term.specs.Sorts.{sorts_of, AllWellSorted, IsKnown, AllOver, IsTermOver}
use Rattle.larch_term.specs.Tree.{Tree, Forest, var, app, none, more}
use Rattle.larch_term.specs.declared.statement.Theory.{Theory}
use Rattle.larch_term.proofs.BuiltIns.{is_built_in_at_last}
use Rattle.larch_verify_meaning.specs.RenamingRenaming.{rename_tree, renamed_all}
use Rattle.larch_verify_meaning.specs.CalculusRenaming.{HasPlainNames, IsPlainName}
use Rattle.larch_certificate_text.specs.CertificateCoded.{CodedTree, CodedForest, coded_var}
use Rattle.larch_certificate_text.specs.CertificateCoded.{coded_app, no_terms, term_then}
use Rattle.larch_certificate_text.specs.CertificateLineBoxPart.{BoxPart}
use Rattle.larch_certificate_text.specs.CertificateSymbolSymbol.{Symbol}
use Rattle.larch_certificate_text.specs.CertificateSymbolSymbol.TheVariants.{Own, Constant, BuiltIn}
use Rattle.larch_verify_meaning.specs.Context.{theory_of, find_open, find_symbol}
use Rattle.larch_verify_meaning.specs.Decoding.{decode, decode_all, applied_to}
use Rattle.larch_verify_meaning.specs.Events.{PlainBox, Event, Said, Opened, Closed, operators_of, operators_from}
use Rattle.larch_verify_meaning.specs.Events.{part_operator}
use Rattle.larch_derive.specs.Coding.{IsNameOf, IsCodeOf, AreCodesOf}
use Rattle.larch_derive.specs.OpenBox.{constant_of, in_lines, name_in_lines, naming}
use Rattle.larch_derive.specs.declared.open_box.OpenBox.{OpenBox}
use Rattle.larch_derive.proofs.Codes.{numbered_at}
use Rattle.larch_derive.proofs.Runs.{GoDown}

-- ---- constants of open boxes

-- an operator has the name of a constant, as its name tells
abbrev IsOfBox : ℕ → OperatorName → Type 0
IsOfBox c (plain n) = ⊥
IsOfBox c (boxed b k) = b ≡ c

part_name : (b k : ℕ) (p : BoxPart) → (part_operator b k p).name ≡ boxed b k
part_name b k p = by_kind p.predicate
  where
    by_kind : (q : Bool)
        → (cond {A = PlainOperator} q (record { name = boxed b k; domain = p.sort ∷ []; range = bool_sort })
        (record { name = boxed b k; domain = []; range = p.sort })).name ≡ boxed b k
    by_kind true = refl
    by_kind false = refl

-- a constant of a box stands at its own number among what the box makes
made_at : (b j c k : ℕ) (ps : List BoxPart) (o : PlainOperator) → Contains (operators_from b j ps) o
    → o.name ≡ boxed c k → (b ≡ c) × (j ≤ k) × (slice_get (operators_from b j ps) (k - j) ≡ Some o)
made_at b j c k [] o d e = absurd (contains_none o d)
made_at b j c k (p ∷ ps) o d e =
    elim (contains_cases (part_operator b j p) o (operators_from b (suc j) ps) d) [
      | inl here ↦
          let n : boxed b j ≡ boxed c k = sym (part_name b j p) ∙ ap (λ f. f.name) here ∙ e in
          let x : b ≡ c = cc in
          let y : j ≡ k = cc in (
            x,
            omega (arith, y),
            subst (λ i. slice_get (operators_from b j (p ∷ ps)) i ≡ Some o)
                (let z : 0 ≡ k - j = omega (arith, y) in z) (ap Some here),
          )
      | inr later ↦
          let r = made_at b (suc j) c k ps o later e in
          let le = r.1 in (
            r.0,
            omega (arith, le),
            subst (λ i. slice_get (operators_from b j (p ∷ ps)) i ≡ Some o)
                (let z : suc (k - suc j) ≡ k - j = omega (arith, le) in z) r.2,
          )
    ]

-- names of constants in a theory with open boxes are of these boxes
pub constant_older : (t : Theory) → HasPlainNames t → (h : List Event) (c b k : ℕ) (o : PlainOperator) → GoDown c h
    → Contains (theory_of t h).operators o → o.name ≡ boxed b k → (0 < b) × (b ≤ c)
constant_older t p [] c b k o g d e =
    absurd (subst IsPlainName e (All-contains (λ f. IsPlainName f.name) t.operators o p d))
constant_older t p (Said n s ∷ h) c b k o g d e = constant_older t p h c b k o g d e
constant_older t p (Opened x ∷ h) c b k o g d e =
    let u = g.0 in
    let v = g.1 in
    elim (contains_either (theory_of t h).operators (operators_of x) o d) [
      | inl outer ↦
          let r = constant_older t p h (x.number - 1) b k o g.2 outer e in
          let y = r.1 in
          (r.0, omega (arith, u, v, y))
      | inr own ↦
          let r = made_at x.number 1 b k x.parts o own e in
          let y = r.0 in
          (omega (arith, u, y), omega (arith, v, y))
    ]
constant_older t p (Closed x s ∷ h) c b k o g d e = constant_older t p h c b k o g d e

here_open : (m b : ℕ) (x : PlainBox) (o : Option PlainBox) → m ≡ b → cond (m == b) (Some x) o ≡ Some x
here_open m b x o e = grind (arith, e)

not_here : (m b : ℕ) (x : PlainBox) (o : Option PlainBox) → b < m → cond (m == b) (Some x) o ≡ o
not_here m b x o lt = grind arith

-- and are found by their numbers
pub constant_found : (t : Theory) → HasPlainNames t → (h : List Event) (c b k : ℕ) (o : PlainOperator) → GoDown c h
    → Contains (theory_of t h).operators o → o.name ≡ boxed b k
    → option_and_then (λ box. numbered (operators_of box) k) (find_open h b) ≡ Some o
constant_found t p [] c b k o g d e =
    absurd (subst IsPlainName e (All-contains (λ f. IsPlainName f.name) t.operators o p d))
constant_found t p (Said n s ∷ h) c b k o g d e = constant_found t p h c b k o g d e
constant_found t p (Opened x ∷ h) c b k o g d e =
    elim (contains_either (theory_of t h).operators (operators_of x) o d) [
      | inl outer ↦
          let r = constant_older t p h (x.number - 1) b k o g.2 outer e in
          let y = r.1 in
          let u = g.0 in
          let lt : b < x.number = omega (arith, y, u) in
          ap (option_and_then (λ box. numbered (operators_of box) k)) (not_here x.number b x (find_open h b) lt)
          ∙ constant_found t p h (x.number - 1) b k o g.2 outer e
      | inr own ↦
          let r = made_at x.number 1 b k x.parts o own e in
          ap (option_and_then (λ box. numbered (operators_of box) k)) (here_open x.number b x (find_open h b) r.0)
          ∙ numbered_at (operators_of x) k o r.1 r.2
    ]
constant_found t p (Closed x s ∷ h) c b k o g d e = constant_found t p h c b k o g d e

-- what has bytes as its name in a theory with open boxes is the theory's own
pub plain_own : (t : Theory) (h : List Event) (n : List ℕ) (o : PlainOperator) → Contains (theory_of t h).operators o
    → o.name ≡ plain n → Contains t.operators o
plain_own t [] n o d e = d
plain_own t (Said m s ∷ h) n o d e = plain_own t h n o d e
plain_own t (Opened x ∷ h) n o d e =
    elim (contains_either (theory_of t h).operators (operators_of x) o d) [
      | inl outer ↦ plain_own t h n o outer e
      | inr own ↦ absurd (no_bytes x.number 1 n x.parts o own e)
    ]
  where
    no_bytes : (b j : ℕ) (n : List ℕ) (ps : List BoxPart) (o : PlainOperator) → Contains (operators_from b j ps) o
        → o.name ≡ plain n → ⊥
    no_bytes b j n [] o d e = contains_none o d
    no_bytes b j n (p ∷ ps) o d e =
        elim (contains_cases (part_operator b j p) o (operators_from b (suc j) ps) d) [
          | inl here ↦ let x : boxed b j ≡ plain n = sym (part_name b j p) ∙ ap (λ f. f.name) here ∙ e in cc
          | inr later ↦ no_bytes b (suc j) n ps o later e
        ]
plain_own t (Closed x s ∷ h) n o d e = plain_own t h n o d e

-- ---- operators in lines

-- what stands for no constant and has bytes as its name stays
pub stays_in_lines : (bs : List OpenBox) (f : PlainOperator) (n : List ℕ) → constant_of bs f ≡ None → f.name ≡ plain n
    → in_lines bs f ≡ f
stays_in_lines bs f n e p =
    let q : name_in_lines (constant_of bs f) f.name ≡ f.name =
    ap (λ o. name_in_lines o f.name) e ∙ ap (name_in_lines None) p ∙ sym p in
    λ i. record { name = q i; domain = f.domain; range = f.range }

named_none : (bs : List OpenBox) (f : PlainOperator) (m : OperatorName) → constant_of bs f ≡ None → f.name ≡ m
    → (in_lines bs f).name ≡ name_in_lines None m
named_none bs f m e p = ap (λ o. name_in_lines o f.name) e ∙ ap (name_in_lines None) p

built_in_plain : (f : PlainOperator) (b k : ℕ) → IsBuiltIn f → f.name ≡ boxed b k → ⊥
built_in_plain f b k (o, (s, e)) p = let x : (built_in o s).name ≡ boxed b k = ap (λ g. g.name) (sym e) ∙ p in cc

-- a known operator that stands for no constant has bytes as its name
pub known_plain : (t : Theory) → HasPlainNames t → (h : List Event) (c : ℕ) (bs : List OpenBox) (f : PlainOperator)
    → GoDown c h → constant_of bs f ≡ None → IsKnown (theory_of t h).operators (in_lines bs f)
    → (n : List ℕ) × (f.name ≡ plain n)
known_plain t p h c bs f g e w = by_name f.name refl
  where
    refuted : (b k : ℕ) → f.name ≡ boxed b k → ⊥
    refuted b k q =
        let z = named_none bs f (boxed b k) e q in
        elim w [
          | inl d ↦ let r = constant_older t p h c 0 0 (in_lines bs f) g d z in let y = r.0 in absurd (omega (arith, y))
          | inr i ↦ built_in_plain (in_lines bs f) 0 0 i z
        ]

    by_name : (m : OperatorName) → f.name ≡ m → (n : List ℕ) × (f.name ≡ plain n)
    by_name (plain n) q = (n, q)
    by_name (boxed b k) q = absurd (refuted b k q)

pub symbol_means : (t : Theory) → HasPlainNames t → (h : List Event) (c : ℕ) (bs : List OpenBox) (f : PlainOperator)
    (g : Symbol) → GoDown c h → IsNameOf bs t.operators f g → IsKnown (theory_of t h).operators (in_lines bs f)
    → find_symbol t h g f.domain ≡ Some (in_lines bs f)
symbol_means t p h c bs f (Constant b k) d e w =
    let z : (in_lines bs f).name ≡ boxed b k = ap (λ o. name_in_lines o f.name) e in
    elim w [
      | inl x ↦ constant_found t p h c b k (in_lines bs f) d x z
      | inr i ↦ absurd (built_in_plain (in_lines bs f) b k i z)
    ]
symbol_means t p h c bs f (BuiltIn b) d e w =
    let n = known_plain t p h c bs f d e.0 w in
    ap Some (sym (is_built_in_at_last b f e.1) ∙ sym (stays_in_lines bs f n.0 e.0 n.1))
symbol_means t p h c bs f (Own k) d e w =
    let n = known_plain t p h c bs f d e.0 w in
    let z = stays_in_lines bs f n.0 e.0 n.1 in
    elim (subst (IsKnown (theory_of t h).operators) z w) [
      | inl x ↦ e.2 (plain_own t h n.0 f x n.1) ∙ ap Some (sym z)
      | inr i ↦ absurd (e.1 i)
    ]

-- ---- terms

pub sorts_in_lines : (bs : List OpenBox) (ts : Forest) → sorts_of (renamed_all (naming bs) ts) ≡ sorts_of ts
sorts_in_lines bs none = refl
sorts_in_lines bs (more (var n s) ts) = ap (λ ss. s ∷ ss) (sorts_in_lines bs ts)
sorts_in_lines bs (more (app f us) ts) = ap (λ ss. f.range ∷ ss) (sorts_in_lines bs ts)

applied_at : (ts : Forest) (f : PlainOperator) → sorts_of ts ≡ f.domain → applied_to ts f ≡ Some (app f ts)
applied_at ts f e =
    cond-true (pointwise bytes_eq (sorts_of ts) f.domain) (Some (app f ts)) None
    ((sorts_Decides (sorts_of ts) f.domain).1 e)

mutual
  pub written_means : (t : Theory) → HasPlainNames t → (h : List Event) (c : ℕ) (bs : List OpenBox) → GoDown c h
      → (a : Tree) (d : CodedTree) → IsCodeOf bs t.operators a d
      → IsTermOver (theory_of t h).operators (rename_tree (naming bs) a)
      → decode (find_symbol t h) d ≡ Some (rename_tree (naming bs) a)
  written_means t p h c bs g (var n s) (coded_var m r) (e, q) w = ap Some (ap₂ var e q)
  written_means t p h c bs g (var n s) (coded_app x ds) e w = absurd e
  written_means t p h c bs g (app f ts) (coded_var m r) e w = absurd e
  written_means t p h c bs g (app f ts) (coded_app x ds) e w =
      let us = renamed_all (naming bs) ts in
      let sorts : sorts_of us ≡ f.domain = w.0.0 in
      let found : find_symbol t h x (sorts_of us) ≡ Some (in_lines bs f) =
      ap (find_symbol t h x) sorts ∙ symbol_means t p h c bs f x g e.0.0 w.1.0 in
      ap (option_and_then (λ vs. option_and_then (applied_to vs) (find_symbol t h x (sorts_of vs))))
      (all_written_mean t p h c bs g ts ds e.1 (w.0.1, w.1.1))
      ∙ ap (option_and_then (applied_to us)) found
      ∙ applied_at us (in_lines bs f) sorts

  pub all_written_mean : (t : Theory) → HasPlainNames t → (h : List Event) (c : ℕ) (bs : List OpenBox) → GoDown c h
      → (ts : Forest) (ds : CodedForest) → AreCodesOf bs t.operators ts ds
      → AllWellSorted (renamed_all (naming bs) ts) × AllOver (theory_of t h).operators (renamed_all (naming bs) ts)
      → decode_all (find_symbol t h) ds ≡ Some (renamed_all (naming bs) ts)
  all_written_mean t p h c bs g none no_terms e w = refl
  all_written_mean t p h c bs g none (term_then d ds) e w = absurd e
  all_written_mean t p h c bs g (more a ts) no_terms e w = absurd e
  all_written_mean t p h c bs g (more a ts) (term_then d ds) e w =
      ap (option_and_then (λ u. option_map (λ us. more u us) (decode_all (find_symbol t h) ds)))
      (written_means t p h c bs g a d e.0 (w.0.0, w.1.0))
      ∙ ap (option_map (λ us. more (rename_tree (naming bs) a) us))
      (all_written_mean t p h c bs g ts ds e.1 (w.0.1, w.1.1))
