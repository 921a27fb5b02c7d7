-- A line says that a claim fails only where the claim doesn't hold in a model.
use Rattle.std.proofs.Common.{◌≡◌, ◌≢◌, refl, sym, ap, subst, ◌∙◌, ℕ, zero, suc, ◌+◌, ◌/◌, ◌%◌, ◌==◌, ◌||◌, not, Bool}
use Rattle.std.proofs.Common.{true, false, cond, List, [], ◌∷◌, ◌++◌, length, drop, get_or, Option, Some, None, Ok, Err}
use Rattle.std.proofs.Common.{◌⊎◌, inl, inr, arith, append_assoc, codes, slice_get, ◌&&◌}
use Rattle.std.specs.Prelude.{Contains, decimal, nat_lt}
use Rattle.std.specs.Fmt.{digit_glyph, digits, digits_onto}
use Rattle.std.specs.List.{list_all}
use Rattle.std.proofs.lemmas.List.{append_cancel_right, drop_at, length-append}
use Rattle.larch_base.proofs.Members.{contains_cases, contains_one}
use Rattle.larch_base.specs.Label.{label_text}
use Rattle.larch_base.specs.declared.label.Label.{Label}
use Rattle.larch_base.specs.declared.label.Label.TheVariants.{Assume, Imply, Convert}
use Rattle.larch_calculus.specs.Derivable.{Derivable}
use Rattle.larch_certificate_text.specs.ByteClasses.{Lacks, passes}
use Rattle.larch_certificate_text.specs.ListText.{split_at}
use Rattle.larch_certificate_text.proofs.Bytes.{lacks}
use Rattle.larch_certificate_text.proofs.ListLaws.{split_first, split_none}
use Rattle.larch_term.specs.Statement.{IsWellSortedTheory}
use Rattle.larch_term.specs.declared.statement.Statement.{Statement}
use Rattle.larch_term.specs.declared.statement.Theory.{Theory}
use Rattle.larch_models_meaning.specs.Computed.{holds}
use Rattle.larch_models_meaning.specs.FiniteModel.{first_failing, interpretation_of}
use Rattle.larch_models_meaning.specs.Interpretation.{Interpretation}
use Rattle.larch_models_meaning.specs.ModelText.{ModelReading, read_model}
use Rattle.larch_models_meaning.specs.declared.finite_model.FiniteModel.{FiniteModel}
use Rattle.larch_models.proofs.Answers.{derivable_holds}
use Rattle.larch_models_answer.specs.Failing.{FailsIn, HasLine, claims_of, failing_line}
use Rattle.larch_models_answer.specs.Judgements.{claim_line, claim_lines, claims_finding, finding_by, found, is_small}
use Rattle.larch_models_answer.specs.Judgements.{judge_reading, label_at, verdict_text}
use Rattle.larch_models_answer.specs.declared.claim.Kind.{Kind}
use Rattle.larch_models_answer.specs.declared.claim.Kind.TheVariants.{Assumed, Implied}
use Rattle.larch_models_answer.specs.declared.finding.Ending.TheVariants.{TooLarge}

-- ---- no newline

no_glyph : (upper : Bool) (d : ℕ) → digit_glyph upper d ≢ 10
no_glyph upper d = by_case (nat_lt d 10) upper
  where
    by_case : (a b : Bool) → cond a (48 + d) (cond b (55 + d) (87 + d)) ≢ 10
    by_case true b e = absurd (omega (arith, e))
    by_case false true e = absurd (omega (arith, e))
    by_case false false e = absurd (omega (arith, e))

onto_lacks : (k base : ℕ) (upper : Bool) (n : ℕ) (acc : List ℕ) → Lacks 10 acc
    → Lacks 10 (digits_onto k base upper n acc)
onto_lacks zero base upper n acc l = l
onto_lacks (suc k) base upper n acc l =
    let more : Lacks 10 (digit_glyph upper (n % base) ∷ acc) = (no_glyph upper (n % base), l) in
    either (n / base == 0) _ _ more (onto_lacks k base upper (n / base) (digit_glyph upper (n % base) ∷ acc) more)
  where
    either : (b : Bool) (xs ys : List ℕ) → Lacks 10 xs → Lacks 10 ys → Lacks 10 (cond b xs ys)
    either true xs ys p q = p
    either false xs ys p q = q

decimal_lacks : (n : ℕ) → Lacks 10 (decimal n)
unfolding digits
decimal_lacks n = onto_lacks 64 10 false n [] tt

lacks_append : (xs ys : List ℕ) → Lacks 10 xs → Lacks 10 ys → Lacks 10 (xs ++ ys)
lacks_append [] ys a b = b
lacks_append (x ∷ xs) ys a b = (a.0, lacks_append xs ys a.1 b)

abbrev is_other : ℕ → Bool
is_other b = not (b == 10)

pub words_lack : (xs : List ℕ) → passes is_other xs ≡ true → Lacks 10 xs
words_lack xs e = lacks is_other 10 xs e refl

label_lacks : (label : Label) → Lacks 10 (label_text label)
label_lacks (Assume n) =
    lacks_append (codes "assume.") (decimal n) (words_lack (codes "assume.") refl) (decimal_lacks n)
label_lacks (Imply n) = lacks_append (codes "imply.") (decimal n) (words_lack (codes "imply.") refl) (decimal_lacks n)
label_lacks (Convert n) =
    lacks_append (codes "convert.") (decimal n) (words_lack (codes "convert.") refl) (decimal_lacks n)

-- ---- lines

next_line : (line rest x : List ℕ) → Lacks 10 line → HasLine (line ++ (10 ∷ rest)) x → (line ≡ x) ⊎ HasLine rest x
next_line line rest x l h =
    contains_cases line x (split_at 10 rest) (subst (λ lines. Contains lines x) (split_first 10 line rest l) h)

last_line : (x : List ℕ) → HasLine [] x → [] ≡ x
last_line x h = contains_one [] x (subst (λ lines. Contains lines x) (split_none 10 [] tt) h)

abbrev first_of : List ℕ → ℕ
first_of bytes = get_or bytes 0 0

-- labels begin with one of these
abbrev begins_label : ℕ → Bool
begins_label b = (b == 97) || ((b == 105) || (b == 99))

failing_begins : (label : Label) → begins_label (first_of (failing_line label)) ≡ true
failing_begins (Assume n) = refl
failing_begins (Imply n) = refl
failing_begins (Convert n) = refl

other_line : (label : Label) (line : List ℕ) → begins_label (first_of line) ≡ false → line ≡ failing_line label → ⊥
other_line label line other e =
    let no : true ≡ false =
    sym (failing_begins label) ∙ ap (λ bytes. begins_label (first_of bytes)) (sym e) ∙ other in
    cc

-- a text of one line that begins otherwise
pub no_failing : (label : Label) (line : List ℕ) → Lacks 10 line → begins_label (first_of line) ≡ false
    → HasLine (line ++ (10 ∷ [])) (failing_line label) → ⊥
no_failing label line l other h = elim (next_line line [] (failing_line label) l h) [
  | inl same ↦ other_line label line other same
  | inr later ↦ other_line label [] refl (last_line (failing_line label) later)
]

no_failing_number : (label : Label) (words : List ℕ) (n : ℕ) → Lacks 10 words
    → begins_label (first_of (words ++ decimal n)) ≡ false
    → HasLine (words ++ (decimal n ++ codes "\n")) (failing_line label) → ⊥
no_failing_number label words n l other h =
    no_failing label (words ++ decimal n) (lacks_append words (decimal n) l (decimal_lacks n)) other
    (subst (λ text. HasLine text (failing_line label)) (sym (append_assoc words (decimal n) (codes "\n"))) h)

-- ---- lines of claims

abbrev word_of : Bool → List ℕ
word_of so = cond so (codes " holds") (codes " fails")

word_lacks : (so : Bool) → Lacks 10 (word_of so)
word_lacks true = words_lack (codes " holds") refl
word_lacks false = words_lack (codes " fails") refl

verdict_is : (so : Bool) → verdict_text so ≡ word_of so ++ codes "\n"
verdict_is true = refl
verdict_is false = refl

abbrev line_of : Interpretation → Label → Statement → List ℕ
line_of m label s = label_text label ++ word_of (holds m s)

claim_then : (m : Interpretation) (label : Label) (s : Statement) (rest : List ℕ)
    → claim_line m label s ++ rest ≡ line_of m label s ++ (10 ∷ rest)
claim_then m label s rest =
    ap (λ v. (label_text label ++ v) ++ rest) (verdict_is (holds m s))
    ∙ ap (λ xs. xs ++ rest) (sym (append_assoc (label_text label) (word_of (holds m s)) (codes "\n")))
    ∙ append_assoc (line_of m label s) (codes "\n") rest

abbrev second_of : List ℕ → ℕ
second_of bytes = get_or bytes 1 0

words_differ : codes " holds" ≡ codes " fails" → ⊥
words_differ e = let no : 104 ≡ 102 = ap second_of e in absurd (omega (arith, no))

-- a line that says that a claim fails is that of the label, and the claim doesn't hold
same_line : (label other : Label) (so : Bool) → label_text other ++ word_of so ≡ failing_line label
    → (so ≡ false) × (label_text other ≡ label_text label)
same_line label other false e = (refl, append_cancel_right (label_text other) (label_text label) (codes " fails") e)
same_line label other true e =
    let one = length-append (label_text other) (codes " holds") in
    let two = length-append (label_text label) (codes " fails") in
    let both : length (label_text other ++ codes " holds") ≡ length (failing_line label) = ap length e in
    let size : length (label_text other) ≡ length (label_text label) = omega (arith, one, two, both) in
    absurd (words_differ
    (sym (drop_at (label_text other) (codes " holds") (length (label_text label)) size)
    ∙ ap (λ bytes. drop (length (label_text label)) bytes) e
    ∙ drop_at (label_text label) (codes " fails") (length (label_text label)) refl))

-- of claims with numbers from here on one has this label and doesn't hold
record Failed (m : Interpretation) (kind : Kind) (n : ℕ) (ss : List Statement) (label : Label) : Type 0 where
  pub place : ℕ
  pub claim : Statement
  pub is_claim : slice_get ss place ≡ Some claim
  pub is_label : label_text (label_at kind (n + place)) ≡ label_text label
  pub fails : holds m claim ≡ false

failed_here : (m : Interpretation) (kind : Kind) (n : ℕ) (s : Statement) (ss : List Statement) (label : Label)
    → (holds m s ≡ false) × (label_text (label_at kind n) ≡ label_text label) → Failed m kind n (s ∷ ss) label
failed_here m kind n s ss label (fails, named) =
    let at : n + 0 ≡ n = omega arith in record {
      place = 0;
      claim = s;
      is_claim = refl;
      is_label = ap (λ k. label_text (label_at kind k)) at ∙ named;
      fails = fails;
    }

failed_later : (m : Interpretation) (kind : Kind) (n : ℕ) (s : Statement) (ss : List Statement) (label : Label)
    → Failed m kind (suc n) ss label → Failed m kind n (s ∷ ss) label
failed_later m kind n s ss label f =
    let at : n + suc f.place ≡ suc n + f.place = omega arith in record {
      place = suc f.place;
      claim = f.claim;
      is_claim = f.is_claim;
      is_label = ap (λ k. label_text (label_at kind k)) at ∙ f.is_label;
      fails = f.fails;
    }

claims_fail : (m : Interpretation) (kind : Kind) (n : ℕ) (ss : List Statement) (rest : List ℕ) (label : Label)
    → HasLine (claim_lines m kind n ss ++ rest) (failing_line label)
    → Failed m kind n ss label ⊎ HasLine rest (failing_line label)
claims_fail m kind n [] rest label h = inr h
claims_fail m kind n (s ∷ ss) rest label h =
    let l : Label = label_at kind n in
    let behind : List ℕ = claim_lines m kind (suc n) ss ++ rest in
    let all : claim_lines m kind n (s ∷ ss) ++ rest ≡ line_of m l s ++ (10 ∷ behind) =
    append_assoc (claim_line m l s) (claim_lines m kind (suc n) ss) rest ∙ claim_then m l s behind in
    let lack : Lacks 10 (line_of m l s) =
    lacks_append (label_text l) (word_of (holds m s)) (label_lacks l) (word_lacks (holds m s)) in
    elim
    (next_line (line_of m l s) behind (failing_line label) lack
    (subst (λ text. HasLine text (failing_line label)) all h)) [
      | inl same ↦ inl (failed_here m kind n s ss label (same_line label l (holds m s) same))
      | inr later ↦ elim (claims_fail m kind (suc n) ss rest label later) [
        | inl f ↦ inl (failed_later m kind n s ss label f)
        | inr more ↦ inr more
      ]
    ]

-- ---- what is found

module _ (t : Theory) (assumed implied : List Statement) (label : Label) where
  fails_of : (m : FiniteModel) → first_failing (interpretation_of m) t.statements ≡ None → (kind : Kind)
      → Failed (interpretation_of m) kind 1 (claims_of kind assumed implied) label → FailsIn t assumed implied label
  fails_of m none kind f =
      let at : suc f.place ≡ 1 + f.place = omega arith in record {
        model = m;
        is_model = none;
        kind = kind;
        place = f.place;
        claim = f.claim;
        is_claim = f.is_claim;
        is_label = ap (λ k. label_text (label_at kind k)) at ∙ f.is_label;
        fails = f.fails;
      }

  claims_failing : (m : FiniteModel) → first_failing (interpretation_of m) t.statements ≡ None
      → HasLine (claims_finding (interpretation_of m) assumed implied).text (failing_line label)
      → FailsIn t assumed implied label
  claims_failing m none h =
      let i : Interpretation = interpretation_of m in
      let last : List ℕ = claim_lines i Implied 1 implied ++ codes "end\n" in
      elim
      (next_line (codes "model") (claim_lines i Assumed 1 assumed ++ last) (failing_line label)
      (words_lack (codes "model") refl) h) [
        | inl same ↦ absurd (other_line label (codes "model") refl same)
        | inr first ↦ elim (claims_fail i Assumed 1 assumed last label first) [
          | inl f ↦ fails_of m none Assumed f
          | inr second ↦ elim (claims_fail i Implied 1 implied (codes "end\n") label second) [
            | inl f ↦ fails_of m none Implied f
            | inr end ↦ absurd (no_failing label (codes "end") (words_lack (codes "end") refl) refl end)
          ]
        ]
      ]

  finding_failing : (m : FiniteModel) (o : Option ℕ) → first_failing (interpretation_of m) t.statements ≡ o
      → HasLine (finding_by (interpretation_of m) assumed implied o).text (failing_line label)
      → FailsIn t assumed implied label
  finding_failing m None e h = claims_failing m e h
  finding_failing m (Some k) e h =
      absurd (no_failing_number label (codes "fails ") k (words_lack (codes "fails ") refl) refl h)

  judged_failing : (m : FiniteModel) (small : Bool)
      → HasLine
      (cond small
      (finding_by (interpretation_of m) assumed implied (first_failing (interpretation_of m) t.statements))
      (found (codes "too large\n") TooLarge)).text (failing_line label)
      → FailsIn t assumed implied label
  judged_failing m true h = finding_failing m (first_failing (interpretation_of m) t.statements) refl h
  judged_failing m false h =
      absurd (no_failing label (codes "too large") (words_lack (codes "too large") refl) refl h)

  reading_failing : (read : ModelReading) → HasLine (judge_reading t assumed implied read).text (failing_line label)
      → FailsIn t assumed implied label
  reading_failing (Ok m) h =
      judged_failing m
      (list_all (is_small m) t.statements && (list_all (is_small m) assumed && list_all (is_small m) implied)) h
  reading_failing (Err n) h =
      absurd
      (no_failing_number label (codes "malformed at line ") n (words_lack (codes "malformed at line ") refl) refl h)

  pub model_failing : (text : List ℕ)
      → HasLine (judge_reading t assumed implied (read_model t.operators text)).text (failing_line label)
      → FailsIn t assumed implied label
  model_failing text h = reading_failing (read_model t.operators text) h

  -- what fails in a model isn't derivable
  pub failing_underivable : (f : FailsIn t assumed implied label) → IsWellSortedTheory t → Derivable t f.claim → ⊥
  failing_underivable f w d =
      let no : true ≡ false = sym (derivable_holds t f.model f.is_model w f.claim d) ∙ f.fails in cc

  -- what is so of each claim, under the label of its kind and number, is so of a claim that fails
  pub of_failing : (So : Label → Statement → Type 0)
      → ((place : ℕ) (s : Statement) → slice_get assumed place ≡ Some s → So (Assume (suc place)) s)
      → ((place : ℕ) (s : Statement) → slice_get implied place ≡ Some s → So (Imply (suc place)) s)
      → (f : FailsIn t assumed implied label) → So (label_at f.kind (suc f.place)) f.claim
  of_failing So first second f = by_kind f.kind f.place f.claim f.is_claim
    where
      by_kind : (kind : Kind) (place : ℕ) (s : Statement)
          → slice_get (claims_of kind assumed implied) place ≡ Some s → So (label_at kind (suc place)) s
      by_kind Assumed place s is = first place s is
      by_kind Implied place s is = second place s is
