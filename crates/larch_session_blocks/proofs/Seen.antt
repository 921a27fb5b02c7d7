-- Which labels earlier blocks had: what is kept of them tells the same of each duty's.
use Rattle.std.proofs.Common.{◌≡◌, refl, sym, ap, subst, ◌∙◌, ℕ, arith, Bool, true, false, cond, ◌==◌, ◌||◌, not}
use Rattle.std.proofs.Common.{◌+◌, ◌<◌, List, [], ◌∷◌, ◌++◌, map, length, drop, get_or, Result, Ok, Err, OnOk}
use Rattle.std.proofs.lemmas.Bool.Decides.{nat_tests}
use Rattle.std.proofs.lemmas.List.{append_assoc, drop_more}
use Rattle.std.specs.List.{list_any}
use Rattle.larch_base.specs.declared.code.Code.TheVariants.{DutyTwice, UnknownDuty}
use Rattle.larch_base.specs.declared.label.Label.{Label}
use Rattle.larch_base.specs.declared.label.Label.TheVariants.{Assume, Imply, Convert}
use Rattle.larch_session_meaning.specs.ProveMeaningReports.{ScriptFault, TraitLine, script_lines}
use Rattle.larch_session_meaning.specs.ProveMeaningScripts.{same_label}
use Rattle.larch_report.specs.declared.line.ReportLine.{ReportLine}
use Rattle.larch_script_commands.specs.declared.script.Block.{Block}
use Rattle.larch_session_meaning.specs.Traits.{reported_line}

same_number : (n m : ℕ) → (n == m) ≡ true → n ≡ m
same_number n m e = grind (arith, nat_tests, e)

-- labels that are one are equal
same_is : (l m : Label) → same_label l m ≡ true → l ≡ m
same_is (Assume n) (Assume m) e = ap Assume (same_number n m e)
same_is (Imply n) (Imply m) e = ap Imply (same_number n m e)
same_is (Convert n) (Convert m) e = ap Convert (same_number n m e)
same_is (Assume n) (Imply m) e = absurd (cc)
same_is (Assume n) (Convert m) e = absurd (cc)
same_is (Imply n) (Assume m) e = absurd (cc)
same_is (Imply n) (Convert m) e = absurd (cc)
same_is (Convert n) (Assume m) e = absurd (cc)
same_is (Convert n) (Imply m) e = absurd (cc)

-- of each of these labels both lists tell the same
abbrev pub TellSame : List Label → List Label → List Label → Type 0
TellSame duties one other =
    (l : Label) → list_any (same_label l) duties ≡ true → list_any (same_label l) one ≡ list_any (same_label l) other

more_same : (duties one other : List Label) (b : Label) → TellSame duties one other
    → TellSame duties (b ∷ one) (b ∷ other)
more_same duties one other b h l e = ap (λ x. same_label l b || x) (h l e)

first_is : (known one other : Bool) (b : Block) (rest more : List TraitLine) → (known ≡ true → one ≡ other)
    → rest ≡ more
    → cond (not known) (ScriptFault b.line UnknownDuty ∷ rest) (cond one (ScriptFault b.line DutyTwice ∷ rest) rest)
    ≡ cond (not known) (ScriptFault b.line UnknownDuty ∷ more) (cond other (ScriptFault b.line DutyTwice ∷ more) more)
first_is true one other b rest more h e =
    ap (λ x. cond x (ScriptFault b.line DutyTwice ∷ rest) rest) (h refl)
    ∙ ap (λ xs. cond other (ScriptFault b.line DutyTwice ∷ xs) xs) e
first_is false one other b rest more h e = ap (λ xs. ScriptFault b.line UnknownDuty ∷ xs) e

pub same_lines : (duties one other : List Label) (blocks : List Block) → TellSame duties one other
    → script_lines duties one blocks ≡ script_lines duties other blocks
same_lines duties one other [] h = refl
same_lines duties one other (b ∷ bs) h =
    first_is (list_any (same_label b.label) duties) (list_any (same_label b.label) one)
    (list_any (same_label b.label) other) b (script_lines duties (b.label ∷ one) bs)
    (script_lines duties (b.label ∷ other) bs) (h b.label)
    (same_lines duties (b.label ∷ one) (b.label ∷ other) bs (more_same duties one other b.label h))

-- ---- what is kept

or_true : (a b : Bool) → (a ≡ true → b ≡ true) → (a || b) ≡ b
or_true true b f = sym (f refl)
or_true false b f = refl

-- a label that is no duty's needn't be kept
pub unknown_same : (duties seen : List Label) (b : Label) → list_any (same_label b) duties ≡ false
    → TellSame duties (b ∷ seen) seen
unknown_same duties seen b unknown l e =
    or_true (same_label l b) (list_any (same_label l) seen)
    (λ s. absurd (let k = subst (λ (x : Label). list_any (same_label x) duties ≡ true) (same_is l b s) e in cc))

-- nor one that is there
pub twice_same : (duties seen : List Label) (b : Label) → list_any (same_label b) seen ≡ true
    → TellSame duties (b ∷ seen) seen
twice_same duties seen b known l e =
    or_true (same_label l b) (list_any (same_label l) seen)
    (λ s. subst (λ (x : Label). list_any (same_label x) seen ≡ true) (sym (same_is l b s)) known)

any_last : (l b : Label) (seen : List Label)
    → list_any (same_label l) (b ∷ seen) ≡ list_any (same_label l) (seen ++ b ∷ [])
any_last l b [] = refl
any_last l b (m ∷ seen) =
    swap (same_label l b) (same_label l m) (list_any (same_label l) seen)
    ∙ ap (λ x. same_label l m || x) (any_last l b seen)
  where
    swap : (x y z : Bool) → (x || (y || z)) ≡ (y || (x || z))
    swap true true z = refl
    swap true false z = refl
    swap false y z = refl

-- it doesn't matter where one is kept
pub last_same : (duties seen : List Label) (b : Label) → TellSame duties (b ∷ seen) (seen ++ b ∷ [])
last_same duties seen b l e = any_last l b seen

-- ---- one block more

module _ (duties seen : List Label) (b : Block) (bs : List Block) (lines next whole : List ReportLine)
    (e : lines ++ map reported_line (script_lines duties seen (b ∷ bs)) ≡ whole) where
  pub unknown_next : list_any (same_label b.label) duties ≡ false
      → next ≡ lines ++ reported_line (ScriptFault b.line UnknownDuty) ∷ []
      → next ++ map reported_line (script_lines duties seen bs) ≡ whole
  unknown_next unknown put =
      let rest = script_lines duties seen bs in
      let step : script_lines duties seen (b ∷ bs) ≡ ScriptFault b.line UnknownDuty ∷ rest =
      ap (λ k. cond (not k) (ScriptFault b.line UnknownDuty ∷ script_lines duties (b.label ∷ seen) bs)
      (cond (list_any (same_label b.label) seen)
      (ScriptFault b.line DutyTwice ∷ script_lines duties (b.label ∷ seen) bs)
      (script_lines duties (b.label ∷ seen) bs))) unknown
      ∙ ap (λ xs. ScriptFault b.line UnknownDuty ∷ xs)
      (same_lines duties (b.label ∷ seen) seen bs (unknown_same duties seen b.label unknown)) in
      ap (λ x. x ++ map reported_line rest) put
      ∙ append_assoc lines (reported_line (ScriptFault b.line UnknownDuty) ∷ []) (map reported_line rest)
      ∙ sym (ap (λ xs. lines ++ map reported_line xs) step) ∙ e

  pub twice_next : list_any (same_label b.label) duties ≡ true → list_any (same_label b.label) seen ≡ true
      → next ≡ lines ++ reported_line (ScriptFault b.line DutyTwice) ∷ []
      → next ++ map reported_line (script_lines duties seen bs) ≡ whole
  twice_next known twice put =
      let rest = script_lines duties seen bs in
      let more = script_lines duties (b.label ∷ seen) bs in
      let step : script_lines duties seen (b ∷ bs) ≡ ScriptFault b.line DutyTwice ∷ rest =
      ap (λ k. cond (not k) (ScriptFault b.line UnknownDuty ∷ more)
      (cond (list_any (same_label b.label) seen) (ScriptFault b.line DutyTwice ∷ more) more)) known
      ∙ ap (λ k. cond k (ScriptFault b.line DutyTwice ∷ more) more) twice
      ∙ ap (λ xs. ScriptFault b.line DutyTwice ∷ xs)
      (same_lines duties (b.label ∷ seen) seen bs (twice_same duties seen b.label twice)) in
      ap (λ x. x ++ map reported_line rest) put
      ∙ append_assoc lines (reported_line (ScriptFault b.line DutyTwice) ∷ []) (map reported_line rest)
      ∙ sym (ap (λ xs. lines ++ map reported_line xs) step) ∙ e

  pub first_next : list_any (same_label b.label) duties ≡ true → list_any (same_label b.label) seen ≡ false
      → lines ++ map reported_line (script_lines duties (seen ++ b.label ∷ []) bs) ≡ whole
  first_next known unknown =
      let more = script_lines duties (b.label ∷ seen) bs in
      let step : script_lines duties seen (b ∷ bs) ≡ script_lines duties (seen ++ b.label ∷ []) bs =
      ap (λ k. cond (not k) (ScriptFault b.line UnknownDuty ∷ more)
      (cond (list_any (same_label b.label) seen) (ScriptFault b.line DutyTwice ∷ more) more)) known
      ∙ ap (λ k. cond k (ScriptFault b.line DutyTwice ∷ more) more) unknown
      ∙ same_lines duties (b.label ∷ seen) (seen ++ b.label ∷ []) bs (last_same duties seen b.label) in
      sym (ap (λ xs. lines ++ map reported_line xs) step) ∙ e

-- ---- in turn

-- what is left begins with the block of the next place
pub drop_item : (bs : List Block) (i : ℕ) (b : Block) → i < length bs → b ≡ get_or bs i b
    → drop i bs ≡ b ∷ drop (i + 1) bs
drop_item bs i b lt e = drop_more bs i b lt ∙ ap (λ x. x ∷ drop (i + 1) bs) (sym e)

-- what holds of an answer that isn't refused
pub on_ok : {A B : Type 0} {X E : Type 0} (r : Result X E) → (A → B) → OnOk r A → OnOk r B
on_ok (Ok x) f h = f h
on_ok (Err x) f h = tt
