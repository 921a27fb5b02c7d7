-- Of the two readings of a text the one that is answered.
use Rattle.std.proofs.Common.{◌≡◌, Bool, true, false, Option, Some, None, IfSome, Result, Ok, Err, refl, ap, ◌∙◌}
use Rattle.larch_base.specs.Answering.{Answers}
use Rattle.larch_base.specs.declared.position.Pos.{Pos}
use Rattle.larch_grammar_law.specs.declared.mark.Flaw.{Flaw}
use Rattle.larch_grammar_law.specs.declared.mark.Flaw.TheVariants as flaw
use Rattle.larch_lexer.specs.TokenList.{TokenList}
use Rattle.larch_raw.specs.declared.equation.RawTrait.{RawTrait}
use Rattle.larch_grammar.specs.Answers.{either, trait_by}
use Rattle.larch_grammar.specs.Refused.{which}
use Rattle.larch_syntax.specs.Read.{trait_of, with_fault}
use Rattle.larch_syntax.specs.Refusal.{fault_of, flaw_told, cause}
use Rattle.larch_syntax.specs.Refused.{of_two, position, refused}
use Rattle.larch_syntax.specs.declared.refusal.SyntaxRefusal.{SyntaxRefusal}
use Rattle.larch_syntax.specs.declared.refusal.SyntaxRefusal.TheVariants.{Syntax, Mixed, Deep, Large, Memory}
use Rattle.larch_syntax.proofs.Told.{err_back, ok_back}

-- an answer is the flaw that a refusal tells
abbrev Refuses : Option (Flaw × Pos) → Result RawTrait (Flaw × Pos) → Type 0
Refuses None answer = Unit {0}
Refuses (Some found) answer = answer ≡ Err found

reading_refused : (g : Bool) (tokens : TokenList) (refusal : SyntaxRefusal)
    → IfSome (cause refusal) (λ fault. with_fault (trait_by g tokens) ≡ Err fault)
    → Refuses (flaw_told refusal) (trait_by g tokens)
reading_refused g tokens (Syntax pos) e = err_back (trait_by g tokens) (flaw.Syntax, pos) e
reading_refused g tokens (Mixed pos) e = err_back (trait_by g tokens) (flaw.Mixed, pos) e
reading_refused g tokens (Deep pos) e = err_back (trait_by g tokens) (flaw.Deep, pos) e
reading_refused g tokens (Large pos) e = err_back (trait_by g tokens) (flaw.Large, pos) e
reading_refused g tokens Memory e = tt

-- the trait where an item follows `implies`
pub item_read : (tokens : TokenList) (raw : RawTrait) → with_fault (trait_by false tokens) ≡ Ok raw
    → trait_of tokens ≡ Ok raw
item_read tokens raw e =
    ap (λ x. with_fault (either tokens x (trait_by true tokens))) (ok_back (trait_by false tokens) raw e)

either_list : (tokens : TokenList) (item : Option (Flaw × Pos)) (raw : RawTrait) → Refuses item (trait_by false tokens)
    → (found : Flaw × Pos) → item ≡ Some found
    → trait_by true tokens ≡ Ok raw → trait_of tokens ≡ Ok raw
either_list tokens None raw r found s f = let n : ⊥ = cc in absurd n
either_list tokens (Some other) raw r found s f =
    ap (λ x. with_fault (either tokens x (trait_by true tokens))) r
    ∙ ap (λ x. with_fault (either tokens (Err other) x)) f

-- what is read so, and not refused
pub first_read : (tokens : TokenList) (r : Result RawTrait SyntaxRefusal) → ((e : SyntaxRefusal) → r ≡ Err e → ⊥)
    → Answers cause r (with_fault (trait_by false tokens)) → Answers cause r (trait_of tokens)
first_read tokens (Ok raw) n e = item_read tokens raw e
first_read tokens (Err refusal) n e = absurd (n refusal refl)

-- the trait where references follow it
pub list_read : (tokens : TokenList) (item : SyntaxRefusal) (p : Pos) (raw : RawTrait) → position item ≡ Some p
    → IfSome (cause item) (λ fault. with_fault (trait_by false tokens) ≡ Err fault)
    → with_fault (trait_by true tokens) ≡ Ok raw → trait_of tokens ≡ Ok raw
list_read tokens (Syntax q) p raw d r e =
    either_list tokens (Some (flaw.Syntax, q)) raw (reading_refused false tokens (Syntax q) r) (flaw.Syntax, q) refl
    (ok_back (trait_by true tokens) raw e)
list_read tokens (Mixed q) p raw d r e =
    either_list tokens (Some (flaw.Mixed, q)) raw (reading_refused false tokens (Mixed q) r) (flaw.Mixed, q) refl
    (ok_back (trait_by true tokens) raw e)
list_read tokens (Deep q) p raw d r e =
    either_list tokens (Some (flaw.Deep, q)) raw (reading_refused false tokens (Deep q) r) (flaw.Deep, q) refl
    (ok_back (trait_by true tokens) raw e)
list_read tokens (Large q) p raw d r e =
    either_list tokens (Some (flaw.Large, q)) raw (reading_refused false tokens (Large q) r) (flaw.Large, q) refl
    (ok_back (trait_by true tokens) raw e)
list_read tokens Memory p raw d r e = let n : ⊥ = cc in absurd n

-- what is read so, and not refused
pub second_read : (tokens : TokenList) (item : SyntaxRefusal) (p : Pos) (r : Result RawTrait SyntaxRefusal)
    → position item ≡ Some p
    → IfSome (cause item) (λ fault. with_fault (trait_by false tokens) ≡ Err fault)
    → ((e : SyntaxRefusal) → r ≡ Err e → ⊥)
    → Answers cause r (with_fault (trait_by true tokens)) → Answers cause r (trait_of tokens)
second_read tokens item p (Ok raw) d h n e = list_read tokens item p raw d h e
second_read tokens item p (Err refusal) d h n e = absurd (n refusal refl)

flaws_refused : (tokens : TokenList) (item list : Option (Flaw × Pos)) (found : Flaw × Pos)
    → Refuses item (trait_by false tokens) → Refuses list (trait_by true tokens)
    → of_two tokens item list ≡ Some found → trait_of tokens ≡ Err (fault_of found)
flaws_refused tokens None list found e f r = let n : ⊥ = cc in absurd n
flaws_refused tokens (Some first) None found e f r = let n : ⊥ = cc in absurd n
flaws_refused tokens (Some first) (Some second) found e f r =
    let q : which tokens first second ≡ found = cc in
    ap (λ x. with_fault (either tokens x (trait_by true tokens))) e
    ∙ ap (λ x. with_fault (either tokens (Err first) x)) f ∙ ap (λ x. Err (fault_of x)) q

told_refused : (tokens : TokenList) (item list : SyntaxRefusal) (found : Flaw × Pos)
    → IfSome (cause item) (λ fault. with_fault (trait_by false tokens) ≡ Err fault)
    → IfSome (cause list) (λ fault. with_fault (trait_by true tokens) ≡ Err fault)
    → of_two tokens (flaw_told item) (flaw_told list) ≡ Some found → trait_of tokens ≡ Err (fault_of found)
told_refused tokens item list found e f r =
    flaws_refused tokens (flaw_told item) (flaw_told list) found (reading_refused false tokens item e)
    (reading_refused true tokens list f) r

-- the refusal that is answered where both readings are refused
pub both_refused : (tokens : TokenList) (item list result : SyntaxRefusal)
    → IfSome (cause item) (λ fault. with_fault (trait_by false tokens) ≡ Err fault)
    → IfSome (cause list) (λ fault. with_fault (trait_by true tokens) ≡ Err fault)
    → refused tokens item list result → IfSome (cause result) (λ fault. trait_of tokens ≡ Err fault)
both_refused tokens item list (Syntax pos) e f r = told_refused tokens item list (flaw.Syntax, pos) e f r
both_refused tokens item list (Mixed pos) e f r = told_refused tokens item list (flaw.Mixed, pos) e f r
both_refused tokens item list (Deep pos) e f r = told_refused tokens item list (flaw.Deep, pos) e f r
both_refused tokens item list (Large pos) e f r = told_refused tokens item list (flaw.Large, pos) e f r
both_refused tokens item list Memory e f r = tt
