-- Of two refusals the one that stands.
use Rattle.std.proofs.Common.{◌≡◌, Bool, true, false, cond, Option, Some, IfSome, refl, sym, ap, subst, ◌∙◌}
use Rattle.larch_base.specs.declared.position.Pos.{Pos}
use Rattle.larch_grammar_law.specs.declared.mark.Flaw.{Flaw}
use Rattle.larch_grammar_law.specs.declared.mark.Flaw.TheVariants as flaw
use Rattle.larch_lexer.specs.TokenList.{TokenList}
use Rattle.larch_grammar.specs.Refused.{earlier, is_counted, reaches, which}
use Rattle.larch_syntax.specs.Refusal.{flaw_told}
use Rattle.larch_syntax.specs.Refused.{counted, of_two, position, refused}
use Rattle.larch_syntax.specs.declared.refusal.SyntaxRefusal.{SyntaxRefusal}
use Rattle.larch_syntax.specs.declared.refusal.SyntaxRefusal.TheVariants.{Syntax, Mixed, Deep, Large, Memory}

-- a refusal with a position tells a flaw there, which is counted where the refusal is
abbrev TellsAt : SyntaxRefusal → Pos → Type 0
TellsAt r p = (f : Flaw) × (flaw_told r ≡ Some (f, p)) × (is_counted f ≡ counted r)

told_there : (q p : Pos) (f : Flaw) → Some q ≡ Some p → ◌≡◌ {A = Option (Flaw × Pos)} (Some (f, q)) (Some (f, p))
told_there q p f e = let s : q ≡ p = cc in ap (λ x. Some (f, x)) s

tells_at : (r : SyntaxRefusal) (p : Pos) → position r ≡ Some p → TellsAt r p
tells_at (Syntax q) p e = (flaw.Syntax, told_there q p flaw.Syntax e, refl)
tells_at (Mixed q) p e = (flaw.Mixed, told_there q p flaw.Mixed e, refl)
tells_at (Deep q) p e = (flaw.Deep, told_there q p flaw.Deep e, refl)
tells_at (Large q) p e = (flaw.Large, told_there q p flaw.Large e, refl)
tells_at Memory p e = let n : ⊥ = cc in absurd n

-- the flaw that stands of two that are told
stands : (tokens : TokenList) (item list result : SyntaxRefusal) (first second found : Flaw × Pos)
    → flaw_told item ≡ Some first → flaw_told list ≡ Some second
    → flaw_told result ≡ Some found → which tokens first second ≡ found → refused tokens item list result
stands tokens item list result first second found d e f w =
    subst (λ o. IfSome o (λ x. of_two tokens (flaw_told item) (flaw_told list) ≡ Some x)) (sym f)
    (ap (λ o. of_two tokens o (flaw_told list)) d ∙ ap (λ o. of_two tokens (Some first) o) e ∙ ap Some w)

-- which of two flaws stands, by what is known of them
by_answers : (tokens : TokenList) (first second : Flaw × Pos) (r c l : Bool) → reaches tokens second.1 ≡ r
    → is_counted first.0 ≡ c → earlier first.1 second.1 ≡ l
    → which tokens first second ≡ cond r second (cond c first (cond l second first))
by_answers tokens first second r c l e f g =
    ap (λ b. cond b second (cond (is_counted first.0) first (cond (earlier first.1 second.1) second first))) e
    ∙ ap (λ b. cond r second (cond b first (cond (earlier first.1 second.1) second first))) f
    ∙ ap (λ b. cond r second (cond c first (cond b second first))) g

-- the one where references follow stands where it isn't inside their parenthesis
pub list_stands : (tokens : TokenList) (item list : SyntaxRefusal) (p q : Pos) → position item ≡ Some p
    → position list ≡ Some q → reaches tokens q ≡ true
    → refused tokens item list list
list_stands tokens item list p q d e h =
    let a = tells_at item p d in let b = tells_at list q e in
    stands tokens item list list (a.0, p) (b.0, q) (b.0, q) a.1 b.1 b.1
    (by_answers tokens (a.0, p) (b.0, q) true (is_counted a.0) (earlier p q) h refl refl)

-- else the one where an item follows stands where it is counted
pub counted_stands : (tokens : TokenList) (item list : SyntaxRefusal) (p q : Pos) → position item ≡ Some p
    → position list ≡ Some q → reaches tokens q ≡ false
    → counted item ≡ true → refused tokens item list item
counted_stands tokens item list p q d e h c =
    let a = tells_at item p d in let b = tells_at list q e in
    stands tokens item list item (a.0, p) (b.0, q) (a.0, p) a.1 b.1 a.1
    (by_answers tokens (a.0, p) (b.0, q) false true (earlier p q) h (a.2 ∙ c) refl)

-- else the later one
pub later_stands : (tokens : TokenList) (item list : SyntaxRefusal) (p q : Pos) → position item ≡ Some p
    → position list ≡ Some q → reaches tokens q ≡ false
    → counted item ≡ false → earlier p q ≡ true → refused tokens item list list
later_stands tokens item list p q d e h c l =
    let a = tells_at item p d in let b = tells_at list q e in
    stands tokens item list list (a.0, p) (b.0, q) (b.0, q) a.1 b.1 b.1
    (by_answers tokens (a.0, p) (b.0, q) false false true h (a.2 ∙ c) l)

-- and where it isn't the later one, the one where an item follows
pub item_stands : (tokens : TokenList) (item list : SyntaxRefusal) (p q : Pos) → position item ≡ Some p
    → position list ≡ Some q → reaches tokens q ≡ false
    → counted item ≡ false → earlier p q ≡ false → refused tokens item list item
item_stands tokens item list p q d e h c l =
    let a = tells_at item p d in let b = tells_at list q e in
    stands tokens item list item (a.0, p) (b.0, q) (a.0, p) a.1 b.1 a.1
    (by_answers tokens (a.0, p) (b.0, q) false false false h (a.2 ∙ c) l)
