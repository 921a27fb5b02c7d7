-- Reading answers exactly what the grammar says.
use Rattle.std.proofs.Common.{◌≡◌, ◌↔◌, ℕ, Bool, true, false, Option, Some, None, Result, Ok, Err, List, ◌∷◌, map, drop}
use Rattle.std.proofs.Common.{refl, subst}
use Rattle.larch_base.specs.Position.{start_of_text}
use Rattle.larch_base.specs.declared.position.Pos.{Pos}
use Rattle.larch_lexer.specs.TokenList.{TokenList}
use Rattle.larch_lexer.specs.declared.token.Token.{Token}
use Rattle.larch_grammar_law.specs.Claims.{Means, MeansFront, Spells}
use Rattle.larch_grammar_law.specs.Answer.{front, look}
use Rattle.larch_grammar_law.specs.Walks.{Accepts, Taken}
use Rattle.larch_grammar_law.specs.declared.mark.Flaw.{Flaw}
use Rattle.larch_grammar_law.specs.declared.mark.Mark.{Mark}
use Rattle.larch_grammar_law.proofs.Embedded as embedded
use Rattle.larch_grammar_law.proofs.Verdict as general
use Rattle.larch_raw.specs.declared.declared.RawOpRef.{RawOpRef}
use Rattle.larch_raw.specs.declared.equation.RawEquation.{RawEquation}
use Rattle.larch_raw.specs.declared.equation.RawTrait.{RawTrait}
use Rattle.larch_grammar.specs.Answers.{Equations, MeansTrait, References, Traits, either, reference_answer}
use Rattle.larch_grammar.specs.Answers.{term_answer, trait_answer, trait_by}
use Rattle.larch_grammar.specs.Refused.{position_of_token}
use Rattle.larch_grammar.specs.Form.{Marked}
use Rattle.larch_grammar.specs.Terminal.{terminal_of}
use Rattle.larch_grammar.specs.Machine.{as_equation, as_reference, as_trait, final, step_at}
use Rattle.larch_grammar.specs.Traits.{as_marked}
use Rattle.larch_grammar.specs.declared.machine.State.{State}
use Rattle.larch_grammar.specs.declared.machine.State.TheVariants.{Start, NeedEquation, NeedForm}
use Rattle.larch_grammar.specs.declared.machine.Naming.TheVariants.{Lone}
use Rattle.larch_grammar.specs.declared.machine.Waiting.TheVariants.{Alone}
use Rattle.larch_grammar.specs.declared.machine.Whole.{Whole}
use Rattle.larch_grammar.specs.declared.machine.Whole.TheVariants as whole
use Rattle.larch_grammar.proofs.Agree.{agree_at, stray_at}
use Rattle.larch_grammar.proofs.Back.{step_back}
use Rattle.larch_grammar.proofs.CompleteTraits.{complete_equation, complete_reference, complete_trait}
use Rattle.larch_grammar.proofs.Ends.{final_fits, some_fit}
use Rattle.larch_grammar.proofs.Fits.{Fits, over_equation, over_reference, over_trait}

-- the traits, the equations and the references among what tokens are read as
abbrev TraitsOf : Bool → Bool → List (Token × Mark) → Whole → Type 0
TraitsOf g = embedded.Through (Traits g) whole.Trait position_of_token start_of_text

abbrev EquationsOf : Bool → List (Token × Mark) → Whole → Type 0
EquationsOf = embedded.Through Equations whole.Equation position_of_token start_of_text

abbrev ReferencesOf : Bool → List (Token × Mark) → Whole → Type 0
ReferencesOf = embedded.Through References whole.Reference position_of_token start_of_text

pub trait_inj : (r t : RawTrait) → whole.Trait r ≡ whole.Trait t → r ≡ t
trait_inj r t e = cc

abbrev FitsAt : Bool → Bool → State → List (Token × Mark) → Whole → Type 0
FitsAt g s n ms z = Fits s n (map (as_marked g) ms) z

seen_back : (g s : Bool) (n : State) (t : Token) (o : Option (Mark × State))
    → Taken o (λ m k. (i : List Marked) (z : Whole) → Fits s k i z → Fits s n ((terminal_of g t, m) ∷ i) z)
    → Taken o (λ m k. (i : List (Token × Mark)) (z : Whole) → FitsAt g s k i z → FitsAt g s n ((t, m) ∷ i) z)
seen_back g s n t None h = tt
seen_back g s n t (Some p) h = λ i z f. h (map (as_marked g) i) z f

back : (g s : Bool) (n : State) (t : Token)
    → Taken (step_at g s n t) (λ m k. (i : List (Token × Mark)) (z : Whole) → FitsAt g s k i z
    → FitsAt g s n ((t, m) ∷ i) z)
back g s n t = seen_back g s n t (step_at g s n t) (step_back s n (terminal_of g t))

trait_complete : (g s : Bool) (i : List (Token × Mark)) (z : Whole) → TraitsOf g s i z
    → Accepts (step_at g s) final Start i z
trait_complete g s i z t = subst (λ x. Accepts (step_at g s) final Start i x) t.2 (complete_trait g s i t.0 t.1)

equation_complete : (s : Bool) (i : List (Token × Mark)) (z : Whole) → EquationsOf s i z
    → Accepts (step_at false s) final (NeedEquation Alone) i z
equation_complete s i z t =
    subst (λ x. Accepts (step_at false s) final (NeedEquation Alone) i x) t.2 (complete_equation s i t.0 t.1)

reference_complete : (s : Bool) (i : List (Token × Mark)) (z : Whole) → ReferencesOf s i z
    → Accepts (step_at false s) final (NeedForm Lone) i z
reference_complete s i z t =
    subst (λ x. Accepts (step_at false s) final (NeedForm Lone) i x) t.2 (complete_reference s i t.0 t.1)

trait_verdict : (g : Bool) (end : Pos) (ts : List Token) (a : Result Whole (Flaw × Pos))
    → (look (step_at g true) final position_of_token end 0 Start ts ≡ a) ↔ Means (TraitsOf g) position_of_token end ts a
trait_verdict g end ts a =
    general.verdict (TraitsOf g) (step_at g) final Start (FitsAt g) (back g) final_fits
    (λ s i z f. over_trait s (map (as_marked g) i) z f) (some_fit g) (trait_complete g) (agree_at g)
    (stray_at g) position_of_token end ts a

equation_verdict : (end : Pos) (ts : List Token) (a : Result (Whole × ℕ) (Flaw × Pos))
    → (front (step_at false true) final position_of_token end 0 0 (NeedEquation Alone) ts ≡ a)
    ↔ MeansFront EquationsOf position_of_token end ts a
equation_verdict end ts a =
    general.front_verdict EquationsOf (step_at false) final (NeedEquation Alone) (FitsAt false) (back false) final_fits
    (λ s i z f. over_equation s (map (as_marked false) i) z f) (some_fit false) equation_complete (agree_at false)
    (stray_at false) position_of_token end ts a

reference_verdict : (end : Pos) (ts : List Token) (a : Result (Whole × ℕ) (Flaw × Pos))
    → (front (step_at false true) final position_of_token end 0 0 (NeedForm Lone) ts ≡ a)
    ↔ MeansFront ReferencesOf position_of_token end ts a
reference_verdict end ts a =
    general.front_verdict ReferencesOf (step_at false) final (NeedForm Lone) (FitsAt false) (back false) final_fits
    (λ s i z f. over_reference s (map (as_marked false) i) z f) (some_fit false) reference_complete (agree_at false)
    (stray_at false) position_of_token end ts a

-- the trait or the flaw of a token list where references follow `implies` or not is what the grammar says
pub reading_law : (g : Bool) (tokens : TokenList) (a : Result RawTrait (Flaw × Pos))
    → (trait_by g tokens ≡ a) ↔ Means (Traits g) position_of_token tokens.end tokens.tokens a
reading_law g tokens a =
    embedded.embedded_verdict (Traits g) whole.Trait position_of_token tokens.end (step_at g true) final as_trait refl
    (λ t. refl) tokens.tokens 0 Start (λ b. trait_verdict g tokens.end tokens.tokens b) a

-- of both answers
both : (tokens : TokenList) (x y a : Result RawTrait (Flaw × Pos)) → trait_by false tokens ≡ x
    → trait_by true tokens ≡ y → either tokens x y ≡ a → MeansTrait tokens a
both tokens (Ok raw) y a p q e = subst (MeansTrait tokens) e (false, (reading_law false tokens (Ok raw)).0 p)
both tokens (Err item) (Ok raw) a p q e = subst (MeansTrait tokens) e (true, (reading_law true tokens (Ok raw)).0 q)
both tokens (Err item) (Err list) a p q e =
    subst (MeansTrait tokens) e (
      item,
      list,
      (reading_law false tokens (Err item)).0 p,
      (reading_law true tokens (Err list)).0 q,
      refl,
    )

-- the trait or the flaw of a token list is what the grammar says
pub trait_law : (tokens : TokenList) (a : Result RawTrait (Flaw × Pos)) → trait_answer tokens ≡ a → MeansTrait tokens a
trait_law tokens a e = both tokens (trait_by false tokens) (trait_by true tokens) a refl refl e

-- the same of the longest front that is an equation
pub term_law : (tokens : TokenList) (from : ℕ) (a : Result (RawEquation × ℕ) (Flaw × Pos))
    → (term_answer tokens from ≡ a) ↔ MeansFront Equations position_of_token tokens.end (drop from tokens.tokens) a
term_law tokens from a =
    embedded.embedded_front Equations whole.Equation position_of_token tokens.end
    (step_at false true) final as_equation refl (λ t. refl) (drop from tokens.tokens) 0 0 (NeedEquation Alone)
    (λ b. equation_verdict tokens.end (drop from tokens.tokens) b) a

-- the same of the longest front that is a reference to operators
pub reference_law : (tokens : TokenList) (from : ℕ) (a : Result (RawOpRef × ℕ) (Flaw × Pos))
    → (reference_answer tokens from ≡ a)
    ↔ MeansFront References position_of_token tokens.end (drop from tokens.tokens) a
reference_law tokens from a =
    embedded.embedded_front References whole.Reference position_of_token tokens.end
    (step_at false true) final as_reference refl (λ t. refl) (drop from tokens.tokens) 0 0 (NeedForm Lone)
    (λ b. reference_verdict tokens.end (drop from tokens.tokens) b) a

-- a token list has at most one raw trait, where references follow `implies`, and where they don't
pub one_trait : (g : Bool) (ts : List Token) (y z : RawTrait) → Spells (Traits g) ts y → Spells (Traits g) ts z → y ≡ z
one_trait g ts y z c d =
    let e : whole.Trait y ≡ whole.Trait z = general.one_tree (TraitsOf g) (step_at g) final Start (FitsAt g)
    (back g) final_fits (λ s i w f. over_trait s (map (as_marked g) i) w f) (some_fit g) (trait_complete g)
    (agree_at g) (stray_at g) position_of_token start_of_text ts (whole.Trait y) (whole.Trait z)
    (c.0, (y, c.1, refl), c.2) (d.0, (z, d.1, refl), d.2) in
    trait_inj y z e
