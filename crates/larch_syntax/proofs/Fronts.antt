-- What taking a token makes of the answer.
use Rattle.std.proofs.Common.{◌≡◌, ◌+◌, ◌<◌, ℕ, suc, length, drop, get_or, Bool, true, false, Option, Some, None}
use Rattle.std.proofs.Common.{IfSome, Result, Ok, Err, List, [], ◌∷◌, ◌∙◌, refl, sym, ap, subst, arith}
use Rattle.std.specs.Prelude.{unwrap_or}
use Rattle.std.proofs.lemmas.List.{drop_more}
use Rattle.larch_base.specs.Answering.{Answers}
use Rattle.larch_base.specs.declared.fault.Fault.{Fault}
use Rattle.larch_base.specs.declared.position.Pos.{Pos}
use Rattle.larch_grammar.specs.Answers.{trait_from}
use Rattle.larch_grammar.specs.Refused.{position_of_token}
use Rattle.larch_grammar.specs.Machine.{Taking, as_equation, as_reference, as_trait, final, step_at}
use Rattle.larch_grammar.specs.declared.machine.Naming.TheVariants.{Lone}
use Rattle.larch_grammar.specs.declared.machine.State.{State}
use Rattle.larch_grammar.specs.declared.machine.State.TheVariants.{NeedEquation, NeedForm}
use Rattle.larch_grammar.specs.declared.machine.Waiting.TheVariants.{Alone}
use Rattle.larch_grammar.specs.declared.machine.Whole.{Whole}
use Rattle.larch_lexer.specs.TokenList.{TokenList}
use Rattle.larch_lexer.specs.declared.token.Token.{Token}
use Rattle.larch_grammar_law.specs.Answer.{at_end, at_front, at_mark, at_step, front, front_at, front_on, go_on}
use Rattle.larch_grammar_law.specs.Mark.{admission}
use Rattle.larch_grammar_law.specs.declared.mark.Flaw.{Flaw}
use Rattle.larch_grammar_law.specs.declared.mark.Flaw.TheVariants as flaw
use Rattle.larch_raw.specs.declared.declared.RawOpRef.{RawOpRef}
use Rattle.larch_raw.specs.declared.equation.RawEquation.{RawEquation}
use Rattle.larch_raw.specs.declared.equation.RawTrait.{RawTrait}
use Rattle.larch_syntax_heads.specs.Outcome.{outcome}
use Rattle.larch_syntax.specs.Read.{count_token, fault_at, from_there, front_after, leads_to, longest, reference_of}
use Rattle.larch_syntax.specs.Read.{taken_at, term_of, with_fault}
use Rattle.larch_syntax.specs.Refusal.{fault_of, cause}
use Rattle.larch_syntax.specs.declared.read.Front.{Front}
use Rattle.larch_syntax.specs.declared.read.Taken.{Taken}
use Rattle.larch_syntax.specs.declared.read.Taken.TheVariants.{On, Stops}
use Rattle.larch_syntax.specs.declared.refusal.SyntaxRefusal.{SyntaxRefusal}

-- how a trait goes on behind a token, by what the token does
abbrev trait_behind : Pos → Result Taken Fault → (ℕ → State → Result RawTrait Fault) → Result RawTrait Fault
trait_behind pos (Ok (On more after)) further = further more after
trait_behind pos (Ok (Stops whole)) further = Err (fault_of (flaw.Syntax, pos))
trait_behind pos (Err fault) further = Err fault

trait_marked : (pos : Pos) (after : State) (r : Result ℕ Flaw) (further : ℕ → State → Result RawTrait (Flaw × Pos))
    → with_fault (go_on (at_mark pos after r) further)
    ≡ trait_behind pos (leads_to after (fault_at pos r)) (λ m a. with_fault (further m a))
trait_marked pos after (Ok more) further = refl
trait_marked pos after (Err f) further = refl

trait_taken : (pos : Pos) (heads : ℕ) (whole : Option Whole) (s : Taking)
    (further : ℕ → State → Result RawTrait (Flaw × Pos))
    → with_fault (go_on (at_step pos heads s) further)
    ≡ trait_behind pos (count_token pos heads (outcome s whole)) (λ m a. with_fault (further m a))
trait_taken pos heads whole None further = refl
trait_taken pos heads whole (Some step) further = trait_marked pos step.1 (admission heads step.0) further

trait_step : (g : Bool) (end : Pos) (heads : ℕ) (state : State) (token : Token) (rest : List Token)
    (t : Result Taken Fault) → taken_at g heads state token ≡ t
    → with_fault (trait_from g end heads state (token ∷ rest))
    ≡ trait_behind token.pos t (λ m a. with_fault (trait_from g end m a rest))
trait_step g end heads state token rest t e =
    trait_taken token.pos heads (final state) (step_at g true state token) (λ m a. trait_from g end m a rest)
    ∙ ap (λ x. trait_behind token.pos x (λ m a. with_fault (trait_from g end m a rest))) e

-- what is true of each fault is true of the one that is told
pub told_on : (o : Option Fault) (P Q : Fault → Type 0) → ((f : Fault) → P f → Q f) → IfSome o P → IfSome o Q
told_on None P Q k h = tt
told_on (Some f) P Q k h = k f h

-- the tree at the longest front of these tokens from a state on, which is a part of the whole that ends there
abbrev pub front_by : {T : Type 0} → (Option Whole → Option T) → Pos → ℕ → ℕ → State → List Token
    → Result (T × ℕ) (Flaw × Pos)
front_by part end heads taken state tokens =
    front (step_at false true) (λ n. part (final n)) position_of_token end heads taken state tokens

-- how a tree at a front goes on behind a token, so many being before it
abbrev front_behind : {T : Type 0} → (Option Whole → Option T) → Pos → ℕ → Result Taken Fault
    → (ℕ → State → Result (T × ℕ) Fault) → Result (T × ℕ) Fault
front_behind part pos taken (Ok (On more after)) further = further more after
front_behind part pos taken (Ok (Stops whole)) further = with_fault (at_front pos taken (part whole))
front_behind part pos taken (Err fault) further = Err fault

front_marked : {T : Type 0} (part : Option Whole → Option T) (pos : Pos) (taken : ℕ) (after : State) (r : Result ℕ Flaw)
    (further : ℕ → State → Result (T × ℕ) (Flaw × Pos))
    → with_fault (front_on (at_mark pos after r) further)
    ≡ front_behind part pos taken (leads_to after (fault_at pos r)) (λ m a. with_fault (further m a))
front_marked part pos taken after (Ok more) further = refl
front_marked part pos taken after (Err f) further = refl

front_taken : {T : Type 0} (part : Option Whole → Option T) (pos : Pos) (heads taken : ℕ) (whole : Option Whole)
    (s : Taking) (further : ℕ → State → Result (T × ℕ) (Flaw × Pos))
    → with_fault (front_at pos heads taken (part whole) s further)
    ≡ front_behind part pos taken (count_token pos heads (outcome s whole)) (λ m a. with_fault (further m a))
front_taken part pos heads taken whole None further = refl
front_taken part pos heads taken whole (Some step) further =
    front_marked part pos taken step.1 (admission heads step.0) further

front_step : {T : Type 0} (part : Option Whole → Option T) (end : Pos) (heads taken : ℕ) (state : State) (token : Token)
    (rest : List Token) (t : Result Taken Fault) → taken_at false heads state token ≡ t
    → with_fault (front_by part end heads taken state (token ∷ rest))
    ≡ front_behind part token.pos taken t (λ m a. with_fault (front_by part end m (suc taken) a rest))
front_step part end heads taken state token rest t e =
    front_taken part token.pos heads taken (final state) (step_at false true state token)
    (λ m a. front_by part end m (suc taken) a rest)
    ∙ ap (λ x. front_behind part token.pos taken x (λ m a. with_fault (front_by part end m (suc taken) a rest))) e

-- the tokens from this one on
pub cut_at : (ts : List Token) (i : ℕ) (token : Token) → i < length ts → get_or ts i token ≡ token
    → drop i ts ≡ token ∷ drop (i + 1) ts
cut_at ts i token within here = drop_more ts i token within ∙ ap (λ t. t ∷ drop (i + 1) ts) here

-- a front goes on after a token that is taken
pub goes_on : (g : Bool) (heads more taken : ℕ) (state after : State) (token : Token) (rest ts : List Token)
    (answer : Result Front Fault)
    → taken_at g heads state token ≡ Ok (On more after) → ts ≡ token ∷ rest → longest g heads taken state ts ≡ answer
    → longest g more (taken + 1) after rest ≡ answer
goes_on g heads more taken state after token rest ts answer e l h =
    let next : taken + 1 ≡ suc taken = omega arith in
    ap (λ n. longest g more n after rest) next
    ∙ sym (ap (λ t. front_after token.pos taken t (λ m a. longest g m (suc taken) a rest)) e)
    ∙ ap (longest g heads taken state) (sym l) ∙ h

-- it ends before a token that no step takes
pub stops : (g : Bool) (heads taken : ℕ) (state : State) (whole : Option Whole) (token : Token) (rest ts : List Token)
    (answer : Result Front Fault)
    → taken_at g heads state token ≡ Ok (Stops whole) → ts ≡ token ∷ rest → longest g heads taken state ts ≡ answer
    → answer ≡ Ok (record { whole = whole; taken = taken; next = Some token.pos })
stops g heads taken state whole token rest ts answer e l h =
    sym h ∙ ap (longest g heads taken state) l
    ∙ ap (λ t. front_after token.pos taken t (λ m a. longest g m (suc taken) a rest)) e

-- it is refused by what is counted at a token
pub refused : (g : Bool) (heads taken : ℕ) (state : State) (refusal : SyntaxRefusal) (token : Token)
    (rest ts : List Token) (answer : Result Front Fault)
    → IfSome (cause refusal) (λ fault. taken_at g heads state token ≡ Err fault) → ts ≡ token ∷ rest
    → longest g heads taken state ts ≡ answer → IfSome (cause refusal) (λ fault. answer ≡ Err fault)
refused g heads taken state refusal token rest ts answer e l h =
    told_on (cause refusal) (λ fault. taken_at g heads state token ≡ Err fault) (λ fault. answer ≡ Err fault)
    (λ fault q. sym h ∙ ap (longest g heads taken state) l
    ∙ ap (λ t. front_after token.pos taken t (λ m a. longest g m (suc taken) a rest)) q) e

-- the tree at a front, or SYNTAX after it
abbrev pub tree_of : {T : Type 0} → (Option Whole → Option T) → Pos → Result Front Fault → Result (T × ℕ) Fault
tree_of part end (Ok found) = with_fault (at_front (unwrap_or found.next end) found.taken (part found.whole))
tree_of part end (Err fault) = Err fault

tree_after : {T : Type 0} (part : Option Whole → Option T) (end pos : Pos) (taken : ℕ) (t : Result Taken Fault)
    (trees : ℕ → State → Result (T × ℕ) Fault) (fronts : ℕ → State → Result Front Fault)
    → ((m : ℕ) (a : State) → trees m a ≡ tree_of part end (fronts m a))
    → front_behind part pos taken t trees ≡ tree_of part end (front_after pos taken t fronts)
tree_after part end pos taken (Ok (On more after)) trees fronts k = k more after
tree_after part end pos taken (Ok (Stops whole)) trees fronts k = refl
tree_after part end pos taken (Err fault) trees fronts k = refl

-- the tree is that of the longest front
pub front_tree : {T : Type 0} (part : Option Whole → Option T) (end : Pos) (heads taken : ℕ) (state : State)
    (ts : List Token)
    → with_fault (front_by part end heads taken state ts) ≡ tree_of part end (longest false heads taken state ts)
front_tree part end heads taken state [] = refl
front_tree part end heads taken state (token ∷ rest) =
    front_step part end heads taken state token rest (taken_at false heads state token) refl
    ∙ tree_after part end token.pos taken (taken_at false heads state token)
    (λ m a. with_fault (front_by part end m (suc taken) a rest))
    (λ m a. longest false m (suc taken) a rest) (λ m a. front_tree part end m (suc taken) a rest)

-- the trait that ends at a front, if no token is after it
abbrev pub trait_at : Pos → Option Pos → Option Whole → Result RawTrait Fault
trait_at end None whole = with_fault (at_end end (as_trait whole))
trait_at end (Some pos) whole = Err (fault_of (flaw.Syntax, pos))

abbrev pub trait_of_front : Pos → Result Front Fault → Result RawTrait Fault
trait_of_front end (Ok found) = trait_at end found.next found.whole
trait_of_front end (Err fault) = Err fault

trait_after : (end pos : Pos) (taken : ℕ) (t : Result Taken Fault)
    (traits : ℕ → State → Result RawTrait Fault) (fronts : ℕ → State → Result Front Fault)
    → ((m : ℕ) (a : State) → traits m a ≡ trait_of_front end (fronts m a))
    → trait_behind pos t traits ≡ trait_of_front end (front_after pos taken t fronts)
trait_after end pos taken (Ok (On more after)) traits fronts k = k more after
trait_after end pos taken (Ok (Stops whole)) traits fronts k = refl
trait_after end pos taken (Err fault) traits fronts k = refl

-- the trait is that of the longest front
pub front_trait : (g : Bool) (end : Pos) (heads taken : ℕ) (state : State) (ts : List Token)
    → with_fault (trait_from g end heads state ts) ≡ trait_of_front end (longest g heads taken state ts)
front_trait g end heads taken state [] = refl
front_trait g end heads taken state (token ∷ rest) =
    trait_step g end heads state token rest (taken_at g heads state token) refl
    ∙ trait_after end token.pos taken (taken_at g heads state token) (λ m a. with_fault (trait_from g end m a rest))
    (λ m a. longest g m (suc taken) a rest) (λ m a. front_trait g end m (suc taken) a rest)

-- what is told of the longest front is told of the tree
pub tree_refused : {T : Type 0} (part : Option Whole → Option T) (end : Pos) (from : ℕ) (state : State)
    (ts : List Token) (refusal : SyntaxRefusal)
    → IfSome (cause refusal) (λ fault. longest false 0 0 state ts ≡ Err fault)
    → IfSome (cause refusal) (λ fault. from_there from (with_fault (front_by part end 0 0 state ts)) ≡ Err fault)
tree_refused part end from state ts refusal h =
    told_on (cause refusal) (λ fault. longest false 0 0 state ts ≡ Err fault)
    (λ fault. from_there from (with_fault (front_by part end 0 0 state ts)) ≡ Err fault)
    (λ fault q. ap (from_there from) (front_tree part end 0 0 state ts ∙ ap (tree_of part end) q)) h

-- the tree at the longest front is the one that is read
pub tree_read : {T : Type 0} (part : Option Whole → Option T) (end : Pos) (from : ℕ) (state : State) (ts : List Token)
    (found : Front)
    → longest false 0 0 state ts ≡ Ok found
    → from_there from (with_fault (at_front (unwrap_or found.next end) found.taken (part found.whole)))
    ≡ from_there from (with_fault (front_by part end 0 0 state ts))
tree_read part end from state ts found h =
    sym (ap (from_there from) (front_tree part end 0 0 state ts ∙ ap (tree_of part end) h))

-- what is told of the longest front is told of the trait
pub trait_refused : (g : Bool) (end : Pos) (state : State) (ts : List Token) (refusal : SyntaxRefusal)
    → IfSome (cause refusal) (λ fault. longest g 0 0 state ts ≡ Err fault)
    → IfSome (cause refusal) (λ fault. with_fault (trait_from g end 0 state ts) ≡ Err fault)
trait_refused g end state ts refusal h =
    told_on (cause refusal) (λ fault. longest g 0 0 state ts ≡ Err fault)
    (λ fault. with_fault (trait_from g end 0 state ts) ≡ Err fault)
    (λ fault q. front_trait g end 0 0 state ts ∙ ap (trait_of_front end) q) h

-- the trait at the longest front is the one that is read
pub trait_read : (g : Bool) (end : Pos) (state : State) (ts : List Token) (found : Front)
    → longest g 0 0 state ts ≡ Ok found
    → with_fault (trait_from g end 0 state ts) ≡ trait_at end found.next found.whole
trait_read g end state ts found h = front_trait g end 0 0 state ts ∙ ap (trait_of_front end) h

-- what is told of the tree at the longest front is told of the equation
pub term_told : (tokens : TokenList) (from : ℕ) (found : Front) (p : Pos) (t : Option RawEquation)
    (r : Result (RawEquation × ℕ) SyntaxRefusal)
    → longest false 0 0 (NeedEquation Alone) (drop from tokens.tokens) ≡ Ok found → p ≡ unwrap_or found.next tokens.end
    → t ≡ as_equation found.whole
    → Answers cause r (from_there from (with_fault (at_front p found.taken t))) → Answers cause r (term_of tokens from)
term_told tokens from found p t r h a b =
    subst (Answers cause r)
    (ap (λ q. from_there from (with_fault (at_front q found.taken t))) a
    ∙ ap (λ u. from_there from (with_fault (at_front (unwrap_or found.next tokens.end) found.taken u))) b
    ∙ tree_read as_equation tokens.end from (NeedEquation Alone) (drop from tokens.tokens) found h)

-- what is told of the tree at the longest front is told of the reference
pub reference_told : (tokens : TokenList) (from : ℕ) (found : Front) (p : Pos) (t : Option RawOpRef)
    (r : Result (RawOpRef × ℕ) SyntaxRefusal)
    → longest false 0 0 (NeedForm Lone) (drop from tokens.tokens) ≡ Ok found → p ≡ unwrap_or found.next tokens.end
    → t ≡ as_reference found.whole
    → Answers cause r (from_there from (with_fault (at_front p found.taken t)))
    → Answers cause r (reference_of tokens from)
reference_told tokens from found p t r h a b =
    subst (Answers cause r)
    (ap (λ q. from_there from (with_fault (at_front q found.taken t))) a
    ∙ ap (λ u. from_there from (with_fault (at_front (unwrap_or found.next tokens.end) found.taken u))) b
    ∙ tree_read as_reference tokens.end from (NeedForm Lone) (drop from tokens.tokens) found h)
