-- What calls leave, by what definitions answer.
use Rattle.std.proofs.Common.{◌≡◌, ℕ, ◌+◌, ◌<◌, ◌≤◌, Bool, true, false, cond, Option, Some, None, IfSome, Result, Ok}
use Rattle.std.proofs.Common.{Err, List, [], drop, get_or, length, refl, sym, ◌∙◌, ap, subst}
use Rattle.std.proofs.lemmas.List.{drop_all}
use Rattle.larch_base.specs.declared.code.Code.TheVariants.{Size}
use Rattle.larch_base.specs.declared.fault.Fault.{Fault}
use Rattle.larch_raw.specs.declared.equation.RawTrait.{RawTrait}
use Rattle.larch_raw.specs.declared.shorthand.RawShorthand.{RawShorthand}
use Rattle.larch_term.specs.Operator.{PlainOperator}
use Rattle.larch_term.specs.declared.statement.Statement.{Statement}
use Rattle.larch_flat_statements.specs.SortsMeaningFaults.{fault, unless}
use Rattle.larch_flat_statements.specs.TraitsItemsDeclarations.{declared_operators}
use Rattle.larch_flat_statements.specs.TraitsItemsItems.{items_state}
use Rattle.larch_base_meaning.specs.Steps.{after, all_taken}
use Rattle.larch_flat_statements.proofs.TraitsItemsKept.{ok_inj}
use Rattle.larch_flat_statements.proofs.TraitsItemsSteps.{after_refused, step_refused, step_taken, told_weaker}
use Rattle.larch_flat_statements.specs.ShorthandShorthand.{expand, expand_operators, expansion_of, wrong_in}
use Rattle.larch_flat_statements.specs.ShorthandExpansionExpansion.{Expansion}
use Rattle.larch_flat_statements.specs.FlatMeaningFlat.{FlatTrait, finish_trait, take_items}
use Rattle.larch_flat_statements.specs.FlatMeaningFlat.{take_own, take_rest, take_shorthand}
use Rattle.larch_flat_statements.specs.FlatMeaningFlat.{within}
use Rattle.larch_flat_statements.specs.FlatMeaningGathered.{Gathered, is_too_large, with_asserted, with_operators}
use Rattle.larch_flat_statements.specs.FlatMeaningLaws.{gathered_in}
use Rattle.larch_flat_gathering.specs.Keeping.{Keeps, KeepsAnswer, Gathering}
use Rattle.larch_flat_gathering.specs.Storing.{discharge_stated}
use Rattle.larch_flat_gathering.proofs.Kept.{full_asserted}

-- what a store keeps of an answer is of a value
pub kept_answer : (s : Gathering) (r : Result Gathered Fault) → KeepsAnswer s r
    → (h : Gathered) × (r ≡ Ok h) × Keeps s h
kept_answer s (Ok h) k = (h, refl, k)
kept_answer s (Err f) k = absurd k

answer_kept : (s : Gathering) (r : Result Gathered Fault) (h : Gathered) → r ≡ Ok h → Keeps s h → KeepsAnswer s r
answer_kept s r h e k = subst (KeepsAnswer s) (sym e) k

-- with what an expansion stands for
abbrev with_expansion : Gathered → Expansion → Result Gathered Fault
with_expansion g e = Ok (with_asserted e.statements (with_operators e.operators g))

refused_by : (o : Option Fault) (x : Expansion) (g : Gathered) (f : Fault) → unless o (Ok x.operators) ≡ Err f
    → after (unless o (Ok x)) (with_expansion g) ≡ Err f
refused_by None x g f e = cc
refused_by (Some h) x g f e = cc

stated_refused_by : (o : Option Fault) (x : Expansion) (g : Gathered) (f : Fault)
    → after (unless o (Ok x)) (λ e. Ok e.statements) ≡ Err f → after (unless o (Ok x)) (with_expansion g) ≡ Err f
stated_refused_by None x g f e = cc
stated_refused_by (Some h) x g f e = cc

-- what is wrong with a shorthand is so whatever is gathered
pub operators_refused : (z : RawShorthand) (g : Gathered) (o : Option Fault)
    → IfSome o (λ f. expand_operators z ≡ Err f) → IfSome o (λ f. take_shorthand z g ≡ Err f)
operators_refused z g o h =
    told_weaker o (λ f. expand_operators z ≡ Err f) (λ f. take_shorthand z g ≡ Err f)
    (λ f e. refused_by (wrong_in z) (expansion_of z) g f e) h

pub statements_refused : (z : RawShorthand) (g : Gathered) (o : Option Fault)
    → IfSome o (λ f. after (expand z) (λ e. Ok e.statements) ≡ Err f) → IfSome o (λ f. take_shorthand z g ≡ Err f)
statements_refused z g o h =
    told_weaker o (λ f. after (expand z) (λ e. Ok e.statements) ≡ Err f) (λ f. take_shorthand z g ≡ Err f)
    (λ f e. stated_refused_by (wrong_in z) (expansion_of z) g f e) h

full_left_by : (o : Option Fault) (x : Expansion) (g : Gathered) (fs : List PlainOperator) (s : Gathering)
    → unless o (Ok x.operators) ≡ Ok fs → s.full ≡ true
    → Keeps s (with_operators fs g) → KeepsAnswer s (after (unless o (Ok x)) (with_expansion g))
full_left_by (Some h) x g fs s e full k = cc
full_left_by None x g fs s e full k =
    full_asserted s x.statements (with_operators x.operators g) full
    (subst (λ os. Keeps s (with_operators os g)) (sym (ok_inj e)) k)

-- a store that is full by the operators of a shorthand needs none of its statements
pub full_left : (z : RawShorthand) (g : Gathered) (fs : List PlainOperator) (s : Gathering) → expand_operators z ≡ Ok fs
    → s.full ≡ true
    → Keeps s (with_operators fs g) → KeepsAnswer s (take_shorthand z g)
full_left z g fs s e full k = full_left_by (wrong_in z) (expansion_of z) g fs s e full k

whole_left_by : (o : Option Fault) (x : Expansion) (g : Gathered) (fs : List PlainOperator) (ss : List Statement)
    (s : Gathering) → unless o (Ok x.operators) ≡ Ok fs
    → after (unless o (Ok x)) (λ e. Ok e.statements) ≡ Ok ss → Keeps s (with_asserted ss (with_operators fs g))
    → KeepsAnswer s (after (unless o (Ok x)) (with_expansion g))
whole_left_by (Some h) x g fs ss s e d k = cc
whole_left_by None x g fs ss s e d k =
    subst (λ os. Keeps s (with_asserted x.statements (with_operators os g))) (sym (ok_inj e))
    (subst (λ zs. Keeps s (with_asserted zs (with_operators fs g))) (sym (ok_inj d)) k)

pub whole_left : (z : RawShorthand) (g : Gathered) (fs : List PlainOperator) (ss : List Statement) (s : Gathering)
    → expand_operators z ≡ Ok fs
    → after (expand z) (λ e. Ok e.statements) ≡ Ok ss → Keeps s (with_asserted ss (with_operators fs g))
    → KeepsAnswer s (take_shorthand z g)
whole_left z g fs ss s e d k = whole_left_by (wrong_in z) (expansion_of z) g fs ss s e d k

-- what items state over the operators that a store keeps
states_same : (raw : RawTrait) (s : Gathering) (g : Gathered) → Keeps s g
    → items_state s.gathered.operators raw.items ≡ items_state g.operators raw.items
states_same raw s g k = ap (λ os. items_state os raw.items) k.0

pub items_left : (raw : RawTrait) (old new : Gathering) (g : Gathered) (ss : List Statement) → Keeps old g
    → items_state old.gathered.operators raw.items ≡ Ok ss
    → Keeps new (with_asserted ss g) → KeepsAnswer new (take_items raw g)
items_left raw old new g ss k e kept =
    answer_kept new (take_items raw g) (with_asserted ss g)
    (ap (λ r. after r (λ zs. Ok (with_asserted zs g))) (sym (states_same raw old g k) ∙ e)) kept

pub items_refused : (raw : RawTrait) (old : Gathering) (g : Gathered) (o : Option Fault) → Keeps old g
    → IfSome o (λ f. items_state old.gathered.operators raw.items ≡ Err f) → IfSome o (λ f. take_items raw g ≡ Err f)
items_refused raw old g o k h =
    after_refused o (items_state g.operators raw.items) (λ ss. Ok (with_asserted ss g))
    (told_weaker o (λ f. items_state old.gathered.operators raw.items ≡ Err f)
    (λ f. items_state g.operators raw.items ≡ Err f) (λ f e. sym (states_same raw old g k) ∙ e) h)

-- declarations come before items
own_is : (raw : RawTrait) (g : Gathered) (fs : List PlainOperator) → declared_operators raw.declarations ≡ Ok fs
    → take_own raw g ≡ take_items raw (with_operators fs g)
own_is raw g fs e = ap (λ r. after r (λ os. take_items raw (with_operators os g))) e

pub own_left : (raw : RawTrait) (g : Gathered) (fs : List PlainOperator) (s : Gathering)
    → declared_operators raw.declarations ≡ Ok fs
    → KeepsAnswer s (take_items raw (with_operators fs g)) → KeepsAnswer s (take_own raw g)
own_left raw g fs s e k = subst (KeepsAnswer s) (sym (own_is raw g fs e)) k

pub own_refused : (raw : RawTrait) (g : Gathered) (fs : List PlainOperator) (o : Option Fault)
    → declared_operators raw.declarations ≡ Ok fs
    → IfSome o (λ f. take_items raw (with_operators fs g) ≡ Err f) → IfSome o (λ f. take_own raw g ≡ Err f)
own_refused raw g fs o e h =
    told_weaker o (λ f. take_items raw (with_operators fs g) ≡ Err f) (λ f. take_own raw g ≡ Err f)
    (λ f d. own_is raw g fs e ∙ d) h

pub declared_refused : (raw : RawTrait) (g : Gathered) (o : Option Fault)
    → IfSome o (λ f. declared_operators raw.declarations ≡ Err f) → IfSome o (λ f. take_own raw g ≡ Err f)
declared_refused raw g o h =
    after_refused o (declared_operators raw.declarations) (λ fs. take_items raw (with_operators fs g)) h

-- the shorthands so far were taken, and those that are left make the whole answer
abbrev pub Goes : List RawShorthand → ℕ → Gathering → Result Gathered Fault → Type 0
Goes zs i s whole = (h : Gathered) × Keeps s h × (all_taken take_shorthand (drop i zs) h ≡ whole)

pub goes_on : (zs : List RawShorthand) (i : ℕ) (z : RawShorthand) (old new : Gathering) (whole : Result Gathered Fault)
    → i < length zs → z ≡ get_or zs i z
    → ((g : Gathered) → Keeps old g → KeepsAnswer new (take_shorthand z g)) → Goes zs i old whole
    → Goes zs (i + 1) new whole
goes_on zs i z old new whole lt at step w =
    let p = kept_answer new (take_shorthand z w.0) (step w.0 w.1) in
    (p.0, p.2, step_taken take_shorthand zs i z w.0 whole lt at w.2 p.0 p.1)

pub goes_refused : (zs : List RawShorthand) (i : ℕ) (z : RawShorthand) (old : Gathering) (whole : Result Gathered Fault)
    (o : Option Fault) → i < length zs → z ≡ get_or zs i z
    → ((g : Gathered) → Keeps old g → IfSome o (λ f. take_shorthand z g ≡ Err f)) → Goes zs i old whole
    → IfSome o (λ f. whole ≡ Err f)
goes_refused zs i z old whole o lt at step w = step_refused take_shorthand zs i z w.0 whole lt at w.2 o (step w.0 w.1)

pub all_gone : (zs : List RawShorthand) (i : ℕ) (s : Gathering) (whole : Result Gathered Fault) → drop i zs ≡ []
    → Goes zs i s whole → KeepsAnswer s whole
all_gone zs i s whole none w =
    answer_kept s whole w.0 (sym w.2 ∙ ap (λ l. all_taken take_shorthand l w.0) none) w.1

pub all_gone_at : (zs : List RawShorthand) (i : ℕ) (s : Gathering) (whole : Result Gathered Fault) → length zs ≤ i
    → Goes zs i s whole → KeepsAnswer s whole
all_gone_at zs i s whole le w = all_gone zs i s whole (drop_all i zs le) w

-- what is finished, as what is gathered
abbrev pub ended : RawTrait → Result Gathered Fault → Result Gathered Fault
ended raw r = after (after r (λ h. Ok (finish_trait raw h))) (λ t. Ok (gathered_in t))

limit_told : (raw : RawTrait) (g : Gathered) (b : Bool) → is_too_large g ≡ b → b ≡ true
    → ended raw (within raw.name.pos g) ≡ Err (fault Size raw.name.pos)
limit_told raw g true e t = ap (λ c. ended raw (cond c (Err (fault Size raw.name.pos)) (Ok g))) e
limit_told raw g false e t = cc

limit_kept : (raw : RawTrait) (g : Gathered) (b : Bool) → is_too_large g ≡ b → b ≡ false
    → ended raw (within raw.name.pos g) ≡ Ok (discharge_stated g)
limit_kept raw g false e t = ap (λ c. ended raw (cond c (Err (fault Size raw.name.pos)) (Ok g))) e
limit_kept raw g true e t = cc

-- a limit that is passed is told
pub finished_refused : (raw : RawTrait) (g : Gathered) (r : Bool) → r ≡ is_too_large g → r ≡ true
    → ended raw (within raw.name.pos g) ≡ Err (fault Size raw.name.pos)
finished_refused raw g r e t = limit_told raw g r (sym e) t

-- else all that is kept is the answer
pub finished_told : (raw : RawTrait) (g kept : Gathered) (r : Bool) → r ≡ is_too_large g → r ≡ false → kept ≡ g
    → ended raw (within raw.name.pos g) ≡ Ok (discharge_stated kept)
finished_told raw g kept r e t same = limit_kept raw g r (sym e) t ∙ ap (λ h. Ok (discharge_stated h)) (sym same)

-- the shorthands come before the rest
abbrev own_rest : RawTrait → Gathered → Result FlatTrait Fault
own_rest raw h = after (take_own raw h) (λ i. after (within raw.name.pos i) (λ j. Ok (finish_trait raw j)))

abbrev pub rest_answer : RawTrait → Gathered → Result Gathered Fault
rest_answer raw g = after (take_rest raw g) (λ t. Ok (gathered_in t))

pub rest_shorthands_refused : (raw : RawTrait) (g : Gathered) (o : Option Fault)
    → IfSome o (λ f. all_taken take_shorthand raw.shorthands g ≡ Err f) → IfSome o (λ f. rest_answer raw g ≡ Err f)
rest_shorthands_refused raw g o h =
    after_refused o (take_rest raw g) (λ t. Ok (gathered_in t))
    (after_refused o (all_taken take_shorthand raw.shorthands g) (own_rest raw) h)

rest_is : (raw : RawTrait) (g h : Gathered) → all_taken take_shorthand raw.shorthands g ≡ Ok h
    → rest_answer raw g ≡ after (own_rest raw h) (λ t. Ok (gathered_in t))
rest_is raw g h e = ap (λ r. after (after r (own_rest raw)) (λ t. Ok (gathered_in t))) e

pub rest_own_refused : (raw : RawTrait) (g h : Gathered) (o : Option Fault)
    → all_taken take_shorthand raw.shorthands g ≡ Ok h
    → IfSome o (λ f. take_own raw h ≡ Err f) → IfSome o (λ f. rest_answer raw g ≡ Err f)
rest_own_refused raw g h o e w =
    told_weaker o (λ f. after (own_rest raw h) (λ t. Ok (gathered_in t)) ≡ Err f) (λ f. rest_answer raw g ≡ Err f)
    (λ f d. rest_is raw g h e ∙ d)
    (after_refused o (own_rest raw h) (λ t. Ok (gathered_in t))
    (after_refused o (take_own raw h) (λ i. after (within raw.name.pos i) (λ j. Ok (finish_trait raw j))) w))

pub rest_ends : (raw : RawTrait) (g h i : Gathered) → all_taken take_shorthand raw.shorthands g ≡ Ok h
    → take_own raw h ≡ Ok i → rest_answer raw g ≡ ended raw (within raw.name.pos i)
rest_ends raw g h i e d =
    rest_is raw g h e ∙ ap (λ r. after (after r (λ j. after (within raw.name.pos j) (λ k. Ok (finish_trait raw k))))
    (λ t. Ok (gathered_in t))) d

-- what the last call answers is the whole answer
pub rest_told : (raw : RawTrait) (g : Gathered) (a b : Gathering) (flat : Gathered)
    → KeepsAnswer a (all_taken take_shorthand raw.shorthands g)
    → ((h : Gathered) → Keeps a h → KeepsAnswer b (take_own raw h))
    → ((i : Gathered) → Keeps b i → ended raw (within raw.name.pos i) ≡ Ok flat) → rest_answer raw g ≡ Ok flat
rest_told raw g a b flat taken own end =
    let p = kept_answer a (all_taken take_shorthand raw.shorthands g) taken in
    let q = kept_answer b (take_own raw p.0) (own p.0 p.2) in
    rest_ends raw g p.0 q.0 p.1 q.1 ∙ end q.0 q.2

pub rest_end_refused : (raw : RawTrait) (g : Gathered) (a b : Gathering) (o : Option Fault)
    → KeepsAnswer a (all_taken take_shorthand raw.shorthands g)
    → ((h : Gathered) → Keeps a h → KeepsAnswer b (take_own raw h))
    → ((i : Gathered) → Keeps b i → IfSome o (λ f. ended raw (within raw.name.pos i) ≡ Err f))
    → IfSome o (λ f. rest_answer raw g ≡ Err f)
rest_end_refused raw g a b o taken own end =
    let p = kept_answer a (all_taken take_shorthand raw.shorthands g) taken in
    let q = kept_answer b (take_own raw p.0) (own p.0 p.2) in
    told_weaker o (λ f. ended raw (within raw.name.pos q.0) ≡ Err f) (λ f. rest_answer raw g ≡ Err f)
    (λ f d. rest_ends raw g p.0 q.0 p.1 q.1 ∙ d) (end q.0 q.2)

pub rest_own_told : (raw : RawTrait) (g : Gathered) (a : Gathering) (o : Option Fault)
    → KeepsAnswer a (all_taken take_shorthand raw.shorthands g)
    → ((h : Gathered) → Keeps a h → IfSome o (λ f. take_own raw h ≡ Err f)) → IfSome o (λ f. rest_answer raw g ≡ Err f)
rest_own_told raw g a o taken own =
    let p = kept_answer a (all_taken take_shorthand raw.shorthands g) taken in
    rest_own_refused raw g p.0 o p.1 (own p.0 p.2)
