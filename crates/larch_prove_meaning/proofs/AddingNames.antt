-- What is added under a new name leaves the names of facts different.
use Rattle.std.specs.Prelude.{◌≡◌, ◌≢◌, ◌<◌, ◌||◌, ℕ, zero, suc, List, [], ◌∷◌, ◌++◌, All}
use Rattle.std.proofs.Common.{ap, arith, subst}
use Rattle.std.proofs.lemmas.List.Elements.{All-push, All-weaker}
use Rattle.std.proofs.lemmas.List.Quantifiers.{all_pairs_push}
use Rattle.larch_base.specs.declared.fact_name.FactName.{FactName}
use Rattle.larch_rewrite_meaning.specs.Sides.{Sides}
use Rattle.larch_rewrite_meaning.specs.Work.{Work, Made, OverLimit, OverSize, is_large, then_work, within_size}
use Rattle.larch_prove_meaning.specs.Facts.{Contradict, Drop, Fact, Facts, Keep, Manner, Replace, Treatment, add}
use Rattle.larch_prove_meaning.specs.Facts.{add_waiting, is_full, most_taken, normal_sides, serving, treatment}
use Rattle.larch_prove_meaning.specs.Facts.{with_contradiction, with_rule}
use Rattle.larch_prove_meaning.specs.Named.{HaveDifferentNames}
use Rattle.larch_prove_meaning.proofs.AddingSorts.{made_term, within_made}

-- a rule under a name's part
abbrev pub part_of : FactName → ℕ → Sides → Fact
part_of name k rule = record { name = record name { part = k }; sides = rule }

-- no later part of the name is a fact's
abbrev IsBefore : FactName → ℕ → Fact → Type 0
IsBefore name k fact = (j : ℕ) → k < j → fact.name ≢ record name { part = j }

-- names differ, no later part of a name is one of them, and something holds of each fact
record HaveNames (P : Fact → Type 0) (name : FactName) (k : ℕ) (facts : List Fact) : Type 0 where
  different : HaveDifferentNames facts
  before : All (IsBefore name k) facts
  hold : All P facts

one_more : (P : Fact → Type 0) (name : FactName) (k : ℕ) (facts : List Fact) (rule : Sides)
    → ((j : ℕ) (r : Sides) → P (part_of name j r)) → HaveNames P name k facts
    → HaveNames P name (suc k) (facts ++ part_of name (suc k) rule ∷ [])
one_more P name k facts rule new h =
    let x = part_of name (suc k) rule in
    record {
      different = all_pairs_push (λ f g. f.name ≢ g.name) facts x h.different
          (All-weaker (IsBefore name k) (λ f. f.name ≢ x.name) (λ f b. b (suc k) (omega arith)) facts h.before);
      before = All-push (IsBefore name (suc k)) facts x
          (All-weaker (IsBefore name k) (IsBefore name (suc k)) (λ f b j lt. b j (omega (arith, lt))) facts h.before)
          (λ j lt e. let q : suc k ≡ j = ap (λ (n : FactName). n.part) e in omega (arith, lt, q));
      hold = All-push P facts x h.hold (new (suc k) rule);
    }

-- an adding of these equations to these facts keeps it so, up to some part
abbrev Adds : (Fact → Type 0) → FactName → (ℕ → List Sides → Facts → ℕ → Work Facts) → Type 0
Adds P name adds = (part : ℕ) (waiting : List Sides) (facts : Facts) (b : ℕ) (made : Facts) (r : ℕ)
    → HaveNames P name part facts.rules → adds part waiting facts b ≡ Made made r
    → HaveDifferentNames made.rules × All P made.rules

by_treatment : (P : Fact → Type 0) (n : ℕ) (manner : Manner) (part : ℕ) (waiting : List Sides) (facts : Facts) (c : ℕ)
    (made : Facts) (r : ℕ) (t : Treatment) → ((j : ℕ) (s : Sides) → P (part_of manner.name j s))
    → Adds P manner.name (add_waiting n manner) → HaveNames P manner.name part facts.rules
    → (elim t [
      | Drop ↦ add_waiting n manner part waiting facts c
      | Contradict ↦ add_waiting n manner part waiting (with_contradiction facts) c
      | Replace others ↦ add_waiting n manner part (others ++ waiting) facts c
      | Keep rule ↦ within_size (is_large rule.left || is_full facts)
          (add_waiting n manner (suc part) waiting (with_rule manner.name (suc part) rule facts) c)
    ]) ≡ Made made r
    → HaveDifferentNames made.rules × All P made.rules
by_treatment P n manner part waiting facts c made r Drop new go h e = go part waiting facts c made r h e
by_treatment P n manner part waiting facts c made r Contradict new go h e =
    go part waiting (with_contradiction facts) c made r h e
by_treatment P n manner part waiting facts c made r (Replace others) new go h e =
    go part (others ++ waiting) facts c made r h e
by_treatment P n manner part waiting facts c made r (Keep rule) new go h e =
    let name : FactName = manner.name in
    go (suc part) waiting (with_rule name (suc part) rule facts) c made r
    (one_more P name part facts.rules rule new h)
    (within_made (is_large rule.left || is_full facts)
    (add_waiting n manner (suc part) waiting (with_rule name (suc part) rule facts) c) made r e)

by_sides : (P : Fact → Type 0) (n : ℕ) (manner : Manner) (part : ℕ) (waiting : List Sides) (facts : Facts)
    (made : Facts) (r : ℕ) (w : Work Sides) → ((j : ℕ) (s : Sides) → P (part_of manner.name j s))
    → Adds P manner.name (add_waiting n manner) → HaveNames P manner.name part facts.rules
    → then_work w (λ found c. elim (treatment manner.ranks found) [
      | Drop ↦ add_waiting n manner part waiting facts c
      | Contradict ↦ add_waiting n manner part waiting (with_contradiction facts) c
      | Replace others ↦ add_waiting n manner part (others ++ waiting) facts c
      | Keep rule ↦ within_size (is_large rule.left || is_full facts)
          (add_waiting n manner (suc part) waiting (with_rule manner.name (suc part) rule facts) c)
    ]) ≡ Made made r
    → HaveDifferentNames made.rules × All P made.rules
by_sides P n manner part waiting facts made r (Made d c) new go h e =
    by_treatment P n manner part waiting facts c made r (treatment manner.ranks d) new go h e
by_sides P n manner part waiting facts made r OverLimit new go h e = cc
by_sides P n manner part waiting facts made r OverSize new go h e = cc

all_added : (P : Fact → Type 0) (n : ℕ) (manner : Manner) → ((j : ℕ) (s : Sides) → P (part_of manner.name j s))
    → Adds P manner.name (add_waiting n manner)
all_added P zero manner new part waiting facts b made r h e = cc
all_added P (suc n) manner new part [] facts b made r h e =
    subst (λ (k : Facts). HaveDifferentNames k.rules × All P k.rules) (made_term e) (h.different, h.hold)
all_added P (suc n) manner new part (x ∷ waiting) facts b made r h e =
    by_sides P n manner part waiting facts made r (normal_sides (serving manner facts) x b) new
    (all_added P n manner new) h e

-- a fact has none of the name's parts
abbrev pub HasOtherName : FactName → Fact → Type 0
HasOtherName name fact = fact.name.letter ≡ name.letter → fact.name.number ≢ name.number

-- where facts have different names, and none of them a part of the new one, they have different names behind an adding;
-- and what holds of all facts and of each part holds still
pub add_named : (P : Fact → Type 0) (manner : Manner) (e : Sides) (facts : Facts) (b : ℕ) (made : Facts) (r : ℕ)
    → ((j : ℕ) (s : Sides) → P (part_of manner.name j s)) → HaveDifferentNames facts.rules
    → All (HasOtherName manner.name) facts.rules → All P facts.rules → add manner e facts b ≡ Made made r
    → HaveDifferentNames made.rules × All P made.rules
unfolding add
add_named P manner e facts b made r new d o h k =
    let name : FactName = manner.name in
    all_added P (most_taken b) manner new 0 (e ∷ []) facts b made r
    (record {
      different = d;
      before = All-weaker (HasOtherName name) (IsBefore name 0) (λ f x j lt q.
          x (ap (λ (n : FactName). n.letter) q) (ap (λ (n : FactName). n.number) q)) facts.rules o;
      hold = h;
    })
    (within_made _ (add_waiting (most_taken b) manner 0 (e ∷ []) facts b) made r k)
