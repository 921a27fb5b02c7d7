-- A rule applied at a root, and a kept form that is taken.
use Rattle.std.specs.Prelude.{◌≡◌, ◌+◌, ◌-◌, ◌≤◌, ℕ, List, ◌++◌, All, map, Contains, Option, Some, None, true, false}
use Rattle.std.proofs.Common.{arith, ap, ap₂, sym, subst, ◌∙◌}
use Rattle.std.proofs.lemmas.List.Elements.{All-append, All-contains, All-map, All-weaker}
use Rattle.larch_term.specs.Tree.{Tree, nodes}
use Rattle.larch_rewrite_step.specs.Applying.{MayRefuse as MayRefuseApplication}
use Rattle.larch_rewrite_step.specs.Holding.{RuleHolds, ReasonSays}
use Rattle.larch_rewrite_step.specs.declared.refusal.ApplyRefusal.{ApplyRefusal}
use Rattle.larch_rewrite_step.specs.declared.refusal.ApplyRefusal.TheVariants.{TooLarge as application_too_large}
use Rattle.larch_rewrite_step.specs.declared.refusal.ApplyRefusal.TheVariants.{Memory as application_memory}
use Rattle.larch_derive.specs.declared.builder.Builder.{Builder}
use Rattle.larch_rewrite_meaning.specs.NormalForm.{normal}
use Rattle.larch_rewrite_meaning.specs.Rewriting.{rewritten_once}
use Rattle.larch_rewrite_meaning.specs.Sides.{Sides}
use Rattle.larch_rewrite_meaning.specs.Work.{Made, OverLimit, OverSize, is_large}
use Rattle.larch_rewrite_law.specs.Levels.{root_work}
use Rattle.larch_rewrite_law.proofs.Charging.{cost_made}
use Rattle.larch_rewrite_law.proofs.Turns.{begins_large, root_normal, root_limit, root_made}
use Rattle.larch_rewrite_step.specs.RewriteMatchRule.{IsSaidByRow, RowSays, left_of, right_of, reason_of}
use Rattle.larch_rewrite_step.specs.RewriteMatchRuleReason.{Reason}
use Rattle.larch_rewrite_step.specs.RewriteMatchRuleReason.TheVariants.{Row, Line}
use Rattle.larch_rewrite_step.specs.RewriteMatchRuleRewriteRule.{RewriteRule}
use Rattle.larch_store.specs.Numbered.{Numbered, term_of}
use Rattle.larch_store.specs.Stored.{most_nodes}
use Rattle.larch_rewrite_step.specs.DeriveLinesWay.{Leads}
use Rattle.larch_rewrite.specs.Kept.{IsForm}
use Rattle.larch_rewrite.specs.Refusal.{TellsEvent, from_application}
use Rattle.larch_rewrite.specs.RuleSet.{AreSaid, PlainRule, rule_of}
use Rattle.larch_rewrite.specs.declared.kept.KeptForm.{KeptForm}
use Rattle.larch_rewrite.specs.declared.refusal.RewriteRefusal.{RewriteRefusal}
use Rattle.larch_rewrite.proofs.Levels.{small_is}

-- ---- ways

-- a way that nothing continues
pub led_on : (b : Builder) (way : Option ℕ) (s t u : Tree) → t ≡ u → Leads b way s t → Leads b way s u
led_on b way s t u e h = subst (λ v. Leads b way s v) e h

-- what leads to a term leads to it under another name
pub leads_as : (b : Builder) (way : Option ℕ) (s : Tree) (y z : Numbered) → y ≡ z → Leads b way s (term_of z)
    → Leads b way s (term_of y)
leads_as b way s y z e h = subst (λ x. Leads b way s (term_of x)) (sym e) h

-- ---- a rule holds that was found among rows and rules

row_says : (b : Builder) (w : Reason) (l r : Tree) → RowSays w l r → ReasonSays b w l r
row_says b (Row k z) l r h = h
row_says b (Line n) l r h = absurd h

pub found_holds : (b : Builder) (rows : List RewriteRule) (rules : List PlainRule) (r : RewriteRule)
    → Contains (rows ++ map rule_of rules) r → All IsSaidByRow rows → AreSaid b rules → RuleHolds b r
found_holds b rows rules r m s h =
    All-contains (RuleHolds b) (rows ++ map rule_of rules) r
    (All-append (RuleHolds b) rows (map rule_of rules)
    (All-weaker IsSaidByRow (RuleHolds b) (λ q p. row_says b (reason_of q) (left_of q) (right_of q) p) rows s)
    (All-map (RuleHolds b) rule_of rules h)) m

-- ---- the work at a root

pub root_is_normal : (rules : List Sides) (x : Numbered) (t : Tree) (b : ℕ) → nodes (term_of x) ≤ most_nodes
    → t ≡ term_of x → rewritten_once rules t ≡ None → root_work rules (term_of x) b ≡ Made (term_of x) b
root_is_normal rules x t b h e n =
    root_normal rules (term_of x) b (small_is (term_of x) h) (ap (rewritten_once rules) (sym e) ∙ n)

pub root_is_made : (rules : List Sides) (x : Numbered) (t u v : Tree) (b c : ℕ) → nodes (term_of x) ≤ most_nodes
    → t ≡ term_of x → rewritten_once rules t ≡ Some u → v ≡ u → b ≡ c + 1
    → root_work rules (term_of x) b ≡ normal rules v c
root_is_made rules x t u v b c h e n p q =
    ap (root_work rules (term_of x)) q
    ∙ root_made rules (term_of x) u c (small_is (term_of x) h) (ap (rewritten_once rules) (sym e) ∙ n)
    ∙ ap (λ w. normal rules w c) (sym p)

pub root_tells : (rules : List Sides) (x : Numbered) (t u : Tree) (b : ℕ) (e : RewriteRefusal)
    → nodes (term_of x) ≤ most_nodes → t ≡ term_of x → rewritten_once rules t ≡ Some u
    → ((rs : List Sides) (y : Tree) → is_large y ≡ false → rewritten_once rs y ≡ Some u
    → TellsEvent (root_work rs y b) e)
    → TellsEvent (root_work rules (term_of x) b) e
root_tells rules x t u b e h p n go =
    go rules (term_of x) (small_is (term_of x) h) (ap (rewritten_once rules) (sym p) ∙ n)

-- nothing is left of the budget
pub nothing_left : (rules : List Sides) (t u : Tree) (b : ℕ) → b ≡ 0 → is_large t ≡ false
    → rewritten_once rules t ≡ Some u
    → root_work rules t b ≡ OverLimit
nothing_left rules t u b z h n = ap (root_work rules t) z ∙ root_limit rules t u h n

before : (b : ℕ) → (b ≡ 0 → ⊥) → b ≡ (b - 1) + 1
before b n = omega (arith, n)

-- what a rule makes is too large
pub made_large : (rules : List Sides) (t u : Tree) (b : ℕ) → (b ≡ 0 → ⊥) → is_large t ≡ false
    → rewritten_once rules t ≡ Some u → is_large u ≡ true → root_work rules t b ≡ OverSize
made_large rules t u b z h n l =
    ap (root_work rules t) (before b z) ∙ root_made rules t u (b - 1) h n ∙ begins_large rules u (b - 1) l

pub application_tells : (rules : List Sides) (t u : Tree) (b : ℕ) (e : ApplyRefusal) → (b ≡ 0 → ⊥) → is_large t ≡ false
    → rewritten_once rules t ≡ Some u → MayRefuseApplication u e → TellsEvent (root_work rules t b) (from_application e)
application_tells rules t u b application_too_large z h n l = made_large rules t u b z h n l
application_tells rules t u b application_memory z h n l = tt

-- ---- a kept form is taken

spent : (b c k : ℕ) → b ≡ c + k → b - k ≡ c
spent b c k e = omega (arith, e)

enough : (b c k : ℕ) → b ≡ c + k → k ≤ b
enough b c k e = omega (arith, e)

pub kept_is_made : (rules : List Sides) (kept : List KeptForm) (k : KeptForm) (x y : Numbered) (b c : ℕ)
    → All (IsForm rules) kept → Contains kept k → term_of k.start ≡ term_of x → y ≡ k.form → b ≡ c + k.cost
    → normal rules (term_of x) b ≡ Made (term_of y) c
kept_is_made rules kept k x y b c h m e p q =
    ap (λ t. normal rules t b) (sym e)
    ∙ cost_made rules (term_of k.start) (term_of k.form) k.cost b (All-contains (IsForm rules) kept k h m)
    (enough b c k.cost q)
    ∙ ap₂ (λ z n. Made (term_of z) n) (sym p) (spent b c k.cost q)

pub kept_tells : (rules : List Sides) (kept : List KeptForm) (k : KeptForm) (x : Numbered) (b : ℕ) (e : RewriteRefusal)
    → All (IsForm rules) kept → Contains kept k → term_of k.start ≡ term_of x
    → ((rs : List Sides) → IsForm rs k → TellsEvent (normal rs (term_of k.start) b) e)
    → TellsEvent (normal rules (term_of x) b) e
kept_tells rules kept k x b e h m p go =
    subst (λ t. TellsEvent (normal rules t b) e) p (go rules (All-contains (IsForm rules) kept k h m))
