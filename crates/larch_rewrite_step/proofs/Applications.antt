-- One application.
use Rattle.std.specs.Prelude.{◌≡◌, ◌-◌, ℕ, Bool, true, false, cond, List, [], map, Option, Some, None, refl}
use Rattle.std.proofs.Common.{rules, ap, sym, subst, ◌∙◌}
use Rattle.std.proofs.lemmas.Option.{option_and_then_some, cond_some}
use Rattle.larch_derive.proofs.TablesIdentities.{Every, every_at, at_place}
use Rattle.larch_term.specs.Substitution.{instance_of}
use Rattle.larch_term.specs.Tree.{Tree, var, app, none, more}
use Rattle.larch_term.specs.declared.substitution.Entry.{Entry}
use Rattle.larch_derive.specs.VerifyMeaningMatching.{all_different}
use Rattle.larch_rewrite_match.specs.RewriteMeaningMatching.{match_term}
use Rattle.larch_rewrite_match.proofs.RewriteMeaningMatches.{match_is_right}
use Rattle.larch_rewrite_match.specs.Exchanged.{exchange_equality}
use Rattle.larch_rewrite_match.specs.Rule.{left_of, right_of, reason_of}
use Rattle.larch_rewrite_match.specs.declared.rule.Reason.{Reason}
use Rattle.larch_rewrite_match.specs.Search.{IsBy}
use Rattle.larch_rewrite_match.specs.declared.rule.RewriteRule.{RewriteRule}
use Rattle.larch_derive.specs.Predicates.{Known, HasNoBadLine, HasEquation, Extends}
use Rattle.larch_derive.specs.declared.builder.Builder.{Builder}
use Rattle.larch_derive.proofs.Growth.{known_stands}
use Rattle.larch_base.proofs.Options.{some_inj}
use Rattle.larch_base.specs.ByNumber.{numbered}
use Rattle.larch_derive.specs.CertificateTextLineText.{IsWord}
use Rattle.larch_derive.specs.CertificateTextParts.{Each}
use Rattle.larch_derive.proofs.Words.{known_worded, said_worded}
use Rattle.larch_derive.specs.Words.{IsWordedTerm}
use Rattle.larch_derive_lines.specs.Rules.{variable_in, AreKnownEntries, IsWordedSort}
use Rattle.larch_rewrite_match.specs.declared.rule.Reason.TheVariants.{Row, Line}
use Rattle.larch_derive.specs.TablesRow.{PlainRow}
use Rattle.larch_derive.specs.TablesTables.{built_in_rows}
use Rattle.larch_term.specs.BuiltIn.{is_built_in_as}
use Rattle.larch_term.specs.Operator.{PlainOperator}
use Rattle.larch_term.specs.declared.built_in.BuiltIn.TheVariants.{Equal}
use Rattle.larch_term.specs.declared.statement.Statement.{Statement}
use Rattle.larch_term.specs.declared.statement.Statement.TheVariants.{Equation, Generated, Partitioned}
use Rattle.larch_derive.specs.VerifyMeaningRules.{row_says}
use Rattle.larch_rewrite_step.specs.Applying.{IsTried}
use Rattle.larch_rewrite_step.specs.Holding.{IsWordedReason, ReasonSays, RuleHolds}
use Rattle.larch_rewrite_step.proofs.Entries.{known_entries, entries_stay, different}

left_by : (rule : RewriteRule) (exchanged : Bool) (t : Tree) (es : List Entry) → IsBy rule exchanged t es → (P : Type 0)
    → ((x : Tree) → IsTried rule exchanged x → match_term x t [] ≡ Some es → P) → P
left_by rule false t es h P go = go (left_of rule) refl h
left_by rule true t es h P go =
    option_and_then_some (λ l. match_term l t []) (exchange_equality (left_of rule)) es h (λ l p q. go l p q)

-- ---- the sort at which the rule's row is said is a word

-- a row with a sort has it among those of the operator at the head of its left side
abbrev HasSort : List ℕ → Statement → Type 0
HasSort z (Equation (app f ts) r) = Each IsWord f.domain → IsWord z
HasSort z (Equation (var n s) r) = ⊥
HasSort z (Generated s fs) = ⊥
HasSort z (Partitioned s fs) = ⊥

abbrev HasRowSort : List ℕ → PlainRow → Type 0
HasRowSort z row = row.sorted ≡ true → HasSort z row.given

rows_sorted : (z : List ℕ) → Every (HasRowSort z) (built_in_rows z)
rows_sorted z = search (rules)

row_sorted : (z : List ℕ) (k : ℕ) (row : PlainRow) → numbered (built_in_rows z) k ≡ Some row → HasRowSort z row
row_sorted z k row e =
    every_at (HasRowSort z) (built_in_rows z) (k - 1) row (rows_sorted z) (at_place (built_in_rows z) k row e)

-- the operator at the head of a term has words as its sorts
abbrev HasWordedHead : Tree → Type 0
HasWordedHead (var n s) = Unit {0}
HasWordedHead (app f ts) = Each IsWord f.domain

sort_of_head : (z : List ℕ) (l r : Tree) (s : Statement) → s ≡ Equation l r → HasSort z s → HasWordedHead l → IsWord z
sort_of_head z (var n y) r s e h w = absurd (subst (HasSort z) e h)
sort_of_head z (app f ts) r s e h w = subst (HasSort z) e h w

sort_worded : (k : ℕ) (z : Option (List ℕ)) (l r : Tree) → row_says k z ≡ Some (Equation l r) → HasWordedHead l
    → IsWordedSort z
sort_worded k None l r e w = tt
sort_worded k (Some z) l r e w =
    option_and_then_some (λ row. cond row.sorted (Some row.given) None) (numbered (built_in_rows z) k) (Equation l r) e
    (λ row f g. let c = cond_some row.sorted row.given (Equation l r) g in
    sort_of_head z l r row.given c.1 (row_sorted z k row f c.0) w)

reason_worded : (b : Builder) (w : Reason) (l r : Tree) → ReasonSays b w l r → HasWordedHead l → IsWordedReason w
reason_worded b (Row k z) l r h d = sort_worded k z l r h d
reason_worded b (Line n) l r h d = tt

head_under : (es : List Entry) (x t : Tree) → instance_of es x ≡ t → IsWordedTerm t → HasWordedHead x
head_under es (var n s) t e w = tt
head_under es (app f ts) t e w =
    let i : IsWordedTerm (instance_of es (app f ts)) = subst IsWordedTerm (sym e) w in i.0.0

test_head : (f : PlainOperator) (s t x : Tree) (b : Bool) → cond b (Some (app f (more t (more s none)))) None ≡ Some x
    → HasWordedHead x → Each IsWord f.domain
test_head f s t x true e w = subst HasWordedHead (sym (some_inj e)) w
test_head f s t x false e w = cc

turned_head : (l x : Tree) → exchange_equality l ≡ Some x → HasWordedHead x → HasWordedHead l
turned_head (var n s) x e w = tt
turned_head (app f none) x e w = cc
turned_head (app f (more s none)) x e w = cc
turned_head (app f (more s (more t none))) x e w = test_head f s t x (is_built_in_as f Equal) e w
turned_head (app f (more s (more t (more u us)))) x e w = cc

tried_head : (rule : RewriteRule) (exchanged : Bool) (x : Tree) → IsTried rule exchanged x → HasWordedHead x
    → HasWordedHead (left_of rule)
tried_head rule false x p w = subst HasWordedHead p w
tried_head rule true x p w = turned_head (left_of rule) x p w

row_words : (a : Builder) (rule : RewriteRule) (exchanged : Bool) (x t : Tree) (es : List Entry) → Known a t
    → RuleHolds a rule → IsTried rule exchanged x → match_term x t [] ≡ Some es → IsWordedReason (reason_of rule)
row_words a rule exchanged x t es k r p m =
    reason_worded a (reason_of rule) (left_of rule) (right_of rule) r
    (tried_head rule exchanged x p (head_under es x t (match_is_right x t es m) (known_worded a t k)))

-- what is shown of the left side as it is tried is shown where it is the term under a substitution
pub by_tried : (a : Builder) (rule : RewriteRule) (exchanged : Bool) (t : Tree) (es : List Entry) (Q : Type 0)
    → Known a t
    → RuleHolds a rule → IsBy rule exchanged t es
    → ((x : Tree) → HasNoBadLine a → RuleHolds a rule → IsWordedReason (reason_of rule) → IsTried rule exchanged x → Q)
    → Q
by_tried a rule exchanged t es Q k r h go =
    left_by rule exchanged t es h Q
    (λ x p m. go x (known_stands a t k) r (row_words a rule exchanged x t es k r p m) p)

pub applied_says : (a b c : Builder) (rule : RewriteRule) (exchanged : Bool) (t : Tree) (es : List Entry) (m n : ℕ)
    → Known a t
    → RuleHolds a rule → IsBy rule exchanged t es → Extends a b
    → ((x : Tree) → HasNoBadLine a → RuleHolds a rule → IsWordedReason (reason_of rule) → IsTried rule exchanged x
    → HasEquation b m x (right_of rule))
    → ((l r : Tree) → HasEquation b m l r → AreKnownEntries b es → all_different (map variable_in es) ≡ true
    → HasEquation c n (instance_of es l) (instance_of es r))
    → HasEquation c n t (instance_of es (right_of rule))
applied_says a b c rule exchanged t es m n k r h x says inst =
    left_by rule exchanged t es h (HasEquation c n t (instance_of es (right_of rule)))
    (λ y p q. subst (λ u. HasEquation c n u (instance_of es (right_of rule))) (match_is_right y t es q)
    (let said = says y (known_stands a t k) r (row_words a rule exchanged y t es k r p q) p in
    inst y (right_of rule) said
    (entries_stay a b es x (known_entries a y t es (said_worded b m _ said).0 k q)) (different y t es q)))

pub applied_extends : (a b c : Builder) (rule : RewriteRule) (exchanged : Bool) (t : Tree) (es : List Entry) (m : ℕ)
    → Known a t
    → RuleHolds a rule → IsBy rule exchanged t es → Extends a b
    → ((x : Tree) → HasNoBadLine a → RuleHolds a rule → IsWordedReason (reason_of rule) → IsTried rule exchanged x
    → HasEquation b m x (right_of rule))
    → ((l r : Tree) → HasEquation b m l r → AreKnownEntries b es → all_different (map variable_in es) ≡ true
    → Extends b c)
    → Extends b c
applied_extends a b c rule exchanged t es m k r h x says inst =
    left_by rule exchanged t es h (Extends b c)
    (λ y p q. let said = says y (known_stands a t k) r (row_words a rule exchanged y t es k r p q) p in
    inst y (right_of rule) said
    (entries_stay a b es x (known_entries a y t es (said_worded b m _ said).0 k q)) (different y t es q))

-- the rule as it is tried, by whether it is exchanged
pub tried_plain : (b : Builder) (rule : RewriteRule) (exchanged : Bool) (x : Tree) (n : ℕ) → exchanged ≡ false
    → IsTried rule exchanged x → HasEquation b n (left_of rule) (right_of rule) → HasEquation b n x (right_of rule)
tried_plain b rule false x n e p h = subst (λ u. HasEquation b n u (right_of rule)) (sym p) h
tried_plain b rule true x n e p h = cc

pub tried_turned : (rule : RewriteRule) (exchanged : Bool) (x : Tree) → exchanged ≡ true → IsTried rule exchanged x
    → exchange_equality (left_of rule) ≡ Some x
tried_turned rule false x e p = cc
tried_turned rule true x e p = p

-- what a reason says of a rule, where it is the rule's
pub says_by : (b : Builder) (rule : RewriteRule) (w : Reason) → w ≡ reason_of rule → RuleHolds b rule
    → ReasonSays b w (left_of rule) (right_of rule)
says_by b rule w e h = subst (λ v. ReasonSays b v (left_of rule) (right_of rule)) (sym e) h

pub worded_by : (rule : RewriteRule) (w : Reason) → w ≡ reason_of rule → IsWordedReason (reason_of rule)
    → IsWordedReason w
worded_by rule w e h = subst IsWordedReason (sym e) h

pub left_same : (b : Builder) (n : ℕ) (l k r : Tree) → l ≡ k → HasEquation b n k r → HasEquation b n l r
left_same b n l k r e h = subst (λ u. HasEquation b n u r) (sym e) h

pub right_same : (b : Builder) (n : ℕ) (l r k : Tree) → r ≡ k → HasEquation b n l k → HasEquation b n l r
right_same b n l r k e h = subst (λ u. HasEquation b n l u) (sym e) h
