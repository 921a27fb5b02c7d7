-- Constants of a box whose number is above those that a theory has are new.
use Rattle.std.proofs.Common.{◌≡◌, ◌≢◌, ℕ, suc, ◌≤◌, ◌<◌, inl, inr, List, [], ◌∷◌, ◌++◌, map, All, AllPairs, Contains}
use Rattle.std.proofs.Common.{refl, sym, ◌∙◌, ap, subst, arith, Option, option_map, option_and_then, unwrap_or}
use Rattle.std.proofs.lemmas.List.Elements.{All-nil, All-cons, All-append, All-weaker, All-contains}
use Rattle.std.proofs.lemmas.List.Kept.{AllPairs-cons}
use Rattle.larch_term.proofs.BaseLists.{all_from}
use Rattle.larch_term.proofs.BaseMembers.{contains_left}
use Rattle.larch_term.specs.Operator.{OperatorName, PlainOperator, plain, boxed}
use Rattle.larch_term.specs.declared.statement.Statement.{Statement}
use Rattle.larch_term.specs.declared.statement.Theory.{Theory}
use Rattle.std.specs.List.{slice_get}
use Rattle.larch_term.specs.Sorts.{IsKnown, IsOver, AllOver}
use Rattle.larch_term.specs.Tree.{Tree, Forest, var, app, none, more}
use Rattle.larch_term.specs.Statement.{IsStatementOver}
use Rattle.larch_term.specs.declared.variable.Variable.{Variable}
use Rattle.larch_term.specs.declared.statement.Statement.TheVariants.{Equation, Generated, Partitioned}
use Rattle.larch_calculus.proofs.Names.{not_placed}
use Rattle.larch_calculus.specs.Freed.{free_constants, freed_all}
use Rattle.larch_calculus.specs.Boxes.{constants_from, IsOlderName, IsOlder, IsOlderTerm, AreOlderTerms}
use Rattle.larch_calculus.specs.Boxes.{IsOlderStatement}
use Rattle.larch_calculus.specs.Derivable.{AreArguments}
use Rattle.larch_calculus.specs.Renaming.{IsPlainName, HasPlainNames}
use Rattle.larch_calculus.specs.Theories.{IsNewName, AreNew, AreConstants, extend}

plain_is_older : (b : ℕ) (n : OperatorName) → IsPlainName n → IsOlderName b n
plain_is_older b (plain n) h = tt
plain_is_older b (boxed c k) h = absurd h

-- a theory with plain names has no constants of boxes
pub older_plain : (b : ℕ) (t : Theory) → HasPlainNames t → IsOlder b t
older_plain b t h =
    All-weaker (λ f. IsPlainName f.name) (λ f. IsOlderName b f.name) (λ f p. plain_is_older b f.name p) t.operators h

later_name : (b c : ℕ) (n : OperatorName) → b ≤ c → IsOlderName b n → IsOlderName c n
later_name b c (plain n) le h = tt
later_name b c (boxed d k) le h = omega (arith, h, le)

pub older_later : (b c : ℕ) (t : Theory) → IsOlder b t → b ≤ c → IsOlder c t
older_later b c t h le =
    All-weaker (λ f. IsOlderName b f.name) (λ f. IsOlderName c f.name)
    (λ f p. later_name b c f.name le p) t.operators h

constants_older : (b k : ℕ) (ss : List (List ℕ)) → All (λ f. IsOlderName b f.name) (constants_from b k ss)
constants_older b k [] = All-nil (λ f. IsOlderName b f.name)
constants_older b k (s ∷ ss) =
    All-cons (λ f. IsOlderName b f.name) (record { name = boxed b k; domain = []; range = s })
    (constants_from b (suc k) ss) (omega arith) (constants_older b (suc k) ss)

-- with the constants of a box, the box's number is the highest
pub older_opened : (b c k : ℕ) (ss : List (List ℕ)) (hs : List Statement) (t : Theory) → IsOlder b t → b ≤ c
    → IsOlder c (extend t (constants_from c k ss) hs)
older_opened b c k ss hs t h le =
    All-append (λ f. IsOlderName c f.name) t.operators (constants_from c k ss) (older_later b c t h le)
    (constants_older c k ss)

pub older_less : (b : ℕ) (cs : List PlainOperator) (hs : List Statement) (t : Theory) → IsOlder b (extend t cs hs)
    → IsOlder b t
older_less b cs hs t h =
    all_from (λ f. IsOlderName b f.name) t.operators
    (λ f c. All-contains (λ f. IsOlderName b f.name) (t.operators ++ cs) f h (contains_left t.operators cs f c))

-- a name of a box with a higher number is new
pub new_name : (b c k : ℕ) (t : Theory) → b < c → IsOlder b t → IsNewName t (boxed c k)
new_name b c k t lt h f (inl i) e =
    above (subst (IsOlderName b) e (All-contains (λ f. IsOlderName b f.name) t.operators f h i))
  where
    above : c ≤ b → ⊥
    above le = omega (arith, le, lt)
new_name b c k t lt h f (inr (d, (s, p))) e = plain_apart (ap (λ g. g.name) (sym p) ∙ e)
  where
    plain_apart : {n : List ℕ} {b k : ℕ} → plain n ≡ boxed b k → ⊥
    plain_apart e = cc

new_from : (b c k : ℕ) (ss : List (List ℕ)) (t : Theory) → b < c → IsOlder b t
    → All (λ f. IsNewName t f.name) (constants_from c k ss)
new_from b c k [] t lt h = All-nil (λ f. IsNewName t f.name)
new_from b c k (s ∷ ss) t lt h =
    All-cons (λ f. IsNewName t f.name) (record { name = boxed c k; domain = []; range = s })
    (constants_from c (suc k) ss) (new_name b c k t lt h) (new_from b c (suc k) ss t lt h)

other_names : (b j k : ℕ) (ss : List (List ℕ)) → j < k → All (λ g. boxed b j ≢ g.name) (constants_from b k ss)
other_names b j k [] lt = All-nil (λ g. boxed b j ≢ g.name)
other_names b j k (s ∷ ss) lt =
    All-cons (λ g. boxed b j ≢ g.name) (record { name = boxed b k; domain = []; range = s })
    (constants_from b (suc k) ss) (other_number b j k lt)
    (other_names b j (suc k) ss (omega arith))
  where
    same_number : (b j k : ℕ) → boxed b j ≡ boxed b k → j ≡ k
    same_number b j k e = cc

    other_number : (b j k : ℕ) → j < k → boxed b j ≢ boxed b k
    other_number b j k lt e = let p = same_number b j k e in omega arith

different_from : (b k : ℕ) (ss : List (List ℕ)) → AllPairs (λ f g. f.name ≢ g.name) (constants_from b k ss)
different_from b k [] = λ i j d lt within. absurd (omega arith)
different_from b k (s ∷ ss) =
    AllPairs-cons (λ f g. f.name ≢ g.name) (record { name = boxed b k; domain = []; range = s })
    (constants_from b (suc k) ss)
    (other_names b k (suc k) ss (omega arith)) (different_from b (suc k) ss)

-- constants of a box with a number above those of the theory are new
pub constants_new : (b c k : ℕ) (ss : List (List ℕ)) (t : Theory) → IsOlder b t → b < c
    → AreNew t (constants_from c k ss)
constants_new b c k ss t h lt = record { names = new_from b c k ss t lt h; different = different_from c k ss }

pub constants_without_arguments : (b k : ℕ) (ss : List (List ℕ)) → AreConstants (constants_from b k ss)
constants_without_arguments b k [] = All-nil (λ f. f.domain ≡ [])
constants_without_arguments b k (s ∷ ss) =
    All-cons (λ f. f.domain ≡ []) (record { name = boxed b k; domain = []; range = s })
    (constants_from b (suc k) ss) refl (constants_without_arguments b (suc k) ss)

pub constants_sorts : (b k : ℕ) (ss : List (List ℕ)) → map (λ c. c.range) (constants_from b k ss) ≡ ss
constants_sorts b k [] = refl
constants_sorts b k (s ∷ ss) = ap (λ rs. s ∷ rs) (constants_sorts b (suc k) ss)

-- they may stand for an operator's arguments in an induction
pub constants_as_arguments : (b c k : ℕ) (f : PlainOperator) (t : Theory) → IsOlder b t → b < c
    → AreArguments t f (constants_from c k f.domain)
constants_as_arguments b c k f t h lt =
    record {
      new = constants_new b c k f.domain t h lt;
      constants = constants_without_arguments c k f.domain;
      sorts = constants_sorts c k f.domain;
    }

-- what a theory knows is as old as the theory
known_older : (b : ℕ) (t : Theory) (f : PlainOperator) → IsOlder b t → IsKnown t.operators f → IsOlderName b f.name
known_older b t f h (inl c) = All-contains (λ f. IsOlderName b f.name) t.operators f h c
known_older b t f h (inr (d, (s, p))) = subst (λ g. IsOlderName b g.name) (sym p) tt

mutual
  term_older : (b : ℕ) (t : Theory) → IsOlder b t → (a : Tree) → IsOver t.operators a → IsOlderTerm b a
  term_older b t h (var n s) o = tt
  term_older b t h (app f ts) o = (known_older b t f h o.0, terms_older b t h ts o.1)

  terms_older : (b : ℕ) (t : Theory) → IsOlder b t → (ts : Forest) → AllOver t.operators ts → AreOlderTerms b ts
  terms_older b t h none o = tt
  terms_older b t h (more a ts) o = (term_older b t h a o.0, terms_older b t h ts o.1)

-- so is what is stated over it
pub statement_older : (b : ℕ) (t : Theory) (s : Statement) → IsOlder b t → IsStatementOver t.operators s
    → IsOlderStatement b s
statement_older b t (Equation l r) h w = (term_older b t h l w.0.1, term_older b t h r w.1.1)
statement_older b t (Generated s fs) h w =
    All-weaker (λ g. IsKnown t.operators g × (g.range ≡ s)) (λ g. IsOlderName b g.name) (λ g p. known_older b t g h p.0)
    fs w
statement_older b t (Partitioned s fs) h w =
    All-weaker (λ g. IsKnown t.operators g × Contains g.domain s) (λ g. IsOlderName b g.name)
    (λ g p. known_older b t g h p.0) fs w

older_apart : (b c k : ℕ) (n : OperatorName) → b < c → IsOlderName b n → boxed c k ≢ n
older_apart b c k (plain n) lt h e = cc
older_apart b c k (boxed d j) lt h e = let p = same_box c k d j e in omega (arith, h, lt)
  where
    same_box : (c k d j : ℕ) → boxed c k ≡ boxed d j → c ≡ d
    same_box c k d j e = cc

older_not_placed : (b c k : ℕ) (ss : List (List ℕ)) (n : OperatorName) → b < c → IsOlderName b n
    → All (λ f. f.name ≢ n) (constants_from c k ss)
older_not_placed b c k [] n lt h = All-nil (λ f. f.name ≢ n)
older_not_placed b c k (s ∷ ss) n lt h =
    All-cons (λ f. f.name ≢ n) (record { name = boxed c k; domain = []; range = s }) (constants_from c (suc k) ss)
    (older_apart b c k n lt h) (older_not_placed b c (suc k) ss n lt h)

abbrev kept : List Variable → Option ℕ → PlainOperator → Forest → Tree
kept vs o f ts = unwrap_or (option_map (λ v. var v.name v.sort) (option_and_then (slice_get vs) o)) (app f ts)

-- a term without constants of the box, or of later ones, stays where the box's constants are freed
mutual
  pub older_stays : (b c k : ℕ) (ss : List (List ℕ)) (vs : List Variable) → b < c → (a : Tree) → IsOlderTerm b a
      → free_constants (constants_from c k ss) vs a ≡ a
  older_stays b c k ss vs lt (var n s) h = refl
  older_stays b c k ss vs lt (app f ts) h =
      ap (λ p. kept vs p f (freed_all (constants_from c k ss) vs ts))
      (not_placed (constants_from c k ss) f.name (older_not_placed b c k ss f.name lt h.0))
      ∙ ap (app f) (all_older_stay b c k ss vs lt ts h.1)

  all_older_stay : (b c k : ℕ) (ss : List (List ℕ)) (vs : List Variable) → b < c → (ts : Forest) → AreOlderTerms b ts
      → freed_all (constants_from c k ss) vs ts ≡ ts
  all_older_stay b c k ss vs lt none h = refl
  all_older_stay b c k ss vs lt (more a ts) h =
      λ i. more (older_stays b c k ss vs lt a h.0 i) (all_older_stay b c k ss vs lt ts h.1 i)
