-- Contexts: what their theories have, and what can be named in them is derivable.
use Rattle.std.proofs.Common.{◌≡◌, ℕ, suc, ◌==◌, ◌<◌, ◌≤◌, ◌≢◌, Bool, true, false, cond, inl, inr, List, [], ◌∷◌, ◌++◌}
use Rattle.std.proofs.Common.{All, AllPairs, Contains, Some, None, refl, sym, ◌∙◌, subst, arith}
use Rattle.std.proofs.lemmas.List.Elements.{All-nil, All-cons, All-append}
use Rattle.std.proofs.lemmas.List.Kept.{AllPairs-cons}
use Rattle.std.proofs.lemmas.Option.{option_and_then_some}
use Rattle.larch_base.proofs.Members.{contains_left, contains_right}
use Rattle.larch_base.proofs.Options.{some_inj}
use Rattle.larch_base.specs.ByNumber.{numbered}
use Rattle.larch_term.specs.Operator.{OperatorName, PlainOperator, boxed}
use Rattle.larch_term.specs.Statement.{IsStatementOver, IsWellSortedTheory}
use Rattle.larch_term.specs.declared.statement.Statement.{Statement}
use Rattle.larch_term.specs.declared.statement.Theory.{Theory}
use Rattle.larch_verify_meaning.proofs.CalculusBoxes.{new_name, older_later}
use Rattle.larch_verify_meaning.proofs.CalculusSorted.{extended_well_sorted, included_more}
use Rattle.larch_verify_meaning.specs.CalculusBoxes.{IsOlderName, IsOlder}
use Rattle.larch_verify_meaning.specs.CalculusDerivable.{Derivable, weaken}
use Rattle.larch_verify_meaning.specs.CalculusTheories.{extend, IsNewName, AreNew}
use Rattle.larch_certificate.specs.declared.line.BoxPart.{BoxPart}
use Rattle.larch_certificate.specs.declared.symbol.Symbol.TheVariants.{Own, Constant, BuiltIn}
use Rattle.larch_verify_meaning.specs.Context.{theory_of, find_line, find_open, find_closed, innermost, last_sort}
use Rattle.larch_verify_meaning.specs.Context.{find_symbol}
use Rattle.larch_verify_meaning.specs.Events.{box_constant, box_predicate, part_operator, operators_from, PlainBox}
use Rattle.larch_verify_meaning.specs.Events.{operators_of, Event, Said, Opened, Closed}
use Rattle.larch_verify_law.proofs.Told.{cond_either, numbered_contains}
use Rattle.larch_verify_law.proofs.Decoded.{Finds}

-- the theory in a box
abbrev pub inside : Theory → PlainBox → Theory
inside t b = extend t (operators_of b) b.hypotheses

-- the theory's own operators and statements are there in each context
pub own_operator : (t : Theory) (h : List Event) (f : PlainOperator) → Contains t.operators f
    → Contains (theory_of t h).operators f
own_operator t [] f c = c
own_operator t (Said n s ∷ h) f c = own_operator t h f c
own_operator t (Opened b ∷ h) f c = contains_left (theory_of t h).operators (operators_of b) f (own_operator t h f c)
own_operator t (Closed b s ∷ h) f c = own_operator t h f c

pub own_statement : (t : Theory) (h : List Event) (r : Statement) → Contains t.statements r
    → Contains (theory_of t h).statements r
own_statement t [] r c = c
own_statement t (Said n s ∷ h) r c = own_statement t h r c
own_statement t (Opened b ∷ h) r c = contains_left (theory_of t h).statements b.hypotheses r (own_statement t h r c)
own_statement t (Closed b s ∷ h) r c = own_statement t h r c

-- so are those of open boxes
pub open_operator : (t : Theory) (h : List Event) (m : ℕ) (b : PlainBox) → find_open h m ≡ Some b
    → (f : PlainOperator) → Contains (operators_of b) f → Contains (theory_of t h).operators f
open_operator t [] m b e f c = cc
open_operator t (Said n s ∷ h) m b e f c = open_operator t h m b e f c
open_operator t (Opened a ∷ h) m b e f c =
    cond_either (a.number == m) (Some a) (find_open h m) b e
    (λ p q. contains_right (theory_of t h).operators (operators_of a) f
    (subst (λ x. Contains (operators_of x) f) (sym (some_inj q)) c))
    (λ p q. contains_left (theory_of t h).operators (operators_of a) f (open_operator t h m b q f c))
open_operator t (Closed a s ∷ h) m b e f c = open_operator t h m b e f c

pub open_hypothesis : (t : Theory) (h : List Event) (m : ℕ) (b : PlainBox) → find_open h m ≡ Some b
    → (r : Statement) → Contains b.hypotheses r → Contains (theory_of t h).statements r
open_hypothesis t [] m b e r c = cc
open_hypothesis t (Said n s ∷ h) m b e r c = open_hypothesis t h m b e r c
open_hypothesis t (Opened a ∷ h) m b e r c =
    cond_either (a.number == m) (Some a) (find_open h m) b e
    (λ p q. contains_right (theory_of t h).statements a.hypotheses r
    (subst (λ x. Contains x.hypotheses r) (sym (some_inj q)) c))
    (λ p q. contains_left (theory_of t h).statements a.hypotheses r (open_hypothesis t h m b q r c))
open_hypothesis t (Closed a s ∷ h) m b e r c = open_hypothesis t h m b e r c

-- what a symbol means is known
pub symbol_known : (t : Theory) (h : List Event) → Finds (find_symbol t h) (theory_of t h).operators
symbol_known t h (Own k) sorts o e = inl (own_operator t h o (numbered_contains t.operators k o e))
symbol_known t h (Constant b k) sorts o e =
    option_and_then_some (λ box. numbered (operators_of box) k) (find_open h b) o e
    (λ box p q. inl (open_operator t h b box p o (numbered_contains (operators_of box) k o q)))
symbol_known t h (BuiltIn b) sorts o e = inr (b, (last_sort sorts, sym (some_inj e)))

-- a box's operators are new, and its hypotheses well sorted over all of them
pub record IsProper (t : Theory) (b : PlainBox) : Type 0 where
  pub new : AreNew t (operators_of b)
  pub sorted : All (IsStatementOver (t.operators ++ operators_of b)) b.hypotheses

-- a closed box's result is derivable in it
pub record Shows (t : Theory) (b : PlainBox) (s : Statement) : Type 0 where
  pub proper : IsProper t b
  pub derivable : Derivable (inside t b) s

-- what was said is derivable, open boxes are proper, and closed ones show their results
abbrev pub Holds : Theory → List Event → Type 0
Holds t [] = Unit {0}
Holds t (Said n s ∷ h) = Derivable (theory_of t h) s × Holds t h
Holds t (Opened b ∷ h) = IsProper (theory_of t h) b × Holds t h
Holds t (Closed b s ∷ h) = Shows (theory_of t h) b s × Holds t h

pub context_well_sorted : (t : Theory) → IsWellSortedTheory t → (h : List Event) → Holds t h
    → IsWellSortedTheory (theory_of t h)
context_well_sorted t w [] g = w
context_well_sorted t w (Said n s ∷ h) g = context_well_sorted t w h g.1
context_well_sorted t w (Opened b ∷ h) g =
    extended_well_sorted (theory_of t h) (operators_of b) b.hypotheses (context_well_sorted t w h g.1) g.0.sorted
context_well_sorted t w (Closed b s ∷ h) g = context_well_sorted t w h g.1

-- what a line that can be named said is derivable
pub line_derivable : (t : Theory) → IsWellSortedTheory t → (h : List Event) → Holds t h → (m : ℕ) (r : Statement)
    → find_line h m ≡ Some r → Derivable (theory_of t h) r
line_derivable t w [] g m r e = cc
line_derivable t w (Said n s ∷ h) g m r e =
    cond_either (n == m) (Some s) (find_line h m) r e (λ p q. subst (Derivable (theory_of t h)) (some_inj q) g.0)
    (λ p q. line_derivable t w h g.1 m r q)
line_derivable t w (Opened b ∷ h) g m r e =
    weaken (context_well_sorted t w h g.1) (included_more (theory_of t h) (operators_of b) b.hypotheses)
    (line_derivable t w h g.1 m r e)
line_derivable t w (Closed b s ∷ h) g m r e = line_derivable t w h g.1 m r e

-- a closed box that can be named shows its result
pub closed_shows : (t : Theory) (h : List Event) → Holds t h → (m : ℕ) (c : PlainBox × Statement)
    → find_closed h m ≡ Some c → Shows (theory_of t h) c.0 c.1
closed_shows t [] g m c e = cc
closed_shows t (Said n s ∷ h) g m c e = closed_shows t h g.1 m c e
closed_shows t (Opened b ∷ h) g m c e = cc
closed_shows t (Closed b s ∷ h) g m c e =
    cond_either (b.number == m) (Some (b, s)) (find_closed h m) c e
    (λ p q. subst (λ d. Shows (theory_of t h) d.0 d.1) (some_inj q) g.0) (λ p q. closed_shows t h g.1 m c q)

-- what the innermost open box adds
pub record IsInnermost (t : Theory) (h : List Event) (p : PlainBox × List Event) : Type 0 where
  pub theory : theory_of t h ≡ inside (theory_of t p.1) p.0
  pub proper : IsProper (theory_of t p.1) p.0
  pub holds : Holds t p.1

pub innermost_is : (t : Theory) (h : List Event) → Holds t h → (p : PlainBox × List Event) → innermost h ≡ Some p
    → IsInnermost t h p
innermost_is t [] g p e = cc
innermost_is t (Said n s ∷ h) g p e =
    let i = innermost_is t h g.1 p e in record { theory = i.theory; proper = i.proper; holds = i.holds }
innermost_is t (Opened b ∷ h) g p e =
    subst (IsInnermost t (Opened b ∷ h)) (some_inj e) (record { theory = refl; proper = g.0; holds = g.1 })
innermost_is t (Closed b s ∷ h) g p e =
    let i = innermost_is t h g.1 p e in record { theory = i.theory; proper = i.proper; holds = i.holds }

-- where no box is open the context's theory is the theory itself
pub no_box : (t : Theory) (h : List Event) → innermost h ≡ None → theory_of t h ≡ t
no_box t [] e = refl
no_box t (Said n s ∷ h) e = no_box t h e
no_box t (Opened b ∷ h) e = cc
no_box t (Closed b s ∷ h) e = no_box t h e

-- the parts of a box are named by its number and their own
either_name : (x : Bool) (b k : ℕ) (s : List ℕ)
    → (cond x (box_predicate b k s) (box_constant b k s)).name ≡ boxed b k
either_name true b k s = refl
either_name false b k s = refl

pub part_name : (b k : ℕ) (p : BoxPart) → (part_operator b k p).name ≡ boxed b k
part_name b k p = either_name p.predicate b k p.sort

parts_older : (b k : ℕ) (ps : List BoxPart) → All (λ f. IsOlderName b f.name) (operators_from b k ps)
parts_older b k [] = All-nil (λ f. IsOlderName b f.name)
parts_older b k (p ∷ ps) =
    All-cons (λ f. IsOlderName b f.name) (part_operator b k p) (operators_from b (suc k) ps)
    (subst (IsOlderName b) (sym (part_name b k p)) (same_number b k)) (parts_older b (suc k) ps)
  where
    same_number : (b k : ℕ) → IsOlderName b (boxed b k)
    same_number b k = omega arith

-- with the operators of a box, the box's number is the highest
pub older_inside : (n : ℕ) (b : PlainBox) (t : Theory) → IsOlder n t → n ≤ b.number → IsOlder b.number (inside t b)
older_inside n b t o le =
    All-append (λ f. IsOlderName b.number f.name) t.operators (operators_of b) (older_later n b.number t o le)
    (parts_older b.number 1 b.parts)

parts_new : (n c k : ℕ) (ps : List BoxPart) (t : Theory) → n < c → IsOlder n t
    → All (λ f. IsNewName t f.name) (operators_from c k ps)
parts_new n c k [] t lt o = All-nil (λ f. IsNewName t f.name)
parts_new n c k (p ∷ ps) t lt o =
    All-cons (λ f. IsNewName t f.name) (part_operator c k p) (operators_from c (suc k) ps)
    (subst (IsNewName t) (sym (part_name c k p)) (new_name n c k t lt o)) (parts_new n c (suc k) ps t lt o)

other_number : (b j k : ℕ) → j < k → boxed b j ≢ boxed b k
other_number b j k lt e = let p = same_number b j k e in omega (arith, lt)
  where
    same_number : (b j k : ℕ) → boxed b j ≡ boxed b k → j ≡ k
    same_number b j k e = cc

other_names : (b j k : ℕ) (n : OperatorName) (ps : List BoxPart) → n ≡ boxed b j → j < k
    → All (λ g. n ≢ g.name) (operators_from b k ps)
other_names b j k n [] e lt = All-nil (λ g. n ≢ g.name)
other_names b j k n (p ∷ ps) e lt =
    All-cons (λ g. n ≢ g.name) (part_operator b k p) (operators_from b (suc k) ps)
    (λ q. other_number b j k lt (sym e ∙ q ∙ part_name b k p)) (other_names b j (suc k) n ps e (omega (arith, lt)))

parts_different : (b k : ℕ) (ps : List BoxPart) → AllPairs (λ f g. f.name ≢ g.name) (operators_from b k ps)
parts_different b k [] = λ i j d lt within. absurd (omega arith)
parts_different b k (p ∷ ps) =
    AllPairs-cons (λ f g. f.name ≢ g.name) (part_operator b k p) (operators_from b (suc k) ps)
    (other_names b k (suc k) (part_operator b k p).name ps (part_name b k p) (omega arith))
    (parts_different b (suc k) ps)

-- the operators of a box with a number above those of the theory are new
pub box_new : (n : ℕ) (b : PlainBox) (t : Theory) → n < b.number → IsOlder n t → AreNew t (operators_of b)
box_new n b t lt o =
    record { names = parts_new n b.number 1 b.parts t lt o; different = parts_different b.number 1 b.parts }
