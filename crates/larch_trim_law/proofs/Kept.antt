-- What is left of what has happened where only some lines are kept, and what lines say there.
use Rattle.std.proofs.Common.{◌≡◌, ℕ, ◌==◌, Bool, true, false, cond, List, [], ◌∷◌, ◌++◌, map, flat_map, Contains}
use Rattle.std.proofs.Common.{Some, None, option_map, option_and_then, refl, sym, ◌∙◌, ap, subst, ◌&&◌}
use Rattle.std.proofs.Common.{bytes_eq}
use Rattle.std.specs.Option.{option_map_or}
use Rattle.std.proofs.lemmas.Bool.{ne_eqb}
use Rattle.larch_base.proofs.Members.{contains_here, contains_later, contains_right}
use Rattle.larch_base.proofs.Options.{some_inj}
use Rattle.larch_base.specs.ByNumber.{numbered}
use Rattle.larch_term.specs.Operator.{PlainOperator}
use Rattle.larch_term.specs.Sorts.{sort_of}
use Rattle.larch_term.specs.Tree.{Tree}
use Rattle.larch_term.specs.declared.statement.Statement.{Statement}
use Rattle.larch_term.specs.declared.statement.Statement.TheVariants as statement
use Rattle.larch_term.specs.declared.statement.Theory.{Theory}
use Rattle.larch_calculus.specs.Observation.{Observation, observations_of}
use Rattle.larch_certificate.specs.declared.line.CodedVar.{CodedVar}
use Rattle.larch_certificate.specs.declared.line.Line.{Line}
use Rattle.larch_certificate.specs.declared.line.Line.TheVariants.{Axiom, Hyp, Row, Refl, Sym, Inst, Repl, Equal}
use Rattle.larch_certificate.specs.declared.line.Line.TheVariants.{BoxLine, Done, Fresh, Cases, Induct, Observe}
use Rattle.larch_certificate.specs.declared.line.Line.TheVariants.{Generated, Partitioned}
use Rattle.larch_certificate.specs.declared.symbol.Symbol.{Symbol}
use Rattle.larch_certificate.specs.declared.symbol.Symbol.TheVariants.{Own, Constant, BuiltIn}
use Rattle.larch_verify_meaning.specs.BoxRules.{freed_result, cases_of, induct_over, shows_case, shows_cases}
use Rattle.larch_verify_meaning.specs.ClauseRules.{observed_equal, own_operators, generated_by, partitioned_by}
use Rattle.larch_verify_meaning.specs.ClauseRules.{shows_same, show_same}
use Rattle.larch_verify_meaning.specs.Context.{find_line, find_open, find_closed, find_symbol, innermost}
use Rattle.larch_verify_meaning.specs.Decoding.{each, decode_equation, decode_binding}
use Rattle.larch_verify_meaning.specs.Events.{PlainBox, operators_of, Event, Said, Opened, Closed}
use Rattle.larch_verify_meaning.specs.Matching.{all_different, variable_of}
use Rattle.larch_verify_meaning.specs.Rules.{exchange_sides, instance_by, replaced_variable, replace_right}
use Rattle.larch_verify_meaning.specs.Rules.{stated_equal, refl_says}
use Rattle.larch_verify_meaning.specs.Run.{judge}
use Rattle.larch_trim_meaning.specs.Needed.{boxes_in_equation, boxes_in_binding, names}

-- the line that an event is of: the one that said something, or that opened the box
abbrev pub number_of : Event → ℕ
number_of (Said n s) = n
number_of (Opened b) = b.number
number_of (Closed b s) = b.number

-- what holds of the number of each open box
abbrev pub AllOpen : (ℕ → Type 0) → List Event → Type 0
AllOpen Q [] = Unit {0}
AllOpen Q (Said n s ∷ h) = AllOpen Q h
AllOpen Q (Opened b ∷ h) = Q b.number × AllOpen Q h
AllOpen Q (Closed b s ∷ h) = AllOpen Q h

pub innermost_open : (Q : ℕ → Type 0) (h : List Event) (p : PlainBox × List Event) → AllOpen Q h → innermost h ≡ Some p
    → Q p.0.number × AllOpen Q p.1
innermost_open Q [] p o e = cc
innermost_open Q (Said n s ∷ h) p o e = innermost_open Q h p o e
innermost_open Q (Opened b ∷ h) p o e = subst (λ q. Q q.0.number × AllOpen Q q.1) (some_inj e) o
innermost_open Q (Closed b s ∷ h) p o e = innermost_open Q h p o e

pub open_inside : (Q : ℕ → Type 0) (h : List Event) (p : PlainBox × List Event) → innermost h ≡ Some p → Q p.0.number
    → AllOpen Q p.1 → AllOpen Q h
open_inside Q [] p e q o = cc
open_inside Q (Said n s ∷ h) p e q o = open_inside Q h p e q o
open_inside Q (Opened b ∷ h) p e q o =
    let same = some_inj e in subst (λ r. Q r.0.number × AllOpen Q r.1) (sym same) (q, o)
open_inside Q (Closed b s ∷ h) p e q o = open_inside Q h p e q o

pub none_open : (Q : ℕ → Type 0) (h : List Event) → innermost h ≡ None → AllOpen Q h
none_open Q [] e = tt
none_open Q (Said n s ∷ h) e = none_open Q h e
none_open Q (Opened b ∷ h) e = absurd (nothing (b, h) e)
  where
    nothing : (p : PlainBox × List Event) → Some p ≡ None → ⊥
    nothing p e = cc
none_open Q (Closed b s ∷ h) e = none_open Q h e

-- ---- what is left

module _ (k : ℕ → Bool) where
  abbrev pub IsKept : ℕ → Type 0
  IsKept n = k n ≡ true

  -- the events of lines and boxes that are kept
  abbrev pub kept : List Event → List Event
  kept [] = []
  kept (Said n s ∷ h) = cond (k n) (Said n s ∷ kept h) (kept h)
  kept (Opened b ∷ h) = cond (k b.number) (Opened b ∷ kept h) (kept h)
  kept (Closed b s ∷ h) = cond (k b.number) (Closed b s ∷ kept h) (kept h)

  -- what is kept stands in boxes that are kept
  abbrev pub Coherent : List Event → Type 0
  Coherent [] = Unit {0}
  Coherent (e ∷ h) = (k (number_of e) ≡ true → AllOpen IsKept h) × Coherent h

  apart : (m n : ℕ) → k m ≡ false → k n ≡ true → (m == n) ≡ false
  apart m n p q = ne_eqb m n (λ e. absurd (let w : k n ≡ false = subst (λ i. k i ≡ false) e p in cc))

  line_either : (m n : ℕ) (s : Statement) (g h : List Event) → k n ≡ true → find_line g n ≡ find_line h n → (b : Bool)
      → k m ≡ b → find_line (cond b (Said m s ∷ g) g) n ≡ cond (m == n) (Some s) (find_line h n)
  line_either m n s g h p e true q = ap (cond (m == n) (Some s)) e
  line_either m n s g h p e false q = e ∙ sym (ap (λ b. cond b (Some s) (find_line h n)) (apart m n q p))

  opened_passes : (c : PlainBox) (g : List Event) (n : ℕ) (b : Bool)
      → find_line (cond b (Opened c ∷ g) g) n ≡ find_line g n
  opened_passes c g n true = refl
  opened_passes c g n false = refl

  closed_passes : (c : PlainBox) (s : Statement) (g : List Event) (n : ℕ) (b : Bool)
      → find_line (cond b (Closed c s ∷ g) g) n ≡ find_line g n
  closed_passes c s g n true = refl
  closed_passes c s g n false = refl

  -- what a kept line said is found
  pub line_kept : (h : List Event) (n : ℕ) → k n ≡ true → find_line (kept h) n ≡ find_line h n
  line_kept [] n p = refl
  line_kept (Said m s ∷ h) n p = line_either m n s (kept h) h p (line_kept h n p) (k m) refl
  line_kept (Opened c ∷ h) n p = opened_passes c (kept h) n (k c.number) ∙ line_kept h n p
  line_kept (Closed c s ∷ h) n p = closed_passes c s (kept h) n (k c.number) ∙ line_kept h n p

  said_shuts : (m : ℕ) (s : Statement) (g : List Event) (n : ℕ) (b : Bool)
      → find_open (cond b (Said m s ∷ g) g) n ≡ find_open g n
  said_shuts m s g n true = refl
  said_shuts m s g n false = refl

  closed_shuts : (c : PlainBox) (s : Statement) (g : List Event) (n : ℕ) (b : Bool)
      → find_open (cond b (Closed c s ∷ g) g) n ≡ find_open g n
  closed_shuts c s g n true = refl
  closed_shuts c s g n false = refl

  -- where all open boxes are kept, all are found
  pub open_kept : (h : List Event) → AllOpen IsKept h → (n : ℕ) → find_open (kept h) n ≡ find_open h n
  open_kept [] o n = refl
  open_kept (Said m s ∷ h) o n = said_shuts m s (kept h) n (k m) ∙ open_kept h o n
  open_kept (Opened c ∷ h) o n =
      ap (λ b. find_open (cond b (Opened c ∷ kept h) (kept h)) n) o.0
      ∙ ap (cond (c.number == n) (Some c)) (open_kept h o.1 n)
  open_kept (Closed c s ∷ h) o n = closed_shuts c s (kept h) n (k c.number) ∙ open_kept h o n

  said_ends : (m : ℕ) (s : Statement) (g : List Event) (n : ℕ) (b : Bool)
      → find_closed (cond b (Said m s ∷ g) g) n ≡ find_closed g n
  said_ends m s g n true = refl
  said_ends m s g n false = refl

  closed_either : (c : PlainBox) (n : ℕ) (s : Statement) (g h : List Event) → k n ≡ true
      → find_closed g n ≡ find_closed h n → (b : Bool) → k c.number ≡ b
      → find_closed (cond b (Closed c s ∷ g) g) n ≡ cond (c.number == n) (Some (c, s)) (find_closed h n)
  closed_either c n s g h p e true q = ap (cond (c.number == n) (Some (c, s))) e
  closed_either c n s g h p e false q =
      e ∙ sym (ap (λ b. cond b (Some (c, s)) (find_closed h n)) (apart c.number n q p))

  -- and so is a kept closed one
  pub closed_kept : (h : List Event) → AllOpen IsKept h → (n : ℕ) → k n ≡ true
      → find_closed (kept h) n ≡ find_closed h n
  closed_kept [] o n p = refl
  closed_kept (Said m s ∷ h) o n p = said_ends m s (kept h) n (k m) ∙ closed_kept h o n p
  closed_kept (Opened c ∷ h) o n p = ap (λ b. find_closed (cond b (Opened c ∷ kept h) (kept h)) n) o.0
  closed_kept (Closed c s ∷ h) o n p =
      closed_either c n s (kept h) h p (closed_kept h o n p) (k c.number) refl

  said_inside : (m : ℕ) (s : Statement) (g : List Event) (b : Bool) → innermost (cond b (Said m s ∷ g) g) ≡ innermost g
  said_inside m s g true = refl
  said_inside m s g false = refl

  closed_inside : (c : PlainBox) (s : Statement) (g : List Event) (b : Bool)
      → innermost (cond b (Closed c s ∷ g) g) ≡ innermost g
  closed_inside c s g true = refl
  closed_inside c s g false = refl

  -- the innermost box is the same
  pub innermost_kept : (h : List Event) → AllOpen IsKept h
      → innermost (kept h) ≡ option_map (λ p. (p.0, kept p.1)) (innermost h)
  innermost_kept [] o = refl
  innermost_kept (Said m s ∷ h) o = said_inside m s (kept h) (k m) ∙ innermost_kept h o
  innermost_kept (Opened c ∷ h) o = ap (λ b. innermost (cond b (Opened c ∷ kept h) (kept h))) o.0
  innermost_kept (Closed c s ∷ h) o = closed_inside c s (kept h) (k c.number) ∙ innermost_kept h o

  said_goes : (m : ℕ) (s : Statement) (h : List Event) (p : PlainBox × List Event) → innermost h ≡ Some p
      → k p.0.number ≡ false → (k m ≡ true → AllOpen IsKept h) → (b : Bool) → k m ≡ b
      → cond b (Said m s ∷ kept h) (kept h) ≡ kept h
  said_goes m s h p e q o true r =
      absurd (let w = (innermost_open IsKept h p (o r) e).0 in let v = sym w ∙ q in cc)
  said_goes m s h p e q o false r = refl

  closed_goes : (c : PlainBox) (s : Statement) (h : List Event) (p : PlainBox × List Event) → innermost h ≡ Some p
      → k p.0.number ≡ false → (k c.number ≡ true → AllOpen IsKept h) → (b : Bool) → k c.number ≡ b
      → cond b (Closed c s ∷ kept h) (kept h) ≡ kept h
  closed_goes c s h p e q o true r =
      absurd (let w = (innermost_open IsKept h p (o r) e).0 in let v = sym w ∙ q in cc)
  closed_goes c s h p e q o false r = refl

  -- in a box that isn't kept nothing is
  pub nothing_kept : (h : List Event) (p : PlainBox × List Event) → innermost h ≡ Some p → k p.0.number ≡ false
      → Coherent h → kept h ≡ kept p.1
  nothing_kept [] p e q c = cc
  nothing_kept (Said m s ∷ h) p e q c =
      said_goes m s h p e q c.0 (k m) refl ∙ nothing_kept h p e q c.1
  nothing_kept (Opened b ∷ h) p e q c =
      let same = some_inj e in
      ap (λ x. cond x (Opened b ∷ kept h) (kept h)) (ap (λ r. k r.0.number) same ∙ q) ∙ ap (λ r. kept r.1) same
  nothing_kept (Closed b s ∷ h) p e q c =
      closed_goes b s h p e q c.0 (k b.number) refl ∙ nothing_kept h p e q c.1

  pub coherent_inside : (h : List Event) (p : PlainBox × List Event) → innermost h ≡ Some p → Coherent h
      → (k p.0.number ≡ true → AllOpen IsKept p.1) × Coherent p.1
  coherent_inside [] p e c = cc
  coherent_inside (Said m s ∷ h) p e c = coherent_inside h p e c.1
  coherent_inside (Opened b ∷ h) p e c =
      subst (λ r. (k r.0.number ≡ true → AllOpen IsKept r.1) × Coherent r.1) (some_inj e) c
  coherent_inside (Closed b s ∷ h) p e c = coherent_inside h p e c.1

-- ---- what lines say where what they name is found alike

-- a number names the same
abbrev pub Alike : List Event → List Event → ℕ → Type 0
Alike h g n = (find_line g n ≡ find_line h n) × (find_closed g n ≡ find_closed h n)

module _ (t : Theory) (h g : List Event) (opens : (b : ℕ) → find_open g b ≡ find_open h b) where
  abbrev AllAlike : List ℕ → Type 0
  AllAlike ns = (n : ℕ) → Contains ns n → Alike h g n

  symbol_alike : (y : Symbol) (sorts : List (List ℕ)) → find_symbol t g y sorts ≡ find_symbol t h y sorts
  symbol_alike (Own i) sorts = refl
  symbol_alike (Constant b i) sorts = ap (option_and_then (λ box. numbered (operators_of box) i)) (opens b)
  symbol_alike (BuiltIn b) sorts = refl

  pub finds : find_symbol t g ≡ find_symbol t h
  finds = λ i y sorts. symbol_alike y sorts i

  cases_alike : (x : CodedVar) (e : Statement) (fs : List PlainOperator) (bs : List ℕ) → AllAlike bs
      → shows_cases g x e fs bs ≡ shows_cases h x e fs bs
  cases_alike x (statement.Equation l r) [] [] a = refl
  cases_alike x (statement.Equation l r) [] (b ∷ bs) a = refl
  cases_alike x (statement.Equation l r) (f ∷ fs) [] a = refl
  cases_alike x (statement.Equation l r) (f ∷ fs) (b ∷ bs) a =
      let one = (a b (contains_here b bs)).1 in
      let all = cases_alike x (statement.Equation l r) fs bs (λ n c. a n (contains_later b n bs c)) in
      λ i. option_map_or (shows_case x l r f) (one i) false && all i
  cases_alike x (statement.Generated s os) fs bs a = refl
  cases_alike x (statement.Partitioned s os) fs bs a = refl

  induct_alike : (x : CodedVar) (bs : List ℕ) → AllAlike bs → (e c : Statement)
      → induct_over g x bs e c ≡ induct_over h x bs e c
  induct_alike x bs a e (statement.Equation l r) = refl
  induct_alike x bs a e (statement.Generated s fs) =
      ap (λ b. cond (bytes_eq s x.sort && b) (Some e) None) (cases_alike x e fs bs a)
  induct_alike x bs a e (statement.Partitioned s fs) = refl

  same_alike : (l r : Tree) (ws : List Observation) (ns : List ℕ) → AllAlike ns
      → show_same g l r ws ns ≡ show_same h l r ws ns
  same_alike l r [] [] a = refl
  same_alike l r [] (n ∷ ns) a = refl
  same_alike l r (w ∷ ws) [] a = refl
  same_alike l r (w ∷ ws) (n ∷ ns) a =
      let one = (a n (contains_here n ns)).0 in
      let all = same_alike l r ws ns (λ m c. a m (contains_later n m ns c)) in
      λ i. option_map_or (shows_same l r w) (one i) false && all i

  observed_alike : (ns : List ℕ) → AllAlike ns → (e c : Statement) → observed_equal g ns e c ≡ observed_equal h ns e c
  observed_alike ns a (statement.Equation l r) (statement.Equation p q) = refl
  observed_alike ns a (statement.Equation l r) (statement.Generated s fs) = refl
  observed_alike ns a (statement.Equation l r) (statement.Partitioned s os) =
      ap (λ b. cond (bytes_eq (sort_of l) s && b) (Some (statement.Equation l r)) None)
      (same_alike l r (observations_of s os) ns a)
  observed_alike ns a (statement.Generated s fs) c = refl
  observed_alike ns a (statement.Partitioned s fs) c = refl

  pub judge_alike : (l : Line) → AllAlike (names l) → judge t g l ≡ judge t h l
  judge_alike (Axiom n) a = refl
  judge_alike (Hyp b n) a = ap (option_and_then (λ box. numbered box.hypotheses n)) (opens b)
  judge_alike (Row n s) a = refl
  judge_alike (Refl c) a = ap (λ f. refl_says f c) finds
  judge_alike (Sym n) a = ap (option_and_then exchange_sides) (a n (contains_here n [])).0
  judge_alike (Inst n bs) a =
      let one = (a n (contains_here n (flat_map boxes_in_binding bs))).0 in
      λ i. cond (all_different (map replaced_variable bs))
      (option_and_then (λ es. option_and_then (instance_by es) (one i)) (each (decode_binding (finds i)) bs)) None
  judge_alike (Repl n p m) a =
      let one = (a n (contains_here n (m ∷ []))).0 in
      let two = (a m (contains_later n m (m ∷ []) (contains_here m []))).0 in
      λ i. option_and_then (λ e. option_and_then (replace_right p e) (two i)) (one i)
  judge_alike (Equal n) a = ap (option_and_then stated_equal) (a n (contains_here n [])).0
  judge_alike (BoxLine ps es) a = refl
  judge_alike Done a = refl
  judge_alike (Fresh b vs) a =
      ap (option_and_then (λ c. freed_result c.0 c.1 (map variable_of vs))) (a b (contains_here b [])).1
  judge_alike (Cases b c) a =
      let one = (a b (contains_here b (c ∷ []))).1 in
      let two = (a c (contains_later b c (c ∷ []) (contains_here c []))).1 in
      λ i. option_and_then (λ d. option_and_then (cases_of d) (two i)) (one i)
  judge_alike (Induct n x e bs) a =
      let es = boxes_in_equation e in
      let one = (a n (contains_here n (es ++ bs))).0 in
      let over = induct_alike x bs (λ m c. a m (contains_later n m (es ++ bs) (contains_right es bs m c))) in
      λ i. option_and_then (λ q. option_and_then (λ c. over q c i) (one i)) (decode_equation (finds i) e)
  judge_alike (Observe n e ns) a =
      let es = boxes_in_equation e in
      let one = (a n (contains_here n (es ++ ns))).0 in
      let over = observed_alike ns (λ m c. a m (contains_later n m (es ++ ns) (contains_right es ns m c))) in
      λ i. option_and_then (λ q. option_and_then (λ c. over q c i) (one i)) (decode_equation (finds i) e)
  judge_alike (Generated b s ks) a =
      ap (option_and_then (λ c. option_and_then (generated_by s c) (own_operators t ks))) (a b (contains_here b [])).1
  judge_alike (Partitioned b s ks) a =
      ap (option_and_then (λ c. option_and_then (partitioned_by s c) (own_operators t ks))) (a b (contains_here b [])).1

  -- a box that opens in both
  pub opened_alike : (c : PlainBox) (b : ℕ) → find_open (Opened c ∷ g) b ≡ find_open (Opened c ∷ h) b
  opened_alike c b = ap (cond (c.number == b) (Some c)) (opens b)
