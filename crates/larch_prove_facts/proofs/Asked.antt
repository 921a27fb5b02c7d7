-- An instance that is asked for can be written.
use Rattle.std.specs.Prelude.{◌≡◌, ◌++◌, ◌∷◌, ◌<◌, ℕ, Bool, true, List, [], All, AllPairs, Contains, Option, None, Some}
use Rattle.std.specs.Prelude.{Ok, find, map, refl}
use Rattle.std.specs.List.{AllZip}
use Rattle.std.proofs.Common.{ap, ap₂, arith, subst, sym, ◌∙◌}
use Rattle.std.proofs.lemmas.List.Elements.{All-cons, All-contains, All-head, All-nil, All-tail}
use Rattle.larch_base.specs.declared.fact_name.FactLetter.TheVariants.{Derived}
use Rattle.larch_base.specs.declared.fact_name.FactName.{FactName}
use Rattle.larch_certificate_text.specs.LineText.{IsWord}
use Rattle.larch_complete_pairs.proofs.PairEntries.{all_apart}
use Rattle.larch_derive.specs.Predicates.{HasEquation, Known}
use Rattle.larch_derive.specs.declared.builder.Builder.{Builder}
use Rattle.larch_complete_pairs.specs.DeriveLinesRules.{AreKnownEntries, variable_in as variable_of}
use Rattle.larch_prove_work.specs.ProveAddingBeside.{IsApart}
use Rattle.larch_prove_facts.proofs.Written.{Differ, IsRead, all_read, both_named, entries_differ, found_passes}
use Rattle.larch_prove_facts.proofs.Undone.{may_go_on, undone_stands}
use Rattle.larch_prove_facts.specs.Entries.{MayStand, names_in, variables_both}
use Rattle.larch_prove_facts.specs.Instance.{MayInstantiate}
use Rattle.larch_prove_facts.specs.declared.instance.Asked.{Asked}
use Rattle.larch_prove_work.proofs.ProveInvariantReadWords.{term_read}
use Rattle.larch_prove_work.specs.ProveInvariantHolding.{HoldsLevels, HoldsProof}
use Rattle.larch_prove_meaning.proofs.LevelSorts.{ok_inj}
use Rattle.larch_prove_meaning.proofs.StepSorts.{read_done}
use Rattle.larch_prove_meaning.specs.Facts.{Fact, whole_name}
use Rattle.larch_prove_meaning.specs.Levels.{Proof}
use Rattle.larch_prove_meaning.specs.Named.{HasGivenNumber, IsNamedLevel, IsNamedProof}
use Rattle.larch_prove_meaning.specs.Steps.{has_name, instantiation, own_operators, read_lone, sides_or}
use Rattle.larch_prove_work.specs.Work.{MayWork}
use Rattle.larch_prove_work.specs.declared.work.Work.{Work}
use Rattle.larch_raw.specs.declared.equation.RawEquation.{RawEquation}
use Rattle.larch_rewrite_meaning.specs.Sides.{Sides}
use Rattle.larch_script_commands.proofs.Decided.{fact_Decides}
use Rattle.larch_script_commands.specs.declared.command.RawInstance.{RawInstance}
use Rattle.larch_sorts_meaning.proofs.ReadAnswers.{term_ok}
use Rattle.larch_sorts_meaning.proofs.Sorted.{well_sorted}
use Rattle.larch_sorts_meaning.specs.Read.{read_term}
use Rattle.larch_term.specs.Operator.{PlainOperator}
use Rattle.larch_term.specs.Sorts.{IsTermOver, sort_of}
use Rattle.larch_term.specs.Tree.{Tree}
use Rattle.larch_term.specs.declared.statement.Statement.{Statement}
use Rattle.larch_term.specs.declared.statement.Theory.{Theory}
use Rattle.larch_term.specs.declared.substitution.Entry.{Entry}
use Rattle.larch_term.specs.declared.variable.Variable.{Variable}
use Rattle.larch_derive.specs.VerifyMeaningMatching.{all_different}

-- ---- terms that are read

lone_read : (p : Proof) (s : List ℕ) (raw : RawEquation) (u : Tree) → read_lone p s raw ≡ Ok u
    → IsTermOver (own_operators p) u × (sort_of u ≡ s)
lone_read p s raw u k =
    let fs = own_operators p in
    let found = term_ok fs p.scope (Some s) raw u (read_done (read_term fs p.scope (Some s) raw) u k) in
    (well_sorted fs p.scope raw.left u found.1.0.0, found.1.0.1)

-- what holds of all that is read
each_read : (p : Proof) (e : Sides) (names : List (List ℕ)) (Q : Entry → Type 0)
    → ((i : RawInstance) (x : Entry) → IsRead p e names i x → Q x) → (is : List RawInstance) (es : List Entry)
    → AllZip (IsRead p e names) is es → All Q es
each_read p e names Q go [] [] z = All-nil Q
each_read p e names Q go [] (d ∷ ds) z = absurd z
each_read p e names Q go (i ∷ is) [] z = absurd z
each_read p e names Q go (i ∷ is) (d ∷ ds) (y, z) =
    All-cons Q d ds (go i d y) (each_read p e names Q go is ds z)

-- the builder holds the proof
work_held : (t : Theory) (s : Statement) (w : Work) (p : Proof) → (m : MayWork t s w p)
    → HoldsProof s w.draft.builder p
    ((undone_stands t s w p (may_go_on t s w p m)).0 ∷ (undone_stands t s w p (may_go_on t s w p m)).1.0)
work_held t s w p m =
    let z = undone_stands t s w p (may_go_on t s w p m) in
    record {
      levels = subst (λ u. HoldsLevels u s w.draft.builder p.constants (p.current ∷ p.below) (z.0 ∷ z.1.0))
          (sym m.work.whole) z.1.1.holds;
      idle = z.1.1.idle;
    }

-- the terms are in words over the theory and the constants of the block
pub entries_stand : (t : Theory) (s : Statement) (w : Work) (p : Proof) (e : Sides) (is : List RawInstance)
    (es : List Entry) → MayWork t s w p → instantiation p e (names_in is) is ≡ Ok es
    → All (MayStand t w.settings.constants.value) es
entries_stand t s w p e is es m h =
    let z = undone_stands t s w p (may_go_on t s w p m) in
    each_read p e (names_in is) (MayStand t w.settings.constants.value) (λ i x y. (
      subst (λ fs. IsTermOver fs x.term)
          (ap₂ (λ (u : Theory) (cs : List PlainOperator). u.operators ++ cs) m.work.whole
          (sym m.work.settings.constants))
          (lone_read p x.sort i.term x.term y.term).0,
      term_read s w.draft.builder p (z.0 ∷ z.1.0) x.sort i.term x.term (work_held t s w p m) m.reached.scope y.term,
    )) is es (all_read p e (names_in is) is es h)

-- ---- entries

known_each : (P : Entry → Type 0) (b : Builder) (es : List Entry) → All (λ x. Known b x.term) es → All P es
    → ((x : Entry) → Known b x.term → P x → Known b x.term × (sort_of x.term ≡ x.sort) × IsWord x.name)
    → AreKnownEntries b es
known_each P b es k h go = λ i d l. go _ (k i d l) (h i d l)

pub entries_known : (p : Proof) (e : Sides) (is : List RawInstance) (es : List Entry) (b : Builder) (n : ℕ)
    → HasEquation b n e.left e.right → All (λ x. Known b x.term) es → instantiation p e (names_in is) is ≡ Ok es
    → AreKnownEntries b es
entries_known p e is es b n said k h =
    let words = both_named b n e said in
    known_each (λ x. (sort_of x.term ≡ x.sort) × IsWord x.name) b es k
    (each_read p e (names_in is) (λ x. (sort_of x.term ≡ x.sort) × IsWord x.name) (λ i x y. (
      (lone_read p x.sort i.term x.term y.term).1,
      All-contains (λ (v : Variable). IsWord v.name) (variables_both e) (record { name = x.name; sort = x.sort })
          words y.variable,
    )) is es (all_read p e (names_in is) is es h))
    (λ x q r. (q, r.0, r.1))

-- ---- names

apart_by : (n : FactName) (fs : List Fact) (h d : ℕ) (o : Option Fact) (e : Sides)
    → All (HasGivenNumber h d) fs → find (has_name n) fs ≡ o → sides_or o ≡ Ok e → IsApart n (whole_name Derived d)
apart_by n fs h d None e g q k = absurd (cc)
apart_by n fs h d (Some f) e g q k = λ letter number.
    let y = found_passes (has_name n) fs f q in
    let same : n ≡ f.name = (fact_Decides n f.name).0 y.passes in
    let given = All-contains (HasGivenNumber h d) fs f g y.there in
    let less : f.name.number < d = given.1 (sym (ap (λ (m : FactName). m.letter) same) ∙ letter) in
    let is : n.number ≡ f.name.number = ap (λ (m : FactName). m.number) same in
    absurd (omega (arith, less, is, number))

-- the next name that a command derives isn't the fact's
pub next_apart : (p : Proof) (n : FactName) (e : Sides) → IsNamedProof p
    → sides_or (find (has_name n) p.current.facts.rules) ≡ Ok e → IsApart n (whole_name Derived p.next_derived)
next_apart p n e w k =
    let level = All-head (IsNamedLevel p.next_hypothesis p.next_derived) p.current p.below w in
    apart_by n p.current.facts.rules p.next_hypothesis p.next_derived (find (has_name n) p.current.facts.rules) e
    level.given refl k

-- ---- what is asked for

pub may_instantiate : (p : Proof) (is : List RawInstance) (b : Builder) (asked : Asked) (e : Sides) (number : ℕ)
    → record { left = asked.equation.left; right = asked.equation.right } ≡ e
    → HasEquation b asked.equation.line asked.equation.left asked.equation.right
    → All (λ x. Known b x.term) asked.entries → instantiation p e (names_in is) is ≡ Ok asked.entries
    → IsNamedProof p → sides_or (find (has_name asked.fact) p.current.facts.rules) ≡ Ok e
    → p.next_derived ≡ number → MayInstantiate b number asked
may_instantiate p is b asked e number same said known h named found next = record {
  said = said;
  entries = entries_known p e is asked.entries b asked.equation.line
      (subst (λ (d : Sides). HasEquation b asked.equation.line d.left d.right) same said) known h;
  different = all_apart asked.entries (entries_differ p e is asked.entries h);
  apart = subst (λ m. IsApart asked.fact (whole_name Derived m)) next (next_apart p asked.fact e named found);
}
