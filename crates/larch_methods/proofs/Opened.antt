-- Boxes that are opened, and what is known there.
use Rattle.std.specs.Prelude.{◌≡◌, ℕ, List, [], ◌∷◌, ◌++◌, map, All, Contains}
use Rattle.std.proofs.Common.{ap, sym, subst, ◌∙◌}
use Rattle.std.proofs.lemmas.List.Elements.{All-cons, All-head, All-nil, All-tail}
use Rattle.larch_base.proofs.Members.{contains_here, contains_later, contains_right}
use Rattle.std.proofs.lemmas.List.Elements.{All-contains}
use Rattle.larch_term.specs.Operator.{PlainOperator}
use Rattle.larch_term.specs.Sorts.{sort_of, IsKnown, IsTermOver}
use Rattle.larch_term.specs.Tree.{Tree}
use Rattle.larch_term.specs.declared.statement.Statement.{Statement}
use Rattle.larch_term.specs.declared.variable.Variable.{Variable}
use Rattle.larch_calculus.proofs.TermLawSubstitutions.{substituted_sort}
use Rattle.larch_calculus.specs.Formula.{constant}
use Rattle.larch_calculus.specs.Freed.{constants_for}
use Rattle.larch_calculus.specs.Observation.{Observation, observer_term, places_of_sort}
use Rattle.larch_calculus.proofs.Freeing.{constants_fit}
use Rattle.larch_calculus.proofs.Observed.{observed_over}
use Rattle.larch_calculus.proofs.RenamedHypotheses.{observed_renamed}
use Rattle.larch_derive.specs.CertificateTextLineText.{IsWord}
use Rattle.larch_derive.specs.Builder.{IsOpened, boxes_in, theory_in}
use Rattle.larch_derive.specs.OpenBox.{naming}
use Rattle.larch_derive.specs.Predicates.{Known, HasNoBadLine, operators_at, written_term}
use Rattle.larch_derive.specs.declared.builder.Builder.{Builder}
use Rattle.larch_derive.specs.declared.open_box.OpenBox.{OpenBox}
use Rattle.larch_derive.proofs.Growth.{extends_grows, extends_refl, grown_known, grows_alike, known_stands}
use Rattle.larch_derive.proofs.Unchanged.{known_in_boxes, naming_faithful, own_in_lines}
use Rattle.larch_derive_lines.specs.Rules.{AreKnownEntries}
use Rattle.larch_derive_lines.proofs.Instances.{known_substituted}
use Rattle.larch_derive_clauses.specs.DeriveBoxesBoxes.{AreOwnConstants, MaySuppose, Opens}
use Rattle.larch_derive_clauses.proofs.DeriveBoxesFreshness.{sort_written}
use Rattle.larch_derive_clauses.proofs.DeriveBoxesKnowing.{constant_known}
use Rattle.larch_derive_clauses.proofs.DeriveBoxesOpening.{opened_boxes, opened_known, opens}
use Rattle.larch_derive_clauses.proofs.DeriveBoxesWords.{observer_worded}
use Rattle.larch_derive.specs.Words.{IsWordedOperator, AreWordedOperators}
use Rattle.larch_methods.specs.Inside.{IsInside, closed_in}
use Rattle.larch_methods.specs.Methods.{IsKnownFormula}
use Rattle.larch_methods.specs.Opening.{MayOpen}

-- ---- opening

pub opened_with : (a b : Builder) (cs ds : List PlainOperator) (hs : List Statement) (n : ℕ) → IsOpened a b cs hs n
    → ds ≡ cs → MayOpen a cs hs → Opens a b (record { number = n; constants = ds }) hs
opened_with a b cs ds hs n o e m =
    subst (λ es. Opens a b (record { number = n; constants = es }) hs) (sym e)
    (opens a b n cs hs o m.stands m.others (m.supposed n) m.parts)

pub begins_inside : (a b : Builder) (x : OpenBox) (vs : List Variable) → Opens a b x []
    → AreOwnConstants (boxes_in a) x → map (λ c. c.range) x.constants ≡ map (λ v. v.sort) vs
    → All (λ v. IsWord v.name) vs → IsInside a b x vs
begins_inside a b x vs o own e n =
    record { opened = b; opens = o; grows = extends_grows b b (extends_refl b); own = own; sorts = e; names = n }

pub may_open_bare : (b : Builder) (cs : List PlainOperator) → HasNoBadLine b
    → All (λ c. IsKnown (theory_in b).operators c → ⊥) cs → AreWordedOperators cs → MayOpen b cs []
may_open_bare b cs st o w = record {
  stands = st;
  others = o;
  parts = w;
  supposed = λ n. All-nil (MaySuppose b (record { number = n; constants = cs }));
}

-- ---- constants in the places of variables

entries_known : (b : Builder) (vs : List Variable) (cs : List PlainOperator)
    → ((c : PlainOperator) → Contains cs c → Known b (constant c)) → map (λ c. c.range) cs ≡ map (λ v. v.sort) vs
    → All (λ v. IsWord v.name) vs → AreKnownEntries b (constants_for vs cs)
entries_known b [] cs k e n = All-nil (λ d. Known b d.term × (sort_of d.term ≡ d.sort) × IsWord d.name)
entries_known b (v ∷ vs) [] k e n = All-nil (λ d. Known b d.term × (sort_of d.term ≡ d.sort) × IsWord d.name)
entries_known b (v ∷ vs) (c ∷ cs) k e n =
    let p : map (λ c. c.range) cs ≡ map (λ v. v.sort) vs = cc in
    let q : c.range ≡ v.sort = cc in
    All-cons (λ d. Known b d.term × (sort_of d.term ≡ d.sort) × IsWord d.name)
    (record { name = v.name; sort = v.sort; term = constant c }) (constants_for vs cs)
    (k c (contains_here c cs), q, All-head (λ v. IsWord v.name) v vs n)
    (entries_known b vs cs (λ d i. k d (contains_later c d cs i)) p (All-tail (λ v. IsWord v.name) v vs n))

-- a known formula is known with the constants of a shared box in the places of variables
pub closed_known : (a b : Builder) (x : OpenBox) (vs : List Variable) (g : Tree) → IsInside a b x vs
    → IsKnownFormula a g → IsKnownFormula b (closed_in vs x g)
closed_known a b x vs g i k =
    let there = grown_known i.opened b g i.grows (opened_known a i.opened x [] g i.opens k.known) in
    let alike = grows_alike i.opened b i.grows in
    let boxes : boxes_in b ≡ boxes_in a ++ x ∷ [] = alike.1 ∙ (opened_boxes a i.opened x [] i.opens).1 in
    let within =
    subst (λ bs. Contains bs x) (sym boxes) (contains_right (boxes_in a) (x ∷ []) x (contains_here x [])) in
    let fit = constants_fit vs x.constants i.own.constants i.sorts in
    record {
      known = known_substituted b (constants_for vs x.constants) g there
          (entries_known b vs x.constants
          (λ c d. constant_known b x c (known_stands b g there) within d
          (All-contains (λ f. f.domain ≡ []) x.constants c i.own.constants d)) i.sorts i.names);
      sort = substituted_sort (constants_for vs x.constants) g fit ∙ k.sort;
    }

-- ---- what observers show

-- what an observer of the theory shows of a known term is known
pub observed_known : (b : Builder) (names : ℕ → List ℕ) (s : List ℕ) (w : Observation) (t : Tree)
    → IsKnown (theory_in b).operators w.observer → Contains (places_of_sort s 1 w.observer.domain) w.place → Known b t
    → sort_of t ≡ s → ((i : ℕ) → IsWord (names i)) → IsWordedOperator w.observer → Known b (observer_term names w t)
unfolding Known
observed_known b names s w t k c (st, h) e n o =
    let bs = b.boxes in
    let fs = operators_at b.theory st in
    let fits = (naming_faithful b.theory bs h.stand.plain h.stand.others).signatures in
    let same = own_in_lines b.theory bs w.observer h.stand.plain h.stand.others k in
    let there =
    observed_over fs names s w (written_term bs t) (known_in_boxes b.theory st.history w.observer k) c h.over
    (sort_written bs t ∙ e) in (
      st,
      record {
        stand = h.stand;
        over = subst (IsTermOver fs) (sym (observed_renamed (naming bs) fits names w t
            ∙ ap (λ f. observer_term names (record { observer = f; place = w.place }) (written_term bs t)) same)) there;
        words = observer_worded names w t n o h.words;
      },
    )
