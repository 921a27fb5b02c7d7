-- Equalities with their sides exchanged, by lines.
use Rattle.std.specs.Prelude.{◌≡◌, ◌&&◌, ◌<◌, ℕ, Bool, true, false, cond, All, List, [], ◌∷◌, map, codes, bytes_eq}
use Rattle.std.specs.Prelude.{Option, Some, None, refl}
use Rattle.std.proofs.Common.{arith, ap, ap₂, sym, subst, ◌∙◌}
use Rattle.std.proofs.lemmas.List.Elements.{All-cons, All-head}
use Rattle.std.proofs.lemmas.Slice.Eq.{bytes_eq-Decides}
use Rattle.larch_base.proofs.Options.{some_inj}
use Rattle.larch_term.specs.BuiltIn.{built_in, is_built_in_as}
use Rattle.larch_term.specs.Operator.{PlainOperator}
use Rattle.larch_term.specs.OperatorKey.{operator_Decides}
use Rattle.larch_term.specs.Sorts.{sort_of}
use Rattle.larch_term.specs.Substitution.{image, instance_of}
use Rattle.larch_term.specs.Tree.{Tree, Forest, AllOf, var, app, none, more}
use Rattle.larch_term.specs.declared.built_in.BuiltIn.TheVariants.{Equal}
use Rattle.larch_term.specs.declared.statement.Statement.TheVariants.{Equation}
use Rattle.larch_term.specs.declared.substitution.Entry.{Entry}
use Rattle.larch_derive.specs.CalculusFormula.{equality}
use Rattle.larch_derive.specs.VerifyMeaningMatching.{all_different}
use Rattle.larch_derive.specs.VerifyMeaningRules.{row_says}
use Rattle.larch_rewrite_match.specs.RewriteMeaningRewriting.{sort_at}
use Rattle.larch_rewrite_match.specs.Exchanged.{exchange_equality}
use Rattle.larch_derive.specs.OpenBox.{naming}
use Rattle.larch_derive.specs.Predicates.{written_term, Known, HasNoBadLine, HasEquation, HasStatement, Extends}
use Rattle.larch_derive.specs.declared.builder.Builder.{Builder}
use Rattle.larch_derive.specs.declared.open_box.OpenBox.{OpenBox}
use Rattle.larch_derive.specs.CertificateTextLineText.{IsWord}
use Rattle.larch_derive.proofs.Words.{known_sort}
use Rattle.larch_derive.proofs.Growth.{known_left, known_stands, stays_said}
use Rattle.larch_derive_lines.specs.Rules.{variable_in, AreKnownEntries}
use Rattle.larch_rewrite_step.specs.Exchanging.{pair_at, IsExchange}
use Rattle.larch_rewrite_step.proofs.Entries.{known_arguments, entries_stay}

-- the variables of the row
abbrev first_variable : List ℕ → Tree
first_variable z = var (codes "a") z

abbrev second_variable : List ℕ → Tree
second_variable z = var (codes "b") z

-- what the row says of them
abbrev pub one_way : List ℕ → Tree
one_way z = equality z (first_variable z) (second_variable z)

abbrev pub other_way : List ℕ → Tree
other_way z = equality z (second_variable z) (first_variable z)

pub row_exchanges : (z : List ℕ) → row_says 34 (Some z) ≡ Some (Equation (one_way z) (other_way z))
row_exchanges z = refl

itself : (z : List ℕ) → bytes_eq z z ≡ true
itself z = (bytes_eq-Decides z z).1 refl

one_way_under : (z : List ℕ) (s t : Tree) → instance_of (pair_at z s t) (one_way z) ≡ equality z s t
one_way_under z s t =
    ap (λ c. app (built_in Equal z) (more
    (cond c s (image (record { name = codes "b"; sort = z; term = t } ∷ []) (codes "a") z))
    (more (cond c t (var (codes "b") z)) none))) (itself z)

other_way_under : (z : List ℕ) (s t : Tree) → instance_of (pair_at z s t) (other_way z) ≡ equality z t s
other_way_under z s t =
    ap (λ c. app (built_in Equal z) (more (cond c t (var (codes "b") z))
    (more (cond c s (image (record { name = codes "b"; sort = z; term = t } ∷ []) (codes "a") z)) none))) (itself z)

pair_different : (z : List ℕ) (s t : Tree) → all_different (map variable_in (pair_at z s t)) ≡ true
pair_different z s t = refl

-- ---- what an exchanged equality is

by_test : (f : PlainOperator) (s t x : Tree) (b : Bool) → is_built_in_as f Equal ≡ b
    → cond b (Some (app f (more t (more s none)))) None ≡ Some x
    → (x ≡ app f (more t (more s none))) × (f ≡ built_in Equal (sort_at f))
by_test f s t x true q e = (sym (some_inj e), (operator_Decides f (built_in Equal (sort_at f))).0 q)
by_test f s t x false q e = cc

turned_parts : (l x : Tree) → exchange_equality l ≡ Some x → (P : Type 0)
    → ((f : PlainOperator) (s t : Tree) → l ≡ app f (more s (more t none)) → x ≡ app f (more t (more s none))
    → f ≡ built_in Equal (sort_at f) → P) → P
turned_parts (var n s) x e P go = cc
turned_parts (app f none) x e P go = cc
turned_parts (app f (more s none)) x e P go = cc
turned_parts (app f (more s (more t none))) x e P go =
    let h = by_test f s t x (is_built_in_as f Equal) refl e in go f s t refl h.0 h.1
turned_parts (app f (more s (more t (more u us)))) x e P go = cc

pub exchange_is : (f : PlainOperator) (s t : Tree) (z : List ℕ) (es : List Entry) → z ≡ sort_at f → es ≡ pair_at z t s
    → IsExchange (app f (more s (more t none))) z es
exchange_is f s t z es p q g u v e =
    let h = parted f g s t u v e in (
      p ∙ ap sort_at h.0,
      q ∙ ap₂ (λ x y. pair_at z x y) h.2 h.1,
    )
  where
    parted : (f g : PlainOperator) (s t u v : Tree) → app f (more s (more t none)) ≡ app g (more u (more v none))
        → (f ≡ g) × (s ≡ u) × (t ≡ v)
    parted f g s t u v e = (cc, cc, cc)

pub exchange_same : (l k : Tree) (z : List ℕ) (es : List Entry) → l ≡ k → IsExchange k z es → IsExchange l z es
exchange_same l k z es e h = subst (λ t. IsExchange t z es) (sym e) h

-- ---- its sides are known

sort_written : (bs : List OpenBox) (t : Tree) → sort_of (written_term bs t) ≡ sort_of t
sort_written bs (var n s) = refl
sort_written bs (app f ts) = refl

both : (x y z w : List ℕ) → x ∷ y ∷ [] ≡ z ∷ w ∷ [] → (x ≡ z) × (y ≡ w)
both x y z w e = (cc, cc)

sorts_known : (b : Builder) (z : List ℕ) (s t : Tree) → Known b (equality z s t) → (sort_of s ≡ z) × (sort_of t ≡ z)
unfolding Known
sorts_known b z s t (st, k) =
    let p = both (sort_of (written_term b.boxes s)) (sort_of (written_term b.boxes t)) z z k.over.0.0 in
    (sym (sort_written b.boxes s) ∙ p.0, sym (sort_written b.boxes t) ∙ p.1)

pair_known : (b : Builder) (z : List ℕ) (s t : Tree) → Known b (equality z s t) → AreKnownEntries b (pair_at z t s)
pair_known b z s t k =
    let a = known_arguments b (built_in Equal z) (more s (more t none)) k in
    let q = sorts_known b z s t k in
    All-cons (λ e. Known b e.term × (sort_of e.term ≡ e.sort) × IsWord e.name)
    (record { name = codes "a"; sort = z; term = t })
    (record { name = codes "b"; sort = z; term = s } ∷ []) (a.1.0, q.1, refl)
    (All-cons (λ e. Known b e.term × (sort_of e.term ≡ e.sort) × IsWord e.name)
    (record { name = codes "b"; sort = z; term = s }) [] (a.0, q.0, refl) (λ i d lt. absurd (omega (arith, lt))))

-- the sort of two known terms is a word
pub pair_sort : (b : Builder) (z : List ℕ) (s t : Tree) (es : List Entry) → AreKnownEntries b es → es ≡ pair_at z s t
    → IsWord z
pair_sort b z s t es k e =
    let h = All-head (λ d. Known b d.term × (sort_of d.term ≡ d.sort) × IsWord d.name)
    (record { name = codes "a"; sort = z; term = s }) (record { name = codes "b"; sort = z; term = t } ∷ [])
    (subst (AreKnownEntries b) e k) in
    subst IsWord h.1 (known_sort b s h.0)

-- what an exchange is made of
exchange_parts : (a : Builder) (line : ℕ) (l x r : Tree) (z : List ℕ) (es : List Entry) → IsExchange l z es
    → exchange_equality l ≡ Some x → HasEquation a line l r → (P : Type 0)
    → ((s t : Tree) → x ≡ equality z s t → l ≡ equality z t s → AreKnownEntries a es → es ≡ pair_at z s t → P) → P
exchange_parts a line l x r z es i e h P go =
    turned_parts l x e P (λ f s t le xe fe.
    let j = i f s t le in
    let fz : f ≡ built_in Equal z = fe ∙ ap (built_in Equal) (sym j.0) in
    let lz : l ≡ equality z s t = le ∙ ap (λ g. app g (more s (more t none))) fz in
    let xz : x ≡ equality z t s = xe ∙ ap (λ g. app g (more t (more s none))) fz in
    go t s xz lz (subst (AreKnownEntries a) (sym j.1)
    (pair_known a z s t (subst (Known a) lz (known_left a line l r h)))) j.1)

-- ---- lines

pub exchange_says : (a b c : Builder) (m n : ℕ) (z : List ℕ) (s t : Tree) (es : List Entry) → AreKnownEntries a es
    → es ≡ pair_at z s t → Extends a b → HasEquation b m (one_way z) (other_way z)
    → ((l r : Tree) → HasEquation b m l r → AreKnownEntries b es → all_different (map variable_in es) ≡ true
    → HasEquation c n (instance_of es l) (instance_of es r))
    → HasEquation c n (equality z s t) (equality z t s)
exchange_says a b c m n z s t es k e x h inst =
    let d : all_different (map variable_in es) ≡ true =
    ap (λ ds. all_different (map variable_in ds)) e ∙ pair_different z s t in
    let w = inst (one_way z) (other_way z) h (entries_stay a b es x k) d in
    subst (λ u. HasEquation c n u (equality z t s)) (ap (λ ds. instance_of ds (one_way z)) e ∙ one_way_under z s t)
    (subst (λ u. HasEquation c n (instance_of es (one_way z)) u)
    (ap (λ ds. instance_of ds (other_way z)) e ∙ other_way_under z s t) w)

pub exchange_extends : (a b c : Builder) (m : ℕ) (z : List ℕ) (s t : Tree) (es : List Entry) → AreKnownEntries a es
    → es ≡ pair_at z s t → Extends a b → HasEquation b m (one_way z) (other_way z)
    → ((l r : Tree) → HasEquation b m l r → AreKnownEntries b es → all_different (map variable_in es) ≡ true
    → Extends b c)
    → Extends b c
exchange_extends a b c m z s t es k e x h inst =
    inst (one_way z) (other_way z) h (entries_stay a b es x k)
    (ap (λ ds. all_different (map variable_in ds)) e ∙ pair_different z s t)

-- what is shown of an exchange of two terms is shown where a line says an equality
pub by_exchange : (a : Builder) (line : ℕ) (l x r : Tree) (z : List ℕ) (es : List Entry) (Q : Type 0)
    → IsExchange l z es → exchange_equality l ≡ Some x → HasEquation a line l r
    → ((s t : Tree) → HasNoBadLine a → AreKnownEntries a es → es ≡ pair_at z s t → Q) → Q
by_exchange a line l x r z es Q i e h go =
    exchange_parts a line l x r z es i e h Q
    (λ s t xe le k p. go s t (known_stands a l (known_left a line l r h)) k p)

pub exchanged_by : (a b : Builder) (line k : ℕ) (l x r : Tree) (z : List ℕ) (es : List Entry) → IsExchange l z es
    → exchange_equality l ≡ Some x → HasEquation a line l r
    → ((s t : Tree) → HasNoBadLine a → AreKnownEntries a es → es ≡ pair_at z s t
    → HasEquation b k (equality z s t) (equality z t s))
    → HasEquation b k x l
exchanged_by a b line k l x r z es i e h go =
    exchange_parts a line l x r z es i e h (HasEquation b k x l)
    (λ s t xe le known p. subst (λ u. HasEquation b k u l) (sym xe)
    (subst (λ u. HasEquation b k (equality z s t) u) (sym le)
    (go s t (known_stands a l (known_left a line l r h)) known p)))
