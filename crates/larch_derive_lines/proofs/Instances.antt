-- Lines that say an equation with its variables replaced.
use Rattle.std.proofs.Common.{◌≡◌, ◌<◌, ◌+◌, ℕ, true, List, [], ◌∷◌, ◌++◌, map, length, take, get_or, All, Some, None}
use Rattle.std.proofs.Common.{bytes_eq, refl, sym, ◌∙◌, ap, ap₂, subst}
use Rattle.std.specs.Option.{option_map, option_and_then}
use Rattle.std.proofs.lemmas.Bool.{cond-true}
use Rattle.std.proofs.lemmas.List.{take_more}
use Rattle.std.proofs.lemmas.List.Elements.{All-head, All-tail, All-map, All-weaker}
use Rattle.std.proofs.lemmas.Slice.Eq.{bytes_eq-Decides}
use Rattle.larch_term.specs.Sorts.{sort_of, WellSorted, IsOver, IsTermOver}
use Rattle.larch_term.specs.Statement.{IsStatementOver}
use Rattle.larch_term.specs.Substitution.{instance_of, Fits}
use Rattle.larch_term.specs.Tree.{Tree, var, app}
use Rattle.larch_term.specs.Variable.{occurrences}
use Rattle.larch_term.specs.declared.statement.Statement.TheVariants.{Equation}
use Rattle.larch_term.specs.declared.substitution.Entry.{Entry}
use Rattle.larch_derive.proofs.TermLawSubstitutions.{substituted_sort, substituted_well_sorted, substituted_over}
use Rattle.larch_derive.specs.RenamingRenaming.{renamed_entry}
use Rattle.larch_derive.proofs.RenamingRenamedSubstitutions.{renamed_substituted, apart_by_sorts}
use Rattle.larch_derive.specs.CertificateLineBinding.{Binding}
use Rattle.larch_derive.specs.CertificateLineLine.TheVariants.{Inst}
use Rattle.larch_derive.specs.CertificateTextLineText.{IsWord, FitBinding}
use Rattle.larch_derive.specs.CertificateTextParts.{Each}
use Rattle.larch_derive.specs.VerifyMeaningContext.{find_symbol, find_line}
use Rattle.larch_derive.specs.VerifyMeaningDecoding.{each, decode_binding, entry_for}
use Rattle.larch_derive.specs.VerifyMeaningEvents.{State}
use Rattle.larch_derive.specs.VerifyMeaningMatching.{all_different}
use Rattle.larch_derive.specs.VerifyMeaningRules.{instance_by, replaced_variable}
use Rattle.larch_derive.specs.VerifyMeaningRun.{judge}
use Rattle.larch_derive.specs.declared.builder.Builder.{Builder}
use Rattle.larch_derive.specs.declared.open_box.OpenBox.{OpenBox}
use Rattle.larch_derive.specs.Builder.{IsPushed, IsCodeIn}
use Rattle.larch_derive.specs.OpenBox.{naming}
use Rattle.larch_derive.specs.Predicates.{operators_at, written_term, written_statement, StandIn, KnownIn, SaysIn}
use Rattle.larch_derive.specs.Predicates.{Known, HasStatement, Extends}
use Rattle.larch_derive.proofs.Pushing.{pushed_says, pushed_extends, means_at, one_state}
use Rattle.larch_derive.proofs.Words.{term_fits, worded_sort, instance_worded}
use Rattle.larch_derive.specs.Words.{IsWordedTerm}
use Rattle.larch_derive_lines.specs.Rules.{variable_in, AreKnownEntries, AreWritten}

-- ---- one replacement more

pub written_push : (b : Builder) (es : List Entry) (xs : List Binding) (e : Entry) (x : Binding) → AreWritten b es xs
    → x.name ≡ e.name → x.sort ≡ e.sort → IsCodeIn b e.term x.term → AreWritten b (es ++ e ∷ []) (xs ++ x ∷ [])
written_push b [] [] e x h p q r = (p, q, r, tt)
written_push b [] (y ∷ xs) e x h p q r = absurd h
written_push b (d ∷ es) [] e x h p q r = absurd h
written_push b (d ∷ es) (y ∷ xs) e x h p q r = (h.0, h.1, h.2, written_push b es xs e x h.3 p q r)

pub written_step : (b : Builder) (es : List Entry) (i : ℕ) (xs : List Binding) (e : Entry) (x : Binding)
    → i < length es → e ≡ get_or es i e → AreWritten b (take i es) xs → x.name ≡ e.name → x.sort ≡ e.sort
    → IsCodeIn b e.term x.term → AreWritten b (take (i + 1) es) (xs ++ x ∷ [])
written_step b es i xs e x lt is h p q r =
    subst (λ l. AreWritten b l (xs ++ x ∷ []))
    (sym (take_more es i e lt ∙ ap (λ y. take i es ++ y ∷ []) (sym is)))
    (written_push b (take i es) xs e x h p q r)

-- ---- what replacements mean

sort_written : (bs : List OpenBox) (t : Tree) → sort_of (written_term bs t) ≡ sort_of t
sort_written bs (var n s) = refl
sort_written bs (app f ts) = refl

abbrev KnownEntriesIn : Builder → State → List Entry → Type 0
KnownEntriesIn a st es = All (λ e. KnownIn a.theory a.boxes a.lines st e.term × (sort_of e.term ≡ e.sort)
    × IsWord e.name) es

binding_means : (a : Builder) (st : State) (e : Entry) (x : Binding) → KnownIn a.theory a.boxes a.lines st e.term
    → sort_of e.term ≡ e.sort → x.name ≡ e.name → x.sort ≡ e.sort → IsCodeIn a e.term x.term
    → decode_binding (find_symbol a.theory st.history) x ≡ Some (renamed_entry (naming a.boxes) e)
binding_means a st e x k s p q d =
    ap (option_and_then (entry_for x)) (means_at a st e.term x.term k d)
    ∙ cond-true (bytes_eq (sort_of (written_term a.boxes e.term)) x.sort)
    (Some (record { name = x.name; sort = x.sort; term = written_term a.boxes e.term })) None
    ((bytes_eq-Decides (sort_of (written_term a.boxes e.term)) x.sort).1 (sort_written a.boxes e.term ∙ s ∙ sym q))
    ∙ (λ i. Some (record { name = p i; sort = q i; term = written_term a.boxes e.term }))

each_means : (a : Builder) (st : State) (es : List Entry) (xs : List Binding) → KnownEntriesIn a st es
    → AreWritten a es xs
    → each (decode_binding (find_symbol a.theory st.history)) xs ≡ Some (map (renamed_entry (naming a.boxes)) es)
each_means a st [] [] k w = refl
each_means a st [] (x ∷ xs) k w = absurd w
each_means a st (e ∷ es) [] k w = absurd w
each_means a st (e ∷ es) (x ∷ xs) k w =
    let P : Entry → Type 0 = λ e. KnownIn a.theory a.boxes a.lines st e.term × (sort_of e.term ≡ e.sort)
    × IsWord e.name in
    let here = All-head P e es k in
    ap (option_and_then (λ y. option_map (λ ys. y ∷ ys) (each (decode_binding (find_symbol a.theory st.history)) xs)))
    (binding_means a st e x here.0 here.1 w.0 w.1 w.2)
    ∙ ap (option_map (λ ys. renamed_entry (naming a.boxes) e ∷ ys)) (each_means a st es xs (All-tail P e es k) w.3)

same_variables : (a : Builder) (es : List Entry) (xs : List Binding) → AreWritten a es xs
    → map replaced_variable xs ≡ map variable_in es
same_variables a [] [] w = refl
same_variables a [] (x ∷ xs) w = absurd w
same_variables a (e ∷ es) [] w = absurd w
same_variables a (e ∷ es) (x ∷ xs) w =
    λ i. record { name = w.0 i; sort = w.1 i } ∷ same_variables a es xs w.3 i

-- ---- inst

written_substituted : (bs : List OpenBox) (es : List Entry) (t : Tree)
    → written_term bs (instance_of es t) ≡ instance_of (map (renamed_entry (naming bs)) es) (written_term bs t)
written_substituted bs es t =
    renamed_substituted (naming bs) es t (apart_by_sorts (naming bs) es (occurrences t) (λ s z e. e))

inst_judged : (a : Builder) (st : State) (m : ℕ) (es : List Entry) (xs : List Binding) (l r : Tree)
    → SaysIn a.theory a.boxes a.lines st m (Equation l r) → KnownEntriesIn a st es
    → all_different (map variable_in es) ≡ true → AreWritten a es xs
    → judge a.theory st.history (Inst m xs)
    ≡ Some (written_statement a.boxes (Equation (instance_of es l) (instance_of es r)))
inst_judged a st m es xs l r h k d w =
    let ds = map (renamed_entry (naming a.boxes)) es in
    let find = find_symbol a.theory st.history in
    cond-true (all_different (map replaced_variable xs))
    (option_and_then (λ es. option_and_then (instance_by es) (find_line st.history m)) (each (decode_binding find) xs))
    None (ap all_different (same_variables a es xs w) ∙ d)
    ∙ ap (option_and_then (λ es. option_and_then (instance_by es) (find_line st.history m))) (each_means a st es xs k w)
    ∙ ap (option_and_then (instance_by ds)) h.says
    ∙ ap₂ (λ x y. Some (Equation x y)) (sym (written_substituted a.boxes es l)) (sym (written_substituted a.boxes es r))

-- the entries as they are written fit, and are over the operators
entries_fit : (a : Builder) (st : State) (es : List Entry) → KnownEntriesIn a st es
    → Fits (map (renamed_entry (naming a.boxes)) es)
    × All (λ e. IsOver (operators_at a.theory st) e.term) (map (renamed_entry (naming a.boxes)) es)
entries_fit a st es k = (
  All-map (λ e. WellSorted e.term × (sort_of e.term ≡ e.sort)) (renamed_entry (naming a.boxes)) es
      (All-weaker (λ e. KnownIn a.theory a.boxes a.lines st e.term × (sort_of e.term ≡ e.sort) × IsWord e.name)
      (λ e. WellSorted (written_term a.boxes e.term) × (sort_of (written_term a.boxes e.term) ≡ e.sort))
      (λ e p. (p.0.over.0, sort_written a.boxes e.term ∙ p.1)) es k),
  All-map (λ e. IsOver (operators_at a.theory st) e.term) (renamed_entry (naming a.boxes)) es
      (All-weaker (λ e. KnownIn a.theory a.boxes a.lines st e.term × (sort_of e.term ≡ e.sort) × IsWord e.name)
      (λ e. IsOver (operators_at a.theory st) (written_term a.boxes e.term)) (λ e p. p.0.over.1) es k),
)

inst_over : (a : Builder) (st : State) (m : ℕ) (es : List Entry) (l r : Tree)
    → SaysIn a.theory a.boxes a.lines st m (Equation l r) → KnownEntriesIn a st es
    → IsStatementOver (operators_at a.theory st)
    (written_statement a.boxes (Equation (instance_of es l) (instance_of es r)))
inst_over a st m es l r h k =
    let ds = map (renamed_entry (naming a.boxes)) es in
    let fit = entries_fit a st es k in
    let w = h.over in
    let x = written_term a.boxes l in
    let y = written_term a.boxes r in
    let fs = operators_at a.theory st in
    subst (λ u. IsStatementOver fs (Equation u (written_term a.boxes (instance_of es r))))
    (sym (written_substituted a.boxes es l))
    (subst (λ u. IsStatementOver fs (Equation (instance_of ds x) u)) (sym (written_substituted a.boxes es r)) (
      (substituted_well_sorted ds x fit.0 w.0.0, substituted_over fs ds x fit.1 w.0.1),
      (substituted_well_sorted ds y fit.0 w.1.0, substituted_over fs ds y fit.1 w.1.1),
      substituted_sort ds x fit.0 ∙ w.2 ∙ sym (substituted_sort ds y fit.0),
    ))

-- what is written of them has a text
bindings_fit : (a : Builder) (st : State) (es : List Entry) (xs : List Binding) → KnownEntriesIn a st es
    → AreWritten a es xs → Each FitBinding xs
bindings_fit a st [] [] k w = tt
bindings_fit a st [] (x ∷ xs) k w = absurd w
bindings_fit a st (e ∷ es) [] k w = absurd w
bindings_fit a st (e ∷ es) (x ∷ xs) k w =
    let P : Entry → Type 0 =
    λ e. KnownIn a.theory a.boxes a.lines st e.term × (sort_of e.term ≡ e.sort) × IsWord e.name in
    let here = All-head P e es k in (
      (
        subst IsWord (sym w.0) here.2,
        (
          subst IsWord (here.1 ∙ sym w.1) (worded_sort e.term here.0.words),
          term_fits a.boxes a.theory.operators e.term x.term w.2 here.0.words,
        ),
      ),
      bindings_fit a st es xs (All-tail P e es k) w.3,
    )

entries_worded : (a : Builder) (st : State) (es : List Entry) → KnownEntriesIn a st es
    → All (λ e. IsWordedTerm e.term) es
entries_worded a st es k =
    All-weaker (λ e. KnownIn a.theory a.boxes a.lines st e.term × (sort_of e.term ≡ e.sort) × IsWord e.name)
    (λ e. IsWordedTerm e.term) (λ e p. p.0.words) es k

entries_in : (a : Builder) (st : State) → StandIn a.theory a.boxes a.lines st → (es : List Entry) → AreKnownEntries a es
    → KnownEntriesIn a st es
unfolding Known
entries_in a st h es k =
    All-weaker (λ e. Known a e.term × (sort_of e.term ≡ e.sort) × IsWord e.name)
    (λ e. KnownIn a.theory a.boxes a.lines st e.term × (sort_of e.term ≡ e.sort) × IsWord e.name)
    (λ e p. (
      subst (λ z. KnownIn a.theory a.boxes a.lines z e.term)
          (one_state a.theory a.lines st p.0.0 h.runs p.0.1.stand.runs) p.0.1,
      p.1,
      p.2,
    )) es k

pub inst_says : (a b : Builder) (m n : ℕ) (es : List Entry) (xs : List Binding) (l r : Tree) → AreWritten a es xs
    → IsPushed a b (Inst m xs) n → HasStatement a m (Equation l r) → AreKnownEntries a es
    → all_different (map variable_in es) ≡ true → HasStatement b n (Equation (instance_of es l) (instance_of es r))
unfolding HasStatement
inst_says a b m n es xs l r w p (st, h) k d =
    let i = entries_in a st h.stand es k in
    pushed_says a b (Inst m xs) n st (Equation (instance_of es l) (instance_of es r)) p h.stand
    (inst_judged a st m es xs l r h i d w) (inst_over a st m es l r h i) (p.numbers, bindings_fit a st es xs i w)
    (let ws = entries_worded a st es i in (instance_worded es l ws h.words.0, instance_worded es r ws h.words.1))

pub inst_extends : (a b : Builder) (m n : ℕ) (es : List Entry) (xs : List Binding) (l r : Tree) → AreWritten a es xs
    → IsPushed a b (Inst m xs) n → HasStatement a m (Equation l r) → AreKnownEntries a es
    → all_different (map variable_in es) ≡ true → Extends a b
unfolding HasStatement
inst_extends a b m n es xs l r w p (st, h) k d =
    let i = entries_in a st h.stand es k in
    pushed_extends a b (Inst m xs) n st
    (written_statement a.boxes (Equation (instance_of es l) (instance_of es r))) p h.stand.runs
    (inst_judged a st m es xs l r h i d w) (p.numbers, bindings_fit a st es xs i w)

-- ---- known terms

pub known_substituted : (a : Builder) (es : List Entry) (t : Tree) → Known a t → AreKnownEntries a es
    → Known a (instance_of es t)
unfolding Known
known_substituted a es t (st, k) w =
    let i = entries_in a st k.stand es w in
    let fit = entries_fit a st es i in
    let ds = map (renamed_entry (naming a.boxes)) es in
    let u = written_term a.boxes t in (
      st,
      record {
        stand = k.stand;
        over = subst (IsTermOver (operators_at a.theory st)) (sym (written_substituted a.boxes es t)) (
          substituted_well_sorted ds u fit.0 k.over.0,
          substituted_over (operators_at a.theory st) ds u fit.1 k.over.1,
        );
        words = instance_worded es t (entries_worded a st es i) k.words;
      },
    )
