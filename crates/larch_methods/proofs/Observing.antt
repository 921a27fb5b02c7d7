-- Lines that say what observers show.
use Rattle.std.specs.Prelude.{◌≡◌, ◌<◌, ◌≤◌, ◌++◌, ◌+◌, ℕ, suc, List, [], ◌∷◌, map, All, length, get_or, refl}
use Rattle.std.specs.List.{AllZip, slice_get}
use Rattle.std.proofs.Common.{arith, ap, sym, subst, ◌∙◌, drop}
use Rattle.std.proofs.lemmas.List.{append-nil, append_assoc, drop_all, drop_more}
use Rattle.std.proofs.lemmas.List.Elements.{All-contains}
use Rattle.larch_base.proofs.Lists.{all_from}
use Rattle.larch_term.specs.Operator.{PlainOperator}
use Rattle.larch_term.specs.Sorts.{sort_of}
use Rattle.larch_term.specs.Statement.{IsStatementOver, statement_zero}
use Rattle.larch_term.specs.Tree.{Tree}
use Rattle.larch_term.specs.Variable.{occurrences, variables_of}
use Rattle.larch_term.specs.declared.statement.Statement.{Statement}
use Rattle.larch_term.specs.declared.statement.Theory.{Theory}
use Rattle.larch_term.specs.declared.statement.Statement.TheVariants.{Equation, Partitioned}
use Rattle.larch_term.specs.declared.variable.Variable.{Variable}
use Rattle.larch_calculus.proofs.TermLawOccurring.{listed_occurs}
use Rattle.larch_calculus.specs.Observation.{Observation, observations_of, observer_term}
use Rattle.larch_certificate.specs.declared.line.CodedVar.{CodedVar}
use Rattle.larch_derive.specs.VerifyMeaningMatching.{are_apart, variable_of}
use Rattle.larch_derive.specs.Predicates.{Extends, Grows, HasEquation, HasStatement, Known, HasNoBadLine}
use Rattle.larch_derive.specs.declared.builder.Builder.{Builder}
use Rattle.larch_derive.specs.declared.open_box.OpenBox.{OpenBox}
use Rattle.larch_derive.proofs.Growth.{extends_grows, extends_refl, extends_trans, grown_stands, grows_alike}
use Rattle.larch_derive.proofs.Growth.{known_stands, stays_known}
use Rattle.larch_derive_clauses.specs.DeriveBoxesBoxes.{HasResult, with_constants}
use Rattle.larch_derive_clauses.proofs.DeriveBoxesClosing.{grown_result}
use Rattle.larch_derive_clauses.specs.Showing.{ShowSame, ShowsSame}
use Rattle.larch_derive_clauses.proofs.Staying.{all_same_stay}
use Rattle.larch_prove_plans.specs.ProveMeaningPlans.{other_sorts, shown}
use Rattle.larch_methods.specs.Inside.{closed_in, written_variable}
use Rattle.larch_methods.specs.Methods.{IsStated}
use Rattle.larch_methods.specs.Observers.{ByObservers, HasShorterNames, ShowsObservation, variables_for}
use Rattle.larch_methods.proofs.Places.{before, closed_observed, others_are, word_at}
use Rattle.larch_methods.proofs.Worded.{names_are_words, word_is_word, written_names}
use Rattle.larch_derive.specs.CertificateTextLineText.{IsWord}
use Rattle.larch_methods.proofs.Sharing.{own_still, written_back}
use Rattle.larch_methods.proofs.Words.{words_apart}

-- names are shorter where those that are listed are
pub shorter_names : (t : Tree) (n m : ℕ) → All (λ v. length v.name < n) (variables_of t) → n ≤ m → HasShorterNames m t
shorter_names t n m h le =
    all_from (λ v. length v.name < m) (occurrences t)
    (λ v c. let lt =
    All-contains (λ (w : Variable). length w.name < n) (variables_of t) v h ((listed_occurs t v).1 c) in
    omega (arith, lt, le))

-- what the line takes, and what it then shows
pub observes : (a : Builder) (letters : ℕ) (vs : List CodedVar) (l r : Tree) (w : Observation) (x : OpenBox)
    (P : Type 0) → HasShorterNames letters l → HasShorterNames letters r → ShowsObservation a l r w x
    → vs ≡ map written_variable (variables_for letters x.constants)
    → (HasResult a x [] (Equation (with_constants vs x (observer_term (word_at letters w.place) w l))
    (with_constants vs x (observer_term (word_at letters w.place) w r)))
    → map (λ c. c.range) x.constants ≡ map (λ v. v.sort) (map variable_of vs)
    → Known a (observer_term (word_at letters w.place) w l) → Known a (observer_term (word_at letters w.place) w r)
    → All (λ v. IsWord v.name) vs → P)
    → 0 < letters → P
observes a letters vs l r w x P g h o e go pos =
    let q : map variable_of vs ≡ variables_for letters x.constants =
    ap (map variable_of) e ∙ written_back (variables_for letters x.constants) in
    let names = word_at letters w.place in
    let words : (i : ℕ) → IsWord (names i) = λ i. word_is_word (letters + before w.place i) (omega (arith, pos)) in
    let at : (t : Tree) → HasShorterNames letters t
    → with_constants vs x (observer_term names w t) ≡ shown w x.constants t =
    λ t s. ap (λ us. closed_in us x (observer_term names w t)) q ∙ closed_observed letters w x.constants t o.sorts s in
    go (subst (λ t. HasResult a x [] (Equation t (with_constants vs x (observer_term names w r)))) (sym (at l g))
    (subst (λ t. HasResult a x [] (Equation (shown w x.constants l) t)) (sym (at r h)) o.result))
    (ranges letters x.constants ∙ ap (map (λ v. v.sort)) (sym q)) (o.known names words).0 (o.known names words).1
    (written_names (variables_for letters x.constants) vs e (names_are_words letters x.constants pos))
  where
    ranges : (n : ℕ) (cs : List PlainOperator) → map (λ c. c.range) cs ≡ map (λ v. v.sort) (variables_for n cs)
    ranges n [] = refl
    ranges n (c ∷ cs) = ap (λ ss. c.range ∷ ss) (ranges (suc n) cs)

pub shows_same : (b : Builder) (letters n : ℕ) (l r : Tree) (w : Observation) (cs : List PlainOperator)
    → HasShorterNames letters l → HasShorterNames letters r
    → map (λ c. c.range) cs ≡ other_sorts w.place 1 w.observer.domain
    → HasEquation b n (observer_term (word_at letters w.place) w l) (observer_term (word_at letters w.place) w r)
    → ShowsSame b l r w n
shows_same b letters n l r w cs g h q e =
    record {
      names = word_at letters w.place;
      apart = ap (λ vs. are_apart vs l r) (others_are letters w cs q) ∙ words_apart letters cs l r g h;
      says = e;
    }

-- ---- one box after the other

-- of some observations in order the first have their lines, and boxes wait for the others
pub record ObservedSoFar (a b : Builder) (l r : Tree) (ws : List Observation) (xs : List OpenBox) (ns : List ℕ)
    : Type 0 where
  pub done : List Observation
  pub rest : List Observation
  pub all : ws ≡ done ++ rest
  pub same : ShowSame b l r done ns
  pub waiting : AllZip (ShowsObservation b l r) rest xs
  pub extends : Extends a b

pub observed_first : (a : Builder) (l r : Tree) (ws : List Observation) (xs : List OpenBox)
    → AllZip (ShowsObservation a l r) ws xs → ObservedSoFar a a l r ws xs []
observed_first a l r ws xs h =
    record { done = []; rest = ws; all = refl; same = tt; waiting = h; extends = extends_refl a }

same_push : (b : Builder) (l r : Tree) (ws : List Observation) (ns : List ℕ) (w : Observation) (n : ℕ)
    → ShowSame b l r ws ns → ShowsSame b l r w n → ShowSame b l r (ws ++ w ∷ []) (ns ++ n ∷ [])
same_push b l r [] [] w n h s = (s, tt)
same_push b l r [] (m ∷ ns) w n h s = absurd h
same_push b l r (v ∷ ws) [] w n h s = absurd h
same_push b l r (v ∷ ws) (m ∷ ns) w n h s = (h.0, same_push b l r ws ns w n h.1 s)

pub observations_stay : (a b : Builder) (l r : Tree) (w : Observation) (x : OpenBox) → Extends a b
    → ShowsObservation a l r w x → ShowsObservation b l r w x
observations_stay a b l r w x e o =
    let g = extends_grows a b e in
    record {
      own = own_still a b x g o.own;
      sorts = o.sorts;
      result = grown_result a b x [] (Equation (shown w x.constants l) (shown w x.constants r)) g o.result;
      known = λ names n. (
        stays_known a b (observer_term names w l) e (o.known names n).0,
        stays_known a b (observer_term names w r) e (o.known names n).1,
      );
    }

waiting_stay : (a b : Builder) (l r : Tree) (ws : List Observation) (xs : List OpenBox) → Extends a b
    → AllZip (ShowsObservation a l r) ws xs → AllZip (ShowsObservation b l r) ws xs
waiting_stay a b l r [] [] e h = tt
waiting_stay a b l r [] (x ∷ xs) e h = absurd h
waiting_stay a b l r (w ∷ ws) [] e h = absurd h
waiting_stay a b l r (w ∷ ws) (x ∷ xs) e h =
    (observations_stay a b l r w x e h.0, waiting_stay a b l r ws xs e h.1)

pub observed_next : (a b c : Builder) (l r : Tree) (ws : List Observation) (x : OpenBox) (xs : List OpenBox)
    (ns : List ℕ) (n : ℕ) → ObservedSoFar a b l r ws (x ∷ xs) ns
    → ((w : Observation) → ShowsObservation b l r w x → ShowsSame c l r w n)
    → ((w : Observation) → ShowsObservation b l r w x → Extends b c)
    → ObservedSoFar a c l r ws xs (ns ++ n ∷ [])
observed_next a b c l r ws x xs ns n h says extends = next h.rest h.all h.waiting
  where
    next : (rest : List Observation) → ws ≡ h.done ++ rest → AllZip (ShowsObservation b l r) rest (x ∷ xs)
        → ObservedSoFar a c l r ws xs (ns ++ n ∷ [])
    next [] e o = absurd o
    next (w ∷ rest) e o =
        let k = extends w o.0 in
        record {
          done = h.done ++ w ∷ [];
          rest = rest;
          all = e ∙ sym (append_assoc h.done (w ∷ []) rest);
          same =
              same_push c l r h.done ns w n (all_same_stay b c l r h.done ns (extends_grows b c k) h.same) (says w o.0);
          waiting = waiting_stay b c l r rest xs k o.1;
          extends = extends_trans a b c h.extends k;
        }

-- where the next line was refused nothing bad was pushed
pub observed_refused : (a b c : Builder) (l r : Tree) (ws : List Observation) (xs : List OpenBox) (i : ℕ) (x : OpenBox)
    (ns : List ℕ) → i < length xs → x ≡ get_or xs i x → ObservedSoFar a b l r ws (drop i xs) ns
    → ((w : Observation) → ShowsObservation b l r w x → Extends b c)
    → Extends a c
observed_refused a b c l r ws xs i x ns lt q h extends =
    next h.rest
    (subst (AllZip (ShowsObservation b l r) h.rest) (drop_more xs i x lt ∙ ap (λ y. y ∷ drop (i + 1) xs) (sym q))
    h.waiting)
  where
    next : (rest : List Observation) → AllZip (ShowsObservation b l r) rest (x ∷ drop (i + 1) xs) → Extends a c
    next [] o = absurd o
    next (w ∷ rest) o = extends_trans a b c h.extends (extends w o.0)

-- the same in a list of boxes
pub observed_at : (a b c : Builder) (l r : Tree) (ws : List Observation) (xs : List OpenBox) (i : ℕ) (x : OpenBox)
    (ns ms : List ℕ) (n : ℕ) → i < length xs → x ≡ get_or xs i x → ms ≡ ns ++ n ∷ []
    → ObservedSoFar a b l r ws (drop i xs) ns
    → ((w : Observation) → ShowsObservation b l r w x → ShowsSame c l r w n)
    → ((w : Observation) → ShowsObservation b l r w x → Extends b c)
    → ObservedSoFar a c l r ws (drop (i + 1) xs) ms
observed_at a b c l r ws xs i x ns ms n lt q e h says extends =
    subst (ObservedSoFar a c l r ws (drop (i + 1) xs)) (sym e)
    (observed_next a b c l r ws x (drop (i + 1) xs) ns n
    (subst (λ ys. ObservedSoFar a b l r ws ys ns) (drop_more xs i x lt ∙ ap (λ y. y ∷ drop (i + 1) xs) (sym q)) h)
    says extends)

pub observed_all : (a b : Builder) (l r : Tree) (ws : List Observation) (xs : List OpenBox) (i : ℕ) (ns : List ℕ)
    → length xs ≤ i → ObservedSoFar a b l r ws (drop i xs) ns → ObservedSoFar a b l r ws [] ns
observed_all a b l r ws xs i ns le h = subst (λ ys. ObservedSoFar a b l r ws ys ns) (drop_all i xs le) h

pub observed_last : (a b : Builder) (l r : Tree) (ws : List Observation) (ns : List ℕ)
    → ObservedSoFar a b l r ws [] ns → ShowSame b l r ws ns
observed_last a b l r ws ns h = last h.rest h.all h.waiting
  where
    last : (rest : List Observation) → ws ≡ h.done ++ rest → AllZip (ShowsObservation b l r) rest []
        → ShowSame b l r ws ns
    last [] e o = subst (λ us. ShowSame b l r us ns) (sym (append-nil h.done) ∙ sym e) h.same
    last (w ∷ rest) e o = absurd o

-- ---- the clause

pub stated_still : (a b : Builder) (k : ℕ) (s : Statement) → Grows a b → IsStated a k s → IsStated b k s
stated_still a b k s g h =
    let e = (grows_alike a b g).0 in
    record {
      found = ap (λ (t : Theory). slice_get (statement_zero ∷ t.statements) k) e ∙ h.found;
      over = subst (λ (t : Theory). IsStatementOver t.operators s) (sym e) h.over;
    }

-- what the line takes, where the clause is said
pub partitioned_by : (a b c : Builder) (letters clause said : ℕ) (l r : Tree) (boxes : List OpenBox) (ns : List ℕ)
    (P : Type 0)
    → ByObservers a clause l r boxes → HasShorterNames letters l → HasShorterNames letters r
    → ((u v : Tree) (ws : List Observation) → HasShorterNames letters u → HasShorterNames letters v
    → AllZip (ShowsObservation a u v) ws boxes → ShowSame b u v ws ns)
    → ((u v : Tree) (ws : List Observation) → HasShorterNames letters u → HasShorterNames letters v
    → AllZip (ShowsObservation a u v) ws boxes → Extends a b)
    → ((s : Statement) → HasNoBadLine b → IsStated b clause s → HasStatement c said s)
    → ((s : Statement) → HasNoBadLine b → IsStated b clause s → Extends b c)
    → (Extends a c → (os : List PlainOperator) → HasStatement c said (Partitioned (sort_of l) os)
    → ShowSame c l r (observations_of (sort_of l) os) ns → Known c l → Known c r → P)
    → P
partitioned_by a b c letters clause said l r boxes ns P h p q shows0 extends0 says1 extends1 go =
    let ws = observations_of (sort_of l) h.observers in
    let x = extends0 l r ws p q h.shown_by in
    let g = extends_grows a b x in
    let s = Partitioned (sort_of l) h.observers in
    let st = stated_still a b clause s g h.stated in
    let stands = grown_stands a b g (known_stands a l h.left) in
    let y = extends1 s stands st in
    go (extends_trans a b c x y) h.observers (says1 s stands st)
    (all_same_stay b c l r ws ns (extends_grows b c y) (shows0 l r ws p q h.shown_by))
    (stays_known b c l y (stays_known a b l x h.left)) (stays_known b c r y (stays_known a b r x h.right))
