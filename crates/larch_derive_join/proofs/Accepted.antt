-- Parts joined one behind the other are accepted.
use Rattle.std.proofs.Common.{◌≡◌, ℕ, zero, suc, ◌+◌, ◌-◌, ◌<◌, ◌≤◌, ◌^◌, Bool, true, false, cond, inl, inr, ◌⊎◌}
use Rattle.std.proofs.Common.{List, [], ◌∷◌, ◌++◌, map, length, Option, Some, None, option_map, option_and_then, refl}
use Rattle.std.proofs.Common.{sym, ◌∙◌, ap, subst, append_assoc, arith}
use Rattle.std.specs.List.{slice_get}
use Rattle.std.specs.Option.{option_map_or}
use Rattle.std.proofs.lemmas.Bool.{ne_eqb, eq-eqb}
use Rattle.std.proofs.lemmas.List.{map-append, length-append, length-map}
use Rattle.std.proofs.lemmas.Option.{option_and_then_some, slice_get_within}
use Rattle.larch_base.proofs.Options.{some_inj}
use Rattle.larch_base.specs.ByNumber.{numbered}
use Rattle.larch_term.specs.Statement.{IsStatementOver, IsWellSortedTheory}
use Rattle.larch_term.specs.Truth.{truth}
use Rattle.larch_term.specs.declared.statement.Statement.{Statement}
use Rattle.larch_term.specs.declared.statement.Statement.TheVariants as statement
use Rattle.larch_term.specs.declared.statement.Theory.{Theory}
use Rattle.larch_term_law.proofs.Substitutions.{substituted_nil}
use Rattle.larch_renaming.specs.Renaming.{renamed_statement}
use Rattle.larch_calculus.proofs.RenamedTheories.{names_faithful, boxes_keep}
use Rattle.larch_calculus.proofs.WellSorted.{well_sorted}
use Rattle.larch_calculus.specs.Renaming.{HasPlainNames}
use Rattle.larch_calculus.specs.Theories.{IsPrefix, with_statements}
use Rattle.larch_tables.proofs.Identities.{at_place}
use Rattle.larch_certificate.specs.declared.line.Line.{Line}
use Rattle.larch_certificate.specs.declared.line.Line.TheVariants.{Axiom, Hyp, Row, Refl, Sym, Inst, Repl, Equal}
use Rattle.larch_certificate.specs.declared.line.Line.TheVariants.{BoxLine, Done, Fresh, Cases, Induct, Observe}
use Rattle.larch_certificate.specs.declared.line.Line.TheVariants.{Generated, Partitioned}
use Rattle.larch_verify_meaning.specs.Acceptance.{Accepts, last_statement}
use Rattle.larch_verify_meaning.specs.Context.{find_line, find_symbol, innermost}
use Rattle.larch_verify_meaning.specs.Decoding.{each, decode_equation}
use Rattle.larch_verify_meaning.specs.Events.{PlainBox, Event, Said, Opened, State, start}
use Rattle.larch_verify_meaning.specs.LastLine.{is_clause, states_clause, ends_with_stated_clause}
use Rattle.larch_verify_meaning.specs.LastLine.{EndsWithoutStatedClause}
use Rattle.larch_verify_meaning.specs.Rules.{axiom_says, row_says, instance_by}
use Rattle.larch_verify_meaning.specs.Run.{judge, happens, step, run}
use Rattle.larch_verify_law.proofs.Accepted.{accepted_derivable}
use Rattle.larch_verify_law.proofs.Carried.{Kind, opens, closes, says, kind, closing_told, put_in, named, said_matches}
use Rattle.larch_verify_law.proofs.Carried.{step_moved, step_count, run_carried}
use Rattle.larch_verify_law.proofs.Prefixes.{got_in_front, got_goes, numbered_goes}
use Rattle.larch_verify_law.proofs.Rules.{axiom_derivable, row_derivable}
use Rattle.larch_verify_law.proofs.Runs.{run_append, run_parts, run_count}
use Rattle.larch_verify_law.proofs.Told.{option_map_some, numbered_contains}
use Rattle.larch_verify_law.specs.Carrying.{IsEquation, IsMove, KeepsCited, Matches, outermost}
use Rattle.larch_verify_law.specs.Carrying.{inside, EndsAlike, EndsMoved, EachLine}
use Rattle.larch_verify_law.specs.Moves.{Move, moved_line, carry_lines}
use Rattle.larch_derive_join.proofs.Behind.{Grows, no_growth, still_found, step_grows}
use Rattle.larch_derive_join.proofs.Ending.{says_equation, says_clause, ends_at}
use Rattle.larch_derive_join.proofs.Lengths.{from_nought, grows_longer}
use Rattle.larch_derive_join.proofs.Numbers.{moved_fits, box_of}
use Rattle.larch_derive_join.proofs.Plain.{boxes_alone, known_plain, same_operator_on, same_statement_on}
use Rattle.larch_derive_join.proofs.Plain.{back_statement}
use Rattle.larch_derive_join.specs.Joined.{moved_on, name_on, shows_clause, cited_lemma, if_clause, move_on}
use Rattle.larch_derive_join.specs.Joined.{coded_true}
use Rattle.larch_derive_join.specs.Joined.{cites, joined_line, joined_lines, lemma_of, joined_from, join_parts}
use Rattle.larch_derive_join.specs.Promise.{IsProved, AreProved, Prove}
use Rattle.larch_derive_join.specs.declared.lemma.Lemma.{Lemma}
use Rattle.larch_derive_join.specs.declared.part.Part.{Part}

-- ---- lists by place

got_either : {X : Type 0} (xs ys : List X) (j : ℕ) (x : X) → slice_get (xs ++ ys) j ≡ Some x
    → (slice_get xs j ≡ Some x) ⊎ ((i : ℕ) × (j ≡ length xs + i) × (slice_get ys i ≡ Some x))
got_either [] ys j x e = inr (j, sym (from_nought j), e)
got_either (z ∷ xs) ys zero x e = inl e
got_either (z ∷ xs) ys (suc j) x e =
    elim (got_either xs ys j x e) [
      | inl p ↦ inl p
      | inr q ↦ inr (q.0, (let w = q.1 in omega (arith, w)), q.2)
    ]

got_last : {X : Type 0} (xs : List X) (x : X) → slice_get (xs ++ x ∷ []) (length xs) ≡ Some x
got_last [] x = refl
got_last (y ∷ ys) x = got_last ys x

numbered_at : {X : Type 0} (xs : List X) (i : ℕ) (x : X) → slice_get xs i ≡ Some x → numbered xs (suc i) ≡ Some x
numbered_at xs i x e =
    let one : suc i - 1 ≡ i = omega arith in
    ap (λ b. cond b None (slice_get xs (suc i - 1))) (ne_eqb (suc i) 0 (λ p. omega (arith, p)))
    ∙ ap (slice_get xs) one ∙ e

numbered_positive : {X : Type 0} (xs : List X) (n : ℕ) (x : X) → numbered xs n ≡ Some x → 0 < n
numbered_positive xs zero x e = cc
numbered_positive xs (suc n) x e = omega arith

-- either nothing, or a last one behind the others
last_or_none : {X : Type 0} (xs : List X) → (xs ≡ []) ⊎ ((front : List X) × (x : X) × (xs ≡ front ++ x ∷ []))
last_or_none [] = inl refl
last_or_none (x ∷ xs) =
    elim (last_or_none xs) [
      | inl e ↦ inr ([], x, ap (λ ys. x ∷ ys) e)
      | inr q ↦ inr (x ∷ q.0, q.1, ap (λ ys. x ∷ ys) q.2)
    ]

-- ---- lemmas

-- what the last line of a lemma's certificate says can be named
pub record IsLemma (b : Theory) (st : State) (y : Lemma) (s : Statement) : Type 0 where
  pub early : y.line ≤ st.count
  pub says : find_line st.history y.line ≡ Some s
  pub over : IsStatementOver b.operators s
  pub equation : y.clause ≡ false → IsEquation s
  pub clause : y.clause ≡ true → IsEquation s → ⊥

abbrev pub AreLemmas : Theory → State → List Lemma → List Statement → Type 0
AreLemmas b st [] [] = Unit {0}
AreLemmas b st [] (s ∷ ss) = ⊥
AreLemmas b st (y ∷ ys) [] = ⊥
AreLemmas b st (y ∷ ys) (s ∷ ss) = IsLemma b st y s × AreLemmas b st ys ss

lemma_at : (b : Theory) (st : State) (ys : List Lemma) (ss : List Statement) → AreLemmas b st ys ss → (i : ℕ)
    (y : Lemma) (s : Statement) → slice_get ys i ≡ Some y → slice_get ss i ≡ Some s → IsLemma b st y s
lemma_at b st [] [] w i y s e f = cc
lemma_at b st [] (s ∷ ss) w i y z e f = absurd w
lemma_at b st (y ∷ ys) [] w i z s e f = absurd w
lemma_at b st (y ∷ ys) (s ∷ ss) w zero z r e f =
    subst (λ v. IsLemma b st v r) (some_inj e) (subst (IsLemma b st y) (some_inj f) w.0)
lemma_at b st (y ∷ ys) (s ∷ ss) w (suc i) z r e f = lemma_at b st ys ss w.1 i z r e f

lemma_for : (b : Theory) (st : State) (ys : List Lemma) (ss : List Statement) → AreLemmas b st ys ss → (i : ℕ)
    (s : Statement) → slice_get ss i ≡ Some s → (y : Lemma) × (slice_get ys i ≡ Some y)
lemma_for b st [] [] w i s f = cc
lemma_for b st [] (s ∷ ss) w i z f = absurd w
lemma_for b st (y ∷ ys) [] w i s f = absurd w
lemma_for b st (y ∷ ys) (s ∷ ss) w zero r f = (y, refl)
lemma_for b st (y ∷ ys) (s ∷ ss) w (suc i) r f = lemma_for b st ys ss w.1 i r f

one_more : (b : Theory) (st : State) (ys : List Lemma) (ss : List Statement) (y : Lemma) (s : Statement)
    → AreLemmas b st ys ss → IsLemma b st y s → AreLemmas b st (ys ++ y ∷ []) (ss ++ s ∷ [])
one_more b st [] [] y s w l = (l, tt)
one_more b st [] (z ∷ ss) y s w l = absurd w
one_more b st (z ∷ ys) [] y s w l = absurd w
one_more b st (z ∷ ys) (r ∷ ss) y s w l = (w.0, one_more b st ys ss y s w.1 l)

still_lemmas : (b : Theory) (st next : State) → Grows st.count st.history next.history → st.count ≤ next.count
    → (ys : List Lemma) (ss : List Statement) → AreLemmas b st ys ss → AreLemmas b next ys ss
still_lemmas b st next g le [] [] w = tt
still_lemmas b st next g le [] (s ∷ ss) w = absurd w
still_lemmas b st next g le (y ∷ ys) [] w = absurd w
still_lemmas b st next g le (y ∷ ys) (s ∷ ss) w =
    let early = w.0.early in (
      record {
        early = omega (arith, early, le);
        says = still_found st.count y.line st.history next.history s g early w.0.says;
        over = w.0.over;
        equation = w.0.equation;
        clause = w.0.clause;
      },
      still_lemmas b st next g le ys ss w.1,
    )

-- ---- one part behind others

-- a part behind the lines of earlier ones
record Behind (b : Theory) (base : State) (lemmas : List Lemma) (earlier : List Statement) (p : Part) : Type 0 where
  sorted : IsWellSortedTheory b
  plain : HasPlainNames b
  theory : Theory
  prefix : IsPrefix theory b
  statements : length theory.statements ≡ p.statements
  closed : innermost base.history ≡ None
  lemmas_hold : AreLemmas b base lemmas earlier
  fits : length p.certificate + base.count < 2 ^ 64

no_statement : (s : Statement) → None ≡ Some s → ⊥
no_statement s e = cc

said_by_kind : (t : Theory) (v : State) (l : Line) (s : Statement) → Kind l → (h : List Event)
    → happens t v.history (suc v.count) l ≡ Some h → last_statement h ≡ Some s → innermost h ≡ None
    → (judge t v.history l ≡ Some s) × (innermost v.history ≡ None) × (find_line h (suc v.count) ≡ Some s)
said_by_kind t v l s (opens ps es) h q a o =
    let bare : PlainBox = record { number = suc v.count; parts = ps; hypotheses = [] } in
    option_map_some (λ hs. Opened (record { number = suc v.count; parts = ps; hypotheses = hs }) ∷ v.history)
    (each (decode_equation (find_symbol t (Opened bare ∷ v.history))) es) h q
    (λ hs i j. absurd (no_statement s (ap last_statement j ∙ a)))
said_by_kind t v l s closes h q a o =
    let c = closing_told v.history h q in
    absurd (no_statement s (ap last_statement (sym c.behind) ∙ a))
said_by_kind t v l s (says happened moved) h q a o =
    option_map_some (λ z. Said (suc v.count) z ∷ v.history) (judge t v.history l) h
    (sym (happened t v.history (suc v.count)) ∙ q)
    (λ z i j.
    let same : z ≡ s = some_inj (ap last_statement j ∙ a) in (
      i ∙ ap Some same,
      ap innermost j ∙ o,
      subst (λ x. find_line x (suc v.count) ≡ Some s) j
          (ap (λ x. cond x (Some z) (find_line v.history (suc v.count))) (eq-eqb (suc v.count) (suc v.count) refl)
          ∙ ap Some same),
    ))

-- where no box is open the last line says what is said last
said_last : (t : Theory) (v next : State) (l : Line) (s : Statement) → step t v l ≡ Some next
    → last_statement next.history ≡ Some s → innermost next.history ≡ None
    → (judge t v.history l ≡ Some s) × (innermost v.history ≡ None) × (find_line next.history next.count ≡ Some s)
said_last t v next l s e a o =
    option_map_some (λ h. record { count = suc v.count; history = h }) (happens t v.history (suc v.count) l) next e
    (λ h q i.
    let z = said_by_kind t v l s (kind l) h q (ap (λ x. last_statement x.history) i ∙ a)
    (ap (λ x. innermost x.history) i ∙ o) in
    (z.0, z.1, subst (λ x. find_line x.history x.count ≡ Some s) i z.2))

-- what goes along with the lines of a part
record Goes (m : Move) (base st su : State) : Type 0 where
  count : su.count ≡ st.count + base.count
  matches : Matches m su.count st.history su.history
  ends : EndsAlike m st.history su.history
  grows : Grows base.count base.history su.history

-- a line stands in the part under its number, and there is a number for it in the whole
abbrev Stands : State → Part → ℕ → Line → Type 0
Stands base p n l = (numbered p.certificate n ≡ Some l) × (n + base.count < 2 ^ 64)

-- what a line of the part leads to in the whole
record Leads (b : Theory) (base : State) (lemmas : List Lemma) (p : Part) (st next su : State) (l : Line) : Type 0 where
  other : State
  stepped : step b su (joined_line base.count lemmas p l) ≡ Some other
  goes : Goes (move_on base.count lemmas p) base next other
  exact : cited_lemma p.statements lemmas l ≡ None → EndsMoved (move_on base.count lemmas p) next.history other.history

-- what all lines but the last lead to
record Front (t b : Theory) (base : State) (lemmas : List Lemma) (p : Part) (front : List Line) (l : Line) (stp : State)
    : Type 0 where
  before : State
  there : State
  ran : run t start front ≡ Some before
  lead : run b base (map (joined_line base.count lemmas p) front) ≡ Some there
  goes : Goes (move_on base.count lemmas p) base before there
  number : before.count ≡ length front
  last : step t before l ≡ Some stp

-- the part in the whole
record Joins (b : Theory) (base : State) (lemmas : List Lemma) (p : Part) (lines : List Line) (s : Statement)
    : Type 0 where
  state : State
  joins : run b base (joined_lines base.count lemmas p) ≡ Some state
  accepted : Accepts b s (lines ++ joined_lines base.count lemmas p)
  ends : EndsWithoutStatedClause b (lines ++ joined_lines base.count lemmas p)
  shut : innermost state.history ≡ None
  grown : Grows base.count base.history state.history
  more : base.count ≤ state.count
  lemma : IsLemma b state (lemma_of base.count p) s

module _ (b : Theory) (base : State) (lemmas : List Lemma) (earlier : List Statement) (p : Part)
    (w : Behind b base lemmas earlier p) where
  abbrev source : Theory
  source = with_statements w.theory earlier

  abbrev moving : Move
  moving = move_on base.count lemmas p

  same : (s : Statement) → IsStatementOver b.operators s → renamed_statement moving.renaming s ≡ s
  same s v = same_statement_on base.count b w.plain s v

  is_move : IsMove moving source b
  is_move =
      let o = base.count in
      let fits = w.fits in
      let lt : o < 2 ^ 64 = omega (arith, fits) in
      record {
        faithful = names_faithful (name_on o) (boxes_keep (name_on o) (boxes_alone o));
        no_sort = refl;
        operators = λ k f e.
            let g = numbered_goes w.theory.operators b.operators w.prefix.0 k f e in
            g ∙ ap Some (sym (same_operator_on o f
            (known_plain b w.plain f (inl (numbered_contains b.operators k f g)))));
        boxes = λ f n k. (λ e. ap (name_on o) e, λ e. box_of o lt f.name n k e);
        rows = λ k s x e.
            no_sorts k s ∙ e ∙ ap Some (sym (same x (well_sorted (row_derivable b k s x e))));
      }
    where
      no_sorts : (k : ℕ) (s : Option (List ℕ)) → row_says k (option_map (λ z. z) s) ≡ row_says k s
      no_sorts k None = refl
      no_sorts k (Some s) = refl

  -- a statement of the whole theory stays
  kept_so : (k : ℕ) (s : Statement) → axiom_says b k ≡ Some s
      → axiom_says b k ≡ Some (renamed_statement moving.renaming s)
  kept_so k s e =
      e ∙ ap Some (sym (same s (well_sorted (axiom_derivable b b w.sorted (λ r c. c) k s e))))

  -- an axiom line that cites no lemma cites a statement of the whole theory
  own_kept : (k : ℕ) → numbered lemmas (k - p.statements) ≡ None → (s : Statement) → axiom_says source k ≡ Some s
      → axiom_says b k ≡ Some (renamed_statement moving.renaming s)
  own_kept zero none s e = kept_so zero s e
  own_kept (suc j) none s e =
      elim (got_either w.theory.statements earlier j s e) [
        | inl f ↦ kept_so (suc j) s (got_goes w.theory.statements b.statements w.prefix.1 j s f)
        | inr q ↦
            let y = lemma_for b base lemmas earlier w.lemmas_hold q.0 s q.2 in
            let many = w.statements in
            let place = q.1 in
            let number : suc j - p.statements ≡ suc q.0 = omega (arith, many, place) in
            absurd (no_value y.0 (sym none ∙ ap (numbered lemmas) number ∙ numbered_at lemmas q.0 y.0 y.1))
      ]
    where
      no_value : (y : Lemma) → None ≡ Some y → ⊥
      no_value y e = cc

  own_cited : (l : Line) → cited_lemma p.statements lemmas l ≡ None → KeepsCited moving source b l
  own_cited (Axiom k) e = own_kept k e
  own_cited (Hyp n k) e = tt
  own_cited (Row k s) e = tt
  own_cited (Refl c) e = tt
  own_cited (Sym n) e = tt
  own_cited (Inst n bs) e = tt
  own_cited (Repl n q k) e = tt
  own_cited (Equal n) e = tt
  own_cited (BoxLine ps es) e = tt
  own_cited Done e = tt
  own_cited (Fresh n vs) e = tt
  own_cited (Cases n k) e = tt
  own_cited (Induct n x c bs) e = tt
  own_cited (Observe n c ns) e = tt
  own_cited (Generated n s ks) e = tt
  own_cited (Partitioned n s ks) e = tt

  -- an axiom line that cites a lemma says what the lemma says
  lemma_cited : (k : ℕ) (y : Lemma) → numbered lemmas (k - p.statements) ≡ Some y → (s : Statement)
      → axiom_says source k ≡ Some s → IsLemma b base y s
  lemma_cited zero y e s f = absurd (let lt = numbered_positive lemmas (0 - p.statements) y e in omega (arith, lt))
  lemma_cited (suc j) y e s f =
      let lt = numbered_positive lemmas (suc j - p.statements) y e in
      let many = w.statements in
      elim (got_either w.theory.statements earlier j s f) [
        | inl q ↦ absurd (let within = slice_get_within w.theory.statements j s q in omega (arith, lt, many, within))
        | inr q ↦
            let place = q.1 in
            let number : suc j - p.statements - 1 ≡ q.0 = omega (arith, many, place) in
            lemma_at b base lemmas earlier w.lemmas_hold q.0 y s
            (ap (slice_get lemmas) (sym number) ∙ at_place lemmas (suc j - p.statements) y e) q.2
      ]

  -- a line that cites no lemma
  moved_leads : (st su next : State) (l : Line) → cited_lemma p.statements lemmas l ≡ None → Goes moving base st su
      → Stands base p (suc st.count) l → step source st l ≡ Some next → Leads b base lemmas p st next su l
  moved_leads st su next l none g at e =
      let o = base.count in
      let count = g.count in
      let number : moved_on o (suc st.count) ≡ suc su.count =
      moved_fits o (suc st.count) at.1 ∙ omega (arith, count) in
      let named : moving.line (suc st.count) ≡ suc su.count =
      ap (λ z. option_map_or (λ y. y.line)
      (option_and_then (λ x. option_and_then if_clause (cited_lemma p.statements lemmas x)) z) (moved_on o
      (suc st.count))) at.0
      ∙ ap (λ z. option_map_or (λ y. y.line) (option_and_then if_clause z) (moved_on o (suc st.count))) none
      ∙ number in
      let v = step_moved moving source b is_move st su next l (own_cited l none) named number g.matches g.ends e in
      let other : State = v.0 in
      let n = step_count source st next l e in
      let k = v.2.count in
      record {
        other = other;
        stepped = ap (λ z. step b su (option_map_or cites z (moved_line moving l))) none ∙ v.1;
        goes = record {
          count = omega (arith, n, k, count);
          matches = subst (λ c. Matches moving c next.history other.history) (sym k) v.2.matches;
          ends = λ s q. (renamed_statement moving.renaming s, v.2.ends s q, λ _. refl);
          grows = step_grows b o base.history su other (moved_line moving l) (omega
              (arith, count)) w.closed g.grows v.1;
        };
        exact = λ _. v.2.ends;
      }

  -- a line that cites one is an axiom line
  cites_axiom : (l : Line) (y : Lemma) → cited_lemma p.statements lemmas l ≡ Some y
      → (k : ℕ) × (l ≡ Axiom k) × (numbered lemmas (k - p.statements) ≡ Some y)
  cites_axiom (Axiom k) y e = (k, refl, e)
  cites_axiom (Hyp n k) y e = cc
  cites_axiom (Row k s) y e = cc
  cites_axiom (Refl c) y e = cc
  cites_axiom (Sym n) y e = cc
  cites_axiom (Inst n bs) y e = cc
  cites_axiom (Repl n q k) y e = cc
  cites_axiom (Equal n) y e = cc
  cites_axiom (BoxLine ps es) y e = cc
  cites_axiom Done y e = cc
  cites_axiom (Fresh n vs) y e = cc
  cites_axiom (Cases n k) y e = cc
  cites_axiom (Induct n x c bs) y e = cc
  cites_axiom (Observe n c ns) y e = cc
  cites_axiom (Generated n s ks) y e = cc
  cites_axiom (Partitioned n s ks) y e = cc

  -- the state behind a line that says a statement
  abbrev saying : State → Statement → State
  saying st s = record { count = suc st.count; history = Said (suc st.count) s ∷ st.history }

  said_by_axiom : (st next : State) (k : ℕ) → step source st (Axiom k) ≡ Some next
      → (s : Statement) × (axiom_says source k ≡ Some s) × (saying st s ≡ next)
  said_by_axiom st next k e =
      option_map_some (λ h. record { count = suc st.count; history = h }) (happens source st.history (suc st.count)
      (Axiom k))
      next e
      (λ h q i. option_map_some (λ s. Said (suc st.count) s ∷ st.history) (axiom_says source k) h q
      (λ s j v. (s, j, ap (λ z. record { count = suc st.count; history = z }) v ∙ i)))

  once_more : (s : Statement) → IsEquation s → instance_by [] s ≡ Some s
  once_more (statement.Equation a c) q = λ i. Some (statement.Equation (substituted_nil a i) (substituted_nil c i))
  once_more (statement.Generated z fs) q = absurd q
  once_more (statement.Partitioned z fs) q = absurd q

  -- an axiom line that cites an equation: the equation once more
  equation_leads : (st su : State) (k : ℕ) (y : Lemma) (s : Statement)
      → cited_lemma p.statements lemmas (Axiom k) ≡ Some y
      → y.clause ≡ false → IsLemma b base y s → Goes moving base st su → Stands base p (suc st.count) (Axiom k)
      → Leads b base lemmas p st (saying st s) su (Axiom k)
  equation_leads st su k y s some other l g at =
      let o = base.count in
      let count = g.count in
      let stays = same s l.over in
      let number : moving.line (suc st.count) ≡ suc su.count =
      ap (λ z. option_map_or (λ x. x.line)
      (option_and_then (λ x. option_and_then if_clause (cited_lemma p.statements lemmas x)) z) (moved_on o
      (suc st.count))) at.0
      ∙ ap (λ z. option_map_or (λ x. x.line) (option_and_then if_clause z) (moved_on o (suc st.count))) some
      ∙ ap (λ c. option_map_or (λ x. x.line) (cond c (Some y) None) (moved_on o (suc st.count))) other
      ∙ moved_fits o (suc st.count) at.1 ∙ omega (arith, count) in
      let found = still_found o y.line base.history su.history s g.grows l.early l.says in
      let line : joined_line o lemmas p (Axiom k) ≡ Inst y.line [] =
      ap (λ z. option_map_or cites z (Axiom k)) some ∙ ap (λ c. cond c (Refl coded_true) (Inst y.line [])) other in
      let repeats : step b su (Inst y.line []) ≡ Some (saying su s) =
      ap (λ z. option_map (λ h. record { count = suc su.count; history = h })
      (option_map (λ r. Said (suc su.count) r ∷ su.history) (option_and_then (instance_by []) z))) found
      ∙ ap (λ z. option_map (λ h. record { count = suc su.count; history = h })
      (option_map (λ r. Said (suc su.count) r ∷ su.history) z)) (once_more s (l.equation other)) in
      let stepped : step b su (joined_line o lemmas p (Axiom k)) ≡ Some (saying su s) =
      ap (step b su) line ∙ repeats in
      record {
        other = saying su s;
        stepped = stepped;
        goes = record {
          count = omega (arith, count);
          matches = subst (λ z. Matches moving (suc su.count) (Said (suc st.count) s ∷ st.history)
              (Said (suc su.count) z ∷ su.history)) stays
              (said_matches moving su.count st.history su.history (suc st.count) s g.matches number);
          ends = λ r q. (s, refl, λ _. sym stays ∙ ap (renamed_statement moving.renaming) (some_inj q));
          grows = step_grows b o base.history su (saying su s) (Inst y.line []) (omega (arith, count)) w.closed g.grows
              repeats;
        };
        exact = λ none. absurd (no_lemma y (sym none ∙ some));
      }
    where
      no_lemma : (y : Lemma) → None ≡ Some y → ⊥
      no_lemma y e = cc

  -- an axiom line that cites a clause: any equation, and the clause is named where the lemma says it
  clause_leads : (st su : State) (k : ℕ) (y : Lemma) (s : Statement)
      → cited_lemma p.statements lemmas (Axiom k) ≡ Some y
      → y.clause ≡ true → IsLemma b base y s → Goes moving base st su → Stands base p (suc st.count) (Axiom k)
      → Leads b base lemmas p st (saying st s) su (Axiom k)
  clause_leads st su k y s some shown l g at =
      let o = base.count in
      let count = g.count in
      let early = l.early in
      let c = su.count in
      let stays = same s l.over in
      let any : Statement = statement.Equation truth truth in
      let named_so : moving.line (suc st.count) ≡ y.line =
      ap (λ z. option_map_or (λ x. x.line)
      (option_and_then (λ x. option_and_then if_clause (cited_lemma p.statements lemmas x)) z) (moved_on o
      (suc st.count))) at.0
      ∙ ap (λ z. option_map_or (λ x. x.line) (option_and_then if_clause z) (moved_on o (suc st.count))) some
      ∙ ap (λ x. option_map_or (λ z. z.line) (cond x (Some y) None) (moved_on o (suc st.count))) shown in
      let found = still_found o y.line base.history su.history s g.grows early l.says in
      let line : joined_line o lemmas p (Axiom k) ≡ Refl coded_true =
      ap (λ z. option_map_or cites z (Axiom k)) some ∙ ap (λ x. cond x (Refl coded_true) (Inst y.line [])) shown in
      let says_any : step b su (Refl coded_true) ≡ Some (saying su any) = refl in
      let behind : find_line (Said (suc c) any ∷ su.history) y.line ≡ Some s =
      ap (λ x. cond x (Some any) (find_line su.history y.line))
      (ne_eqb (suc c) y.line (λ e. omega (arith, e, early, count))) ∙ found in
      record {
        other = saying su any;
        stepped = ap (step b su) line ∙ says_any;
        goes = record {
          count = omega (arith, count);
          matches = named moving (suc c) st.history (Said (suc c) any ∷ su.history) (suc st.count) s
              (put_in moving c st.history su.history any g.matches)
              (ap (find_line (Said (suc c) any ∷ su.history)) named_so ∙ behind ∙ ap Some (sym stays))
              (subst (λ n. n ≤ suc c) (sym named_so) (omega (arith, early, count)));
          ends = λ r q. (any, refl, λ i. absurd (l.clause shown (subst IsEquation (sym (some_inj q)) i)));
          grows = step_grows b o base.history su (saying su any) (Refl coded_true) (omega
              (arith, count)) w.closed g.grows
              says_any;
        };
        exact = λ none. absurd (no_lemma y (sym none ∙ some));
      }
    where
      no_lemma : (y : Lemma) → None ≡ Some y → ⊥
      no_lemma y e = cc

  lemma_leads : (st su next : State) (l : Line) (y : Lemma) → cited_lemma p.statements lemmas l ≡ Some y
      → Goes moving base st su
      → Stands base p (suc st.count) l → step source st l ≡ Some next → Leads b base lemmas p st next su l
  lemma_leads st su next l y some g at e =
      let a = cites_axiom l y some in
      let here : step source st (Axiom a.0) ≡ Some next = ap (step source st) (sym a.1) ∙ e in
      let said = said_by_axiom st next a.0 here in
      let holds = lemma_cited a.0 y a.2 said.0 said.1 in
      let stands = subst (Stands base p (suc st.count)) a.1 at in
      subst (λ z. Leads b base lemmas p st next su z) (sym a.1)
      (subst (λ z. Leads b base lemmas p st z su (Axiom a.0)) said.2 (by_kind said.0 a.0 a.2 holds stands
      (y.clause) refl))
    where
      by_kind : (s : Statement) (k : ℕ) → numbered lemmas (k - p.statements) ≡ Some y → IsLemma b base y s
          → Stands base p (suc st.count) (Axiom k) → (c : Bool) → y.clause ≡ c
          → Leads b base lemmas p st (saying st s) su (Axiom k)
      by_kind s k f holds stands true q = clause_leads st su k y s f q holds g stands
      by_kind s k f holds stands false q = equation_leads st su k y s f q holds g stands

  leads : (st su next : State) (l : Line) → Goes moving base st su → Stands base p (suc st.count) l
      → step source st l ≡ Some next
      → Leads b base lemmas p st next su l
  leads st su next l g at e = either (cited_lemma p.statements lemmas l) refl
    where
      either : (o : Option Lemma) → cited_lemma p.statements lemmas l ≡ o → Leads b base lemmas p st next su l
      either None q = moved_leads st su next l q g at e
      either (Some y) q = lemma_leads st su next l y q g at e

  -- ---- all lines of the part

  begun : Goes moving base start base
  begun =
      record {
        count = omega arith;
        matches = outermost refl w.closed (record {
          lines = λ n s e. cc;
          open_boxes = λ n x e. cc;
          closed_boxes = λ n x s q e. cc;
        }) (λ n s e. cc);
        ends = λ s e. cc;
        grows = no_growth base.count base.history;
      }

  one_each : (f : Line → Line) (n : ℕ) (ls : List Line) → carry_lines (λ k l. f l ∷ []) n ls ≡ map f ls
  one_each f n [] = refl
  one_each f n (l ∷ ls) = ap (λ ks. f l ∷ ks) (one_each f (suc n) ls)

  one_step : (v other : State) (l : Line) → step b v l ≡ Some other → run b v (l ∷ []) ≡ Some other
  one_step v other l e = ap (option_and_then (λ z. run b z [])) e

  step_of : (t : Theory) (v other : State) (l : Line) → run t v (l ∷ []) ≡ Some other → step t v l ≡ Some other
  step_of t v other l e = option_and_then_some (λ z. run t z []) (step t v l) other e (λ z q i. q ∙ i)

  each_stands : (n : ℕ) (ls : List Line) → ((i : ℕ) (l : Line) → slice_get ls i ≡ Some l → Stands base p (n + i) l)
      → EachLine (Stands base p) n ls
  each_stands n [] k = tt
  each_stands n (l ∷ ls) k =
      let first : n + 0 ≡ n = omega arith in (
        subst (λ i. Stands base p i l) first (k 0 l refl),
        each_stands (suc n) ls (λ i x e.
            let later : n + suc i ≡ suc n + i = omega arith in
            subst (λ j. Stands base p j x) later (k (suc i) x e)),
      )

  stands_at : (i : ℕ) (l : Line) → slice_get p.certificate i ≡ Some l → Stands base p (suc i) l
  stands_at i l e =
      let within = slice_get_within p.certificate i l e in
      let fits = w.fits in
      (numbered_at p.certificate i l e, omega (arith, within, fits))

  no_open : (c : ℕ) (h g : List Event) → Matches moving c h g → innermost h ≡ None → innermost g ≡ None
  no_open c h g (outermost i j n y) e = j
  no_open c h g (inside k l x i j n y z) e = absurd (no_level (x, k) (sym e ∙ i))
    where
      no_level : (q : PlainBox × List Event) → None ≡ Some q → ⊥
      no_level q e = cc

  front_of : (front : List Line) (l : Line) (stp : State) → p.certificate ≡ front ++ l ∷ []
      → run source start p.certificate ≡ Some stp → Front source b base lemmas p front l stp
  front_of front l stp shape e =
      let parts = run_parts source start stp front (l ∷ []) (ap (run source start) (sym shape) ∙ e) in
      let f = joined_line base.count lemmas p in
      let all = run_carried source b (λ n x. f x ∷ []) (Goes moving base) (Stands base p)
      (λ st su next x g at q.
      let v = leads st su next x g at q in
      (v.other, one_step su v.other (f x) v.stepped, v.goes)) front start base parts.0
      (each_stands 1 front (λ i x q. let one : suc i ≡ 1 + i = omega arith in
      subst (λ n. Stands base p n x) one (stands_at i x
      (ap (λ ls. slice_get ls i) shape ∙ got_in_front front (l ∷ []) i x q))))
      begun parts.1 in
      record {
        before = parts.0;
        there = all.0;
        ran = parts.1;
        lead = ap (run b base) (sym (one_each f 1 front)) ∙ all.1;
        goes = all.2;
        number = run_count source start parts.0 front parts.1 ∙ from_nought (length front);
        last = step_of source parts.0 stp l parts.2;
      }

  -- by whether a line cites a lemma
  by_cited : (l : Line) (P : Type 0) → (cited_lemma p.statements lemmas l ≡ None → P)
      → ((y : Lemma) → cited_lemma p.statements lemmas l ≡ Some y → P) → P
  by_cited l P k j = split (cited_lemma p.statements lemmas l) refl
    where
      split : (z : Option Lemma) → cited_lemma p.statements lemmas l ≡ z → P
      split None e = k e
      split (Some y) e = j y e

  cites_no_clause : (c : Bool) (n : ℕ) → states_clause b (cond c (Refl coded_true) (Inst n [])) ≡ false
  cites_no_clause true n = refl
  cites_no_clause false n = refl

  moved_no_clause : (h : List Event) (l : Line) (s : Statement) → cited_lemma p.statements lemmas l ≡ None
      → judge source h l ≡ Some s → renamed_statement moving.renaming s ≡ s → states_clause source l ≡ false
      → states_clause b (moved_line moving l) ≡ false
  moved_no_clause h (Axiom k) s none e stays q =
      ap (λ z. option_map_or is_clause z false) (own_kept k none s e ∙ ap Some stays ∙ sym e) ∙ q
  moved_no_clause h (Hyp n k) s none e stays q = refl
  moved_no_clause h (Row k z) s none e stays q = refl
  moved_no_clause h (Refl c) s none e stays q = refl
  moved_no_clause h (Sym n) s none e stays q = refl
  moved_no_clause h (Inst n bs) s none e stays q = refl
  moved_no_clause h (Repl n i k) s none e stays q = refl
  moved_no_clause h (Equal n) s none e stays q = refl
  moved_no_clause h (BoxLine ps es) s none e stays q = refl
  moved_no_clause h Done s none e stays q = refl
  moved_no_clause h (Fresh n vs) s none e stays q = refl
  moved_no_clause h (Cases n k) s none e stays q = refl
  moved_no_clause h (Induct n x c bs) s none e stays q = refl
  moved_no_clause h (Observe n c ns) s none e stays q = refl
  moved_no_clause h (Generated n z ks) s none e stays q = refl
  moved_no_clause h (Partitioned n z ks) s none e stays q = refl

  -- what stands for the last line is no axiom line of a clause either
  ends_so : (h : List Event) (l : Line) (s : Statement) → judge source h l ≡ Some s
      → renamed_statement moving.renaming s ≡ s → states_clause source l ≡ false
      → states_clause b (joined_line base.count lemmas p l) ≡ false
  ends_so h l s e stays q =
      by_cited l (states_clause b (joined_line base.count lemmas p l) ≡ false)
      (λ none. ap (λ z. states_clause b (option_map_or cites z (moved_line moving l))) none
      ∙ moved_no_clause h l s none e stays q)
      (λ y some. ap (λ z. states_clause b (option_map_or cites z (moved_line moving l))) some
      ∙ cites_no_clause y.clause y.line)

  -- the last line of a part: what stands for it says the part's statement
  part_joins : (lines : List Line) → run b start lines ≡ Some base → (s : Statement)
      → Accepts source s p.certificate → EndsWithoutStatedClause source p.certificate → (front : List Line) (l : Line)
      → p.certificate ≡ front ++ l ∷ [] → Joins b base lemmas p lines s
  part_joins lines ran s a ends front l shape =
      let o = base.count in
      let f = joined_line o lemmas p in
      let r = front_of front l a.state shape a.none_bad in
      let long : length front ≡ r.before.count = sym r.number in
      let at : Stands base p (suc r.before.count) l =
      subst (λ n. Stands base p (suc n) l) long
      (stands_at (length front) l (ap (λ ls. slice_get ls (length front)) shape ∙ got_last front l)) in
      let v = leads r.before r.there a.state l r.goes at r.last in
      let states : states_clause source l ≡ false =
      sym (ends_at source front l) ∙ ap (λ ls. ends_with_stated_clause source ls) (sym shape) ∙ ends in
      let told = said_last source r.before a.state l s r.last a.last a.closed in
      let shut = no_open v.other.count a.state.history v.other.history v.goes.matches a.closed in
      let says_so : last_statement v.other.history ≡ Some (renamed_statement moving.renaming s) =
      by_cited l (last_statement v.other.history ≡ Some (renamed_statement moving.renaming s))
      (λ none. v.exact none s a.last)
      (λ y some.
      let c = cites_axiom l y some in
      let x = v.goes.ends s a.last in
      let q : IsEquation s =
      says_equation source r.before.history l s told.1 (subst (λ z. shows_clause z ≡ false)
      (sym c.1) refl) states told.0 in
      x.1 ∙ ap Some (x.2 q)) in
      let whole : map f p.certificate ≡ map f front ++ f l ∷ [] = ap (map f) shape ∙ map-append f front (l ∷ []) in
      let joins : run b base (joined_lines o lemmas p) ≡ Some v.other =
      ap (run b base) whole ∙ run_append b base (map f front) (f l ∷ [])
      ∙ ap (option_and_then (λ u. run b u (f l ∷ []))) r.lead ∙ one_step r.there v.other (f l) v.stepped in
      let all : run b start (lines ++ joined_lines o lemmas p) ≡ Some v.other =
      run_append b start lines (joined_lines o lemmas p)
      ∙ ap (option_and_then (λ u. run b u (joined_lines o lemmas p))) ran ∙ joins in
      let first : Accepts b (renamed_statement moving.renaming s) (lines ++ joined_lines o lemmas p) =
      record { state = v.other; none_bad = all; closed = shut; last = says_so } in
      let derived =
      accepted_derivable b (renamed_statement moving.renaming s)
      (lines ++ joined_lines o lemmas p) w.sorted w.plain first in
      let stays : renamed_statement moving.renaming s ≡ s = back_statement o b w.plain s (well_sorted derived) in
      let last : last_statement v.other.history ≡ Some s = says_so ∙ ap Some stays in
      let found = said_last b r.there v.other (f l) s v.stepped last shut in
      let count = v.goes.count in
      let many = run_count source start a.state p.certificate a.none_bad in
      let back : length front + length (l ∷ []) - 1 ≡ length front = omega arith in
      let clause : (lemma_of o p).clause ≡ shows_clause l =
      ap (λ ls. option_map_or shows_clause (slice_get ls (length ls - 1)) false) shape
      ∙ ap (λ n. option_map_or shows_clause (slice_get (front ++ l ∷ []) (n - 1)) false) (length-append front (l ∷ []))
      ∙ ap (λ n. option_map_or shows_clause (slice_get (front ++ l ∷ []) n) false) back
      ∙ ap (λ z. option_map_or shows_clause z false) (got_last front l) in
      let number : (lemma_of o p).line ≡ v.other.count = omega (arith, count, many) in
      record {
        state = v.other;
        joins = joins;
        accepted = record { state = v.other; none_bad = all; closed = shut; last = last };
        ends = ap (λ ls. ends_with_stated_clause b (lines ++ ls)) whole
            ∙ ap (ends_with_stated_clause b) (sym (append_assoc lines (map f front) (f l ∷ [])))
            ∙ ends_at b (lines ++ map f front) (f l) ∙ ends_so r.before.history l s told.0 stays states;
        shut = shut;
        grown = v.goes.grows;
        more = omega (arith, count);
        lemma = record {
          early = omega (arith, number);
          says = ap (find_line v.other.history) number ∙ found.2;
          over = subst (IsStatementOver b.operators) stays (well_sorted derived);
          equation = λ q. says_equation source r.before.history l s told.1 (sym clause ∙ q) states told.0;
          clause = λ q i. says_clause source r.before.history l s (sym clause ∙ q) told.0 i;
        };
      }

-- ---- all parts

-- where the lines of earlier parts have led
record Reached (b : Theory) (lines : List Line) (lemmas : List Lemma) (earlier : List Statement) : Type 0 where
  state : State
  ran : run b start lines ≡ Some state
  shut : innermost state.history ≡ None
  holds : AreLemmas b state lemmas earlier

-- the last statement of several
abbrev last_of : Statement → List Statement → Statement
last_of s [] = s
last_of s (r ∷ rs) = last_of r rs

not_empty : (t : Theory) (s : Statement) (lines : List Line) → Accepts t s lines → lines ≡ [] → ⊥
not_empty t s lines a e =
    no_statement s (ap (λ u. last_statement u.history) (some_inj (ap (run t start) (sym e) ∙ a.none_bad)) ∙ a.last)

-- the lines are accepted for the statement, and the last is no axiom line of a clause
record Shows (b : Theory) (lines : List Line) (s : Statement) : Type 0 where
  accepted : Accepts b s lines
  ends : EndsWithoutStatedClause b lines

-- one part more, behind a number of lines
record Further (b : Theory) (lines : List Line) (lemmas : List Lemma) (earlier : List Statement) (p : Part)
    (s : Statement) (n : ℕ) : Type 0 where
  reached : Reached b (lines ++ joined_lines n lemmas p) (lemmas ++ lemma_of n p ∷ []) (earlier ++ s ∷ [])
  shows : Shows b (lines ++ joined_lines n lemmas p) s

nothing_yet : (b : Theory) → Reached b [] [] []
nothing_yet b = record { state = start; ran = refl; shut = refl; holds = tt }

further : (b : Theory) → IsWellSortedTheory b → HasPlainNames b → (lines : List Line) (lemmas : List Lemma)
    (earlier : List Statement) (p : Part) (s : Statement) → Reached b lines lemmas earlier → IsProved b earlier p s
    → length p.certificate + length lines < 2 ^ 64
    → Further b lines lemmas earlier p s (length lines)
further b wf plain lines lemmas earlier p s g d lt =
    let base : State = g.state in
    let number : base.count ≡ length lines = run_count b start base lines g.ran ∙ from_nought (length lines) in
    let behind : Behind b base lemmas earlier p =
    record {
      sorted = wf;
      plain = plain;
      theory = d.theory;
      prefix = d.prefix;
      statements = d.statements;
      closed = g.shut;
      lemmas_hold = g.holds;
      fits = omega (arith, lt, number);
    } in
    elim (last_or_none p.certificate) [
      | inl e ↦ absurd (not_empty (with_statements d.theory earlier) s p.certificate d.accepted e)
      | inr q ↦
          let j = part_joins b base lemmas earlier p behind lines g.ran s d.accepted d.ends q.0 q.1 q.2 in
          subst (λ n. Further b lines lemmas earlier p s n) number (record {
            reached = record {
              state = j.state;
              ran = run_append b start lines (joined_lines base.count lemmas p)
                  ∙ ap (option_and_then (λ u. run b u (joined_lines base.count lemmas p))) g.ran ∙ j.joins;
              shut = j.shut;
              holds = one_more b j.state lemmas earlier (lemma_of base.count p) s
                  (still_lemmas b base j.state j.grown j.more lemmas earlier g.holds) j.lemma;
            };
            shows = record { accepted = j.accepted; ends = j.ends };
          })
    ]

part_fits : (lines : List Line) (lemmas : List Lemma) (p : Part) (ps : List Part)
    → length (joined_from lines lemmas (p ∷ ps)) < 2 ^ 64 → length p.certificate + length lines < 2 ^ 64
part_fits lines lemmas p ps lt =
    let more = joined_lines (length lines) lemmas p in
    let behind = lemmas ++ lemma_of (length lines) p ∷ [] in
    let all : length (joined_from (lines ++ more) behind ps) < 2 ^ 64 = lt in
    let long = grows_longer (lines ++ more) behind ps in
    let both = length-append lines more in
    let many : length more ≡ length p.certificate = length-map p.certificate (joined_line (length lines) lemmas p) in
    omega (arith, all, long, both, many)

all_join : (b : Theory) → IsWellSortedTheory b → HasPlainNames b → (lines : List Line) (lemmas : List Lemma)
    (earlier : List Statement) (p : Part) (ps : List Part) (s : Statement) (ss : List Statement)
    → Reached b lines lemmas earlier → IsProved b earlier p s → AreProved b (earlier ++ s ∷ []) ps ss
    → length (joined_from lines lemmas (p ∷ ps)) < 2 ^ 64
    → Shows b (joined_from lines lemmas (p ∷ ps)) (last_of s ss)
all_join b wf plain lines lemmas earlier p [] s [] g d rest lt =
    (further b wf plain lines lemmas earlier p s g d (part_fits lines lemmas p [] lt)).shows
all_join b wf plain lines lemmas earlier p [] s (x ∷ xs) g d rest lt = absurd rest
all_join b wf plain lines lemmas earlier p (q ∷ qs) s [] g d rest lt = absurd rest
all_join b wf plain lines lemmas earlier p (q ∷ qs) s (x ∷ xs) g d rest lt =
    let f = further b wf plain lines lemmas earlier p s g d (part_fits lines lemmas p (q ∷ qs) lt) in
    all_join b wf plain (lines ++ joined_lines (length lines) lemmas p) (lemmas ++ lemma_of (length lines) p ∷ [])
    (earlier ++ s ∷ []) q qs x xs f.reached rest.0 rest.1 lt

-- the statement behind others
last_behind : (s : Statement) (front : List Statement) (l : Statement) → last_of s (front ++ l ∷ []) ≡ l
last_behind s [] l = refl
last_behind s (r ∷ rs) l = last_behind r rs l

all_shown : (b : Theory) (parts : List Part) (front : List Statement) (last : Statement) → IsWellSortedTheory b
    → HasPlainNames b → AreProved b [] parts (front ++ last ∷ []) → length (join_parts parts) < 2 ^ 64
    → Shows b (join_parts parts) last
all_shown b [] [] last wf plain d lt = absurd d
all_shown b [] (r ∷ rs) last wf plain d lt = absurd d
all_shown b (p ∷ ps) [] last wf plain d lt = all_join b wf plain [] [] [] p ps last [] (nothing_yet b) d.0 d.1 lt
all_shown b (p ∷ ps) (r ∷ rs) last wf plain d lt =
    subst (Shows b (join_parts (p ∷ ps))) (last_behind r rs last)
    (all_join b wf plain [] [] [] p ps r (rs ++ last ∷ []) (nothing_yet b) d.0 d.1 lt)

-- the promise of joining
pub joined_accepted : (b : Theory) (parts : List Part) (last : Statement) → Prove b parts last
    → length (join_parts parts) < 2 ^ 64 → Accepts b last (join_parts parts)
joined_accepted b parts last d lt = (all_shown b parts d.earlier last d.sorted d.plain d.proved lt).accepted

pub joined_ends : (b : Theory) (parts : List Part) (last : Statement) → Prove b parts last
    → length (join_parts parts) < 2 ^ 64 → EndsWithoutStatedClause b (join_parts parts)
joined_ends b parts last d lt = (all_shown b parts d.earlier last d.sorted d.plain d.proved lt).ends
