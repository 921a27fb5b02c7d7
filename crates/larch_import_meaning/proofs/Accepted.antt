-- What is accepted over a theory is accepted, by new names, over one that has it by them.
use Rattle.std.proofs.Common.{◌≡◌, ℕ, suc, List, [], ◌∷◌, map, Some, None, option_and_then, refl, sym, ◌∙◌, ap, subst}
use Rattle.std.proofs.lemmas.Option.{option_and_then_some}
use Rattle.larch_base.proofs.Options.{some_inj}
use Rattle.larch_term.specs.declared.statement.Statement.{Statement}
use Rattle.larch_term.specs.declared.statement.Theory.{Theory}
use Rattle.larch_certificate.specs.declared.line.Line.{Line}
use Rattle.larch_verify_meaning.specs.Acceptance.{Accepts}
use Rattle.larch_verify_meaning.specs.Context.{innermost}
use Rattle.larch_verify_meaning.specs.Events.{PlainBox, Event, State, start}
use Rattle.larch_verify_meaning.specs.RenamingRenaming.{renamed_statement}
use Rattle.larch_verify_meaning.specs.Run.{step, run}
use Rattle.larch_verify_law.proofs.Carried.{step_moved, step_count}
use Rattle.larch_verify_law.specs.Carrying.{IsMove, KeepsCited, Matches, outermost, inside, EndsMoved}
use Rattle.larch_verify_law.specs.Moves.{Move, moved_line}
use Rattle.larch_import_names.proofs.Agreement.{same_renamed}
use Rattle.larch_import_names.specs.Names.{renaming}
use Rattle.larch_import_names.specs.Sorted.{HasNamedSorts}
use Rattle.larch_import_names.specs.declared.pairs.Renaming.{Renaming}
use Rattle.larch_import_meaning.specs.Fresh.{fresh_sort}
use Rattle.larch_import_meaning.specs.Imported.{import_move, import_lines, HasRenamed}
use Rattle.larch_import_meaning.specs.Lengths.{longest}
use Rattle.larch_import_meaning.proofs.Moving.{is_move, keeps_cited}

no_level : (p : PlainBox × List Event) → None ≡ Some p → ⊥
no_level p e = cc

-- where the first has no box open, the second has none
no_open : (m : Move) (c : ℕ) (h g : List Event) → Matches m c h g → innermost h ≡ None → innermost g ≡ None
no_open m c h g (outermost i j n y) e = j
no_open m c h g (inside q l x i j n y z) e = absurd (no_level (x, q) (sym e ∙ i))

-- a line and those behind it
one_by_one : (u : Theory) (su there other : State) (l : Line) (ls : List Line) → step u su l ≡ Some there
    → run u there ls ≡ Some other → run u su (l ∷ ls) ≡ Some other
one_by_one u su there other l ls e h = ap (option_and_then (λ z. run u z ls)) e ∙ h

-- ---- a move that keeps the numbers of lines and boxes, and all statements of the theory

module _ (m : Move) (t u : Theory) (x : IsMove m t u) (kept : (l : Line) → KeepsCited m t u l)
    (lines : (n : ℕ) → m.line n ≡ n) (boxes : (n : ℕ) → m.box n ≡ n) where
  -- what goes along with the lines
  record Goes (st su : State) : Type 0 where
    count : su.count ≡ st.count
    matches : Matches m su.count st.history su.history
    ends : EndsMoved m st.history su.history

  begun : Goes start start
  begun =
      record {
        count = refl;
        matches = outermost refl refl
            (record { lines = λ n s e. cc; open_boxes = λ b y e. cc; closed_boxes = λ b y s q e. cc })
            (λ n s e. cc);
        ends = λ s e. cc;
      }

  carried : (ls : List Line) (st su last : State) → Goes st su → run t st ls ≡ Some last
      → (other : State) × (run u su (map (moved_line m) ls) ≡ Some other) × Goes last other
  carried [] st su last g e = (su, refl, subst (λ z. Goes z su) (some_inj e) g)
  carried (l ∷ ls) st su last g e =
      option_and_then_some (λ v. run t v ls) (step t st l) last e
      (λ next p q.
      let line : m.line (suc st.count) ≡ suc su.count = lines (suc st.count) ∙ ap suc (sym g.count) in
      let box : m.box (suc st.count) ≡ suc su.count = boxes (suc st.count) ∙ ap suc (sym g.count) in
      let v = step_moved m t u x st su next l (kept l) line box g.matches
      (λ s w. (renamed_statement m.renaming s, g.ends s w, λ _. refl)) p in
      let there : State = v.0 in
      let f = v.2 in
      let rest = carried ls next there last
      (record {
        count = f.count ∙ ap suc g.count ∙ sym (step_count t st next l p);
        matches = subst (λ n. Matches m n next.history there.history) (sym f.count) f.matches;
        ends = f.ends;
      }) q in
      (rest.0, one_by_one u su there rest.0 (moved_line m l) (map (moved_line m) ls) v.1 rest.1, rest.2))

  pub moved_accepted : (s : Statement) (ls : List Line) → Accepts t s ls
      → Accepts u (renamed_statement m.renaming s) (map (moved_line m) ls)
  moved_accepted s ls a =
      let v = carried ls start start a.state begun a.none_bad in
      let g = v.2 in
      record {
        state = v.0;
        none_bad = v.1;
        closed = no_open m v.0.count a.state.history v.0.history g.matches a.closed;
        last = g.ends s a.last;
      }

-- ---- the move to new names

pub renamed_accepted : (by : Renaming) (t u : Theory) (places : List ℕ) (s : Statement) (ls : List Line)
    → HasRenamed by t u places → HasNamedSorts by s → Accepts t s ls
    → Accepts u (renamed_statement (renaming by) s) (import_lines by t u places ls)
renamed_accepted by t u places s ls x named a =
    subst (λ z. Accepts u z (import_lines by t u places ls))
    (same_renamed by (fresh_sort (longest by u)) (λ z. z) s named)
    (moved_accepted (import_move by t u places) t u (is_move by t u places x) (keeps_cited by t u places x)
    (λ n. refl) (λ n. refl) s ls a)
