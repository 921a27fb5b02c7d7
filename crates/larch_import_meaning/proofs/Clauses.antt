-- What doesn't end with a stated clause doesn't do so by new names.
use Rattle.std.proofs.Common.{◌≡◌, suc, false, List, [], ◌∷◌, map, Some, refl, sym, ◌∙◌, ap}
use Rattle.std.specs.Option.{option_map_or}
use Rattle.std.proofs.lemmas.Option.{option_and_then_some}
use Rattle.larch_term.specs.declared.statement.Statement.{Statement}
use Rattle.larch_term.specs.declared.statement.Statement.TheVariants as statement
use Rattle.larch_term.specs.declared.statement.Theory.{Theory}
use Rattle.larch_certificate.specs.declared.line.Line.{Line}
use Rattle.larch_certificate.specs.declared.line.Line.TheVariants.{Axiom, Hyp, Row, Refl, Sym, Inst, Repl, Equal}
use Rattle.larch_certificate.specs.declared.line.Line.TheVariants.{BoxLine, Done, Fresh, Cases, Induct, Observe}
use Rattle.larch_certificate.specs.declared.line.Line.TheVariants.{Generated, Partitioned}
use Rattle.larch_verify_meaning.specs.Acceptance.{Accepts}
use Rattle.larch_verify_meaning.specs.Events.{Said, State, start}
use Rattle.larch_verify_meaning.specs.LastLine.{is_clause, states_clause, ends_with_stated_clause}
use Rattle.larch_verify_meaning.specs.LastLine.{EndsWithoutStatedClause}
use Rattle.larch_verify_meaning.specs.RenamingRenaming.{Renaming, renamed_statement}
use Rattle.larch_verify_meaning.specs.Rules.{axiom_says}
use Rattle.larch_verify_meaning.specs.Run.{happens, step, run}
use Rattle.larch_verify_law.proofs.Told.{option_map_some}
use Rattle.larch_verify_law.specs.Carrying.{KeepsCited}
use Rattle.larch_verify_law.specs.Moves.{Move, moved_line}

clause_stays : (r : Renaming) (s : Statement) → is_clause (renamed_statement r s) ≡ is_clause s
clause_stays r (statement.Equation a b) = refl
clause_stays r (statement.Generated s fs) = refl
clause_stays r (statement.Partitioned s fs) = refl

module _ (m : Move) (t u : Theory) (kept : (l : Line) → KeepsCited m t u l) where
  -- a line that isn't bad and states no clause states none by new names
  states_none : (l : Line) (st next : State) → step t st l ≡ Some next → states_clause t l ≡ false
      → states_clause u (moved_line m l) ≡ false
  states_none (Axiom k) st next e h =
      option_map_some (λ w. record { count = suc st.count; history = w })
      (happens t st.history (suc st.count) (Axiom k)) next e
      (λ w p q. option_map_some (λ s. Said (suc st.count) s ∷ st.history) (axiom_says t k) w p
      (λ s c d.
      ap (λ o. option_map_or is_clause o false) (kept (Axiom k) s c) ∙ clause_stays m.renaming s
      ∙ sym (ap (λ o. option_map_or is_clause o false) c) ∙ h))
  states_none (Hyp b k) st next e h = refl
  states_none (Row k s) st next e h = refl
  states_none (Refl c) st next e h = refl
  states_none (Sym n) st next e h = refl
  states_none (Inst n bs) st next e h = refl
  states_none (Repl n q k) st next e h = refl
  states_none (Equal n) st next e h = refl
  states_none (BoxLine ps es) st next e h = refl
  states_none Done st next e h = refl
  states_none (Fresh b vs) st next e h = refl
  states_none (Cases b c) st next e h = refl
  states_none (Induct n y q bs) st next e h = refl
  states_none (Observe n q ns) st next e h = refl
  states_none (Generated b s ks) st next e h = refl
  states_none (Partitioned b s ks) st next e h = refl

  ends_none : (ls : List Line) (st last : State) → run t st ls ≡ Some last → ends_with_stated_clause t ls ≡ false
      → ends_with_stated_clause u (map (moved_line m) ls) ≡ false
  ends_none [] st last e h = refl
  ends_none (l ∷ []) st last e h =
      option_and_then_some (λ v. run t v []) (step t st l) last e (λ next p q. states_none l st next p h)
  ends_none (l ∷ k ∷ ls) st last e h =
      option_and_then_some (λ v. run t v (k ∷ ls)) (step t st l) last e (λ next p q. ends_none (k ∷ ls) next last q h)

  pub moved_ends : (s : Statement) (ls : List Line) → Accepts t s ls → EndsWithoutStatedClause t ls
      → EndsWithoutStatedClause u (map (moved_line m) ls)
  moved_ends s ls a h = ends_none ls start a.state a.none_bad h
