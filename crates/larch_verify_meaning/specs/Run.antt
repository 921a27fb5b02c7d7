-- Lines one after the other.
use Rattle.std.specs.Prelude.{ℕ, suc, List, [], ◌∷◌, Option, Some, None, option_map, option_and_then}
use Rattle.std.specs.Option.{option_map_or}
use Rattle.larch_certificate.specs.TermStatementStatement.{Statement}
use Rattle.larch_certificate.specs.TermStatementTheory.{Theory}
use Rattle.larch_certificate.specs.declared.line.BoxPart.{BoxPart}
use Rattle.larch_certificate.specs.declared.line.CodedEquation.{CodedEquation}
use Rattle.larch_certificate.specs.declared.line.Line.{Line}
use Rattle.larch_certificate.specs.declared.line.Line.TheVariants.{Axiom, Hyp, Row, Refl, Sym, Inst, Repl, Equal}
use Rattle.larch_certificate.specs.declared.line.Line.TheVariants.{BoxLine, Done, Fresh, Cases, Induct, Observe}
use Rattle.larch_certificate.specs.declared.line.Line.TheVariants.{Generated, Partitioned}
use Rattle.larch_verify_meaning.specs.BoxRules.{fresh_says, cases_says, induct_says}
use Rattle.larch_verify_meaning.specs.ClauseRules.{observe_says, generated_says, partitioned_says}
use Rattle.larch_verify_meaning.specs.Context.{find_symbol, innermost}
use Rattle.larch_verify_meaning.specs.Decoding.{each, decode_equation}
use Rattle.larch_verify_meaning.specs.Events.{Event, Said, Opened, Closed, State, start}
use Rattle.larch_verify_meaning.specs.Rules.{axiom_says, hyp_says, row_says, refl_says, sym_says, inst_says, repl_says}
use Rattle.larch_verify_meaning.specs.Rules.{equal_says}

-- what a line says where events have happened; nothing where it is bad, and box and done lines say nothing
abbrev pub judge : Theory → List Event → Line → Option Statement
judge t h (Axiom k) = axiom_says t k
judge t h (Hyp b k) = hyp_says h b k
judge t h (Row k s) = row_says k s
judge t h (Refl c) = refl_says (find_symbol t h) c
judge t h (Sym m) = sym_says h m
judge t h (Inst m bs) = inst_says (find_symbol t h) h m bs
judge t h (Repl m p k) = repl_says h m p k
judge t h (Equal m) = equal_says h m
judge t h (BoxLine ps es) = None
judge t h Done = None
judge t h (Fresh b vs) = fresh_says h b vs
judge t h (Cases b c) = cases_says h b c
judge t h (Induct m x e bs) = induct_says (find_symbol t h) h m x e bs
judge t h (Observe m e ns) = observe_says (find_symbol t h) h m e ns
judge t h (Generated b s ks) = generated_says t h b s ks
judge t h (Partitioned b s ks) = partitioned_says t h b s ks

-- box: the line with a number opens a box, whose constants and predicates its own hypotheses may have
abbrev pub box_opens : Theory → List Event → ℕ → List BoxPart → List CodedEquation → Option (List Event)
box_opens t h n ps es =
    option_map (λ hs. Opened (record { number = n; parts = ps; hypotheses = hs }) ∷ h)
    (each (decode_equation (find_symbol t (Opened (record { number = n; parts = ps; hypotheses = [] }) ∷ h))) es)

-- done: the innermost box is closed with what the line directly before says in it
abbrev pub done_closes : List Event → Option (List Event)
done_closes [] = None
done_closes (Said n s ∷ h) = option_map (λ p. Closed p.0 s ∷ p.1) (innermost h)
done_closes (Opened b ∷ h) = None
done_closes (Closed b s ∷ h) = None

-- what has happened after the line with a number
abbrev pub happens : Theory → List Event → ℕ → Line → Option (List Event)
happens t h n (BoxLine ps es) = box_opens t h n ps es
happens t h n Done = done_closes h
happens t h n line = option_map (λ s. Said n s ∷ h) (judge t h line)

-- the state after a line, if the line isn't bad
abbrev pub step : Theory → State → Line → Option State
step t st line =
    option_map (λ h. record { count = suc st.count; history = h }) (happens t st.history (suc st.count) line)

-- the state after lines of which none is bad
abbrev pub run : Theory → State → List Line → Option State
run t st [] = Some st
run t st (line ∷ lines) = option_and_then (λ next. run t next lines) (step t st line)

-- the number of the first bad line behind a state
abbrev pub bad_from : Theory → State → List Line → Option ℕ
bad_from t st [] = None
bad_from t st (line ∷ lines) = option_map_or (λ next. bad_from t next lines) (step t st line) (Some (suc st.count))

-- the number of the first bad line, counted from 1
abbrev pub first_bad : Theory → List Line → Option ℕ
first_bad t lines = bad_from t start lines
