-- A run over a theory is one over each theory that it begins: the move that changes nothing carries it.
use Rattle.std.proofs.Common.{◌≡◌, ℕ, zero, suc, ◌==◌, ◌-◌, Bool, true, false, cond, List, [], ◌∷◌, ◌++◌, map, Option}
use Rattle.std.proofs.Common.{Some, None, option_map, option_and_then, refl, sym, ◌∙◌, ap, subst}
use Rattle.std.specs.List.{slice_get}
use Rattle.std.proofs.lemmas.Option.{option_and_then_some}
use Rattle.larch_base.specs.ByNumber.{numbered}
use Rattle.larch_term.specs.Statement.{statement_zero}
use Rattle.larch_term.specs.declared.statement.Statement.{Statement}
use Rattle.larch_term.specs.declared.statement.Theory.{Theory}
use Rattle.larch_verify_meaning.proofs.RenamingRenamedStatements.{statement_unchanged}
use Rattle.larch_verify_meaning.specs.RenamingRenaming.{no_renaming, renamed_statement}
use Rattle.larch_verify_meaning.specs.CalculusRenaming.{IsFaithful}
use Rattle.larch_verify_meaning.specs.CalculusTheories.{IsFront, IsPrefix}
use Rattle.larch_certificate.specs.Coded.{CodedTree, CodedForest, coded_var, coded_app, no_terms, term_then}
use Rattle.larch_certificate.specs.declared.line.Binding.{Binding}
use Rattle.larch_certificate.specs.declared.line.CodedEquation.{CodedEquation}
use Rattle.larch_certificate.specs.declared.line.Line.{Line}
use Rattle.larch_certificate.specs.declared.line.Line.TheVariants.{Axiom, Hyp, Row, Refl, Sym, Inst, Repl, Equal}
use Rattle.larch_certificate.specs.declared.line.Line.TheVariants.{BoxLine, Done, Fresh, Cases, Induct, Observe}
use Rattle.larch_certificate.specs.declared.line.Line.TheVariants.{Generated, Partitioned}
use Rattle.larch_certificate.specs.declared.symbol.Symbol.{Symbol}
use Rattle.larch_certificate.specs.declared.symbol.Symbol.TheVariants.{Own, Constant, BuiltIn}
use Rattle.larch_verify_meaning.specs.Acceptance.{Accepts}
use Rattle.larch_verify_meaning.specs.Events.{PlainBox, Event, Said, Opened, State, start}
use Rattle.larch_verify_meaning.specs.Rules.{row_says}
use Rattle.larch_verify_meaning.specs.Run.{judge, box_opens, happens, step, run}
use Rattle.larch_verify_law.specs.Carrying.{IsMove, KeepsCited, NamesAlike}
use Rattle.larch_verify_law.specs.Moves.{no_move, moved_symbol, moved_term, moved_terms, moved_equation, moved_binding}
use Rattle.larch_verify_law.specs.Moves.{moved_part, moved_variable, moved_line, moved_box}
use Rattle.larch_verify_law.proofs.Carried.{judge_moved, Kind, opens, closes, says, kind, box_moved}
use Rattle.larch_verify_law.proofs.Told.{option_map_some}

pub got_in_front : {X : Type 0} (xs rest : List X) (i : ℕ) (x : X) → slice_get xs i ≡ Some x
    → slice_get (xs ++ rest) i ≡ Some x
got_in_front [] rest i x e = cc
got_in_front (y ∷ ys) rest zero x e = e
got_in_front (y ∷ ys) rest (suc i) x e = got_in_front ys rest i x e

pub got_goes : {X : Type 0} (xs ys : List X) → IsFront xs ys → (i : ℕ) (x : X) → slice_get xs i ≡ Some x
    → slice_get ys i ≡ Some x
got_goes xs ys f i x e = subst (λ zs. slice_get zs i ≡ Some x) (sym f.1) (got_in_front xs f.0 i x e)

later_goes : {X : Type 0} (b : Bool) (o p : Option X) (x : X) → (o ≡ Some x → p ≡ Some x) → cond b None o ≡ Some x
    → cond b None p ≡ Some x
later_goes true o p x k e = e
later_goes false o p x k e = k e

pub numbered_goes : {X : Type 0} (xs ys : List X) → IsFront xs ys → (n : ℕ) (x : X) → numbered xs n ≡ Some x
    → numbered ys n ≡ Some x
numbered_goes xs ys f n x e =
    later_goes (n == 0) (slice_get xs (n - 1)) (slice_get ys (n - 1)) x (got_goes xs ys f (n - 1) x) e

zero_or_front : (t u : Theory) → IsPrefix t u → (k : ℕ) (s : Statement)
    → slice_get (statement_zero ∷ t.statements) k ≡ Some s → slice_get (statement_zero ∷ u.statements) k ≡ Some s
zero_or_front t u p zero s e = e
zero_or_front t u p (suc k) s e = got_goes t.statements u.statements p.1 k s e

-- ---- the move that changes nothing

map_unchanged : {X : Type 0} (f : X → X) → ((x : X) → f x ≡ x) → (xs : List X) → map f xs ≡ xs
map_unchanged f k [] = refl
map_unchanged f k (x ∷ xs) = λ i. k x i ∷ map_unchanged f k xs i

some_unchanged : {X : Type 0} (o : Option X) → option_map (λ x. x) o ≡ o
some_unchanged None = refl
some_unchanged (Some x) = refl

symbol_unchanged : (y : Symbol) → moved_symbol no_move y ≡ y
symbol_unchanged (Own k) = refl
symbol_unchanged (Constant b k) = refl
symbol_unchanged (BuiltIn b) = refl

mutual
  term_unchanged : (c : CodedTree) → moved_term no_move c ≡ c
  term_unchanged (coded_var n s) = refl
  term_unchanged (coded_app y cs) = λ i. coded_app (symbol_unchanged y i) (terms_unchanged cs i)

  terms_unchanged : (cs : CodedForest) → moved_terms no_move cs ≡ cs
  terms_unchanged no_terms = refl
  terms_unchanged (term_then c cs) = λ i. term_then (term_unchanged c i) (terms_unchanged cs i)

equation_unchanged : (e : CodedEquation) → moved_equation no_move e ≡ e
equation_unchanged e = λ i. record { left = term_unchanged e.left i; right = term_unchanged e.right i }

binding_unchanged : (b : Binding) → moved_binding no_move b ≡ b
binding_unchanged b = λ i. record { name = b.name; sort = b.sort; term = term_unchanged b.term i }

numbers_unchanged : (ns : List ℕ) → map (λ n. n) ns ≡ ns
numbers_unchanged ns = map_unchanged (λ n. n) (λ n. refl) ns

pub line_unchanged : (l : Line) → moved_line no_move l ≡ l
line_unchanged (Axiom k) = refl
line_unchanged (Hyp b k) = refl
line_unchanged (Row k s) = ap (Row k) (some_unchanged s)
line_unchanged (Refl c) = ap Refl (term_unchanged c)
line_unchanged (Sym n) = refl
line_unchanged (Inst n bs) = ap (Inst n) (map_unchanged (moved_binding no_move) binding_unchanged bs)
line_unchanged (Repl n p k) = refl
line_unchanged (Equal n) = refl
line_unchanged (BoxLine ps es) =
    λ i. BoxLine (map_unchanged (moved_part no_move) (λ p. refl) ps i)
    (map_unchanged (moved_equation no_move) equation_unchanged es i)
line_unchanged Done = refl
line_unchanged (Fresh b vs) = ap (Fresh b) (map_unchanged (moved_variable no_move) (λ v. refl) vs)
line_unchanged (Cases b c) = refl
line_unchanged (Induct n x e bs) = λ i. Induct n x (equation_unchanged e i) (numbers_unchanged bs i)
line_unchanged (Observe n e ns) = λ i. Observe n (equation_unchanged e i) (numbers_unchanged ns i)
line_unchanged (Generated b s ks) = ap (Generated b s) (numbers_unchanged ks)
line_unchanged (Partitioned b s ks) = ap (Partitioned b s) (numbers_unchanged ks)

box_unchanged : (b : PlainBox) → moved_box no_move b ≡ b
box_unchanged b =
    λ i. record {
      number = b.number;
      parts = map_unchanged (moved_part no_move) (λ p. refl) b.parts i;
      hypotheses = map_unchanged (renamed_statement no_renaming) statement_unchanged b.hypotheses i;
    }

pub unchanged_faithful : IsFaithful no_renaming
unchanged_faithful =
    record {
      signatures = record { domain = λ f. sym (map_unchanged (λ s. s) (λ s. refl) f.domain); range = λ f. refl };
      built_in = record { truth_values = refl; operators = λ b s. refl };
      apart = λ s q e. e;
    }

names_unchanged : (h : List Event) → NamesAlike no_move h h
names_unchanged h =
    record {
      lines = λ n s e. e ∙ ap Some (sym (statement_unchanged s));
      open_boxes = λ b x e. e ∙ ap Some (sym (box_unchanged x));
      closed_boxes = λ b x s q e. e ∙ (λ i. Some (sym (box_unchanged x) i, sym (statement_unchanged s) i));
    }

-- ---- it goes from a theory to each that it begins

prefix_move : (t u : Theory) → IsPrefix t u → IsMove no_move t u
prefix_move t u p =
    record {
      faithful = unchanged_faithful;
      no_sort = refl;
      operators = numbered_goes t.operators u.operators p.0;
      boxes = λ f b k. (λ e. e, λ e. e);
      rows = λ k s x e. ap (row_says k) (some_unchanged s) ∙ e ∙ ap Some (sym (statement_unchanged x));
    }

prefix_keeps : (t u : Theory) → IsPrefix t u → (l : Line) → KeepsCited no_move t u l
prefix_keeps t u p (Axiom k) = λ s e. zero_or_front t u p k s e ∙ ap Some (sym (statement_unchanged s))
prefix_keeps t u p (Hyp b k) = tt
prefix_keeps t u p (Row k s) = tt
prefix_keeps t u p (Refl c) = tt
prefix_keeps t u p (Sym n) = tt
prefix_keeps t u p (Inst n bs) = tt
prefix_keeps t u p (Repl n q k) = tt
prefix_keeps t u p (Equal n) = tt
prefix_keeps t u p (BoxLine ps es) = tt
prefix_keeps t u p Done = tt
prefix_keeps t u p (Fresh b vs) = tt
prefix_keeps t u p (Cases b c) = tt
prefix_keeps t u p (Induct n x e bs) = tt
prefix_keeps t u p (Observe n e ns) = tt
prefix_keeps t u p (Generated b s ks) = tt
prefix_keeps t u p (Partitioned b s ks) = tt

happens_goes : (t u : Theory) → IsPrefix t u → (h : List Event) (n : ℕ) (l : Line) → Kind l → (k : List Event)
    → happens t h n l ≡ Some k → happens u h n l ≡ Some k
happens_goes t u p h n l (opens ps es) k e =
    let o = box_moved no_move t u (prefix_move t u p) h h (names_unchanged h).open_boxes n ps es k e in
    let b : PlainBox = o.0 in
    (λ i. box_opens u h n (sym (map_unchanged (moved_part no_move) (λ q. refl) ps) i)
    (sym (map_unchanged (moved_equation no_move) equation_unchanged es) i))
    ∙ o.2 ∙ ap (λ c. Some (Opened c ∷ h)) (box_unchanged b) ∙ ap Some (sym o.1)
happens_goes t u p h n l closes k e = e
happens_goes t u p h n l (says happened moved) k e =
    option_map_some (λ s. Said n s ∷ h) (judge t h l) k (sym (happened t h n) ∙ e)
    (λ s q w. happened u h n
    ∙ ap (option_map (λ z. Said n z ∷ h))
    (ap (judge u h) (sym (line_unchanged l))
    ∙ judge_moved no_move t u (prefix_move t u p) h h (names_unchanged h) l (prefix_keeps t u p l) s q
    ∙ ap Some (statement_unchanged s))
    ∙ ap Some w)

step_goes : (t u : Theory) → IsPrefix t u → (st next : State) (l : Line) → step t st l ≡ Some next
    → step u st l ≡ Some next
step_goes t u p st next l e =
    option_map_some (λ h. record { count = suc st.count; history = h }) (happens t st.history (suc st.count) l) next e
    (λ k q w. ap (option_map (λ h. record { count = suc st.count; history = h }))
    (happens_goes t u p st.history (suc st.count) l (kind l) k q) ∙ ap Some w)

pub run_goes : (t u : Theory) → IsPrefix t u → (st : State) (ls : List Line) (last : State) → run t st ls ≡ Some last
    → run u st ls ≡ Some last
run_goes t u p st [] last e = e
run_goes t u p st (l ∷ ls) last e =
    option_and_then_some (λ next. run t next ls) (step t st l) last e
    (λ next q r. ap (option_and_then (λ v. run u v ls)) (step_goes t u p st next l q) ∙ run_goes t u p next ls last r)

-- the prefix law
pub prefix_accepts : (t u : Theory) (s : Statement) (ls : List Line) → IsPrefix t u → Accepts t s ls → Accepts u s ls
prefix_accepts t u s ls p a =
    record { state = a.state; none_bad = run_goes t u p start ls a.state a.none_bad; closed = a.closed; last = a.last }
