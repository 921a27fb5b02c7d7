-- A theory's equations with their lines.
use Rattle.std.specs.Prelude.{◌≡◌, ◌+◌, ◌<◌, ◌≤◌, ℕ, suc, List, [], ◌∷◌, ◌++◌, All, drop, get_or, length, map, refl}
use Rattle.std.specs.List.{flat_map, slice_get}
use Rattle.std.proofs.Common.{ap, ap₂, arith, subst, sym, ◌∙◌}
use Rattle.std.proofs.lemmas.List.{append-nil, append_assoc, at_drop_more, drop_all, map-append}
use Rattle.std.proofs.lemmas.List.Elements.{All-get_or}
use Rattle.std.proofs.lemmas.Option.{slice_get_read}
use Rattle.larch_complete.specs.Stated.{AreStated, IsStated}
use Rattle.larch_complete_meaning.specs.Completion.{task_of}
use Rattle.larch_complete_meaning.specs.Rounds.{Task}
use Rattle.larch_complete_pairs.specs.Said.{sides_in}
use Rattle.larch_complete_pairs.specs.declared.said.SaidEquation.{SaidEquation}
use Rattle.larch_derive.specs.Builder.{theory_in}
use Rattle.larch_derive.specs.Predicates.{Extends, HasNoBadLine}
use Rattle.larch_derive.specs.declared.builder.Builder.{Builder}
use Rattle.larch_derive.proofs.Growth.{extends_grows, grown_stands, grows_alike}
use Rattle.larch_order.specs.Precedence.{precedence_of}
use Rattle.larch_order.specs.declared.precedence.Ranked.{Ranked}
use Rattle.larch_rewrite_meaning.specs.Sides.{Sides, sides_of}
use Rattle.larch_term.specs.Statement.{IsStatementOver, IsWellSortedTheory, statement_zero}
use Rattle.larch_term.specs.Tree.{Tree}
use Rattle.larch_term.specs.declared.statement.Statement.{Statement}
use Rattle.larch_term.specs.declared.statement.Statement.TheVariants.{Equation, Generated, Partitioned}
use Rattle.larch_term.specs.declared.statement.Theory.{Theory}

abbrev two_sides : Tree → Tree → Sides
two_sides l r = record { left = l; right = r }

abbrev pub task_by : List Ranked → ℕ → List Sides → Task
task_by ranks limit es = record { ranks = ranks; budget = limit; equations = es }

-- ---- statements

pub own_stated : (b : Builder) (t : Theory) → theory_in b ≡ t → HasNoBadLine b → IsWellSortedTheory t
    → AreStated b t.statements
own_stated b t e h w = record {
  stands = h;
  are = ap (λ (u : Theory). u.statements) e;
  sorted = subst (λ (u : Theory). All (IsStatementOver u.operators) t.statements) (sym e) w;
}

pub stated_stay : (a b : Builder) (ss : List Statement) → Extends a b → AreStated a ss → AreStated b ss
stated_stay a b ss x h =
    let e : theory_in b ≡ theory_in a = (grows_alike a b (extends_grows a b x)).0 in
    record {
      stands = grown_stands a b (extends_grows a b x) h.stands;
      are = ap (λ (t : Theory). t.statements) e ∙ h.are;
      sorted = subst (λ (t : Theory). All (IsStatementOver t.operators) ss) (sym e) h.sorted;
    }

pub stated_at : (b : Builder) (ss : List Statement) (i n : ℕ) (s : Statement) → AreStated b ss → i < length ss
    → s ≡ get_or ss i s → n ≡ i + 1 → IsStated b n s
stated_at b ss i n s h l e m =
    let k : n ≡ suc i = omega (arith, m) in
    record {
      stands = h.stands;
      is = ap (slice_get (statement_zero ∷ (theory_in b).statements)) k ∙ ap (λ us. slice_get us i) h.are
          ∙ slice_get_read ss (length ss) i s refl l e;
      sorted = subst (IsStatementOver (theory_in b).operators) (sym e)
          (All-get_or (IsStatementOver (theory_in b).operators) ss i s l h.sorted);
    }

-- ---- their equations

flat_next : (ss : List Statement) (i : ℕ) (s : Statement) → i < length ss → s ≡ get_or ss i s
    → flat_map sides_of (drop i ss) ≡ sides_of s ++ flat_map sides_of (drop (i + 1) ss)
flat_next ss i s l e =
    at_drop_more (flat_map sides_of) ss i s l ∙ ap (λ x. sides_of x ++ flat_map sides_of (drop (i + 1) ss)) (sym e)

-- the equations so far, and those of the further statements, are those of all
pub equations_more : (ss : List Statement) (i : ℕ) (s : Statement) (now new : List SaidEquation) → i < length ss
    → s ≡ get_or ss i s → map sides_in new ≡ map sides_in now ++ sides_of s
    → map sides_in now ++ flat_map sides_of (drop i ss) ≡ flat_map sides_of ss
    → map sides_in new ++ flat_map sides_of (drop (i + 1) ss) ≡ flat_map sides_of ss
equations_more ss i s now new l e n h =
    let rest = flat_map sides_of (drop (i + 1) ss) in
    ap (λ es. es ++ rest) n ∙ append_assoc (map sides_in now) (sides_of s) rest
    ∙ ap (λ es. map sides_in now ++ es) (sym (flat_next ss i s l e)) ∙ h

pub equations_all : (ss : List Statement) (i : ℕ) (now : List SaidEquation) → length ss ≤ i
    → map sides_in now ++ flat_map sides_of (drop i ss) ≡ flat_map sides_of ss → map sides_in now ≡ flat_map sides_of ss
equations_all ss i now l h =
    sym (append-nil (map sides_in now))
    ∙ ap (λ us. map sides_in now ++ flat_map sides_of us) (sym (drop_all i ss l)) ∙ h

pub equation_more : (now new : List SaidEquation) (e : SaidEquation) (s : Statement) (l r : Tree) → s ≡ Equation l r
    → e.left ≡ l → e.right ≡ r → new ≡ now ++ e ∷ [] → map sides_in new ≡ map sides_in now ++ sides_of s
equation_more now new e s l r q p k n =
    ap (map sides_in) n ∙ map-append sides_in now (e ∷ [])
    ∙ ap (λ (d : Sides). map sides_in now ++ d ∷ [])
    (ap₂ (λ (x y : Tree). two_sides x y) p k)
    ∙ ap (λ t. map sides_in now ++ sides_of t) (sym q)

-- what is no equation has none
pub no_sides : (es : List SaidEquation) (s : Statement) → ((l r : Tree) → s ≡ Equation l r → ⊥)
    → map sides_in es ≡ map sides_in es ++ sides_of s
no_sides es (Equation l r) n = absurd (n l r refl)
no_sides es (Generated sort generators) n = sym (append-nil (map sides_in es))
no_sides es (Partitioned sort observers) n = sym (append-nil (map sides_in es))

-- ---- what a completion works with

pub task_stated : (theory : Theory) (limit : ℕ) (ranks : List Ranked) (es : List SaidEquation)
    → ranks ≡ precedence_of theory.operators → map sides_in es ≡ flat_map sides_of theory.statements
    → task_by ranks limit (map sides_in es) ≡ task_of theory limit
task_stated theory limit ranks es p q = ap₂ (λ (r : List Ranked) (s : List Sides). task_by r limit s) p q
