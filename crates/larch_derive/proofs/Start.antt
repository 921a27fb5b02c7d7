-- The beginning: a builder without lines stands, and what is over the theory is known.
use Rattle.std.proofs.Common.{◌≡◌, ◌<◌, ◌+◌, ℕ, List, [], ◌∷◌, ◌++◌, map, length, take, get_or, All, refl, sym, ◌∙◌, ap}
use Rattle.std.proofs.Common.{subst}
use Rattle.std.proofs.lemmas.List.{take_more}
use Rattle.std.proofs.lemmas.List.Elements.{All-nil, All-push}
use Rattle.larch_term.specs.Operator.{OperatorName, PlainOperator, plain, boxed}
use Rattle.larch_term.specs.Sorts.{IsTermOver}
use Rattle.larch_term.specs.Tree.{Tree}
use Rattle.larch_term.specs.declared.statement.Theory.{Theory}
use Rattle.larch_verify_meaning.specs.RenamingRenaming.{no_renaming}
use Rattle.larch_verify_meaning.proofs.RenamingRenamed.{renamed_alike_over, renamed_unchanged}
use Rattle.larch_verify_meaning.specs.CalculusRenaming.{HasPlainNames, IsPlainName}
use Rattle.larch_verify_meaning.proofs.CalculusSorted.{term_over_more}
use Rattle.larch_certificate_text.specs.CertificateText.{Writable}
use Rattle.larch_verify_meaning.specs.Events.{start}
use Rattle.larch_verify_meaning.specs.Run.{run}
use Rattle.larch_derive.specs.declared.builder.Builder.{Builder}
use Rattle.larch_derive.specs.Builder.{IsEmpty, shape_of}
use Rattle.larch_derive.specs.OpenBox.{naming}
use Rattle.larch_derive.specs.Predicates.{AreOthers, operators_at, written_term, HasNoBadLine, Known}
use Rattle.larch_derive.specs.Words.{AreWordedOperators, IsWordedTerm, IsWordedTheory}
use Rattle.larch_derive.proofs.Unchanged.{own_in_lines, known_in_boxes}

named_plain : (n : List ℕ) (m : OperatorName) → plain n ≡ m → IsPlainName m
named_plain n (plain k) e = tt
named_plain n (boxed b k) e = cc

pub names_step : (fs : List PlainOperator) (i : ℕ) (f : PlainOperator) (n : List ℕ) → i < length fs → f ≡ get_or fs i f
    → plain n ≡ f.name → All (λ g. IsPlainName g.name) (take i fs) → All (λ g. IsPlainName g.name) (take (i + 1) fs)
names_step fs i f n lt is e h =
    subst (All (λ g. IsPlainName g.name)) (sym (take_more fs i f lt ∙ ap (λ y. take i fs ++ y ∷ []) (sym is)))
    (All-push (λ g. IsPlainName g.name) (take i fs) f h (named_plain n f.name e))

pub empty_stands : (t : Theory) (b : Builder) → IsEmpty t b → HasPlainNames t → IsWordedTheory t → HasNoBadLine b
unfolding HasNoBadLine
empty_stands t b e p w = (
  start,
  record {
    runs = ap (run b.theory start) e.1;
    plain = subst HasPlainNames (sym e.0) p;
    others =
        subst (All (λ x. AreOthers b.theory x.constants)) (sym e.2) (All-nil (λ x. AreOthers b.theory x.constants));
    opened = ap (map shape_of) (sym e.2);
    worded = subst IsWordedTheory (sym e.0) w;
    parts =
        subst (All (λ x. AreWordedOperators x.constants)) (sym e.2) (All-nil (λ x. AreWordedOperators x.constants));
    fits = subst Writable (sym e.1) tt;
  },
)

pub known_own : (b : Builder) (a : Tree) → HasNoBadLine b → IsTermOver b.theory.operators a → IsWordedTerm a
    → Known b a
unfolding HasNoBadLine Known
known_own b a (st, h) w x =
    let same : written_term b.boxes a ≡ a =
    renamed_alike_over (naming b.boxes) no_renaming b.theory.operators
    (record { sorts = λ s. refl; operators = λ f k. own_in_lines b.theory b.boxes f h.plain h.others k }) a w.1
    ∙ renamed_unchanged a in (
      st,
      record {
        stand = h;
        over = subst (IsTermOver (operators_at b.theory st)) (sym same)
            (term_over_more b.theory.operators (operators_at b.theory st)
            (λ f k. known_in_boxes b.theory st.history f k) a w);
        words = x;
      },
    )
