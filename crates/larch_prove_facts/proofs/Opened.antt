-- Boxes are opened for the constants of one term more.
use Rattle.std.specs.Prelude.{◌≡◌, ◌+◌, ◌<◌, ◌++◌, ◌∷◌, ℕ, List, [], All, get_or, length, take}
use Rattle.std.proofs.Common.{ap, subst, sym, ◌∙◌}
use Rattle.std.proofs.lemmas.List.{take_more}
use Rattle.std.proofs.lemmas.List.Elements.{All-push, All-weaker}
use Rattle.larch_derive.specs.Predicates.{Known}
use Rattle.larch_prove_work.specs.ProveDraftDraft.{Stands}
use Rattle.larch_prove_work.specs.ProveDraftDraftDraft.{Draft}
use Rattle.larch_prove_facts.specs.Derivation.{StandsFor}
use Rattle.larch_prove_facts.specs.Entries.{MayStand}
use Rattle.larch_prove_work.specs.ProveInvariantBook.{Kept}
use Rattle.larch_prove_meaning.specs.Levels.{Proof}
use Rattle.larch_prove_work.specs.Written.{IsOpenedFor, MayWrite}
use Rattle.larch_store.specs.Numbered.{Numbered}
use Rattle.larch_term.specs.Operator.{PlainOperator}
use Rattle.larch_term.specs.declared.statement.Statement.{Statement}
use Rattle.larch_term.specs.declared.statement.Theory.{Theory}
use Rattle.larch_term.specs.declared.substitution.Entry.{Entry}

pub entry_opened : (t : Theory) (s : Statement) (store : List Numbered) (d e : Draft) (p : Proof) (k : Kept)
    (ks : List Kept) (block : List PlainOperator) (entries : List Entry) (i : ℕ) (x : Entry) → i < length entries
    → x ≡ get_or entries i x → p.constants ≡ block → All (MayStand t block) entries → Stands t s store d p k ks
    → All (λ y. Known d.builder y.term) (take i entries)
    → (MayWrite t block x.term p → IsOpenedFor t s store d e p ks x.term)
    → StandsFor t s store e p ks × All (λ y. Known e.builder y.term) (take (i + 1) entries)
entry_opened t s store d e p k ks block entries i x lt is constants may w known opens =
    let stand = subst (MayStand t block) (sym is) (may i x lt) in
    let o = opens (record { constants = constants; over = stand.0; words = stand.1 }) in
    let longer : take (i + 1) entries ≡ take i entries ++ x ∷ [] =
    take_more entries i x lt ∙ ap (λ y. take i entries ++ y ∷ []) (sym is) in (
      (o.top, o.stands),
      subst (All (λ (y : Entry). Known e.builder y.term)) (sym longer)
          (All-push (λ (y : Entry). Known e.builder y.term) (take i entries) x
          (All-weaker (λ (y : Entry). Known d.builder y.term) (λ (y : Entry). Known e.builder y.term)
          (λ y q. o.stays y.term q) (take i entries) known) o.known),
    )
