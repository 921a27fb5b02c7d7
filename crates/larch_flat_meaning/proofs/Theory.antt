-- A flat trait is sound.
use Rattle.std.proofs.Common.{◌≡◌, refl, ℕ, Bool, true, false, not, List, [], ◌∷◌, ◌++◌, All, Ok, subst}
use Rattle.std.specs.Prelude.{filter, fold, if◌then◌else◌}
use Rattle.std.proofs.lemmas.List.Elements.{All-nil, All-cons, All-head, All-map, All-push, All-tail, All-weaker}
use Rattle.larch_base.specs.declared.code.Code.TheVariants.{Size}
use Rattle.larch_raw.specs.Worded.{WordedShorthand, WordedTrait}
use Rattle.larch_raw.specs.declared.equation.RawTrait.{RawTrait}
use Rattle.larch_raw.specs.declared.reference.RawReference.{RawReference}
use Rattle.larch_raw.specs.declared.shorthand.RawShorthand.{RawShorthand}
use Rattle.larch_term.specs.Operator.{PlainOperator}
use Rattle.larch_term.specs.Statement.{IsStatementOver, IsTheory}
use Rattle.larch_term.specs.declared.statement.Statement.{Statement}
use Rattle.larch_shorthand.specs.TraitsItemsDeclarations.{declared_operators}
use Rattle.larch_shorthand.specs.TraitsItemsItems.{items_state}
use Rattle.larch_shorthand.proofs.TraitsItemsKept.{Any, after_was, all_any, ok_inj}
use Rattle.larch_shorthand.proofs.TraitsItemsStated.{declared_own, items_are}
use Rattle.larch_shorthand.specs.Shorthand.{expand}
use Rattle.larch_shorthand.specs.declared.expansion.Expansion.{Expansion}
use Rattle.larch_flat_meaning.specs.Files.{Files}
use Rattle.larch_flat_meaning.specs.Flat.{FlatTrait, finish_trait, flat, take_flat, take_items, take_own}
use Rattle.larch_flat_meaning.specs.Flat.{take_shorthand, theory_of, with_renamed, within}
use Rattle.larch_flat_meaning.specs.Gathered.{Gathered, is_too_large, stands_in, statements_in, with_asserted, with_new}
use Rattle.larch_flat_meaning.specs.Gathered.{with_operator, with_operators}
use Rattle.larch_flat_meaning.specs.Laws.{AreWorded, IsSound, IsStatedOver, gathered_in}
use Rattle.larch_flat_meaning.specs.Replacements.{replacements_of}
use Rattle.larch_shorthand.proofs.Expansions.{expansion_own, expansion_stated}
use Rattle.larch_flat_meaning.proofs.Gathering.{Keeps, every_flat}
use Rattle.larch_flat_meaning.proofs.Proper.{proper_keeps, refused_if_was, replacements_proper}
use Rattle.larch_flat_meaning.proofs.Sound.{operators_come, sound_asserted, sound_nothing, sound_operators}
use Rattle.larch_flat_meaning.proofs.Sound.{sound_renamed}
use Rattle.larch_flat_meaning.proofs.Stated.{stated_more}

sound_flat : (r : RawReference) (g h : Gathered) (t : FlatTrait) → IsSound (gathered_in t) → take_flat r g t ≡ Ok h
    → IsSound g → IsSound h
sound_flat r g h t i e k =
    let p = after_was (replacements_of t.operators t.raw.formals r.target)
    (λ by. within r.target.name.pos (with_renamed r.assumed t by g)) h e in
    let proper = replacements_proper t.operators t.raw.formals r.target p.0 p.1 in
    let q = refused_if_was Size r.target.name.pos (is_too_large (with_renamed r.assumed t p.0 g))
    (Ok (with_renamed r.assumed t p.0 g)) h p.2 in
    subst IsSound (ok_inj q.1) (sound_renamed r.assumed t p.0 g (proper_keeps p.0 proper.0) proper.1 i.marked k)

sound_shorthand : (s : RawShorthand) (g h : Gathered) → WordedShorthand s → take_shorthand s g ≡ Ok h
    → IsSound g → IsSound h
sound_shorthand s g h w e i =
    let p = after_was (expand s) (λ x. Ok (with_asserted x.statements (with_operators x.operators g))) h e in
    let x : Expansion = p.0 in
    let fs : List PlainOperator = fold with_operator g.operators x.operators in
    subst IsSound (ok_inj p.2)
    (sound_asserted fs x.statements (with_operators x.operators g) refl
    (All-weaker (IsStatedOver x.operators) (IsStatedOver fs)
    (stated_more x.operators fs (operators_come x.operators g.operators)) x.statements (expansion_stated s x p.1))
    (sound_operators x.operators g (expansion_own s x w p.1) i))

sound_items : (raw : RawTrait) (g h : Gathered) → take_items raw g ≡ Ok h → IsSound g → IsSound h
sound_items raw g h e i =
    let p = after_was (items_state g.operators raw.items) (λ ss. Ok (with_asserted ss g)) h e in
    subst IsSound (ok_inj p.2) (sound_asserted g.operators p.0 g refl (items_are g.operators raw.items p.0 p.1) i)

sound_own : (raw : RawTrait) (g h : Gathered) → take_own raw g ≡ Ok h → IsSound g → IsSound h
sound_own raw g h e i =
    let p = after_was (declared_operators raw.declarations) (λ fs. take_items raw (with_operators fs g)) h e in
    sound_items raw (with_operators p.0 g) h p.2 (sound_operators p.0 g (declared_own raw.declarations p.0 p.1) i)

new_by : (P : Statement → Type 0) (ss : List Statement) (s : Statement) (b : Bool) → All P ss → P s
    → All P (if b then ss else (ss ++ s ∷ []))
new_by P ss s true a p = a
new_by P ss s false a p = All-push P ss s a p

-- what holds of statements holds of those that are new among them
pub all_new : (P : Statement → Type 0) (ss known : List Statement) → All P known → All P ss
    → All P (fold with_new known ss)
all_new P [] known k a = k
all_new P (s ∷ ss) known k a =
    all_new P ss (with_new known s) (new_by P known s (stands_in known s) k (All-head P s ss a)) (All-tail P s ss a)

left_by : (P : Statement → Type 0) (s : Statement) (ss : List Statement) (b : Bool) → P s → All P ss
    → All P (if b then (s ∷ ss) else ss)
left_by P s ss true p a = All-cons P s ss p a
left_by P s ss false p a = a

pub all_left : (P : Statement → Type 0) (test : Statement → Bool) (ss : List Statement) → All P ss
    → All P (filter test ss)
all_left P test [] a = a
all_left P test (s ∷ ss) a =
    left_by P s (filter test ss) (test s) (All-head P s ss a) (all_left P test ss (All-tail P s ss a))

sound_finished : (raw : RawTrait) (g : Gathered) → IsSound g → IsSound (gathered_in (finish_trait raw g))
sound_finished raw g i =
    record {
      different = i.different;
      own = i.own;
      marked = i.marked;
      discharge =
          all_new (IsStatedOver g.operators) (filter (λ s. not (stands_in (statements_in g.marked) s)) g.discharge) []
          (All-nil (IsStatedOver g.operators))
          (all_left (IsStatedOver g.operators)
          (λ s. not (stands_in (statements_in g.marked) s)) g.discharge i.discharge);
    }

sound_keeps : Keeps WordedTrait Any WordedShorthand IsSound
sound_keeps =
    record {
      references = λ raw w. all_any raw.references;
      shorthands = λ raw w. w.4;
      begins = sound_nothing;
      with_flat = λ r g h t _ i e k. sound_flat r g h t i e k;
      with_shorthand = sound_shorthand;
      with_own = λ raw g h _ e i. sound_own raw g h e i;
      ends = sound_finished;
    }

pub flat_sound : (files : Files) → AreWorded files → (limit : ℕ) (name : List ℕ) (t : FlatTrait)
    → flat limit files name ≡ Ok t → IsSound (gathered_in t)
flat_sound files w limit name t e =
    every_flat WordedTrait Any WordedShorthand IsSound sound_keeps files w limit name t e

pub flat_theory : (files : Files) → AreWorded files → (limit : ℕ) (name : List ℕ) (t : FlatTrait)
    → flat limit files name ≡ Ok t → IsTheory (theory_of t)
flat_theory files w limit name t e =
    let i = flat_sound files w limit name t e in
    record {
      different = i.different;
      own = i.own;
      well_sorted =
          All-map (IsStatementOver t.operators) (λ m. m.statement) t.marked
          (All-weaker (λ m. IsStatedOver t.operators m.statement) (λ m. IsStatementOver t.operators m.statement)
          (λ m s. s.0) t.marked i.marked);
    }

pub flat_stated : (files : Files) → AreWorded files → (limit : ℕ) (name : List ℕ) (t : FlatTrait)
    → flat limit files name ≡ Ok t
    → All (IsStatedOver t.operators) (theory_of t).statements
flat_stated files w limit name t e =
    All-map (IsStatedOver t.operators) (λ m. m.statement) t.marked (flat_sound files w limit name t e).marked

pub flat_discharge : (files : Files) → AreWorded files → (limit : ℕ) (name : List ℕ) (t : FlatTrait)
    → flat limit files name ≡ Ok t
    → All (IsStatedOver t.operators) t.discharge
flat_discharge files w limit name t e = (flat_sound files w limit name t e).discharge
