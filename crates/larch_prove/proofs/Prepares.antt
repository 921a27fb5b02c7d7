-- What commands of a preamble set.
use Rattle.std.specs.Prelude.{◌≡◌, ◌+◌, ◌<◌, ℕ, suc, Bool, false, true, List, [], ◌∷◌, drop, get_or, length, map}
use Rattle.std.specs.Prelude.{IfErr, OnOk, Option, None, Some, Result, Ok, Err, refl}
use Rattle.std.proofs.Common.{ap, arith, subst, sym, ◌∙◌}
use Rattle.std.proofs.lemmas.List.{append-nil, drop_more}
use Rattle.larch_base.specs.declared.code.Code.{Code}
use Rattle.larch_base.specs.declared.code.Code.TheVariants as refusal
use Rattle.larch_base.specs.declared.way.Way.{Way}
use Rattle.larch_order.specs.Precedence.{precedence_of}
use Rattle.larch_prove.specs.Prepared.{ComesTo, IsPreparedFor, prepared_proof}
use Rattle.larch_prove.specs.State.{place_of}
use Rattle.larch_prove.specs.declared.outcome.Place.{Place}
use Rattle.larch_prove.specs.declared.preparing.Prepared.{Prepared}
use Rattle.larch_prove_beginning.specs.Beginning.{unopened_proof}
use Rattle.larch_prove_meaning.specs.Levels.{Proof}
use Rattle.larch_prove_meaning.specs.Replays.{Duty, InPreamble, Refusal, all_prepared, blank, locate, prepare}
use Rattle.larch_prove_meaning.specs.Replays.{told_number}
use Rattle.larch_prove_meaning.specs.Steps.{carried_out}
use Rattle.larch_prove_beginning.specs.ProveSettingsChanging.{ChangesSettings}
use Rattle.larch_prove_beginning.specs.ProveSettingsSettings.{AreSettingsOf, with_settings}
use Rattle.larch_prove_beginning.specs.ProveSettingsTelling.{Tells}
use Rattle.larch_prove_beginning.specs.ProveSettingsRefusalCommandRefusal.{CommandRefusal}
use Rattle.larch_prove_beginning.specs.ProveSettingsSettingsSettings.{Settings}
use Rattle.larch_raw.specs.declared.declared.RawOpRef.{RawOpRef}
use Rattle.larch_raw.specs.declared.declared.RawWord.{RawWord}
use Rattle.larch_script_commands.specs.declared.command.CommandKind.{CommandKind}
use Rattle.larch_script_commands.specs.declared.command.CommandKind.TheVariants as command
use Rattle.larch_script_commands.specs.declared.command.RawCommand.{RawCommand}
use Rattle.larch_sorts_known.specs.Sorts.{existing_sorts}
use Rattle.larch_base_meaning.specs.Steps.{after}

-- ---- before a preamble

pub nothing_prepared : (d : Duty) (p : Prepared) (limit : ℕ) → p.settings.scope.value ≡ []
    → p.settings.precedence.value ≡ precedence_of d.theory.operators → p.settings.limit ≡ limit → p.checking ≡ false
    → prepared_proof d p ≡ blank d limit
nothing_prepared d p limit scope ranks limited checking =
    λ i. unopened_proof d (scope i) (ranks i) (limited i) (checking i)

pub first_settings : (d : Duty) (p : Prepared) → p.settings.signature.value ≡ d.theory.operators
    → p.settings.sorts.value ≡ existing_sorts d.theory.operators → p.settings.constants.value ≡ []
    → IsPreparedFor d p
first_settings d p operators sorts constants = record {
  operators = operators ∙ sym (append-nil d.theory.operators);
  sorts = sorts;
  constants = constants;
  scope = refl;
  ranks = refl;
  limit = refl;
}

-- what a preamble has come to
pub none_refused : (d : Duty) (p : Prepared) (refused : Option (Place × Code)) (answer : Result Proof Refusal)
    → refused ≡ None → ComesTo d p refused answer → (answer ≡ Ok (prepared_proof d p)) × IsPreparedFor d p
none_refused d p refused answer e h =
    subst (λ (r : Option (Place × Code)). ComesTo d p r answer) e h

pub some_refused : (d : Duty) (p : Prepared) (refused : Option (Place × Code)) (at : Place) (code : Code)
    (answer : Result Proof Refusal) → refused ≡ Some (at, code) → ComesTo d p refused answer
    → answer ≡ Err (record { place = place_of at; code = code })
some_refused d p refused at code answer e h =
    subst (λ (r : Option (Place × Code)). ComesTo d p r answer) e h

-- ---- one command

same_carried : (kind : CommandKind) (p : Proof) → ChangesSettings kind → prepare kind p ≡ carried_out kind p
same_carried (command.Declare ns s) p h = refl
same_carried (command.Limit n) p h = refl
same_carried (command.BoxChecking on) p h = absurd h
same_carried (command.Height f g) p h = refl
same_carried (command.Status way f) p h = refl
same_carried (command.Prove e) p h = absurd h
same_carried (command.Cases t) p h = absurd h
same_carried command.Implication p h = absurd h
same_carried command.Conjunction p h = absurd h
same_carried command.Contradiction p h = absurd h
same_carried (command.Induction x) p h = absurd h
same_carried command.Partition p h = absurd h
same_carried (command.Instantiate is n) p h = absurd h
same_carried (command.CriticalPairs n m) p h = absurd h
same_carried (command.Normalize n) p h = absurd h
same_carried command.Qed p h = absurd h
same_carried (command.Mark proved) p h = absurd h
same_carried (command.Bad code) p h = absurd h

-- a command that changes settings alone
pub change_prepared : (d : Duty) (kind : CommandKind) (old : Prepared) (new : Settings) → ChangesSettings kind
    → ((p : Proof) → AreSettingsOf old.settings p → carried_out kind p ≡ Ok (with_settings new p))
    → ((p : Proof) → AreSettingsOf old.settings p → AreSettingsOf new (with_settings new p))
    → IsPreparedFor d old
    → (prepare kind (prepared_proof d old) ≡ Ok (prepared_proof d (record old { settings = new })))
    × IsPreparedFor d (record old { settings = new })
change_prepared d kind old new h changed are prepared = (
  same_carried kind (prepared_proof d old) h ∙ changed (prepared_proof d old) prepared,
  are (prepared_proof d old) prepared,
)

pub prepared_so : {A E : Type 0} (result : Result A E) (kind : CommandKind) (old : Prepared) (new : Settings)
    → ChangesSettings kind
    → OnOk result ((p : Proof) → AreSettingsOf old.settings p → carried_out kind p ≡ Ok (with_settings new p))
    → OnOk result ((p : Proof) → AreSettingsOf old.settings p → AreSettingsOf new (with_settings new p))
    → OnOk result ((d : Duty) → IsPreparedFor d old
    → (prepare kind (prepared_proof d old) ≡ Ok (prepared_proof d (record old { settings = new })))
    × IsPreparedFor d (record old { settings = new }))
prepared_so (Ok x) kind old new h changed are = λ d w. change_prepared d kind old new h changed are w
prepared_so (Err x) kind old new h changed are = tt

pub change_refused : (d : Duty) (kind : CommandKind) (old : Prepared) (refusal : CommandRefusal)
    → ChangesSettings kind
    → ((p : Proof) → AreSettingsOf old.settings p → Tells (carried_out kind p) refusal)
    → IsPreparedFor d old → Tells (prepare kind (prepared_proof d old)) refusal
change_refused d kind old refusal h tells prepared =
    subst (λ answer. Tells answer refusal) (sym (same_carried kind (prepared_proof d old) h))
    (tells (prepared_proof d old) prepared)

pub refused_so : {A : Type 0} (result : Result A CommandRefusal) (kind : CommandKind) (old : Prepared)
    → ChangesSettings kind
    → IfErr result (λ refusal. (p : Proof) → AreSettingsOf old.settings p → Tells (carried_out kind p) refusal)
    → IfErr result (λ refusal. (d : Duty) → IsPreparedFor d old → Tells (prepare kind (prepared_proof d old)) refusal)
refused_so (Ok x) kind old h tells = tt
refused_so (Err x) kind old h tells = λ d w. change_refused d kind old x h tells w

-- whether boxes are checked
pub check_prepared : (d : Duty) (old : Prepared) (on : Bool) → IsPreparedFor d old
    → (prepare (command.BoxChecking on) (prepared_proof d old)
    ≡ Ok (prepared_proof d (record old { checking = on })))
    × IsPreparedFor d (record old { checking = on })
check_prepared d old true h = (
  refl,
  record {
    operators = h.operators;
    sorts = h.sorts;
    constants = h.constants;
    scope = h.scope;
    ranks = h.ranks;
    limit = h.limit;
  },
)
check_prepared d old false h = (
  refl,
  record {
    operators = h.operators;
    sorts = h.sorts;
    constants = h.constants;
    scope = h.scope;
    ranks = h.ranks;
    limit = h.limit;
  },
)

pub checked_so : (d : Duty) (kind : CommandKind) (old : Prepared) (on : Bool) → kind ≡ command.BoxChecking on
    → IsPreparedFor d old
    → (prepare kind (prepared_proof d old) ≡ Ok (prepared_proof d (record old { checking = on })))
    × IsPreparedFor d (record old { checking = on })
checked_so d kind old on e h =
    let w = check_prepared d old on h in
    (ap (λ k. prepare k (prepared_proof d old)) e ∙ w.0, w.1)

-- nothing else may stand there
pub other_refused : (kind : CommandKind) (p : Proof)
    → ((ns : List RawWord) (s : RawWord) → kind ≡ command.Declare ns s → ⊥)
    → ((n : ℕ) → kind ≡ command.Limit n → ⊥) → ((b : Bool) → kind ≡ command.BoxChecking b → ⊥)
    → ((f g : RawOpRef) → kind ≡ command.Height f g → ⊥) → ((w : Way) (f : RawOpRef) → kind ≡ command.Status w f → ⊥)
    → ((code : Code) → kind ≡ command.Bad code → ⊥) → prepare kind p ≡ Err refusal.Command
other_refused (command.Declare ns s) p a b c d e f = absurd (a ns s refl)
other_refused (command.Limit n) p a b c d e f = absurd (b n refl)
other_refused (command.BoxChecking on) p a b c d e f = absurd (c on refl)
other_refused (command.Height x y) p a b c d e f = absurd (d x y refl)
other_refused (command.Status w x) p a b c d e f = absurd (e w x refl)
other_refused (command.Bad code) p a b c d e f = absurd (f code refl)
other_refused kind p a b c d e f = refl

-- ---- the commands in turn

-- what is left, from a command on
left_so : (cs : List RawCommand) (i : ℕ) (c : RawCommand) (p : Proof) → i < length cs → c ≡ get_or cs i c
    → all_prepared (1 + i) (map (λ (c : RawCommand). c.kind) (drop i cs)) p
    ≡ after (locate (InPreamble (told_number (1 + i))) (prepare c.kind p))
    (λ q. all_prepared (suc (1 + i)) (map (λ (c : RawCommand). c.kind) (drop (i + 1) cs)) q)
unfolding all_prepared
left_so cs i c p lt e =
    ap (λ xs. all_prepared (1 + i) (map (λ (c : RawCommand). c.kind) xs) p)
    (drop_more cs i c lt ∙ ap (λ x. x ∷ drop (i + 1) cs) (sym e))

-- one more is carried out
pub step_prepared : (cs : List RawCommand) (i : ℕ) (c : RawCommand) (p q : Proof) (all : Result Proof Refusal)
    → i < length cs → c ≡ get_or cs i c
    → all ≡ all_prepared (1 + i) (map (λ (c : RawCommand). c.kind) (drop i cs)) p
    → prepare c.kind p ≡ Ok q
    → all ≡ all_prepared (1 + (i + 1)) (map (λ (c : RawCommand). c.kind) (drop (i + 1) cs)) q
step_prepared cs i c p q all lt e g h =
    let k : suc (1 + i) ≡ 1 + (i + 1) = omega arith in
    g ∙ (left_so cs i c p lt e
    ∙ (ap (λ m. after (locate (InPreamble (told_number (1 + i))) m)
    (λ q. all_prepared (suc (1 + i)) (map (λ (c : RawCommand). c.kind) (drop (i + 1) cs)) q)) h
    ∙ ap (λ n. all_prepared n (map (λ (c : RawCommand). c.kind) (drop (i + 1) cs)) q) k))

-- a refusal by its number
abbrev pub refusal_at : Code → ℕ → Result Proof Refusal
refusal_at code n = Err (record { place = InPreamble n; code = code })

-- or refused
pub step_refused : (cs : List RawCommand) (i : ℕ) (c : RawCommand) (p : Proof) (all : Result Proof Refusal)
    (code : Code) → i < length cs → c ≡ get_or cs i c
    → all ≡ all_prepared (1 + i) (map (λ (c : RawCommand). c.kind) (drop i cs)) p
    → prepare c.kind p ≡ Err code
    → all ≡ refusal_at code (told_number (1 + i))
step_refused cs i c p all code lt e g h =
    g ∙ (left_so cs i c p lt e
    ∙ ap (λ m. after (locate (InPreamble (told_number (1 + i))) m)
    (λ q. all_prepared (suc (1 + i)) (map (λ (c : RawCommand). c.kind) (drop (i + 1) cs)) q)) h)

-- nothing is left
pub none_left : (cs : List RawCommand) (i : ℕ) (p : Proof) (all : Result Proof Refusal) → drop i cs ≡ []
    → all ≡ all_prepared (1 + i) (map (λ (c : RawCommand). c.kind) (drop i cs)) p → all ≡ Ok p
unfolding all_prepared
none_left cs i p all e g = g ∙ ap (λ xs. all_prepared (1 + i) (map (λ (c : RawCommand). c.kind) xs) p) e
