-- Duties are told, where references are followed deep enough.
use Rattle.std.proofs.Common.{◌≤◌, ℕ, Bool, true, false, List, [], ◌∷◌, ◌++◌, Result, Ok, Err}
use Rattle.std.specs.Prelude.{is_none, length}
use Rattle.larch_base.specs.declared.code.Code.{Code}
use Rattle.larch_base.specs.declared.code.Code.TheVariants.{UnknownTrait}
use Rattle.larch_base.specs.declared.fault.Fault.{Fault}
use Rattle.larch_base.specs.declared.position.Pos.{Pos}
use Rattle.larch_raw.specs.declared.reference.RawRef.{RawRef}
use Rattle.larch_term.specs.declared.statement.Statement.{Statement}
use Rattle.larch_flat_meaning.specs.TraitsItemsItems.{items_state}
use Rattle.larch_base_meaning.specs.Steps.{after, all_taken}
use Rattle.larch_flat_meaning.specs.Files.{Files}
use Rattle.larch_flat_meaning.specs.Flat.{FlatTrait, flat, at_reference}
use Rattle.larch_flat_meaning.specs.Laws.{AreAmong, IsTold}
use Rattle.larch_flat_meaning.specs.Stops.{Stop, Refused, TooDeep, stopped_if, surely}
use Rattle.larch_flat_meaning.proofs.DeepEnough.{deep_enough}
use Rattle.larch_duties_meaning.specs.Duties.{duties, with_clauses}
use Rattle.larch_duties_meaning.specs.Implied.{implied_statements, take_implied, take_reference}

told_after : {A B : Type 0} (a : Result A Stop) (go : A → Result B Stop) → IsTold a → ((x : A) → IsTold (go x))
    → IsTold (after a go)
told_after (Ok x) go h k = k x
told_after (Err (Refused f)) go h k = tt
told_after (Err TooDeep) go h k = h

told_surely : {A : Type 0} (a : Result A Fault) → IsTold (surely a)
told_surely (Ok x) = tt
told_surely (Err f) = tt

told_stopped : {A : Type 0} (code : Code) (pos : Pos) (b : Bool) (next : Result A Stop) → IsTold next
    → IsTold (stopped_if code pos b next)
told_stopped code pos true next h = tt
told_stopped code pos false next h = h

told_referred : (pos : Pos) (a : Result FlatTrait Stop) → IsTold a → IsTold (at_reference pos a)
told_referred pos (Ok x) h = tt
told_referred pos (Err (Refused f)) h = tt
told_referred pos (Err TooDeep) h = h

told_all : {A G : Type 0} (take : A → G → Result G Stop) → ((x : A) (g : G) → IsTold (take x g)) → (xs : List A) (g : G)
    → IsTold (all_taken take xs g)
told_all take k [] g = tt
told_all take k (x ∷ xs) g = told_after (take x g) (all_taken take xs) (k x g) (λ h. told_all take k xs h)

module _ (limit : ℕ) (files : Files) (flats_told : (name : List ℕ) → IsTold (flat limit files name))
    (own : FlatTrait) where
  told_reference : (ref : RawRef) (ss : List Statement) → IsTold (take_reference limit files own ref ss)
  told_reference ref ss =
      told_stopped UnknownTrait ref.name.pos (is_none (files ref.name.name)) _
      (told_after (at_reference ref.name.pos (flat limit files ref.name.name))
      (λ other. surely (take_implied own ref ss other))
      (told_referred ref.name.pos (flat limit files ref.name.name) (flats_told ref.name.name))
      (λ other. told_surely (take_implied own ref ss other)))

  told_implied : IsTold (implied_statements limit files own)
  told_implied =
      told_after (all_taken (take_reference limit files own) own.raw.implied [])
      (λ ss. after (surely (items_state own.operators own.raw.implied_items)) (λ more. Ok (ss ++ more)))
      (told_all (take_reference limit files own) told_reference own.raw.implied [])
      (λ ss. told_after (surely (items_state own.operators own.raw.implied_items)) (λ more. Ok (ss ++ more))
      (told_surely _) (λ more. tt))

  pub told_duties : IsTold (duties limit files own)
  unfolding duties
  told_duties =
      told_after (implied_statements limit files own) (λ ss. surely (with_clauses own ss)) told_implied
      (λ ss. told_surely (with_clauses own ss))

-- where there are no more files than this the duties of a trait are told, or what is wrong with them
pub duties_told : (files : Files) (all : List (List ℕ)) → AreAmong files all → (limit : ℕ) → length all ≤ limit
    → (own : FlatTrait) → IsTold (duties limit files own)
duties_told files all among limit l own = told_duties limit files (λ name. deep_enough files all among limit l name) own
