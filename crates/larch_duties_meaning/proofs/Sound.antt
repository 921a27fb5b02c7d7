-- Duties are sound.
use Rattle.std.proofs.Common.{◌≡◌, refl, ℕ, suc, List, [], ◌∷◌, map, All, Contains, Ok, ap₂, inl, inr}
use Rattle.std.proofs.lemmas.List.Elements.{All-contains, All-head, All-map, All-tail}
use Rattle.std.proofs.lemmas.List.Elements.{All-weaker}
use Rattle.larch_base.proofs.Lists.{all_from}
use Rattle.larch_base.proofs.Members.{contains_left, contains_map, contains_right}
use Rattle.larch_term.specs.Operator.{PlainOperator}
use Rattle.larch_term.specs.Sorts.{AllOver, AllWellSorted, sorts_of}
use Rattle.larch_term.specs.Tree.{forest_of}
use Rattle.larch_term.specs.declared.statement.Statement.{Statement}
use Rattle.larch_term.specs.declared.statement.Theory.{Theory}
use Rattle.larch_flat_meaning.specs.SortsMeaningLaws.{ForestSorts, IsSortOf}
use Rattle.larch_flat_meaning.proofs.SortsMeaningSortsRead.{own_sorts}
use Rattle.larch_flat_meaning.proofs.TraitsItemsKept.{Any, after_was, all_any}
use Rattle.larch_flat_meaning.specs.Files.{Files}
use Rattle.larch_flat_meaning.specs.Flat.{FlatTrait, flat, theory_of}
use Rattle.larch_flat_meaning.specs.Laws.{AreWorded, IsStatedOver}
use Rattle.larch_flat_meaning.specs.Stops.{surely}
use Rattle.larch_flat_meaning.proofs.Gathering.{surely_was}
use Rattle.larch_flat_meaning.proofs.Theory.{flat_discharge, flat_stated, flat_theory}
use Rattle.larch_duties_meaning.specs.Conversions.{Conversion, Copied, clause_over, clause_theory}
use Rattle.larch_duties_meaning.specs.Conversions.{copy_of}
use Rattle.larch_duties_meaning.specs.Duties.{Duties, all_duties, arguments, duties}
use Rattle.larch_duties_meaning.specs.Duties.{is_its_copy, with_clauses}
use Rattle.larch_duties_meaning.specs.Implied.{implied_statements}
use Rattle.larch_duties_meaning.specs.Laws.{IsSoundDuty, IsSoundTheory}
use Rattle.larch_duties_meaning.proofs.Conversions.{IsConversionOf, conversion_is}
use Rattle.larch_duties_meaning.proofs.Copies.{IsCopyFrom, clause_from, clause_sound}
use Rattle.larch_duties_meaning.proofs.Each.{HasClause, duties_have}
use Rattle.larch_duties_meaning.proofs.Implied.{implied_stated}

-- a sound theory, over which a statement is one
abbrev IsSoundOver : Theory → Statement → Type 0
IsSoundOver t s = IsSoundTheory t × IsStatedOver t.operators s

-- variables of sorts that exist
module _ (fs : List PlainOperator) where
  arguments_sorts : (n : ℕ) (ss : List (List ℕ)) → sorts_of (forest_of (arguments n ss)) ≡ ss
  arguments_sorts n [] = refl
  arguments_sorts n (s ∷ ss) = ap₂ (λ a b. a ∷ b) refl (arguments_sorts (suc n) ss)

  arguments_sorted : (n : ℕ) (ss : List (List ℕ)) → AllWellSorted (forest_of (arguments n ss))
  arguments_sorted n [] = tt
  arguments_sorted n (s ∷ ss) = (tt, arguments_sorted (suc n) ss)

  arguments_over : (n : ℕ) (ss : List (List ℕ)) → AllOver fs (forest_of (arguments n ss))
  arguments_over n [] = tt
  arguments_over n (s ∷ ss) = (tt, arguments_over (suc n) ss)

  arguments_exist : (n : ℕ) (ss : List (List ℕ)) → All (IsSortOf fs) ss
      → ForestSorts (IsSortOf fs) (forest_of (arguments n ss))
  arguments_exist n [] a = tt
  arguments_exist n (s ∷ ss) a =
      (All-head (IsSortOf fs) s ss a, arguments_exist (suc n) ss (All-tail (IsSortOf fs) s ss a))

  domain_exists : (f : PlainOperator) → Contains fs f → All (IsSortOf fs) f.domain
  domain_exists f c = all_from (IsSortOf fs) f.domain (λ s d. inr (f, c, contains_left f.domain (f.range ∷ []) s d))

  -- two operators that are there and have one range are the same, as it is stated
  copy_stated : (c : Copied) → Contains fs c.operator → Contains fs (copy_of c) → IsStatedOver fs (is_its_copy c)
  copy_stated c p q =
      let f : PlainOperator = c.operator in
      let g : PlainOperator = copy_of c in (
        (
          ((arguments_sorts 1 f.domain, arguments_sorted 1 f.domain), (inl p, arguments_over 1 f.domain)),
          ((arguments_sorts 1 g.domain, arguments_sorted 1 g.domain), (inl q, arguments_over 1 g.domain)),
          refl,
        ),
        tt,
        (
          (own_sorts fs f p, arguments_exist 1 f.domain (domain_exists f p)),
          (own_sorts fs g q, arguments_exist 1 g.domain (domain_exists g q)),
        ),
      )

-- a clause claims that its operators are its copies, over a sound theory
clause_is : (theory : Theory) → IsSoundTheory theory → (c : Conversion) → IsConversionOf theory.operators c
    → HasClause IsSoundOver theory (clause_over theory c)
clause_is theory sound c is =
    let cs : List Copied = (clause_over theory c).copies in
    let over : Theory = clause_theory theory (clause_over theory c) in
    let from : All (IsCopyFrom theory.operators) cs = clause_from theory sound c is in
    All-map (IsSoundOver over) is_its_copy cs
    (all_from (λ d. IsSoundOver over (is_its_copy d)) cs
    (λ d q. (
      clause_sound theory sound c is,
      copy_stated over.operators d (contains_left theory.operators (map copy_of cs) d.operator
          (All-contains (IsCopyFrom theory.operators) cs d from q))
          (contains_right theory.operators (map copy_of cs) (copy_of d) (contains_map copy_of cs d q)),
    )))

-- each duty of a flat trait is sound
pub duties_sound : (files : Files) → AreWorded files → (limit : ℕ) (name : List ℕ) (own : FlatTrait) (d : Duties)
    → flat limit files name ≡ Ok own
    → duties limit files own ≡ Ok d → All IsSoundDuty (all_duties d)
unfolding duties
duties_sound files w limit name own d f e =
    let t : Theory = theory_of own in
    let sound : IsSoundTheory t = (flat_theory files w limit name own f, flat_stated files w limit name own f) in
    let over : (s : Statement) → IsStatedOver own.operators s → IsSoundOver t s = (λ s h. (sound, h)) in
    let p = after_was (implied_statements limit files own) (λ ss. surely (with_clauses own ss)) d e in
    duties_have IsSoundOver own Any (all_any own.raw.conversions)
    (All-weaker (IsStatedOver own.operators) (IsSoundOver t) over own.discharge
    (flat_discharge files w limit name own f))
    (λ raw c _ s. clause_is t sound c (conversion_is own.operators raw c s)) p.0 d
    (All-weaker (IsStatedOver own.operators) (IsSoundOver t) over p.0 (implied_stated own files w limit p.0 p.1))
    (surely_was (with_clauses own p.0) d p.2)
