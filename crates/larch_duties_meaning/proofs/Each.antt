-- What holds of a theory and of what is claimed over it holds of the duties of a trait.
use Rattle.std.proofs.Common.{◌≡◌, ℕ, suc, ◌+◌, List, [], ◌∷◌, map, All, Ok, subst}
use Rattle.std.specs.Prelude.{flat_map, length, nat_lt}
use Rattle.std.proofs.lemmas.List.Elements.{All-nil, All-cons, All-append, All-head, All-map, All-tail}
use Rattle.larch_base.specs.declared.code.Code.TheVariants.{Size}
use Rattle.larch_base.specs.declared.label.Label.{Label}
use Rattle.larch_base.specs.declared.label.Label.TheVariants.{Assume, Imply, Convert}
use Rattle.larch_base.specs.declared.limits.TheConstants.{MAX_DUTIES}
use Rattle.larch_raw.specs.declared.equation.RawConversion.{RawConversion}
use Rattle.larch_term.specs.declared.statement.Statement.{Statement}
use Rattle.larch_term.specs.declared.statement.Theory.{Theory}
use Rattle.larch_base_meaning.specs.Steps.{each}
use Rattle.larch_flat_meaning.proofs.TraitsItemsKept.{after_was, each_kept, ok_inj}
use Rattle.larch_flat_meaning.specs.Flat.{FlatTrait, theory_of}
use Rattle.larch_flat_meaning.specs.Gathered.{new_among}
use Rattle.larch_flat_meaning.proofs.Proper.{refused_if_was}
use Rattle.larch_flat_meaning.proofs.Theory.{all_left, all_new}
use Rattle.larch_duties_meaning.specs.Conversions.{Clause, Conversion, clause_over, clause_theory, conversion_of}
use Rattle.larch_duties_meaning.specs.Duties.{Duties, Duty, all_duties, clause_duties, duties_of, is_its_copy}
use Rattle.larch_duties_meaning.specs.Duties.{label_all}
use Rattle.larch_duties_meaning.specs.Duties.{not_too_many, with_clauses}

module _ (P : Theory → Statement → Type 0) where
  -- it holds of a duty
  abbrev pub Has : Duty → Type 0
  Has d = P d.theory d.statement

  labelled_have : (kind : ℕ → Label) (n : ℕ) (theory : Theory) (ss : List Statement) → All (P theory) ss
      → All Has (label_all kind n theory ss)
  labelled_have kind n theory [] a = All-nil Has
  labelled_have kind n theory (s ∷ ss) a =
      All-cons Has (record { label = kind n; theory = theory; statement = s }) (label_all kind (suc n) theory ss)
      (All-head (P theory) s ss a) (labelled_have kind (suc n) theory ss (All-tail (P theory) s ss a))

  -- it holds of a clause's theory and of what the clause claims
  abbrev pub HasClause : Theory → Clause → Type 0
  HasClause theory c = All (P (clause_theory theory c)) (map is_its_copy c.copies)

  clauses_have : (n : ℕ) (theory : Theory) (cs : List Clause) → All (HasClause theory) cs
      → All Has (flat_map (λ d. d.duties) (clause_duties n theory cs))
  clauses_have n theory [] a = All-nil Has
  clauses_have n theory (c ∷ cs) a =
      All-append Has (label_all Convert n (clause_theory theory c) (map is_its_copy c.copies))
      (flat_map (λ d. d.duties) (clause_duties (n + length c.copies) theory cs))
      (labelled_have Convert n (clause_theory theory c) (map is_its_copy c.copies)
      (All-head (HasClause theory) c cs a))
      (clauses_have (n + length c.copies) theory cs (All-tail (HasClause theory) c cs a))

  -- it holds of the duties where it holds of what is to be discharged, of what is implied and of clauses, which may be
  -- written so
  pub duties_have : (own : FlatTrait) (Q : RawConversion → Type 0) → All Q own.raw.conversions
      → All (P (theory_of own)) own.discharge
      → ((raw : RawConversion) (c : Conversion) → Q raw → conversion_of own.operators raw ≡ Ok c
      → HasClause (theory_of own) (clause_over (theory_of own) c))
      → (ss : List Statement) (d : Duties) → All (P (theory_of own)) ss → with_clauses own ss ≡ Ok d
      → All Has (all_duties d)
  duties_have own Q q discharge clause ss d a e =
      let t : Theory = theory_of own in
      let make : Conversion → Clause = clause_over t in
      let p = after_was (each (conversion_of own.operators) own.raw.conversions)
      (λ cs. not_too_many own.raw.name.pos (duties_of own ss (map make cs))) d e in
      let made : Duties = duties_of own ss (map make p.0) in
      let r = refused_if_was Size own.raw.name.pos (nat_lt MAX_DUTIES (length (all_duties made))) (Ok made) d p.2 in
      let news : List Statement = new_among own.discharge ss in
      subst (λ x. All Has (all_duties x)) (ok_inj r.1)
      (All-append Has made.own (flat_map (λ c. c.duties) made.clauses)
      (All-append Has (label_all Assume 1 t own.discharge) (label_all Imply 1 t news)
      (labelled_have Assume 1 t own.discharge discharge)
      (labelled_have Imply 1 t news (all_new (P t) _ [] (All-nil (P t)) (all_left (P t) _ ss a))))
      (clauses_have 1 t (map make p.0)
      (All-map (HasClause t) make p.0
      (each_kept (conversion_of own.operators) Q (λ c. HasClause t (make c)) clause own.raw.conversions p.0 q p.1))))
