-- The operators and the terms of a clause `converts` are the trait's.
use Rattle.std.proofs.Common.{◌≡◌, refl, Bool, not, List, [], ◌∷◌, ◌++◌, All, Contains, Option, Some, None, Ok, subst}
use Rattle.std.specs.Prelude.{find, is_some}
use Rattle.std.proofs.lemmas.List.Elements.{All-nil, All-push}
use Rattle.larch_base.specs.declared.code.Code.TheVariants.{Converted, Exempt}
use Rattle.larch_base.specs.declared.position.Pos.{Pos}
use Rattle.larch_raw.specs.declared.declared.RawOpRef.{RawOpRef}
use Rattle.larch_raw.specs.declared.equation.RawConversion.{RawConversion}
use Rattle.larch_raw.specs.declared.equation.RawEquation.{RawEquation}
use Rattle.larch_term.specs.Operator.{PlainOperator}
use Rattle.larch_term.specs.Tree.{Tree}
use Rattle.larch_term.specs.declared.statement.Statement.TheVariants.{Equation}
use Rattle.larch_flat_meaning.specs.SortsMeaningLaws.{IsSortOf}
use Rattle.larch_flat_meaning.specs.SortsMeaningRead.{read_term}
use Rattle.larch_flat_meaning.specs.SortsMeaningScope.{Variables}
use Rattle.larch_flat_meaning.proofs.SortsMeaningReadAnswers.{term_ok}
use Rattle.larch_flat_meaning.proofs.SortsMeaningSorted.{well_sorted}
use Rattle.larch_flat_meaning.proofs.SortsMeaningSortsRead.{term_sorts_exist}
use Rattle.larch_flat_meaning.specs.TraitsItemsReferences.{exact_of, is_meant, only_operator}
use Rattle.larch_base_meaning.specs.Steps.{after, all_taken}
use Rattle.larch_flat_meaning.specs.TraitsItemsVariables.{variables_declared}
use Rattle.larch_flat_meaning.proofs.TraitsItemsKept.{Any, after_was, all_any, found_is, kept, ok_inj}
use Rattle.larch_flat_meaning.proofs.TraitsItemsStated.{only_by, scope_exists}
use Rattle.larch_flat_meaning.specs.Laws.{IsStatedOver}
use Rattle.larch_flat_meaning.specs.Stops.{refused_if}
use Rattle.larch_flat_meaning.proofs.Proper.{refused_if_was}
use Rattle.larch_duties_meaning.specs.Conversions.{Conversion, conversion_of, has_one_of, take_converted, take_exempted}
use Rattle.larch_duties_meaning.specs.Conversions.{with_converted}
use Rattle.larch_duties_meaning.specs.Implied.{is_among}

-- the term is one of a trait with these operators: well sorted over them, and of sorts that exist
abbrev pub IsTermOf : List PlainOperator → Tree → Type 0
IsTermOf fs t = IsStatedOver fs (Equation t t)

-- a clause of a trait with these operators: it converts some of them, and exempts terms over them
abbrev pub IsConversionOf : List PlainOperator → Conversion → Type 0
IsConversionOf own c = All (Contains own) c.converted × All (IsTermOf own) c.exempted

module _ (own : List PlainOperator) where
  with_one : (pos : Pos) (fs gs : List PlainOperator) (o : Option PlainOperator)
      → ((f : PlainOperator) → o ≡ Some f → Contains own f)
      → with_converted pos fs o ≡ Ok gs → All (Contains own) fs → All (Contains own) gs
  with_one pos fs gs None h e a = cc
  with_one pos fs gs (Some f) h e a =
      let r = refused_if_was Converted pos (is_among fs f) (Ok (fs ++ f ∷ [])) gs e in
      subst (All (Contains own)) (ok_inj r.1) (All-push (Contains own) fs f a (h f refl))

  one_converted : (ref : RawOpRef) (fs gs : List PlainOperator) → take_converted own ref fs ≡ Ok gs
      → All (Contains own) fs → All (Contains own) gs
  one_converted ref fs gs e a =
      let so : PlainOperator → Bool = is_meant (exact_of ref) ref.form.name in
      with_one ref.form.pos fs gs (only_operator so own)
      (λ f q. (found_is so own f (only_by so own f (find so own) q)).0) e a

  one_exempted : (fs : List PlainOperator) (vs : Variables) → All (λ v. IsSortOf own v.1) vs
      → (raw : RawEquation) (ts us : List Tree)
      → take_exempted own fs vs raw ts ≡ Ok us → All (IsTermOf own) ts → All (IsTermOf own) us
  one_exempted fs vs scope raw ts us e a =
      let z = refused_if_was Exempt raw.first (is_some raw.right)
      (after (read_term own vs None raw)
      (λ t. refused_if Exempt raw.first (not (has_one_of fs t)) (Ok (ts ++ t ∷ [])))) us e in
      let p = after_was (read_term own vs None raw)
      (λ t. refused_if Exempt raw.first (not (has_one_of fs t)) (Ok (ts ++ t ∷ []))) us z.1 in
      let r = refused_if_was Exempt raw.first (not (has_one_of fs p.0)) (Ok (ts ++ p.0 ∷ [])) us p.2 in
      let reads = (term_ok own vs None raw p.0 p.1).1.0 in
      let over = well_sorted own vs raw.left p.0 reads.0 in
      let sorts = term_sorts_exist own vs raw.left p.0 scope reads.0 in
      subst (All (IsTermOf own)) (ok_inj r.1)
      (All-push (IsTermOf own) ts p.0 a ((over, over, refl), tt, (sorts, sorts)))

  -- a clause that is read is one of the trait
  pub conversion_is : (raw : RawConversion) (c : Conversion) → conversion_of own raw ≡ Ok c → IsConversionOf own c
  conversion_is raw c e =
      let p = after_was (all_taken (take_converted own) raw.converted [])
      (λ fs. after (variables_declared own raw.variables)
      (λ vs. after (all_taken (take_exempted own fs vs) raw.exempted [])
      (λ ts. Ok (record { converted = fs; exempted = ts })))) c e in
      let q = after_was (variables_declared own raw.variables)
      (λ vs. after (all_taken (take_exempted own p.0 vs) raw.exempted [])
      (λ ts. Ok (record { converted = p.0; exempted = ts }))) c p.2 in
      let r = after_was (all_taken (take_exempted own p.0 q.0) raw.exempted [])
      (λ ts. Ok (record { converted = p.0; exempted = ts })) c q.2 in
      let scope = scope_exists own raw.variables q.0 q.1 in
      subst (IsConversionOf own) (ok_inj {x = record { converted = p.0; exempted = r.0 }} r.2) (
        kept (take_converted own) Any (All (Contains own)) (λ ref b d _ s a. one_converted ref b d s a) raw.converted
            [] p.0 (all_any raw.converted) p.1 (All-nil (Contains own)),
        kept (take_exempted own p.0 q.0) Any (All (IsTermOf own))
            (λ x b d _ s a. one_exempted p.0 q.0 scope x b d s a) raw.exempted [] r.0 (all_any raw.exempted) r.1
            (All-nil (IsTermOf own)),
      )
