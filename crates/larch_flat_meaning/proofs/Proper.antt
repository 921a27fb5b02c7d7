-- What a reference replaces leaves what is built in alone.
use Rattle.std.proofs.Common.{◌≡◌, refl, ℕ, Bool, true, false, not, cond, ◌||◌, ap, sym, subst, ◌∙◌}
use Rattle.std.proofs.Common.{List, [], ◌∷◌, ◌++◌, map, All, Some, None, Result, Ok}
use Rattle.std.specs.Prelude.{bytes_eq, option_map, unwrap_or, is_some}
use Rattle.std.specs.List.{list_any}
use Rattle.std.specs.Map.{lookup}
use Rattle.std.proofs.lemmas.List.Elements.{All-nil, All-cons, All-head, All-tail, All-push, All-map, All-append}
use Rattle.std.proofs.lemmas.Slice.Eq.{bytes_eq-Decides}
use Rattle.larch_base.specs.declared.code.Code.{Code}
use Rattle.larch_base.specs.declared.code.Code.TheVariants.{Rename}
use Rattle.larch_base.specs.declared.fault.Fault.{Fault}
use Rattle.larch_base.specs.declared.position.Pos.{Pos}
use Rattle.larch_raw.specs.declared.declared.RawForm.{RawForm}
use Rattle.larch_raw.specs.declared.reference.RawRef.{RawRef}
use Rattle.larch_term.specs.BuiltIn.{IsBuiltIn, bool_sort, built_in, built_in_name, is_built_in}
use Rattle.larch_term.specs.Equality.{same_operator}
use Rattle.larch_term.specs.Operator.{OperatorName, PlainOperator, plain}
use Rattle.larch_term.specs.declared.built_in.BuiltIn.{BuiltIn}
use Rattle.larch_term.specs.declared.built_in.BuiltIn.TheVariants.{True, False, Not, And, Or, Implies, Iff, Equal}
use Rattle.larch_term.specs.declared.built_in.BuiltIn.TheVariants.{Unequal, If}
use Rattle.larch_term.proofs.BuiltIns.{is_built_in_Decides}
use Rattle.larch_term.proofs.Decided.{operator_Decides}
use Rattle.larch_renaming.specs.Renaming.{FitsSignatures, KeepsBuiltIns}
use Rattle.larch_shorthand.specs.BaseMeaningSteps.{after, all_taken}
use Rattle.larch_shorthand.proofs.TraitsItemsKept.{after_was, all_any, kept, ok_inj, Any}
use Rattle.larch_flat_meaning.specs.Replacements.{Named, OldOperators, OldSort, Replacement, Replacements}
use Rattle.larch_flat_meaning.specs.Replacements.{all_replacements, cannot_rename, cannot_rename_sort, fits_operator}
use Rattle.larch_flat_meaning.specs.Replacements.{is_count_wrong, kept_apart, meant_by, new_operator, new_sort}
use Rattle.larch_flat_meaning.specs.Replacements.{none_or_any, none_replaced, plain_forms, renaming, replace}
use Rattle.larch_flat_meaning.specs.Replacements.{replace_form, replacements_of}
use Rattle.larch_flat_meaning.specs.Stops.{refused_if}

-- neither Bool nor a built-in operator is replaced
pub record IsProper (by : Replacements) : Type 0 where
  pub sorts : All (λ p. p.0 ≡ bool_sort → ⊥) by.sorts
  pub operators : All (λ p. IsBuiltIn p.0 → ⊥) by.operators

-- what is refused where it is so and answers isn't so
pub refused_if_was : {A : Type 0} (code : Code) (pos : Pos) (b : Bool) (next : Result A Fault) (x : A)
    → refused_if code pos b next ≡ Ok x → (b ≡ false) × (next ≡ Ok x)
refused_if_was code pos true next x e = cc
refused_if_was code pos false next x e = (refl, e)

or_false : (a b : Bool) → (a || b) ≡ false → (a ≡ false) × (b ≡ false)
or_false true b e = cc
or_false false b e = (refl, e)

true_is_false : true ≡ false → ⊥
true_is_false e = cc

sort_by : (p : List ℕ × List ℕ) (ps : List (List ℕ × List ℕ)) (b : Bool) → bytes_eq bool_sort p.0 ≡ b
    → (p.0 ≡ bool_sort → ⊥) → lookup (bytes_eq bool_sort) ps ≡ None
    → cond b (Some p.1) (lookup (bytes_eq bool_sort) ps) ≡ None
sort_by p ps true q n k = absurd (n (sym ((bytes_eq-Decides bool_sort p.0).0 q)))
sort_by p ps false q n k = k

keeps_sort : (ps : List (List ℕ × List ℕ)) → All (λ p. p.0 ≡ bool_sort → ⊥) ps → lookup (bytes_eq bool_sort) ps ≡ None
keeps_sort [] a = refl
keeps_sort (p ∷ ps) a =
    let P : (List ℕ × List ℕ) → Type 0 = (λ q. q.0 ≡ bool_sort → ⊥) in
    sort_by p ps (bytes_eq bool_sort p.0) refl (All-head P p ps a) (keeps_sort ps (All-tail P p ps a))

operator_by : (f : PlainOperator) (p : PlainOperator × List ℕ) (ps : List (PlainOperator × List ℕ)) (b : Bool)
    → same_operator f p.0 ≡ b → IsBuiltIn f → (IsBuiltIn p.0 → ⊥)
    → lookup (same_operator f) ps ≡ None → cond b (Some p.1) (lookup (same_operator f) ps) ≡ None
operator_by f p ps true q i n k = absurd (n (subst IsBuiltIn ((operator_Decides f p.0).0 q) i))
operator_by f p ps false q i n k = k

keeps_operator : (f : PlainOperator) → IsBuiltIn f → (ps : List (PlainOperator × List ℕ))
    → All (λ p. IsBuiltIn p.0 → ⊥) ps → lookup (same_operator f) ps ≡ None
keeps_operator f i [] a = refl
keeps_operator f i (p ∷ ps) a =
    let P : (PlainOperator × List ℕ) → Type 0 = (λ q. IsBuiltIn q.0 → ⊥) in
    operator_by f p ps (same_operator f p.0) refl i (All-head P p ps a) (keeps_operator f i ps (All-tail P p ps a))

-- an operator with this name, at other sorts
abbrev at_sorts : (List ℕ → List ℕ) → OperatorName → PlainOperator → PlainOperator
at_sorts s n f = record { name = n; domain = map s f.domain; range = s f.range }

-- sorts that leave Bool alone take built-in operators to built-in ones
kept_by : (s : List ℕ → List ℕ) → s bool_sort ≡ bool_sort → (b : BuiltIn) (r : List ℕ)
    → at_sorts s (plain (built_in_name b)) (built_in b r) ≡ built_in b (s r)
kept_by s p True r = λ i. record { name = plain (built_in_name True); domain = []; range = p i }
kept_by s p False r = λ i. record { name = plain (built_in_name False); domain = []; range = p i }
kept_by s p Not r = λ i. record { name = plain (built_in_name Not); domain = p i ∷ []; range = p i }
kept_by s p And r = λ i. record { name = plain (built_in_name And); domain = p i ∷ p i ∷ []; range = p i }
kept_by s p Or r = λ i. record { name = plain (built_in_name Or); domain = p i ∷ p i ∷ []; range = p i }
kept_by s p Implies r = λ i. record { name = plain (built_in_name Implies); domain = p i ∷ p i ∷ []; range = p i }
kept_by s p Iff r = λ i. record { name = plain (built_in_name Iff); domain = p i ∷ p i ∷ []; range = p i }
kept_by s p Equal r = λ i. record { name = plain (built_in_name Equal); domain = s r ∷ s r ∷ []; range = p i }
kept_by s p Unequal r = λ i. record { name = plain (built_in_name Unequal); domain = s r ∷ s r ∷ []; range = p i }
kept_by s p If r = λ i. record { name = plain (built_in_name If); domain = p i ∷ s r ∷ s r ∷ []; range = s r }

bool_kept : (by : Replacements) → IsProper by → new_sort by bool_sort ≡ bool_sort
bool_kept by h = ap (λ o. unwrap_or o bool_sort) (keeps_sort by.sorts h.sorts)

pub proper_keeps : (by : Replacements) → IsProper by → KeepsBuiltIns (renaming by)
proper_keeps by h =
    record {
      truth_values = bool_kept by h;
      operators = λ b r.
          ap (λ n. at_sorts (new_sort by) n (built_in b r))
          (ap (λ o. unwrap_or (option_map plain o) (plain (built_in_name b)))
          (keeps_operator (built_in b r) (b, (r, refl)) by.operators h.operators))
          ∙ kept_by (new_sort by) (bool_kept by h) b r;
    }

none_wrong : (by : Replacements) (new : RawForm) (fs : List PlainOperator) → list_any (cannot_rename by new) fs ≡ false
    → All (λ f. IsBuiltIn f → ⊥) fs
none_wrong by new [] e = All-nil (λ f. IsBuiltIn f → ⊥)
none_wrong by new (f ∷ fs) e =
    let p = or_false (cannot_rename by new f) (list_any (cannot_rename by new) fs) e in
    let q =
    or_false (is_built_in f) (is_some (lookup (same_operator f) by.operators) || not (fits_operator new f)) p.0 in
    All-cons (λ f. IsBuiltIn f → ⊥) f fs (λ i. true_is_false (sym ((is_built_in_Decides f).1 i) ∙ q.0))
    (none_wrong by new fs p.1)

none_or_any_false : {A : Type 0} (is_so : A → Bool) (xs : List A) → none_or_any is_so xs ≡ false
    → list_any is_so xs ≡ false
none_or_any_false is_so [] e = cc
none_or_any_false is_so (x ∷ xs) e = e

-- one replacement more keeps it so
replaced_proper : (pos : Pos) (new : RawForm) (what : Named) (by to : Replacements)
    → replace_form pos new what by ≡ Ok to → IsProper by → IsProper to
replaced_proper pos new (OldSort s) by to e h =
    let more : Replacements = record { sorts = by.sorts ++ (s, new.name) ∷ []; operators = by.operators } in
    let r = refused_if_was Rename pos (cannot_rename_sort by new s) (Ok more) to e in
    let t = or_false (bytes_eq s bool_sort) (is_some (lookup (bytes_eq s) by.sorts) || not new.word) r.0 in
    subst IsProper (ok_inj r.1) (record {
      sorts =
          All-push (λ p. p.0 ≡ bool_sort → ⊥) by.sorts (s, new.name) h.sorts
          (λ q. true_is_false (sym ((bytes_eq-Decides s bool_sort).1 q) ∙ t.0));
      operators = h.operators;
    })
replaced_proper pos new (OldOperators fs) by to e h =
    let more : Replacements = record { sorts = by.sorts; operators = by.operators ++ map (λ f. (f, new.name)) fs } in
    let r = refused_if_was Rename pos (none_or_any (cannot_rename by new) fs) (Ok more) to e in
    subst IsProper (ok_inj r.1) (record {
      sorts = h.sorts;
      operators = All-append (λ p. IsBuiltIn p.0 → ⊥) by.operators (map (λ f. (f, new.name)) fs) h.operators
          (All-map (λ p. IsBuiltIn p.0 → ⊥) (λ f. (f, new.name)) fs
          (none_wrong by new fs (none_or_any_false (cannot_rename by new) fs r.0)));
    })

none_built_in : (by : Replacements) (fs : List PlainOperator)
    → list_any (λ f. is_built_in (new_operator by f)) fs ≡ false → All (λ f. IsBuiltIn (new_operator by f) → ⊥) fs
none_built_in by [] e = All-nil (λ f. IsBuiltIn (new_operator by f) → ⊥)
none_built_in by (f ∷ fs) e =
    let p = or_false (is_built_in (new_operator by f)) (list_any (λ g. is_built_in (new_operator by g)) fs) e in
    All-cons (λ f. IsBuiltIn (new_operator by f) → ⊥) f fs
    (λ i. true_is_false (sym ((is_built_in_Decides (new_operator by f)).1 i) ∙ p.0)) (none_built_in by fs p.1)

none_proper : IsProper none_replaced
none_proper = record { sorts = All-nil (λ p. p.0 ≡ bool_sort → ⊥); operators = All-nil (λ p. IsBuiltIn p.0 → ⊥) }

-- what a reference replaces leaves Bool and the built-in operators alone, and makes no operator a built-in one
pub replacements_proper : (fs : List PlainOperator) (formals : List RawForm) (ref : RawRef) (by : Replacements)
    → replacements_of fs formals ref ≡ Ok by
    → IsProper by × All (λ f. IsBuiltIn (new_operator by f) → ⊥) fs
unfolding replacements_of
replacements_proper fs formals ref by e =
    let rs : List Replacement = all_replacements formals ref in
    let p = refused_if_was Rename ref.name.pos (is_count_wrong formals (plain_forms ref.actuals))
    (after (all_taken (replace fs) rs none_replaced) (kept_apart fs ref.name.pos)) by e in
    let q = after_was (all_taken (replace fs) rs none_replaced) (kept_apart fs ref.name.pos) by p.1 in
    let r = refused_if_was Rename ref.name.pos (list_any (λ f. is_built_in (new_operator q.0 f)) fs) (Ok q.0) by q.2 in
    subst (λ b. IsProper b × All (λ f. IsBuiltIn (new_operator b f) → ⊥) fs) (ok_inj r.1) (
      kept (replace fs) Any IsProper
          (λ x b c _ s h. replaced_proper x.pos x.new (meant_by fs x.old x.sig) b c s h) rs none_replaced q.0
          (all_any rs) q.1 none_proper,
      none_built_in q.0 fs r.0,
    )

pub renaming_fits : (by : Replacements) → FitsSignatures (renaming by)
renaming_fits by = record { domain = λ f. refl; range = λ f. refl }
