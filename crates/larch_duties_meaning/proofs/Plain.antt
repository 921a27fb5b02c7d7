-- The operators of duties have plain names.
use Rattle.std.proofs.Common.{◌≡◌, ℕ, Bool, true, false, cond, not, List, [], ◌∷◌, ◌++◌, map, All, Option}
use Rattle.std.proofs.Common.{Some, None, Ok, Err, subst}
use Rattle.std.specs.Prelude.{option_map, unwrap_or}
use Rattle.std.specs.Map.{lookup}
use Rattle.std.proofs.lemmas.List.Elements.{All-nil, All-cons, All-map, All-append}
use Rattle.larch_base.specs.declared.code.Code.TheVariants.{Arity}
use Rattle.larch_base.specs.declared.fault.Fault.{Fault}
use Rattle.larch_base.proofs.Lists.{all_from}
use Rattle.larch_raw.specs.declared.declared.RawDecl.{RawDecl}
use Rattle.larch_raw.specs.declared.declared.RawForm.{RawForm}
use Rattle.larch_raw.specs.declared.declared.RawSig.{RawSig}
use Rattle.larch_raw.specs.declared.shorthand.RawShorthand.{RawShorthand}
use Rattle.larch_raw.specs.declared.shorthand.RawShorthand.TheVariants.{Enumeration, Tuple, Union}
use Rattle.larch_calculus.specs.Renaming.{HasPlainNames, IsPlainName}
use Rattle.larch_term.specs.BuiltIn.{is_built_in}
use Rattle.larch_term.specs.Equality.{same_operator}
use Rattle.larch_term.specs.Operator.{OperatorName, PlainOperator, plain}
use Rattle.larch_term.specs.declared.statement.Statement.{Statement}
use Rattle.larch_term.specs.declared.statement.Theory.{Theory}
use Rattle.larch_flat_meaning.specs.SortsMeaningFaults.{fault_at}
use Rattle.larch_flat_meaning.specs.TraitsItemsDeclarations.{declared_operators, declared_by, fits}
use Rattle.larch_flat_meaning.specs.TraitsItemsDeclarations.{operator_of, own_operator}
use Rattle.larch_base_meaning.specs.Steps.{each, first_position}
use Rattle.larch_flat_meaning.proofs.TraitsItemsKept.{Any, after_was, all_any, each_kept}
use Rattle.larch_flat_meaning.proofs.TraitsItemsKept.{ok_inj, several_kept, unless_was}
use Rattle.larch_flat_meaning.specs.ShorthandEnumeration.{elements, enumeration_operators, successor}
use Rattle.larch_flat_meaning.specs.ShorthandOperators.{operator}
use Rattle.larch_flat_meaning.specs.ShorthandShorthand.{expand, expansion_of, names_in, wrong_in}
use Rattle.larch_flat_meaning.specs.ShorthandTuple.{getter, maker, setter}
use Rattle.larch_flat_meaning.specs.ShorthandUnion.{injection, names_of, tag, tag_sort, union_operators}
use Rattle.larch_flat_meaning.specs.ShorthandExpansionExpansion.{Expansion}
use Rattle.larch_flat_meaning.specs.Files.{Files}
use Rattle.larch_flat_meaning.specs.Flat.{FlatTrait, flat, theory_of}
use Rattle.larch_flat_meaning.specs.Replacements.{Replacements, new_operator}
use Rattle.larch_flat_meaning.specs.Stops.{surely}
use Rattle.larch_flat_meaning.proofs.EachOperator.{Brings, HaveOperators, each_operator}
use Rattle.larch_flat_meaning.proofs.Gathering.{every_flat, surely_was}
use Rattle.larch_duties_meaning.specs.Conversions.{Clause, clause_over, clause_theory}
use Rattle.larch_duties_meaning.specs.Conversions.{copy_of}
use Rattle.larch_duties_meaning.specs.Duties.{Duties, all_duties, duties, is_its_copy}
use Rattle.larch_duties_meaning.specs.Duties.{with_clauses}
use Rattle.larch_duties_meaning.proofs.Each.{HasClause, duties_have}
use Rattle.larch_duties_meaning.specs.Implied.{implied_statements}

-- the operator has a plain name
abbrev IsPlain : PlainOperator → Type 0
IsPlain f = IsPlainName f.name

-- what is made of each thing has one
each_plain : {A : Type 0} (make : A → PlainOperator) → ((x : A) → IsPlain (make x)) → (xs : List A)
    → All IsPlain (map make xs)
each_plain make h xs = All-map IsPlain make xs (all_from (λ x. IsPlain (make x)) xs (λ x c. h x))

-- one operator by itself
one_plain : (f : PlainOperator) → IsPlain f → All IsPlain (f ∷ [])
one_plain f h = All-cons IsPlain f [] h (All-nil IsPlain)

enumeration_plain : (sort : List ℕ) (names : List (List ℕ)) → All IsPlain (enumeration_operators sort names)
enumeration_plain sort names =
    All-append IsPlain (elements sort names) (successor sort ∷ [])
    (each_plain (λ n. operator n [] sort) (λ n. tt) names)
    (one_plain (successor sort) tt)

expansion_plain : (s : RawShorthand) → All IsPlain (expansion_of s).operators
expansion_plain (Enumeration sort words) = enumeration_plain sort.name (names_in words)
expansion_plain (Tuple sort fields) =
    All-cons IsPlain (maker sort.name fields) (map (getter sort.name) fields ++ map (setter sort.name) fields) tt
    (All-append IsPlain (map (getter sort.name) fields) (map (setter sort.name) fields)
    (each_plain (getter sort.name) (λ f. tt) fields) (each_plain (setter sort.name) (λ f. tt) fields))
expansion_plain (Union sort fields) =
    All-append IsPlain (enumeration_operators (tag_sort sort.name) (names_of fields)) (union_operators sort.name fields)
    (enumeration_plain (tag_sort sort.name) (names_of fields))
    (All-append IsPlain (map (injection sort.name) fields) (map (getter sort.name) fields ++ tag sort.name ∷ [])
    (each_plain (injection sort.name) (λ f. tt) fields)
    (All-append IsPlain (map (getter sort.name) fields) (tag sort.name ∷ [])
    (each_plain (getter sort.name) (λ f. tt) fields)
    (one_plain (tag sort.name) tt)))

new_by : (o : Option (List ℕ)) (n : OperatorName) → IsPlainName n → IsPlainName (unwrap_or (option_map plain o) n)
new_by None n h = h
new_by (Some m) n h = tt

renamed_plain : (by : Replacements) (f : PlainOperator) → IsPlain f → IsPlain (new_operator by f)
renamed_plain by f h = new_by (lookup (same_operator f) by.operators) f.name h

own_by : (sig : RawSig) (form : RawForm) (b : Bool) (fault : Fault) (f : PlainOperator)
    → cond b (Err fault) (Ok (operator_of sig form)) ≡ Ok f → IsPlain f
own_by sig form true fault f e = cc
own_by sig form false fault f e = subst IsPlain (ok_inj e) tt

own_plain : (sig : RawSig) (form : RawForm) (f : PlainOperator) → own_operator sig form ≡ Ok f → IsPlain f
own_plain sig form f e = own_by sig form (is_built_in (operator_of sig form)) _ f e

declaration_plain : (decl : RawDecl) (fs : List PlainOperator) → declared_by decl ≡ Ok fs → All IsPlain fs
declaration_plain decl fs e =
    let p =
    unless_was (fault_at Arity (first_position (λ form. not (fits decl.sig form)) (λ form. form.pos) decl.forms))
    (each (own_operator decl.sig) decl.forms) fs e in
    each_kept (own_operator decl.sig) Any IsPlain (λ form f _ s. own_plain decl.sig form f s) decl.forms fs
    (all_any decl.forms) p.1

declared_plain : (decls : List RawDecl) (fs : List PlainOperator) → declared_operators decls ≡ Ok fs → All IsPlain fs
declared_plain decls fs e =
    several_kept declared_by Any IsPlain (λ decl gs _ s. declaration_plain decl gs s) decls fs (all_any decls) e

shorthand_plain : (s : RawShorthand) (x : Expansion) → Any s → expand s ≡ Ok x → All IsPlain x.operators
shorthand_plain s x _ e =
    subst (λ y. All IsPlain y.operators) (ok_inj (unless_was (wrong_in s) (Ok (expansion_of s)) x e).1)
    (expansion_plain s)

plain_brought : Brings Any Any Any IsPlain
plain_brought =
    record {
      references = λ raw _. all_any raw.references;
      shorthands = λ raw _. all_any raw.shorthands;
      renames = λ r t by _ _. renamed_plain by;
      expands = shorthand_plain;
      declares = λ raw fs _ e. declared_plain raw.declarations fs e;
    }

-- the operators of a flat trait have plain names
pub flat_plain : (files : Files) (limit : ℕ) (name : List ℕ) (t : FlatTrait) → flat limit files name ≡ Ok t
    → HasPlainNames (theory_of t)
flat_plain files limit name t e =
    every_flat Any Any Any (HaveOperators IsPlain) (each_operator Any Any Any IsPlain plain_brought) files
    (λ m raw f. tt) limit name t e

-- a theory with plain names
abbrev IsPlainOver : Theory → Statement → Type 0
IsPlainOver t s = HasPlainNames t

all_plain : (t : Theory) → HasPlainNames t → (ss : List Statement) → All (IsPlainOver t) ss
all_plain t h ss = all_from (IsPlainOver t) ss (λ s c. h)

clause_plain : (t : Theory) → HasPlainNames t → (c : Clause) → HasClause IsPlainOver t c
clause_plain t h c =
    all_plain (clause_theory t c) (All-append IsPlain t.operators (map copy_of c.copies) h
    (each_plain copy_of (λ d. tt) c.copies)) (map is_its_copy c.copies)

-- and so have those of the theories of its duties
pub duties_plain : (files : Files) (limit : ℕ) (name : List ℕ) (own : FlatTrait) (d : Duties)
    → flat limit files name ≡ Ok own → duties limit files own ≡ Ok d
    → All (λ x. HasPlainNames x.theory) (all_duties d)
unfolding duties
duties_plain files limit name own d f e =
    let t : Theory = theory_of own in
    let h : HasPlainNames t = flat_plain files limit name own f in
    let p = after_was (implied_statements limit files own) (λ ss. surely (with_clauses own ss)) d e in
    duties_have IsPlainOver own Any (all_any own.raw.conversions) (all_plain t h own.discharge)
    (λ raw c _ s. clause_plain t h (clause_over t c)) p.0 d (all_plain t h p.0)
    (surely_was (with_clauses own p.0) d p.2)
