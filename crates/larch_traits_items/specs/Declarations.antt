-- The operators that declarations declare, or what is wrong with these first.
use Rattle.std.specs.Prelude.{if◌then◌else◌, ◌==◌, ◌||◌, Bool, not, List, length, map, Result, Ok, Err}
use Rattle.larch_base.specs.declared.code.Code.TheVariants.{Arity, BuiltIn}
use Rattle.larch_base.specs.declared.fault.Fault.{Fault}
use Rattle.larch_raw.specs.declared.declared.RawDecl.{RawDecl}
use Rattle.larch_raw.specs.declared.declared.RawForm.{RawForm}
use Rattle.larch_raw.specs.declared.declared.RawSig.{RawSig}
use Rattle.larch_term.specs.Operator.{PlainOperator, plain}
use Rattle.larch_term.specs.BuiltIn.{is_built_in}
use Rattle.larch_sorts.specs.SortsMeaningFaults.{fault, fault_at, unless}
use Rattle.larch_base_meaning.specs.Steps.{each, each_several, first_position}

-- a form's markers fit the domain: a bare word fits any
abbrev pub fits : RawSig → RawForm → Bool
fits sig form = form.word || (form.markers == length sig.domain)

-- the operator of a form with a signature
abbrev pub operator_of : RawSig → RawForm → PlainOperator
operator_of sig form = record { name = plain form.name; domain = map (λ w. w.name) sig.domain; range = sig.range.name }

-- the same, unless it is a built-in one
abbrev pub own_operator : RawSig → RawForm → Result PlainOperator Fault
own_operator sig form =
    if is_built_in (operator_of sig form) then Err (fault BuiltIn form.pos) else Ok (operator_of sig form)

-- the operators of a declaration, in order: a form that doesn't fit comes before one that makes a built-in operator
abbrev pub declared_by : RawDecl → Result (List PlainOperator) Fault
declared_by decl =
    unless (fault_at Arity (first_position (λ form. not (fits decl.sig form)) (λ form. form.pos) decl.forms))
    (each (own_operator decl.sig) decl.forms)

-- the operators of declarations, in order
abbrev pub declared_operators : List RawDecl → Result (List PlainOperator) Fault
declared_operators decls = each_several declared_by decls
