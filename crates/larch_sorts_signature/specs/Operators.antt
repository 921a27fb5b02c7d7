-- What operators make of the arguments in tables.
use Rattle.std.specs.Prelude.{if◌then◌else◌, Bool, List, None, Option, Some, [], bytes_eq, false, fold, true, ℕ, ◌++◌}
use Rattle.std.specs.Prelude.{◌∷◌}
use Rattle.larch_term.specs.Operator.{PlainOperator}
use Rattle.larch_term.specs.Tree.{Tree}
use Rattle.larch_sorts_signature.specs.Table.{Entries, application, merge, reading_at}
use Rattle.larch_sorts_counts.specs.SortsMeaningFoundFound.{Found}
use Rattle.larch_sorts_counts.specs.SortsMeaningFoundFound.TheVariants.{One, Several}

-- a first argument together with the further ones
abbrev pub with_argument : Option (Found Tree) → Option (Found (List Tree)) → Option (Found (List Tree))
with_argument None rest = None
with_argument (Some first) None = None
with_argument (Some Several) (Some rest) = Some Several
with_argument (Some (One t)) (Some Several) = Some Several
with_argument (Some (One t)) (Some (One ts)) = Some (One (t ∷ ts))

-- the arguments that tables have at sorts, one by one
abbrev pub arguments_at : List Entries → List (List ℕ) → Option (Found (List Tree))
arguments_at [] [] = Some (One [])
arguments_at [] (s ∷ ss) = None
arguments_at (es ∷ tables) [] = None
arguments_at (es ∷ tables) (s ∷ ss) = with_argument (reading_at es s) (arguments_at tables ss)

-- the arguments so far, or that they are several, together with the further ones
abbrev pub resume_arguments : List Tree → Bool → Option (Found (List Tree)) → Option (Found (List Tree))
resume_arguments ts several None = None
resume_arguments ts true (Some rest) = Some Several
resume_arguments ts false (Some Several) = Some Several
resume_arguments ts false (Some (One us)) = Some (One (ts ++ us))

-- what was found before together with what an operator makes of arguments
abbrev pub extend_found : Option (Found Tree) → PlainOperator → Option (Found (List Tree)) → Option (Found Tree)
extend_found before f None = before
extend_found before f (Some arguments) = Some (merge before (application f arguments))

-- what was found of a sort before together with what an operator makes of the arguments in tables
abbrev pub with_operator : List Entries → List ℕ → Option (Found Tree) → PlainOperator → Option (Found Tree)
with_operator tables s before f =
    if bytes_eq f.range s then extend_found before f (arguments_at tables f.domain) else before

-- what operators make of the arguments in tables, at a sort
abbrev pub operators_at : List Entries → List PlainOperator → List ℕ → Option (Found Tree)
operators_at tables fs s = fold (with_operator tables s) None fs
