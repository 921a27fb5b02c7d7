-- Operators as keys: the test for equality, and what is hashed.
use Rattle.std.specs.Prelude.{◌≡◌, ℕ, ◌==◌, ◌&&◌, ◌++◌, Bool, false, List, bytes_eq, refl}
use Rattle.std.specs.Bool.{Decides}
use Rattle.std.specs.Cmp.Lexicographic.{pointwise}
use Rattle.std.specs.Hash as fed
use Rattle.std.proofs.Common.{ap, ap₂}
use Rattle.std.proofs.lemmas.Bool.Decides.{Decides-eqb, Decides-and, Decides-like}
use Rattle.std.proofs.lemmas.Slice.Eq.{bytes_eq-Decides, slice_eq-Decides}
use Rattle.larch_term.specs.Operator.{OperatorName, PlainOperator, plain, boxed}

-- whether two names are equal
abbrev pub same_name : OperatorName → OperatorName → Bool
same_name (plain n) (plain m) = bytes_eq n m
same_name (plain n) (boxed c l) = false
same_name (boxed b k) (plain m) = false
same_name (boxed b k) (boxed c l) = (b == c) && (k == l)

-- whether two operators have one name, one domain and one range
unfoldable pub same_operator : PlainOperator → PlainOperator → Bool
same_operator f g = same_name f.name g.name && (pointwise bytes_eq f.domain g.domain && bytes_eq f.range g.range)

-- what is hashed of a name
abbrev pub name_input : OperatorName → List (List ℕ)
name_input (plain n) = fed.slice fed.u8 n
name_input (boxed b k) = fed.u64 b ++ fed.u64 k

-- what is hashed of an operator: its name, its domain and its range
abbrev pub operator_input : PlainOperator → List (List ℕ)
operator_input f = name_input f.name ++ (fed.slice (fed.slice fed.u8) f.domain ++ fed.slice fed.u8 f.range)

-- a test that is never passed
never : {R : Type 0} → (R → ⊥) → Decides false R
never f = (λ e. cc, λ r. absurd (f r))

-- the tests tell exactly what is equal
pub name_Decides : (n m : OperatorName) → Decides (same_name n m) (n ≡ m)
name_Decides (plain n) (plain m) = Decides-like (bytes_eq n m) (ap plain) (λ e. cc) (bytes_eq-Decides n m)
name_Decides (plain n) (boxed c l) = never (λ e. cc)
name_Decides (boxed b k) (plain m) = never (λ e. cc)
name_Decides (boxed b k) (boxed c l) =
    Decides-like ((b == c) && (k == l)) (λ h. ap₂ boxed h.0 h.1) (λ e. (cc, cc))
    (Decides-and (b == c) (k == l) (Decides-eqb b c) (Decides-eqb k l))

pub sorts_Decides : (ss zs : List (List ℕ)) → Decides (pointwise bytes_eq ss zs) (ss ≡ zs)
sorts_Decides ss zs = slice_eq-Decides bytes_eq-Decides ss zs (pointwise bytes_eq ss zs) refl

same_record : (f g : PlainOperator) → f.name ≡ g.name → f.domain ≡ g.domain → f.range ≡ g.range → f ≡ g
same_record f g n d r = λ i. record { name = n i; domain = d i; range = r i }

pub operator_Decides : (f g : PlainOperator) → Decides (same_operator f g) (f ≡ g)
unfolding same_operator
operator_Decides f g =
    Decides-like (same_name f.name g.name && (pointwise bytes_eq f.domain g.domain && bytes_eq f.range g.range))
    (λ h. same_record f g h.0 h.1.0 h.1.1) (λ e. (ap (λ o. o.name) e, (ap (λ o. o.domain) e, ap (λ o. o.range) e)))
    (Decides-and (same_name f.name g.name) (pointwise bytes_eq f.domain g.domain && bytes_eq f.range g.range)
    (name_Decides f.name g.name)
    (Decides-and (pointwise bytes_eq f.domain g.domain) (bytes_eq f.range g.range)
    (sorts_Decides f.domain g.domain) (bytes_eq-Decides f.range g.range)))
