-- Substitutions: lists of variables with the terms that take their places.
use Rattle.std.specs.Prelude.{◌≡◌, ℕ, if◌then◌else◌, ◌&&◌, Bool, List, [], ◌∷◌, ◌++◌, map, All, bytes_eq, refl}
use Rattle.std.specs.Coded.{Coded, code_by, coded×, coded_ℕ, coded_list}
use Rattle.larch_term.specs.TreeCode.{coded_tree}
use Rattle.larch_term.specs.Tree.{Tree, Forest, var, app, none, more}
use Rattle.larch_term.specs.Sorts.{sort_of, WellSorted}
use Rattle.larch_term.specs.declared.statement.Statement.{Statement}
use Rattle.larch_term.specs.declared.statement.Statement.TheVariants.{Equation, Generated, Partitioned}
use Rattle.larch_term.specs.declared.substitution.Entry.{Entry}

-- entries are told apart by their parts
abbrev pub coded_entry : Coded Entry
coded_entry = code_by (List ℕ × (List ℕ × Tree)) (coded× (coded_list coded_ℕ) (coded× (coded_list coded_ℕ) coded_tree))
    (λ e. (e.name, (e.sort, e.term))) (λ p. record { name = p.0; sort = p.1.0; term = p.1.1 }) (λ _. refl)

-- the entry is that of a variable
abbrev pub is_entry_of : List ℕ → List ℕ → Entry → Bool
is_entry_of n s e = bytes_eq e.name n && bytes_eq e.sort s

-- what takes the place of a variable: the term of its entry, or the variable itself
abbrev pub image : List Entry → List ℕ → List ℕ → Tree
image [] n s = var n s
image (e ∷ es) n s = if is_entry_of n s e then e.term else image es n s

abbrev mutual
  -- the term with all variables replaced at once
  pub instance_of : List Entry → Tree → Tree
  instance_of es (var n s) = image es n s
  instance_of es (app f ts) = app f (substituted_all es ts)

  pub substituted_all : List Entry → Forest → Forest
  substituted_all es none = none
  substituted_all es (more t ts) = more (instance_of es t) (substituted_all es ts)

-- the statement with all variables replaced at once, where it is an equation; the others have none
abbrev pub substituted_statement : List Entry → Statement → Statement
substituted_statement es (Equation l r) = Equation (instance_of es l) (instance_of es r)
substituted_statement es (Generated s fs) = Generated s fs
substituted_statement es (Partitioned s fs) = Partitioned s fs

-- each entry's term is well sorted and has the sort of the entry's variable
abbrev pub Fits : List Entry → Type 0
Fits es = All (λ e. WellSorted e.term × (sort_of e.term ≡ e.sort)) es

-- the substitution that does what the second does and then what the first does
abbrev pub compose : List Entry → List Entry → List Entry
compose es ds = map (λ d. record { name = d.name; sort = d.sort; term = instance_of es d.term }) ds ++ es
