-- The grammar of terms and equations, as relations between the tokens that are left before and behind, at so many
-- open constructs. With `true` symbols are let in at which MIXED stands in any case; with `false` it is the grammar.
use Rattle.std.specs.Prelude.{ℕ, suc, nat_lt, not, Bool, true, false, IsTrue, List, [], ◌∷◌, ◌++◌, Option, Some, None}
use Rattle.std.specs.Str.{bytes_eq}
use Rattle.larch_base.specs.Position.{start_of_text}
use Rattle.larch_base.specs.declared.limits.TheConstants.{MAX_NESTING}
use Rattle.larch_base.specs.declared.position.Pos.{Pos}
use Rattle.larch_grammar_law.specs.declared.mark.Mark.{Mark}
use Rattle.larch_grammar_law.specs.declared.mark.Mark.TheVariants.{Plain, Head, Opens, OpensHead, Chained}
use Rattle.larch_raw.specs.declared.declared.RawWord.{RawWord}
use Rattle.larch_raw.specs.declared.equation.RawEquation.{RawEquation}
use Rattle.larch_raw.specs.RawTree.{RawTree, qualified}
use Rattle.larch_grammar.specs.declared.terminal.Bracket.{Bracket}
use Rattle.larch_grammar.specs.declared.terminal.Terminal.{Terminal}
use Rattle.larch_grammar.specs.declared.terminal.Terminal.TheVariants.{Word, Symbol, Not, Connective, Equality, Equates}
use Rattle.larch_grammar.specs.declared.terminal.Terminal.TheVariants.{Colon, Comma, Dot, Open, Close, OpenBracket}
use Rattle.larch_grammar.specs.declared.terminal.Terminal.TheVariants.{CloseBracket, If, Then, Else}
use Rattle.larch_grammar.specs.Form.{Marked}
use Rattle.larch_grammar.specs.Terminal.{position_of}
use Rattle.larch_grammar.specs.Trees.{infix_tree, prefix_tree, postfix_tree, field_tree, call_tree, bracket_tree}
use Rattle.larch_grammar.specs.Trees.{if_tree}

-- a token that opens a construct, so many being open then
abbrev pub opens : ℕ → Mark
opens d = Opens (nat_lt MAX_NESTING d)

-- the same at a head token
abbrev pub opens_head : ℕ → Mark
opens_head d = OpensHead (nat_lt MAX_NESTING d)

-- a symbol of a chain, behind this one of it
abbrev pub chain_link : Option RawWord → RawWord → Mark
chain_link None y = Head
chain_link (Some x) y = Chained (not (bytes_eq x.name y.name))

-- a Post may begin with this token
abbrev pub begins_post : Terminal → Bool
begins_post (Word w) = true
begins_post (Open p) = true
begins_post (OpenBracket b p) = true
begins_post _ = false

-- no Post begins here
abbrev pub NoPost : List Marked → Type 0
NoPost [] = Unit {0}
NoPost (t ∷ i) = IsTrue (not (begins_post t.0))

-- P = Sym | "~"
pub data IsPrefix : Terminal → RawWord → Type 0 where
  a_symbol : {x : RawWord} → IsPrefix (Symbol x) x
  a_not : {x : RawWord} → IsPrefix (Not x) x

-- where the first of these tokens stands
abbrev pub first_position : List Marked → Pos
first_position [] = start_of_text
first_position (t ∷ i) = position_of t.0

mutual
  -- Cond = "if" Cond "then" Cond "else" Cond | Logic
  pub data Cond : Bool → ℕ → List Marked → List Marked → RawTree → Type 0 where
    conditional : {s : Bool} {d : ℕ} {p : Pos} {i m n o : List Marked} {a b c : RawTree}
        → Cond s (suc d) i ((Then, Plain) ∷ m) a → Cond s (suc d) m ((Else, Plain) ∷ n) b → Cond s (suc d) n o c
        → Cond s d ((If p, opens_head (suc d)) ∷ i) o (if_tree p a b c)
    logic : {s : Bool} {d : ℕ} {i m o : List Marked} {l q : RawTree} → Equal s d i m l → Connectives s d None l m o q
        → Cond s d i o q

  -- Logic = Equal { C Equal }: the rest of it, behind this connective and this tree
  pub data Connectives : Bool → ℕ → Option RawWord → RawTree → List Marked → List Marked → RawTree → Type 0 where
    no_connective : {s : Bool} {d : ℕ} {x : Option RawWord} {l : RawTree} {o : List Marked} → Connectives s d x l o o l
    connective : {s : Bool} {d : ℕ} {x : Option RawWord} {y : RawWord} {l r q : RawTree} {i m o : List Marked}
        → Equal s d i m r → Connectives s d (Some y) (infix_tree y l r) m o q
        → Connectives s d x l ((Connective y, chain_link x y) ∷ i) o q

  -- Equal = Oper { E Oper }
  pub data Equal : Bool → ℕ → List Marked → List Marked → RawTree → Type 0 where
    equal : {s : Bool} {d : ℕ} {i m o : List Marked} {l q : RawTree} → Oper s d i m l → Equalities s d None l m o q
        → Equal s d i o q

  -- the rest of it, behind this symbol and this tree
  pub data Equalities : Bool → ℕ → Option RawWord → RawTree → List Marked → List Marked → RawTree → Type 0 where
    no_equality : {s : Bool} {d : ℕ} {x : Option RawWord} {l : RawTree} {o : List Marked} → Equalities s d x l o o l
    equality : {s : Bool} {d : ℕ} {x : Option RawWord} {y : RawWord} {l r q : RawTree} {i m o : List Marked}
        → Oper s d i m r → Equalities s d (Some y) (infix_tree y l r) m o q
        → Equalities s d x l ((Equality y, chain_link x y) ∷ i) o q

  -- Oper = P { P } Post | Post Sym { Sym } | Post { Sym Post }
  pub data Oper : Bool → ℕ → List Marked → List Marked → RawTree → Type 0 where
    prefixed : {s : Bool} {d : ℕ} {t : Terminal} {x : RawWord} {i o : List Marked} {q : RawTree} → IsPrefix t x
        → Operand s d i o q → Oper s d ((t, Head) ∷ i) o (prefix_tree x q)
    plain : {s : Bool} {d : ℕ} {i m o : List Marked} {l q : RawTree} → Post s d i m l → Symbols s d l m o q
        → Oper s d i o q

  -- what stands behind a prefix symbol
  pub data Operand : Bool → ℕ → List Marked → List Marked → RawTree → Type 0 where
    another_prefix : {s : Bool} {d : ℕ} {t : Terminal} {x : RawWord} {i o : List Marked} {q : RawTree} → IsPrefix t x
        → Operand s d i o q → Operand s d ((t, Head) ∷ i) o (prefix_tree x q)
    operand : {s : Bool} {d : ℕ} {i m o : List Marked} {l q : RawTree} → Post s d i m l → Strays s l m o q
        → Operand s d i o q

  -- the symbols behind the first Post: none, postfix ones where no Post follows the first, or infix ones
  pub data Symbols : Bool → ℕ → RawTree → List Marked → List Marked → RawTree → Type 0 where
    no_symbol : {s : Bool} {d : ℕ} {l : RawTree} {o : List Marked} → Symbols s d l o o l
    behind : {s : Bool} {d : ℕ} {x : RawWord} {l q : RawTree} {i o : List Marked} → NoPost i
        → Postfixes (postfix_tree x l) i o q → Symbols s d l ((Symbol x, Head) ∷ i) o q
    between : {s : Bool} {d : ℕ} {x : RawWord} {l r q : RawTree} {i m o : List Marked} → Post s d i m r
        → Infixes s d x (infix_tree x l r) m o q → Symbols s d l ((Symbol x, Head) ∷ i) o q

  -- { Sym Post }, behind this symbol and this tree
  pub data Infixes : Bool → ℕ → RawWord → RawTree → List Marked → List Marked → RawTree → Type 0 where
    no_infix : {s : Bool} {d : ℕ} {x : RawWord} {l : RawTree} {o : List Marked} → Infixes s d x l o o l
    another_infix : {s : Bool} {d : ℕ} {x y : RawWord} {l r q : RawTree} {i m o : List Marked} → Post s d i m r
        → Infixes s d y (infix_tree y l r) m o q → Infixes s d x l ((Symbol y, chain_link (Some x) y) ∷ i) o q

  -- { Sym }, each a postfix symbol
  pub data Postfixes : RawTree → List Marked → List Marked → RawTree → Type 0 where
    no_postfix : {l : RawTree} {o : List Marked} → Postfixes l o o l
    another_postfix : {x : RawWord} {l q : RawTree} {i o : List Marked} → Postfixes (postfix_tree x l) i o q
        → Postfixes l ((Symbol x, Head) ∷ i) o q

  -- symbols that are let in behind a Post with prefix symbols
  pub data Strays : Bool → RawTree → List Marked → List Marked → RawTree → Type 0 where
    no_stray : {s : Bool} {l : RawTree} {o : List Marked} → Strays s l o o l
    stray : {s : Bool} {x : RawWord} {l q : RawTree} {i o : List Marked} → IsTrue s → Strays s (postfix_tree x l) i o q
        → Strays s l ((Symbol x, Chained true) ∷ i) o q

  -- Post = Primary { "." Word | Bracket } [ ":" Word ]; Primary = Word [ "(" Cond { "," Cond } ")" ] | "(" Cond ")" |
  -- Bracket
  pub data Post : Bool → ℕ → List Marked → List Marked → RawTree → Type 0 where
    word_alone : {s : Bool} {d : ℕ} {w : RawWord} {i o : List Marked} {q : RawTree} → Fields s d (call_tree w []) i o q
        → Post s d ((Word w, Head) ∷ i) o q
    call : {s : Bool} {d : ℕ} {w : RawWord} {p : Pos} {i j m o : List Marked} {a q : RawTree} {ts : List RawTree}
        → Cond s (suc d) i j a → Others s (suc d) Close (a ∷ []) j m ts → Fields s d (call_tree w ts) m o q
        → Post s d ((Word w, Head) ∷ (Open p, opens (suc d)) ∷ i) o q
    parentheses : {s : Bool} {d : ℕ} {p : Pos} {i m o : List Marked} {l q : RawTree}
        → Cond s (suc d) i ((Close, Plain) ∷ m) l → Fields s d l m o q → Post s d ((Open p, opens (suc d)) ∷ i) o q
    bracketed : {s : Bool} {d : ℕ} {i m o : List Marked} {l q : RawTree} → InBracket s d None i m l → Fields s d l m o q
        → Post s d i o q

  -- { "." Word | Bracket } [ ":" Word ], behind this tree
  pub data Fields : Bool → ℕ → RawTree → List Marked → List Marked → RawTree → Type 0 where
    no_field : {s : Bool} {d : ℕ} {l : RawTree} {o : List Marked} → Fields s d l o o l
    of_sort : {s : Bool} {d : ℕ} {l : RawTree} {w : RawWord} {p : Pos} {o : List Marked}
        → Fields s d l ((Colon p, Head) ∷ (Word w, Plain) ∷ o) o (qualified l w p)
    field : {s : Bool} {d : ℕ} {l q : RawTree} {w : RawWord} {p : Pos} {i o : List Marked}
        → Fields s d (field_tree p w l) i o q → Fields s d l ((Dot p, Head) ∷ (Word w, Plain) ∷ i) o q
    bracket : {s : Bool} {d : ℕ} {l r q : RawTree} {i m o : List Marked} → InBracket s d (Some l) i m r
        → Fields s d r m o q → Fields s d l i o q

  -- Bracket = "[" [ Cond { "," Cond } ] "]" | the same with "{" and "}", perhaps with an operand in front of it
  pub data InBracket : Bool → ℕ → Option RawTree → List Marked → List Marked → RawTree → Type 0 where
    no_operand : {s : Bool} {d : ℕ} {b : Bracket} {l : Option RawTree} {p : Pos} {o : List Marked}
        → InBracket s d l ((OpenBracket b p, opens_head (suc d)) ∷ (CloseBracket b, Plain) ∷ o) o
        (bracket_tree b l p [])
    operands : {s : Bool} {d : ℕ} {b : Bracket} {l : Option RawTree} {p : Pos} {i j o : List Marked} {a : RawTree}
        {ts : List RawTree} → Cond s (suc d) i j a → Others s (suc d) (CloseBracket b) (a ∷ []) j o ts
        → InBracket s d l ((OpenBracket b p, opens_head (suc d)) ∷ i) o (bracket_tree b l p ts)

  -- { "," Cond } and the closing token, where the terms before are these
  pub data Others : Bool → ℕ → Terminal → List RawTree → List Marked → List Marked → List RawTree → Type 0 where
    no_other : {s : Bool} {d : ℕ} {c : Terminal} {ts : List RawTree} {o : List Marked}
        → Others s d c ts ((c, Plain) ∷ o) o ts
    another : {s : Bool} {d : ℕ} {c : Terminal} {a : RawTree} {ts us : List RawTree} {i j o : List Marked}
        → Cond s d i j a → Others s d c (ts ++ a ∷ []) j o us → Others s d c ts ((Comma, Plain) ∷ i) o us

-- a formula
abbrev pub formula_of : RawTree → Pos → RawEquation
formula_of l first = record { left = l; right = None; first = first }

-- an equation with two sides, and the position of `==`
abbrev pub equation_of : RawTree → Pos → RawTree → Pos → RawEquation
equation_of l p r first = record { left = l; right = Some (record { term = r; pos = p }); first = first }

-- Equation = Cond [ "==" Cond ]
pub data IsEquation : Bool → List Marked → List Marked → RawEquation → Type 0 where
  formula : {s : Bool} {i o : List Marked} {l : RawTree} → Cond s 0 i o l
      → IsEquation s i o (formula_of l (first_position i))
  two_sides : {s : Bool} {i m o : List Marked} {l r : RawTree} {p : Pos} → Cond s 0 i ((Equates p, Head) ∷ m) l
      → Cond s 0 m o r → IsEquation s i o (equation_of l p r (first_position i))
