-- Canonical names, and the trees that the forms of terms make.
use Rattle.std.specs.Prelude.{ℕ, zero, suc, Bool, true, false, List, [], ◌∷◌, ◌++◌, codes, length, Option, Some, None}
use Rattle.larch_base.specs.declared.position.Pos.{Pos}
use Rattle.larch_raw.specs.declared.declared.RawForm.{RawForm}
use Rattle.larch_raw.specs.declared.declared.RawWord.{RawWord}
use Rattle.larch_raw.specs.RawTree.{RawTree, apply, raw_forest}
use Rattle.larch_grammar.specs.declared.terminal.Bracket.{Bracket}
use Rattle.larch_grammar.specs.declared.terminal.Bracket.TheVariants.{Square, Curly}
use Rattle.larch_grammar.specs.declared.machine.Link.{Link}
use Rattle.larch_grammar.specs.declared.machine.Listing.{Listing}
use Rattle.larch_grammar.specs.declared.machine.Listing.TheVariants.{Call, First, Bracketed}

-- `__ + __`
abbrev pub infix_name : List ℕ → List ℕ
infix_name symbol = codes "__ " ++ (symbol ++ codes " __")

-- `- __`
abbrev pub prefix_name : List ℕ → List ℕ
prefix_name symbol = symbol ++ codes " __"

-- `__ !`
abbrev pub postfix_name : List ℕ → List ℕ
postfix_name symbol = codes "__ " ++ symbol

-- `__.first`
abbrev pub field_name : List ℕ → List ℕ
field_name word = codes "__." ++ word

-- `if __ then __ else __`
abbrev pub if_name : List ℕ
if_name = codes "if __ then __ else __"

-- so many markers more
abbrev pub more_markers : ℕ → List ℕ
more_markers zero = []
more_markers (suc n) = more_markers n ++ codes ", __"

-- so many markers
abbrev pub markers : ℕ → List ℕ
markers zero = []
markers (suc n) = codes "__" ++ more_markers n

-- `[__, __]`
abbrev pub brackets : Bracket → List ℕ → List ℕ
brackets Square inside = codes "[" ++ (inside ++ codes "]")
brackets Curly inside = codes "{" ++ (inside ++ codes "}")

-- `[__, __]` with so many operands inside
abbrev pub bracket_name : Bracket → ℕ → List ℕ
bracket_name bracket n = brackets bracket (markers n)

-- `__[__]`
abbrev pub bracket_behind_name : Bracket → ℕ → List ℕ
bracket_behind_name bracket n = codes "__" ++ bracket_name bracket n

-- an operator with one operand
abbrev pub one : List ℕ → Pos → RawTree → RawTree
one name pos t = apply name (raw_forest (t ∷ [])) pos

-- an infix symbol between its operands
abbrev pub infix_tree : RawWord → RawTree → RawTree → RawTree
infix_tree x l r = apply (infix_name x.name) (raw_forest (l ∷ r ∷ [])) x.pos

-- a prefix symbol before its operand
abbrev pub prefix_tree : RawWord → RawTree → RawTree
prefix_tree x r = one (prefix_name x.name) x.pos r

-- a postfix symbol behind its operand
abbrev pub postfix_tree : RawWord → RawTree → RawTree
postfix_tree x l = one (postfix_name x.name) x.pos l

-- a field of its operand, with the position of the dot
abbrev pub field_tree : Pos → RawWord → RawTree → RawTree
field_tree p w l = one (field_name w.name) p l

-- a word with its arguments
abbrev pub call_tree : RawWord → List RawTree → RawTree
call_tree w ts = apply w.name (raw_forest ts) w.pos

-- a bracket, perhaps with an operand in front of it
abbrev pub bracket_tree : Bracket → Option RawTree → Pos → List RawTree → RawTree
bracket_tree b None p ts = apply (bracket_name b (length ts)) (raw_forest ts) p
bracket_tree b (Some l) p ts = apply (bracket_behind_name b (length ts)) (raw_forest (l ∷ ts)) p

-- what a list of terms belongs to, with the list
abbrev pub listing_tree : Listing → List RawTree → RawTree
listing_tree (Call w) ts = call_tree w ts
listing_tree (First raw w) ts = call_tree w ts
listing_tree (Bracketed b l p) ts = bracket_tree b l p ts

-- `if`, with its position and three parts
abbrev pub if_tree : Pos → RawTree → RawTree → RawTree → RawTree
if_tree p a b c = apply if_name (raw_forest (a ∷ b ∷ c ∷ [])) p

-- a term behind the symbol of a chain, or the first of one
abbrev pub chain_tree : Option Link → RawTree → RawTree
chain_tree None r = r
chain_tree (Some link) r = infix_tree link.symbol link.left r

-- a form that is no bare word
abbrev pub mixfix : List ℕ → ℕ → Pos → RawForm
mixfix name n pos = record { name = name; word = false; markers = n; pos = pos }

-- a form that is a bare word
abbrev pub plain_form : RawWord → RawForm
plain_form w = record { name = w.name; word = true; markers = 0; pos = w.pos }

-- a bracket as a form, with the position where it begins, and whether a marker stands in front of it
abbrev pub bracket_form : Bool → Bracket → ℕ → Pos → RawForm
bracket_form false b n pos = mixfix (bracket_name b n) n pos
bracket_form true b n pos = mixfix (bracket_behind_name b n) (suc n) pos
