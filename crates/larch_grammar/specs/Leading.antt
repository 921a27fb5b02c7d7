-- Which tokens behind `implies` begin references, and which begin an item. The tokens are seen as terminals.
use Rattle.std.specs.Prelude.{ℕ, zero, suc, Bool, true, false, Option, Some, None, List, [], ◌∷◌}
use Rattle.larch_base.specs.declared.position.Pos.{Pos}
use Rattle.larch_grammar.specs.declared.terminal.Terminal.{Terminal}
use Rattle.larch_grammar.specs.declared.terminal.Terminal.TheVariants.{Word, Open, Close, Generated, Partitioned}
use Rattle.larch_grammar.specs.Terminal.{ends_reference}

-- how many parentheses are open behind a token, where so many are inside a group before it; nothing where it closes
-- the group
abbrev pub open_depth : Terminal → ℕ → Option ℕ
open_depth (Open p) n = Some (suc n)
open_depth Close zero = None
open_depth Close (suc n) = Some n
open_depth _ n = Some n

-- what stands behind a token that closes a group, or further
abbrev pub or_further : {Rest : Type 0} → Option ℕ → Rest → (ℕ → Option Rest) → Option Rest
or_further None rest further = Some rest
or_further (Some n) rest further = further n

module _ {Seen : Type 0} (see : Seen → Terminal) where
  -- what stands behind the `)` that closes a group, so many others being open inside; nothing where none closes
  abbrev pub behind_group : ℕ → List Seen → Option (List Seen)
  behind_group n [] = None
  behind_group n (t ∷ ts) = or_further (open_depth (see t) n) ts (λ m. behind_group m ts)

  -- what stands behind a word and its parenthesis, where this is the token behind the word; nothing in a clause
  abbrev pub from_second : Terminal → Seen → List Seen → Option (List Seen)
  from_second (Open p) t ts = behind_group 0 ts
  from_second Generated t ts = None
  from_second Partitioned t ts = None
  from_second _ t ts = Some (t ∷ ts)

  -- the same of the tokens behind the word
  abbrev pub behind_word : List Seen → Option (List Seen)
  behind_word [] = Some []
  behind_word (t ∷ ts) = from_second (see t) t ts

  -- the same, where this is the first token
  abbrev pub from_first : Terminal → List Seen → Option (List Seen)
  from_first (Word w) ts = behind_word ts
  from_first _ ts = None

  -- what stands behind the word that comes first and behind the parenthesis that opens directly behind it; nothing
  -- where
  -- no word comes first, where it begins a clause, and where the parenthesis is never closed
  abbrev pub behind_first : List Seen → Option (List Seen)
  behind_first [] = None
  behind_first (t ∷ ts) = from_first (see t) ts

  -- a list of references ends before these tokens, or goes on with them
  abbrev pub ends_references : List Seen → Bool
  ends_references [] = true
  ends_references (t ∷ ts) = ends_reference (see t)

  -- the same, if there are such tokens
  abbrev pub ends_behind : Option (List Seen) → Bool
  ends_behind None = false
  ends_behind (Some ts) = ends_references ts

  -- an implied part that begins with these tokens begins with a reference: a word that begins no clause, where a list
  -- of references ends or goes on behind it, or behind the parenthesis that opens directly behind it
  abbrev pub begins_references : List Seen → Bool
  begins_references ts = ends_behind (behind_first ts)
