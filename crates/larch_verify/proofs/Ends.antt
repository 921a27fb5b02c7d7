-- The end of a certificate: whether a box is open, and what the last line says.
use Rattle.std.proofs.Common.{◌≡◌, ◌↔◌, ℕ, ◌<◌, Bool, true, false, IsTrue, ◌&&◌, List, [], ◌∷◌, length, map, Option}
use Rattle.std.proofs.Common.{Some, None, refl, sym, ◌∙◌, ap, arith}
use Rattle.std.specs.Prelude.{reverse}
use Rattle.std.specs.Option.{option_map_or}
use Rattle.std.proofs.lemmas.List.{length-reverse}
use Rattle.larch_term.specs.Equality.{same_statement}
use Rattle.larch_term.proofs.Decided.{statements_told}
use Rattle.larch_term.specs.declared.statement.Statement.{Statement}
use Rattle.larch_verify_meaning.specs.Acceptance.{last_statement, no_box_open, ends_with}
use Rattle.larch_verify_pool.specs.Pooled.{Pooled}
use Rattle.larch_verify_history.specs.Past.{event_in, history_in, open_levels}
use Rattle.larch_verify_history.specs.declared.event.KeptEvent.{KeptEvent}
use Rattle.larch_verify_history.proofs.Closing.{inner, no_inner}

-- whether an option has nothing
abbrev none_left : {X : Type 0} → Option X → Bool
none_left o = option_map_or (λ x. false) o true

none_open : (p : Pooled) (h : List KeptEvent) (ls : List ℕ) → open_levels h ≡ reverse ls → length ls ≡ 0
    → no_box_open (map (event_in p) h) ≡ true
none_open p h [] e l = ap none_left (no_inner p h e)
none_open p h (i ∷ is) e l = absurd (omega arith)

some_open : (p : Pooled) (h : List KeptEvent) (ls is : List ℕ) → open_levels h ≡ is → is ≡ reverse ls → 0 < length ls
    → no_box_open (map (event_in p) h) ≡ false
some_open p h ls [] e r l = absurd (omega (arith, l, ap length r, length-reverse ls))
some_open p h ls (i ∷ is) e r l = ap none_left ((inner h i is e).is p)

-- a box is open
pub open_ends : (p : Pooled) (es : List KeptEvent) (ls : List ℕ) (s : Statement) → open_levels (reverse es) ≡ reverse ls
    → 0 < length ls → false ≡ ends_with s (history_in p es)
open_ends p es ls s e l =
    sym (ap (λ b. b && option_map_or (same_statement s) (last_statement (history_in p es)) false)
    (some_open p (reverse es) ls (open_levels (reverse es)) refl e l))

-- none is open, and the last line says nothing
pub nothing_ends : (p : Pooled) (es : List KeptEvent) (ls : List ℕ) (s : Statement)
    → open_levels (reverse es) ≡ reverse ls
    → length ls ≡ 0 → None ≡ last_statement (history_in p es) → false ≡ ends_with s (history_in p es)
nothing_ends p es ls s e l n =
    ap (λ o. option_map_or (same_statement s) o false) n
    ∙ sym (ap (λ b. b && option_map_or (same_statement s) (last_statement (history_in p es)) false)
    (none_open p (reverse es) ls e l))

-- none is open, and the last line says a statement
pub said_ends : (p : Pooled) (es : List KeptEvent) (ls : List ℕ) (s r z y : Statement) (b : Bool)
    → open_levels (reverse es) ≡ reverse ls → length ls ≡ 0 → Some r ≡ last_statement (history_in p es)
    → z ≡ s → y ≡ r → (IsTrue b ↔ (z ≡ y)) → b ≡ ends_with s (history_in p es)
said_ends p es ls s r z y b e l n f g h =
    statements_told z y b h ∙ (λ i. same_statement (f i) (g i)) ∙ ap (λ o. option_map_or (same_statement s) o false) n
    ∙ sym (ap (λ c. c && option_map_or (same_statement s) (last_statement (history_in p es)) false)
    (none_open p (reverse es) ls e l))
