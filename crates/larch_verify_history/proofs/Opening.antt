-- A box that was opened last.
use Rattle.std.proofs.Common.{◌≡◌, ℕ, List, [], ◌∷◌, ◌++◌, take, Option, Some, None, sym, ◌∙◌, ap, refl, subst}
use Rattle.std.specs.Prelude.{reverse}
use Rattle.std.specs.Option.{option_to_list}
use Rattle.std.proofs.lemmas.List.{reverse-append}
use Rattle.larch_verify_history.proofs.Closing.{cut, inner}
use Rattle.larch_verify_history.specs.Past.{IsOpening, open_levels, opened_box}
use Rattle.larch_verify_history.specs.declared.event.KeptEvent.{KeptEvent}
use Rattle.larch_verify_history.specs.declared.event.KeptEvent.TheVariants.{Says, Opens, Closes}
use Rattle.larch_verify_history.specs.declared.event.KnownBox.{KnownBox}
use Rattle.larch_verify_history.specs.declared.past.KeptHistory.{KeptHistory}
use Rattle.larch_verify_history.specs.declared.stated.Stated.{Stated}

-- the event that stands last is that of the box
opens_last : (es rest : List KeptEvent) (e : KeptEvent) → es ≡ rest ++ e ∷ [] → IsOpening (reverse es)
    → IsOpening (e ∷ reverse rest)
opens_last es rest e q h = subst IsOpening (ap reverse q ∙ reverse-append rest (e ∷ [])) h

-- something has happened
opens_something : (es : List KeptEvent) → es ≡ [] → IsOpening (reverse es) → ⊥
opens_something es q h = subst IsOpening (ap reverse q) h

-- what is taken away from what has happened is the event of the box
pub opened_none : (es rest : List KeptEvent) (o : Option KeptEvent) → es ≡ rest ++ option_to_list o
    → (o ≡ None → es ≡ [])
    → IsOpening (reverse es) → opened_box o ≡ None → ⊥
opened_none es rest None q l h n = opens_something es (l refl) h
opened_none es rest (Some (Says k s)) q l h n = opens_last es rest (Says k s) q h
opened_none es rest (Some (Opens b)) q l h n = absurd cc
opened_none es rest (Some (Closes b s)) q l h n = opens_last es rest (Closes b s) q h

pub opened_some : (es rest : List KeptEvent) (o : Option KeptEvent) (b : KnownBox) → es ≡ rest ++ option_to_list o
    → opened_box o ≡ Some b → es ≡ rest ++ Opens b ∷ []
opened_some es rest None b q n = absurd cc
opened_some es rest (Some (Says k s)) b q n = absurd cc
opened_some es rest (Some (Opens c)) b q n = let s : c ≡ b = cc in q ∙ ap (λ d. rest ++ Opens d ∷ []) s
opened_some es rest (Some (Closes c s)) b q n = absurd cc

-- where the innermost box had been opened, that had happened last
pub left_opens : (a : KeptHistory) (es : List KeptEvent) (n : ℕ) (s : Stated) (os : List ℕ) (i : ℕ)
    → open_levels (reverse a.events.items) ≡ reverse a.levels.items → a.events.items ≡ es ++ Says n s ∷ []
    → a.levels.items ≡ os ++ i ∷ [] → IsOpening (reverse (take i es))
left_opens a es n s os i h ev op =
    let r : reverse a.events.items ≡ Says n s ∷ reverse es = ap reverse ev ∙ reverse-append es (Says n s ∷ []) in
    let o : open_levels (reverse es) ≡ i ∷ reverse os =
    sym (ap open_levels r) ∙ h ∙ ap reverse op ∙ reverse-append os (i ∷ []) in
    let x = inner (reverse es) i (reverse os) o in
    let c : reverse (take i es) ≡ Opens x.box ∷ reverse (reverse x.before) =
    ap reverse (cut es i (reverse os) x) ∙ reverse-append (reverse x.before) (Opens x.box ∷ []) in
    subst IsOpening (sym c) tt
