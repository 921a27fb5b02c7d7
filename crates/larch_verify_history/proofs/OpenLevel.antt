-- The level is that of the last open place.
use Rattle.std.proofs.Common.{◌≡◌, ℕ, ◌-◌, ◌<◌, List, [], ◌∷◌, length, get_or, refl, sym, ◌∙◌, ap, arith}
use Rattle.std.specs.Prelude.{reverse}
use mathlib.Core.List.{reverse_aux}
use Rattle.larch_verify_history.specs.Levels.{level}
use Rattle.larch_verify_history.specs.Past.{open_levels}
use Rattle.larch_verify_history.specs.declared.event.KeptEvent.{KeptEvent}
use Rattle.larch_verify_history.specs.declared.event.KeptEvent.TheVariants.{Says, Opens, Closes}

abbrev head_level : List ℕ → ℕ
head_level [] = 0
head_level (i ∷ is) = i

level_head : (h : List KeptEvent) → level h ≡ head_level (open_levels h)
level_head [] = refl
level_head (Says n s ∷ h) = level_head h
level_head (Opens b ∷ h) = refl
level_head (Closes b s ∷ h) = level_head h

last_level : (x : ℕ) (xs rest : List ℕ) (d : ℕ) → head_level (reverse_aux xs (x ∷ rest)) ≡ get_or (x ∷ xs) (length xs) d
last_level x [] rest d = refl
last_level x (y ∷ ys) rest d = last_level y ys (x ∷ rest) d

pub level_last : (h : List KeptEvent) (ls : List ℕ) (d : ℕ) → open_levels h ≡ reverse ls → 0 < length ls
    → level h ≡ get_or ls (length ls - 1) d
level_last h [] d e l = absurd (omega arith)
level_last h (x ∷ xs) d e l =
    let k : length (x ∷ xs) - 1 ≡ length xs = omega arith in
    level_head h ∙ ap head_level e ∙ last_level x xs [] d ∙ ap (λ n. get_or (x ∷ xs) n d) (sym k)

pub level_none : (h : List KeptEvent) (ls : List ℕ) → open_levels h ≡ reverse ls → length ls ≡ 0 → level h ≡ 0
level_none h [] e l = level_head h ∙ ap head_level e
level_none h (x ∷ xs) e l = absurd (omega arith)
