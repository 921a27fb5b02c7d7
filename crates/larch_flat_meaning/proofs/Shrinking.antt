-- A file that doesn't lead back to one that refers to it leads to fewer files than that.
use Rattle.std.proofs.Common.{◌≡◌, refl, ℕ, ◌≤◌, ◌<◌, Bool, true, false, length, ap, sym, subst, arith}
use Rattle.std.proofs.Common.{List, [], ◌∷◌, Contains, Result, Ok, Err}
use Rattle.std.specs.Prelude.{bytes_eq}
use Rattle.std.specs.List.{list_any}
use Rattle.larch_flat_meaning.specs.Files.{Files, Reaches, closure, is_there, targets_in}
use Rattle.larch_flat_meaning.specs.Laws.{AreAmong}
use Rattle.larch_flat_meaning.specs.Reach.{count_told, reach_count}
use Rattle.larch_flat_meaning.specs.Stops.{Stop}
use Rattle.larch_flat_meaning.proofs.Closures.{Names, closure_tells, has_text}
use Rattle.larch_flat_meaning.proofs.Counting.{every_within, pigeon, rounds_tell}
use Rattle.larch_flat_meaning.proofs.DeepEnough.{closure_distinct, closure_there, names_of, shorter}
use Rattle.larch_flat_meaning.proofs.Every.{every_weaker}

-- as many rounds as there are files tell what a file leads to
pub told_closure : (files : Files) (all : Names) → AreAmong files all → (limit : ℕ) → length all ≤ limit
    → (name : List ℕ) → is_there files name ≡ true
    → (ms : Names) × (closure files limit (name ∷ []) ≡ Ok ms)
told_closure files all among limit l name h =
    names_of (closure files limit (name ∷ []))
    (rounds_tell files all among limit (name ∷ []) (refl, tt) (among name h, tt) (omega (arith, l)))

apart : (b : Bool) (P : Type 0) → (b ≡ true → P) → (P → ⊥) → b ≡ false
apart true P h k = absurd (k (h refl))
apart false P h k = refl

-- a target that doesn't lead back leads to fewer files
pub falls : (files : Files) (all : Names) → AreAmong files all → (limit : ℕ) → length all ≤ limit → (name b : List ℕ)
    → Contains (targets_in (files name)) b → is_there files b ≡ true → (Reaches files b name → ⊥)
    → reach_count limit files b < reach_count limit files name
falls files all among limit l name b t there_b k =
    let there_name : is_there files name ≡ true = has_text (files name) b t in
    let r = told_closure files all among limit l name there_name in
    let q = told_closure files all among limit l b there_b in
    let away : list_any (bytes_eq name) q.0 ≡ false =
    apart (list_any (bytes_eq name) q.0) (Reaches files b name)
    (closure_tells files limit b name q.0 q.1 there_name).0 k in
    let lt : length q.0 < length r.0 = shorter files limit name b r.0 q.0 r.1 t there_b q.1 away in
    subst (λ n. n < reach_count limit files name) (sym (ap count_told q.1))
    (subst (λ n. length q.0 < n) (sym (ap count_told r.1)) lt)

not_both : (b : Bool) → b ≡ true → b ≡ false → ⊥
not_both true p q = cc
not_both false p q = cc

-- the same, where its closure tells that it doesn't lead back
pub falls_told : (files : Files) (all : Names) → AreAmong files all → (limit : ℕ) → length all ≤ limit
    → (name b : List ℕ)
    → Contains (targets_in (files name)) b → is_there files b ≡ true
    → (n : ℕ) (ms : Names) → closure files n (b ∷ []) ≡ Ok ms → list_any (bytes_eq name) ms ≡ false
    → reach_count limit files b < reach_count limit files name
falls_told files all among limit l name b t there_b n ms e away =
    falls files all among limit l name b t there_b
    (λ r. not_both (list_any (bytes_eq name) ms)
    ((closure_tells files n b name ms e (has_text (files name) b t)).1 r) away)

bounded_by : (files : Files) (all : Names) → AreAmong files all → (limit : ℕ) (name : List ℕ)
    → is_there files name ≡ true
    → (o : Result Names Stop) → closure files limit (name ∷ []) ≡ o → count_told o ≤ length all
bounded_by files all among limit name h (Ok ms) e =
    pigeon ms all (closure_distinct files limit (name ∷ []) ms (refl, tt) e)
    (every_within ms all (every_weaker (λ k. is_there files k ≡ true) (Contains all) among ms
    (closure_there files limit (name ∷ []) ms (h, tt) e)))
bounded_by files all among limit name h (Err stop) e = omega arith

-- it leads to no more files than there are
pub bounded : (files : Files) (all : Names) → AreAmong files all → (limit : ℕ) (name : List ℕ)
    → is_there files name ≡ true → reach_count limit files name ≤ length all
bounded files all among limit name h = bounded_by files all among limit name h (closure files limit (name ∷ [])) refl
