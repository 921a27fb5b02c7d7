-- The links of a table lead where its references lead.
use Rattle.std.proofs.Common.{◌≡◌, refl, ℕ, ◌<◌, Bool, true, false, length, sym, subst, ◌∙◌}
use Rattle.std.proofs.Common.{List, [], ◌∷◌, Contains, Ok}
use Rattle.std.specs.Prelude.{bytes_eq}
use Rattle.std.specs.Bool.{Decides}
use Rattle.std.specs.List.{list_any}
use Rattle.larch_flat_meaning.specs.Files.{Reaches, closure, here, is_there, targets_in, there}
use Rattle.larch_flat_meaning.proofs.Closures.{closure_tells, leads_there}
use Rattle.larch_flat_sources.specs.Links.{AreLeading, AreLinks, Leads, arrived, is_marked, one_more}
use Rattle.larch_flat_sources.specs.Sources.{Table, files_in, name_at}
use Rattle.larch_flat_sources.proofs.Numbers.{referring_within}
use Rattle.larch_flat_sources.proofs.Tables.{number_there, one_number, there_at}

module _ (table : Table) (links : List (List ℕ)) (s : AreLinks table links) where
  leads_reaches : (m number : ℕ) → Leads links m number
      → Reaches (files_in table) (name_at table m) (name_at table number)
  leads_reaches m number arrived = here
  leads_reaches m number (one_more {b = b} c l) =
      let lt : b < length table = subst (λ k. b < k) s.size (referring_within links b m c) in
      there ((s.each b m lt).0 c).1 (leads_reaches b number l)

  reaches_leads : (x y : List ℕ) → Reaches (files_in table) x y → (m number : ℕ) → m < length table
      → number < length table
      → name_at table m ≡ x → name_at table number ≡ y → Leads links m number
  reaches_leads x y here m number lt k e q =
      subst (λ n. Leads links m n) (one_number table s.apart m number lt k (e ∙ sym q)) arrived
  reaches_leads x y (there {b = z} t r) m number lt k e q =
      let there_y : is_there (files_in table) y ≡ true =
      subst (λ n. is_there (files_in table) n ≡ true) q (there_at table number k) in
      let i = number_there table z (leads_there (files_in table) z y r there_y) in
      let t_m : Contains (targets_in (files_in table (name_at table m))) (name_at table i.0) =
      subst (λ n. Contains (targets_in (files_in table n)) (name_at table i.0)) (sym e)
      (subst (Contains (targets_in (files_in table x))) (sym i.2) t) in
      one_more ((s.each i.0 m i.1).1 (lt, t_m)) (reaches_leads z y r i.0 number i.1 k i.2 q)

  -- marks of what leads to a number are those of the files that lead to its file
  pub are_leading : (marks : List Bool) (number : ℕ) → number < length table
      → ((m : ℕ) → Decides (is_marked marks m) (Leads links m number)) → AreLeading table marks number
  are_leading marks number k h m lt = (
    (λ e. leads_reaches m number ((h m).0 e)),
    (λ r. (h m).1 (reaches_leads (name_at table m) (name_at table number) r m number lt k refl refl)),
  )

both_decide : (a b : Bool) (P : Type 0) → Decides a P → Decides b P → a ≡ b
both_decide true true P h k = refl
both_decide true false P h k = sym (k.1 (h.0 refl))
both_decide false true P h k = h.1 (k.0 refl)
both_decide false false P h k = refl

-- a mark tells what the closure tells
pub marks_tell : (table : Table) (marks : List Bool) (number target : ℕ) → AreLeading table marks number
    → number < length table → target < length table
    → (limit : ℕ) (ms : List (List ℕ)) → closure (files_in table) limit (name_at table target ∷ []) ≡ Ok ms
    → is_marked marks target ≡ list_any (bytes_eq (name_at table number)) ms
marks_tell table marks number target h k lt limit ms e =
    both_decide (is_marked marks target) (list_any (bytes_eq (name_at table number)) ms)
    (Reaches (files_in table) (name_at table target) (name_at table number))
    (h target lt) (closure_tells (files_in table) limit (name_at table target) (name_at table number) ms e
    (there_at table number k))
