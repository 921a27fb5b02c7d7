-- Operators that are found by their domains are enough.
use Rattle.std.proofs.Common.{◌≡◌, ℕ, ◌+◌, ◌<◌, Bool, true, false, cond, List, [], ◌∷◌, ◌++◌, Contains, Some, None}
use Rattle.std.proofs.Common.{bytes_eq, map, drop, length, get_or, filter, refl, sym, ◌∙◌, ap, subst, append_assoc}
use Rattle.std.proofs.Common.{arith}
use Rattle.std.specs.Cmp.Lexicographic.{pointwise}
use Rattle.std.specs.List.{flat_map, fold}
use Rattle.std.specs.Map.{lookup}
use Rattle.std.proofs.lemmas.List.{append-nil, drop_more, length-map}
use Rattle.std.proofs.lemmas.List.Sums.{fold-append}
use Rattle.larch_base.proofs.Members.{contains_here, contains_filter, contained_in_filter, contains_flat_map}
use Rattle.larch_base.proofs.Members.{contained_in_flat_map, contains_map}
use Rattle.larch_term.specs.Operator.{PlainOperator}
use Rattle.larch_term.specs.OperatorKey.{sorts_Decides}
use Rattle.larch_sorts_signature.specs.Domains.{IsByDomain, domains_from, domains_of, found_among, has_domain, kept_for}
use Rattle.larch_sorts_signature.specs.Domains.{with_sorts}
use Rattle.larch_sorts_signature.specs.Operators.{arguments_at, operators_at, with_argument}
use Rattle.larch_sorts_signature.specs.Overloads.{AreEnough, IsMade}
use Rattle.larch_sorts_signature.specs.Table.{sorts_in, Entries, reading_at}
use Rattle.larch_sorts_counts.specs.SortsMeaningSignature.{kept}
use Rattle.larch_sorts_signature.proofs.Arguments.{entries_at, with_none}
use Rattle.larch_sorts_signature.proofs.Enough.{found_here}

-- sorts at which tables have arguments are among the domains, behind what stands before them
domain_held : (tables : List Entries) (dss : List (List (List ℕ))) (ds ss : List (List ℕ)) → Contains dss ds
    → ((arguments_at tables ss ≡ None) → ⊥) → Contains (domains_from dss tables) (ds ++ ss)
domain_held [] dss ds [] c h = subst (Contains dss) (sym (append-nil ds)) c
domain_held [] dss ds (s ∷ ss) c h = absurd (h refl)
domain_held (es ∷ tables) dss ds [] c h = absurd (h refl)
domain_held (es ∷ tables) dss ds (s ∷ ss) c h =
    subst (Contains (domains_from (flat_map (with_sorts es) dss) tables)) (append_assoc ds (s ∷ []) ss)
    (domain_held tables (flat_map (with_sorts es) dss) (ds ++ s ∷ []) ss
    (contains_flat_map (with_sorts es) dss ds (ds ++ s ∷ []) c
    (contains_map (λ z. ds ++ z ∷ []) (sorts_in es) s
    (found_here es s (arguments_at tables ss) (reading_at es s) refl h)))
    (λ e. h (ap (with_argument (reading_at es s)) e ∙ with_none (reading_at es s))))

domains_enough : (entries : List (List (List ℕ) × List PlainOperator)) (fs : List PlainOperator) (tables : List Entries)
    → IsByDomain entries fs → AreEnough tables fs (found_among entries (domains_of tables))
domains_enough entries fs tables by = (
  λ f c.
      let w = contained_in_flat_map (kept_for entries) (domains_of tables) f c in
      (contained_in_filter (has_domain w.0) fs f (subst (λ gs. Contains gs f) (by w.0) w.2)).0,
  λ f c h.
      contains_flat_map (kept_for entries) (domains_of tables) f.domain f
      (domain_held tables ([] ∷ []) [] f.domain (contains_here [] []) h)
      (subst (λ gs. Contains gs f) (sym (by f.domain))
      (contains_filter (has_domain f.domain) fs f c ((sorts_Decides f.domain f.domain).1 refl))),
)

-- what is made by the operators that are found by their domains
pub domains_made : {X : Type 0} (f : X → Entries) (tables : List X)
    (entries : List (List (List ℕ) × List PlainOperator)) (fs : List PlainOperator) (es : Entries)
    → IsByDomain entries fs
    → ((s : List ℕ) → reading_at es s ≡ operators_at (map f tables) (found_among entries (domains_of (map f tables))) s)
    → IsMade es (map f tables) fs
domains_made f tables entries fs es by is =
    (found_among entries (domains_of (map f tables)), domains_enough entries fs (map f tables) by, is)

-- the domains with a sort of one table more
pub next_domains : {X : Type 0} (f : X → Entries) (tables : List X) (i : ℕ) (t : X) (old new all : List (List (List ℕ)))
    → i < length tables → t ≡ get_or tables i t → new ≡ flat_map (with_sorts (f t)) old
    → domains_from old (drop i (map f tables)) ≡ all → domains_from new (drop (i + 1) (map f tables)) ≡ all
next_domains f tables i t old new all lt e is invariant =
    ap (λ dss. domains_from dss (drop (i + 1) (map f tables))) is
    ∙ sym
    (ap (domains_from old) (drop_more (map f tables) i (f t) (let long = length-map tables f in omega (arith, long, lt))
    ∙ ap (λ x. x ∷ drop (i + 1) (map f tables)) (sym (entries_at f tables i t lt e))))
    ∙ invariant

-- what the operators of one domain more make
pub next_added : {B : Type 0} (step : B → PlainOperator → B) (entries : List (List (List ℕ) × List PlainOperator))
    (dss : List (List (List ℕ))) (i : ℕ) (ds : List (List ℕ)) (gs : List PlainOperator) (before now all : B)
    → i < length dss → ds ≡ get_or dss i ds → gs ≡ kept_for entries ds → now ≡ fold step before gs
    → fold step before (found_among entries (drop i dss)) ≡ all
    → fold step now (found_among entries (drop (i + 1) dss)) ≡ all
next_added step entries dss i ds gs before now all lt e at is invariant =
    ap (λ x. fold step x (found_among entries (drop (i + 1) dss))) (is ∙ ap (fold step before) at)
    ∙ sym (fold-append step before (kept_for entries ds) (found_among entries (drop (i + 1) dss)))
    ∙ sym (ap (λ zss. fold step before (found_among entries zss))
    (drop_more dss i ds lt ∙ ap (λ x. x ∷ drop (i + 1) dss) (sym e)))
    ∙ invariant

one_first : {X : Type 0} (b : Bool) (x : X) (xs : List X) → cond b (x ∷ []) [] ++ xs ≡ cond b (x ∷ xs) xs
one_first true x xs = refl
one_first false x xs = refl

-- one thing more that passes a test, or doesn't
pub next_kept : {X : Type 0} (p : X → Bool) (xs : List X) (i : ℕ) (x : X) (old new all : List X) → i < length xs
    → x ≡ get_or xs i x → new ≡ old ++ filter p (x ∷ []) → old ++ filter p (drop i xs) ≡ all
    → new ++ filter p (drop (i + 1) xs) ≡ all
next_kept p xs i x old new all lt e is invariant =
    ap (λ ys. ys ++ filter p (drop (i + 1) xs)) is
    ∙ append_assoc old (filter p (x ∷ [])) (filter p (drop (i + 1) xs))
    ∙ ap (λ ys. old ++ ys) (one_first (p x) x (filter p (drop (i + 1) xs))
    ∙ ap (filter p) (sym (drop_more xs i x lt ∙ ap (λ y. y ∷ drop (i + 1) xs) (sym e))))
    ∙ invariant

module _ (old removed new : List (List (List ℕ) × List PlainOperator)) (ds ss : List (List ℕ))
    (kepts more : List PlainOperator) (f : PlainOperator) (was : kepts ≡ kept_for old ds)
    (gone : lookup (pointwise bytes_eq ss) removed
    ≡ cond (pointwise bytes_eq ds ss) None (lookup (pointwise bytes_eq ss) old)) (is : more ≡ kepts ++ f ∷ [])
    (put : lookup (pointwise bytes_eq ss) new
    ≡ cond (pointwise bytes_eq ds ss) (Some more) (lookup (pointwise bytes_eq ss) removed)) where
  put_by : (b : Bool) → pointwise bytes_eq ds ss ≡ b → kept_for new ss ≡ kept_for old ss ++ cond b (f ∷ []) []
  put_by true q =
      ap kept put ∙ ap (λ b. kept (cond b (Some more) (lookup (pointwise bytes_eq ss) removed))) q ∙ is
      ∙ ap (λ xs. xs ++ f ∷ []) (was ∙ ap (kept_for old) ((sorts_Decides ds ss).0 q))
  put_by false q =
      ap kept put ∙ ap (λ b. kept (cond b (Some more) (lookup (pointwise bytes_eq ss) removed))) q ∙ ap kept gone
      ∙ ap (λ b. kept (cond b None (lookup (pointwise bytes_eq ss) old))) q ∙ sym (append-nil (kept_for old ss))

  -- an operator is put behind those of one domain
  pub put_behind : kept_for new ss ≡ kept_for old ss ++ cond (pointwise bytes_eq ds ss) (f ∷ []) []
  put_behind = put_by (pointwise bytes_eq ds ss) refl
