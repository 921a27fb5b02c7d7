-- What is left to visit gets less, and what waits is visited in order.
use Rattle.std.proofs.Common.{◌≡◌, refl, sym, ap, ◌∙◌, subst, arith, ℕ, zero, suc, ◌+◌, ◌<◌, ◌≤◌, Bool, true, false}
use Rattle.std.proofs.Common.{cond, length, List, [], ◌∷◌, ◌++◌, map, drop, get_or, Option, Some, None, Result}
use Rattle.std.specs.Prelude.{bytes_eq, is_some, reverse}
use Rattle.std.specs.List.{list_any}
use Rattle.std.proofs.lemmas.List.{append-nil, append_assoc, length-append, length-map, length-reverse, map-append}
use Rattle.std.proofs.lemmas.List.{reverse-append, reverse-reverse}
use Rattle.std.proofs.lemmas.Slice.Eq.{bytes_eq-Decides}
use Rattle.larch_base.proofs.Members.{contains_here, contains_left, contains_right}
use Rattle.larch_base.specs.declared.fault.Fault.{Fault}
use Rattle.larch_raw.specs.declared.equation.RawTrait.{RawTrait}
use Rattle.larch_flat_meaning.specs.Files.{Files}
use Rattle.larch_flat_meaning.specs.Reached.{Visits, all_targets_in, first}
use Rattle.larch_flat_meaning.proofs.Closures.{Names, any_has, found}
use Rattle.larch_flat_sources.specs.Reaching.{references_left}
use Rattle.larch_flat_sources.specs.Sources.{Table, files_in}

stays : (m n : List ℕ) (seen : Names) → list_any (bytes_eq m) seen ≡ true
    → list_any (bytes_eq m) (seen ++ n ∷ []) ≡ true
stays m n seen e = any_has m (seen ++ n ∷ []) (contains_left seen (n ∷ []) m (found m seen e))

comes : (n : List ℕ) (seen : Names) → list_any (bytes_eq n) (seen ++ n ∷ []) ≡ true
comes n seen = any_has n (seen ++ n ∷ []) (contains_right seen (n ∷ []) n (contains_here n []))

less_by : (a b : Bool) (k : ℕ) → (a ≡ true → b ≡ true) → cond b 0 k ≤ cond a 0 k
less_by true true k h = omega arith
less_by true false k h = let e : false ≡ true = h refl in absurd cc
less_by false true k h = omega arith
less_by false false k h = omega arith

left_less : (table : Table) (seen : Names) (n : List ℕ)
    → references_left table (seen ++ n ∷ []) ≤ references_left table seen
left_less [] seen n = omega arith
left_less (e ∷ table) seen n =
    let h = less_by (list_any (bytes_eq e.0) seen) (list_any (bytes_eq e.0) (seen ++ n ∷ []))
    (length (all_targets_in (Some e.1))) (stays e.0 n seen) in
    let k = left_less table seen n in omega (arith, h, k)

left_by : (n m : List ℕ) (text : Result RawTrait Fault) (table : Table) (seen : Names) (b : Bool) → bytes_eq n m ≡ b
    → list_any (bytes_eq n) seen ≡ false
    → references_left table (seen ++ n ∷ []) + length (all_targets_in (files_in table n)) ≤ references_left table seen
    → references_left ((m, text) ∷ table) (seen ++ n ∷ [])
    + length (all_targets_in (cond b (Some text) (files_in table n)))
    ≤ references_left ((m, text) ∷ table) seen
left_by n m text table seen true q e h =
    let same : n ≡ m = (bytes_eq-Decides n m).0 q in
    let size : ℕ = length (all_targets_in (Some text)) in
    let behind : cond (list_any (bytes_eq m) (seen ++ n ∷ [])) 0 size ≡ 0 =
    ap (λ c. cond c 0 size) (subst (λ k. list_any (bytes_eq k) (seen ++ n ∷ []) ≡ true) same (comes n seen)) in
    let before : cond (list_any (bytes_eq m) seen) 0 size ≡ size =
    ap (λ c. cond c 0 size) (subst (λ k. list_any (bytes_eq k) seen ≡ false) same e) in
    let k = left_less table seen n in
    omega (arith, behind, before, k)
left_by n m text table seen false q e h =
    let k = less_by (list_any (bytes_eq m) seen) (list_any (bytes_eq m) (seen ++ n ∷ []))
    (length (all_targets_in (Some text))) (stays m n seen) in
    omega (arith, h, k)

-- the references of a name that wasn't visited were left
pub left_falls : (table : Table) (seen : Names) (n : List ℕ) → list_any (bytes_eq n) seen ≡ false
    → references_left table (seen ++ n ∷ []) + length (all_targets_in (files_in table n)) ≤ references_left table seen
left_falls [] seen n e = omega arith
left_falls ((m, text) ∷ table) seen n e =
    left_by n m text table seen (bytes_eq n m) refl e (left_falls table seen n e)

-- what waits behind others, the last first, is visited before them
pub goes_first : (files : Files) (seen now all old new : Names) (n : List ℕ) → list_any (bytes_eq n) seen ≡ false
    → now ≡ seen ++ n ∷ [] → new ≡ old ++ reverse (all_targets_in (files n)) → Visits files now (reverse new) all
    → Visits files seen (n ∷ reverse old) all
goes_first files seen now all old new n e s w v =
    let ts : Names = all_targets_in (files n) in
    let r : reverse new ≡ ts ++ reverse old =
    ap reverse w ∙ reverse-append old (reverse ts) ∙ ap (λ xs. xs ++ reverse old) (reverse-reverse ts) in
    first e (subst (λ xs. Visits files xs (ts ++ reverse old) all) s (subst (λ xs. Visits files now xs all) r v))

-- and there are as many more as references
pub waits_more : {A : Type 0} (f : A → List ℕ) (old new : List A) (ts : Names) → map f new ≡ map f old ++ reverse ts
    → length new ≡ length old + length ts
waits_more f old new ts e =
    sym (length-map new f) ∙ ap length e ∙ length-append (map f old) (reverse ts)
    ∙ ap (λ n. n + length (reverse ts)) (length-map old f) ∙ ap (λ n. length old + n) (length-reverse ts)

-- what waits behind others, where the last part is put there first
pub both_wait : (xs ys old mid new : Names) → mid ≡ old ++ reverse ys → new ≡ mid ++ reverse xs
    → new ≡ old ++ reverse (xs ++ ys)
both_wait xs ys old mid new e f =
    f ∙ ap (λ zs. zs ++ reverse xs) e ∙ append_assoc old (reverse ys) (reverse xs)
    ∙ ap (λ zs. old ++ zs) (sym (reverse-append xs ys))

-- nothing waits for a name without a file
pub none_waits : (names : Names) (o : Option (Result RawTrait Fault)) → is_some o ≡ false
    → names ≡ names ++ reverse (all_targets_in o)
none_waits names None e = sym (append-nil names)
none_waits names (Some text) e = cc

-- so less is left
pub visit_falls : {A : Type 0} (f : A → List ℕ) (table : Table) (seen now : Names) (n : List ℕ) (old new : List A)
    → list_any (bytes_eq n) seen ≡ false → now ≡ seen ++ n ∷ []
    → map f new ≡ map f old ++ reverse (all_targets_in (files_in table n))
    → references_left table now + length new ≤ references_left table seen + length old
visit_falls f table seen now n old new e s w =
    let l = waits_more f old new (all_targets_in (files_in table n)) w in
    let k = left_falls table seen n e in
    let r : references_left table now ≡ references_left table (seen ++ n ∷ []) = ap (references_left table) s in
    omega (arith, l, k, r)

-- one more thing from the end, under a map
pub one_more_back : {A B : Type 0} (f : A → B) (xs : List A) (i : ℕ) (d : A) → i < length xs
    → reverse (map f (drop i xs)) ≡ reverse (map f (drop (suc i) xs)) ++ f (get_or xs i d) ∷ []
one_more_back f [] i d lt = absurd (omega (arith, lt))
one_more_back f (x ∷ xs) zero d lt = reverse-append (f x ∷ []) (map f xs)
one_more_back f (x ∷ xs) (suc i) d lt = one_more_back f xs i d (omega (arith, lt))

-- what waits, where its last thing is taken out
pub popped : {A : Type 0} (f : A → List ℕ) (items rest : List A) (x : A) → items ≡ rest ++ x ∷ []
    → reverse (map f items) ≡ f x ∷ reverse (map f rest)
popped f items rest x e =
    ap (λ xs. reverse (map f xs)) e ∙ ap reverse (map-append f rest (x ∷ [])) ∙ reverse-append (map f rest) (f x ∷ [])

-- one more thing is put behind others
pub one_put : {A B : Type 0} (f : A → List ℕ) (g : B → List ℕ) (xs : List B) (i j : ℕ) (x : B) (begun old new : List A)
    (y : A) → i + 1 ≡ j → i < length xs → get_or xs i x ≡ x → new ≡ old ++ y ∷ [] → f y ≡ g x
    → map f old ≡ map f begun ++ reverse (map g (drop j xs)) → map f new ≡ map f begun ++ reverse (map g (drop i xs))
one_put f g xs i j x begun old new y n lt at w e h =
    let next : j ≡ suc i = omega (arith, n) in
    ap (map f) w ∙ map-append f old (y ∷ []) ∙ ap (λ zs. zs ++ f y ∷ []) h
    ∙ append_assoc (map f begun) (reverse (map g (drop j xs))) (f y ∷ [])
    ∙ ap (λ zs. map f begun ++ zs)
    (ap (λ k. reverse (map g (drop k xs)) ++ f y ∷ []) next
    ∙ ap (λ z. reverse (map g (drop (suc i) xs)) ++ z ∷ []) (e ∙ sym (ap g at))
    ∙ sym (one_more_back g xs i x lt))
