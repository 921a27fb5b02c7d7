-- What an insertion makes of entries as marked statements.
use Rattle.std.proofs.Common.{◌≡◌, ℕ, ◌+◌, if◌then◌else◌, Bool, true, false, cond, ◌&&◌, ◌||◌, not, Option, Some}
use Rattle.std.proofs.Common.{is_some, List, [], ◌∷◌, ◌++◌, refl, sym, ◌∙◌, ap, arith}
use Rattle.std.specs.List.{list_any}
use Rattle.std.specs.Map.{keys_of, lookup}
use Rattle.std.proofs.lemmas.List.{map-append}
use Rattle.std.proofs.lemmas.List.Sums.{sum_by-cons}
use Rattle.indexmap.specs.IndexMap.{insert_entry}
use Rattle.indexmap.specs.IndexSet.{insert_key}
use Rattle.larch_term.specs.Equality.{same_statement}
use Rattle.larch_term.specs.declared.statement.Statement.{Statement}
use Rattle.larch_flat_meaning.specs.Gathered.{Marked, nodes_in, stands_in, statement_nodes, statements_in, with_new}
use Rattle.larch_flat_meaning.specs.Gathered.{with_statement}
use Rattle.larch_flat_statements.specs.HashInput.{statement_equivalence}
use Rattle.larch_flat_statements.specs.Marks.{marked_in, marked_of, stated_in}
use Rattle.larch_flat_statements.specs.declared.key.StatementKey.{StatementKey}

-- two keys have one statement
abbrev pub same_key : StatementKey → StatementKey → Bool
same_key k l = same_statement k.statement l.statement

-- an entry of the statement of a key, with a mark
abbrev Entry : Type 0
Entry = StatementKey × Bool

mark_kept : (m b : Bool) → (b ≡ true → true ≡ false) → b ≡ (m && b)
mark_kept true b free = refl
mark_kept false true free = let q = free refl in cc
mark_kept false false free = refl

and_true : (m : Bool) → (m && true) ≡ m
and_true true = refl
and_true false = refl

module _ (k : StatementKey) (b : Bool) where
  put_head : (e : Entry) (es more : List Entry) (c : Bool) (o : Option Bool)
      → (b ≡ true → is_some (cond c (Some e.1) o) ≡ false)
      → ((b ≡ true → is_some o ≡ false) → marked_in more ≡ with_statement k.statement b (marked_in es))
      → marked_in (cond c ((e.0, b) ∷ es) (e ∷ more))
      ≡ cond c (record { statement = e.0.statement; assumed = e.1 && b } ∷ marked_in es)
      (marked_of e ∷ with_statement k.statement b (marked_in es))
  put_head e es more true o free later =
      ap (λ m. record { statement = e.0.statement; assumed = m } ∷ marked_in es) (mark_kept e.1 b free)
  put_head e es more false o free later = ap (λ ms. marked_of e ∷ ms) (later free)

  -- a statement that isn't there, or is asserted, is put among the others
  pub put_in : (es : List Entry) → (b ≡ true → is_some (lookup (same_key k) es) ≡ false)
      → marked_in (insert_entry same_key es k b) ≡ with_statement k.statement b (marked_in es)
  put_in [] free = refl
  put_in (e ∷ es) free =
      put_head e es (insert_entry same_key es k b) (same_key k e.0) (lookup (same_key k) es) free (put_in es)
      ∙ ap (λ c. cond c (record { statement = e.0.statement; assumed = e.1 && b } ∷ marked_in es)
      (marked_of e ∷ with_statement k.statement b (marked_in es)))
      (statement_equivalence.symm k.statement e.0.statement)

stay_head : (s : Statement) (e : Entry) (es : List Entry) (c : Bool) (o : Option Bool)
    → is_some (cond c (Some e.1) o) ≡ true
    → (is_some o ≡ true → with_statement s true (marked_in es) ≡ marked_in es)
    → cond c (record { statement = e.0.statement; assumed = e.1 && true } ∷ marked_in es)
    (marked_of e ∷ with_statement s true (marked_in es)) ≡ marked_in (e ∷ es)
stay_head s e es true o there later =
    ap (λ m. record { statement = e.0.statement; assumed = m } ∷ marked_in es) (and_true e.1)
stay_head s e es false o there later = ap (λ ms. marked_of e ∷ ms) (later there)

-- a statement that is there, and is only assumed now, changes nothing
pub stays : (k : StatementKey) (es : List Entry) → is_some (lookup (same_key k) es) ≡ true
    → with_statement k.statement true (marked_in es) ≡ marked_in es
stays k [] there = cc
stays k (e ∷ es) there =
    ap (λ c. cond c (record { statement = e.0.statement; assumed = e.1 && true } ∷ marked_in es)
    (marked_of e ∷ with_statement k.statement true (marked_in es)))
    (statement_equivalence.symm e.0.statement k.statement)
    ∙ stay_head k.statement e es (same_key k e.0) (lookup (same_key k) es) there (stays k es)

stands_head : (c m r : Bool) (o : Option Bool) → is_some o ≡ r → is_some (cond c (Some m) o) ≡ (c || r)
stands_head true m r o later = refl
stands_head false m r o later = later

-- a statement is found exactly where it stands among the others
pub found_stands : (s : Statement) (es : List Entry)
    → is_some (lookup (λ k. same_statement s k.statement) es) ≡ stands_in (statements_in (marked_in es)) s
found_stands s [] = refl
found_stands s (e ∷ es) =
    stands_head (same_statement s e.0.statement) e.1 (stands_in (statements_in (marked_in es)) s)
    (lookup (λ k. same_statement s k.statement) es) (found_stands s es)

counts_head : (s : Statement) (b : Bool) (m : Marked) (ms : List Marked) (c r : Bool)
    → nodes_in (with_statement s b ms) ≡ nodes_in ms + (if r then 0 else statement_nodes s)
    → nodes_in (cond c (record { statement = m.statement; assumed = m.assumed && b } ∷ ms) (m ∷ with_statement s b ms))
    ≡ nodes_in (m ∷ ms) + (if c || r then 0 else statement_nodes s)
counts_head s b m ms true r later = omega arith
counts_head s b m ms false r later =
    let p = sum_by-cons (λ x. statement_nodes x.statement) m (with_statement s b ms) in
    let q = sum_by-cons (λ x. statement_nodes x.statement) m ms in
    omega (arith, p, q, later)

-- the nodes of a statement come to the others' where it isn't there
pub counts : (s : Statement) (b : Bool) (ms : List Marked)
    → nodes_in (with_statement s b ms) ≡ nodes_in ms + (if stands_in (statements_in ms) s then 0 else statement_nodes s)
counts s b [] = omega arith
counts s b (m ∷ ms) =
    counts_head s b m ms (same_statement m.statement s) (stands_in (statements_in ms) s) (counts s b ms)
    ∙ ap (λ c. nodes_in (m ∷ ms) + (if c || stands_in (statements_in ms) s then 0 else statement_nodes s))
    (statement_equivalence.symm m.statement s)

turned : (p r : Bool) (n : ℕ) → p ≡ not r → (if p then 0 else n) ≡ (if r then n else 0)
turned p true n e = ap (λ b. if b then 0 else n) e
turned p false n e = ap (λ b. if b then 0 else n) e

-- the nodes after a statement was put among entries, by what stood there before
pub put_counts : (s : Statement) (b : Bool) (old new : List Entry) (before : Option Bool) (r : Bool)
    → marked_in new ≡ with_statement s b (marked_in old)
    → before ≡ lookup (same_key (record { statement = s })) old → is_some before ≡ not r
    → nodes_in (marked_in new) ≡ nodes_in (marked_in old) + (if r then statement_nodes s else 0)
put_counts s b old new before r e was told =
    ap nodes_in e ∙ counts s b (marked_in old)
    ∙ ap (λ p. nodes_in (marked_in old) + (if p then 0 else statement_nodes s)) (sym (found_stands s old))
    ∙ ap (λ n. nodes_in (marked_in old) + n)
    (turned (is_some (lookup (same_key (record { statement = s })) old)) r (statement_nodes s)
    (ap is_some (sym was) ∙ told))

-- the same without the table's own words: a statement that stands there, and is only assumed now, changes nothing
pub stays_told : (s : Statement) (b : Bool) (es : List Entry) → b ≡ true
    → stands_in (statements_in (marked_in es)) s ≡ true → marked_in es ≡ with_statement s b (marked_in es)
stays_told s b es e there =
    sym (ap (λ m. with_statement s m (marked_in es)) e
    ∙ stays (record { statement = s }) es (found_stands s es ∙ there))

-- a statement that is asserted, or doesn't stand there, is put among the others
pub put_told : (s : Statement) (b : Bool) (old new : List Entry)
    → (b ≡ true → stands_in (statements_in (marked_in old)) s ≡ false)
    → new ≡ insert_entry same_key old (record { statement = s }) b → marked_in new ≡ with_statement s b (marked_in old)
put_told s b old new free e =
    ap marked_in e ∙ put_in (record { statement = s }) b old (λ p. found_stands s old ∙ free p)

any_stated : (k : StatementKey) (ks : List StatementKey)
    → list_any (same_key k) ks ≡ stands_in (stated_in ks) k.statement
any_stated k [] = refl
any_stated k (l ∷ ks) = ap (λ r. same_key k l || r) (any_stated k ks)

stated_by : (ks : List StatementKey) (k : StatementKey) (b c : Bool) → b ≡ c
    → stated_in (cond b ks (ks ++ k ∷ [])) ≡ cond c (stated_in ks) (stated_in ks ++ k.statement ∷ [])
stated_by ks k true true e = refl
stated_by ks k false false e = map-append (λ l. l.statement) ks (k ∷ [])
stated_by ks k true false e = cc
stated_by ks k false true e = cc

-- a key that is put behind the others
pub stated_told : (s : Statement) (old new : List StatementKey)
    → new ≡ insert_key same_key old (record { statement = s }) → stated_in new ≡ with_new (stated_in old) s
stated_told s old new e =
    ap stated_in e
    ∙ stated_by old (record { statement = s }) (list_any (same_key (record { statement = s })) old)
    (stands_in (stated_in old) s) (any_stated (record { statement = s }) old)

-- the statements of all keys are those of the entries
pub keys_stated : (es : List Entry) → stated_in (keys_of es) ≡ statements_in (marked_in es)
keys_stated [] = refl
keys_stated (e ∷ es) = ap (λ ss. e.0.statement ∷ ss) (keys_stated es)
