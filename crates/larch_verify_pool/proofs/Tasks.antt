-- What waits while a map of a pool's terms is made.
use Rattle.std.proofs.Common.{◌≡◌, ◌==◌, ℕ, ◌+◌, ◌*◌, ◌<◌, ◌≤◌, ◌⊎◌, inl, inr, Bool, true, false, cond, List, [], ◌∷◌}
use Rattle.std.proofs.Common.{◌++◌, length, map, take, All, Contains, IsSome, Option, Some, None, sum_by, refl, sym}
use Rattle.std.proofs.Common.{◌∙◌, ap, subst, arith, append_assoc}
use Rattle.std.specs.Option.{is_some}
use Rattle.std.specs.Prelude.{reverse}
use Rattle.std.proofs.lemmas.Bool.Decides.{Decides-eqb}
use Rattle.std.proofs.lemmas.List.{reverse-append}
use Rattle.std.proofs.lemmas.List.Elements.{All-nil, All-cons, All-contains, All-weaker}
use Rattle.std.proofs.lemmas.List.Sums.{sum_by-cons, sum_by_push}
use Rattle.larch_base.proofs.Members.{contains_here, contains_later, contains_cases, contains_none, contains_one}
use Rattle.larch_base.proofs.Members.{contains_left, contains_right, contains_either, contains_map, contained_in_map}
use Rattle.larch_term.specs.Tree.{Tree, var, app, forest_of, nodes, nodes_all}
use Rattle.larch_term.proofs.TreeLists.{list_of-forest_of}
use Rattle.larch_verify_pool.specs.Exchanging.{image_by, image_in}
use Rattle.larch_verify_pool.specs.Pooled.{tree_in, no_tree, node_tree, StandsBehind}
use Rattle.larch_verify_pool.specs.Tasks.{number_of, IsDue, arguments, AreArgumentsDue, IsApplication, IsReady}
use Rattle.larch_verify_pool.specs.Tasks.{AreTasks, effort}
use Rattle.larch_term.specs.Operator.{PlainOperator}
use Rattle.larch_verify_pool.specs.declared.exchanging.Rule.{Rule}
use Rattle.larch_verify_pool.specs.declared.exchanging.Task.{Task}
use Rattle.larch_verify_pool.specs.declared.exchanging.Task.TheVariants.{Visit, Rebuild}
use Rattle.larch_verify_pool.specs.declared.node.PoolNode.TheVariants.{App}
use Rattle.larch_verify_pool.proofs.Front.{front_at, front_within}

-- ---- what is due

due_later : (done : ℕ → Option ℕ) (ns : List ℕ) (k q : ℕ) → IsDue done ns q → IsDue done (k ∷ ns) q
due_later done ns k q (inl s) = inl s
due_later done ns k q (inr h) = inr (contains_later k q ns h)

due_cases : (done : ℕ → Option ℕ) (ns : List ℕ) (k q : ℕ) → IsDue done (k ∷ ns) q → (k ≡ q) ⊎ IsDue done ns q
due_cases done ns k q (inl s) = inr (inl s)
due_cases done ns k q (inr h) = elim (contains_cases k q ns h) [ inl e ↦ inl e | inr d ↦ inr (inr d) ]

-- more is due with one number more
due_under : (done new : ℕ → Option ℕ) (ns ms : List ℕ) (k : ℕ) → ((q : ℕ) → IsDue done ns q → IsDue new ms q) → (q : ℕ)
    → IsDue done (k ∷ ns) q → IsDue new (k ∷ ms) q
due_under done new ns ms k f q h =
    elim (due_cases done ns k q h) [
      | inl e ↦ subst (IsDue new (k ∷ ms)) e (inr (contains_here k ms))
      | inr d ↦ due_later new ms k q (f q d)
    ]

-- what is due of no numbers is done
pub due_done : (done : ℕ → Option ℕ) (q : ℕ) → IsDue done [] q → IsSome (done q)
due_done done q (inl s) = s
due_done done q (inr h) = absurd (contains_none q h)

-- ---- tasks

ready_weaker : (us : List Tree) (rule : Rule) (done new : ℕ → Option ℕ) (ns ms : List ℕ) (w : Task)
    → ((q : ℕ) → IsDue done ns q → IsDue new ms q) → IsReady us rule done ns w → IsReady us rule new ms w
ready_weaker us rule done new ns ms (Visit q) f h = tt
ready_weaker us rule done new ns ms (Rebuild q) f h = (h.0, h.1, λ c lt a. f c (h.2 c lt a))

-- tasks can be carried out where more is due
pub tasks_weaker : (us : List Tree) (rule : Rule) (t : ℕ) (done new : ℕ → Option ℕ) (ns ms : List ℕ) (ws : List Task)
    → ((q : ℕ) → IsDue done ns q → IsDue new ms q) → AreTasks us rule t done ns ws → AreTasks us rule t new ms ws
tasks_weaker us rule t done new ns ms [] f h = f t h
tasks_weaker us rule t done new ns ms (w ∷ ws) f h = (
  h.0,
  ready_weaker us rule done new ns ms w f h.1,
  tasks_weaker us rule t done new (number_of w ∷ ns) (number_of w ∷ ms) ws
      (due_under done new ns ms (number_of w) f) h.2,
)

-- the first task
pub first_task : (us : List Tree) (rule : Rule) (t : ℕ) (done : ℕ → Option ℕ)
    → AreTasks us rule t done [] (Visit t ∷ [])
first_task us rule t done = (omega arith, tt, inr (contains_here t []))

-- the task's number is done
pub tasks_done : (us : List Tree) (rule : Rule) (t q : ℕ) (done : ℕ → Option ℕ) (ws : List Task) → IsSome (done q)
    → AreTasks us rule t done (q ∷ []) ws → AreTasks us rule t done [] ws
tasks_done us rule t q done ws s =
    tasks_weaker us rule t done done (q ∷ []) [] ws
    (λ c h. elim (due_cases done [] q c h) [ inl e ↦ inl (subst (λ k. IsSome (done k)) e s) | inr d ↦ d ])

-- a number more is done
due_put : (g h : ℕ → Option ℕ) (q r c : ℕ) → ((k : ℕ) → h k ≡ cond (q == k) (Some r) (g k)) → (b : Bool) → (q == c) ≡ b
    → IsDue g (q ∷ []) c → IsDue h [] c
due_put g h q r c new true e d = inl (ap is_some (new c ∙ ap (λ b. cond b (Some r) (g c)) e))
due_put g h q r c new false e (inl s) = inl (ap is_some (new c ∙ ap (λ b. cond b (Some r) (g c)) e) ∙ s)
due_put g h q r c new false e (inr d) =
    inl (ap is_some (new c ∙ ap (λ b. cond b (Some r) (g c)) ((Decides-eqb q c).1 (contains_one q c d))))

pub due_more : (g h : ℕ → Option ℕ) (q r : ℕ) → ((k : ℕ) → h k ≡ cond (q == k) (Some r) (g k)) → (c : ℕ)
    → IsDue g (q ∷ []) c → IsDue h [] c
due_more g h q r new c d = due_put g h q r c new (q == c) refl d

pub tasks_put : (us : List Tree) (rule : Rule) (t q r : ℕ) (g h : ℕ → Option ℕ) (ws : List Task)
    → ((k : ℕ) → h k ≡ cond (q == k) (Some r) (g k)) → AreTasks us rule t g (q ∷ []) ws → AreTasks us rule t h [] ws
tasks_put us rule t q r g h ws new = tasks_weaker us rule t g h (q ∷ []) [] ws (due_more g h q r new)

-- ---- a pool that has grown

ready_stays : (us vs : List Tree) (rule : Rule) (done : ℕ → Option ℕ) (ns : List ℕ) (w : Task)
    → take (length us) vs ≡ us → number_of w < length us → IsReady us rule done ns w → IsReady vs rule done ns w
ready_stays us vs rule done ns (Visit q) f lt h = tt
ready_stays us vs rule done ns (Rebuild q) f lt h =
    let e : tree_in vs q ≡ tree_in us q = front_at us vs q no_tree f lt in (
      ap (image_by rule q) e ∙ h.0,
      subst IsApplication (sym e) h.1,
      λ c l a.
          h.2 c l
          (subst (λ x. Contains (arguments x) (tree_in us c)) e
          (subst (Contains (arguments (tree_in vs q))) (front_at us vs c no_tree f (omega arith)) a)),
    )

tasks_stay : (us vs : List Tree) (rule : Rule) (t : ℕ) (done : ℕ → Option ℕ) (ns : List ℕ) (ws : List Task)
    → take (length us) vs ≡ us → t < length us → AreTasks us rule t done ns ws → AreTasks vs rule t done ns ws
tasks_stay us vs rule t done ns [] f lt h = h
tasks_stay us vs rule t done ns (w ∷ ws) f lt h =
    let le : number_of w ≤ t = h.0 in (
      le,
      ready_stays us vs rule done ns w f (omega arith) h.1,
      tasks_stay us vs rule t done (number_of w ∷ ns) ws f lt h.2,
    )

effort_same : (us vs : List Tree) (w : Task) → take (length us) vs ≡ us → number_of w < length us
    → effort vs w ≡ effort us w
effort_same us vs (Visit q) f lt = ap (λ x. 2 * nodes x) (front_at us vs q no_tree f lt)
effort_same us vs (Rebuild q) f lt = refl

effort_stays : (us vs : List Tree) (rule : Rule) (t : ℕ) (done : ℕ → Option ℕ) (ns : List ℕ) (ws : List Task)
    → take (length us) vs ≡ us → t < length us → AreTasks us rule t done ns ws
    → sum_by (effort vs) ws ≡ sum_by (effort us) ws
effort_stays us vs rule t done ns [] f lt h = refl
effort_stays us vs rule t done ns (w ∷ ws) f lt h =
    let le : number_of w ≤ t = h.0 in
    let a : effort vs w ≡ effort us w = effort_same us vs w f (omega arith) in
    let b : sum_by (effort vs) ws ≡ sum_by (effort us) ws =
    effort_stays us vs rule t done (number_of w ∷ ns) ws f lt h.2 in
    omega (arith, a, b, sum_by-cons (effort vs) w ws, sum_by-cons (effort us) w ws)

-- a task is carried out that lets the pool grow
pub tasks_rebuilt : (us vs : List Tree) (rule : Rule) (t q : ℕ) (done new : ℕ → Option ℕ) (w : Task) (ws : List Task)
    → take (length us) vs ≡ us → t < length us → w ≡ Rebuild q
    → ((c : ℕ) → IsDue done (q ∷ []) c → IsDue new [] c)
    → AreTasks us rule t done [] (w ∷ ws) → AreTasks vs rule t new [] ws
tasks_rebuilt us vs rule t q done new w ws f lt e d h =
    tasks_stay us vs rule t new [] ws f lt
    (tasks_weaker us rule t done new (q ∷ []) [] ws d
    (subst (λ x. AreTasks us rule t done [] (x ∷ ws)) e h).2)

pub effort_rebuilt : (us vs : List Tree) (rule : Rule) (t q : ℕ) (done : ℕ → Option ℕ) (w : Task) (ws : List Task)
    → take (length us) vs ≡ us → t < length us → w ≡ Rebuild q → AreTasks us rule t done [] (w ∷ ws)
    → sum_by (effort vs) ws < sum_by (effort us) (w ∷ ws)
effort_rebuilt us vs rule t q done w ws f lt e h =
    let a : sum_by (effort vs) ws ≡ sum_by (effort us) ws =
    effort_stays us vs rule t done (number_of w ∷ []) ws f lt h.2 in
    let b : effort us w ≡ 1 = ap (effort us) e in
    omega (arith, a, b, sum_by-cons (effort us) w ws)

-- a task is carried out that lets the pool as it is
pub tasks_visited : (us : List Tree) (rule : Rule) (t q : ℕ) (done new : ℕ → Option ℕ) (w : Task) (ws vs : List Task)
    → w ≡ Visit q
    → (q ≤ t → AreTasks us rule t done (q ∷ []) ws → AreTasks us rule t new [] vs)
    → AreTasks us rule t done [] (w ∷ ws) → AreTasks us rule t new [] vs
tasks_visited us rule t q done new w ws vs e f h =
    let k = subst (λ x. AreTasks us rule t done [] (x ∷ ws)) e h in f k.0 k.2

pub effort_taken : (us : List Tree) (q m : ℕ) (w : Task) (ws : List Task) → w ≡ Visit q
    → m < 2 * nodes (tree_in us q) + sum_by (effort us) ws → m < sum_by (effort us) (w ∷ ws)
effort_taken us q m w ws e h =
    let b : effort us w ≡ 2 * nodes (tree_in us q) = ap (effort us) e in
    omega (arith, b, h, sum_by-cons (effort us) w ws)

-- ---- the stack

-- the newest task is next
pub next_is : (ws vs : List Task) (w : Task) → ws ≡ vs ++ w ∷ [] → reverse ws ≡ w ∷ reverse vs
next_is ws vs w e = ap reverse e ∙ reverse-append vs (w ∷ [])

-- so it can be carried out
pub next_tasks : (us : List Tree) (rule : Rule) (t : ℕ) (done : ℕ → Option ℕ) (ws vs : List Task) (w : Task)
    → ws ≡ vs ++ w ∷ [] → AreTasks us rule t done [] (reverse ws) → AreTasks us rule t done [] (w ∷ reverse vs)
next_tasks us rule t done ws vs w e = subst (AreTasks us rule t done []) (next_is ws vs w e)

-- it is about a node
pub next_within : (us vs : List Tree) (rule : Rule) (t : ℕ) (done : ℕ → Option ℕ) (w : Task) (ws : List Task)
    → take (length us) vs ≡ us → t < length us → AreTasks vs rule t done [] (w ∷ ws) → number_of w < length us
next_within us vs rule t done w ws f lt h = let le : number_of w ≤ t = h.0 in omega (arith, lt)

pub term_within : (us vs : List Tree) (t : ℕ) → take (length us) vs ≡ us → t < length us → t < length vs
term_within us vs t f lt = let le : length us ≤ length vs = front_within us vs f in omega (arith, lt)

-- a number that isn't done is put on the stack
pub missing_pushed : (us : List Tree) (rule : Rule) (t k : ℕ) (done : ℕ → Option ℕ) (ks js ns : List ℕ)
    (old now new : List Task)
    → js ≡ ks ++ k ∷ [] → k ≤ t → new ≡ now ++ Visit k ∷ []
    → ((ms : List ℕ) → AreTasks us rule t done (ks ++ ms) old → AreTasks us rule t done ms (reverse now))
    → AreTasks us rule t done (js ++ ns) old → AreTasks us rule t done ns (reverse new)
missing_pushed us rule t k done ks js ns old now new j le p h a =
    subst (AreTasks us rule t done ns) (sym (next_is new now (Visit k) p)) (
      le,
      tt,
      h (k ∷ ns)
          (subst (λ ms. AreTasks us rule t done ms old) (ap (λ is. is ++ ns) j ∙ append_assoc ks (k ∷ []) ns) a),
    )

-- a number that is done isn't
pub missing_passed : (us : List Tree) (rule : Rule) (t k : ℕ) (done : ℕ → Option ℕ) (ks js ns : List ℕ)
    (old : List Task) → js ≡ ks ++ k ∷ [] → IsSome (done k)
    → AreTasks us rule t done (js ++ ns) old → AreTasks us rule t done (ks ++ ns) old
missing_passed us rule t k done ks js ns old j s a =
    tasks_weaker us rule t done done ((ks ++ k ∷ []) ++ ns) (ks ++ ns) old passed
    (subst (λ is. AreTasks us rule t done (is ++ ns) old) j a)
  where
    within : (q : ℕ) → Contains ((ks ++ k ∷ []) ++ ns) q → IsDue done (ks ++ ns) q
    within q c =
        elim (contains_either (ks ++ k ∷ []) ns q c) [
          | inl d ↦ elim (contains_either ks (k ∷ []) q d) [
            | inl b ↦ inr (contains_left ks ns q b)
            | inr b ↦ inl (subst (λ i. IsSome (done i)) (contains_one k q b) s)
          ]
          | inr d ↦ inr (contains_right ks ns q d)
        ]

    passed : (q : ℕ) → IsDue done ((ks ++ k ∷ []) ++ ns) q → IsDue done (ks ++ ns) q
    passed q (inl d) = inl d
    passed q (inr c) = within q c

pub effort_pushed : (us : List Tree) (k n : ℕ) (ks js : List ℕ) (now new : List Task) → js ≡ ks ++ k ∷ []
    → new ≡ now ++ Visit k ∷ []
    → sum_by (effort us) (reverse now) ≤ sum_by (λ q. 2 * nodes (tree_in us q)) ks + n
    → sum_by (effort us) (reverse new) ≤ sum_by (λ q. 2 * nodes (tree_in us q)) js + n
effort_pushed us k n ks js now new j p h =
    let f : ℕ → ℕ = λ q. 2 * nodes (tree_in us q) in
    let a : sum_by f js ≡ sum_by f ks + f k = ap (sum_by f) j ∙ sum_by_push f ks k in
    let b : sum_by (effort us) (reverse new) ≡ f k + sum_by (effort us) (reverse now) =
    ap (sum_by (effort us)) (next_is new now (Visit k) p) ∙ sum_by-cons (effort us) (Visit k) (reverse now) in
    omega (arith, a, b, h)

pub effort_passed : (us : List Tree) (k m n : ℕ) (ks js : List ℕ) → js ≡ ks ++ k ∷ []
    → m ≤ sum_by (λ q. 2 * nodes (tree_in us q)) ks + n → m ≤ sum_by (λ q. 2 * nodes (tree_in us q)) js + n
effort_passed us k m n ks js j h =
    let f : ℕ → ℕ = λ q. 2 * nodes (tree_in us q) in
    let a : sum_by f js ≡ sum_by f ks + f k = ap (sum_by f) j ∙ sum_by_push f ks k in
    omega (arith, a, h)

-- ---- an application

abbrev Apart : List Tree → Type 0
Apart us = (i j : ℕ) → i < length us → j < length us → tree_in us i ≡ tree_in us j → i ≡ j

pub is_application : (fs : List PlainOperator) (us : List Tree) (q f : ℕ) (cs : List ℕ)
    → node_tree fs us (App f cs) ≡ tree_in us q → IsApplication (tree_in us q)
is_application fs us q f cs e = subst IsApplication e tt

arguments_are : (fs : List PlainOperator) (us : List Tree) (q f : ℕ) (cs : List ℕ)
    → node_tree fs us (App f cs) ≡ tree_in us q → arguments (tree_in us q) ≡ map (tree_in us) cs
arguments_are fs us q f cs e = ap arguments (sym e) ∙ list_of-forest_of (map (tree_in us) cs)

-- its arguments are due where their numbers are
pub arguments_due : (fs : List PlainOperator) (us : List Tree) (done : ℕ → Option ℕ) (q f : ℕ) (cs ns : List ℕ)
    → Apart us → q < length us → node_tree fs us (App f cs) ≡ tree_in us q → StandsBehind (length fs) q (App f cs)
    → AreArgumentsDue us done (cs ++ ns) q
arguments_due fs us done q f cs ns apart lt e s = λ c l a.
    let r = contained_in_map (tree_in us) cs (tree_in us c)
    (subst (λ xs. Contains xs (tree_in us c)) (arguments_are fs us q f cs e) a) in
    let k : r.0 < q = All-contains (λ i. i < q) cs r.0 s.1 r.1 in
    inr (contains_left cs ns c (subst (Contains cs) (apart r.0 c (omega arith) (omega arith) r.2) r.1))

all_members : (P : ℕ → Type 0) (cs : List ℕ) → ((c : ℕ) → Contains cs c → P c) → All P cs
all_members P [] h = All-nil P
all_members P (c ∷ cs) h =
    All-cons P c cs (h c (contains_here c cs)) (all_members P cs (λ k m. h k (contains_later c k cs m)))

-- the numbers of its arguments are done where they are due of no numbers
pub arguments_done : (fs : List PlainOperator) (us : List Tree) (done : ℕ → Option ℕ) (q f : ℕ) (cs : List ℕ)
    → node_tree fs us (App f cs) ≡ tree_in us q → StandsBehind (length fs) q (App f cs)
    → AreArgumentsDue us done [] q → All (λ c. IsSome (done c)) cs
arguments_done fs us done q f cs e s h =
    all_members (λ c. IsSome (done c)) cs (λ c m.
    due_done done c (h c (All-contains (λ i. i < q) cs c s.1 m)
    (subst (λ xs. Contains xs (tree_in us c)) (sym (arguments_are fs us q f cs e)) (contains_map (tree_in us) cs c m))))

-- an application waits to be rebuilt, and for its arguments
pub application_waits : (fs : List PlainOperator) (us : List Tree) (rule : Rule) (t q f : ℕ) (done : ℕ → Option ℕ)
    (cs : List ℕ) (now new : List Task) → Apart us → q < length us → node_tree fs us (App f cs) ≡ tree_in us q
    → StandsBehind (length fs) q (App f cs) → image_in us rule q ≡ None → new ≡ now ++ Rebuild q ∷ [] → q ≤ t
    → AreTasks us rule t done (q ∷ []) (reverse now) → AreTasks us rule t done (cs ++ []) (reverse new)
application_waits fs us rule t q f done cs now new apart lt e s miss p le h =
    subst (AreTasks us rule t done (cs ++ [])) (sym (next_is new now (Rebuild q) p)) (
      le,
      (miss, is_application fs us q f cs e, arguments_due fs us done q f cs [] apart lt e s),
      tasks_weaker us rule t done done (q ∷ []) (q ∷ cs ++ []) (reverse now) more h,
    )
  where
    more : (c : ℕ) → IsDue done (q ∷ []) c → IsDue done (q ∷ cs ++ []) c
    more c d =
        elim (due_cases done [] q c d) [
          | inl i ↦ subst (IsDue done (q ∷ cs ++ [])) i (inr (contains_here q (cs ++ [])))
          | inr k ↦ inl (due_done done c k)
        ]

pub arguments_within : (fs : List PlainOperator) (q f t : ℕ) (cs : List ℕ) → StandsBehind (length fs) q (App f cs)
    → q ≤ t → All (λ c. c ≤ t) cs
arguments_within fs q f t cs s le = All-weaker (λ c. c < q) (λ c. c ≤ t) (λ c l. omega arith) cs s.1

sum_of_nodes : (us : List Tree) (cs : List ℕ)
    → sum_by (λ q. 2 * nodes (tree_in us q)) cs ≡ 2 * nodes_all (forest_of (map (tree_in us) cs))
sum_of_nodes us [] = refl
sum_of_nodes us (c ∷ cs) =
    let h : sum_by (λ q. 2 * nodes (tree_in us q)) cs ≡ 2 * nodes_all (forest_of (map (tree_in us) cs)) =
    sum_of_nodes us cs in
    omega (arith, h, sum_by-cons (λ q. 2 * nodes (tree_in us q)) c cs)

-- all that an application waits for is less than itself
pub effort_falls : (fs : List PlainOperator) (us : List Tree) (q f m : ℕ) (cs : List ℕ) (now new : List Task)
    → node_tree fs us (App f cs) ≡ tree_in us q → new ≡ now ++ Rebuild q ∷ []
    → m ≤ sum_by (λ c. 2 * nodes (tree_in us c)) cs + sum_by (effort us) (reverse new)
    → m < 2 * nodes (tree_in us q) + sum_by (effort us) (reverse now)
effort_falls fs us q f m cs now new e p h =
    let a : sum_by (effort us) (reverse new) ≡ 1 + sum_by (effort us) (reverse now) =
    ap (sum_by (effort us)) (next_is new now (Rebuild q) p) ∙ sum_by-cons (effort us) (Rebuild q) (reverse now) in
    let b : nodes (tree_in us q) ≡ 1 + nodes_all (forest_of (map (tree_in us) cs)) = ap nodes (sym e) in
    omega (arith, a, b, h, sum_of_nodes us cs)

pub some_nodes : (t : Tree) → 0 < nodes t
some_nodes (var n s) = omega arith
some_nodes (app f ts) = omega arith

-- a task less, with nothing put on the stack
pub effort_visited : (us : List Tree) (q : ℕ) (ws : List Task)
    → sum_by (effort us) ws < 2 * nodes (tree_in us q) + sum_by (effort us) ws
effort_visited us q ws = omega (arith, some_nodes (tree_in us q))
