-- New constants become constants of a box that is new, and other operators become what they did.
use Rattle.std.proofs.Common.{◌≡◌, ◌≢◌, ℕ, inl, inr, List, ◌++◌, map, Option, Some, None, option_map, option_and_then}
use Rattle.std.proofs.Common.{unwrap_or, Contains, refl, sym, ◌∙◌, ap}
use Rattle.std.specs.List.{slice_get}
use Rattle.std.proofs.lemmas.List.Elements.{All-map}
use Rattle.std.proofs.lemmas.Option.{slice_get-map}
use Rattle.larch_term.proofs.BaseLists.{all_from, pairs_map}
use Rattle.larch_term.specs.BuiltIn.{built_in}
use Rattle.larch_term.specs.Operator.{PlainOperator, boxed}
use Rattle.larch_term.specs.Tree.{Tree, Forest, var, app, none, more}
use Rattle.larch_term.specs.Sorts.{IsOver, AllOver, IsKnown}
use Rattle.larch_term.specs.declared.variable.Variable.{Variable}
use Rattle.larch_term.specs.declared.statement.Theory.{Theory}
use Rattle.larch_renaming.specs.Renaming.{Renaming, rename_tree, renamed_all, renamed_variable, FitsSignatures, Carries}
use Rattle.larch_renaming.specs.Renaming.{AreAlikeOver}
use Rattle.larch_calculus.specs.Freed.{place_of, variable_for, free_constants, freed_all}
use Rattle.larch_calculus.specs.Renaming.{IsFaithful}
use Rattle.larch_calculus.specs.Theories.{IsNewName, AreNew}
use Rattle.larch_calculus.proofs.Freeing.{known_not_placed}
use Rattle.larch_calculus.proofs.Names.{same_alike, placed, place_alike, has_variable, next_box, box_is_new}
use Rattle.larch_calculus.proofs.Sorted.{known_cases}

-- an operator's place in a box, at the other sorts
abbrev in_box : Renaming → ℕ → ℕ → PlainOperator → PlainOperator
in_box r b k f = record { name = boxed b k; domain = map r.sort f.domain; range = r.sort f.range }

abbrev boxed_at : Renaming → ℕ → Option ℕ → PlainOperator → PlainOperator
boxed_at r b o f = unwrap_or (option_map (λ k. in_box r b k f) o) (r.operator f)

-- the renaming, with some constants as those of a box
abbrev pub with_box : Renaming → List PlainOperator → ℕ → Renaming
with_box r cs b = record { sort = r.sort; operator = λ f. boxed_at r b (place_of cs f.name) f }

-- what is needed of a renaming of a theory's extension by constants, above one of the theory's own operators
pub record Extends (r further : Renaming) (t u : Theory) (cs : List PlainOperator) : Type 0 where
  pub faithful : IsFaithful further
  pub alike : AreAlikeOver further r t.operators
  pub names : AreNew u (map further.operator cs)
  pub apart : (c f : PlainOperator) → Contains cs c → IsKnown (t.operators ++ cs) f
      → (further.operator c).name ≡ (further.operator f).name → c.name ≡ f.name
  pub together : (c f : PlainOperator) → Contains cs c → c.name ≡ f.name
      → (further.operator c).name ≡ (further.operator f).name

boxed_signature : (r : Renaming) → FitsSignatures r → (b : ℕ) (o : Option ℕ) (f : PlainOperator)
    → ((boxed_at r b o f).domain ≡ map r.sort f.domain) × ((boxed_at r b o f).range ≡ r.sort f.range)
boxed_signature r h b None f = (h.domain f, h.range f)
boxed_signature r h b (Some k) f = (refl, refl)

pub box_extends : (r : Renaming) (t u : Theory) (cs : List PlainOperator) → IsFaithful r
    → Carries r t.operators u.operators → AreNew t cs
    → Extends r (with_box r cs (next_box u.operators)) t u cs
box_extends r t u cs faithful known n =
    let b = next_box u.operators in
    let further : Renaming = with_box r cs b in
    let same : (f : PlainOperator) → IsKnown t.operators f → further.operator f ≡ r.operator f =
    λ f k. ap (λ o. boxed_at r b o f) (known_not_placed t cs n f k) in
    let named : (c : PlainOperator) (h : Contains cs c)
    → (further.operator c).name ≡ boxed b (placed cs c n.different h).0 =
    λ c h. ap (λ o. (boxed_at r b o c).name) (placed cs c n.different h).1 in
    let fresh : (c : PlainOperator) → Contains cs c → IsNewName u (further.operator c).name =
    λ c h f k e. box_is_new u.operators (placed cs c n.different h).0 f k (e ∙ named c h) in
    let one : (c d : PlainOperator) → Contains cs c → Contains cs d
    → (further.operator c).name ≡ (further.operator d).name → c ≡ d =
    λ c d hc hd e. same_place (slice_get cs) c d (placed cs c n.different hc).0 (placed cs d n.different hd).0
    (box_place b (placed cs c n.different hc).0 (placed cs d n.different hd).0 (sym (named c hc) ∙ e ∙ named d hd))
    (placed cs c n.different hc).2 (placed cs d n.different hd).2 in
    record {
      faithful = record {
        signatures = record {
          domain = λ f. (boxed_signature r faithful.signatures b (place_of cs f.name) f).0;
          range = λ f. (boxed_signature r faithful.signatures b (place_of cs f.name) f).1;
        };
        built_in = record {
          truth_values = faithful.built_in.truth_values;
          operators = λ a s. same (built_in a s) (inr (a, (s, refl))) ∙ faithful.built_in.operators a s;
        };
        apart = faithful.apart;
      };
      alike = record { sorts = λ s. refl; operators = same };
      names = record {
        names =
            All-map (λ f. IsNewName u f.name) further.operator cs
            (all_from (λ c. IsNewName u (further.operator c).name) cs fresh);
        different = pairs_map (λ f g. f.name ≢ g.name) (λ f g. f.name ≢ g.name) further.operator cs
            (λ c d hc hd apart e. apart (ap (λ g. g.name) (one c d hc hd e))) n.different;
      };
      apart = λ c f hc k e. elim (known_cases t.operators cs f k) [
        | inl a ↦ absurd (fresh c hc (r.operator f) (known f a) (sym (ap (λ g. g.name) (same f a)) ∙ sym e))
        | inr hf ↦ ap (λ g. g.name) (one c f hc hf e)
      ];
      together = λ c f hc e.
          let place : place_of cs f.name ≡ Some (placed cs c n.different hc).0 =
          ap (place_of cs) (sym e) ∙ (placed cs c n.different hc).1 in
          named c hc ∙ sym (ap (λ o. (boxed_at r b o f).name) place);
    }
  where
    box_place : (b j k : ℕ) → boxed b j ≡ boxed b k → j ≡ k
    box_place b j k e = cc

    same_place : (get : ℕ → Option PlainOperator) (c d : PlainOperator) (j k : ℕ) → j ≡ k → get j ≡ Some c
        → get k ≡ Some d → c ≡ d
    same_place get c d j k e p q = cc

-- the places of names among the constants are as before
place_kept : (r further : Renaming) (t u : Theory) (cs : List PlainOperator) → Extends r further t u cs
    → (f : PlainOperator)
    → IsKnown (t.operators ++ cs) f → place_of (map further.operator cs) (further.operator f).name ≡ place_of cs f.name
place_kept r further t u cs x f k =
    place_alike further.operator cs f.name (further.operator f).name
    (λ c h. same_alike c.name f.name (further.operator c).name (further.operator f).name (x.together c f h)
    (x.apart c f h k))

-- the variable for a constant, at the other sort
variable_kept : (r : Renaming) (vs : List Variable) (o : Option ℕ)
    → option_and_then (slice_get (map (renamed_variable r) vs)) o
    ≡ option_map (renamed_variable r) (option_and_then (slice_get vs) o)
variable_kept r vs None = refl
variable_kept r vs (Some k) = slice_get-map (renamed_variable r) vs k

-- variables in the places of the constants, and other names for what is left
mutual
  pub freed_renamed : (r further : Renaming) (t u : Theory) (cs : List PlainOperator) (vs : List Variable)
      → Extends r further t u cs
      → AreNew t cs → map (λ c. c.range) cs ≡ map (λ v. v.sort) vs → (a : Tree) → IsOver (t.operators ++ cs) a
      → rename_tree r (free_constants cs vs a)
      ≡ free_constants (map further.operator cs) (map (renamed_variable r) vs) (rename_tree further a)
  freed_renamed r further t u cs vs x n e (var m s) o = ap (var m) (sym (x.alike.sorts s))
  freed_renamed r further t u cs vs x n e (app f ts) o =
      let rest = freed_all_renamed r further t u cs vs x n e ts o.1 in
      let variable : variable_for (map further.operator cs) (map (renamed_variable r) vs) (further.operator f).name
      ≡ option_map (renamed_variable r) (variable_for cs vs f.name) =
      ap (option_and_then (slice_get (map (renamed_variable r) vs))) (place_kept r further t u cs x f o.0)
      ∙ variable_kept r vs (place_of cs f.name) in
      elim (known_cases t.operators cs f o.0) [
        | inl k ↦
            left r (further.operator f) f (freed_all cs vs ts)
            (freed_all (map further.operator cs) (map (renamed_variable r) vs) (renamed_all further ts))
            (variable_for cs vs f.name)
            (variable_for (map further.operator cs) (map (renamed_variable r) vs) (further.operator f).name)
            (ap (option_and_then (slice_get vs)) (known_not_placed t cs n f k)) variable
            (sym (x.alike.operators f k)) rest
        | inr h ↦
            let v = has_variable cs vs f n.different e h in
            gone r (further.operator f) f (freed_all cs vs ts)
            (freed_all (map further.operator cs) (map (renamed_variable r) vs) (renamed_all further ts))
            (variable_for cs vs f.name)
            (variable_for (map further.operator cs) (map (renamed_variable r) vs) (further.operator f).name) v.0
            v.1 variable
      ]
    where
      left : (r : Renaming) (g f : PlainOperator) (ts us : Forest) (o p : Option Variable) → o ≡ None
          → p ≡ option_map (renamed_variable r) o
          → r.operator f ≡ g → renamed_all r ts ≡ us
          → rename_tree r (unwrap_or (option_map (λ v. var v.name v.sort) o) (app f ts))
          ≡ unwrap_or (option_map (λ v. var v.name v.sort) p) (app g us)
      left r g f ts us o p a b e q =
          ap (λ z. rename_tree r (unwrap_or (option_map (λ v. var v.name v.sort) z) (app f ts))) a
          ∙ (λ i. app (e i) (q i))
          ∙ ap (λ z. unwrap_or (option_map (λ v. var v.name v.sort) z) (app g us))
          (sym (b ∙ ap (option_map (renamed_variable r)) a))

      gone : (r : Renaming) (g f : PlainOperator) (ts us : Forest) (o p : Option Variable) (v : Variable) → o ≡ Some v
          → p ≡ option_map (renamed_variable r) o
          → rename_tree r (unwrap_or (option_map (λ v. var v.name v.sort) o) (app f ts))
          ≡ unwrap_or (option_map (λ v. var v.name v.sort) p) (app g us)
      gone r g f ts us o p v a b =
          ap (λ z. rename_tree r (unwrap_or (option_map (λ v. var v.name v.sort) z) (app f ts))) a
          ∙ ap (λ z. unwrap_or (option_map (λ v. var v.name v.sort) z) (app g us))
          (sym (b ∙ ap (option_map (renamed_variable r)) a))

  pub freed_all_renamed : (r further : Renaming) (t u : Theory) (cs : List PlainOperator) (vs : List Variable)
      → Extends r further t u cs
      → AreNew t cs → map (λ c. c.range) cs ≡ map (λ v. v.sort) vs → (ls : Forest) → AllOver (t.operators ++ cs) ls
      → renamed_all r (freed_all cs vs ls)
      ≡ freed_all (map further.operator cs) (map (renamed_variable r) vs) (renamed_all further ls)
  freed_all_renamed r further t u cs vs x n e none o = refl
  freed_all_renamed r further t u cs vs x n e (more a ls) o =
      λ i. more (freed_renamed r further t u cs vs x n e a o.0 i) (freed_all_renamed r further t u cs vs x n e ls o.1 i)
