-- Lines that say an equation by what observers show.
use Rattle.std.proofs.Common.{◌≡◌, ◌<◌, ◌+◌, ◌==◌, ◌&&◌, ℕ, zero, suc, Bool, true, false, not, cond, List, [], ◌∷◌, map}
use Rattle.std.proofs.Common.{length, Option, Some, None, bytes_eq, refl, sym, ◌∙◌, ap, subst, arith}
use Rattle.std.specs.List.{list_all, list_any}
use Rattle.std.specs.Option.{option_map_or, option_and_then}
use Rattle.std.proofs.lemmas.Bool.{cond-true}
use Rattle.std.proofs.lemmas.Slice.Eq.{bytes_eq-Decides}
use Rattle.larch_base.proofs.Bools.{and_both}
use Rattle.larch_term.specs.Equality.{same_statement}
use Rattle.larch_term.specs.Operator.{PlainOperator}
use Rattle.larch_term.specs.Place.{at, argument}
use Rattle.larch_term.specs.Sorts.{sort_of}
use Rattle.larch_term.specs.Tree.{Tree, var, app, more}
use Rattle.larch_term.specs.Variable.{occurrences, same_variable}
use Rattle.larch_term.specs.declared.statement.Statement.TheVariants.{Equation, Partitioned}
use Rattle.larch_term.specs.declared.variable.Variable.{Variable}
use Rattle.larch_derive_boxes.specs.RenamingRenaming.{renamed_variable}
use Rattle.larch_derive_boxes.proofs.RenamingRenamed.{renamed_occurrences}
use Rattle.larch_derive_boxes.specs.CalculusObservation.{Observation, arguments_with, variables_beside, observer_term}
use Rattle.larch_derive_boxes.specs.CalculusObservation.{other_variables, observations_of}
use Rattle.larch_derive_boxes.proofs.CalculusRenamedHypotheses.{renamed_observation, observed_renamed}
use Rattle.larch_derive_boxes.proofs.CalculusRenamedHypotheses.{observations_of_renamed}
use Rattle.larch_certificate.specs.declared.line.CodedEquation.{CodedEquation}
use Rattle.larch_certificate.specs.declared.line.Line.TheVariants.{Observe}
use Rattle.larch_derive_boxes.specs.VerifyMeaningClauseRules.{shows_same, show_same, observed_equal}
use Rattle.larch_derive_boxes.specs.VerifyMeaningContext.{find_line}
use Rattle.larch_derive_boxes.specs.VerifyMeaningEvents.{State}
use Rattle.larch_derive_boxes.specs.VerifyMeaningMatching.{all_different, are_apart, variable_name, argument_name}
use Rattle.larch_derive_boxes.specs.VerifyMeaningRun.{judge}
use Rattle.larch_derive_boxes.specs.DeriveBuilderBuilder.{Builder}
use Rattle.larch_derive_boxes.specs.DeriveOpen_boxOpenBox.{OpenBox}
use Rattle.larch_derive_boxes.specs.DeriveBuilder.{IsPushed, IsCodeIn}
use Rattle.larch_derive_boxes.specs.DeriveOpenBox.{in_lines, naming}
use Rattle.larch_derive_boxes.specs.DerivePredicates.{written_term, written_statement, StandIn, KnownIn, SaysIn, Known}
use Rattle.larch_derive_boxes.specs.DerivePredicates.{HasStatement, Extends}
use Rattle.larch_derive_boxes.proofs.DerivePushing.{pushed_says, pushed_extends}
use Rattle.larch_derive_boxes.proofs.DeriveUnchanged.{naming_faithful}
use Rattle.larch_derive_boxes.proofs.Freshness.{sort_written, known_at}
use Rattle.larch_derive_clauses.specs.Showing.{ShowsSame, ShowSame}
use Rattle.larch_derive_clauses.proofs.Written.{equation_means, equation_known, equation_fits, said_at}
use Rattle.larch_derive_clauses.proofs.Written.{statement_same}

-- ---- names of arguments

-- an argument beside the place has its name
argument_named : (names : ℕ → List ℕ) (place : ℕ) (t : Tree) (k i : ℕ) (ss : List (List ℕ)) → i < length ss
    → (k + i == place) ≡ false
    → variable_name (argument (arguments_with names place t k ss) (suc i)) ≡ names (k + i)
argument_named names place t k i [] lt e = absurd (omega (arith, lt))
argument_named names place t k zero (s ∷ ss) lt e =
    let same : k + 0 ≡ k = omega arith in
    ap (λ b. variable_name (Some (cond b t (var (names k) s)))) (ap (λ j. j == place) (sym same) ∙ e)
    ∙ ap names (sym same)
argument_named names place t k (suc i) (s ∷ ss) lt e =
    let same : suc k + i ≡ k + suc i = omega arith in
    argument_named names place t (suc k) i ss (omega (arith, lt)) (ap (λ j. j == place) same ∙ e) ∙ ap names same

-- two ways to name arguments agree beside the place
abbrev Agree : (ℕ → List ℕ) → (ℕ → List ℕ) → ℕ → ℕ → List (List ℕ) → Type 0
Agree m n place k ss = (i : ℕ) → i < length ss → (k + i == place) ≡ false → m (k + i) ≡ n (k + i)

agree_here : (m n : ℕ → List ℕ) (place k : ℕ) (s : List ℕ) (ss : List (List ℕ)) → Agree m n place k (s ∷ ss)
    → (k == place) ≡ false → m k ≡ n k
agree_here m n place k s ss h e =
    let same : k + 0 ≡ k = omega arith in
    subst (λ j. m j ≡ n j) same (h 0 (omega arith) (ap (λ j. j == place) same ∙ e))

agree_later : (m n : ℕ → List ℕ) (place k : ℕ) (s : List ℕ) (ss : List (List ℕ)) → Agree m n place k (s ∷ ss)
    → Agree m n place (suc k) ss
agree_later m n place k s ss h i lt e =
    let same : k + suc i ≡ suc k + i = omega arith in
    subst (λ j. m j ≡ n j) same (h (suc i) (omega (arith, lt)) (ap (λ j. j == place) same ∙ e))

-- where a test fails the others are alike
otherwise : {X : Type 0} (b : Bool) (x y z : X) → (b ≡ false → y ≡ z) → cond b x y ≡ cond b x z
otherwise true x y z h = refl
otherwise false x y z h = h refl

arguments_agree : (m n : ℕ → List ℕ) (place : ℕ) (t : Tree) (k : ℕ) (ss : List (List ℕ)) → Agree m n place k ss
    → arguments_with m place t k ss ≡ arguments_with n place t k ss
arguments_agree m n place t k [] h = refl
arguments_agree m n place t k (s ∷ ss) h =
    let here = otherwise (k == place) t (var (m k) s) (var (n k) s)
    (λ e. ap (λ x. var x s) (agree_here m n place k s ss h e)) in
    let rest = arguments_agree m n place t (suc k) ss (agree_later m n place k s ss h) in
    λ i. more (here i) (rest i)

others_agree : (m n : ℕ → List ℕ) (place k : ℕ) (ss : List (List ℕ)) → Agree m n place k ss
    → variables_beside m place k ss ≡ variables_beside n place k ss
others_agree m n place k [] h = refl
others_agree m n place k (s ∷ ss) h =
    let rest = others_agree m n place (suc k) ss (agree_later m n place k s ss h) in
    let first : (ℕ → List ℕ) → Variable = λ names. record { name = names k; sort = s } in
    (λ i. cond (k == place) (rest i) (first m ∷ rest i))
    ∙ otherwise (k == place) (variables_beside n place (suc k) ss) (first m ∷ variables_beside n place (suc k) ss)
    (first n ∷ variables_beside n place (suc k) ss)
    (λ e. ap (λ x. record { name = x; sort = s } ∷ variables_beside n place (suc k) ss)
    (agree_here m n place k s ss h e))

alone : (o : Option Tree) → variable_name (option_and_then (λ u. at u []) o) ≡ variable_name o
alone None = refl
alone (Some u) = refl

-- the names in a term are those that its arguments have
names_agree : (names : ℕ → List ℕ) (place : ℕ) (t : Tree) (f : PlainOperator) (ss : List (List ℕ))
    → Agree (argument_name (app f (arguments_with names place t 1 ss))) names place 1 ss
names_agree names place t f ss i lt e =
    let ts = arguments_with names place t 1 ss in
    let next : 1 + i ≡ suc i = omega arith in
    alone (argument ts (1 + i)) ∙ ap (λ j. variable_name (argument ts j)) next
    ∙ argument_named names place t 1 i ss lt e

-- ---- variables as lines write them

same_variables : (bs : List OpenBox) (vs : List Variable) → map (renamed_variable (naming bs)) vs ≡ vs
same_variables bs [] = refl
same_variables bs (v ∷ vs) = ap (λ ws. v ∷ ws) (same_variables bs vs)

same_occurrences : (bs : List OpenBox) (t : Tree) → occurrences (written_term bs t) ≡ occurrences t
same_occurrences bs t = renamed_occurrences (naming bs) t ∙ same_variables bs (occurrences t)

still_apart : (bs : List OpenBox) (vs : List Variable) (l r : Tree) → are_apart vs l r ≡ true
    → are_apart vs (written_term bs l) (written_term bs r) ≡ true
still_apart bs vs l r e =
    let left = same_occurrences bs l in
    let right = same_occurrences bs r in
    (λ i. all_different vs
    && list_all (λ v. not (list_any (same_variable v) (left i)) && not (list_any (same_variable v) (right i))) vs) ∙ e

-- ---- observers

-- the line of one observation passes the test
one_shown : (a : Builder) (st : State) (l r : Tree) (w : Observation) (n : ℕ) → StandIn a.theory a.boxes a.lines st
    → ShowsSame a l r w n
    → option_map_or (shows_same (written_term a.boxes l) (written_term a.boxes r)
    (renamed_observation (naming a.boxes) w))
    (find_line st.history n) false ≡ true
one_shown a st l r w n h c =
    let bs = a.boxes in
    let x = written_term bs l in
    let y = written_term bs r in
    let u = renamed_observation (naming bs) w in
    let f = in_lines bs w.observer in
    let ss = w.observer.domain in
    let names = c.names in
    let given = observer_term names u x in
    let read = argument_name given in
    let agree = names_agree names w.place x f ss in
    let fits = (naming_faithful a.theory bs h.plain h.others).signatures in
    let said = said_at a st n (Equation (observer_term names w l) (observer_term names w r)) h c.says in
    let left = ap (app f) (arguments_agree read names w.place x 1 ss agree) in
    let right = ap (app f) (arguments_agree read names w.place y 1 ss agree) in
    let e = Equation given (observer_term names u y) in
    let g = Equation (observer_term read u x) (observer_term read u y) in
    ap (λ o. option_map_or (shows_same x y u) o false)
    (said.says ∙ (λ i. Some (Equation (observed_renamed (naming bs) fits names w l i)
    (observed_renamed (naming bs) fits names w r i))))
    ∙ and_both (same_statement e g) (are_apart (other_variables read u) x y)
    (statement_same e g (λ i. Equation (sym left i) (sym right i)))
    (ap (λ vs. are_apart vs x y) (others_agree read names w.place 1 ss agree)
    ∙ still_apart bs (other_variables names w) l r c.apart)

-- so do those of all observations
all_shown : (a : Builder) (st : State) (l r : Tree) → StandIn a.theory a.boxes a.lines st → (ws : List Observation)
    (ns : List ℕ) → ShowSame a l r ws ns
    → show_same st.history (written_term a.boxes l) (written_term a.boxes r)
    (map (renamed_observation (naming a.boxes)) ws) ns
    ≡ true
all_shown a st l r h [] [] c = refl
all_shown a st l r h [] (n ∷ ns) c = absurd c
all_shown a st l r h (w ∷ ws) [] c = absurd c
all_shown a st l r h (w ∷ ws) (n ∷ ns) c =
    let x = written_term a.boxes l in
    let y = written_term a.boxes r in
    let u = renamed_observation (naming a.boxes) w in
    let us = map (renamed_observation (naming a.boxes)) ws in
    and_both (option_map_or (shows_same x y u) (find_line st.history n) false) (show_same st.history x y us ns)
    (one_shown a st l r w n h c.0) (all_shown a st l r h ws ns c.1)

observe_judged : (a : Builder) (st : State) (m : ℕ) (l r : Tree) (e : CodedEquation) (os : List PlainOperator)
    (ns : List ℕ) → SaysIn a.theory a.boxes a.lines st m (Partitioned (sort_of l) os)
    → KnownIn a.theory a.boxes a.lines st l → KnownIn a.theory a.boxes a.lines st r → sort_of l ≡ sort_of r
    → IsCodeIn a l e.left → IsCodeIn a r e.right → ShowSame a l r (observations_of (sort_of l) os) ns
    → judge a.theory st.history (Observe m e ns) ≡ Some (written_statement a.boxes (Equation l r))
observe_judged a st m l r e os ns h kl kr s cl cr c =
    let bs = a.boxes in
    let x = written_term bs l in
    let y = written_term bs r in
    let z = sort_of l in
    let g = Equation x y in
    let gs = map (in_lines bs) os in
    let faithful = naming_faithful a.theory bs kl.stand.plain kl.stand.others in
    let shown = show_same st.history x y (observations_of z gs) ns in
    ap (option_and_then (λ q. option_and_then (observed_equal st.history ns q) (find_line st.history m)))
    (equation_means a st l r e kl kr s cl cr)
    ∙ ap (option_and_then (observed_equal st.history ns g)) h.says
    ∙ cond-true (bytes_eq (sort_of x) z && shown) (Some g) None
    (and_both (bytes_eq (sort_of x) z) shown ((bytes_eq-Decides (sort_of x) z).1 (sort_written bs l))
    (ap (λ ws. show_same st.history x y ws ns) (observations_of_renamed (naming bs) faithful z os)
    ∙ all_shown a st l r kl.stand (observations_of z os) ns c))

pub observe_says : (a b : Builder) (m n : ℕ) (l r : Tree) (e : CodedEquation) (ns : List ℕ) (os : List PlainOperator)
    → IsCodeIn a l e.left → IsCodeIn a r e.right → IsPushed a b (Observe m e ns) n
    → HasStatement a m (Partitioned (sort_of l) os) → ShowSame a l r (observations_of (sort_of l) os) ns → Known a l
    → Known a r → sort_of l ≡ sort_of r → HasStatement b n (Equation l r)
unfolding HasStatement
observe_says a b m n l r e ns os cl cr p (st, h) c kl kr s =
    let il = known_at a st l h.stand kl in
    let ir = known_at a st r h.stand kr in
    pushed_says a b (Observe m e ns) n st (Equation l r) p h.stand
    (observe_judged a st m l r e os ns h il ir s cl cr c) (equation_known a st l r il ir s)
    (p.numbers.0, (equation_fits a l r e cl cr il.words ir.words, p.numbers.1)) (il.words, ir.words)

pub observe_extends : (a b : Builder) (m n : ℕ) (l r : Tree) (e : CodedEquation) (ns : List ℕ)
    (os : List PlainOperator) → IsCodeIn a l e.left → IsCodeIn a r e.right → IsPushed a b (Observe m e ns) n
    → HasStatement a m (Partitioned (sort_of l) os) → ShowSame a l r (observations_of (sort_of l) os) ns → Known a l
    → Known a r → sort_of l ≡ sort_of r → Extends a b
unfolding HasStatement
observe_extends a b m n l r e ns os cl cr p (st, h) c kl kr s =
    let il = known_at a st l h.stand kl in
    let ir = known_at a st r h.stand kr in
    pushed_extends a b (Observe m e ns) n st (written_statement a.boxes (Equation l r)) p h.stand.runs
    (observe_judged a st m l r e os ns h il ir s cl cr c)
    (p.numbers.0, (equation_fits a l r e cl cr il.words ir.words, p.numbers.1))
