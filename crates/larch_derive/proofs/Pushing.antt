-- Lines that say something: what they say, and that they extend a builder.
use Rattle.std.proofs.Common.{◌≡◌, ◌==◌, ℕ, suc, false, cond, List, [], ◌∷◌, Option, Some, None, refl, sym, ◌∙◌, ap}
use Rattle.std.proofs.Common.{ap₂, subst, arith}
use Rattle.std.specs.Option.{option_map, option_map_or, option_and_then}
use Rattle.std.proofs.lemmas.Bool.{cond-true}
use Rattle.larch_term.proofs.BaseOptions.{some_inj}
use Rattle.larch_term.specs.Equality.{same_tree}
use Rattle.larch_term.proofs.Decided.{tree_Decides}
use Rattle.larch_term.specs.Place.{at, put}
use Rattle.larch_term.specs.Statement.{IsStatementOver}
use Rattle.larch_term.specs.Tree.{Tree}
use Rattle.larch_term.specs.declared.statement.Statement.{Statement}
use Rattle.larch_term.specs.declared.statement.Statement.TheVariants.{Equation}
use Rattle.larch_term.specs.declared.statement.Theory.{Theory}
use Rattle.larch_verify_meaning.proofs.TermLawPlaces.{put_sort, put_well_sorted, put_over}
use Rattle.larch_verify_meaning.proofs.TermLawSubstitutions.{substituted_nil}
use Rattle.larch_verify_meaning.specs.RenamingRenaming.{rename_tree}
use Rattle.larch_verify_meaning.proofs.RenamingRenamed.{at_renamed, renamed_put}
use Rattle.larch_certificate_text.specs.CertificateCoded.{CodedTree}
use Rattle.larch_certificate_text.specs.CertificateLineLine.{Line}
use Rattle.larch_certificate_text.specs.CertificateLineLine.TheVariants.{Refl, Sym, Inst, Repl}
use Rattle.larch_certificate_text.specs.LineText.{FitLine}
use Rattle.larch_verify_meaning.specs.Context.{find_line, find_symbol}
use Rattle.larch_verify_meaning.specs.Decoding.{decode}
use Rattle.larch_verify_meaning.specs.Events.{State, start}
use Rattle.larch_verify_meaning.specs.Rules.{exchange_sides, instance_by, replace_right, stands_at}
use Rattle.larch_verify_meaning.specs.Run.{judge, run}
use Rattle.larch_derive.specs.declared.builder.Builder.{Builder}
use Rattle.larch_derive.specs.declared.open_box.OpenBox.{OpenBox}
use Rattle.larch_derive.specs.Builder.{IsPushed, IsCodeIn}
use Rattle.larch_derive.specs.OpenBox.{naming}
use Rattle.larch_derive.specs.Predicates.{operators_at, written_term, written_statement, StandIn, KnownIn, SaysIn}
use Rattle.larch_derive.specs.Predicates.{Known, HasStatement, IsSaidBehind, LeadsOn, AreAlike, Extends}
use Rattle.larch_derive.proofs.Growth.{carried, run_further}
use Rattle.larch_derive.proofs.Runs.{after_saying, run_said, run_count, leads_said, still_open_said, down_run}
use Rattle.larch_derive.proofs.Decoding.{written_means}
use Rattle.larch_derive.proofs.Unchanged.{own_written, over_in_boxes}
use Rattle.larch_derive.proofs.Words.{pushed_fits, term_fits, place_fits, put_worded}
use Rattle.larch_derive.specs.Words.{IsWordedStatement}

-- a line that says something keeps the theory and the open boxes
pushed_alike : (a b : Builder) (line : Line) (n : ℕ) (st : State) (s : Statement) → IsPushed a b line n
    → judge a.theory st.history line ≡ Some s → AreAlike a b
pushed_alike a b line n st s p j =
    record { theory = p.theory; boxes = p.boxes ∙ still_open_said a.theory st.history line s j a.boxes }

pub pushed_extends : (a b : Builder) (line : Line) (n : ℕ) (st : State) (s : Statement) → IsPushed a b line n
    → run a.theory start a.lines ≡ Some st → judge a.theory st.history line ≡ Some s → FitLine line → Extends a b
unfolding Extends
pushed_extends a b line n st s p r j f = (
  pushed_alike a b line n st s p j,
  record {
    more = line ∷ [];
    lines = p.lines;
    leads = λ u q.
        subst (λ w. LeadsOn IsSaidBehind a.theory w (line ∷ [])) (some_inj (sym r ∙ q))
        (leads_said a.theory st line s j);
    fits = pushed_fits a b line n p f;
  },
)

found_at : (m n : ℕ) (s : Statement) (o : Option Statement) → m ≡ n → cond (m == n) (Some s) o ≡ Some s
found_at m n s o e = grind (arith, e)

pub pushed_says : (a b : Builder) (line : Line) (n : ℕ) (st : State) (s : Statement) → IsPushed a b line n
    → StandIn a.theory a.boxes a.lines st → judge a.theory st.history line ≡ Some (written_statement a.boxes s)
    → IsStatementOver (operators_at a.theory st) (written_statement a.boxes s) → FitLine line → IsWordedStatement s
    → HasStatement b n s
unfolding HasStatement
pushed_says a b line n st s p h j w f ws =
    let count = run_count a.theory a.lines start st h.runs in
    let number = p.number in
    let new : n ≡ suc st.count = omega (arith, count, number) in
    let after = after_saying st (written_statement a.boxes s) in
    carried (λ t bs ls. (u : State) × SaysIn t bs ls u n s) a b
    (pushed_alike a b line n st (written_statement a.boxes s) p j) (
      after,
      record {
        stand = record {
          runs = ap (run a.theory start) p.lines
              ∙ run_further a.theory start st after a.lines (line ∷ []) h.runs
              (run_said a.theory st line (written_statement a.boxes s) j);
          opened = h.opened;
          plain = h.plain;
          others = h.others;
          worded = h.worded;
          parts = h.parts;
          fits = pushed_fits a b line n p f h.fits;
        };
        says = found_at (suc st.count) n (written_statement a.boxes s) (find_line st.history n) (sym new);
        within = omega (arith, new);
        over = w;
        words = ws;
      },
    )

-- a line that says a statement over the theory's own operators
pub own_says : (a b : Builder) (line : Line) (n : ℕ) (st : State) (s : Statement) → IsPushed a b line n
    → StandIn a.theory a.boxes a.lines st → judge a.theory st.history line ≡ Some s
    → IsStatementOver a.theory.operators s → FitLine line → IsWordedStatement s → HasStatement b n s
own_says a b line n st s p h j w f ws =
    let e = own_written a.theory a.boxes s h.plain h.others w in
    pushed_says a b line n st s p h (j ∙ ap Some (sym e))
    (subst (IsStatementOver (operators_at a.theory st)) (sym e) (over_in_boxes a.theory st.history s w)) f ws

-- ---- refl

pub means_at : (a : Builder) (st : State) (t : Tree) (c : CodedTree) → KnownIn a.theory a.boxes a.lines st t
    → IsCodeIn a t c → decode (find_symbol a.theory st.history) c ≡ Some (written_term a.boxes t)
means_at a st t c k d =
    written_means a.theory k.stand.plain st.history st.count a.boxes
    (down_run a.theory a.lines start st k.stand.runs tt) t c d k.over

refl_judged : (a : Builder) (st : State) (t : Tree) (c : CodedTree) → KnownIn a.theory a.boxes a.lines st t
    → IsCodeIn a t c → judge a.theory st.history (Refl c) ≡ Some (written_statement a.boxes (Equation t t))
refl_judged a st t c k d = ap (option_map (λ u. Equation u u)) (means_at a st t c k d)

pub refl_says : (a b : Builder) (t : Tree) (c : CodedTree) (n : ℕ) → IsCodeIn a t c → IsPushed a b (Refl c) n
    → Known a t → HasStatement b n (Equation t t)
unfolding Known
refl_says a b t c n d p (st, k) =
    pushed_says a b (Refl c) n st (Equation t t) p k.stand (refl_judged a st t c k d) (k.over, k.over, refl)
    (term_fits a.boxes a.theory.operators t c d k.words) (k.words, k.words)

pub refl_extends : (a b : Builder) (t : Tree) (c : CodedTree) (n : ℕ) → IsCodeIn a t c → IsPushed a b (Refl c) n
    → Known a t → Extends a b
unfolding Known
refl_extends a b t c n d p (st, k) =
    pushed_extends a b (Refl c) n st (written_statement a.boxes (Equation t t)) p k.stand.runs
    (refl_judged a st t c k d) (term_fits a.boxes a.theory.operators t c d k.words)

-- ---- sym

sym_judged : (a : Builder) (st : State) (m : ℕ) (l r : Tree)
    → SaysIn a.theory a.boxes a.lines st m (Equation l r)
    → judge a.theory st.history (Sym m) ≡ Some (written_statement a.boxes (Equation r l))
sym_judged a st m l r h = ap (option_and_then exchange_sides) h.says

pub sym_says : (a b : Builder) (m n : ℕ) (l r : Tree) → IsPushed a b (Sym m) n → HasStatement a m (Equation l r)
    → HasStatement b n (Equation r l)
unfolding HasStatement
sym_says a b m n l r p (st, h) =
    pushed_says a b (Sym m) n st (Equation r l) p h.stand (sym_judged a st m l r h)
    (h.over.1, h.over.0, sym h.over.2) p.numbers (h.words.1, h.words.0)

pub sym_extends : (a b : Builder) (m n : ℕ) (l r : Tree) → IsPushed a b (Sym m) n → HasStatement a m (Equation l r)
    → Extends a b
unfolding HasStatement
sym_extends a b m n l r p (st, h) =
    pushed_extends a b (Sym m) n st (written_statement a.boxes (Equation r l)) p h.stand.runs (sym_judged a st m l r h)
    p.numbers

-- ---- repl

-- both lines are read in one state
pub one_state : (t : Theory) (ls : List Line) (st u : State) → run t start ls ≡ Some st
    → run t start ls ≡ Some u → u ≡ st
one_state t ls st u p q = some_inj (sym q ∙ p)

-- where the term stands, it stands as it is written
written_at : (bs : List OpenBox) (t : Tree) (q : List ℕ) (u : Tree) → at t q ≡ Some u
    → at (written_term bs t) q ≡ Some (written_term bs u)
written_at bs t q u e = at_renamed (naming bs) t q ∙ ap (option_map (rename_tree (naming bs))) e

replaced_at : (q : List ℕ) (s t u v : Tree) → at t q ≡ Some u
    → replace_right q (Equation s t) (Equation u v) ≡ Some (Equation s (put t q v))
replaced_at q s t u v e =
    cond-true (stands_at t q u) (Some (Equation s (put t q v))) None
    (ap (λ o. option_map_or (λ w. same_tree w u) o false) e ∙ (tree_Decides u u).1 refl)

repl_judged : (a : Builder) (st : State) (m k : ℕ) (q : List ℕ) (l r u v : Tree)
    → SaysIn a.theory a.boxes a.lines st m (Equation l r) → SaysIn a.theory a.boxes a.lines st k (Equation u v)
    → at r q ≡ Some u
    → judge a.theory st.history (Repl m q k) ≡ Some (written_statement a.boxes (Equation l (put r q v)))
repl_judged a st m k q l r u v h i e =
    ap (option_and_then (λ x. option_and_then (replace_right q x) (find_line st.history k))) h.says
    ∙ ap (option_and_then (replace_right q (Equation (written_term a.boxes l) (written_term a.boxes r)))) i.says
    ∙ replaced_at q (written_term a.boxes l) (written_term a.boxes r) (written_term a.boxes u) (written_term a.boxes v)
    (written_at a.boxes r q u e)
    ∙ ap (λ w. Some (Equation (written_term a.boxes l) w)) (sym (renamed_put (naming a.boxes) r q v))

repl_over : (a : Builder) (st : State) (m k : ℕ) (q : List ℕ) (l r u v : Tree)
    → SaysIn a.theory a.boxes a.lines st m (Equation l r) → SaysIn a.theory a.boxes a.lines st k (Equation u v)
    → at r q ≡ Some u
    → IsStatementOver (operators_at a.theory st) (written_statement a.boxes (Equation l (put r q v)))
repl_over a st m k q l r u v h i e =
    let w = h.over in
    let x = i.over in
    let here = written_at a.boxes r q u e in
    subst (λ z. IsStatementOver (operators_at a.theory st) (Equation (written_term a.boxes l) z))
    (sym (renamed_put (naming a.boxes) r q v)) (
      w.0,
      (
        put_well_sorted (written_term a.boxes r) q (written_term a.boxes u) (written_term a.boxes v) here
            (sym x.2) w.1.0 x.1.0,
        put_over (operators_at a.theory st) (written_term a.boxes r) q (written_term a.boxes v) w.1.1 x.1.1,
      ),
      w.2 ∙ sym (put_sort (written_term a.boxes r) q (written_term a.boxes u) (written_term a.boxes v) here (sym x.2)),
    )

repl_fits : (a b : Builder) (m k n : ℕ) (q : List ℕ) (r u : Tree) → IsPushed a b (Repl m q k) n → at r q ≡ Some u
    → FitLine (Repl m q k)
repl_fits a b m k n q r u p e = (p.numbers.0, (place_fits r q u e p.numbers.1, p.numbers.2))

pub repl_says : (a b : Builder) (m k n : ℕ) (q : List ℕ) (l r u v : Tree) → IsPushed a b (Repl m q k) n
    → HasStatement a m (Equation l r) → HasStatement a k (Equation u v) → at r q ≡ Some u
    → HasStatement b n (Equation l (put r q v))
unfolding HasStatement
repl_says a b m k n q l r u v p (st, h) (su, i) e =
    let j = subst (λ z. SaysIn a.theory a.boxes a.lines z k (Equation u v))
    (one_state a.theory a.lines st su h.stand.runs i.stand.runs) i in
    pushed_says a b (Repl m q k) n st (Equation l (put r q v)) p h.stand (repl_judged a st m k q l r u v h j e)
    (repl_over a st m k q l r u v h j e) (repl_fits a b m k n q r u p e)
    (h.words.0, put_worded r q v h.words.1 j.words.1)

pub repl_extends : (a b : Builder) (m k n : ℕ) (q : List ℕ) (l r u v : Tree) → IsPushed a b (Repl m q k) n
    → HasStatement a m (Equation l r) → HasStatement a k (Equation u v) → at r q ≡ Some u → Extends a b
unfolding HasStatement
repl_extends a b m k n q l r u v p (st, h) (su, i) e =
    let j = subst (λ z. SaysIn a.theory a.boxes a.lines z k (Equation u v))
    (one_state a.theory a.lines st su h.stand.runs i.stand.runs) i in
    pushed_extends a b (Repl m q k) n st (written_statement a.boxes (Equation l (put r q v))) p h.stand.runs
    (repl_judged a st m k q l r u v h j e) (repl_fits a b m k n q r u p e)

-- ---- trans: repl at the root

pub trans_says : (a b : Builder) (m k n : ℕ) (l r v : Tree) → IsPushed a b (Repl m [] k) n
    → HasStatement a m (Equation l r) → HasStatement a k (Equation r v) → HasStatement b n (Equation l v)
trans_says a b m k n l r v p h i = repl_says a b m k n [] l r r v p h i refl

pub trans_extends : (a b : Builder) (m k n : ℕ) (l r v : Tree) → IsPushed a b (Repl m [] k) n
    → HasStatement a m (Equation l r) → HasStatement a k (Equation r v) → Extends a b
trans_extends a b m k n l r v p h i = repl_extends a b m k n [] l r r v p h i refl

-- ---- inst without replacements: what a line says is said once more

pub said_again : (t : Theory) (bs : List OpenBox) (ls : List Line) (st : State) (m : ℕ) (l r : Tree)
    → SaysIn t bs ls st m (Equation l r)
    → judge t st.history (Inst m []) ≡ Some (written_statement bs (Equation l r))
said_again t bs ls st m l r h =
    ap (option_and_then (instance_by [])) h.says
    ∙ ap₂ (λ x y. Some (Equation x y)) (substituted_nil (written_term bs l)) (substituted_nil (written_term bs r))

pub again_says : (a b : Builder) (m n : ℕ) (l r : Tree) → IsPushed a b (Inst m []) n → HasStatement a m (Equation l r)
    → HasStatement b n (Equation l r)
unfolding HasStatement
again_says a b m n l r p (st, h) =
    pushed_says a b (Inst m []) n st (Equation l r) p h.stand (said_again a.theory a.boxes a.lines st m l r h) h.over
    (p.numbers, tt) h.words

pub again_extends : (a b : Builder) (m n : ℕ) (l r : Tree) → IsPushed a b (Inst m []) n
    → HasStatement a m (Equation l r) → Extends a b
unfolding HasStatement
again_extends a b m n l r p (st, h) =
    pushed_extends a b (Inst m []) n st (written_statement a.boxes (Equation l r)) p h.stand.runs
    (said_again a.theory a.boxes a.lines st m l r h) (p.numbers, tt)
