-- What a builder holds of a proof's levels stays held.
use Rattle.std.specs.Prelude.{◌≡◌, ℕ, List, [], ◌∷◌, ◌++◌, map, All, Option, None, Some, refl}
use Rattle.std.specs.List.{AllZip}
use Rattle.std.proofs.Common.{ap, subst, sym, ◌∙◌}
use Rattle.std.proofs.lemmas.List.{append_assoc, append-nil, map-append}
use Rattle.std.proofs.lemmas.List.Elements.{All-append, All-nil, All-push, All-weaker}
use Rattle.larch_term.specs.Sorts.{IsTermOver}
use Rattle.larch_term.specs.Tree.{Tree}
use Rattle.larch_term.specs.Truth.{truth}
use Rattle.larch_term.specs.declared.statement.Statement.{Statement}
use Rattle.larch_term.specs.declared.statement.Statement.TheVariants.{Equation}
use Rattle.larch_term.specs.declared.statement.Theory.{Theory}
use Rattle.larch_calculus.specs.Formula.{falsity}
use Rattle.larch_derive.specs.Builder.{boxes_in, theory_in}
use Rattle.larch_derive.specs.Predicates.{AreOthers, Grows, HasEquation, HasStatement, HasNoBadLine}
use Rattle.larch_derive.specs.Words.{IsWordedTerm}
use Rattle.larch_derive.specs.declared.builder.Builder.{Builder}
use Rattle.larch_derive.proofs.Growth.{grown_said, grown_stands, grows_alike, grows_same, known_left, said_stands}
use Rattle.larch_derive.proofs.Words.{known_worded}
use Rattle.larch_methods.specs.DeriveBoxesBoxes.{AreOwnConstants}
use Rattle.larch_methods.specs.ProveMeaningFacts.{Fact}
use Rattle.larch_methods.specs.ProveMeaningLevels.{Level}
use Rattle.larch_methods.specs.ProveMeaningPlans.{Plan, Subgoal}
use Rattle.larch_methods.specs.Opening.{HasOtherConstants, HasOwnConstants}
use Rattle.larch_methods.proofs.Left.{shown_stays}
use Rattle.larch_prove_invariant.specs.Book.{AtLine, Book, Done, InBox, IsWorkedOn, Kept, Left, Rests, Running}
use Rattle.larch_prove_invariant.specs.Book.{SupposingBox, all_boxes, boxes_of, next_running, own_boxes, shared_boxes}
use Rattle.larch_prove_invariant.specs.Book.{made_in, with_extra, with_running}
use Rattle.larch_prove_invariant.specs.Holding.{HasAbsurd, HasFacts, HasFirst, HasLeft, Holds, HoldsOf, IsEntered}
use Rattle.larch_prove_invariant.specs.Holding.{IsPlanned, IsStart, IsThere, Runs, RunsIfAny, Says, Through}
use Rattle.larch_prove_invariant.specs.Holding.{open_constants, said_of}
use Rattle.larch_prove_invariant.proofs.Boxes.{all_open, open_through, said_through, through_append, through_boxes}
use Rattle.larch_prove_invariant.proofs.Boxes.{through_grows}
use Rattle.larch_prove_invariant.proofs.Entered.{entered_same}
use Rattle.larch_prove_invariant.proofs.Knowing.{known_over}
use Rattle.larch_prove_invariant.proofs.Making.{open_inside}

-- ---- what is said of a level

pub zip_kept : {A B : Type 0} (R S : A → B → Type 0) → ((a : A) (b : B) → R a b → S a b) → (xs : List A) (ys : List B)
    → AllZip R xs ys → AllZip S xs ys
zip_kept R S f [] [] z = z
zip_kept R S f [] (y ∷ ys) z = z
zip_kept R S f (x ∷ xs) [] z = z
zip_kept R S f (x ∷ xs) (y ∷ ys) (h, z) = (f x y h, zip_kept R S f xs ys z)

abbrev SaysFact : Builder → Fact → ℕ → Type 0
SaysFact b fact n = HasEquation b n fact.sides.left fact.sides.right

-- all that is said in one builder is said in another
abbrev AllStays : Builder → Builder → Type 0
AllStays b c = (n : ℕ) (s : Statement) → HasStatement b n s → HasStatement c n s

facts_stay : (b c : Builder) → AllStays b c → (facts : List Fact) (lines : List ℕ) → HasFacts b facts lines
    → HasFacts c facts lines
facts_stay b c g facts lines h = zip_kept (SaysFact b) (SaysFact c) (λ f n q. g n _ q) facts lines h

absurd_stays : (b c : Builder) → AllStays b c → (o : Option ℕ) → HasAbsurd b o → HasAbsurd c o
absurd_stays b c g None h = h
absurd_stays b c g (Some n) h = g n (Equation truth falsity) h

says_stays : (b c : Builder) (k : Kept) → AllStays b c → Says b k → Says c k
says_stays b c k g h = record {
  facts = facts_stay b c g k.level.facts.rules k.book.lines h.facts;
  absurd = λ t. absurd_stays b c g k.book.absurd (h.absurd t);
  way = g k.book.way (Equation k.book.first k.level.goal) h.way;
}

pub says_grows : (b c : Builder) (k : Kept) → Grows b c → Says b k → Says c k
says_grows b c k g h = says_stays b c k (λ n s q. grown_said b c n s g q) h

pub says_through : (b c : Builder) (k : Kept) (xs : List SupposingBox) → Through b xs c → Says b k → Says c k
says_through b c k xs m h = says_stays b c k (λ n s q. said_through b c xs n s m q) h

-- ---- a method while the builder grows

left_grows : (b c : Builder) → Grows b c → (r : Running) (s : Subgoal) (l : Left) → HasLeft b r.method s l
    → HasLeft c r.method s l
left_grows b c g r s (InBox x) h = (h.0, shown_stays b c s (said_of r.method s) x g h.1)
left_grows b c g r s (AtLine n) h =
    (h.0, grown_said b c n (Equation (said_of r.method s).left (said_of r.method s).right) g h.1)

own_stays : (b c : Builder) → boxes_in c ≡ boxes_in b → (made : Plan) → HasOwnConstants b made
    → HasOwnConstants c made
own_stays b c e made h =
    All-weaker
    (λ (s : Subgoal). AreOwnConstants (boxes_in b) (record { number = 0; constants = s.constants }))
    (λ (s : Subgoal). AreOwnConstants (boxes_in c) (record { number = 0; constants = s.constants }))
    (λ s q. subst (λ bs. AreOwnConstants bs (record { number = 0; constants = s.constants })) (sym e) q)
    made.subgoals h

others_stay : (b c : Builder) → theory_in c ≡ theory_in b → (made : Plan) → HasOtherConstants b made
    → HasOtherConstants c made
others_stay b c e made h =
    All-weaker (λ (s : Subgoal). AreOthers (theory_in b) s.constants)
    (λ (s : Subgoal). AreOthers (theory_in c) s.constants)
    (λ s q. subst (λ t. AreOthers t s.constants) (sym e) q) made.subgoals h

planned_grows : (a b c : Builder) → Grows b c → (goal : Tree) (r : Running) → IsPlanned a b goal r
    → IsPlanned a c goal r
planned_grows a b c g goal r h =
    let alike = grows_alike b c g in
    record {
      planned = h.planned;
      clauses = h.clauses;
      goal_known = h.goal_known;
      method_known = h.method_known;
      shared = h.shared;
      apart = h.apart;
      over = h.over;
      own = own_stays b c alike.1 r.plan h.own;
      others = others_stay b c alike.0 r.plan h.others;
    }

runs_grows : (a b c : Builder) → Grows b c → (level : Level) (r : Running) → Runs a b level r → Runs a c level r
runs_grows a b c g level r h = record {
  planned = planned_grows a b c g level.goal r h.planned;
  order = h.order;
  done = All-weaker (λ (d : Done). HasLeft b r.method d.subgoal d.left)
      (λ (d : Done). HasLeft c r.method d.subgoal d.left)
      (λ d q. left_grows b c g r d.subgoal d.left q) r.done h.done;
}

running_grows : (a b c : Builder) → Grows b c → (level : Level) (o : Option Running) → RunsIfAny a b level o
    → RunsIfAny a c level o
running_grows a b c g level None h = h
running_grows a b c g level (Some r) h = runs_grows a b c g level r h

-- ---- levels while the builder grows

level_grows : (a b c : Builder) (k : Kept) → Grows b c → HoldsOf a b k → HoldsOf a c k
level_grows a b c k g h = record {
  first = h.first;
  outside = h.outside;
  boxes = h.boxes;
  says = h.says;
  shared = through_grows h.outside b c (shared_boxes k.book.running) g h.shared;
  running = running_grows h.outside b c g k.level k.book.running h.running;
}

start_grows : (t : Theory) (b c : Builder) → Grows b c → IsStart t b → IsStart t c
start_grows t b c g h =
    let alike = grows_alike b c g in
    record {
      theory = alike.0 ∙ h.theory;
      boxes = alike.1 ∙ h.boxes;
      stands = grown_stands b c g h.stands;
    }

pub holds_grows : (t : Theory) (s : Statement) (b c : Builder) (ks : List Kept) → Grows b c → Holds t s b ks
    → Holds t s c ks
holds_grows t s b c [] g h = start_grows t b c g h
holds_grows t s b c (k ∷ ks) g (a, (i, (e, l))) = (a, (i, (e, level_grows a b c k g l)))

-- what lines say of the current level
pub current_said : (t : Theory) (s : Statement) (b : Builder) (k : Kept) (ks : List Kept) → Holds t s b (k ∷ ks)
    → Says b k
current_said t s b k ks (a, (i, (e, l))) =
    says_through l.outside b k (shared_boxes k.book.running) l.shared l.says

-- where levels are held, no line is bad
pub holding_stands : (t : Theory) (s : Statement) (b : Builder) (ks : List Kept) → Holds t s b ks → HasNoBadLine b
holding_stands t s b [] h = h.stands
holding_stands t s b (k ∷ ks) h =
    said_stands b k.book.way (Equation k.book.first k.level.goal) (current_said t s b k ks h).way

-- ---- a level on which no method runs

no_shared : (k : Book) → k.running ≡ None → shared_boxes k.running ≡ []
no_shared k e = ap shared_boxes e

-- what is outside of no box is where the builder stands
idle_grows : (a b : Builder) (k : Kept) → k.book.running ≡ None → (h : HoldsOf a b k) → Grows h.outside b
idle_grows a b k e h = subst (λ xs. Through h.outside xs b) (no_shared k.book e) h.shared

pub idle_boxes : (a b : Builder) (k : Kept) → k.book.running ≡ None → HoldsOf a b k
    → Through a (own_boxes k.book) b
idle_boxes a b k e h = through_grows a h.outside b (own_boxes k.book) (idle_grows a b k e h) h.boxes

pub none_waits : (a b : Builder) (k : Kept) → k.book.running ≡ None → RunsIfAny a b k.level k.book.running
    → k.level.remaining ≡ []
none_waits a b k e h = subst (RunsIfAny a b k.level) e h

-- the first goal of a level that has the same one, and was entered in the same box
first_same : (a : Builder) (k j : Book) → j.first ≡ k.first → j.entrance ≡ k.entrance → HasFirst a k → HasFirst a j
first_same a k j e f h =
    record {
      over = subst (IsTermOver ((theory_in a).operators ++ (open_constants a ++ made_in j.entrance))) (sym e)
          (subst (λ xs. IsTermOver ((theory_in a).operators ++ (open_constants a ++ made_in xs)) k.first) (sym f)
          h.over);
      words = subst IsWordedTerm (sym e) h.words;
    }

-- where a level has no extra boxes yet, its first goal can be written
first_entered : (b c : Builder) (k : Kept) → k.book.extras ≡ [] → Through b (own_boxes k.book) c → Says c k
    → HasFirst b k.book
first_entered b c k e m h =
    let known = known_left c k.book.way k.book.first k.level.goal h.way in
    let opened : open_constants c ≡ open_constants b ++ made_in k.book.entrance =
    open_inside b c (own_boxes k.book) m
    ∙ ap (λ xs. open_constants b ++ made_in xs)
    (ap (λ xs. k.book.entrance ++ xs) e ∙ append-nil k.book.entrance) in
    record {
      over = subst (λ (t : Theory). IsTermOver (t.operators ++ (open_constants b ++ made_in k.book.entrance))
          k.book.first) (through_boxes b c (own_boxes k.book) m).0
          (subst (λ fs. IsTermOver ((theory_in c).operators ++ fs) k.book.first) opened
          (known_over c k.book.first known));
      words = known_worded c k.book.first known;
    }

-- a level is at rest where the builder stands
pub rests_held : (a b : Builder) (k : Kept) → Rests k → HasFirst a k.book → Through a (own_boxes k.book) b → Says b k
    → HoldsOf a b k
rests_held a b k r f m h = record {
  first = f;
  outside = b;
  boxes = m;
  says = h;
  shared = subst (λ xs. Through b xs b) (sym (no_shared k.book r.running)) (grows_same b b refl);
  running = subst (RunsIfAny b b k.level) (sym r.running) r.remaining;
}

-- lines alone: other facts, another goal
pub level_worked : (t : Theory) (s : Statement) (b c : Builder) (k j : Kept) (ks : List Kept) → Grows b c
    → IsWorkedOn k j → Says c j → Holds t s b (k ∷ ks) → Holds t s c (j ∷ ks)
level_worked t s b c k j ks g w l (a, (i, (e, h))) =
    let same : own_boxes j.book ≡ own_boxes k.book =
    ap (λ xs. xs ++ j.book.extras) w.entrance ∙ ap (λ xs. k.book.entrance ++ xs) w.extras in (
      a,
      (
        i,
        (
          entered_same s ks k j w.purpose w.first w.entrance e,
          rests_held a c j w.behind (first_same a k.book j.book w.first w.entrance h.first)
              (subst (λ xs. Through a xs c) (sym same)
              (through_grows a b c (own_boxes k.book) g (idle_boxes a b k w.before.running h))) l,
        ),
      ),
    )

extra_boxes : (k : Book) (x : SupposingBox) → k.entrance ++ (k.extras ++ x ∷ []) ≡ own_boxes k ++ x ∷ []
extra_boxes k x = sym (append_assoc k.entrance k.extras (x ∷ []))

-- a box is opened for a constant
pub extra_opened : (t : Theory) (s : Statement) (b c : Builder) (x : SupposingBox) (k : Kept) (ks : List Kept)
    → Through b (x ∷ []) c → k.book.running ≡ None → Holds t s b (k ∷ ks) → Holds t s c (with_extra x k ∷ ks)
extra_opened t s b c x k ks m e (a, (i, (w, h))) =
    let said = says_through b c k (x ∷ []) m (current_said t s b k ks (a, (i, (w, h)))) in (
      a,
      (
        i,
        (
          entered_same s ks k (with_extra x k) refl refl refl w,
          rests_held a c (with_extra x k)
              (record { running = e; remaining = none_waits h.outside b k e h.running })
              (first_same a k.book (with_extra x k).book refl refl h.first)
              (subst (λ xs. Through a xs c) (sym (extra_boxes k.book x))
              (through_append a b c (own_boxes k.book) (x ∷ []) (idle_boxes a b k e h) m))
              (record { facts = said.facts; absurd = said.absurd; way = said.way }),
        ),
      ),
    )

-- ---- levels are entered

pub level_entered : (t : Theory) (s : Statement) (b c : Builder) (k : Kept) (ks : List Kept) → Holds t s b ks
    → IsEntered s ks k → Rests k → k.book.extras ≡ [] → Through b (own_boxes k.book) c → Says c k
    → Holds t s c (k ∷ ks)
level_entered t s b c k ks h e r x m l = (b, (h, (e, rests_held b c k r (first_entered b c k x m l) m l)))

-- what was said where a level was entered is said in it
pub facts_inside : (t : Theory) (s : Statement) (b c : Builder) (xs : List SupposingBox) (k : Kept) (ks : List Kept)
    → Holds t s b (k ∷ ks) → Through b xs c → HasFacts c k.level.facts.rules k.book.lines
facts_inside t s b c xs k ks h m = (says_through b c k xs m (current_said t s b k ks h)).facts

-- ---- methods

-- a method begins, with its shared box opened
pub method_begun : (t : Theory) (s : Statement) (b c : Builder) (k : Kept) (ks : List Kept) (r : Running)
    (waiting : List Subgoal) → k.book.running ≡ None → Through b r.shared c → IsPlanned b c k.level.goal r
    → r.done ≡ [] → r.plan.subgoals ≡ r.now ∷ waiting → Holds t s b (k ∷ ks)
    → Holds t s c (with_running r waiting k ∷ ks)
method_begun t s b c k ks r waiting e m p d o (a, (i, (w, h))) =
    let said = current_said t s b k ks (a, (i, (w, h))) in (
      a,
      (
        i,
        (
          entered_same s ks k (with_running r waiting k) refl refl refl w,
          record {
            first = first_same a k.book (with_running r waiting k).book refl refl h.first;
            outside = b;
            boxes = idle_boxes a b k e h;
            says = record { facts = said.facts; absurd = said.absurd; way = said.way };
            shared = m;
            running = record {
              planned = p;
              order = o ∙ ap (λ (ds : List Done). map (λ (q : Done). q.subgoal) ds ++ r.now ∷ waiting) (sym d);
              done = subst (All (λ (q : Done). HasLeft c r.method q.subgoal q.left)) (sym d)
                  (All-nil (λ (q : Done). HasLeft c r.method q.subgoal q.left));
            };
          },
        ),
      ),
    )

pub running_is : (a b : Builder) (k : Kept) (r : Running) → k.book.running ≡ Some r
    → RunsIfAny a b k.level k.book.running → Runs a b k.level r
running_is a b k r e h = subst (RunsIfAny a b k.level) e h

pub shared_is : (a b : Builder) (k : Kept) (r : Running) → k.book.running ≡ Some r
    → Through a (shared_boxes k.book.running) b → Through a r.shared b
shared_is a b k r e h = subst (λ o. Through a (shared_boxes o) b) e h

pub done_order : (done : List Done) (step : Done) (ss : List Subgoal)
    → map (λ (d : Done). d.subgoal) done ++ step.subgoal ∷ ss ≡ map (λ (d : Done). d.subgoal) (done ++ step ∷ []) ++ ss
done_order done step ss =
    sym (ap (λ ts. ts ++ ss) (map-append (λ (d : Done). d.subgoal) done (step ∷ []))
    ∙ append_assoc (map (λ (d : Done). d.subgoal) done) (step.subgoal ∷ []) ss)

-- the next subgoal of a method, where the open one was left
pub subgoal_follows : (t : Theory) (s : Statement) (b : Builder) (k : Kept) (ks : List Kept) (r : Running)
    (left : Left) (next : Subgoal) (waiting : List Subgoal) → Holds t s b (k ∷ ks) → k.book.running ≡ Some r
    → k.level.remaining ≡ next ∷ waiting → HasLeft b r.method r.now left
    → Holds t s b (with_running (next_running left next r) waiting k ∷ ks)
subgoal_follows t s b k ks r left next waiting (a, (i, (w, h))) e q l =
    let u = running_is h.outside b k r e h.running in
    let p = u.planned in
    let step : Done = record { subgoal = r.now; left = left } in (
      a,
      (
        i,
        (
          entered_same s ks k (with_running (next_running left next r) waiting k) refl refl refl w,
          record {
            first = first_same a k.book (with_running (next_running left next r) waiting k).book refl refl h.first;
            outside = h.outside;
            boxes = h.boxes;
            says = record { facts = h.says.facts; absurd = h.says.absurd; way = h.says.way };
            shared = shared_is h.outside b k r e h.shared;
            running = record {
              planned = record {
                planned = p.planned;
                clauses = p.clauses;
                goal_known = p.goal_known;
                method_known = p.method_known;
                shared = p.shared;
                apart = p.apart;
                over = p.over;
                own = p.own;
                others = p.others;
              };
              order = u.order ∙ (ap (λ ss. map (λ (d : Done). d.subgoal) r.done ++ r.now ∷ ss) q
                  ∙ done_order r.done step (next ∷ waiting));
              done = All-push (λ (d : Done). HasLeft b r.method d.subgoal d.left) r.done step u.done l;
            };
          },
        ),
      ),
    )

-- ---- what is open

pub boxes_held : (t : Theory) (s : Statement) (b : Builder) (ks : List Kept) → Holds t s b ks
    → (theory_in b ≡ t) × ((boxes_in b ≡ map (λ x. x.box) (all_boxes ks)) × All (IsThere b) (all_boxes ks))
boxes_held t s b [] h = (h.theory, (h.boxes, All-nil (IsThere b)))
boxes_held t s b (k ∷ ks) (a, (h, (e, l))) =
    let xs = all_boxes ks in
    let ys = boxes_of k.book in
    let below = boxes_held t s a ks h in
    let m = through_append a l.outside b (own_boxes k.book) (shared_boxes k.book.running) l.boxes l.shared in
    let g = through_boxes a b ys m in (
      g.0 ∙ below.0,
      (
        g.1 ∙ (ap (λ bs. bs ++ map (λ x. x.box) ys) below.1.0
            ∙ sym (map-append (λ (x : SupposingBox). x.box) xs ys)),
        All-append (IsThere b) xs ys
            (All-weaker (IsThere a) (IsThere b) (λ x q. open_through a b ys x m q) xs below.1.1) (all_open a b ys m),
      ),
    )
