-- The machine's lines, turn by turn.
use Rattle.std.specs.Prelude.{◌≡◌, ℕ, List, [], ◌∷◌, ◌++◌, All, IfOk, Option, None, map, reverse}
use Rattle.std.proofs.Common.{Result, Ok, Err, ap, ap₂, sym, subst, inl, inr, ◌∙◌}
use Rattle.std.proofs.lemmas.List.Elements.{All-nil, All-push, All-weaker}
use Rattle.larch_term.specs.Tree.{Tree, AllOf, forest_of}
use Rattle.larch_rewrite_step.specs.Encoding.{AreEncodings}
use Rattle.larch_rewrite_step.specs.declared.encoding.Encoding.{Encoding}
use Rattle.larch_rewrite_step.proofs.Entries.{known_arguments}
use Rattle.larch_derive.specs.Builder.{IsCodeIn}
use Rattle.larch_derive.specs.Predicates.{Extends, HasEquation, Known}
use Rattle.larch_derive.specs.declared.builder.Builder.{Builder}
use Rattle.larch_derive.proofs.Growth.{stays_said, stays_known}
use Rattle.larch_store.specs.Numbered.{Numbered, term_of}
use Rattle.larch_rewrite_step.specs.DeriveLinesWay.{Leads}
use Rattle.larch_rewrite_step.proofs.DeriveLinesWays.{led_nowhere, leads_stays, leads_known}
use Rattle.larch_rewrite.specs.Kept.{IsKeptAt, IsKeptBehind, IsLed, kept_of}
use Rattle.larch_rewrite.specs.Level.{HaveOneStart, IsApplication, IsArgument, IsLast, further_of, level_of}
use Rattle.larch_rewrite.specs.Level.{operator_of, start_of}
use Rattle.larch_rewrite.specs.RuleSet.{AreSaid, IsSaid, PlainRule}
use Rattle.larch_rewrite.specs.Ways.{AreWaysTo, IsWayTo, MayBegin, Says, term_reached, with_argument, with_done}
use Rattle.larch_rewrite.specs.declared.kept.KeptForm.{KeptForm}
use Rattle.larch_rewrite.specs.declared.level.Frame.{Frame}
use Rattle.larch_rewrite.specs.declared.level.Level.{Level}
use Rattle.larch_rewrite.specs.declared.level.Means.{Means}
use Rattle.larch_rewrite.specs.declared.level.Turn.{Turn}
use Rattle.larch_rewrite.specs.declared.level.Turn.TheVariants.{Begin, Arguments, Root, Finish}
use Rattle.larch_rewrite.proofs.Levels.{done_next, done_behind}
use Rattle.larch_rewrite.proofs.Turns.{pushed_first}

-- ---- what lines say stays said

pub rules_stay : (a b : Builder) (rules : List PlainRule) → Extends a b → AreSaid a rules → AreSaid b rules
rules_stay a b rules x h = All-weaker (IsSaid a) (IsSaid b) (λ r p. stays_said a b r.line _ x p) rules h

pub led_stays : (a b : Builder) (kept : List KeptForm) → Extends a b → All (IsLed a) kept → All (IsLed b) kept
led_stays a b kept x h =
    All-weaker (IsLed a) (IsLed b) (λ k p. leads_stays a b k.way (term_of k.start) (term_of k.form) x p) kept h

-- terms that are written
pub none_written : (b : Builder) (encodings : List Encoding) → encodings ≡ [] → AreEncodings b encodings
none_written b encodings e = subst (AreEncodings b) (sym e) (All-nil (λ k. IsCodeIn b (term_of k.term) k.coded))

pub means_written : (b : Builder) (m n : Means) → n ≡ m → AreEncodings b m.encodings → AreEncodings b n.encodings
means_written b m n e h = subst (λ (o : Means). AreEncodings b o.encodings) (sym e) h

-- without a way, a line that says that the start equals itself says where it leads
pub whole_said : {E : Type 0} (a b : Builder) (s : Tree) (way : Option ℕ) (encodings : List Encoding) (r : Result ℕ E)
    → way ≡ None → IfOk r (λ n. Known a s → AreEncodings a encodings → HasEquation b n s s)
    → IfOk r (λ n. (t : Tree) → Known a s → Leads a way s t → AreEncodings a encodings → HasEquation b n s t)
whole_said a b s way encodings (Ok n) e h =
    λ t k w d. led_nowhere b n s t (subst (λ o. Leads a o s t) e w) (h k d)
whole_said a b s way encodings (Err m) e h = tt

pub ways_stay : (a b : Builder) (t : Tree) (fs : List Frame) → Extends a b → AreWaysTo a t fs → AreWaysTo b t fs
ways_stay a b t [] x h = tt
ways_stay a b t (f ∷ fs) x (k, l, m) = (
  stays_known a b (term_of f.level.start) x k,
  leads_stays a b f.level.way (term_of f.level.start) (with_argument f t) x l,
  ways_stay a b (term_of f.level.start) fs x m,
)

pub way_stays : (a b : Builder) (t : Tree) (turn : Turn) → Extends a b → IsWayTo a t turn → IsWayTo b t turn
way_stays a b t turn x (k, l) = (stays_known a b t x k, leads_stays a b (level_of turn).way t (term_reached turn) x l)

-- ---- turns

-- a turn that goes on from its own start
pub says_on : (a b : Builder) (rules : List PlainRule) (kept : List KeptForm) (frames : List Frame) (turn next : Turn)
    → Extends a b → HaveOneStart next turn → IsWayTo b (start_of turn) next → Says a rules kept frames turn
    → Says b rules kept frames next
says_on a b rules kept frames turn next x same w h = record {
  rules_said = rules_stay a b rules x h.rules_said;
  kept_led = led_stays a b kept x h.kept_led;
  way = subst (λ t. IsWayTo b t next) (sym (ap term_of same.0)) w;
  ways = subst (λ t. AreWaysTo b t (reverse frames)) (sym (ap term_of same.0))
      (ways_stay a b (start_of turn) (reverse frames) x h.ways);
}

kept_behind : (b : Builder) (kept new : List KeptForm) (k : KeptForm) → All (IsLed b) kept → IsLed b k
    → IsKeptBehind kept k new → All (IsLed b) new
kept_behind b kept new k h l (inl e) = subst (All (IsLed b)) (sym e) h
kept_behind b kept new k h l (inr e) = subst (All (IsLed b)) (sym e) (All-push (IsLed b) kept k h l)

all_led : (b : Builder) (rules : List PlainRule) (kept new : List KeptForm) (frames : List Frame)
    (turn : Turn) (n : ℕ)
    → IsKeptAt kept turn n new → Says b rules kept frames turn → All (IsLed b) new
all_led b rules kept new frames (Begin l) n e h = subst (All (IsLed b)) (sym e) h.kept_led
all_led b rules kept new frames (Arguments f) n e h = subst (All (IsLed b)) (sym e) h.kept_led
all_led b rules kept new frames (Root l) n e h = subst (All (IsLed b)) (sym e) h.kept_led
all_led b rules kept new frames (Finish l) n e h = kept_behind b kept new (kept_of l n) h.kept_led h.way.1 e

pub says_kept : (b : Builder) (rules : List PlainRule) (kept new : List KeptForm) (frames : List Frame)
    (turn : Turn) (n : ℕ)
    → IsKeptAt kept turn n new → Says b rules kept frames turn → Says b rules new frames turn
says_kept b rules kept new frames turn n e h = record {
  rules_said = h.rules_said;
  kept_led = all_led b rules kept new frames turn n e h;
  way = h.way;
  ways = h.ways;
}

-- the argument behind others in a known term is known
known_behind : (b : Builder) (ds rest : List Tree) (t : Tree) → AllOf (Known b) (forest_of (ds ++ t ∷ rest)) → Known b t
known_behind b [] rest t h = h.0
known_behind b (d ∷ ds) rest t h = known_behind b ds rest t h.1

-- an argument begins, and its frame waits
pub says_deeper : (b : Builder) (rules : List PlainRule) (kept : List KeptForm)
    (frames pushed : List Frame) (f : Frame)
    (l : Level) (n : ℕ) → pushed ≡ frames ++ f ∷ [] → IsArgument f n l → Says b rules kept frames (Arguments f)
    → Says b rules kept pushed (Begin l)
says_deeper b rules kept frames pushed f l n p (a, g, k, w, t) h =
    let e : with_done f.level.term f.done ≡ with_argument f (term_of l.start) =
    done_next f.level.term f.done l.start a g in
    let m : Leads b f.level.way (term_of f.level.start) (with_argument f (term_of l.start)) =
    subst (λ u. Leads b f.level.way (term_of f.level.start) u) e h.way.1 in
    let o : Known b (with_argument f (term_of l.start)) =
    leads_known b f.level.way (term_of f.level.start) (with_argument f (term_of l.start)) h.way.0 m in
    record {
      rules_said = h.rules_said;
      kept_led = h.kept_led;
      way = (
        known_behind b (map term_of f.done) (further_of f) (term_of l.start)
            (known_arguments b (operator_of f.level.term)
            (forest_of (map term_of f.done ++ term_of l.start ∷ further_of f)) o),
        subst (λ v. Leads b v (term_of l.start) (term_of l.term)) (sym w) (ap term_of (sym t)),
      );
      ways = subst (λ fs. AreWaysTo b (term_of l.start) fs) (sym (ap reverse p ∙ pushed_first frames f))
          (h.way.0, m, h.ways);
    }

-- what a frame's ways are, where its argument is normal
pub first_way : (b : Builder) (rules : List PlainRule) (kept : List KeptForm) (frames popped : List Frame) (f : Frame)
    (l : Level) → frames ≡ popped ++ f ∷ [] → Says b rules kept frames (Finish l)
    → Known b (term_of f.level.start) × Leads b f.level.way (term_of f.level.start) (with_argument f (term_of l.start))
    × AreWaysTo b (term_of f.level.start) (reverse popped)
first_way b rules kept frames popped f l p h =
    subst (λ fs. AreWaysTo b (term_of l.start) fs) (ap reverse p ∙ pushed_first popped f) h.ways

-- an argument is normal, and its frame goes on
pub says_up : (a b : Builder) (rules : List PlainRule) (kept : List KeptForm) (frames popped : List Frame)
    (f g : Frame)
    (l : Level) → frames ≡ popped ++ f ∷ [] → IsApplication f.level.term
    → (g.level.start ≡ f.level.start) × (g.level.begun ≡ f.level.begun) × (g.level.term ≡ f.level.term)
    → g.done ≡ f.done ++ l.term ∷ [] → Extends a b
    → Leads b g.level.way (term_of f.level.start) (with_argument f (term_of l.term))
    → Says a rules kept frames (Finish l) → Says b rules kept popped (Arguments g)
says_up a b rules kept frames popped f g l p i (s, n, t) d x m h =
    let q = first_way a rules kept frames popped f l p h in
    let e : with_argument f (term_of l.term) ≡ with_done g.level.term g.done =
    done_behind f.level.term f.done l.term i ∙ ap₂ (λ y ds. with_done y ds) (sym t) (sym d) in
    record {
      rules_said = rules_stay a b rules x h.rules_said;
      kept_led = led_stays a b kept x h.kept_led;
      way = subst (λ u. IsWayTo b u (Arguments g)) (sym (ap term_of s)) (
        stays_known a b (term_of f.level.start) x q.0,
        subst (λ u. Leads b g.level.way (term_of f.level.start) u) e m,
      );
      ways = subst (λ u. AreWaysTo b u (reverse popped)) (sym (ap term_of s))
          (ways_stay a b (term_of f.level.start) (reverse popped) x q.2);
    }

-- the first turn
pub says_first : (b : Builder) (rules : List PlainRule) (x : Numbered) (kept : List KeptForm)
    (frames : List Frame) (l : Level)
    → frames ≡ [] → (l.start ≡ x) × (l.way ≡ None) × (l.term ≡ x) → MayBegin b rules kept (term_of x)
    → Says b rules kept frames (Begin l)
says_first b rules x kept frames l e (s, w, t) (k, r, m) = record {
  rules_said = r;
  kept_led = m;
  way = (
    subst (λ u. Known b (term_of u)) (sym s) k,
    subst (λ v. Leads b v (term_of l.start) (term_of l.term)) (sym w) (ap term_of (s ∙ sym t)),
  );
  ways = subst (λ fs. AreWaysTo b (term_of l.start) (reverse fs)) (sym e) tt;
}

-- the last turn is a normal form
pub last_way : (b : Builder) (rules : List PlainRule) (kept : List KeptForm) (frames : List Frame) (turn : Turn)
    → IsLast frames turn → Says b rules kept frames turn
    → Known b (start_of turn) × Leads b (level_of turn).way (start_of turn) (term_of (level_of turn).term)
last_way b rules kept frames (Begin l) e h = absurd e
last_way b rules kept frames (Arguments f) e h = absurd e
last_way b rules kept frames (Root l) e h = absurd e
last_way b rules kept frames (Finish l) e h = h.way

-- a turn whose level has come to the same term on the same way
pub way_formed : (b : Builder) (x : Tree) (turn next : Turn) → (level_of next).way ≡ (level_of turn).way
    → term_reached next ≡ term_reached turn → IsWayTo b x turn → IsWayTo b x next
way_formed b x turn next w r h = (
  h.0,
  subst (λ v. Leads b v x (term_reached next)) (sym w)
      (subst (λ u. Leads b (level_of turn).way x u) (sym r) h.1),
)

-- what the last line says
pub last_says : (b : Builder) (n : ℕ) (turn : Turn) (whole : Tree) (form : Numbered) → start_of turn ≡ whole
    → form ≡ (level_of turn).term → HasEquation b n (start_of turn) (term_of (level_of turn).term)
    → HasEquation b n whole (term_of form)
last_says b n turn whole form s f h =
    subst (λ u. HasEquation b n u (term_of form)) s
    (subst (λ y. HasEquation b n (start_of turn) (term_of y)) (sym f) h)

-- a turn, by another name
pub says_from : (b : Builder) (rules : List PlainRule) (kept : List KeptForm) (frames : List Frame)
    (turn other : Turn)
    → turn ≡ other → Says b rules kept frames turn → Says b rules kept frames other
says_from b rules kept frames turn other e h = subst (λ t. Says b rules kept frames t) e h
