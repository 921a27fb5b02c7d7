-- Boxes that are opened in turn.
use Rattle.std.specs.Prelude.{◌≡◌, ℕ, List, [], ◌∷◌, ◌++◌, map, All}
use Rattle.std.proofs.Common.{ap, sym, ◌∙◌}
use Rattle.std.proofs.lemmas.List.{append_assoc, append-nil}
use Rattle.std.proofs.lemmas.List.Elements.{All-cons, All-nil}
use Rattle.larch_term.specs.Tree.{Tree}
use Rattle.larch_term.specs.declared.statement.Statement.{Statement}
use Rattle.larch_term.specs.declared.statement.Statement.TheVariants.{Equation}
use Rattle.larch_derive.specs.Builder.{boxes_in, theory_in}
use Rattle.larch_derive.specs.Predicates.{Grows, HasNoBadLine, HasStatement}
use Rattle.larch_derive.specs.declared.builder.Builder.{Builder}
use Rattle.larch_derive.proofs.Growth.{grown_said, grown_stands, grows_alike, grows_trans}
use Rattle.larch_methods.specs.DeriveBoxesBoxes.{Closes, HasResult, Opens}
use Rattle.larch_methods.proofs.DeriveBoxesClosing.{closes_grows, closes_result}
use Rattle.larch_methods.proofs.DeriveBoxesOpening.{opened_boxes, opened_said, opened_stands}
use Rattle.larch_methods.proofs.DeriveBoxesSupposing.{grown_open, opened_open, opens_is_open}
use Rattle.larch_prove_invariant.specs.Book.{SupposingBox}
use Rattle.larch_prove_invariant.specs.Holding.{IsThere, Through}
use Rattle.larch_prove_invariant.specs.Leaving.{IsClosedWith}

pub through_grows : (a b c : Builder) (xs : List SupposingBox) → Grows b c → Through a xs b → Through a xs c
through_grows a b c [] g t = grows_trans a b c t g
through_grows a b c (x ∷ xs) g (d, (e, (h, (o, t)))) = (d, (e, (h, (o, through_grows e b c xs g t))))

pub through_append : (a b c : Builder) (xs ys : List SupposingBox) → Through a xs b → Through b ys c
    → Through a (xs ++ ys) c
through_append a b c [] [] t u = grows_trans a b c t u
through_append a b c [] (y ∷ ys) t (d, (e, (h, (o, u)))) = (d, (e, (grows_trans a b d t h, (o, u))))
through_append a b c (x ∷ xs) ys (d, (e, (h, (o, t)))) u = (d, (e, (h, (o, through_append e b c xs ys t u))))

-- what is said stays said inside
pub said_through : (a b : Builder) (xs : List SupposingBox) (n : ℕ) (s : Statement) → Through a xs b
    → HasStatement a n s
    → HasStatement b n s
said_through a b [] n s t h = grown_said a b n s t h
said_through a b (x ∷ xs) n s (c, (d, (g, (o, t)))) h =
    said_through d b xs n s t (opened_said c d x.box x.hypotheses n s o (grown_said a c n s g h))

-- no line turns bad inside
pub through_stands : (a b : Builder) (xs : List SupposingBox) → Through a xs b → HasNoBadLine a → HasNoBadLine b
through_stands a b [] t h = grown_stands a b t h
through_stands a b (x ∷ xs) (c, (d, (g, (o, t)))) h =
    through_stands d b xs t (opened_stands c d x.box x.hypotheses o)

-- the theory stays, and behind the open boxes are the opened ones
pub through_boxes : (a b : Builder) (xs : List SupposingBox) → Through a xs b
    → (theory_in b ≡ theory_in a) × (boxes_in b ≡ boxes_in a ++ map (λ x. x.box) xs)
through_boxes a b [] t =
    let g = grows_alike a b t in (g.0, g.1 ∙ sym (append-nil (boxes_in a)))
through_boxes a b (x ∷ xs) (c, (d, (g, (o, t)))) =
    let i = grows_alike a c g in
    let j = opened_boxes c d x.box x.hypotheses o in
    let k = through_boxes d b xs t in (
      k.0 ∙ (j.0 ∙ i.0),
      k.1 ∙ (ap (λ bs. bs ++ map (λ y. y.box) xs) (j.1 ∙ ap (λ bs. bs ++ x.box ∷ []) i.1)
          ∙ append_assoc (boxes_in a) (x.box ∷ []) (map (λ y. y.box) xs)),
    )

pub open_through : (a b : Builder) (xs : List SupposingBox) (y : SupposingBox) → Through a xs b → IsThere a y
    → IsThere b y
open_through a b [] y t h = grown_open a b y.box y.hypotheses t h
open_through a b (x ∷ xs) y (c, (d, (g, (o, t)))) h =
    open_through d b xs y t
    (opened_open c d y.box x.box y.hypotheses x.hypotheses o (grown_open a c y.box y.hypotheses g h))

pub all_open : (a b : Builder) (xs : List SupposingBox) → Through a xs b → All (IsThere b) xs
all_open a b [] t = All-nil (IsThere b)
all_open a b (x ∷ xs) (c, (d, (g, (o, t)))) =
    All-cons (IsThere b) x xs (open_through d b xs x t (opens_is_open c d x.box x.hypotheses o)) (all_open d b xs t)

-- the innermost box
pub record Innermost (a b : Builder) (xs : List SupposingBox) (x : SupposingBox) : Type 0 where
  pub outside : Builder
  pub inside : Builder
  pub before : Through a xs outside
  pub opens : Opens outside inside x.box x.hypotheses
  pub grows : Grows inside b

pub innermost : (a b : Builder) (xs : List SupposingBox) (x : SupposingBox) → Through a (xs ++ x ∷ []) b
    → Innermost a b xs x
innermost a b [] x (c, (d, (g, (o, t)))) = record { outside = c; inside = d; before = g; opens = o; grows = t }
innermost a b (y ∷ xs) x (c, (d, (g, (o, t)))) =
    let i = innermost d b xs x t in
    record {
      outside = i.outside;
      inside = i.inside;
      before = (c, (d, (g, (o, i.before))));
      opens = i.opens;
      grows = i.grows;
    }

pub closed_innermost : (a b c : Builder) (xs : List SupposingBox) (x : SupposingBox) (n : ℕ) (l r : Tree)
    → Through a (xs ++ x ∷ []) b → HasStatement b n (Equation l r) → IsClosedWith b c n
    → Through a xs c × HasResult c x.box x.hypotheses (Equation l r)
closed_innermost a b c xs x n l r t h e =
    let i = innermost a b xs x t in
    let z : Closes i.outside c x.box x.hypotheses l r = record {
      inside = i.inside;
      grown = b;
      again = e.again;
      line = n;
      first = e.first;
      last = e.last;
      opens = i.opens;
      grows = i.grows;
      says = h;
      repeats = e.repeats;
      closes = e.closes;
    } in (
      through_grows a i.outside c xs (closes_grows i.outside c x.box x.hypotheses l r z) i.before,
      closes_result i.outside c x.box x.hypotheses l r z,
    )
