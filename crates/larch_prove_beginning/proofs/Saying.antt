-- Hypotheses with the lines that say them.
use Rattle.std.specs.Prelude.{◌≡◌, ◌+◌, ◌<◌, ◌≤◌, ℕ, List, [], ◌∷◌, ◌++◌, All, drop, get_or, length, map}
use Rattle.std.specs.Prelude.{Option, None, Some, refl}
use Rattle.std.specs.List.{flat_map}
use Rattle.std.proofs.Common.{Bor, HoldsAt, MatchOption, ap, ap₂, sym, ◌∙◌}
use Rattle.std.proofs.lemmas.List.{append-nil, append_assoc, drop_all, drop_more}
use Rattle.std.proofs.lemmas.List.Elements.{All-cons, All-nil}
use Rattle.larch_base.proofs.Options.{some_inj}
use Rattle.larch_derive.specs.Predicates.{HasStatement}
use Rattle.larch_derive.specs.declared.builder.Builder.{Builder}
use Rattle.larch_prove_opening.specs.ProveAddingEquation.{IsSaid, sides_in}
use Rattle.larch_prove_opening.specs.ProveAddingEquationSaidEquation.{SaidEquation}
use Rattle.larch_prove_beginning.specs.Hypotheses.{all_said, said_by}
use Rattle.larch_prove_settling.specs.ProveBoxesLowest.{AreSaidBy}
use Rattle.larch_rewrite_meaning.specs.Sides.{Sides, sides_of}
use Rattle.larch_term.specs.declared.statement.Statement.{Statement}
use Rattle.larch_term.specs.declared.statement.Statement.TheVariants.{Equation, Generated, Partitioned}

-- ---- one by one

none_said : (hs : List Statement) (ns : List ℕ) → ns ≡ [] → all_said hs ns ≡ []
none_said [] ns e = refl
none_said (h ∷ hs) [] e = refl
none_said (h ∷ hs) (n ∷ ns) e = absurd (cc)

no_more : (es all left : List SaidEquation) → left ≡ [] → es ++ left ≡ all → es ≡ all
no_more es all left e i = sym (append-nil es) ∙ (ap (λ ds. es ++ ds) (sym e) ∙ i)

-- there is no further line
pub said_short : (es : List SaidEquation) (hs : List Statement) (ns : List ℕ) (i : ℕ) (r : Option (Bor ℕ))
    → MatchOption r (length ns ≤ i) (λ x. (i < length ns) × HoldsAt (λ y. x.now ≡ y) ns i) → r ≡ None
    → es ++ all_said (drop i hs) (drop i ns) ≡ all_said hs ns → es ≡ all_said hs ns
said_short es hs ns i None m e h =
    no_more es _ (all_said (drop i hs) (drop i ns)) (none_said (drop i hs) (drop i ns) (drop_all i ns m)) h
said_short es hs ns i (Some x) m e h = absurd (cc)

-- or no further hypothesis
pub all_done : (es : List SaidEquation) (hs : List Statement) (ns : List ℕ) (i : ℕ) → length hs ≤ i
    → es ++ all_said (drop i hs) (drop i ns) ≡ all_said hs ns → es ≡ all_said hs ns
all_done es hs ns i l h =
    no_more es _ (all_said (drop i hs) (drop i ns)) (ap (λ xs. all_said xs (drop i ns)) (drop_all i hs l)) h

one_more : (es ds : List SaidEquation) (hs : List Statement) (ns : List ℕ) (i : ℕ) (h : Statement) (n : ℕ)
    → i < length hs → h ≡ get_or hs i h → i < length ns → n ≡ get_or ns i n → ds ≡ es ++ said_by h n
    → es ++ all_said (drop i hs) (drop i ns) ≡ all_said hs ns
    → ds ++ all_said (drop (i + 1) hs) (drop (i + 1) ns) ≡ all_said hs ns
one_more es ds hs ns i h n l e m d p a =
    let rest = all_said (drop (i + 1) hs) (drop (i + 1) ns) in
    ap (λ xs. xs ++ rest) p
    ∙ (append_assoc es (said_by h n) rest
    ∙ (ap (λ xs. es ++ xs) (sym (ap₂ all_said (drop_more hs i h l) (drop_more ns i n m)
    ∙ ap₂ (λ g k. said_by g k ++ rest) (sym e) (sym d)))
    ∙ a))

-- one more is said
pub said_further : (es ds : List SaidEquation) (hs : List Statement) (ns : List ℕ) (i : ℕ) (h : Statement)
    (x : Bor ℕ) (r : Option (Bor ℕ)) → i < length hs → h ≡ get_or hs i h
    → MatchOption r (length ns ≤ i) (λ y. (i < length ns) × HoldsAt (λ z. y.now ≡ z) ns i) → r ≡ Some x
    → ds ≡ es ++ said_by h x.now
    → es ++ all_said (drop i hs) (drop i ns) ≡ all_said hs ns
    → ds ++ all_said (drop (i + 1) hs) (drop (i + 1) ns) ≡ all_said hs ns
said_further es ds hs ns i h x None l e m q p a = absurd (cc)
said_further es ds hs ns i h x (Some y) l e m q p a =
    let same : y ≡ x = some_inj q in
    one_more es ds hs ns i h y.now l e m.0 (m.1 y.now) (p ∙ ap (λ (z : Bor ℕ). es ++ said_by h z.now) (sym same)) a

-- ---- what lines say of all

one_side : (h : Statement) (n : ℕ) (es : List SaidEquation) (ss : List Sides) → map sides_in es ≡ ss
    → map sides_in (said_by h n ++ es) ≡ sides_of h ++ ss
one_side (Equation l r) n es ss e = ap (λ xs. record { left = l; right = r } ∷ xs) e
one_side (Generated s fs) n es ss e = e
one_side (Partitioned s os) n es ss e = e

one_said : (b : Builder) (h : Statement) (n : ℕ) (es : List SaidEquation) → HasStatement b n h → All (IsSaid b) es
    → All (IsSaid b) (said_by h n ++ es)
one_said b (Equation l r) n es w z =
    All-cons (IsSaid b) (record { left = l; right = r; line = n }) es w z
one_said b (Generated s fs) n es w z = z
one_said b (Partitioned s os) n es w z = z

-- the sides of the equations
pub sides_all : (b : Builder) (hs : List Statement) (ns : List ℕ) → AreSaidBy b hs ns
    → map sides_in (all_said hs ns) ≡ flat_map sides_of hs
sides_all b [] [] z = refl
sides_all b [] (n ∷ ns) z = absurd z
sides_all b (h ∷ hs) [] z = absurd z
sides_all b (h ∷ hs) (n ∷ ns) z =
    one_side h n (all_said hs ns) (flat_map sides_of hs) (sides_all b hs ns z.1)

-- their lines say them
pub equations_said : (b : Builder) (hs : List Statement) (ns : List ℕ) → AreSaidBy b hs ns
    → All (IsSaid b) (all_said hs ns)
equations_said b [] [] z = All-nil (IsSaid b)
equations_said b [] (n ∷ ns) z = absurd z
equations_said b (h ∷ hs) [] z = absurd z
equations_said b (h ∷ hs) (n ∷ ns) z = one_said b h n (all_said hs ns) z.0 (equations_said b hs ns z.1)
