-- Boxes that a method's subgoals share, and closed boxes in them.
use Rattle.std.specs.Prelude.{◌≡◌, ℕ, Bool, true, false, List, [], ◌∷◌, map, Contains, refl}
use Rattle.std.proofs.Common.{inr, ap, sym, subst, ◌∙◌}
use Rattle.std.proofs.lemmas.List.Elements.{All-cons, All-nil}
use Rattle.larch_base.proofs.Lists.{all_from}
use Rattle.larch_term.specs.BuiltIn.{bool_sort}
use Rattle.larch_term.specs.Operator.{PlainOperator}
use Rattle.larch_term.specs.Sorts.{sort_of, IsKnown}
use Rattle.larch_term.specs.Substitution.{instance_of}
use Rattle.larch_term.specs.Tree.{Tree}
use Rattle.larch_term.specs.Truth.{truth}
use Rattle.larch_term.specs.Variable.{occurrences, variables_of}
use Rattle.larch_term.specs.declared.built_in.BuiltIn.TheVariants.{True, False}
use Rattle.larch_term.specs.declared.statement.Statement.{Statement}
use Rattle.larch_term.specs.declared.statement.Statement.TheVariants.{Equation}
use Rattle.larch_term.specs.declared.variable.Variable.{Variable}
use Rattle.larch_calculus.proofs.TermLawOccurring.{listed_occurs}
use Rattle.larch_calculus.specs.Formula.{falsity}
use Rattle.larch_calculus.specs.Freed.{constants_for}
use Rattle.larch_calculus.proofs.Freeing.{constants_close}
use Rattle.larch_certificate.specs.declared.line.CodedVar.{CodedVar}
use Rattle.larch_derive.specs.VerifyMeaningMatching.{variable_of}
use Rattle.larch_derive.specs.Builder.{IsOpened, boxes_in}
use Rattle.larch_derive.specs.Words.{IsWordedOperator}
use Rattle.larch_derive.specs.Predicates.{Extends, Grows, HasEquation, Known, HasNoBadLine}
use Rattle.larch_derive.specs.declared.builder.Builder.{Builder}
use Rattle.larch_derive.specs.declared.open_box.OpenBox.{OpenBox}
use Rattle.larch_derive.proofs.Growth.{grows_alike, grows_trans, known_stands, stays_known}
use Rattle.larch_derive.proofs.Start.{known_own}
use Rattle.larch_derive_clauses.specs.DeriveBoxesBoxes.{MaySuppose, Opens, HasResult, AreOwnConstants, with_constants}
use Rattle.larch_derive_clauses.proofs.DeriveBoxesClosing.{grown_result}
use Rattle.larch_derive_clauses.proofs.DeriveBoxesOpening.{opens, may_suppose, opened_known}
use Rattle.larch_methods.specs.Inside.{IsInside, ShowsUnder, closed_in, value_term, written_variable}
use Rattle.larch_methods.specs.Methods.{IsKnownFormula}

-- ---- inside a box

pub inside_grown : (a b c : Builder) (x : OpenBox) (vs : List Variable) → IsInside a b x vs → Grows b c
    → IsInside a c x vs
inside_grown a b c x vs h g =
    record {
      opened = h.opened;
      opens = h.opens;
      grows = grows_trans h.opened b c h.grows g;
      own = h.own;
      sorts = h.sorts;
      names = h.names;
    }

pub inside_as : (a b : Builder) (x : OpenBox) (vs ws : List Variable) → ws ≡ vs → IsInside a b x vs
    → IsInside a b x ws
inside_as a b x vs ws e h = subst (IsInside a b x) (sym e) h

pub closed_as : (b : Builder) (n : ℕ) (x : OpenBox) (vs ws : List Variable) (l r : Tree) → ws ≡ vs
    → HasEquation b n (closed_in vs x l) (closed_in vs x r) → HasEquation b n (closed_in ws x l) (closed_in ws x r)
closed_as b n x vs ws l r e h =
    subst (λ us. HasEquation b n (closed_in us x l) (closed_in us x r)) (sym e) h

pub own_still : (a b : Builder) (x : OpenBox) → Grows a b → AreOwnConstants (boxes_in a) x
    → AreOwnConstants (boxes_in b) x
own_still a b x g h = subst (λ bs. AreOwnConstants bs x) (sym (grows_alike a b g).1) h

-- a variable that is written is the variable
pub written_back : (vs : List Variable) → map variable_of (map written_variable vs) ≡ vs
written_back [] = refl
written_back (v ∷ vs) = ap (λ us. v ∷ us) (written_back vs)

-- the result as the line fresh takes it
pub result_for : (b : Builder) (ws : List CodedVar) (vs : List Variable) (x : OpenBox) (l r : Tree)
    → map variable_of ws ≡ vs → HasResult b x [] (Equation (closed_in vs x l) (closed_in vs x r))
    → HasResult b x [] (Equation (with_constants ws x l) (with_constants ws x r))
result_for b ws vs x l r e h =
    subst (λ us. HasResult b x [] (Equation (closed_in us x l) (closed_in us x r))) (sym e) h

-- a formula has no variables when there are constants in their places
pub closed_up : (cs : List PlainOperator) (f : Tree) → map (λ c. c.range) cs ≡ map (λ v. v.sort) (variables_of f)
    → occurrences (instance_of (constants_for (variables_of f) cs) f) ≡ []
closed_up cs f e =
    constants_close cs (variables_of f) f e
    (all_from (Contains (variables_of f)) (occurrences f) (λ v c. (listed_occurs f v).1 c))

pub said_left : (b : Builder) (n : ℕ) (l m r : Tree) → l ≡ m → HasEquation b n l r → HasEquation b n m r
said_left b n l m r e h = subst (λ t. HasEquation b n t r) e h

pub said_right : (b : Builder) (n : ℕ) (l r s : Tree) → r ≡ s → HasEquation b n l r → HasEquation b n l s
said_right b n l r s e h = subst (HasEquation b n l) e h

-- ---- truth values

pub value_known : (b : Builder) (v : Bool) → HasNoBadLine b → Known b (value_term v)
value_known b true h = known_own b truth h ((refl, tt), (inr (True, (bool_sort, refl)), tt)) ((tt, refl), tt)
value_known b false h = known_own b falsity h ((refl, tt), (inr (False, (bool_sort, refl)), tt)) ((tt, refl), tt)

pub value_sort : (v : Bool) → sort_of (value_term v) ≡ bool_sort
value_sort true = refl
value_sort false = refl

-- ---- boxes that suppose a formula or its contrary

may_be_supposed : (a : Builder) (n : ℕ) (f : Tree) (v : Bool) → IsKnownFormula a f
    → MaySuppose a (record { number = n; constants = [] }) (Equation f (value_term v))
may_be_supposed a n f v k =
    may_suppose a (record { number = n; constants = [] }) f (value_term v)
    (All-nil (λ c. IsKnown a.theory.operators c → ⊥)) k.known
    (value_known a v (known_stands a f k.known)) (k.sort ∙ sym (value_sort v))

pub supposing_opens : (a b : Builder) (cs : List PlainOperator) (hs : List Statement) (n : ℕ) (f : Tree) (v : Bool)
    → cs ≡ [] → hs ≡ Equation f (value_term v) ∷ [] → IsOpened a b cs hs n → IsKnownFormula a f
    → Opens a b (record { number = n; constants = [] }) (Equation f (value_term v) ∷ [])
supposing_opens a b cs hs n f v e q o k =
    let x : OpenBox = record { number = n; constants = [] } in
    opens a b n [] (Equation f (value_term v) ∷ [])
    (subst (λ ds. IsOpened a b ds (Equation f (value_term v) ∷ []) n) e (subst (λ us. IsOpened a b cs us n) q o))
    (known_stands a f k.known) (All-nil (λ c. IsKnown a.theory.operators c → ⊥))
    (All-cons (MaySuppose a x) (Equation f (value_term v)) [] (may_be_supposed a n f v k) (All-nil (MaySuppose a x)))
    (All-nil IsWordedOperator)

pub shows_still : (a b : Builder) (f : Tree) (v : Bool) (g : Tree) (n : ℕ) → Grows a b → ShowsUnder a f v g n
    → ShowsUnder b f v g n
shows_still a b f v g n x h =
    record {
      box = h.box;
      number_is = h.number_is;
      bare = h.bare;
      result = grown_result a b h.box (Equation f (value_term v) ∷ []) (Equation g truth) x h.result;
    }

-- a formula that is known outside is known inside
pub formula_inside : (a b c : Builder) (x : OpenBox) (hs : List Statement) (f : Tree) → Opens a b x hs → Extends b c
    → IsKnownFormula a f → IsKnownFormula c f
formula_inside a b c x hs f o e k =
    record { known = stays_known b c f e (opened_known a b x hs f o k.known); sort = k.sort }

pub shows_of : (b : Builder) (n : ℕ) (e f g : Tree) (v : Bool) → e ≡ f
    → HasResult b (record { number = n; constants = [] }) (Equation e (value_term v) ∷ []) (Equation g truth)
    → ShowsUnder b f v g n
shows_of b n e f g v q h =
    record {
      box = record { number = n; constants = [] };
      number_is = refl;
      bare = refl;
      result = subst (λ t. HasResult b (record { number = n; constants = [] }) (Equation t (value_term v) ∷ [])
          (Equation g truth)) q h;
    }
