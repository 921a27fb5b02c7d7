-- Programs compute the values of terms.
use Rattle.std.proofs.Common.{◌≡◌, ◌<◌, ◌+◌, ◌-◌, ◌&&◌, ℕ, suc, Bool, true, false, cond, List, [], ◌∷◌, ◌++◌}
use Rattle.std.proofs.Common.{Option, None, Some, bytes_eq, drop, get_or, length, take, refl, sym, ◌∙◌, ap, subst}
use Rattle.std.proofs.Common.{arith}
use Rattle.std.proofs.Common.{append_assoc, length-append}
use Rattle.std.proofs.Math.Seq.{drop-append_seam, take-append_seam}
use Rattle.std.proofs.lemmas.List.{append-nil, take_more}
use Rattle.larch_term.specs.Operator.{PlainOperator}
use Rattle.larch_term.specs.Tree.{Tree, var, app, none, forest_of}
use Rattle.larch_term.specs.declared.variable.Variable.{Variable}
use Rattle.larch_models_meaning.specs.declared.finite_model.FiniteModel.{FiniteModel}
use Rattle.larch_models_meaning.specs.Computed.{update, zeros}
use Rattle.larch_models_meaning.specs.FiniteModel.{interpretation_of}
use Rattle.larch_models_meaning.specs.Interpretation.{Assignment, Interpretation, value_of, values_of}
use Rattle.larch_models.specs.Tables.{made_by}
use Rattle.larch_models.specs.Stacks.{Adds, AddsAll, Applies, Computes, assignment_of, place_among, run, step}
use Rattle.larch_models.specs.Stacks.{top}
use Rattle.larch_models.specs.Stacks.{value_at}
use Rattle.larch_models.specs.declared.maker.Maker.{Maker}
use Rattle.larch_models.specs.declared.program.Instruction.{Instruction}
use Rattle.larch_models.specs.declared.program.Instruction.TheVariants.{Variable as Known, Apply}
use Rattle.larch_models.proofs.Rests.{drop_item, drop_next}

pub run_more : (is js : List Instruction) (vs st : List ℕ) → run (is ++ js) vs st ≡ run js vs (run is vs st)
run_more [] js vs st = refl
run_more (i ∷ is) js vs st = run_more is js vs (step vs i st)

-- ---- variables

chosen_at : (us : List ℕ) (b : Bool) (k u v : ℕ) (o : Option ℕ) → get_or us k 0 ≡ u → v ≡ value_at us o
    → cond b u v ≡ value_at us (cond b (Some k) o)
chosen_at us true k u v o e h = sym e
chosen_at us false k u v o e h = h

next_place : (k i : ℕ) → suc k + i ≡ k + suc i
next_place k i = omega arith

-- the assignment of values has for a variable the value at its place
assigned_at : (ws : List Variable) (us all : List ℕ) (k : ℕ) (a : Assignment) (o : Option ℕ) (n s : List ℕ)
    → length us ≡ length ws → ((i : ℕ) → get_or all (k + i) 0 ≡ get_or us i 0) → a n s ≡ value_at all o
    → assignment_of a ws us n s ≡ value_at all (place_among k ws n s o)
assigned_at [] us all k a o n s l h e = e
assigned_at (w ∷ ws) [] all k a o n s l h e = absurd (omega (arith, l))
assigned_at (w ∷ ws) (u ∷ us) all k a o n s l h e =
    let b = bytes_eq w.name n && bytes_eq w.sort s in
    let here : get_or all k 0 ≡ u = ap (λ j. get_or all j 0) (nothing_more k) ∙ h 0 in
    assigned_at ws us all (suc k) (update w.name w.sort u a) (cond b (Some k) o) n s (omega (arith, l))
    (λ i. ap (λ j. get_or all j 0) (next_place k i) ∙ h (suc i)) (chosen_at all b k u (a n s) o here e)
  where
    nothing_more : (k : ℕ) → k ≡ k + 0
    nothing_more k = omega arith

from_nothing : (vs : List ℕ) (i : ℕ) → get_or vs (0 + i) 0 ≡ get_or vs i 0
from_nothing vs i = ap (λ j. get_or vs j 0) (same i)
  where
    same : (i : ℕ) → 0 + i ≡ i
    same i = omega arith

pub adds_variable : (m : FiniteModel) (ws : List Variable) (is : List Instruction) (k : Option ℕ) (n s : List ℕ)
    → k ≡ place_among 0 ws n s None → Adds m ws is (is ++ Known k ∷ []) (var n s)
adds_variable m ws is k n s e vs start st l h =
    run_more is (Known k ∷ []) vs start ∙ ap (λ xs. xs ++ value_at vs k ∷ []) h
    ∙ ap (λ v. st ++ v ∷ [])
    (ap (value_at vs) e ∙ sym (assigned_at ws vs vs 0 zeros None n s l (from_nothing vs) refl))

-- ---- operators

on_top : (us vs : List ℕ) (n v : ℕ) → length vs ≡ n → take (length (us ++ vs) - n) (us ++ vs) ≡ us
on_top us vs n v l =
    let e : length (us ++ vs) - n ≡ length us = omega (arith, length-append us vs, l) in
    ap (λ k. take k (us ++ vs)) e ∙ take-append_seam us vs

taken_off : (us vs : List ℕ) (n : ℕ) → length vs ≡ n → drop (length (us ++ vs) - n) (us ++ vs) ≡ vs
taken_off us vs n l =
    let e : length (us ++ vs) - n ≡ length us = omega (arith, length-append us vs, l) in
    ap (λ k. drop k (us ++ vs)) e ∙ drop-append_seam us vs

pub applies : (m : FiniteModel) (f : PlainOperator) (n : ℕ) (is : List Instruction) (k : Maker)
    → made_by k ≡ (interpretation_of m).table f → Applies m f n is (is ++ Apply k n ∷ [])
applies m f n is k e vs start st us l h =
    run_more is (Apply k n ∷ []) vs start ∙ ap (λ xs. step vs (Apply k n) xs) h
    ∙ ap (λ xs. xs ++ made_by k (drop (length (st ++ us) - n) (st ++ us)) ∷ []) (on_top st us n 0 l)
    ∙ ap (λ xs. st ++ made_by k xs ∷ []) (taken_off st us n l) ∙ ap (λ g. st ++ g us ∷ []) e

-- ---- terms

pub adds_nothing : (m : FiniteModel) (ws : List Variable) (is : List Instruction) → AddsAll m ws is is none
adds_nothing m ws is vs start st l h = h ∙ sym (append-nil st)

values_more : (m : Interpretation) (a : Assignment) (ts : List Tree) (t : Tree)
    → values_of m a (forest_of (ts ++ t ∷ [])) ≡ values_of m a (forest_of ts) ++ value_of m a t ∷ []
values_more m a [] t = refl
values_more m a (u ∷ ts) t = ap (λ vs. value_of m a u ∷ vs) (values_more m a ts t)

pub adds_one_more : (m : FiniteModel) (ws : List Variable) (is js ks : List Instruction) (ts : List Tree) (t : Tree)
    → AddsAll m ws is js (forest_of ts) → Adds m ws js ks t → AddsAll m ws is ks (forest_of (ts ++ t ∷ []))
adds_one_more m ws is js ks ts t h d vs start st l e =
    let a = assignment_of zeros ws vs in
    let i = interpretation_of m in
    let us = values_of i a (forest_of ts) in
    d vs start (st ++ us) l (h vs start st l e) ∙ append_assoc st us (value_of i a t ∷ [])
    ∙ ap (λ xs. st ++ xs) (sym (values_more i a ts t))

pub adds_step : (m : FiniteModel) (ws : List Variable) (is js ks : List Instruction) (ts : List Tree) (i : ℕ) (t : Tree)
    → i < length ts → t ≡ get_or ts i t → AddsAll m ws is js (forest_of (take i ts)) → Adds m ws js ks t
    → AddsAll m ws is ks (forest_of (take (i + 1) ts))
adds_step m ws is js ks ts i t l e h d =
    subst (λ us. AddsAll m ws is ks (forest_of us))
    (sym (take_more ts i t l ∙ ap (λ u. take i ts ++ u ∷ []) (sym e))) (adds_one_more m ws is js ks (take i ts) t h d)

values_count : (m : Interpretation) (a : Assignment) (ts : List Tree)
    → length (values_of m a (forest_of ts)) ≡ length ts
values_count m a [] = refl
values_count m a (t ∷ ts) = ap suc (values_count m a ts)

pub adds_application : (m : FiniteModel) (ws : List Variable) (is js ks : List Instruction) (f : PlainOperator)
    (ts : List Tree) → AddsAll m ws is js (forest_of ts) → Applies m f (length ts) js ks
    → Adds m ws is ks (app f (forest_of ts))
adds_application m ws is js ks f ts h d vs start st l e =
    let a = assignment_of zeros ws vs in
    let i = interpretation_of m in
    d vs start st (values_of i a (forest_of ts)) (values_count i a ts) (h vs start st l e)

pub computes : (m : FiniteModel) (ws : List Variable) (is : List Instruction) (t : Tree) → Adds m ws [] is t
    → Computes m ws is t
computes m ws is t h vs l = ap top (h vs [] [] l refl)

pub next_step : (is : List Instruction) (i : ℕ) (j : Instruction) (vs st : List ℕ) → i < length is → j ≡ get_or is i j
    → run (drop (i + 1) is) vs (step vs j st) ≡ run (drop i is) vs st
next_step is i j vs st l e =
    sym (ap (λ ks. run ks vs st) (drop_next is i j l e))

-- the number of a variable, one variable further
pub place_further : (ws : List Variable) (i : ℕ) (n s : List ℕ) (o : Option ℕ) (d : Variable) → i < length ws
    → place_among (i + 1) (drop (i + 1) ws) n s
    (cond (bytes_eq (get_or ws i d).name n && bytes_eq (get_or ws i d).sort s) (Some i) o)
    ≡ place_among i (drop i ws) n s o
place_further ws i n s o d l =
    ap (λ k. place_among k (drop (i + 1) ws) n s
    (cond (bytes_eq (get_or ws i d).name n && bytes_eq (get_or ws i d).sort s) (Some i) o)) (one_more i)
    ∙ sym (ap (λ us. place_among i us n s o) (drop_item ws i d l))
  where
    one_more : (i : ℕ) → i + 1 ≡ suc i
    one_more i = omega arith
