-- A term has one text: the machine reads what is written, and what it reads is written so.
use Rattle.std.proofs.Common.{◌≡◌, ℕ, ◌==◌, cond, Bool, true, false, List, [], ◌∷◌, ◌++◌, Option, Some, None, refl, sym}
use Rattle.std.proofs.Common.{◌∙◌, ap, arith, append-nil, append_assoc, subst}
use Rattle.std.proofs.lemmas.Grind.{common_steps}
use Rattle.std.proofs.lemmas.Bool.{cond-false, ne_eqb, eqb-true, and_parts}
use Rattle.std.proofs.lemmas.Option.{none-some, same_Some, some_pair_parts}
use Rattle.larch_certificate.specs.BaseWord.{is_word}
use Rattle.larch_certificate_text.specs.declared.here.Here.{Here}
use Rattle.larch_certificate_text.specs.declared.machine.Frame.{Frame}
use Rattle.larch_certificate_text.specs.declared.machine.Machine.{Machine}
use Rattle.larch_certificate.specs.declared.symbol.Symbol.{Symbol}
use Rattle.larch_certificate_text.specs.ByteClasses.{passes, is_word_byte, is_op_byte, is_atom_byte}
use Rattle.larch_certificate_text.specs.SymbolText.{symbol_text, FitSymbol, read_symbol, read_leaf}
use Rattle.larch_certificate_text.specs.Parts.{IsSmall, Each}
use Rattle.larch_certificate_text.specs.TermText.{term_text, arguments_text, others_text, FitTerm, FitTerms, Progress}
use Rattle.larch_certificate_text.specs.TermText.{stuck, goes, ends, fresh, with_atom, with_closed, open_frame}
use Rattle.larch_certificate_text.specs.TermText.{with_done, value_by, value_of, open_by, comma_by, settle, close_by}
use Rattle.larch_certificate_text.specs.TermText.{byte_by, step, Front, then_run, at_end, run}
use Rattle.larch_certificate.specs.Coded.{CodedTree, CodedForest, coded_var, coded_app, no_terms, term_then}
use Rattle.larch_certificate.specs.Coded.{coded_forest_of, coded_list_of}
use Rattle.larch_certificate_text.proofs.Bytes.{lacks, passes_more, passes_append, word_in_op, op_in_atom, word_passes}
use Rattle.larch_certificate_text.proofs.SymbolLaws.{op_passes, op_again, op_read, variable_again, constant_again}
use Rattle.larch_certificate_text.proofs.SymbolLaws.{leaf_read}

pub forest_of_list_of : (ts : CodedForest) → coded_forest_of (coded_list_of ts) ≡ ts
forest_of_list_of no_terms = refl
forest_of_list_of (term_then t ts) = ap (λ us. term_then t us) (forest_of_list_of ts)

-- ---- what is written is read again

-- the machine goes on after some progress
abbrev pub onward : Here → Progress → List ℕ → Front
onward h p rest = then_run p (λ n. run h n rest) (λ t. Some (t, rest))

pub run_step : (h : Here) (m : Machine) (b : ℕ) (rest : List ℕ) → run h m (b ∷ rest) ≡ onward h (step h m b) rest
unfolding run
run_step h m b rest = refl

-- a byte of a leaf is put to the others
pub run_byte : (h : Here) (xs : List ℕ) (k : List Frame) (b : ℕ) (rest : List ℕ) → is_atom_byte b ≡ true
    → run h (with_atom xs k) (b ∷ rest) ≡ run h (with_atom (xs ++ (b ∷ [])) k) rest
run_byte h xs k b rest a =
    let l = lacks is_atom_byte in
    let o : passes is_atom_byte (b ∷ []) ≡ true = grind (arith, common_steps) in
    run_step h (with_atom xs k) b rest
    ∙ ap (λ p. onward h p rest) (
    cond-false (b == 40) (open_by None (read_symbol h xs) k) _ (ne_eqb b 40 (l 40 (b ∷ []) o refl).0)
    ∙ cond-false (b == 44) (comma_by (read_leaf h xs) k) _ (ne_eqb b 44 (l 44 (b ∷ []) o refl).0)
    ∙ cond-false (b == 41) (close_by (read_leaf h xs) k) _ (ne_eqb b 41 (l 41 (b ∷ []) o refl).0))

pub run_bytes : (h : Here) (xs ys : List ℕ) (k : List Frame) (rest : List ℕ) → passes is_atom_byte ys ≡ true
    → run h (with_atom xs k) (ys ++ rest) ≡ run h (with_atom (xs ++ ys) k) rest
run_bytes h xs [] k rest a = ap (λ z. run h (with_atom z k) rest) (sym (append-nil xs))
run_bytes h xs (y ∷ ys) k rest a =
    let s : (is_atom_byte y ≡ true) × (passes is_atom_byte ys ≡ true) =
    and_parts (is_atom_byte y) (passes is_atom_byte ys) a in
    run_byte h xs k y (ys ++ rest) s.0
    ∙ run_bytes h (xs ++ (y ∷ [])) ys k rest s.1
    ∙ ap (λ z. run h (with_atom z k) rest) (append_assoc xs (y ∷ []) ys)

-- the state behind the text of a term
abbrev pub after : Here → CodedTree → List Frame → List ℕ → Front
after h (coded_var n s) k rest = run h (with_atom (n ++ (58 ∷ s)) k) rest
after h (coded_app f no_terms) k rest = run h (with_atom (symbol_text h f) k) rest
after h (coded_app f (term_then t ts)) k rest = onward h (settle (coded_app f (term_then t ts)) k) rest

pub after_comma : (h : Here) (t : CodedTree) (fr : Frame) (k : List Frame) (rest : List ℕ) → IsSmall h.line → FitTerm t
    → after h t (fr ∷ k) (44 ∷ rest) ≡ run h (fresh (with_done fr t ∷ k)) rest
after_comma h (coded_var n s) fr k rest l f =
    run_step h (with_atom (n ++ (58 ∷ s)) (fr ∷ k)) 44 rest
    ∙ ap (λ v. onward h (comma_by v (fr ∷ k)) rest) (variable_again h n s f.0 f.1)
after_comma h (coded_app g no_terms) fr k rest l f =
    run_step h (with_atom (symbol_text h g) (fr ∷ k)) 44 rest
    ∙ ap (λ v. onward h (comma_by v (fr ∷ k)) rest) (constant_again h g l f.0)
after_comma h (coded_app g (term_then t ts)) fr k rest l f =
    run_step h (with_closed (coded_app g (term_then t ts)) (fr ∷ k)) 44 rest

pub after_close : (h : Here) (t : CodedTree) (fr : Frame) (k : List Frame) (rest : List ℕ) → IsSmall h.line → FitTerm t
    → after h t (fr ∷ k) (41 ∷ rest)
    ≡ onward h (settle (coded_app fr.symbol (coded_forest_of (fr.done ++ (t ∷ [])))) k) rest
after_close h (coded_var n s) fr k rest l f =
    run_step h (with_atom (n ++ (58 ∷ s)) (fr ∷ k)) 41 rest
    ∙ ap (λ v. onward h (close_by v (fr ∷ k)) rest) (variable_again h n s f.0 f.1)
after_close h (coded_app g no_terms) fr k rest l f =
    run_step h (with_atom (symbol_text h g) (fr ∷ k)) 41 rest
    ∙ ap (λ v. onward h (close_by v (fr ∷ k)) rest) (constant_again h g l f.0)
after_close h (coded_app g (term_then t ts)) fr k rest l f =
    run_step h (with_closed (coded_app g (term_then t ts)) (fr ∷ k)) 41 rest

pub op_run : (h : Here) (g : Symbol) (k : List Frame) (rest : List ℕ) → IsSmall h.line → FitSymbol g
    → run h (fresh k) (symbol_text h g ++ rest) ≡ run h (with_atom (symbol_text h g) k) rest
op_run h g k rest l f =
    run_bytes h [] (symbol_text h g) k rest
    (passes_more is_op_byte is_atom_byte op_in_atom (symbol_text h g) (op_passes h g l f))

pub var_passes : (n s : List ℕ) → is_word n ≡ true → is_word s ≡ true → passes is_atom_byte (n ++ (58 ∷ s)) ≡ true
var_passes n s a b =
    let w : (x : ℕ) → is_word_byte x ≡ true → is_atom_byte x ≡ true = λ x e. op_in_atom x (word_in_op x e) in
    passes_append is_atom_byte n (58 ∷ s) (passes_more is_word_byte is_atom_byte w n (word_passes n a))
    (passes_more is_word_byte is_atom_byte w s (word_passes s b))

mutual
  pub tree_run : (h : Here) (t : CodedTree) (k : List Frame) (rest : List ℕ) → IsSmall h.line → FitTerm t
      → run h (fresh k) (term_text h t ++ rest) ≡ after h t k rest
  tree_run h (coded_var n s) k rest l f = run_bytes h [] (n ++ (58 ∷ s)) k rest (var_passes n s f.0 f.1)
  tree_run h (coded_app g no_terms) k rest l f =
      ap (λ z. run h (fresh k) (z ++ rest)) (append-nil (symbol_text h g)) ∙ op_run h g k rest l f.0
  tree_run h (coded_app g (term_then t ts)) k rest l f =
      ap (run h (fresh k)) (append_assoc (symbol_text h g) (40 ∷ (term_text h t ++ others_text h ts)) rest)
      ∙ op_run h g k (40 ∷ ((term_text h t ++ others_text h ts) ++ rest)) l f.0
      ∙ run_step h (with_atom (symbol_text h g) k) 40 ((term_text h t ++ others_text h ts) ++ rest)
      ∙ ap (λ v. onward h (open_by None v k) ((term_text h t ++ others_text h ts) ++ rest)) (op_again h g l f.0)
      ∙ ap (run h (fresh (open_frame g ∷ k))) (append_assoc (term_text h t) (others_text h ts) rest)
      ∙ tree_run h t (open_frame g ∷ k) (others_text h ts ++ rest) l f.1.0
      ∙ others_run h t ts (open_frame g) k rest l f.1.0 f.1.1
      ∙ ap (λ us. onward h (settle (coded_app g (term_then t us)) k) rest) (forest_of_list_of ts)

  pub others_run : (h : Here) (t : CodedTree) (ts : CodedForest) (fr : Frame) (k : List Frame) (rest : List ℕ)
      → IsSmall h.line → FitTerm t → FitTerms ts
      → after h t (fr ∷ k) (others_text h ts ++ rest)
      ≡ onward h (settle (coded_app fr.symbol (coded_forest_of (fr.done ++ (t ∷ coded_list_of ts)))) k) rest
  others_run h t no_terms fr k rest l f fs = after_close h t fr k rest l f
  others_run h t (term_then u us) fr k rest l f fs =
      after_comma h t fr k ((term_text h u ++ others_text h us) ++ rest) l f
      ∙ ap (run h (fresh (with_done fr t ∷ k))) (append_assoc (term_text h u) (others_text h us) rest)
      ∙ tree_run h u (with_done fr t ∷ k) (others_text h us ++ rest) l fs.0
      ∙ others_run h u us (with_done fr t) k rest l fs.0 fs.1
      ∙ ap (λ z. onward h (settle (coded_app fr.symbol (coded_forest_of z)) k) rest)
      (append_assoc fr.done (t ∷ []) (u ∷ coded_list_of us))

-- ---- what is read is written so

abbrev pub done_text : Here → List CodedTree → List ℕ
done_text h [] = []
done_text h (t ∷ ts) = term_text h t ++ (44 ∷ done_text h ts)

-- what was read for a frame
abbrev pub frame_text : Here → Frame → List ℕ
frame_text h fr = symbol_text h fr.symbol ++ (40 ∷ done_text h fr.done)

abbrev pub stack_text : Here → List Frame → List ℕ
stack_text h [] = []
stack_text h (fr ∷ k) = stack_text h k ++ frame_text h fr

abbrev pub now_text : Here → Option CodedTree → List ℕ → List ℕ
now_text h (Some t) atom = term_text h t
now_text h None atom = atom

-- what the machine has read so far
abbrev pub state_text : Here → Machine → List ℕ
state_text h m = stack_text h m.stack ++ now_text h m.closed m.atom

abbrev pub FitFrame : Frame → Type 0
FitFrame fr = FitSymbol fr.symbol × Each FitTerm fr.done

abbrev pub FitClosed : Option CodedTree → Type 0
FitClosed None = Unit {0}
FitClosed (Some t) = FitTerm t

abbrev pub FitMachine : Machine → Type 0
FitMachine m = Each FitFrame m.stack × FitClosed m.closed

pub done_more : (h : Here) (ts : List CodedTree) (t : CodedTree)
    → done_text h (ts ++ (t ∷ [])) ≡ done_text h ts ++ (term_text h t ++ (44 ∷ []))
done_more h [] t = refl
done_more h (u ∷ us) t =
    ap (λ z. term_text h u ++ (44 ∷ z)) (done_more h us t)
    ∙ sym (append_assoc (term_text h u) (44 ∷ done_text h us) (term_text h t ++ (44 ∷ [])))

pub each_more : {A : Type 0} (P : A → Type 0) (xs : List A) (x : A) → Each P xs → P x → Each P (xs ++ (x ∷ []))
each_more P [] x e p = (p, tt)
each_more P (y ∷ ys) x e p = (e.0, each_more P ys x e.1 p)

-- the arguments of a frame, closed
pub others_closed : (h : Here) (ts : List CodedTree) (t : CodedTree)
    → others_text h (coded_forest_of (ts ++ (t ∷ []))) ≡ 44 ∷ (done_text h ts ++ (term_text h t ++ (41 ∷ [])))
others_closed h [] t = refl
others_closed h (u ∷ us) t =
    ap (λ z. 44 ∷ (term_text h u ++ z)) (others_closed h us t)
    ∙ ap (λ z. 44 ∷ z) (sym (append_assoc (term_text h u) (44 ∷ done_text h us) (term_text h t ++ (41 ∷ []))))

pub list_closed : (h : Here) (ts : List CodedTree) (t : CodedTree)
    → arguments_text h (coded_forest_of (ts ++ (t ∷ []))) ≡ 40 ∷ (done_text h ts ++ (term_text h t ++ (41 ∷ [])))
list_closed h [] t = refl
list_closed h (u ∷ us) t =
    ap (λ z. 40 ∷ (term_text h u ++ z)) (others_closed h us t)
    ∙ ap (λ z. 40 ∷ z) (sym (append_assoc (term_text h u) (44 ∷ done_text h us) (term_text h t ++ (41 ∷ []))))

pub fit_closed : (ts : List CodedTree) (t : CodedTree) → Each FitTerm ts → FitTerm t
    → FitTerms (coded_forest_of (ts ++ (t ∷ [])))
fit_closed [] t e f = (f, tt)
fit_closed (u ∷ us) t e f = (e.0, fit_closed us t e.1 f)

-- the value is what was read last
pub value_read : (h : Here) (o : Option CodedTree) (atom : List ℕ) (t : CodedTree) → IsSmall h.line → FitClosed o
    → value_by h o atom ≡ Some t → (now_text h o atom ≡ term_text h t) × FitTerm t
value_read h (Some u) atom t l f e =
    subst (λ t. (term_text h u ≡ term_text h t) × FitTerm t) (same_Some u t e) (refl, f)
value_read h None atom t l f e = leaf_read h atom t l e

-- what a byte made of what was read
abbrev pub Keeps : Here → List ℕ → Progress → Type 0
Keeps h text stuck = Unit {0}
Keeps h text (goes m) = (text ≡ state_text h m) × FitMachine m
Keeps h text (ends t) = (text ≡ term_text h t) × FitTerm t

open_keeps : (h : Here) (o : Option CodedTree) (f : Option Symbol) (atom : List ℕ) (k : List Frame) → IsSmall h.line
    → Each FitFrame k → read_symbol h atom ≡ f
    → Keeps h ((stack_text h k ++ now_text h o atom) ++ (40 ∷ [])) (open_by o f k)
open_keeps h (Some t) f atom k l e i = tt
open_keeps h None None atom k l e i = tt
open_keeps h None (Some f) atom k l e i =
    let r = op_read h atom f l i in (
      ap (λ z. (stack_text h k ++ z) ++ (40 ∷ [])) r.0 ∙ append_assoc (stack_text h k) (symbol_text h f) (40 ∷ [])
          ∙ sym (append-nil (stack_text h k ++ (symbol_text h f ++ (40 ∷ [])))),
      (((r.1, tt), e), tt),
    )

comma_text : (s f d t : List ℕ)
    → ((s ++ (f ++ (40 ∷ d))) ++ t) ++ (44 ∷ []) ≡ (s ++ (f ++ (40 ∷ (d ++ (t ++ (44 ∷ [])))))) ++ []
comma_text s f d t = simp (append_assoc, append-nil) refl

close_text : (s f d t : List ℕ)
    → ((s ++ (f ++ (40 ∷ d))) ++ t) ++ (41 ∷ []) ≡ s ++ (f ++ (40 ∷ (d ++ (t ++ (41 ∷ [])))))
close_text s f d t = simp (append_assoc, append-nil) refl

comma_keeps : (h : Here) (o : Option CodedTree) (atom : List ℕ) (k : List Frame) (v : Option CodedTree) → IsSmall h.line
    → Each FitFrame k → FitClosed o → value_by h o atom ≡ v
    → Keeps h ((stack_text h k ++ now_text h o atom) ++ (44 ∷ [])) (comma_by v k)
comma_keeps h o atom k None l e f i = tt
comma_keeps h o atom [] (Some t) l e f i = tt
comma_keeps h o atom (fr ∷ k) (Some t) l e f i =
    let r = value_read h o atom t l f i in (
      rw (r.0, done_more h fr.done t)
          (comma_text (stack_text h k) (symbol_text h fr.symbol) (done_text h fr.done) (term_text h t)),
      (((e.0.0, each_more FitTerm fr.done t e.0.1 r.1), e.1), tt),
    )

settle_keeps : (h : Here) (text : List ℕ) (t : CodedTree) (k : List Frame) → text ≡ stack_text h k ++ term_text h t
    → Each FitFrame k → FitTerm t → Keeps h text (settle t k)
settle_keeps h text t [] e f g = (e, g)
settle_keeps h text t (fr ∷ k) e f g = (e, (f, g))

close_keeps : (h : Here) (o : Option CodedTree) (atom : List ℕ) (k : List Frame) (v : Option CodedTree) → IsSmall h.line
    → Each FitFrame k → FitClosed o → value_by h o atom ≡ v
    → Keeps h ((stack_text h k ++ now_text h o atom) ++ (41 ∷ [])) (close_by v k)
close_keeps h o atom k None l e f i = tt
close_keeps h o atom [] (Some t) l e f i = tt
close_keeps h o atom (fr ∷ k) (Some t) l e f i =
    let r = value_read h o atom t l f i in
    settle_keeps h _ (coded_app fr.symbol (coded_forest_of (fr.done ++ (t ∷ [])))) k
    (rw (r.0, list_closed h fr.done t)
    (close_text (stack_text h k) (symbol_text h fr.symbol) (done_text h fr.done) (term_text h t))) e.1
    (e.0.0, fit_closed fr.done t e.0.1 r.1)

byte_keeps : (h : Here) (o : Option CodedTree) (m : Machine) (b : ℕ) → m.closed ≡ o → Each FitFrame m.stack
    → Keeps h ((stack_text h m.stack ++ now_text h o m.atom) ++ (b ∷ [])) (byte_by o m b)
byte_keeps h (Some t) m b i e = tt
byte_keeps h None m b i e = (append_assoc (stack_text h m.stack) m.atom (b ∷ []), (e, tt))

step_by : (h : Here) (m : Machine) (b : ℕ) (s t u : Bool) → (b == 40) ≡ s → (b == 44) ≡ t → (b == 41) ≡ u
    → IsSmall h.line → FitMachine m
    → Keeps h (state_text h m ++ (b ∷ []))
    (cond s (open_by m.closed (read_symbol h m.atom) m.stack)
    (cond t (comma_by (value_of h m) m.stack) (cond u (close_by (value_of h m) m.stack) (byte_by m.closed m b))))
step_by h m b true t u i j o l f =
    rw (eqb-true b 40 i) (open_keeps h m.closed (read_symbol h m.atom) m.atom m.stack l f.0 refl)
step_by h m b false true u i j o l f =
    rw (eqb-true b 44 j) (comma_keeps h m.closed m.atom m.stack (value_of h m) l f.0 f.1 refl)
step_by h m b false false true i j o l f =
    rw (eqb-true b 41 o) (close_keeps h m.closed m.atom m.stack (value_of h m) l f.0 f.1 refl)
step_by h m b false false false i j o l f = byte_keeps h m.closed m b refl f.0

pub step_keeps : (h : Here) (m : Machine) (b : ℕ) → IsSmall h.line → FitMachine m
    → Keeps h (state_text h m ++ (b ∷ [])) (step h m b)
step_keeps h m b l f = step_by h m b (b == 40) (b == 44) (b == 41) refl refl refl l f

end_read : (h : Here) (m : Machine) (v : Option CodedTree) (k : List Frame) (t : CodedTree) (rest : List ℕ)
    → m.stack ≡ k → value_of h m ≡ v → IsSmall h.line → FitMachine m → at_end v k ≡ Some (t, rest)
    → (state_text h m ++ [] ≡ term_text h t ++ rest) × FitTerm t
end_read h m None k t rest i j l f e = absurd (none-some (t, rest) e)
end_read h m (Some u) (fr ∷ k) t rest i j l f e = absurd (none-some (t, rest) e)
end_read h m (Some u) [] t rest i j l f e =
    let r = value_read h m.closed m.atom u l f.1 j in
    let q = some_pair_parts u t [] rest e in (
      rw (i, r.0) (append-nil (term_text h u) ∙ sym (append-nil (term_text h u)) ∙ ap (λ z. term_text h z ++ []) q.0
          ∙ ap (λ z. term_text h t ++ z) q.1),
      subst FitTerm q.0 r.1,
    )

-- what the machine still makes of the text is what it reads
abbrev pub GoesOn : Here → List ℕ → CodedTree → List ℕ → Type 0
GoesOn h bs t rest =
    (m : Machine) → FitMachine m → run h m bs ≡ Some (t, rest)
    → (state_text h m ++ bs ≡ term_text h t ++ rest) × FitTerm t

progress_read : (h : Here) (text : List ℕ) (b : ℕ) (bs : List ℕ) (t : CodedTree) (rest : List ℕ) (p : Progress)
    → Keeps h (text ++ (b ∷ [])) p → GoesOn h bs t rest → onward h p bs ≡ Some (t, rest)
    → (text ++ (b ∷ bs) ≡ term_text h t ++ rest) × FitTerm t
progress_read h text b bs t rest stuck k g e = absurd (none-some (t, rest) e)
progress_read h text b bs t rest (goes m) k g e =
    let r = g m k.1 e in
    (sym (append_assoc text (b ∷ []) bs) ∙ ap (λ z. z ++ bs) k.0 ∙ r.0, r.1)
progress_read h text b bs t rest (ends u) k g e =
    let q = some_pair_parts u t bs rest e in (
      sym (append_assoc text (b ∷ []) bs) ∙ ap (λ z. z ++ bs) k.0 ∙ ap (λ z. term_text h z ++ bs) q.0
          ∙ ap (λ z. term_text h t ++ z) q.1,
      subst FitTerm q.0 k.1,
    )

pub run_read : (h : Here) (bs : List ℕ) (t : CodedTree) (rest : List ℕ) → IsSmall h.line → GoesOn h bs t rest
unfolding run
run_read h [] t rest l m f e = end_read h m (value_of h m) m.stack t rest refl refl l f e
run_read h (b ∷ bs) t rest l m f e =
    progress_read h (state_text h m) b bs t rest (step h m b) (step_keeps h m b l f) (run_read h bs t rest l) e
