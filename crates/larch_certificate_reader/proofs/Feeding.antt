-- How the machine goes on by a parenthesis or a comma.
use Rattle.std.proofs.Common.{◌≡◌, ℕ, ◌+◌, ◌-◌, ◌<◌, ◌≤◌, ◌==◌, cond, Bool, true, false, List, [], ◌∷◌, ◌++◌, length}
use Rattle.std.proofs.Common.{take, drop, get_or, Option, Some, None, refl, sym, ◌∙◌, ap, arith, append-nil}
use Rattle.std.proofs.Common.{append_assoc, drop-cons, add-one}
use Rattle.std.proofs.lemmas.Bool.{eqb-true}
use Rattle.std.proofs.lemmas.Grind.{common_steps}
use Rattle.std.proofs.lemmas.List.{take_rest, take-append-drop, take_all}
use Rattle.std.proofs.lemmas.Option.{none-some, same_Some}
use Rattle.larch_certificate.specs.Coded.{CodedTree}
use Rattle.larch_certificate_reader.specs.MachineViews.{machine_of, mark_of, byte_of, Unmarked, FirstMark, after_mark}
use Rattle.larch_certificate_reader.specs.MachineViews.{marked_behind, ended_behind}
use Rattle.larch_certificate_reader.specs.declared.machine.LeafEnd.{LeafEnd}
use Rattle.larch_certificate_reader.specs.declared.machine.LeafEnd.TheVariants.{Open, Comma, Close}
use Rattle.larch_certificate_reader.specs.declared.machine.Reading.{Reading}
use Rattle.larch_certificate_text.specs.TermText.{Front, Progress, stuck, goes, ends, step, run, with_atom, with_closed}
use Rattle.larch_certificate_text.specs.TermText.{byte_by}
use Rattle.larch_certificate_text.specs.declared.here.Here.{Here}
use Rattle.larch_certificate_text.specs.declared.machine.Frame.{Frame}
use Rattle.larch_certificate_text.specs.declared.machine.Machine.{Machine}
use Rattle.larch_certificate_text.proofs.TermLaws.{onward, run_step}

-- a byte that is no mark belongs to a leaf
unmarked_by : (h : Here) (m : Machine) (b : ℕ) (o c e : Bool) (p q r s : Progress)
    → cond {A = Option LeafEnd} o (Some Open) (cond c (Some Comma) (cond e (Some Close) None)) ≡ None
    → cond o p (cond c q (cond e r s)) ≡ s
unmarked_by h m b true c e p q r s n = absurd (none-some Open (sym n))
unmarked_by h m b false true e p q r s n = absurd (none-some Comma (sym n))
unmarked_by h m b false false true p q r s n = absurd (none-some Close (sym n))
unmarked_by h m b false false false p q r s n = refl

unmarked_step : (h : Here) (m : Machine) (b : ℕ) → mark_of b ≡ None → step h m b ≡ byte_by m.closed m b
unmarked_step h m b n = unmarked_by h m b (b == 40) (b == 44) (b == 41) _ _ _ _ n

-- bytes that are no marks are put to the others of a leaf
unmarked_run : (h : Here) (xs ys : List ℕ) (k : List Frame) (rest : List ℕ) → Unmarked ys
    → run h (with_atom xs k) (ys ++ rest) ≡ run h (with_atom (xs ++ ys) k) rest
unmarked_run h xs [] k rest u = ap (λ z. run h (with_atom z k) rest) (sym (append-nil xs))
unmarked_run h xs (y ∷ ys) k rest u =
    run_step h (with_atom xs k) y (ys ++ rest)
    ∙ ap (λ p. onward h p (ys ++ rest)) (unmarked_step h (with_atom xs k) y u.0)
    ∙ unmarked_run h (xs ++ (y ∷ [])) ys k rest u.1
    ∙ ap (λ z. run h (with_atom z k) rest) (append_assoc xs (y ∷ []) ys)

-- they may not stand behind a closed term
unmarked_stuck : (h : Here) (t : CodedTree) (k : List Frame) (x : ℕ) (rest : List ℕ) → mark_of x ≡ None
    → run h (with_closed t k) (x ∷ rest) ≡ None
unmarked_stuck h t k x rest n =
    run_step h (with_closed t k) x rest ∙ ap (λ p. onward h p rest) (unmarked_step h (with_closed t k) x n)

marked_step : (h : Here) (mark : LeafEnd) (m : Machine)
    → step h m (byte_of mark) ≡ after_mark h mark m.closed m.atom m.stack
marked_step h Open m = refl
marked_step h Comma m = refl
marked_step h Close m = refl

marked_run : (h : Here) (mark : LeafEnd) (m : Machine) (rest : List ℕ)
    → run h m (byte_of mark ∷ rest) ≡ onward h (after_mark h mark m.closed m.atom m.stack) rest
marked_run h mark m rest = run_step h m (byte_of mark) rest ∙ ap (λ p. onward h p rest) (marked_step h mark m)

mark_by : (h : Here) (mark : LeafEnd) (closed : Option CodedTree) (atom : List ℕ) (k : List Frame) (rest : List ℕ)
    → Unmarked atom → run h (machine_of (record { stack = k; closed = closed })) (atom ++ (byte_of mark ∷ rest))
    ≡ onward h (marked_behind h mark closed atom k) rest
mark_by h mark None atom k rest u =
    unmarked_run h [] atom k (byte_of mark ∷ rest) u ∙ marked_run h mark (with_atom atom k) rest
mark_by h mark (Some t) [] k rest u = marked_run h mark (with_closed t k) rest
mark_by h mark (Some t) (x ∷ xs) k rest u = unmarked_stuck h t k x (xs ++ (byte_of mark ∷ rest)) u.0

-- the machine goes on behind the first mark
pub mark_run : (h : Here) (r : Reading) (text atom rest : List ℕ) (mark : LeafEnd) → FirstMark text atom mark rest
    → run h (machine_of r) text ≡ onward h (marked_behind h mark r.closed atom r.stack) rest
mark_run h r text atom rest mark f = ap (run h (machine_of r)) f.0 ∙ mark_by h mark r.closed atom r.stack rest f.1

end_by : (h : Here) (closed : Option CodedTree) (atom : List ℕ) (k : List Frame) → Unmarked atom
    → run h (machine_of (record { stack = k; closed = closed })) atom ≡ ended_behind h closed atom k
unfolding run
end_by h None atom k u = ap (run h (with_atom [] k)) (sym (append-nil atom)) ∙ unmarked_run h [] atom k [] u
end_by h (Some t) [] k u = refl
end_by h (Some t) (x ∷ xs) k u = unmarked_stuck h t k x xs u.0

-- where no mark is left the text ends
pub end_run : (h : Here) (r : Reading) (text : List ℕ) → Unmarked text
    → run h (machine_of r) text ≡ ended_behind h r.closed text r.stack
end_run h r text u = end_by h r.closed text r.stack u

-- ---- what each step and the end give

pub feed_goes : (h : Here) (r n : Reading) (text atom rest : List ℕ) (mark : LeafEnd) → FirstMark text atom mark rest
    → goes (machine_of n) ≡ marked_behind h mark r.closed atom r.stack
    → run h (machine_of n) rest ≡ run h (machine_of r) text
feed_goes h r n text atom rest mark f s = ap (λ p. onward h p rest) s ∙ sym (mark_run h r text atom rest mark f)

pub feed_stuck : (h : Here) (r : Reading) (text atom rest : List ℕ) (mark : LeafEnd) → FirstMark text atom mark rest
    → stuck ≡ marked_behind h mark r.closed atom r.stack → None ≡ run h (machine_of r) text
feed_stuck h r text atom rest mark f s = ap (λ p. onward h p rest) s ∙ sym (mark_run h r text atom rest mark f)

pub feed_ends : (h : Here) (r : Reading) (text atom rest : List ℕ) (mark : LeafEnd) (t : CodedTree)
    → FirstMark text atom mark rest → ends t ≡ marked_behind h mark r.closed atom r.stack
    → Some (t, rest) ≡ run h (machine_of r) text
feed_ends h r text atom rest mark t f s = ap (λ p. onward h p rest) s ∙ sym (mark_run h r text atom rest mark f)

pub feed_end : (h : Here) (r : Reading) (text : List ℕ) (o : Front) → Unmarked text
    → o ≡ ended_behind h r.closed text r.stack → o ≡ run h (machine_of r) text
feed_end h r text o u e = e ∙ sym (end_run h r text u)

-- ---- the first mark

mark_byte_by : (b : ℕ) (mark : LeafEnd) (o c e : Bool) → (b == 40) ≡ o → (b == 44) ≡ c → (b == 41) ≡ e
    → cond {A = Option LeafEnd} o (Some Open) (cond c (Some Comma) (cond e (Some Close) None)) ≡ Some mark
    → b ≡ byte_of mark
mark_byte_by b mark true c e io ic ie s = eqb-true b 40 io ∙ ap byte_of (same_Some Open mark s)
mark_byte_by b mark false true e io ic ie s = eqb-true b 44 ic ∙ ap byte_of (same_Some Comma mark s)
mark_byte_by b mark false false true io ic ie s = eqb-true b 41 ie ∙ ap byte_of (same_Some Close mark s)
mark_byte_by b mark false false false io ic ie s = absurd (none-some mark s)

mark_byte : (b : ℕ) (mark : LeafEnd) → mark_of b ≡ Some mark → b ≡ byte_of mark
mark_byte b mark s = mark_byte_by b mark (b == 40) (b == 44) (b == 41) refl refl refl s

-- the mark that was found is the first
pub mark_found : (i : ℕ) (text : List ℕ) (mark : LeafEnd) → i < length text → mark_of (get_or text i 0) ≡ Some mark
    → Unmarked (take i text) → FirstMark text (take i text) mark (take (length text - (i + 1)) (drop (i + 1) text))
mark_found i text mark l s u =
    let b = mark_byte (get_or text i 0) mark s in
    let k : text ≡ take i text ++ (byte_of mark ∷ drop (i + 1) text) =
    grind (arith, common_steps, drop-cons text i 0 l, take-append-drop i text, add-one, b) in
    rw (take_rest text (i + 1)) (k, u)

pub mark_missing : (i : ℕ) (text : List ℕ) → length text ≤ i → Unmarked (take i text) → Unmarked text
mark_missing i text l u = rw (take_all i text l) at u
