-- Open boxes and the ends of boxes, by the definition and in what has happened.
use Rattle.std.proofs.Common.{◌≡◌, ℕ, zero, suc, ◌==◌, ◌+◌, ◌-◌, Bool, true, false, cond, inl, inr, ◌⊎◌, List}
use Rattle.std.proofs.Common.{[], ◌∷◌, ◌++◌, length, take, drop, Contains, Option, Some, option_map, refl, sym, ◌∙◌}
use Rattle.std.proofs.Common.{ap, subst, arith}
use Rattle.std.specs.List.{slice_get}
use Rattle.std.proofs.lemmas.Bool.{eqb-true, eq-eqb}
use Rattle.larch_base.proofs.Members.{contains_none, contains_one, contains_here, contains_later, contains_cases}
use Rattle.larch_base.proofs.Members.{contains_either, contains_left, contains_right}
use Rattle.larch_base.proofs.Options.{some_inj}
use Rattle.larch_term.specs.declared.statement.Statement.{Statement}
use Rattle.larch_term.specs.declared.statement.Theory.{Theory}
use Rattle.larch_certificate.specs.declared.line.Line.{Line}
use Rattle.larch_certificate.specs.declared.line.Line.TheVariants.{Axiom, Hyp, Row, Refl, Sym, Inst, Repl, Equal}
use Rattle.larch_certificate.specs.declared.line.Line.TheVariants.{BoxLine, Done, Fresh, Cases, Induct, Observe}
use Rattle.larch_certificate.specs.declared.line.Line.TheVariants.{Generated, Partitioned}
use Rattle.larch_verify_meaning.specs.Context.{find_symbol, innermost}
use Rattle.larch_verify_meaning.specs.Decoding.{each, decode_equation}
use Rattle.larch_verify_meaning.specs.Events.{PlainBox, Event, Said, Opened, Closed, State}
use Rattle.larch_verify_meaning.specs.Run.{judge, happens, step}
use Rattle.larch_verify_law.proofs.Carried.{closing_told}
use Rattle.larch_verify_law.proofs.Told.{option_map_some}
use Rattle.larch_trim_meaning.specs.Needed.{open_behind, if_innermost, end_at, end_from}
use Rattle.larch_trim_law.proofs.Kept.{AllOpen}

-- ---- open boxes, by the definition and in what has happened

-- the boxes that are open behind lines
abbrev pub open_after : ℕ → List ℕ → List Line → List ℕ
open_after n bs [] = bs
open_after n bs (l ∷ ls) = open_after (suc n) (open_behind n bs l) ls

pub after_one_more : (n : ℕ) (bs : List ℕ) (ls : List Line) (l : Line)
    → open_after n bs (ls ++ l ∷ []) ≡ open_behind (n + length ls) (open_after n bs ls) l
after_one_more n bs [] l = let e : n ≡ n + 0 = omega arith in ap (λ k. open_behind k bs l) e
after_one_more n bs (k ∷ ls) l =
    let e : suc n + length ls ≡ n + suc (length ls) = omega arith in
    after_one_more (suc n) (open_behind n bs k) ls l
    ∙ ap (λ i. open_behind i (open_after (suc n) (open_behind n bs k) ls) l) e

-- where a box ends
pub record Ends (n : ℕ) (bs : List ℕ) (ls : List Line) (b m : ℕ) : Type 0 where
  pub front : ℕ
  pub done : slice_get ls front ≡ Some Done
  pub rest : List ℕ
  pub innermost_is : open_after n bs (take front ls) ≡ b ∷ rest
  pub number : (m ≡ n + front) ⊎ (m ≡ n + front - 1)

one_of_two : (n : ℕ) (m : ℕ) → Contains (n ∷ (n - 1) ∷ []) m → (m ≡ n + 0) ⊎ (m ≡ n + 0 - 1)
one_of_two n m c =
    elim (contains_cases n m ((n - 1) ∷ []) c) [
      | inl e ↦ inl (omega (arith, e))
      | inr d ↦ let e = contains_one (n - 1) m d in inr (omega (arith, e))
    ]

if_told : (n : ℕ) (bs : List ℕ) (b m : ℕ) → Contains (if_innermost n bs b) m
    → (rest : List ℕ) × ((bs ≡ b ∷ rest) × ((m ≡ n + 0) ⊎ (m ≡ n + 0 - 1)))
if_told n [] b m c = absurd (contains_none m c)
if_told n (a ∷ bs) b m c = split (a == b) refl c
  where
    split : (x : Bool) → (a == b) ≡ x → Contains (cond x (n ∷ (n - 1) ∷ []) []) m
        → (rest : List ℕ) × ((a ∷ bs ≡ b ∷ rest) × ((m ≡ n + 0) ⊎ (m ≡ n + 0 - 1)))
    split true p d = (bs, (ap (λ i. i ∷ bs) (eqb-true a b p), one_of_two n m d))
    split false p d = absurd (contains_none m d)

end_told : (n : ℕ) (bs : List ℕ) (l : Line) (b m : ℕ) → Contains (end_at n bs l b) m
    → (l ≡ Done) × ((rest : List ℕ) × ((bs ≡ b ∷ rest) × ((m ≡ n + 0) ⊎ (m ≡ n + 0 - 1))))
end_told n bs (Axiom k) b m c = absurd (contains_none m c)
end_told n bs (Hyp d k) b m c = absurd (contains_none m c)
end_told n bs (Row k s) b m c = absurd (contains_none m c)
end_told n bs (Refl t) b m c = absurd (contains_none m c)
end_told n bs (Sym k) b m c = absurd (contains_none m c)
end_told n bs (Inst k es) b m c = absurd (contains_none m c)
end_told n bs (Repl k p j) b m c = absurd (contains_none m c)
end_told n bs (Equal k) b m c = absurd (contains_none m c)
end_told n bs (BoxLine ps es) b m c = absurd (contains_none m c)
end_told n bs Done b m c = (refl, if_told n bs b m c)
end_told n bs (Fresh d vs) b m c = absurd (contains_none m c)
end_told n bs (Cases d e) b m c = absurd (contains_none m c)
end_told n bs (Induct k x e ds) b m c = absurd (contains_none m c)
end_told n bs (Observe k e ns) b m c = absurd (contains_none m c)
end_told n bs (Generated d s ks) b m c = absurd (contains_none m c)
end_told n bs (Partitioned d s ks) b m c = absurd (contains_none m c)

pub ends_told : (n : ℕ) (bs : List ℕ) (ls : List Line) (b m : ℕ) → Contains (end_from n bs ls b) m → Ends n bs ls b m
ends_told n bs [] b m c = absurd (contains_none m c)
ends_told n bs (l ∷ ls) b m c =
    elim (contains_either (end_at n bs l b) (end_from (suc n) (open_behind n bs l) ls b) m c) [
      | inl d ↦
          let w = end_told n bs l b m d in
          record { front = 0; done = ap Some w.0; rest = w.1.0; innermost_is = w.1.1.0; number = w.1.1.1 }
      | inr d ↦
          let r = ends_told (suc n) (open_behind n bs l) ls b m d in
          let i : ℕ = r.front in
          record {
            front = suc i;
            done = r.done;
            rest = r.rest;
            innermost_is = r.innermost_is;
            number = elim r.number [ inl e ↦ inl (omega (arith, e)) | inr e ↦ inr (omega (arith, e)) ];
          }
    ]

pub ends_there : (n : ℕ) (bs : List ℕ) (ls : List Line) (i b : ℕ) (rest : List ℕ) → slice_get ls i ≡ Some Done
    → open_after n bs (take i ls) ≡ b ∷ rest
    → Contains (end_from n bs ls b) (n + i) × Contains (end_from n bs ls b) (n + i - 1)
ends_there n bs [] i b rest e o = cc
ends_there n bs (l ∷ ls) zero b rest e o =
    let done : l ≡ Done = some_inj e in
    let here : end_at n bs l b ≡ n ∷ (n - 1) ∷ [] =
    (λ i. end_at n (o i) (done i) b) ∙ ap (λ x. cond x (n ∷ (n - 1) ∷ []) []) (eq-eqb b b refl) in
    let more = end_from (suc n) (open_behind n bs l) ls b in
    let one : n ≡ n + 0 = omega arith in
    let two : n - 1 ≡ n + 0 - 1 = omega arith in
    let a = contains_here n ((n - 1) ∷ []) in
    let c = contains_later n (n - 1) ((n - 1) ∷ []) (contains_here (n - 1) []) in (
      contains_left (end_at n bs l b) more (n + 0)
          (subst (Contains (end_at n bs l b)) one (subst (λ xs. Contains xs n) (sym here) a)),
      contains_left (end_at n bs l b) more (n + 0 - 1)
          (subst (Contains (end_at n bs l b)) two (subst (λ xs. Contains xs (n - 1)) (sym here) c)),
    )
ends_there n bs (l ∷ ls) (suc i) b rest e o =
    let r = ends_there (suc n) (open_behind n bs l) ls i b rest e o in
    let more = end_from (suc n) (open_behind n bs l) ls b in
    let one : suc n + i ≡ n + suc i = omega arith in
    let two : suc n + i - 1 ≡ n + suc i - 1 = omega arith in (
      contains_right (end_at n bs l b) more (n + suc i) (subst (Contains more) one r.0),
      contains_right (end_at n bs l b) more (n + suc i - 1) (subst (Contains more) two r.1),
    )

-- the numbers of the open boxes
abbrev pub open_numbers : List Event → List ℕ
open_numbers [] = []
open_numbers (Said n s ∷ h) = open_numbers h
open_numbers (Opened b ∷ h) = b.number ∷ open_numbers h
open_numbers (Closed b s ∷ h) = open_numbers h

pub innermost_first : (h : List Event) (p : PlainBox × List Event) → innermost h ≡ Some p
    → open_numbers h ≡ p.0.number ∷ open_numbers p.1
innermost_first [] p e = cc
innermost_first (Said n s ∷ h) p e = innermost_first h p e
innermost_first (Opened b ∷ h) p e = ap (λ q. q.0.number ∷ open_numbers q.1) (some_inj e)
innermost_first (Closed b s ∷ h) p e = innermost_first h p e

pub first_innermost : (h : List Event) (n : ℕ) (ns : List ℕ) → open_numbers h ≡ n ∷ ns
    → (p : PlainBox × List Event) × (innermost h ≡ Some p) × (p.0.number ≡ n)
first_innermost [] n ns e = cc
first_innermost (Said m s ∷ h) n ns e = first_innermost h n ns e
first_innermost (Opened b ∷ h) n ns e = ((b, h), refl, (let q : b.number ≡ n = cc in q))
first_innermost (Closed b s ∷ h) n ns e = first_innermost h n ns e

said_numbers : (n : ℕ) (h j : List Event) (o : Option Statement) → option_map (λ s. Said n s ∷ h) o ≡ Some j
    → open_numbers j ≡ open_numbers h
said_numbers n h j o e = option_map_some (λ s. Said n s ∷ h) o j e (λ s p q. sym (ap open_numbers q))

pub numbers_next : (t : Theory) (h j : List Event) (n : ℕ) (l : Line) → happens t h n l ≡ Some j
    → open_numbers j ≡ open_behind n (open_numbers h) l
numbers_next t h j n (Axiom k) e = said_numbers n h j (judge t h (Axiom k)) e
numbers_next t h j n (Hyp b k) e = said_numbers n h j (judge t h (Hyp b k)) e
numbers_next t h j n (Row k s) e = said_numbers n h j (judge t h (Row k s)) e
numbers_next t h j n (Refl c) e = said_numbers n h j (judge t h (Refl c)) e
numbers_next t h j n (Sym k) e = said_numbers n h j (judge t h (Sym k)) e
numbers_next t h j n (Inst k bs) e = said_numbers n h j (judge t h (Inst k bs)) e
numbers_next t h j n (Repl k p i) e = said_numbers n h j (judge t h (Repl k p i)) e
numbers_next t h j n (Equal k) e = said_numbers n h j (judge t h (Equal k)) e
numbers_next t h j n (BoxLine ps es) e =
    let bare : PlainBox = record { number = n; parts = ps; hypotheses = [] } in
    option_map_some (λ hs. Opened (record { number = n; parts = ps; hypotheses = hs }) ∷ h)
    (each (decode_equation (find_symbol t (Opened bare ∷ h))) es) j e
    (λ hs p q. sym (ap open_numbers q))
numbers_next t h j n Done e =
    let w = closing_told h j e in
    ap open_numbers w.behind ∙ sym (ap (drop 1) (innermost_first h w.level w.inner))
numbers_next t h j n (Fresh b vs) e = said_numbers n h j (judge t h (Fresh b vs)) e
numbers_next t h j n (Cases b c) e = said_numbers n h j (judge t h (Cases b c)) e
numbers_next t h j n (Induct k x c bs) e = said_numbers n h j (judge t h (Induct k x c bs)) e
numbers_next t h j n (Observe k c ns) e = said_numbers n h j (judge t h (Observe k c ns)) e
numbers_next t h j n (Generated b s ks) e = said_numbers n h j (judge t h (Generated b s ks)) e
numbers_next t h j n (Partitioned b s ks) e = said_numbers n h j (judge t h (Partitioned b s ks)) e

pub tail_open : (Q : ℕ → Type 0) (e : Event) (h : List Event) → AllOpen Q (e ∷ h) → AllOpen Q h
tail_open Q (Said n s) h o = o
tail_open Q (Opened b) h o = o.1
tail_open Q (Closed b s) h o = o

pub other_open : (Q R : ℕ → Type 0) → ((n : ℕ) → Q n → R n) → (h : List Event) → AllOpen Q h → AllOpen R h
other_open Q R k [] o = tt
other_open Q R k (Said n s ∷ h) o = other_open Q R k h o
other_open Q R k (Opened b ∷ h) o = (k b.number o.0, other_open Q R k h o.1)
other_open Q R k (Closed b s ∷ h) o = other_open Q R k h o

pub happened : (t : Theory) (st next : State) (l : Line) → step t st l ≡ Some next
    → happens t st.history (suc st.count) l ≡ Some next.history
happened t st next l e =
    option_map_some (λ h. record { count = suc st.count; history = h }) (happens t st.history (suc st.count) l) next e
    (λ h p q. p ∙ ap (λ u. Some u.history) q)
