-- The lemmas of a lemma of a duty are those of the duty that stand in front of it.
use Rattle.std.proofs.Common.{◌≡◌, refl, sym, ap, ap₂, subst, ◌∙◌, arith, ℕ, ◌==◌, ◌&&◌, Bool, true, false, cond}
use Rattle.std.proofs.Common.{List, [], ◌∷◌}
use Rattle.std.proofs.Common.{◌++◌, map, Contains, Option, Some, None}
use Rattle.std.specs.Prelude.{filter}
use Rattle.std.proofs.lemmas.Bool.Decides.{nat_tests}
use Rattle.std.proofs.lemmas.List.{append-nil, map-append}
use Rattle.std.proofs.lemmas.List.Elements.{filter-append}
use Rattle.larch_base.proofs.Lists.{map_map}
use Rattle.larch_base.proofs.Members.{contains_here, contains_later, contains_map}
use Rattle.larch_prove_meaning.specs.Levels.{EarlierDuty}
use Rattle.larch_prove_meaning.specs.Reports.{Answered, is_proved, may_serve}
use Rattle.larch_prove_meaning.specs.Scripts.{ClaimedDuty}
use Rattle.larch_session_derive.specs.Parts.{AreReplayed, lemma_statements, may_be_lemma}
use Rattle.larch_session_derive_meaning.specs.SessionMeaningTraits.{script_duty}
use Rattle.larch_session_replay.specs.Replayed.{answer_of}
use Rattle.larch_session_replay.specs.declared.replayed.Replayed.{Replayed}
use Rattle.larch_term.specs.declared.statement.Statement.{Statement}

-- whether an earlier duty is a lemma of those of a clause, or of none
abbrev serves : Option ℕ → Answered → Bool
serves clause a = is_proved a.outcome && may_serve a.duty.clause clause

filter_by : {A : Type 0} (p q : A → Bool) (xs : List A) → ((x : A) → Contains xs x → p x ≡ q x)
    → filter p xs ≡ filter q xs
filter_by p q [] h = refl
filter_by p q (x ∷ xs) h =
    ap₂ (λ b ys. cond b (x ∷ ys) ys) (h x (contains_here x xs))
    (filter_by p q xs (λ y c. h y (contains_later x y xs c)))

same_number : (n m : ℕ) → (n == m) ≡ true → n ≡ m
same_number n m e = grind (arith, nat_tests, e)

same_lemmas : (l m : Option ℕ) (earlier : List Answered) → may_serve l m ≡ true
    → (l ≡ None → (a : Answered) → Contains earlier a → a.duty.clause ≡ None)
    → filter (serves l) earlier ≡ filter (serves m) earlier
same_lemmas None m earlier h own =
    filter_by (serves None) (serves m) earlier (λ a c.
    ap (λ k. is_proved a.outcome && may_serve k None) (own refl a c)
    ∙ sym (ap (λ k. is_proved a.outcome && may_serve k m) (own refl a c)))
same_lemmas (Some n) None earlier h own = absurd (cc)
same_lemmas (Some n) (Some m) earlier h own = ap (λ k. filter (serves (Some k)) earlier) (same_number n m h)

abbrev stated : List Answered → List Statement
stated answers =
    map (λ (l : EarlierDuty). l.statement)
    (map (λ (a : Answered). record { number = a.number; statement = a.duty.statement }) answers)

-- among all duties of a trait
pub lemmas_in_front : (rs before rest : List Replayed) (r : Replayed) (d : ClaimedDuty) → AreReplayed rs
    → rs ≡ before ++ r ∷ rest → may_serve r.claim.clause d.clause ≡ true
    → lemma_statements (script_duty r.claim) before ≡ lemma_statements d before
lemmas_in_front rs before rest r d all is serve =
    let f : Replayed → ClaimedDuty = λ q. (answer_of q).duty in
    let first : r.claim.clause ≡ None → (a : Answered) → Contains (map answer_of before) a → a.duty.clause ≡ None =
    λ none a c. all.order.first (map f before) (map f rest) (f r) a.duty
    (ap (map f) is ∙ map-append f before (r ∷ rest)) none (duty_there before a c) in
    ap stated (same_lemmas r.claim.clause d.clause (map answer_of before) serve first)
  where
    duty_there : (qs : List Replayed) (a : Answered) → Contains (map answer_of qs) a
        → Contains (map (λ (q : Replayed). (answer_of q).duty) qs) a.duty
    duty_there qs a c =
        subst (λ xs. Contains xs a.duty) (map_map (λ (b : Answered). b.duty) answer_of qs)
        (contains_map (λ (b : Answered). b.duty) (map answer_of qs) a c)

-- ---- a duty more

lemma_more : (clause : Option ℕ) (done : List Replayed) (r : Replayed) (b : Bool) → may_be_lemma clause r ≡ b
    → filter (serves clause) (map answer_of (done ++ r ∷ []))
    ≡ filter (serves clause) (map answer_of done) ++ cond b (answer_of r ∷ []) []
lemma_more clause done r b e =
    ap (filter (serves clause)) (map-append answer_of done (r ∷ []))
    ∙ filter-append (serves clause) (map answer_of done) (answer_of r ∷ [])
    ∙ ap (λ c. filter (serves clause) (map answer_of done) ++ cond c (answer_of r ∷ []) []) e

-- what a lemma states stands behind what the others do
pub stated_more : (d : ClaimedDuty) (done : List Replayed) (r : Replayed) → may_be_lemma d.clause r ≡ true
    → lemma_statements d (done ++ r ∷ []) ≡ lemma_statements d done ++ r.claim.statement ∷ []
stated_more d done r e =
    let f : Answered → EarlierDuty = λ a. record { number = a.number; statement = a.duty.statement } in
    let g : EarlierDuty → Statement = λ l. l.statement in
    let old : List Answered = filter (serves d.clause) (map answer_of done) in
    ap stated (lemma_more d.clause done r true e) ∙ ap (map g) (map-append f old (answer_of r ∷ []))
    ∙ map-append g (map f old) (f (answer_of r) ∷ [])

-- and what is no lemma adds nothing
pub stated_same : (d : ClaimedDuty) (done : List Replayed) (r : Replayed) → may_be_lemma d.clause r ≡ false
    → lemma_statements d (done ++ r ∷ []) ≡ lemma_statements d done
stated_same d done r e =
    ap stated (lemma_more d.clause done r false e ∙ append-nil (filter (serves d.clause) (map answer_of done)))
