-- The parts of a duty's certificate prove it.
use Rattle.std.proofs.Common.{◌≡◌, refl, sym, ap, subst, ◌∙◌, ℕ, ◌+◌, ◌<◌, true, List, [], ◌∷◌, ◌++◌}
use Rattle.std.proofs.Common.{map, length, take, drop, get_or, inl, inr}
use Rattle.std.proofs.lemmas.List.{append_assoc, append-nil, drop_more, take-append-drop, take_more}
use Rattle.std.proofs.lemmas.List.Elements.{All-contains}
use Rattle.larch_base.proofs.Bools.{both_true, true_or_false}
use Rattle.larch_calculus.specs.Theories.{IsPrefix, with_statements}
use Rattle.larch_certificate_text.specs.CertificateText.{Writable}
use Rattle.larch_derive.specs.Finished.{IsFinished}
use Rattle.larch_derive_join.specs.Promise.{AreProved, AreWritable, IsProved, Prove}
use Rattle.larch_derive_join.specs.declared.part.Part.{Part}
use Rattle.larch_session_replay.specs.ProveState.{told_outcome}
use Rattle.larch_prove_meaning.specs.Reports.{is_proved, may_serve}
use Rattle.larch_prove_meaning.specs.Scripts.{ClaimedDuty}
use Rattle.larch_session_derive.proofs.Lemmas.{lemmas_in_front, stated_more, stated_same}
use Rattle.larch_session_derive.proofs.Over.{has_certificate, over_at, own_there}
use Rattle.larch_session_derive.specs.Parts.{AreLemmaParts, AreReplayed, HasCertificate, IsPartOf, IsWithLemma}
use Rattle.larch_session_derive.specs.Parts.{IsWithPart, lemma_statements, may_be_lemma}
use Rattle.larch_session_derive_meaning.specs.SessionLawClaims.{IsClaim}
use Rattle.larch_session_derive_meaning.specs.SessionMeaningTraits.{script_duty}
use Rattle.larch_session_replay.specs.Replayed.{answer_of}
use Rattle.larch_session_replay.specs.declared.replayed.Replayed.{Replayed}
use Rattle.larch_term.specs.declared.statement.Statement.{Statement}
use Rattle.larch_term.specs.declared.statement.Theory.{Theory}

-- ---- a part more

proved_push : (whole : Theory) (earlier : List Statement) (ps : List Part) (ss : List Statement) (p : Part)
    (s : Statement) → AreProved whole earlier ps ss → IsProved whole (earlier ++ ss) p s
    → AreProved whole earlier (ps ++ p ∷ []) (ss ++ s ∷ [])
proved_push whole earlier [] [] p s h k = (subst (λ xs. IsProved whole xs p s) (append-nil earlier) k, tt)
proved_push whole earlier [] (t ∷ ss) p s h k = absurd h
proved_push whole earlier (q ∷ ps) [] p s h k = absurd h
proved_push whole earlier (q ∷ ps) (t ∷ ss) p s h k = (
  h.0,
  proved_push whole (earlier ++ t ∷ []) ps ss p s h.1
      (subst (λ xs. IsProved whole xs p s) (sym (append_assoc earlier (t ∷ []) ss)) k),
)

writable_push : (ps : List Part) (p : Part) → AreWritable ps → Writable p.certificate → AreWritable (ps ++ p ∷ [])
writable_push [] p h k = (k, tt)
writable_push (q ∷ ps) p h k = (h.0, writable_push ps p h.1 k)

prefix_itself : (t : Theory) → IsPrefix t t
prefix_itself t = (([], sym (append-nil t.operators)), ([], sym (append-nil t.statements)))

-- ---- among all duties of the trait

module _ (rs before rest : List Replayed) (r : Replayed) (all : AreReplayed rs) (is : rs ≡ before ++ r ∷ rest) where
  -- the part of a duty that is proved, over a theory that its own begins, by lemmas that are its own
  finished : is_proved (told_outcome r.outcome) ≡ true → (d : ClaimedDuty)
      → lemma_statements (script_duty r.claim) before ≡ lemma_statements d before → (p : Part) → IsPartOf r p
      → IsFinished (with_statements r.claim.theory (lemma_statements d before)) r.claim.statement p.certificate
  finished e d same p part =
      let o = over_at rs before rest r all is e in
      subst (λ (t : Theory). IsFinished t r.claim.statement p.certificate)
      (o.theory ∙ ap (with_statements r.claim.theory) same)
      (part.finished r.claim.statement o.proof o.is_state o.done)

  pushed : is_proved (told_outcome r.outcome) ≡ true → (d : ClaimedDuty) → IsPrefix r.claim.theory d.theory
      → lemma_statements (script_duty r.claim) before ≡ lemma_statements d before → (ps qs : List Part)
      → AreProved d.theory [] ps (lemma_statements d before) → AreWritable ps → IsWithPart r ps qs
      → AreProved d.theory [] qs (lemma_statements d before ++ r.claim.statement ∷ []) × AreWritable qs
  pushed e d prefix same ps qs proved writable put =
      let p : Part = put.0 in
      let part = put.1.0 in
      let f = finished e d same p part in
      let own : IsProved d.theory (lemma_statements d before) p r.claim.statement = record {
        theory = r.claim.theory;
        prefix = prefix;
        statements = sym part.statements;
        accepted = f.accepted;
        ends = f.ends;
      } in (
        subst (λ xs. AreProved d.theory [] xs (lemma_statements d before ++ r.claim.statement ∷ [])) (sym put.1.1)
            (proved_push d.theory [] ps (lemma_statements d before) p r.claim.statement proved own),
        subst AreWritable (sym put.1.1) (writable_push ps p writable f.writable),
      )

  -- a duty more, which may be a lemma
  lemma_pushed : (d : ClaimedDuty)
      → (may_serve r.claim.clause d.clause ≡ true → IsPrefix r.claim.theory d.theory) → (ps qs : List Part)
      → AreLemmaParts d before ps → IsWithLemma d.clause r ps qs → AreLemmaParts d (before ++ r ∷ []) qs
  lemma_pushed d prefix ps qs h put = elim (true_or_false (may_be_lemma d.clause r)) [
    | inl lemma ↦
        let both = both_true (is_proved (told_outcome r.outcome)) (may_serve r.claim.clause d.clause) lemma in
        let more = pushed both.0 d (prefix both.1) (lemmas_in_front rs before rest r d all is both.1) ps qs h.proved
        h.writable (put.0 lemma) in
        record {
          proved = subst (AreProved d.theory [] qs) (sym (stated_more d before r lemma)) more.0;
          writable = more.1;
        }
    | inr other ↦
        subst (AreLemmaParts d (before ++ r ∷ [])) (sym (put.1 other))
        (record {
          proved = subst (AreProved d.theory [] ps) (sym (stated_same d before r other)) h.proved;
          writable = h.writable;
        })
  ]

-- the own part behind those of the lemmas
pub own_pushed : (earlier : List Replayed) (own : Replayed) → AreReplayed (earlier ++ own ∷ [])
    → is_proved (told_outcome own.outcome) ≡ true → (ps qs : List Part)
    → AreLemmaParts (script_duty own.claim) earlier ps → IsWithPart own ps qs
    → Prove own.claim.theory qs own.claim.statement × AreWritable qs
own_pushed earlier own all e ps qs h put =
    let rs = earlier ++ own ∷ [] in
    let d : ClaimedDuty = script_duty own.claim in
    let more = pushed rs earlier [] own all refl e d (prefix_itself own.claim.theory) refl ps qs h.proved h.writable
    put in
    let claim = All-contains IsClaim (map (λ (q : Replayed). (answer_of q).duty) rs) d all.claims.each
    (own_there rs earlier [] own all refl) in (
      record {
        sorted = claim.theory;
        plain = claim.plain;
        earlier = lemma_statements d earlier;
        proved = more.0;
      },
      more.1,
    )

-- ---- the loop

module _ (earlier : List Replayed) (own : Replayed) (all : AreReplayed (earlier ++ own ∷ [])) where
  pub none_yet : (parts : List Part) → parts ≡ [] → AreLemmaParts (script_duty own.claim) [] parts
  none_yet parts e =
      subst (AreLemmaParts (script_duty own.claim) []) (sym e) (record { proved = tt; writable = tt })

  module _ (i : ℕ) (r : Replayed) (lt : i < length earlier) (item : r ≡ get_or earlier i r) where
    -- where the duty of a place stands
    split : earlier ++ own ∷ [] ≡ take i earlier ++ r ∷ (drop (i + 1) earlier ++ own ∷ [])
    split =
        ap (λ xs. xs ++ own ∷ [])
        (sym (take-append-drop i earlier)
        ∙ ap (λ xs. take i earlier ++ xs) (drop_more earlier i r lt ∙ ap (λ x. x ∷ drop (i + 1) earlier) (sym item)))
        ∙ append_assoc (take i earlier) (r ∷ drop (i + 1) earlier) (own ∷ [])

    pub certificate_there : HasCertificate r
    certificate_there =
        has_certificate (earlier ++ own ∷ []) (take i earlier) (drop (i + 1) earlier ++ own ∷ []) r all split

    pub next_lemma : (ps qs : List Part) → AreLemmaParts (script_duty own.claim) (take i earlier) ps
        → IsWithLemma own.claim.clause r ps qs → AreLemmaParts (script_duty own.claim) (take (i + 1) earlier) qs
    next_lemma ps qs h put =
        let rs = earlier ++ own ∷ [] in
        let d : ClaimedDuty = script_duty own.claim in
        subst (λ xs. AreLemmaParts d xs qs)
        (ap (λ x. take i earlier ++ x ∷ []) item ∙ sym (take_more earlier i r lt))
        (lemma_pushed rs (take i earlier) (drop (i + 1) earlier ++ own ∷ []) r all split d
        (all.order.begin (script_duty r.claim) d
        (own_there rs (take i earlier) (drop (i + 1) earlier ++ own ∷ []) r all split)
        (own_there rs earlier [] own all refl)) ps qs h put)
