-- A session on one input has one course.
use Rattle.std.proofs.Common.{◌≡◌, ℕ, Bool, List, [], ◌∷◌, refl, sym, subst, ap, ap₂, ◌∙◌}
use Rattle.larch_main_status.specs.declared.status.Status.{Status}
use Rattle.larch_main_session.specs.Replies.{Reply, said}
use Rattle.larch_main_session.specs.Session.{State, goes, stops, waits}
use Rattle.larch_main_session.specs.Session.{Ending, with_status, Course, goes_on, ends, breaks_off}

next_is : {a b : State} {r s : Reply} {xs ys : List ℕ} → goes a r xs ≡ goes b s ys → (a ≡ b) × (r ≡ s) × (xs ≡ ys)
next_is e = (cc, cc, cc)

last_is : {a b : State} {xs ys : List ℕ} {m n : Status} → stops a xs m ≡ stops b ys n → (a ≡ b) × (xs ≡ ys) × (m ≡ n)
last_is e = (cc, cc, cc)

not_both : {P : Type 0} {a b : State} {r : Reply} {xs ys : List ℕ} {n : Status} → goes a r xs ≡ stops b ys n → P
not_both e = cc

goes_waits : {P : Type 0} {a : State} {r : Reply} {xs : List ℕ} → goes a r xs ≡ waits → P
goes_waits e = cc

stops_waits : {P : Type 0} {a : State} {xs : List ℕ} {n : Status} → stops a xs n ≡ waits → P
stops_waits e = cc

-- two sessions from one state on one input give the same replies, and leave off in the same way and state
pub once : {ended : Bool} {state last final : State} {input : List ℕ} {first second : List Reply} {here there : Ending}
    → Course ended state input first here last → Course ended state input second there final
    → (first ≡ second) × (here ≡ there) × (last ≡ final)
once {ended} (goes_on {next = next} {rest = rest} reply is more)
    (goes_on {next = onward} {last = final} {rest = behind} {replies = others} {ending = there} also so further) =
    let same = next_is (sym is ∙ so) in
    let rest_of =
    once more (subst (λ state. Course ended state rest others there final) (sym same.0)
    (subst (λ bytes. Course ended onward bytes others there final) (sym same.2) further)) in
    (ap₂ (λ r rs. r ∷ rs) same.1 rest_of.0, rest_of.1, rest_of.2)
once (goes_on reply is more) (ends so) = not_both (sym is ∙ so)
once (goes_on reply is more) (breaks_off so) = goes_waits (sym is ∙ so)
once (ends is) (goes_on also so further) = not_both (sym so ∙ is)
once (ends is) (ends so) =
    let same = last_is (sym is ∙ so) in
    (ap (λ text. said text ∷ []) same.1, ap with_status same.2, same.0)
once (ends is) (breaks_off so) = stops_waits (sym is ∙ so)
once (breaks_off is) (goes_on also so further) = goes_waits (sym so ∙ is)
once (breaks_off is) (ends so) = stops_waits (sym so ∙ is)
once (breaks_off is) (breaks_off so) = (refl, refl, refl)
