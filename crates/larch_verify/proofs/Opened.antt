-- Boxes that are opened.
use Rattle.std.proofs.Common.{◌≡◌, ℕ, suc, ◌<◌, List, [], ◌∷◌, ◌++◌, length, map, take, drop, get_or, All, Option, Some}
use Rattle.std.proofs.Common.{None, sym, ◌∙◌, ap}
use Rattle.std.specs.Option.{option_map}
use Rattle.std.proofs.lemmas.List.{map_push}
use Rattle.std.proofs.lemmas.List.Elements.{All-push, All-weaker}
use Rattle.larch_term.specs.declared.statement.Statement.{Statement}
use Rattle.larch_term.specs.declared.statement.Theory.{Theory}
use Rattle.larch_certificate.specs.declared.line.BoxPart.{BoxPart}
use Rattle.larch_certificate.specs.declared.line.CodedEquation.{CodedEquation}
use Rattle.larch_verify_meaning.specs.Context.{find_symbol}
use Rattle.larch_verify_meaning.specs.Decoding.{each, decode_equation}
use Rattle.larch_verify_meaning.specs.Events.{Event, Opened}
use Rattle.larch_verify_meaning.specs.Run.{box_opens}
use Rattle.larch_verify_pool.specs.Pooled.{Pooled, Grows}
use Rattle.larch_verify_history.specs.Past.{IsEquated, equated_in}
use Rattle.larch_verify_history.specs.declared.stated.Equated.{Equated}
use Rattle.larch_verify_history.proofs.Staying.{equated_stays, hypotheses_same}
use Rattle.larch_verify_box_rules.proofs.VerifyPartsEach.{each_push, each_stop, parted}

-- one equation more
pub equations_within : (p q : Pooled) (es : List Equated) (e : Equated) → Grows p q → All (IsEquated p) es
    → IsEquated q e
    → All (IsEquated q) (es ++ e ∷ [])
equations_within p q es e g h w =
    All-push (IsEquated q) es e (All-weaker (IsEquated p) (IsEquated q) (λ x v. equated_stays p q x g v) es h) w

pub equations_more : (p q : Pooled) (find : CodedEquation → Option Statement) (cs : List CodedEquation)
    (c : CodedEquation)
    (es : List Equated) (e : Equated) → Grows p q → All (IsEquated p) es → each find cs ≡ Some (map (equated_in p) es)
    → Some (equated_in q e) ≡ find c → each find (cs ++ c ∷ []) ≡ Some (map (equated_in q) (es ++ e ∷ []))
equations_more p q find cs c es e g h a b =
    each_push find cs c (map (equated_in q) es) (equated_in q e)
    (a ∙ ap Some (sym (hypotheses_same p q es g h))) (sym b)
    ∙ ap Some (sym (map_push (equated_in q) es e))

-- one that means nothing
pub equations_stop : (find : CodedEquation → Option Statement) (cs : List CodedEquation) (i : ℕ) (c : CodedEquation)
    → i < length cs → c ≡ get_or cs i c → None ≡ find c → None ≡ each find cs
equations_stop find cs i c l e f =
    sym (ap (each find) (sym (parted cs i c l)) ∙ ap (λ x. each find (take i cs ++ x ∷ drop (suc i) cs)) (sym e)
    ∙ each_stop find (take i cs) c (drop (suc i) cs) (sym f))

-- what a box supposes means something, or not
pub opens_with : (t : Theory) (h g : List Event) (n : ℕ) (ps : List BoxPart) (cs : List CodedEquation)
    (hs : List Statement)
    → g ≡ Opened (record { number = n; parts = ps; hypotheses = [] }) ∷ h
    → Some hs ≡ each (decode_equation (find_symbol t g)) cs
    → box_opens t h n ps cs ≡ Some (Opened (record { number = n; parts = ps; hypotheses = hs }) ∷ h)
opens_with t h g n ps cs hs e d =
    sym (ap (option_map (λ xs. Opened (record { number = n; parts = ps; hypotheses = xs }) ∷ h))
    (d ∙ ap (λ x. each (decode_equation (find_symbol t x)) cs) e))

pub opens_not : (t : Theory) (h g : List Event) (n : ℕ) (ps : List BoxPart) (cs : List CodedEquation)
    → g ≡ Opened (record { number = n; parts = ps; hypotheses = [] }) ∷ h
    → None ≡ each (decode_equation (find_symbol t g)) cs → box_opens t h n ps cs ≡ None
opens_not t h g n ps cs e d =
    sym (ap (option_map (λ xs. Opened (record { number = n; parts = ps; hypotheses = xs }) ∷ h))
    (d ∙ ap (λ x. each (decode_equation (find_symbol t x)) cs) e))
