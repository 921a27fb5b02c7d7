-- A trait that is right: its lines, and that its duties are derivable.
use Rattle.std.proofs.Common.{◌≡◌, sym, ap, ap₂, subst, ◌∙◌, ℕ, List, [], ◌∷◌, ◌++◌, map, All, Ok}
use Rattle.std.proofs.lemmas.List.{append_assoc}
use Rattle.larch_base.proofs.Lists.{map_map}
use Rattle.larch_session_replay.specs.DutiesMeaningClaims.{Claim}
use Rattle.larch_prove_meaning.specs.Reports.{Answered, all_answered, line_for, script_lines, trait_lines}
use Rattle.larch_prove_meaning.specs.Scripts.{ClaimedDuty}
use Rattle.larch_report.specs.declared.line.ReportLine.{ReportLine}
use Rattle.larch_report.specs.declared.line.ReportLine.TheVariants.{Right as right_line}
use Rattle.larch_script_commands.specs.declared.script.Script.{Script}
use Rattle.larch_session_replay.specs.SessionLawCertified.{IsJustified}
use Rattle.larch_session_replay.specs.SessionLawClaims.{AreClaims}
use Rattle.larch_session_replay.proofs.SessionLawJustified.{all_derivable}
use Rattle.larch_session_replay.specs.SessionMeaningTraits.{reported_line, script_duty, trait_report}
use Rattle.larch_session_replay.proofs.Certified.{replays_certified}
use Rattle.larch_session_replay.proofs.Following.{answered_are}
use Rattle.larch_session_replay.specs.Replayed.{AreReplays, answer_lines, answer_of}
use Rattle.larch_session_replay.specs.declared.replayed.Replayed.{Replayed}

-- the lines of what is answered are those of the trait
lines_answered : (limit : ℕ) (script : Script) (ds : List ClaimedDuty)
    → answer_lines script (all_answered limit script [] 1 ds) ≡ trait_lines limit script ds
lines_answered limit script ds =
    let answers = all_answered limit script [] 1 ds in
    let labels : map (λ (a : Answered). a.duty.label) answers ≡ map (λ (d : ClaimedDuty). d.label) ds =
    sym (map_map (λ (d : ClaimedDuty). d.label) (λ (a : Answered). a.duty) answers)
    ∙ ap (map (λ (d : ClaimedDuty). d.label)) (answered_are limit script [] 1 ds) in
    ap (λ ls. map (λ (a : Answered). line_for script a.duty.label a.outcome) answers
    ++ script_lines ls [] script.blocks) labels

pub right_lines : (limit : ℕ) (script : Script) (stem : List ℕ) (claims : List Claim) (rs : List Replayed)
    (first second third : List ReportLine)
    → map answer_of rs ≡ all_answered limit script [] 1 (map script_duty claims)
    → second ≡ first ++ right_line stem ∷ []
    → third ≡ second ++ map reported_line (answer_lines script (map answer_of rs))
    → third ≡ first ++ trait_report limit script stem (Ok claims)
right_lines limit script stem claims rs first second third answers e f =
    let lines = map reported_line (trait_lines limit script (map script_duty claims)) in
    f ∙ ap₂ (λ xs told. xs ++ map reported_line (answer_lines script told)) e answers
    ∙ ap (λ xs. (first ++ right_line stem ∷ []) ++ map reported_line xs)
    (lines_answered limit script (map script_duty claims))
    ∙ append_assoc first (right_line stem ∷ []) lines

-- and each duty that is proved is derivable
pub right_justified : (limit : ℕ) (script : Script) (claims : List Claim) (rs : List Replayed)
    → AreClaims (map script_duty claims) → map answer_of rs ≡ all_answered limit script [] 1 (map script_duty claims)
    → AreReplays limit script [] rs → All IsJustified (all_answered limit script [] 1 (map script_duty claims))
right_justified limit script claims rs are answers replays =
    let duties : map (λ (a : Answered). a.duty) (map answer_of rs) ≡ map script_duty claims =
    ap (map (λ (a : Answered). a.duty)) answers ∙ answered_are limit script [] 1 (map script_duty claims) in
    let own : AreClaims (map (λ (a : Answered). a.duty) (map answer_of rs)) = subst AreClaims (sym duties) are in
    let same : map (λ (a : Answered). a.duty) (map answer_of rs) ≡ map (λ r. (answer_of r).duty) rs =
    map_map (λ (a : Answered). a.duty) answer_of rs in
    subst (All IsJustified) answers
    (all_derivable (map answer_of rs) own (replays_certified limit script rs (subst AreClaims same own) replays))
