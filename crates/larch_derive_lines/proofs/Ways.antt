-- Ways that lead on.
use Rattle.std.specs.Prelude.{◌≡◌, ℕ, Option, Some, None}
use Rattle.std.proofs.Common.{sym, subst}
use Rattle.larch_term.specs.Tree.{Tree}
use Rattle.larch_derive.specs.Predicates.{HasEquation, Extends, Known}
use Rattle.larch_derive.specs.declared.builder.Builder.{Builder}
use Rattle.larch_derive.proofs.Growth.{stays_said, known_right}
use Rattle.larch_derive_lines.specs.Way.{Leads}

pub led_further : (b : Builder) (n : ℕ) (s t u : Tree) → s ≡ t → HasEquation b n t u → HasEquation b n s u
led_further b n s t u e h = subst (λ v. HasEquation b n v u) (sym e) h

pub led_nowhere : (b : Builder) (n : ℕ) (s t : Tree) → s ≡ t → HasEquation b n s s → HasEquation b n s t
led_nowhere b n s t e h = subst (λ v. HasEquation b n s v) e h

pub leads_stays : (a b : Builder) (way : Option ℕ) (s t : Tree) → Extends a b → Leads a way s t → Leads b way s t
leads_stays a b None s t x h = h
leads_stays a b (Some n) s t x h = stays_said a b n _ x h

pub leads_known : (a : Builder) (way : Option ℕ) (s t : Tree) → Known a s → Leads a way s t → Known a t
leads_known a None s t k h = subst (Known a) h k
leads_known a (Some n) s t k h = known_right a n s t h
