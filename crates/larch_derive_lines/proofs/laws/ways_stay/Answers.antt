use Rattle.larch_derive_lines.proofs.Ways.{leads_stays, leads_known}
use Rattle.larch_derive_lines.proofs.laws.ways_stay.Goals as goal

pub returns-clause-leads : goal.returns-clause-leads
returns-clause-leads c a b way s t x h = leads_stays a b way s t x h

pub returns-clause-known : goal.returns-clause-known
returns-clause-known c a way s t k h = leads_known a way s t k h
