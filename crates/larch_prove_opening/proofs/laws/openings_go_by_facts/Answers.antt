use Rattle.larch_prove_opening.proofs.ByFacts.{axioms_by, facts_by, lemmas_by, opening_by}
use Rattle.larch_prove_opening.proofs.laws.openings_go_by_facts.Goals as goal

pub returns : goal.returns
returns c = record { axioms = axioms_by; lemmas = lemmas_by; both = facts_by; duty = opening_by }
