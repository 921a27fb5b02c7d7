use Rattle.larch_tests.proofs.calls.status_of.Given as goal

-- the ledger of the one counter
abbrev pub ghosts-status_counted : goal.ghosts-status_counted
ghosts-status_counted a = record { name = a.blank.name; parts = a.blank.parts }
