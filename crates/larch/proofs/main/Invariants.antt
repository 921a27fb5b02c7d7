use Rattle.larch.proofs.main.Given as goal

-- the ledger of the one counter
abbrev pub ghosts-start : goal.ghosts-start
ghosts-start a = record { name = a.blank.name; parts = a.blank.parts }
