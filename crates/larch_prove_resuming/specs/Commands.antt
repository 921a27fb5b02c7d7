-- The commands that resume a proof by a method.
use Rattle.std.specs.Prelude.{Option, None, Some}
use Rattle.larch_prove_meaning.specs.Plans.{Conjunction, Contradiction, Implication, Induction, Method, Partition}
use Rattle.larch_script_commands.specs.declared.command.CommandKind.{CommandKind}
use Rattle.larch_script_commands.specs.declared.command.CommandKind.TheVariants as command

-- a command resumes a proof by a method
abbrev pub ResumesProof : CommandKind → Type 0
ResumesProof (command.Declare names sort) = ⊥
ResumesProof (command.Limit n) = ⊥
ResumesProof (command.BoxChecking on) = ⊥
ResumesProof (command.Height upper lower) = ⊥
ResumesProof (command.Status way r) = ⊥
ResumesProof (command.Prove e) = ⊥
ResumesProof (command.Cases t) = Unit {0}
ResumesProof command.Implication = Unit {0}
ResumesProof command.Conjunction = Unit {0}
ResumesProof command.Contradiction = Unit {0}
ResumesProof (command.Induction x) = Unit {0}
ResumesProof command.Partition = Unit {0}
ResumesProof (command.Instantiate is n) = ⊥
ResumesProof (command.CriticalPairs n m) = ⊥
ResumesProof (command.Normalize n) = ⊥
ResumesProof command.Qed = ⊥
ResumesProof (command.Mark proved) = ⊥
ResumesProof (command.Bad code) = ⊥

-- the method of a command that has no term
abbrev pub method_in : CommandKind → Option Method
method_in (command.Declare names sort) = None
method_in (command.Limit n) = None
method_in (command.BoxChecking on) = None
method_in (command.Height upper lower) = None
method_in (command.Status way r) = None
method_in (command.Prove e) = None
method_in (command.Cases t) = None
method_in command.Implication = Some Implication
method_in command.Conjunction = Some Conjunction
method_in command.Contradiction = Some Contradiction
method_in (command.Induction x) = Some (Induction x.name)
method_in command.Partition = Some Partition
method_in (command.Instantiate is n) = None
method_in (command.CriticalPairs n m) = None
method_in (command.Normalize n) = None
method_in command.Qed = None
method_in (command.Mark proved) = None
method_in (command.Bad code) = None
