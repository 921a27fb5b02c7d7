-- What is said of the statuses with which a session ends by itself.
use Rattle.std.proofs.Common.{ℕ, List, Option}
use Rattle.larch_main_status.specs.declared.status.Status.{Status}
use Rattle.larch_main_status.specs.declared.status.Status.TheVariants.{Good, Remains, Words, ReadFault, WriteFault}
use Rattle.larch_main_status.specs.declared.status.Status.TheVariants.{Memory, Malformed, Size, NoFile}
use Rattle.larch_main_session.specs.Endings.{SessionAnswers, SessionWrites, TakesInput, TakesWhole}
use Rattle.larch_main_status.specs.Status.{IsEnd}

module _ (limit : ℕ) where
  -- what is claimed of the statuses with which a session ends by itself
  pub writes_end : (left leaves held holds : Option (List ℕ)) (status : Status) → IsEnd status
      → SessionAnswers limit left leaves held holds status → SessionWrites limit left leaves held holds status
  writes_end left leaves held holds Good is a = a
  writes_end left leaves held holds Remains is a = a
  writes_end left leaves held holds Malformed is a = a
  writes_end left leaves held holds Size is a = a
  writes_end left leaves held holds Words is a = absurd is
  writes_end left leaves held holds ReadFault is a = absurd is
  writes_end left leaves held holds WriteFault is a = absurd is
  writes_end left leaves held holds Memory is a = absurd is
  writes_end left leaves held holds NoFile is a = absurd is

  pub takes_end : (left leaves held holds : Option (List ℕ)) (status : Status) → IsEnd status
      → TakesWhole limit left leaves held holds status → TakesInput limit left leaves held holds status
  takes_end left leaves held holds Good is t = t
  takes_end left leaves held holds Remains is t = t
  takes_end left leaves held holds Malformed is t = tt
  takes_end left leaves held holds Size is t = tt
  takes_end left leaves held holds Words is t = absurd is
  takes_end left leaves held holds ReadFault is t = absurd is
  takes_end left leaves held holds WriteFault is t = absurd is
  takes_end left leaves held holds Memory is t = absurd is
  takes_end left leaves held holds NoFile is t = absurd is
