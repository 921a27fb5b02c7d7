-- What the statuses with which a session ends by itself say of faults.
use Rattle.std.proofs.Common.{◌≡◌, ℕ, Bool, false, refl, sym, subst}
use Rattle.larch_main_status.specs.Faults.{Counts, read_failed, sink_failed}
use Rattle.larch_main_status.specs.Status.{IsEnd}
use Rattle.larch_main_status.specs.declared.status.Status.{Status}
use Rattle.larch_main_status.specs.declared.status.Status.TheVariants.{Good, Remains, Words, ReadFault, WriteFault}
use Rattle.larch_main_status.specs.declared.status.Status.TheVariants.{Memory, Malformed, Size, NoFile}

pub source_end : (status : Status) → IsEnd status → read_failed status ≡ false
source_end Good is = refl
source_end Remains is = refl
source_end Malformed is = refl
source_end Size is = refl
source_end Words is = absurd is
source_end ReadFault is = absurd is
source_end WriteFault is = absurd is
source_end Memory is = absurd is
source_end NoFile is = absurd is

pub sink_end : (status : Status) → IsEnd status → sink_failed status ≡ false
sink_end Good is = refl
sink_end Remains is = refl
sink_end Malformed is = refl
sink_end Size is = refl
sink_end Words is = absurd is
sink_end ReadFault is = absurd is
sink_end WriteFault is = absurd is
sink_end Memory is = absurd is
sink_end NoFile is = absurd is

-- no fault where none is said
pub quiet : (failed : Bool) (before now : ℕ) → failed ≡ false → now ≡ before → Counts failed before now
quiet failed before now is same = subst (λ b. Counts b before now) (sym is) same
