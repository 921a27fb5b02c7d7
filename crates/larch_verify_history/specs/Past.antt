-- What a checker keeps of the lines before, by numbers of a pool.
use Rattle.std.specs.Prelude.{◌≡◌, ℕ, suc, ◌==◌, ◌<◌, if◌then◌else◌, List, [], ◌∷◌, length, map, reverse, All, IfSome}
use Rattle.std.specs.Prelude.{Option, Some, None, option_map, option_and_then}
use Rattle.std.specs.List.{slice_get}
use Rattle.larch_base.specs.ByNumber.{numbered}
use Rattle.larch_term.specs.declared.statement.Statement.{Statement}
use Rattle.larch_term.specs.declared.statement.Statement.TheVariants.{Equation, Generated, Partitioned}
use Rattle.larch_term.specs.declared.statement.Theory.{Theory}
use Rattle.larch_verify_meaning.specs.Events.{PlainBox, Event, Said, Opened, Closed}
use Rattle.larch_verify_pool.specs.Pooled.{Pooled, tree_in}
use Rattle.larch_verify_history.specs.declared.past.KeptHistory.{KeptHistory}
use Rattle.larch_verify_history.specs.declared.event.KeptEvent.{KeptEvent}
use Rattle.larch_verify_history.specs.declared.event.KeptEvent.TheVariants.{Says, Opens, Closes}
use Rattle.larch_verify_history.specs.declared.event.KnownBox.{KnownBox}
use Rattle.larch_verify_history.specs.declared.stated.Equated.{Equated}
use Rattle.larch_verify_history.specs.declared.stated.Stated.{Stated}
use Rattle.larch_verify_history.specs.declared.stated.Stated.TheVariants.{Equal, Generates, Partitions}

-- the equation of two numbers
abbrev pub equated_in : Pooled → Equated → Statement
equated_in p e = Equation (tree_in p.trees e.left) (tree_in p.trees e.right)

-- the statement
abbrev pub stated_in : Pooled → Stated → Statement
stated_in p (Equal e) = equated_in p e
stated_in p (Generates s fs) = Generated s fs
stated_in p (Partitions s fs) = Partitioned s fs

-- the numbers are those of nodes
abbrev pub IsEquated : Pooled → Equated → Type 0
IsEquated p e = (e.left < length p.trees) × (e.right < length p.trees)

abbrev pub IsStated : Pooled → Stated → Type 0
IsStated p (Equal e) = IsEquated p e
IsStated p (Generates s fs) = Unit {0}
IsStated p (Partitions s fs) = Unit {0}

-- a rule says, by numbers, what the definition says
abbrev pub SaysSo : Pooled → Option Stated → Option Statement → Type 0
SaysSo p o s = IfSome o (IsStated p) × (option_map (stated_in p) o ≡ s)

-- the box
abbrev pub box_in : Pooled → KnownBox → PlainBox
box_in p b = record { number = b.number; parts = b.parts; hypotheses = map (equated_in p) b.hypotheses }

-- the event
abbrev pub event_in : Pooled → KeptEvent → Event
event_in p (Says n s) = Said n (stated_in p s)
event_in p (Opens b) = Opened (box_in p b)
event_in p (Closes b s) = Closed (box_in p b) (stated_in p s)

-- what has happened, the newest first
abbrev pub history_in : Pooled → List KeptEvent → List Event
history_in p es = map (event_in p) (reverse es)

-- all numbers of an event are those of nodes
abbrev pub IsBox : Pooled → KnownBox → Type 0
IsBox p b = All (IsEquated p) b.hypotheses

abbrev pub IsHappened : Pooled → KeptEvent → Type 0
IsHappened p (Says n s) = IsStated p s
IsHappened p (Opens b) = IsBox p b
IsHappened p (Closes b s) = IsBox p b × IsStated p s

-- the line or box that an event is of
abbrev pub number_of : KeptEvent → ℕ
number_of (Says n s) = n
number_of (Opens b) = b.number
number_of (Closes b s) = b.number

-- each event stands, counted from the oldest, where the place of its number says; the newest comes first here
abbrev pub IsIndexed : List ℕ → List KeptEvent → Type 0
IsIndexed places [] = Unit {0}
IsIndexed places (e ∷ h) = (numbered places (number_of e) ≡ Some (length h)) × IsIndexed places h

-- for each open box how many events there were when it had been opened, the innermost first
abbrev pub open_levels : List KeptEvent → List ℕ
open_levels [] = []
open_levels (Says n s ∷ h) = open_levels h
open_levels (Opens b ∷ h) = suc (length h) ∷ open_levels h
open_levels (Closes b s ∷ h) = open_levels h

-- what has happened last is that a box was opened; the newest comes first
abbrev pub IsOpening : List KeptEvent → Type 0
IsOpening [] = ⊥
IsOpening (Says n s ∷ h) = ⊥
IsOpening (Opens b ∷ h) = Unit {0}
IsOpening (Closes b s ∷ h) = ⊥

-- the box that an event opens
abbrev pub opened_box : Option KeptEvent → Option KnownBox
opened_box None = None
opened_box (Some (Says n s)) = None
opened_box (Some (Opens b)) = Some b
opened_box (Some (Closes b s)) = None

-- the event with a number, if it is still kept
abbrev pub event_of : List ℕ → List KeptEvent → ℕ → Option KeptEvent
event_of places es n =
    option_and_then (λ i. option_and_then (λ e. if number_of e == n then Some e else None) (slice_get es i))
    (numbered places n)

-- what is kept is right: events by their places, open boxes, and the numbers of the theory's operators
pub record IsPast (t : Theory) (p : Pooled) (past : KeptHistory) : Type 0 where
  pub own : map (slice_get p.operators) past.own.items ≡ map Some t.operators
  pub within : All (IsHappened p) past.events.items
  pub index : IsIndexed past.places.items (reverse past.events.items)
  pub levels : open_levels (reverse past.events.items) ≡ reverse past.levels.items

-- what has happened so far
abbrev pub history_of : Pooled → KeptHistory → List Event
history_of p past = history_in p past.events.items
