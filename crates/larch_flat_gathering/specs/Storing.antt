-- What is done with a store.
use Rattle.std.specs.Prelude.{◌||◌, Bool, List}
use Rattle.larch_term.specs.Operator.{PlainOperator}
use Rattle.larch_flat_statements.specs.FlatMeaningGathered.{Gathered, Marked, is_too_large}
use Rattle.larch_flat_statements.specs.FlatMeaningGathered.{new_among, statements_in, with_operators}
use Rattle.larch_flat_statements.specs.FlatMeaningGathered.{with_taken}
use Rattle.larch_flat_gathering.specs.Keeping.{Gathering}

-- it is full where a limit is passed
abbrev pub with_limits : Gathering → Gathering
with_limits s = record { gathered = s.gathered; full = s.full || is_too_large s.gathered }

-- with these operators
abbrev pub storing_operators : List PlainOperator → Gathering → Gathering
storing_operators fs s = record { gathered = with_operators fs s.gathered; full = s.full }

-- with a statement of a trait that is assumed, or else included
abbrev pub storing : Bool → Marked → Gathering → Gathering
storing assumes m s = record { gathered = with_taken assumes m s.gathered; full = s.full }

-- what is stated itself needs no discharge
abbrev pub discharge_stated : Gathered → Gathered
discharge_stated g =
    record {
      operators = g.operators;
      marked = g.marked;
      discharge = new_among (statements_in g.marked) g.discharge;
    }
