-- Traits, duties and scripts of the examples. Written by tools/make/replay_examples.py.
use Rattle.std.specs.Prelude.{[], ◌∷◌, List, None, Some, codes}
use Rattle.larch_base.specs.declared.fact_name.FactLetter.TheVariants.{Hypothesis, Lemma}
use Rattle.larch_base.specs.declared.label.Label.TheVariants.{Convert, Imply}
use Rattle.larch_base.specs.declared.code.Code.TheVariants as refusal
use Rattle.larch_script_commands.specs.Written.{instead, lone, said, word}
use Rattle.larch_script_commands.specs.declared.command.CommandKind.TheVariants as command
use Rattle.larch_script_commands.specs.declared.script.Script.{Script}
use Rattle.larch_term.specs.Operator.{PlainOperator, plain}
use Rattle.larch_term.specs.Tree.{var, app, forest_of}
use Rattle.larch_term.specs.BuiltIn.{built_in, bool_sort}
use Rattle.larch_term.specs.Truth.{truth}
use Rattle.larch_term.specs.declared.built_in.BuiltIn.TheVariants.{False, Not, And, Or, Implies, Equal, If}
use Rattle.larch_term.specs.declared.statement.Statement.TheVariants.{Equation, Generated, Partitioned}
use Rattle.larch_term.specs.declared.statement.Theory.{Theory}
use Rattle.larch_calculus.specs.Formula.{constant, apply_one, apply_two}
use Rattle.larch_prove_meaning.specs.Facts.{whole_name}
use Rattle.larch_prove_meaning.specs.Replays.{Duty}
use Rattle.larch_prove_meaning.specs.Scripts.{ClaimedDuty}

-- ---- the trait Truths

abbrev pub truths_f : PlainOperator
truths_f = record { name = plain (codes "f"); domain = codes "Bool" ∷ []; range = codes "Bool" }

abbrev pub truths : Theory
truths = record {
  operators = truths_f ∷ [];
  statements = Equation (apply_one truths_f truth) truth ∷
      Equation (apply_one truths_f (constant (built_in False bool_sort))) truth ∷
      [];
}

abbrev pub truths_imply_1 : Duty
truths_imply_1 = record {
  theory = truths;
  statement = Equation (apply_one truths_f (var (codes "b") (codes "Bool"))) truth;
  lemmas = [];
}

abbrev pub truths_script_1 : Script
truths_script_1 = record {
  preamble = [];
  blocks = record { line = 1; label = Imply 9; commands = record { line = 2; kind = command.Qed } ∷ [] } ∷
      record {
        line = 3;
        label = Imply 1;
        commands = record { line = 4; kind = command.Cases (lone (said (codes "undefined") [])) } ∷ [];
      } ∷
      record { line = 5; label = Imply 1; commands = [] } ∷
      record { line = 6; label = Convert 7; commands = [] } ∷
      [];
}

abbrev pub truths_claims : List ClaimedDuty
truths_claims =
    record {
      label = Imply 1;
      clause = None;
      theory = truths;
      statement = Equation (apply_one truths_f (var (codes "b") (codes "Bool"))) truth;
    } ∷
    []

-- ---- the trait Numbers

abbrev pub numbers_nought : PlainOperator
numbers_nought = record { name = plain (codes "0"); domain = []; range = codes "N" }

abbrev pub numbers_s : PlainOperator
numbers_s = record { name = plain (codes "s"); domain = codes "N" ∷ []; range = codes "N" }

abbrev pub numbers_plus : PlainOperator
numbers_plus = record { name = plain (codes "__ + __"); domain = codes "N" ∷ codes "N" ∷ []; range = codes "N" }

abbrev pub numbers : Theory
numbers = record {
  operators = numbers_nought ∷ numbers_s ∷ numbers_plus ∷ [];
  statements = Generated (codes "N") (numbers_nought ∷ numbers_s ∷ []) ∷
      Equation
      (apply_two numbers_plus (var (codes "x") (codes "N")) (constant numbers_nought))
      (var (codes "x") (codes "N")) ∷
      Equation
      (apply_two numbers_plus (var (codes "x") (codes "N")) (apply_one numbers_s (var (codes "y") (codes "N"))))
      (apply_one numbers_s (apply_two numbers_plus (var (codes "x") (codes "N")) (var (codes "y") (codes "N")))) ∷
      [];
}

abbrev pub numbers_imply_1 : Duty
numbers_imply_1 = record {
  theory = numbers;
  statement = Equation
      (apply_two numbers_plus (constant numbers_nought) (var (codes "x") (codes "N")))
      (var (codes "x") (codes "N"));
  lemmas = [];
}

abbrev pub numbers_imply_2 : Duty
numbers_imply_2 = record {
  theory = numbers;
  statement = Equation
      (apply_two numbers_plus (apply_one numbers_s (var (codes "x") (codes "N"))) (var (codes "y") (codes "N")))
      (apply_one numbers_s (apply_two numbers_plus (var (codes "x") (codes "N")) (var (codes "y") (codes "N"))));
  lemmas = record {
    number = 1;
    statement = Equation
        (apply_two numbers_plus (constant numbers_nought) (var (codes "x") (codes "N")))
        (var (codes "x") (codes "N"));
  } ∷
      [];
}

abbrev pub numbers_imply_3 : Duty
numbers_imply_3 = record {
  theory = numbers;
  statement = Equation
      (apply_two numbers_plus (var (codes "x") (codes "N")) (var (codes "y") (codes "N")))
      (apply_two numbers_plus (var (codes "y") (codes "N")) (var (codes "x") (codes "N")));
  lemmas = record {
    number = 1;
    statement = Equation
        (apply_two numbers_plus (constant numbers_nought) (var (codes "x") (codes "N")))
        (var (codes "x") (codes "N"));
  } ∷
      record {
        number = 2;
        statement = Equation
            (apply_two numbers_plus (apply_one numbers_s (var (codes "x") (codes "N"))) (var (codes "y") (codes "N")))
            (apply_one numbers_s (apply_two numbers_plus (var (codes "x") (codes "N")) (var (codes "y") (codes "N"))));
      } ∷
      [];
}

abbrev pub numbers_script_1 : Script
numbers_script_1 = record {
  preamble = [];
  blocks = record {
    line = 1;
    label = Imply 1;
    commands = record { line = 2; kind = command.Induction (word (codes "x")) } ∷ [];
  } ∷
      record {
        line = 3;
        label = Imply 2;
        commands = record { line = 4; kind = command.Induction (word (codes "y")) } ∷ [];
      } ∷
      record {
        line = 5;
        label = Imply 3;
        commands = record { line = 6; kind = command.Induction (word (codes "y")) } ∷
            record { line = 7; kind = command.Contradiction } ∷
            record {
              line = 8;
              kind = command.Instantiate (instead (codes "x") (said (codes "xc") []) ∷ []) (whole_name Hypothesis 1);
            } ∷
            record { line = 9; kind = command.Normalize (whole_name Hypothesis 2) } ∷
            record { line = 10; kind = command.Qed } ∷
            [];
      } ∷
      [];
}

abbrev pub numbers_claims : List ClaimedDuty
numbers_claims =
    record {
      label = Imply 1;
      clause = None;
      theory = numbers;
      statement = Equation
          (apply_two numbers_plus (constant numbers_nought) (var (codes "x") (codes "N")))
          (var (codes "x") (codes "N"));
    } ∷
    record {
      label = Imply 2;
      clause = None;
      theory = numbers;
      statement = Equation
          (apply_two numbers_plus (apply_one numbers_s (var (codes "x") (codes "N"))) (var (codes "y") (codes "N")))
          (apply_one numbers_s (apply_two numbers_plus (var (codes "x") (codes "N")) (var (codes "y") (codes "N"))));
    } ∷
    record {
      label = Imply 3;
      clause = None;
      theory = numbers;
      statement = Equation
          (apply_two numbers_plus (var (codes "x") (codes "N")) (var (codes "y") (codes "N")))
          (apply_two numbers_plus (var (codes "y") (codes "N")) (var (codes "x") (codes "N")));
    } ∷
    []

abbrev pub numbers_script_2 : Script
numbers_script_2 = record {
  preamble = [];
  blocks = record {
    line = 1;
    label = Imply 1;
    commands = record { line = 2; kind = command.Induction (word (codes "x")) } ∷ [];
  } ∷
      record {
        line = 3;
        label = Imply 2;
        commands = record { line = 4; kind = command.Induction (word (codes "x")) } ∷ [];
      } ∷
      record {
        line = 5;
        label = Imply 3;
        commands = record { line = 6; kind = command.Induction (word (codes "y")) } ∷
            record { line = 7; kind = command.Contradiction } ∷
            record {
              line = 8;
              kind = command.Instantiate (instead (codes "x") (said (codes "xc") []) ∷ []) (whole_name Hypothesis 1);
            } ∷
            record { line = 9; kind = command.Normalize (whole_name Hypothesis 2) } ∷
            record { line = 10; kind = command.Qed } ∷
            [];
      } ∷
      [];
}

abbrev pub numbers_script_3 : Script
numbers_script_3 = record {
  preamble = record { line = 2; kind = command.Limit 5 } ∷ record { line = 3; kind = command.Qed } ∷ [];
  blocks = [];
}

abbrev pub numbers_script_4 : Script
numbers_script_4 = record {
  preamble = [];
  blocks = record {
    line = 1;
    label = Imply 1;
    commands = record { line = 2; kind = command.Induction (word (codes "x")) } ∷ [];
  } ∷
      record {
        line = 3;
        label = Imply 2;
        commands = record { line = 4; kind = command.Induction (word (codes "y")) } ∷ [];
      } ∷
      record {
        line = 5;
        label = Imply 3;
        commands = record { line = 6; kind = command.Induction (word (codes "y")) } ∷
            record { line = 7; kind = command.Contradiction } ∷
            record {
              line = 8;
              kind = command.Instantiate (instead (codes "x") (said (codes "xc") []) ∷ []) (whole_name Hypothesis 1);
            } ∷
            record { line = 9; kind = command.Normalize (whole_name Hypothesis 2) } ∷
            [];
      } ∷
      [];
}

abbrev pub numbers_script_5 : Script
numbers_script_5 = record {
  preamble = [];
  blocks = record {
    line = 1;
    label = Imply 1;
    commands = record { line = 2; kind = command.Induction (word (codes "x")) } ∷ [];
  } ∷
      record {
        line = 3;
        label = Imply 2;
        commands = record { line = 4; kind = command.Induction (word (codes "y")) } ∷ [];
      } ∷
      record {
        line = 5;
        label = Imply 3;
        commands = record { line = 6; kind = command.Induction (word (codes "y")) } ∷
            record { line = 7; kind = command.Contradiction } ∷
            record {
              line = 8;
              kind = command.Instantiate (instead (codes "x") (said (codes "xc") []) ∷ []) (whole_name Hypothesis 1);
            } ∷
            record { line = 9; kind = command.Normalize (whole_name Hypothesis 1) } ∷
            record { line = 10; kind = command.Qed } ∷
            [];
      } ∷
      [];
}

-- ---- the trait Three

abbrev pub three_nought : PlainOperator
three_nought = record { name = plain (codes "0"); domain = []; range = codes "N" }

abbrev pub three_s : PlainOperator
three_s = record { name = plain (codes "s"); domain = codes "N" ∷ []; range = codes "N" }

abbrev pub three_plus : PlainOperator
three_plus = record { name = plain (codes "__ + __"); domain = codes "N" ∷ codes "N" ∷ []; range = codes "N" }

abbrev pub three : Theory
three = record {
  operators = three_nought ∷ three_s ∷ three_plus ∷ [];
  statements = Generated (codes "N") (three_nought ∷ three_s ∷ []) ∷
      Equation
      (apply_two three_plus (var (codes "x") (codes "N")) (constant three_nought))
      (var (codes "x") (codes "N")) ∷
      Equation
      (apply_two three_plus (var (codes "x") (codes "N")) (apply_one three_s (var (codes "y") (codes "N"))))
      (apply_one three_s (apply_two three_plus (var (codes "x") (codes "N")) (var (codes "y") (codes "N")))) ∷
      [];
}

abbrev pub three_imply_1 : Duty
three_imply_1 = record {
  theory = three;
  statement = Equation
      (apply_two
      three_plus
      (apply_one three_s (constant three_nought))
      (apply_one three_s (apply_one three_s (constant three_nought))))
      (apply_one three_s (apply_one three_s (apply_one three_s (constant three_nought))));
  lemmas = [];
}

abbrev pub three_script_1 : Script
three_script_1 = record {
  preamble = record { line = 1; kind = command.Limit 3 } ∷ [];
  blocks = record { line = 2; label = Imply 1; commands = [] } ∷ [];
}

abbrev pub three_claims : List ClaimedDuty
three_claims =
    record {
      label = Imply 1;
      clause = None;
      theory = three;
      statement = Equation
          (apply_two
          three_plus
          (apply_one three_s (constant three_nought))
          (apply_one three_s (apply_one three_s (constant three_nought))))
          (apply_one three_s (apply_one three_s (apply_one three_s (constant three_nought))));
    } ∷
    []

abbrev pub three_script_2 : Script
three_script_2 = record {
  preamble = record { line = 2; kind = command.Limit 3 } ∷ [];
  blocks = record { line = 3; label = Imply 1; commands = [] } ∷ [];
}

abbrev pub three_script_3 : Script
three_script_3 = record {
  preamble = record { line = 1; kind = command.Limit 4 } ∷ [];
  blocks = record { line = 2; label = Imply 1; commands = [] } ∷ [];
}

-- ---- the trait Steps

abbrev pub steps_nought : PlainOperator
steps_nought = record { name = plain (codes "0"); domain = []; range = codes "N" }

abbrev pub steps_s : PlainOperator
steps_s = record { name = plain (codes "s"); domain = codes "N" ∷ []; range = codes "N" }

abbrev pub steps_p : PlainOperator
steps_p = record { name = plain (codes "p"); domain = codes "N" ∷ []; range = codes "N" }

abbrev pub steps : Theory
steps = record {
  operators = steps_nought ∷ steps_s ∷ steps_p ∷ [];
  statements = Generated (codes "N") (steps_nought ∷ steps_s ∷ []) ∷
      Equation (apply_one steps_p (var (codes "x") (codes "N"))) (apply_one steps_s (var (codes "x") (codes "N"))) ∷
      [];
}

abbrev pub steps_imply_1 : Duty
steps_imply_1 = record {
  theory = steps;
  statement = Generated (codes "N") (steps_nought ∷ steps_p ∷ []);
  lemmas = [];
}

-- ---- the trait Sets

abbrev pub sets_braces : PlainOperator
sets_braces = record { name = plain (codes "{}"); domain = []; range = codes "C" }

abbrev pub sets_insert : PlainOperator
sets_insert = record { name = plain (codes "insert"); domain = codes "E" ∷ codes "C" ∷ []; range = codes "C" }

abbrev pub sets_in : PlainOperator
sets_in = record { name = plain (codes "__ \\in __"); domain = codes "E" ∷ codes "C" ∷ []; range = codes "Bool" }

abbrev pub sets : Theory
sets = record {
  operators = sets_braces ∷ sets_insert ∷ sets_in ∷ [];
  statements = Generated (codes "C") (sets_braces ∷ sets_insert ∷ []) ∷
      Partitioned (codes "C") (sets_in ∷ []) ∷
      Equation
      (apply_one (built_in Not bool_sort) (apply_two sets_in (var (codes "e") (codes "E")) (constant sets_braces)))
      truth ∷
      Equation
      (apply_two
      sets_in
      (var (codes "e1") (codes "E"))
      (apply_two sets_insert (var (codes "e2") (codes "E")) (var (codes "s") (codes "C"))))
      (apply_two
      (built_in Or bool_sort)
      (apply_two (built_in Equal (codes "E")) (var (codes "e1") (codes "E")) (var (codes "e2") (codes "E")))
      (apply_two sets_in (var (codes "e1") (codes "E")) (var (codes "s") (codes "C")))) ∷
      [];
}

abbrev pub sets_imply_1 : Duty
sets_imply_1 = record {
  theory = sets;
  statement = Equation
      (apply_one
      (built_in Not bool_sort)
      (apply_two
      (built_in Equal (codes "C"))
      (apply_two sets_insert (var (codes "e") (codes "E")) (var (codes "s") (codes "C")))
      (constant sets_braces)))
      truth;
  lemmas = [];
}

abbrev pub sets_imply_2 : Duty
sets_imply_2 = record {
  theory = sets;
  statement = Equation
      (apply_two
      sets_insert
      (var (codes "e") (codes "E"))
      (apply_two sets_insert (var (codes "e") (codes "E")) (var (codes "s") (codes "C"))))
      (apply_two sets_insert (var (codes "e") (codes "E")) (var (codes "s") (codes "C")));
  lemmas = [];
}

-- ---- the trait Tables

abbrev pub tables_new : PlainOperator
tables_new = record { name = plain (codes "new"); domain = []; range = codes "Tab" }

abbrev pub tables_add : PlainOperator
tables_add = record {
  name = plain (codes "add");
  domain = codes "Tab" ∷ codes "Ind" ∷ codes "Val" ∷ [];
  range = codes "Tab";
}

abbrev pub tables_in : PlainOperator
tables_in = record {
  name = plain (codes "__ \\in __");
  domain = codes "Ind" ∷ codes "Tab" ∷ [];
  range = codes "Bool";
}

abbrev pub tables_lookup : PlainOperator
tables_lookup = record { name = plain (codes "lookup"); domain = codes "Tab" ∷ codes "Ind" ∷ []; range = codes "Val" }

abbrev pub tables_isEmpty : PlainOperator
tables_isEmpty = record { name = plain (codes "isEmpty"); domain = codes "Tab" ∷ []; range = codes "Bool" }

abbrev pub tables : Theory
tables = record {
  operators = tables_new ∷ tables_add ∷ tables_in ∷ tables_lookup ∷ tables_isEmpty ∷ [];
  statements = Generated (codes "Tab") (tables_new ∷ tables_add ∷ []) ∷
      Equation
      (apply_one (built_in Not bool_sort) (apply_two tables_in (var (codes "i") (codes "Ind")) (constant tables_new)))
      truth ∷
      Equation
      (apply_two
      tables_in
      (var (codes "i") (codes "Ind"))
      (app
      tables_add
      (forest_of
      (var (codes "t") (codes "Tab") ∷ var (codes "j") (codes "Ind") ∷ var (codes "v") (codes "Val") ∷ []))))
      (apply_two
      (built_in Or bool_sort)
      (apply_two (built_in Equal (codes "Ind")) (var (codes "i") (codes "Ind")) (var (codes "j") (codes "Ind")))
      (apply_two tables_in (var (codes "i") (codes "Ind")) (var (codes "t") (codes "Tab")))) ∷
      Equation
      (apply_two
      tables_lookup
      (app
      tables_add
      (forest_of
      (var (codes "t") (codes "Tab") ∷ var (codes "j") (codes "Ind") ∷ var (codes "v") (codes "Val") ∷ [])))
      (var (codes "i") (codes "Ind")))
      (app
      (built_in If (codes "Val"))
      (forest_of
      (apply_two (built_in Equal (codes "Ind")) (var (codes "i") (codes "Ind")) (var (codes "j") (codes "Ind")) ∷
      var (codes "v") (codes "Val") ∷
      apply_two tables_lookup (var (codes "t") (codes "Tab")) (var (codes "i") (codes "Ind")) ∷
      []))) ∷
      Equation (apply_one tables_isEmpty (constant tables_new)) truth ∷
      Equation
      (apply_one
      (built_in Not bool_sort)
      (apply_one
      tables_isEmpty
      (app
      tables_add
      (forest_of
      (var (codes "t") (codes "Tab") ∷ var (codes "j") (codes "Ind") ∷ var (codes "v") (codes "Val") ∷ [])))))
      truth ∷
      [];
}

abbrev pub tables_imply_1 : Duty
tables_imply_1 = record {
  theory = tables;
  statement = Equation
      (apply_two
      (built_in Implies bool_sort)
      (apply_two tables_in (var (codes "i") (codes "Ind")) (var (codes "t") (codes "Tab")))
      (apply_one (built_in Not bool_sort) (apply_one tables_isEmpty (var (codes "t") (codes "Tab")))))
      truth;
  lemmas = [];
}

abbrev pub tables_isEmpty_copy : PlainOperator
tables_isEmpty_copy = record { name = plain (codes "isEmpty'"); domain = codes "Tab" ∷ []; range = codes "Bool" }

abbrev pub tables_lookup_copy : PlainOperator
tables_lookup_copy = record {
  name = plain (codes "lookup'");
  domain = codes "Tab" ∷ codes "Ind" ∷ [];
  range = codes "Val";
}

abbrev pub tables_converted : Theory
tables_converted = record {
  operators = tables_new ∷
      tables_add ∷
      tables_in ∷
      tables_lookup ∷
      tables_isEmpty ∷
      tables_isEmpty_copy ∷
      tables_lookup_copy ∷
      [];
  statements = Generated (codes "Tab") (tables_new ∷ tables_add ∷ []) ∷
      Equation
      (apply_one (built_in Not bool_sort) (apply_two tables_in (var (codes "i") (codes "Ind")) (constant tables_new)))
      truth ∷
      Equation
      (apply_two
      tables_in
      (var (codes "i") (codes "Ind"))
      (app
      tables_add
      (forest_of
      (var (codes "t") (codes "Tab") ∷ var (codes "j") (codes "Ind") ∷ var (codes "v") (codes "Val") ∷ []))))
      (apply_two
      (built_in Or bool_sort)
      (apply_two (built_in Equal (codes "Ind")) (var (codes "i") (codes "Ind")) (var (codes "j") (codes "Ind")))
      (apply_two tables_in (var (codes "i") (codes "Ind")) (var (codes "t") (codes "Tab")))) ∷
      Equation
      (apply_two
      tables_lookup
      (app
      tables_add
      (forest_of
      (var (codes "t") (codes "Tab") ∷ var (codes "j") (codes "Ind") ∷ var (codes "v") (codes "Val") ∷ [])))
      (var (codes "i") (codes "Ind")))
      (app
      (built_in If (codes "Val"))
      (forest_of
      (apply_two (built_in Equal (codes "Ind")) (var (codes "i") (codes "Ind")) (var (codes "j") (codes "Ind")) ∷
      var (codes "v") (codes "Val") ∷
      apply_two tables_lookup (var (codes "t") (codes "Tab")) (var (codes "i") (codes "Ind")) ∷
      []))) ∷
      Equation (apply_one tables_isEmpty (constant tables_new)) truth ∷
      Equation
      (apply_one
      (built_in Not bool_sort)
      (apply_one
      tables_isEmpty
      (app
      tables_add
      (forest_of
      (var (codes "t") (codes "Tab") ∷ var (codes "j") (codes "Ind") ∷ var (codes "v") (codes "Val") ∷ [])))))
      truth ∷
      Equation
      (apply_two
      tables_lookup_copy
      (app
      tables_add
      (forest_of
      (var (codes "t") (codes "Tab") ∷ var (codes "j") (codes "Ind") ∷ var (codes "v") (codes "Val") ∷ [])))
      (var (codes "i") (codes "Ind")))
      (app
      (built_in If (codes "Val"))
      (forest_of
      (apply_two (built_in Equal (codes "Ind")) (var (codes "i") (codes "Ind")) (var (codes "j") (codes "Ind")) ∷
      var (codes "v") (codes "Val") ∷
      apply_two tables_lookup_copy (var (codes "t") (codes "Tab")) (var (codes "i") (codes "Ind")) ∷
      []))) ∷
      Equation (apply_one tables_isEmpty_copy (constant tables_new)) truth ∷
      Equation
      (apply_one
      (built_in Not bool_sort)
      (apply_one
      tables_isEmpty_copy
      (app
      tables_add
      (forest_of
      (var (codes "t") (codes "Tab") ∷ var (codes "j") (codes "Ind") ∷ var (codes "v") (codes "Val") ∷ [])))))
      truth ∷
      Equation
      (apply_two tables_lookup (constant tables_new) (var (codes "i") (codes "Ind")))
      (apply_two tables_lookup_copy (constant tables_new) (var (codes "i") (codes "Ind"))) ∷
      [];
}

abbrev pub tables_convert_2 : Duty
tables_convert_2 = record {
  theory = tables_converted;
  statement = Equation
      (apply_two tables_lookup (var (codes "x1") (codes "Tab")) (var (codes "x2") (codes "Ind")))
      (apply_two tables_lookup_copy (var (codes "x1") (codes "Tab")) (var (codes "x2") (codes "Ind")));
  lemmas = [];
}

abbrev pub tables_convert_1 : Duty
tables_convert_1 = record {
  theory = tables_converted;
  statement = Equation
      (apply_one tables_isEmpty (var (codes "x1") (codes "Tab")))
      (apply_one tables_isEmpty_copy (var (codes "x1") (codes "Tab")));
  lemmas = [];
}

-- ---- the trait Shapes

abbrev pub shapes_tip : PlainOperator
shapes_tip = record { name = plain (codes "tip"); domain = []; range = codes "T" }

abbrev pub shapes_up : PlainOperator
shapes_up = record { name = plain (codes "up"); domain = codes "T" ∷ []; range = codes "T" }

abbrev pub shapes_mirror : PlainOperator
shapes_mirror = record { name = plain (codes "mirror"); domain = codes "T" ∷ []; range = codes "T" }

abbrev pub shapes_join : PlainOperator
shapes_join = record { name = plain (codes "join"); domain = codes "T" ∷ codes "T" ∷ []; range = codes "T" }

abbrev pub shapes : Theory
shapes = record {
  operators = shapes_tip ∷ shapes_up ∷ shapes_mirror ∷ shapes_join ∷ [];
  statements = Generated (codes "T") (shapes_tip ∷ shapes_up ∷ shapes_join ∷ []) ∷
      Equation (apply_one shapes_mirror (constant shapes_tip)) (constant shapes_tip) ∷
      Equation
      (apply_one shapes_mirror (apply_one shapes_up (var (codes "t") (codes "T"))))
      (apply_one shapes_up (apply_one shapes_mirror (var (codes "t") (codes "T")))) ∷
      Equation
      (apply_one shapes_mirror (apply_two shapes_join (var (codes "t") (codes "T")) (var (codes "u") (codes "T"))))
      (apply_two
      shapes_join
      (apply_one shapes_mirror (var (codes "u") (codes "T")))
      (apply_one shapes_mirror (var (codes "t") (codes "T")))) ∷
      [];
}

abbrev pub shapes_imply_1 : Duty
shapes_imply_1 = record {
  theory = shapes;
  statement = Equation (apply_one shapes_mirror (var (codes "t") (codes "T"))) (var (codes "t") (codes "T"));
  lemmas = [];
}

abbrev pub shapes_tc1 : PlainOperator
shapes_tc1 = record { name = plain (codes "tc1"); domain = []; range = codes "T" }

abbrev pub shapes_tc2 : PlainOperator
shapes_tc2 = record { name = plain (codes "tc2"); domain = []; range = codes "T" }

-- ---- the trait User

abbrev pub user_le : PlainOperator
user_le = record { name = plain (codes "le"); domain = codes "E" ∷ codes "E" ∷ []; range = codes "Bool" }

abbrev pub user : Theory
user = record {
  operators = user_le ∷ [];
  statements = Equation (apply_two user_le (var (codes "y") (codes "E")) (var (codes "y") (codes "E"))) truth ∷ [];
}

abbrev pub user_assume_1 : Duty
user_assume_1 = record {
  theory = user;
  statement = Equation (apply_two user_le (var (codes "x") (codes "E")) (var (codes "x") (codes "E"))) truth;
  lemmas = [];
}

-- ---- the trait Doubles

abbrev pub doubles_8_nought : PlainOperator
doubles_8_nought = record { name = plain (codes "0"); domain = []; range = codes "N" }

abbrev pub doubles_8_c : PlainOperator
doubles_8_c = record { name = plain (codes "c"); domain = []; range = codes "N" }

abbrev pub doubles_8_s : PlainOperator
doubles_8_s = record { name = plain (codes "s"); domain = codes "N" ∷ []; range = codes "N" }

abbrev pub doubles_8_p : PlainOperator
doubles_8_p = record { name = plain (codes "p"); domain = codes "N" ∷ codes "N" ∷ []; range = codes "N" }

abbrev pub doubles_8_f : PlainOperator
doubles_8_f = record { name = plain (codes "f"); domain = codes "N" ∷ codes "N" ∷ []; range = codes "N" }

abbrev pub doubles_8 : Theory
doubles_8 = record {
  operators = doubles_8_nought ∷ doubles_8_c ∷ doubles_8_s ∷ doubles_8_p ∷ doubles_8_f ∷ [];
  statements = Equation
      (apply_two doubles_8_f (apply_one doubles_8_s (var (codes "x") (codes "N"))) (var (codes "y") (codes "N")))
      (apply_two
      doubles_8_f
      (var (codes "x") (codes "N"))
      (apply_two doubles_8_p (var (codes "y") (codes "N")) (var (codes "y") (codes "N")))) ∷
      [];
}

abbrev pub doubles_8_imply_1 : Duty
doubles_8_imply_1 = record {
  theory = doubles_8;
  statement = Equation
      (apply_two
      doubles_8_f
      (apply_one
      doubles_8_s
      (apply_one
      doubles_8_s
      (apply_one
      doubles_8_s
      (apply_one
      doubles_8_s
      (apply_one
      doubles_8_s
      (apply_one doubles_8_s (apply_one doubles_8_s (apply_one doubles_8_s (constant doubles_8_nought)))))))))
      (constant doubles_8_c))
      (constant doubles_8_c);
  lemmas = [];
}

-- ---- the trait Doubles

abbrev pub doubles_12_nought : PlainOperator
doubles_12_nought = record { name = plain (codes "0"); domain = []; range = codes "N" }

abbrev pub doubles_12_c : PlainOperator
doubles_12_c = record { name = plain (codes "c"); domain = []; range = codes "N" }

abbrev pub doubles_12_s : PlainOperator
doubles_12_s = record { name = plain (codes "s"); domain = codes "N" ∷ []; range = codes "N" }

abbrev pub doubles_12_p : PlainOperator
doubles_12_p = record { name = plain (codes "p"); domain = codes "N" ∷ codes "N" ∷ []; range = codes "N" }

abbrev pub doubles_12_f : PlainOperator
doubles_12_f = record { name = plain (codes "f"); domain = codes "N" ∷ codes "N" ∷ []; range = codes "N" }

abbrev pub doubles_12 : Theory
doubles_12 = record {
  operators = doubles_12_nought ∷ doubles_12_c ∷ doubles_12_s ∷ doubles_12_p ∷ doubles_12_f ∷ [];
  statements = Equation
      (apply_two doubles_12_f (apply_one doubles_12_s (var (codes "x") (codes "N"))) (var (codes "y") (codes "N")))
      (apply_two
      doubles_12_f
      (var (codes "x") (codes "N"))
      (apply_two doubles_12_p (var (codes "y") (codes "N")) (var (codes "y") (codes "N")))) ∷
      [];
}

abbrev pub doubles_12_imply_1 : Duty
doubles_12_imply_1 = record {
  theory = doubles_12;
  statement = Equation
      (apply_two
      doubles_12_f
      (apply_one
      doubles_12_s
      (apply_one
      doubles_12_s
      (apply_one
      doubles_12_s
      (apply_one
      doubles_12_s
      (apply_one
      doubles_12_s
      (apply_one
      doubles_12_s
      (apply_one
      doubles_12_s
      (apply_one
      doubles_12_s
      (apply_one
      doubles_12_s
      (apply_one
      doubles_12_s
      (apply_one doubles_12_s (apply_one doubles_12_s (constant doubles_12_nought)))))))))))))
      (constant doubles_12_c))
      (constant doubles_12_c);
  lemmas = [];
}

abbrev pub doubles_12_script_1 : Script
doubles_12_script_1 = record { preamble = []; blocks = [] }

abbrev pub doubles_12_claims : List ClaimedDuty
doubles_12_claims =
    record {
      label = Imply 1;
      clause = None;
      theory = doubles_12;
      statement = Equation
          (apply_two
          doubles_12_f
          (apply_one
          doubles_12_s
          (apply_one
          doubles_12_s
          (apply_one
          doubles_12_s
          (apply_one
          doubles_12_s
          (apply_one
          doubles_12_s
          (apply_one
          doubles_12_s
          (apply_one
          doubles_12_s
          (apply_one
          doubles_12_s
          (apply_one
          doubles_12_s
          (apply_one
          doubles_12_s
          (apply_one doubles_12_s (apply_one doubles_12_s (constant doubles_12_nought)))))))))))))
          (constant doubles_12_c))
          (constant doubles_12_c);
    } ∷
    []

-- ---- the trait Logic

abbrev pub logic_c : PlainOperator
logic_c = record { name = plain (codes "c"); domain = []; range = codes "S" }

abbrev pub logic_p : PlainOperator
logic_p = record { name = plain (codes "p"); domain = codes "S" ∷ []; range = codes "Bool" }

abbrev pub logic_q : PlainOperator
logic_q = record { name = plain (codes "q"); domain = codes "S" ∷ []; range = codes "Bool" }

abbrev pub logic : Theory
logic = record {
  operators = logic_c ∷ logic_p ∷ logic_q ∷ [];
  statements = Equation
      (apply_two
      (built_in Implies bool_sort)
      (apply_one logic_p (var (codes "x") (codes "S")))
      (apply_one logic_q (var (codes "x") (codes "S"))))
      truth ∷
      [];
}

abbrev pub logic_imply_1 : Duty
logic_imply_1 = record {
  theory = logic;
  statement = Equation
      (apply_two
      (built_in Implies bool_sort)
      (apply_one logic_p (var (codes "x") (codes "S")))
      (apply_two
      (built_in And bool_sort)
      (apply_one logic_q (var (codes "x") (codes "S")))
      (apply_one logic_p (var (codes "x") (codes "S")))))
      truth;
  lemmas = [];
}

abbrev pub logic_imply_2 : Duty
logic_imply_2 = record {
  theory = logic;
  statement = Equation
      (apply_two
      (built_in And bool_sort)
      (apply_two
      (built_in Or bool_sort)
      (apply_one logic_q (var (codes "x") (codes "S")))
      (apply_one (built_in Not bool_sort) (apply_one logic_p (var (codes "x") (codes "S")))))
      (apply_two
      (built_in And bool_sort)
      (apply_two
      (built_in Implies bool_sort)
      (apply_one logic_p (var (codes "x") (codes "S")))
      (apply_one logic_q (var (codes "x") (codes "S"))))
      (apply_two
      (built_in Or bool_sort)
      (apply_one logic_q (constant logic_c))
      (apply_one (built_in Not bool_sort) (apply_one logic_p (constant logic_c))))))
      truth;
  lemmas = [];
}

-- ---- the trait Turns

abbrev pub turns_f : PlainOperator
turns_f = record { name = plain (codes "f"); domain = codes "S" ∷ []; range = codes "S" }

abbrev pub turns_g : PlainOperator
turns_g = record { name = plain (codes "g"); domain = codes "S" ∷ []; range = codes "S" }

abbrev pub turns_s : PlainOperator
turns_s = record { name = plain (codes "s"); domain = codes "S" ∷ []; range = codes "S" }

abbrev pub turns_h : PlainOperator
turns_h = record { name = plain (codes "h"); domain = codes "S" ∷ codes "S" ∷ []; range = codes "S" }

abbrev pub turns_p : PlainOperator
turns_p = record { name = plain (codes "p"); domain = codes "S" ∷ []; range = codes "Bool" }

abbrev pub turns : Theory
turns = record {
  operators = turns_f ∷ turns_g ∷ turns_s ∷ turns_h ∷ turns_p ∷ [];
  statements = Equation
      (apply_one turns_f (var (codes "x") (codes "S")))
      (apply_one turns_g (var (codes "x") (codes "S"))) ∷
      Equation
      (apply_two turns_h (apply_one turns_s (var (codes "x") (codes "S"))) (var (codes "y") (codes "S")))
      (apply_two turns_h (var (codes "x") (codes "S")) (apply_one turns_s (var (codes "y") (codes "S")))) ∷
      [];
}

abbrev pub turns_imply_1 : Duty
turns_imply_1 = record {
  theory = turns;
  statement = Equation (apply_one turns_p (apply_one turns_f (var (codes "x") (codes "S")))) truth;
  lemmas = [];
}

abbrev pub turns_imply_2 : Duty
turns_imply_2 = record {
  theory = turns;
  statement = Equation
      (apply_one
      turns_p
      (apply_two
      turns_h
      (apply_one turns_s (var (codes "x") (codes "S")))
      (apply_one turns_s (var (codes "y") (codes "S")))))
      truth;
  lemmas = [];
}

-- ---- the trait Empties

abbrev pub empties_empty : PlainOperator
empties_empty = record { name = plain (codes "empty"); domain = []; range = codes "Bag" }

abbrev pub empties_empty_too : PlainOperator
empties_empty_too = record { name = plain (codes "empty"); domain = []; range = codes "Set" }

abbrev pub empties_card : PlainOperator
empties_card = record { name = plain (codes "card"); domain = codes "Bag" ∷ []; range = codes "N" }

abbrev pub empties_card_too : PlainOperator
empties_card_too = record { name = plain (codes "card"); domain = codes "Set" ∷ []; range = codes "N" }

abbrev pub empties : Theory
empties = record {
  operators = empties_empty ∷ empties_empty_too ∷ empties_card ∷ empties_card_too ∷ [];
  statements = Generated (codes "N") (empties_card ∷ empties_card_too ∷ []) ∷ [];
}

abbrev pub empties_imply_1 : Duty
empties_imply_1 = record {
  theory = empties;
  statement = Equation
      (apply_two
      (built_in Equal (codes "N"))
      (apply_one empties_card (var (codes "b") (codes "Bag")))
      (var (codes "n") (codes "N")))
      truth;
  lemmas = [];
}

-- ---- the trait Meets

abbrev pub meets_a : PlainOperator
meets_a = record { name = plain (codes "a"); domain = []; range = codes "S" }

abbrev pub meets_b : PlainOperator
meets_b = record { name = plain (codes "b"); domain = []; range = codes "S" }

abbrev pub meets_c : PlainOperator
meets_c = record { name = plain (codes "c"); domain = []; range = codes "S" }

abbrev pub meets_f : PlainOperator
meets_f = record { name = plain (codes "f"); domain = codes "S" ∷ []; range = codes "S" }

abbrev pub meets_k : PlainOperator
meets_k = record { name = plain (codes "k"); domain = codes "S" ∷ []; range = codes "S" }

abbrev pub meets_h : PlainOperator
meets_h = record { name = plain (codes "h"); domain = codes "S" ∷ codes "S" ∷ []; range = codes "Bool" }

abbrev pub meets_q : PlainOperator
meets_q = record { name = plain (codes "q"); domain = codes "S" ∷ []; range = codes "Bool" }

abbrev pub meets : Theory
meets = record {
  operators = meets_a ∷ meets_b ∷ meets_c ∷ meets_f ∷ meets_k ∷ meets_h ∷ meets_q ∷ [];
  statements = Equation
      (apply_two
      meets_h
      (apply_one meets_f (var (codes "x") (codes "S")))
      (apply_one meets_f (var (codes "y") (codes "S"))))
      truth ∷
      Equation (apply_one meets_f (constant meets_a)) (constant meets_b) ∷
      Equation (apply_one meets_k (var (codes "x") (codes "S"))) (var (codes "x") (codes "S")) ∷
      Equation (apply_one meets_f (apply_one meets_f (var (codes "x") (codes "S")))) (var (codes "x") (codes "S")) ∷
      [];
}

abbrev pub meets_imply_1 : Duty
meets_imply_1 = record {
  theory = meets;
  statement = Equation (apply_two meets_h (constant meets_b) (apply_one meets_f (constant meets_c))) truth;
  lemmas = [];
}

abbrev pub meets_imply_2 : Duty
meets_imply_2 = record {
  theory = meets;
  statement = Equation (apply_two meets_h (constant meets_b) (apply_one meets_k (constant meets_b))) truth;
  lemmas = [];
}

-- ---- the trait Doubled

abbrev pub doubled_script_1 : Script
doubled_script_1 = record {
  preamble = [];
  blocks = record {
    line = 1;
    label = Convert 1;
    commands = record { line = 2; kind = command.Induction (word (codes "x1")) } ∷ [];
  } ∷
      record {
        line = 3;
        label = Convert 2;
        commands = record { line = 4; kind = command.Normalize (whole_name Lemma 1) } ∷ [];
      } ∷
      [];
}

abbrev pub doubled_nought : PlainOperator
doubled_nought = record { name = plain (codes "0"); domain = []; range = codes "N" }

abbrev pub doubled_s : PlainOperator
doubled_s = record { name = plain (codes "s"); domain = codes "N" ∷ []; range = codes "N" }

abbrev pub doubled_d : PlainOperator
doubled_d = record { name = plain (codes "d"); domain = codes "N" ∷ []; range = codes "N" }

abbrev pub doubled_t : PlainOperator
doubled_t = record { name = plain (codes "t"); domain = codes "N" ∷ []; range = codes "N" }

abbrev pub doubled_d_copy : PlainOperator
doubled_d_copy = record { name = plain (codes "d'"); domain = codes "N" ∷ []; range = codes "N" }

abbrev pub doubled_converted : Theory
doubled_converted = record {
  operators = doubled_nought ∷ doubled_s ∷ doubled_d ∷ doubled_t ∷ doubled_d_copy ∷ [];
  statements = Generated (codes "N") (doubled_nought ∷ doubled_s ∷ []) ∷
      Equation (apply_one doubled_d (constant doubled_nought)) (constant doubled_nought) ∷
      Equation
      (apply_one doubled_d (apply_one doubled_s (var (codes "x") (codes "N"))))
      (apply_one doubled_s (apply_one doubled_s (apply_one doubled_d (var (codes "x") (codes "N"))))) ∷
      Equation (apply_one doubled_t (constant doubled_nought)) (constant doubled_nought) ∷
      Equation
      (apply_one doubled_t (apply_one doubled_s (var (codes "x") (codes "N"))))
      (apply_one
      doubled_s
      (apply_one doubled_s (apply_one doubled_s (apply_one doubled_t (var (codes "x") (codes "N")))))) ∷
      Equation (apply_one doubled_d_copy (constant doubled_nought)) (constant doubled_nought) ∷
      Equation
      (apply_one doubled_d_copy (apply_one doubled_s (var (codes "x") (codes "N"))))
      (apply_one doubled_s (apply_one doubled_s (apply_one doubled_d_copy (var (codes "x") (codes "N"))))) ∷
      [];
}

abbrev pub doubled_t_copy : PlainOperator
doubled_t_copy = record { name = plain (codes "t'"); domain = codes "N" ∷ []; range = codes "N" }

abbrev pub doubled_converted_too : Theory
doubled_converted_too = record {
  operators = doubled_nought ∷ doubled_s ∷ doubled_d ∷ doubled_t ∷ doubled_t_copy ∷ [];
  statements = Generated (codes "N") (doubled_nought ∷ doubled_s ∷ []) ∷
      Equation (apply_one doubled_d (constant doubled_nought)) (constant doubled_nought) ∷
      Equation
      (apply_one doubled_d (apply_one doubled_s (var (codes "x") (codes "N"))))
      (apply_one doubled_s (apply_one doubled_s (apply_one doubled_d (var (codes "x") (codes "N"))))) ∷
      Equation (apply_one doubled_t (constant doubled_nought)) (constant doubled_nought) ∷
      Equation
      (apply_one doubled_t (apply_one doubled_s (var (codes "x") (codes "N"))))
      (apply_one
      doubled_s
      (apply_one doubled_s (apply_one doubled_s (apply_one doubled_t (var (codes "x") (codes "N")))))) ∷
      Equation (apply_one doubled_t_copy (constant doubled_nought)) (constant doubled_nought) ∷
      Equation
      (apply_one doubled_t_copy (apply_one doubled_s (var (codes "x") (codes "N"))))
      (apply_one
      doubled_s
      (apply_one doubled_s (apply_one doubled_s (apply_one doubled_t_copy (var (codes "x") (codes "N")))))) ∷
      [];
}

abbrev pub doubled_claims : List ClaimedDuty
doubled_claims =
    record {
      label = Convert 1;
      clause = Some 1;
      theory = doubled_converted;
      statement = Equation
          (apply_one doubled_d (var (codes "x1") (codes "N")))
          (apply_one doubled_d_copy (var (codes "x1") (codes "N")));
    } ∷
    record {
      label = Convert 2;
      clause = Some 2;
      theory = doubled_converted_too;
      statement = Equation
          (apply_one doubled_t (var (codes "x1") (codes "N")))
          (apply_one doubled_t_copy (var (codes "x1") (codes "N")));
    } ∷
    []

-- ---- the trait Both

abbrev pub both_script_1 : Script
both_script_1 = record {
  preamble = [];
  blocks = record {
    line = 1;
    label = Convert 1;
    commands = record { line = 2; kind = command.Induction (word (codes "x1")) } ∷ [];
  } ∷
      record {
        line = 3;
        label = Convert 2;
        commands = record { line = 4; kind = command.Normalize (whole_name Lemma 1) } ∷ [];
      } ∷
      [];
}

abbrev pub both_nought : PlainOperator
both_nought = record { name = plain (codes "0"); domain = []; range = codes "N" }

abbrev pub both_s : PlainOperator
both_s = record { name = plain (codes "s"); domain = codes "N" ∷ []; range = codes "N" }

abbrev pub both_d : PlainOperator
both_d = record { name = plain (codes "d"); domain = codes "N" ∷ []; range = codes "N" }

abbrev pub both_t : PlainOperator
both_t = record { name = plain (codes "t"); domain = codes "N" ∷ []; range = codes "N" }

abbrev pub both_d_copy : PlainOperator
both_d_copy = record { name = plain (codes "d'"); domain = codes "N" ∷ []; range = codes "N" }

abbrev pub both_t_copy : PlainOperator
both_t_copy = record { name = plain (codes "t'"); domain = codes "N" ∷ []; range = codes "N" }

abbrev pub both_converted : Theory
both_converted = record {
  operators = both_nought ∷ both_s ∷ both_d ∷ both_t ∷ both_d_copy ∷ both_t_copy ∷ [];
  statements = Generated (codes "N") (both_nought ∷ both_s ∷ []) ∷
      Equation (apply_one both_d (constant both_nought)) (constant both_nought) ∷
      Equation
      (apply_one both_d (apply_one both_s (var (codes "x") (codes "N"))))
      (apply_one both_s (apply_one both_s (apply_one both_d (var (codes "x") (codes "N"))))) ∷
      Equation (apply_one both_t (constant both_nought)) (constant both_nought) ∷
      Equation
      (apply_one both_t (apply_one both_s (var (codes "x") (codes "N"))))
      (apply_one both_s (apply_one both_s (apply_one both_s (apply_one both_t (var (codes "x") (codes "N")))))) ∷
      Equation (apply_one both_d_copy (constant both_nought)) (constant both_nought) ∷
      Equation
      (apply_one both_d_copy (apply_one both_s (var (codes "x") (codes "N"))))
      (apply_one both_s (apply_one both_s (apply_one both_d_copy (var (codes "x") (codes "N"))))) ∷
      Equation (apply_one both_t_copy (constant both_nought)) (constant both_nought) ∷
      Equation
      (apply_one both_t_copy (apply_one both_s (var (codes "x") (codes "N"))))
      (apply_one both_s (apply_one both_s (apply_one both_s (apply_one both_t_copy (var (codes "x") (codes "N")))))) ∷
      [];
}

abbrev pub both_claims : List ClaimedDuty
both_claims =
    record {
      label = Convert 1;
      clause = Some 1;
      theory = both_converted;
      statement = Equation
          (apply_one both_d (var (codes "x1") (codes "N")))
          (apply_one both_d_copy (var (codes "x1") (codes "N")));
    } ∷
    record {
      label = Convert 2;
      clause = Some 1;
      theory = both_converted;
      statement = Equation
          (apply_one both_t (var (codes "x1") (codes "N")))
          (apply_one both_t_copy (var (codes "x1") (codes "N")));
    } ∷
    []
