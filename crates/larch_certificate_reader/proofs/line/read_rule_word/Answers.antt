-- The words, by their bytes.
use Rattle.std.proofs.Common.{refl, rules, arith}
use Rattle.larch_certificate_text.specs.declared.rule_word.RuleWord.TheVariants as word
use Rattle.larch_certificate_reader.proofs.RuleWords.{word_found}
use Rattle.larch_certificate_reader.proofs.line.read_rule_word.Goals as goal

pub returns-in-axiom : goal.returns-in-axiom
returns-in-axiom c = word_found c.args.text.now word.Axiom (omega arith) (search rules) refl

pub returns-in-hyp : goal.returns-in-hyp
returns-in-hyp c = word_found c.args.text.now word.Hyp (omega arith) (search rules) refl

pub returns-in-row : goal.returns-in-row
returns-in-row c = word_found c.args.text.now word.Row (omega arith) (search rules) refl

pub returns-in-refl : goal.returns-in-refl
returns-in-refl c = word_found c.args.text.now word.Refl (omega arith) (search rules) refl

pub returns-in-sym : goal.returns-in-sym
returns-in-sym c = word_found c.args.text.now word.Sym (omega arith) (search rules) refl

pub returns-in-inst : goal.returns-in-inst
returns-in-inst c = word_found c.args.text.now word.Inst (omega arith) (search rules) refl

pub returns-in-repl : goal.returns-in-repl
returns-in-repl c = word_found c.args.text.now word.Repl (omega arith) (search rules) refl

pub returns-in-equal : goal.returns-in-equal
returns-in-equal c = word_found c.args.text.now word.Equal (omega arith) (search rules) refl

pub returns-in-box : goal.returns-in-box
returns-in-box c = word_found c.args.text.now word.BoxLine (omega arith) (search rules) refl

pub returns-in-done : goal.returns-in-done
returns-in-done c = word_found c.args.text.now word.Done (omega arith) (search rules) refl

pub returns-in-fresh : goal.returns-in-fresh
returns-in-fresh c = word_found c.args.text.now word.Fresh (omega arith) (search rules) refl

pub returns-in-cases : goal.returns-in-cases
returns-in-cases c = word_found c.args.text.now word.Cases (omega arith) (search rules) refl

pub returns-in-induct : goal.returns-in-induct
returns-in-induct c = word_found c.args.text.now word.Induct (omega arith) (search rules) refl

pub returns-in-observe : goal.returns-in-observe
returns-in-observe c = word_found c.args.text.now word.Observe (omega arith) (search rules) refl

pub returns-in-generated : goal.returns-in-generated
returns-in-generated c = word_found c.args.text.now word.Generated (omega arith) (search rules) refl

pub returns-in-partitioned : goal.returns-in-partitioned
returns-in-partitioned c = word_found c.args.text.now word.Partitioned (omega arith) (search rules) refl
