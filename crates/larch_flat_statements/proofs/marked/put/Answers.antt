use Rattle.std.proofs.Common.{◌≡◌, true, false, sym, ◌∙◌}
use Rattle.larch_flat_meaning.specs.Gathered.{stands_in, statements_in}
use Rattle.larch_flat_statements.specs.Marks.{marked_in}
use Rattle.larch_flat_statements.proofs.Entries.{put_counts, put_told, stays_told}
use Rattle.larch_flat_statements.proofs.marked.put.Goals.{else-assumed-via-then-assumed+else-stands}
use Rattle.larch_flat_statements.proofs.marked.put.Goals.{else-assumed-via-else-assumed}
use Rattle.larch_flat_statements.proofs.marked.put.Goals as goal

pub returns-then-stands-clause-put : goal.returns-then-stands-clause-put
returns-then-stands-clause-put c =
    stays_told c.args.statement c.args.assumed c.args.entries.now.entries c.if-assumed.true
    (sym c.stands.ensures ∙ c.if-stands.true)

pub returns-clause-put : goal.returns-clause-put
returns-clause-put c =
    let free : c.args.assumed ≡ true
    → stands_in (statements_in (marked_in c.args.entries.now.entries)) c.args.statement ≡ false =
    elim c.else-assumed.branch [
      | else-assumed-via-then-assumed+else-stands w ↦ λ p. sym w.stands.ensures ∙ w.if-stands.false
      | else-assumed-via-else-assumed w ↦ λ p. let q : true ≡ false = sym p ∙ w.if-assumed.false in cc
    ]
    in
    put_told c.args.statement c.args.assumed c.args.entries.now.entries c.insert.new.self.entries free
    c.in_ok-before.ensures.entries

pub returns-clause-nodes : goal.returns-clause-nodes
returns-clause-nodes c =
    put_counts c.args.statement c.args.assumed c.args.entries.now.entries c.insert.new.self.entries
    c.in_ok-before.before c.is_none.result
    (returns-clause-put c) c.in_ok-before.ensures.old c.is_none.ensures
