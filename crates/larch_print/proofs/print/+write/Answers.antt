-- A marker gives way to an argument, and any other byte is written as it is.
use Rattle.std.proofs.Common.{◌≡◌, ◌+◌, ◌∷◌, [], true, false, drop, get_or, sym, ◌∙◌, arith}
use Rattle.std.proofs.lemmas.List.{take_rest}
use Rattle.larch_term.specs.Tree.{forest_of}
use Rattle.larch_print.specs.Print.{begins_with_marker, fill_name, first_placed, pieces_of}
use Rattle.larch_print.proofs.Printing.{marker_step, marker_within, byte_step, went_on}
use Rattle.larch_print.proofs.print.+write.Goals as goal

pub write_filled-loop-at-preserved-then-begins_with_marker : goal.write_filled-loop-at-preserved-then-begins_with_marker
write_filled-loop-at-preserved-then-begins_with_marker t c =
    let name = c.args.name.now in
    let ts = c.args.arguments.now in
    let m : begins_with_marker (drop c.loop-at.at name) ≡ true =
    rw take_rest at (sym c.begins_with_marker.ensures ∙ c.if-begins_with_marker.true) in
    record {
      whole =
          went_on c.loop-at.text c.write_placed.new.text _
          (first_placed c.loop-at.inside (pieces_of (forest_of (drop c.loop-at.next ts))))
          (fill_name c.loop-at.inside (drop (c.loop-at.at + 2) name)
          (pieces_of (forest_of (drop (c.loop-at.next + 1) ts)))) _
          c.in_ok-write_placed.ensures (marker_step c.loop-at.inside name ts c.loop-at.at c.loop-at.next m)
          c.loop-at.invariant.whole;
      few = omega arith;
      within = marker_within name c.loop-at.at m;
    }

pub write_filled-loop-at-preserved : goal.write_filled-loop-at-preserved
write_filled-loop-at-preserved t c =
    let name = c.args.name.now in
    let ps = pieces_of (forest_of (drop c.loop-at.next c.args.arguments.now)) in
    let m : begins_with_marker (drop c.loop-at.at name) ≡ false =
    rw take_rest at (sym c.begins_with_marker.ensures ∙ c.if-begins_with_marker.false) in
    record {
      whole = rw c.inside_after-inside.ensures
          (went_on c.loop-at.text c.append.new.self _ (get_or name c.loop-at.at 0 ∷ []) _ _
          c.in_ok-append.ensures.ok (byte_step c.loop-at.inside name ps c.loop-at.at m c.loop-at-test.true)
          c.loop-at.invariant.whole);
      few = omega arith;
      within = omega arith;
    }
