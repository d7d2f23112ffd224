use Rattle.std.proofs.Common.{subst, List}
use Rattle.std.specs.List.{flat_map}
use Rattle.ux_base.specs.Distinct.{GrowsBy}
use Rattle.ux_base.proofs.FirstsLemmas.{GrowsBy-next, GrowsBy-end}
use Rattle.ux_grf.specs.declared.item.Item.{Item}
use Rattle.ux_grf.specs.Needs.{calls_of_line, names_in}
use Rattle.ux_grf.proofs.calls.note_box.Goals as goal

pub loop-line-preserved : goal.loop-line-preserved
loop-line-preserved c =
    GrowsBy-next calls_of_line c.as_slice-line-items.result.now c.loop-line.line-index
    c.line-item.result (names_in c.args.names.now) (names_in c.loop-line.names)
    (names_in c.note_line.new.names) c.loop-line-test.true c.line-item.is c.loop-line.invariant
    (subst (λ (line : List Item). GrowsBy (calls_of_line line) (names_in c.loop-line.names)
    (names_in c.note_line.new.names)) c.as_slice.ensures c.in_ok-note_line.ensures)

pub returns : goal.returns
returns c =
    subst (λ (lines : List (List Item)). GrowsBy (flat_map calls_of_line lines)
    (names_in c.args.names.now) (names_in c.loop-line.names)) c.as_slice-line-items.ensures
    (GrowsBy-end calls_of_line c.as_slice-line-items.result.now c.loop-line.line-index
    (names_in c.args.names.now) (names_in c.loop-line.names) c.loop-line-test.false
    c.loop-line.invariant)
