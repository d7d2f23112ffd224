use Rattle.std.proofs.Common.{arith, rules, ◌≡◌, length}
use Rattle.std.proofs.lemmas.Option.{slice_get_within}
use Rattle.ux_text_chart.proofs.LikelyLemmas.{likely_none, likely_whole}
use Rattle.ux_tfst_locate.specs.Bases.{input_of}
use Rattle.ux_tfst_locate.proofs.beginning.likely_parts.Goals as goal

pub loop-number-init : goal.loop-number-init
loop-number-init c = likely_none (input_of c.args.basis.now) c.args.net.now c.args.parts.now _
    c.args.at c.clear.ensures.items

pub returns : goal.returns
returns c =
    let parts = c.args.parts.now in
    let basis = c.args.basis.now in
    let count : length c.as_slice-count.result.now ≡ length parts.list = search rules in
    likely_whole (input_of basis) c.args.net.now parts (length basis.lattice.now.places.items)
    c.requires.ahead c.requires.parts c.args.at c.loop-number.row.items c.loop-number.number
    (λ number part from found may.
    let inside = slice_get_within parts.list number part found in
    absurd (omega (arith, from, inside, c.loop-number-test.false, count)))
    c.loop-number.invariant
