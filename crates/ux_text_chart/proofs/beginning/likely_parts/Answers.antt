use Rattle.std.proofs.Common.{arith, length}
use Rattle.std.proofs.lemmas.Option.{slice_get_within}
use Rattle.ux_text_chart.specs.Leading.{input_of}
use Rattle.ux_walk.specs.Settings.{masked_setting}
use Rattle.ux_text_chart.proofs.LikelyLemmas.{likely_none, likely_next, likely_whole, none_earlier, none_later, tried}
use Rattle.ux_text_chart.proofs.beginning.likely_parts.Goals as goal

pub parts-init : goal.parts-init
parts-init c = likely_none (input_of (masked_setting c.args.text.now)) c.args.text.now.net.now
    c.args.parts.now _ c.args.at c.clear.ensures.items

pub add_part-requires-clause-row : goal.add_part-requires-clause-row
add_part-requires-clause-row c =
    let text = c.args.text.now in
    let parts = c.args.parts.now in
    let (texts, is, there) = c.requires.index in
    likely_next (input_of (masked_setting text)) text.net.now parts (length text.text.now)
    c.requires.ahead c.requires.parts c.args.at c.parts.row.items c.parts.from c.in-Some.number
    c.in-Some.ensures.from
    (λ number part from low found may.
    let inside = slice_get_within parts.list number part found in
    let few = is.few in
    none_earlier c.next.result number c.in-Some.number c.in-Some.is low
    (c.next.ensures.least number from (omega (arith, inside, few))
    (tried text.alphabet.now texts text.text.now text.applied.now text.net.now parts c.args.index.now
    is c.args.at c.parts.row.items number part found may c.args.token there)))
    c.parts.invariant

pub returns : goal.returns
returns c =
    let text = c.args.text.now in
    let parts = c.args.parts.now in
    let (texts, is, there) = c.requires.index in
    likely_whole (input_of (masked_setting text)) text.net.now parts (length text.text.now)
    c.requires.ahead c.requires.parts c.args.at c.parts.row.items c.parts.from
    (λ number part from found may.
    let inside = slice_get_within parts.list number part found in
    let few = is.few in
    none_later c.next.result number c.in_default.is
    (c.next.ensures.least number from (omega (arith, inside, few))
    (tried text.alphabet.now texts text.text.now text.applied.now text.net.now parts c.args.index.now
    is c.args.at c.parts.row.items number part found may c.args.token there)))
    c.parts.invariant
