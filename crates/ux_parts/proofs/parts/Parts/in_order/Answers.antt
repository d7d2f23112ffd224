use Rattle.std.proofs.Common.{arith, ◌∙◌, length, sym, subst}
use Rattle.ux_parts.specs.declared.parts.Parts.{Parts}
use Rattle.ux_parts.specs.Order.{AreNumbers}
use Rattle.ux_parts.proofs.OrderingLemmas.{among}
use Rattle.ux_parts.proofs.PartsLemmas.{are_parts}
use Rattle.ux_parts.proofs.parts.Parts.in_order.Goals as goal

pub numbers_of-requires-clause-inside : goal.numbers_of-requires-clause-inside
numbers_of-requires-clause-inside c = λ entry h.
    let there = among c.args.net.now c.args.order.now c.requires.order entry h in
    let to = there.to in
    let count = c.graphs.ensures.count in
    (there.from, omega (arith, to, count))

pub returns : goal.returns
returns c =
    let order = c.args.order.now in
    let parts : Parts =
    record { list = c.new.result; numbers = c.new-2.result; levels = 4294967295 } in
    are_parts c.args.net.now parts order c.is_marked.ensures c.tells_closings.ensures c.requires.order
    (c.new.ensures ∙ c.in_ok-list.ensures)
    (subst (AreNumbers order (length order)) (sym c.new-2.ensures) c.in_ok-numbers.ensures)
    (omega arith)
