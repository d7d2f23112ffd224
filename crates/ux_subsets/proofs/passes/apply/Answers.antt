use Rattle.ux_subsets.proofs.PassesLemmas.{turned_left, nothing_turned}
use Rattle.ux_subsets.proofs.passes.apply.Goals as goal

pub turned-requires : goal.turned-requires
turned-requires g c = (c.in_ok-forth.ensures.pass c.requires.ascending).some

pub returns-clause-left : goal.returns-clause-left
returns-clause-left g c =
    turned_left c.args.last c.args.source.now c.requires.ascending c.requires.some c.in_ok-forth.forth.last c.in_ok-forth.forth.links.items
    (c.in_ok-forth.ensures.pass c.requires.ascending) c.in_ok-left.left c.in_ok-left.ensures.left

pub returns-clause-nothing : goal.returns-clause-nothing
returns-clause-nothing g c =
    nothing_turned c.args.last c.args.source.now c.requires.ascending c.requires.some c.in_ok-forth.forth.last c.in_ok-forth.forth.links.items
    (c.in_ok-forth.ensures.pass c.requires.ascending) c.in_ok-left.left c.in_ok-left.ensures.nothing
