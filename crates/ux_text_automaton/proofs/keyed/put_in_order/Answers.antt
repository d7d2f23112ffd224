use Rattle.std.proofs.Common.{arith}
use Rattle.ux_text_automaton.proofs.FoundLemmas.{one_put}
use Rattle.ux_text_automaton.proofs.keyed.put_in_order.Goals as goal

pub returns : goal.returns
returns c =
    one_put c.args.found.items c.args.links.now.items c.append.new.self.items (omega arith)
    c.in_ok-append.ensures.items
