use Rattle.std.proofs.Common.{List, ℕ, map, subst, sym}
use Rattle.ux_net.specs.Whole.{told_graph}
use Rattle.ux_fst2.specs.Reading.{SaysGraphs}
use Rattle.ux_fst2.proofs.PrintedLaws.{printed_says_graphs}
use Rattle.ux_fst2.proofs.printing.print.Goals as goal

pub returns-clause-back : goal.returns-clause-back
returns-clause-back c =
    let graphs = map told_graph c.args.net.now in
    λ spelled. subst (λ (t : List ℕ). SaysGraphs t graphs) (sym c.in_ok-text.ensures)
    (printed_says_graphs graphs c.in_ok-file.file c.in_ok-file.ensures spelled)
