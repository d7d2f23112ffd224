use Rattle.ux_compile.specs.Construct.{along_line}
use Rattle.ux_compile.specs.Ranks.{chain_rank_at, chain_free_at}
use Rattle.ux_base.proofs.JoinedLists.{adds_list}
use Rattle.ux_compile.proofs.ranks.push_lines.Goals as goal

pub loop-line-preserved : goal.loop-line-preserved
loop-line-preserved c =
    let places = c.args.places.now in
    let ranks = c.args.admission.now.ranks.items in
    let free = c.args.admission.now.free.items in
    record {
      ranked = adds_list
          (along_line places (chain_rank_at ranks free c.args.graph places) c.args.place)
          c.args.state_ranks.now.items c.loop-line.state_ranks.items
          c.push_line.new.state_ranks.items c.loop-line.line
          c.loop-line.invariant.ranked c.in_ok-push_line.ensures.ranks;
      marked = adds_list
          (along_line places (chain_free_at ranks free c.args.graph places) c.args.place)
          c.args.state_frees.now.items c.loop-line.state_frees.items
          c.push_line.new.state_frees.items c.loop-line.line
          c.loop-line.invariant.marked c.in_ok-push_line.ensures.free;
    }
