use Rattle.ux_compile.specs.Construct.{along_lines}
use Rattle.ux_compile.specs.Ranks.{chain_rank_at, chain_free_at}
use Rattle.ux_base.proofs.JoinedLists.{adds_list}
use Rattle.ux_compile.proofs.ranks.push_chains.Goals as goal

pub loop-place-preserved : goal.loop-place-preserved
loop-place-preserved c =
    let places = c.args.places.now in
    let ranks = c.args.admission.now.ranks.items in
    let free = c.args.admission.now.free.items in
    record {
      ranked = adds_list (along_lines places (chain_rank_at ranks free c.args.graph places))
          c.args.state_ranks.now.items c.loop-place.state_ranks.items
          c.push_lines.new.state_ranks.items c.loop-place.place
          c.loop-place.invariant.ranked c.in_ok-push_lines.ensures.ranks;
      marked = adds_list (along_lines places (chain_free_at ranks free c.args.graph places))
          c.args.state_frees.now.items c.loop-place.state_frees.items
          c.push_lines.new.state_frees.items c.loop-place.place
          c.loop-place.invariant.marked c.in_ok-push_lines.ensures.free;
    }
