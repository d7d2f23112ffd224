use Rattle.std.proofs.Common.{ℕ, ◌+◌, drop}
use Rattle.ux_compile.specs.Ranks.{rest_rank, rest_free}
use Rattle.ux_base.proofs.JoinedLists.{adds_item}
use Rattle.ux_compile.proofs.ranks.push_labels.Goals as goal

pub loop-k-preserved : goal.loop-k-preserved
loop-k-preserved c = record {
  silent = c.next_silent_len-front.ensures;
  ranked = adds_item (λ (k : ℕ). rest_rank c.args.rank (drop (k + 1) c.args.labels.now))
      c.args.state_ranks.now.items c.loop-k.state_ranks.items c.push.new.self.items
      c.rest_rank.result c.loop-k.k
      c.loop-k.invariant.ranked c.in_ok-push.ensures.items c.rest_rank.ensures;
  marked = adds_item (λ (k : ℕ). rest_free c.args.free (drop (k + 1) c.args.labels.now))
      c.args.state_frees.now.items c.loop-k.state_frees.items c.push-in-loop-k.new.self.items
      c.rest_free.result c.loop-k.k
      c.loop-k.invariant.marked c.in_ok-push-2.ensures.items c.rest_free.ensures;
}
