use Rattle.ux_dawg.specs.Flat.{state_of}
use Rattle.ux_dawg.specs.Indexed.{bucket_in, buckets, held, IsSearched}
use Rattle.ux_dawg.proofs.index.Index.place.Given as goal

-- the state is that of no item from the mark on
abbrev pub invariant-loop-mark : goal.invariant-loop-mark
invariant-loop-mark l =
    IsSearched (buckets l.self) l.self.links.items l.states (held l.self)
    (bucket_in (buckets l.self) l.hash) (state_of l.code l.edges) l.mark

abbrev pub decreases-loop-mark : goal.decreases-loop-mark
decreases-loop-mark l = l.mark
