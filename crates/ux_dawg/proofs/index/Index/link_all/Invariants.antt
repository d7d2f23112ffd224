use Rattle.ux_dawg.specs.Indexed.{AreLinked, HasSameItems}
use Rattle.ux_dawg.proofs.index.Index.link_all.Given as goal

-- the links so far are in their buckets
abbrev pub invariant-loop-item : goal.invariant-loop-item
invariant-loop-item l = AreLinked l.item l.self × HasSameItems l.initial.self l.self
