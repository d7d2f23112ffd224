use Rattle.std.proofs.Common.{◌≡◌, map, take}
use Rattle.ux_tfst_locate.specs.Listing.{span_of}
use Rattle.ux_tfst_locate.proofs.listing.spans_of.Given as goal

abbrev pub invariant-loop-stretch : goal.invariant-loop-stretch
invariant-loop-stretch l = l.spans.items ≡ map (span_of l.places) (take l.stretch-index l.stretches)
