use Rattle.std.proofs.Common.{◌-◌, length}
use Rattle.ux_tokens.specs.Numbers.{texts_in}
use Rattle.ux_tokens.specs.Known.{AreKnown}
use Rattle.ux_tokens.proofs.ListingLemmas.{IsCounted}
use Rattle.ux_tokens.specs.Regions.{IsFree}
use Rattle.ux_tokens.proofs.listing.add_tokens.Given as goal

abbrev pub invariant-loop-end : goal.invariant-loop-end
invariant-loop-end l = record {
  counted : IsCounted l.alphabet l.text l.end l.count (texts_in l.texts);
  known : AreKnown (texts_in l.texts) l.known;
  free : IsFree l.text l.end l.free;
}

abbrev pub decreases-loop-end : goal.decreases-loop-end
decreases-loop-end l = length l.text - l.end
