use Rattle.std.proofs.Common.{◌-◌, length}
use Rattle.ux_tokens.specs.Blocks.{AreClasses}
use Rattle.ux_tokens.specs.Numbers.{texts_in}
use Rattle.ux_tokens.specs.Columns.{AreEven, pieces_of}
use Rattle.ux_tokens.specs.Cutting.{IsSoFar}
use Rattle.ux_tokens.specs.Known.{AreKnown}
use Rattle.ux_tokens.specs.Regions.{IsFree}
use Rattle.ux_tokens.proofs.cutting.push_tokens.Given as goal

abbrev pub invariant-loop-end : goal.invariant-loop-end
invariant-loop-end l = record {
  classes : AreClasses l.alphabet l.classes;
  so_far : IsSoFar l.alphabet l.text l.end (pieces_of l.pieces) (texts_in l.numbers);
  even : AreEven l.pieces;
  known : AreKnown (texts_in l.numbers) l.known;
  free : IsFree l.text l.end l.free;
}

abbrev pub decreases-loop-end : goal.decreases-loop-end
decreases-loop-end l = length l.text - l.end
