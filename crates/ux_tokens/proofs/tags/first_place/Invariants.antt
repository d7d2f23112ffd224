use Rattle.std.proofs.Common.{◌≤◌, length, drop}
use Rattle.ux_tokens.specs.Regions.{AreRest, IsFirstPlace}
use Rattle.ux_tokens.proofs.tags.first_place.Given as goal

abbrev pub invariant-loop-place : goal.invariant-loop-place
invariant-loop-place l = record {
  within : l.place ≤ length l.region;
  rest : AreRest l.rest (drop l.place l.region);
  first : IsFirstPlace l.region l.place l.first;
}

abbrev pub decreases-loop-place : goal.decreases-loop-place
decreases-loop-place l = l.place
