use Rattle.std.proofs.Common.{◌≡◌, length}
use denote.Text.{Utf8}
use denote.Shadow.{shadow}
use Rattle.ux_grf.specs.Lines.{without_back}
use Rattle.ux_grf.proofs.marked.trimmed.Given as goal

-- nothing is taken off but spaces and tabs
abbrev pub invariant-loop-front : goal.invariant-loop-front
invariant-loop-front l = shadow (Utf8 l.front) × (without_back l.front ≡ without_back l.text)

abbrev pub decreases-loop-front : goal.decreases-loop-front
decreases-loop-front l = length l.front
