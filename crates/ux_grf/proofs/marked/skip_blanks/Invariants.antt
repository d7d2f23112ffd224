use Rattle.std.proofs.Common.{◌≡◌, length}
use denote.Text.{Utf8}
use denote.Shadow.{shadow}
use Rattle.ux_grf.specs.Lines.{without_front}
use Rattle.ux_grf.proofs.marked.skip_blanks.Given as goal

-- nothing is taken off but spaces and tabs
abbrev pub invariant-loop-rest : goal.invariant-loop-rest
invariant-loop-rest l = shadow (Utf8 l.rest) × (without_front l.rest ≡ without_front l.text)

abbrev pub decreases-loop-rest : goal.decreases-loop-rest
decreases-loop-rest l = length l.rest
