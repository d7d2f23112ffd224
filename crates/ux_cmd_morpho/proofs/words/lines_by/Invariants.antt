use Rattle.ux_cmd_morpho.specs.Files.{IsBadIn, IsLineIn}
use Rattle.ux_cmd_morpho.specs.Going.{AreSoFar}
use Rattle.ux_cmd_morpho.proofs.words.lines_by.Given as goal

-- the words before the place were gone along
abbrev pub invariant-loop-place : goal.invariant-loop-place
invariant-loop-place l =
    AreSoFar l.files.text (IsLineIn l.files) (IsBadIn l.files) l.place l.seen.items l.lines.items
