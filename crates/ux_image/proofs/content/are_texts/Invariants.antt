use Rattle.std.proofs.Common.{All, take}
use Rattle.ux_image.specs.Contents.{HasTexts}
use Rattle.ux_image.proofs.content.are_texts.Given as goal

-- those of the entries so far are texts
abbrev pub invariant-loop-entry : goal.invariant-loop-entry
invariant-loop-entry l = All HasTexts (take l.entry-index l.entries)
