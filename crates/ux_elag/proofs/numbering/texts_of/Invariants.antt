use Rattle.std.proofs.Common.{◌≡◌, take}
use Rattle.std.specs.Prelude.{map}
use Rattle.ux_reading_table.specs.Numbered.{text_of}
use Rattle.ux_elag.proofs.numbering.texts_of.Given as goal

abbrev pub invariant-loop-link : goal.invariant-loop-link
invariant-loop-link l = l.texts.items ≡ map text_of (take l.link-index l.links)
