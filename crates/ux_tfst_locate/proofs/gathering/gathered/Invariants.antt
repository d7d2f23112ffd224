use Rattle.std.proofs.Common.{◌≡◌, take}
use Rattle.std.specs.Prelude.{flat_map}
use Rattle.ux_tfst_locate.specs.Sought.{links_of}
use Rattle.ux_tfst_locate.proofs.gathering.gathered.Given as goal

abbrev pub invariant-loop-sentence : goal.invariant-loop-sentence
invariant-loop-sentence l = l.links.items ≡ flat_map links_of (take l.sentence-index l.sentences)
