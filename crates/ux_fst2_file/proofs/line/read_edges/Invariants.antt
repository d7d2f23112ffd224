use Rattle.std.proofs.Common.{◌<◌, ◌^◌, length}
use denote.Text.{Utf8}
use denote.Shadow.{shadow}
use Rattle.ux_fst2_file.specs.Fields.{fields_of}
use Rattle.ux_fst2_file.proofs.EdgeLemmas.{AreEdgesTo}
use Rattle.ux_fst2_file.proofs.line.read_edges.Given as goal

abbrev pub invariant-loop-label : goal.invariant-loop-label
invariant-loop-label l = record {
  utf8 : shadow (Utf8 l.rest);
  few : length l.edges.items < 2 ^ 32;
  read : AreEdgesTo (fields_of l.text) (fields_of l.rest) l.edges.items;
}

abbrev pub decreases-loop-label : goal.decreases-loop-label
decreases-loop-label l = length l.rest
