use Rattle.std.proofs.Common.{◌≡◌, ◌+◌, take}
use Rattle.ux_fst2_file.specs.Files.{line_count}
use Rattle.ux_fst2_file.specs.Labels.{FitsGraph}
use Rattle.ux_fst2_file.proofs.LabelLemmas.{AllBelow}
use Rattle.ux_fst2_file.proofs.labels.bad_label.Given as goal

abbrev pub invariant-loop-graph : goal.invariant-loop-graph
invariant-loop-graph l = record {
  fit : AllBelow (FitsGraph l.text.file) l.graphs l.graph-index;
  lines : l.before ≡ line_count (take l.graph-index l.graphs) + 1;
}
