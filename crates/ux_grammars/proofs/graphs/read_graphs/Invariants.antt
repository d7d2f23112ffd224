use Rattle.std.proofs.Common.{◌-◌, ◌≤◌, length}
use Rattle.ux_base.specs.Outside.{IsLater}
use Rattle.ux_plan.proofs.Growing.{IsRest}
use Rattle.ux_boxes.specs.Refusing.{drawn}
use Rattle.ux_grammars.specs.Graphs.{MOST_GRAPHS, MOST_READS, graphs_from, graphs_plan}
use Rattle.ux_grammars.specs.Reading.{IsReading}
use Rattle.ux_grammars.proofs.graphs.read_graphs.Given as goal

-- what is to come of the graphs after those that were read is what is to come of the grammar
abbrev pub invariant-loop-alloc : goal.invariant-loop-alloc
invariant-loop-alloc g l = record {
  later : IsLater (g.F.Folder.seen l.fn.folder) (g.F.Folder.seen l.folder);
  reading : IsReading l.word l.names.keys l.graphs.items;
  few : length l.graphs.items ≤ MOST_GRAPHS;
  rest : IsRest (g.F.Folder.seen l.fn.folder).files
      (graphs_from l.kind l.word
      (MOST_READS - length (drawn l.graphs.items)) (drawn l.graphs.items))
      (graphs_plan l.kind l.word);
}

-- a grammar has no more graphs than it may have
abbrev pub decreases-loop-alloc : goal.decreases-loop-alloc
decreases-loop-alloc g l = MOST_READS - length l.graphs.items
