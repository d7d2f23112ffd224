use Rattle.std.proofs.Common.{take}
use Rattle.std.specs.List.{AllZip}
use Rattle.ux_base.specs.Outside.{IsLater}
use Rattle.ux_cmd_cascade.specs.Files.{HasStepNet}
use Rattle.ux_cmd_cascade.proofs.files.read_nets.Given as goal

-- the grammars of the steps so far were read
abbrev pub invariant-loop-step : goal.invariant-loop-step
invariant-loop-step g l = record {
  later : IsLater (g.F.Folder.seen l.fn.folder) (g.F.Folder.seen l.folder);
  read : AllZip (HasStepNet l.alphabet (g.F.Folder.seen l.fn.folder).files)
      (take l.step-index l.steps) l.nets.items;
}
