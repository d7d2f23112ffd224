use Rattle.ux_base.specs.Outside.{IsLater}
use Rattle.ux_tokens.specs.Numbers.{texts_in}
use Rattle.ux_cmd_inflect.proofs.NetLemmas.{AreReadTo}
use Rattle.ux_cmd_inflect.proofs.files.read_paradigms.Given as goal

-- the graphs of the classes so far were read
abbrev pub invariant-loop-number : goal.invariant-loop-number
invariant-loop-number g l = record {
  later : IsLater (g.F.Folder.seen l.fn.folder) (g.F.Folder.seen l.folder);
  read : AreReadTo l.word (texts_in l.classes) (g.F.Folder.seen l.fn.folder).files l.number
      l.paradigms.items;
}
