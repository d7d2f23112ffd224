use Rattle.ux_base.specs.Outside.{IsLater}
use Rattle.ux_cmd_elag.proofs.ReadingLemmas.{AreReadTo}
use Rattle.ux_cmd_elag.proofs.files.read_rules.Given as goal

-- the rules of the files so far were read
abbrev pub invariant-loop-name : goal.invariant-loop-name
invariant-loop-name g l = record {
  later : IsLater (g.F.Folder.seen l.fn.folder) (g.F.Folder.seen l.folder);
  read : AreReadTo l.names (g.F.Folder.seen l.fn.folder).files l.name-index l.rules.items;
}
