use Rattle.std.proofs.Common.{◌≡◌, length}
use Rattle.ux_base.specs.Outside.{IsLater}
use Rattle.ux_plan.specs.Plans.{each}
use Rattle.ux_plan.proofs.Growing.{IsRest, each_from}
use Rattle.ux_dictionaries.specs.Dictionaries.{contents_of, dictionary_format}
use Rattle.ux_dictionaries.proofs.dictionaries.read_dictionaries.Given as goal

-- what is to come of the names after those that were read is what is to come of all
abbrev pub invariant-loop-name : goal.invariant-loop-name
invariant-loop-name g l = record {
  later : IsLater (g.F.Folder.seen l.fn.folder) (g.F.Folder.seen l.folder);
  count : length (contents_of l.dics.items) ≡ l.name-index;
  rest : IsRest (g.F.Folder.seen l.fn.folder).files
      (each_from dictionary_format l.names (contents_of l.dics.items))
      (each dictionary_format l.names);
}
