use Rattle.ux_plan.proofs.FileNameLemmas.{folder_boundary}
use Rattle.ux_plan.proofs.file_names.folder_of.Goals as goal

pub range-requires-clause-end_boundary : goal.range-requires-clause-end_boundary
range-requires-clause-end_boundary c =
    folder_boundary c.args.word.now c.folder_end.result c.utf8.word c.folder_end.ensures.within
    c.folder_end.ensures.slash
