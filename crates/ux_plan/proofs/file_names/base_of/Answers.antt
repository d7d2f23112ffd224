use Rattle.ux_plan.proofs.FileNameLemmas.{folder_boundary}
use Rattle.ux_plan.proofs.file_names.base_of.Goals as goal

pub range_from-requires : goal.range_from-requires
range_from-requires c = λ _.
    folder_boundary c.args.word.now c.folder_end.result c.utf8.word c.folder_end.ensures.within
    c.folder_end.ensures.slash
