use Rattle.ux_plan.proofs.FileNameLemmas.{IsFolderEnd}
use Rattle.ux_plan.proofs.file_names.folder_end.Given as goal

-- the end is that of the folder of the bytes so far
abbrev pub invariant-loop-place : goal.invariant-loop-place
invariant-loop-place l = IsFolderEnd l.word l.place l.end
