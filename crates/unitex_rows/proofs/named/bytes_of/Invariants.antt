use Rattle.std.proofs.Common.{◌≡◌, drop}
use Rattle.ux_base.specs.Outside.{files_of, file_named}
use Rattle.unitex_rows.proofs.named.bytes_of.Given as goal

-- the files that are left answer as all of them do
abbrev pub invariant-loop-other : goal.invariant-loop-other
invariant-loop-other l =
    file_named l.name (files_of (drop l.other-index l.all)) ≡ file_named l.name (files_of l.all)
