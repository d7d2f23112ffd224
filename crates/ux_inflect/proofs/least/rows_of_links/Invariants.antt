use Rattle.std.proofs.Common.{◌≡◌, take}
use Rattle.ux_inflect.specs.Ways.{ends_rows, lists_of}
use Rattle.ux_inflect.proofs.least.rows_of_links.Given as goal

-- the rows so far are there
abbrev pub invariant-loop-row : goal.invariant-loop-row
invariant-loop-row l = l.rows.items ≡ ends_rows (lists_of (take l.row-index l.links))
