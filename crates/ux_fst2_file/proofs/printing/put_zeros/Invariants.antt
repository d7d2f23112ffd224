use Rattle.std.proofs.Common.{◌≡◌, ◌++◌, ◌-◌, string_bytes}
use Rattle.ux_fst2_file.specs.Printed.{zeros}
use Rattle.ux_fst2_file.proofs.printing.put_zeros.Given as goal

abbrev pub invariant-loop-place : goal.invariant-loop-place
invariant-loop-place l =
    string_bytes l.text ++ zeros (10 - l._place) ≡ string_bytes l.fn.text ++ zeros (10 - l.digits)
