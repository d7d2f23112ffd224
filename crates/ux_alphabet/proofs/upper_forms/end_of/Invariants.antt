use Rattle.std.proofs.Common.{◌<◌, ℕ}
use Rattle.std.specs.List.{AllWithin}
use Rattle.ux_alphabet.specs.Tables.{NamesUpperForm}
use Rattle.ux_alphabet.proofs.upper_forms.end_of.Given as goal

abbrev pub invariant-loop-line : goal.invariant-loop-line
invariant-loop-line l =
    AllWithin (λ line. (c : ℕ) → NamesUpperForm line c → c < l.end) l.lines 0 l.line-index
