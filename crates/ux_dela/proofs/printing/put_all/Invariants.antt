use Rattle.std.proofs.Common.{◌≡◌, ◌≤◌, ℕ, ◌∷◌, [], ◌++◌, length, take, string_bytes}
use Rattle.ux_dela.specs.Signs.{is_printed_code_sign}
use Rattle.ux_dela.specs.Written.{written, all_behind}
use Rattle.ux_dela.specs.Printed.{all_shielded}
use Rattle.ux_dela.proofs.printing.put_all.Given as goal

-- the codes so far
abbrev pub invariant-loop-number : goal.invariant-loop-number
invariant-loop-number l = record {
  within : l.number ≤ length l.codes;
  put : (byte : ℕ) → l.sign ≡ byte ∷ [] →
      string_bytes l.text ≡ string_bytes l.fn.text
      ++ written (all_behind byte (all_shielded is_printed_code_sign (take l.number l.codes)));
}
