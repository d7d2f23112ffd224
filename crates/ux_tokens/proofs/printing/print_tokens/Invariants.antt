use Rattle.std.proofs.Common.{◌≡◌, ◌++◌, length, string_bytes}
use Rattle.std.specs.Fmt.{decimal}
use Rattle.std.specs.List.{flat_map}
use Rattle.ux_tokens.specs.Numbers.{different_texts}
use Rattle.ux_tokens.specs.TokenFile.{line_of}
use Rattle.ux_tokens.proofs.PrintingLemmas.{so_far}
use Rattle.ux_tokens.proofs.printing.print_tokens.Given as goal

abbrev pub invariant-loop-i : goal.invariant-loop-i
invariant-loop-i l = record {
  written : string_bytes l.file
      ≡ line_of (decimal (length (different_texts l.text))) ++ flat_map line_of (so_far l.text l.i);
  printed : l.printed ≡ length (so_far l.text l.i);
}
