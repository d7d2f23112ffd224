use Rattle.std.specs.Str.Iter.{char_indices_offset, char_indices_rest}
use Rattle.ux_tokens.proofs.FirstLemmas.{IsRun}
use Rattle.ux_tokens.proofs.first.decoded_run_len.Given as goal

-- the characters so far are letters
abbrev pub invariant-loop-place : goal.invariant-loop-place
invariant-loop-place l =
    IsRun l.alphabet l.text (char_indices_offset l.place-iterator)
    (char_indices_rest l.place-iterator)
