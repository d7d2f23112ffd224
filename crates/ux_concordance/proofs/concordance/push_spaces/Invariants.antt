use Rattle.std.proofs.Common.{◌≡◌, ◌++◌, replicate, string_bytes}
use Rattle.ux_tokens.specs.Tokens.{SPACE}
use Rattle.ux_concordance.proofs.concordance.push_spaces.Given as goal

-- the spaces so far
abbrev pub invariant-loop : goal.invariant-loop
invariant-loop l = string_bytes l.text ≡ string_bytes l.fn.text ++ replicate l.counter SPACE
