use Rattle.std.proofs.Common.{◌≡◌, ◌<◌, ◌^◌, string_bytes}
use Rattle.ux_cmd_bench.specs.MadeText.{number_at, words_up_to}
use Rattle.ux_cmd_bench.proofs.made_text.made_text.Given as goal

-- the words and the numbers so far
abbrev pub invariant-loop : goal.invariant-loop
invariant-loop l = record {
  text : string_bytes l.text ≡ words_up_to l.n l.counter;
  number : l.number ≡ number_at l.n l.counter;
  below : l.number < 2 ^ 32;
}
