use Rattle.std.proofs.Common.{◌≡◌, ◌+◌, length}
use Rattle.ux_sentence.specs.Files.{LinksSay}
use Rattle.ux_sentence.proofs.reader.Sentences.links.Given as goal

-- the lines so far say the links so far
abbrev pub invariant-loop-done : goal.invariant-loop-done
invariant-loop-done l = record {
  many : length l.links.items ≡ l.done;
  say : LinksSay l.states l.fn.self.lines l.links.items l.self.lines;
  passed : l.self.passed ≡ l.fn.self.passed + l.done;
  told : l.self.told ≡ l.fn.self.told;
  count : l.self.count ≡ l.fn.self.count;
}
