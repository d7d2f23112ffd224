use Rattle.std.proofs.Common.{◌≡◌, ◌++◌, take, map}
use Rattle.ux_mask_table.proofs.spans.Spans.push_all.Given as goal

abbrev pub invariant-loop-end : goal.invariant-loop-end
invariant-loop-end l = record {
  numbers : l.self.numbers.items ≡ l.fn.self.numbers.items ++ map (λ k. l.number) (take l._end-index l.ends);
  ends : l.self.ends.items ≡ l.fn.self.ends.items ++ l.ends;
}
