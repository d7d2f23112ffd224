use Rattle.std.specs.Prelude.{◌≡◌}
use Rattle.ux_locate.specs.Finding.{IsFoundBefore, IsSpanFrom}
use Rattle.ux_locate.specs.Keeping.{AreKept, first_in, last_in}
use Rattle.ux_locate.proofs.spans.spans_from_starts.Given as goal

-- the spans are those that the policy keeps of the ones from the starts so far
abbrev pub invariant-loop-start : goal.invariant-loop-start
invariant-loop-start g l = record {
  same : g.E.Ends.setting l.finder ≡ g.E.Ends.setting l.fn.finder;
  spans : AreKept l.policy first_in last_in
      (IsFoundBefore l.text (IsSpanFrom (g.E.Ends.setting l.fn.finder)) l.start) l.spans.items;
}
