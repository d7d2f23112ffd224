use Rattle.std.proofs.Common.{◌≡◌, ◌++◌, take, map}
use Rattle.ux_locate.specs.Finding.{span_to}
use Rattle.ux_locate.proofs.spans.push_spans.Given as goal

-- the spans to the ends so far were added
abbrev pub invariant-loop-end : goal.invariant-loop-end
invariant-loop-end l = l.spans.items ≡ l.fn.spans.items ++ map (span_to l.start)
    (take l.end-index l.ends)
