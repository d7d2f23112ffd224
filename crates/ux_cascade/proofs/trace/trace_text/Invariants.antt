use Rattle.std.proofs.Common.{◌≡◌, string_bytes, take}
use Rattle.ux_cascade.specs.Trace.{trace_of}
use Rattle.ux_cascade.proofs.trace.trace_text.Given as goal

-- the lines so far
abbrev pub invariant-loop-round : goal.invariant-loop-round
invariant-loop-round l = string_bytes l.trace ≡ trace_of (take l.round-index l.rounds)
