use Rattle.std.proofs.Common.{◌≤◌, List, ℕ, Bor, map, take}
use Rattle.ux_base.specs.Outside.{Appended}
use Rattle.ux_reasons.specs.Reasons.{joined}
use Rattle.ux_reasons.proofs.telling.say.Given as goal

abbrev pub invariant-loop-text : goal.invariant-loop-text
invariant-loop-text g l = record {
  later : g.E.Sink.faults l.initial.err ≤ g.E.Sink.faults l.err;
  written : Appended (g.E.Sink.written l.initial.err) (g.E.Sink.written l.err)
      (joined (map (λ (t : Bor (List ℕ)). t.now) (take l.text-index l.texts)));
}
