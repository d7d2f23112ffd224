use Rattle.std.proofs.Common.{ℕ, subst, sym}
use Rattle.std.specs.Prelude.{Option, OnOk}
use Rattle.std.proofs.lemmas.Result.{on_ok_weaker}
use Rattle.ux_report.specs.Lines.{HasMore, IsSimpleAt}
use Rattle.ux_report.proofs.PlacesLemmas.{simple-there}
use Rattle.ux_report.proofs.lines.put_simple.Goals as goal

pub returns-in-Some : goal.returns-in-Some
returns-in-Some c =
    subst
    (λ (place : Option ℕ). OnOk c.put_entries.result (HasMore c.args.lines.now.keys
    (IsSimpleAt c.args.applied.now place) c.put_entries.new.lines.keys)) (sym c.in-Some.is)
    (on_ok_weaker c.put_entries.result
    (simple-there c.args.applied.now c.in-Some.place c.simple.result.now c.args.lines.now.keys
    c.put_entries.new.lines.keys c.simple.ensures) c.put_entries.ensures)
