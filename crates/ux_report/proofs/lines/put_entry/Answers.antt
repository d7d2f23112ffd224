use Rattle.std.proofs.Common.{◌≡◌, ◌∙◌, List, ℕ, subst}
use Rattle.std.specs.Prelude.{OnOk}
use Rattle.ux_report.specs.Lines.{HasMore}
use Rattle.ux_report.proofs.lines.put_entry.Goals as goal

pub returns : goal.returns
returns c =
    subst
    (λ (text : List ℕ). OnOk c.put_line.result
    (HasMore c.args.lines.now.keys (λ (line : List ℕ). line ≡ text) c.put_line.new.lines.keys))
    (c.new.ensures ∙ c.in_ok-line.ensures.line) c.put_line.ensures
