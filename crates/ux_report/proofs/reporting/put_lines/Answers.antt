use Rattle.std.proofs.Common.{◌∙◌, ◌++◌, List, ℕ, ap, arith, append-nil, string_bytes, sym}
use Rattle.std.specs.List.{flat_map}
use Rattle.std.proofs.lemmas.List.{take_all}
use Rattle.ux_tokens.specs.TokenFile.{line_of}
use Rattle.ux_report.proofs.LinesLemmas.{written-more}
use Rattle.ux_report.proofs.reporting.put_lines.Goals as goal

pub loop-line-init : goal.loop-line-init
loop-line-init c = sym (append-nil (string_bytes c.args.report.now))

pub loop-line-preserved : goal.loop-line-preserved
loop-line-preserved c =
    written-more c.args.lines.now c.loop-line.line-index c.line-item.result (omega arith)
    c.line-item.is (string_bytes c.args.report.now) (string_bytes c.loop-line.report)
    (string_bytes c.put_line.new.report) c.loop-line.invariant
    (c.in_ok-put_line.ensures
    ∙ ap (λ (l : List ℕ). string_bytes c.loop-line.report ++ line_of l) c.as_str.ensures)

pub returns : goal.returns
returns c =
    c.loop-line.invariant
    ∙ ap (λ (l : List (List ℕ)). string_bytes c.args.report.now ++ flat_map line_of l)
    (take_all c.loop-line.line-index c.args.lines.now (omega arith))
