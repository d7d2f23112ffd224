use Rattle.std.proofs.Common.{List, ap, ◌++◌, ◌∙◌, string_bytes}
use Rattle.ux_tfst_locate.specs.declared.span.Span.{Span}
use Rattle.ux_cmd_tfind.specs.Lines.{span_lines}
use Rattle.ux_cmd_tfind.proofs.finding.print_found.Goals as goal

pub returns : goal.returns
returns c = λ old told. record {
  spans = c.in_ok-spans.spans.items;
  are = c.in_ok-spans.ensures old told;
  is = c.in_ok-print_spans.ensures
      ∙ ap (λ (l : List Span). string_bytes c.args.answer.now ++ span_lines l) c.as_slice.ensures.value;
}
