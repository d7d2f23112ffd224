use Rattle.std.proofs.Common.{◌∙◌, List, ap, length, map, sym}
use Rattle.std.proofs.lemmas.List.{length-map}
use Rattle.ux_base.specs.declared.settings.NoVar.TheVariants.{Nothing}
use Rattle.ux_outputs.specs.declared.span.Span.{Span}
use Rattle.ux_locate.specs.Spans.{hit_at}
use Rattle.ux_cmd_bench.specs.Summaries.{longest_of}
use Rattle.ux_cmd_bench.proofs.summary.counts.Goals as goal

pub locate_spans-requires-clause-uncut : goal.locate_spans-requires-clause-uncut
locate_spans-requires-clause-uncut g c = c.cuts_nothing.ensures.0 c.if-cuts_nothing.true

pub returns-then-cuts_nothing : goal.returns-then-cuts_nothing
returns-then-cuts_nothing g c =
    let tokens = c.args.text.now in
    let spans = c.in_ok-spans.spans.items in
    record {
      hits = map (hit_at tokens) spans;
      listing = c.in_ok-spans.ensures.listing Nothing;
      counted = c.len.ensures ∙ (sym c.as_slice.ensures.len
          ∙ (ap length c.as_slice.ensures.value ∙ sym (length-map spans (hit_at tokens))));
      measured = c.longest_span.ensures
          ∙ ap (λ (l : List Span). longest_of (map (hit_at tokens) l)) c.as_slice.ensures.value;
    }

pub returns : goal.returns
returns g c = record {
  hits = c.in_ok-hits.hits.items;
  listing = c.in_ok-hits.ensures.hits;
  counted = c.len-2.ensures ∙ (sym c.as_slice-2.ensures.len ∙ ap length c.as_slice-2.ensures.value);
  measured = c.longest_hit.ensures ∙ ap longest_of c.as_slice-2.ensures.value;
}
