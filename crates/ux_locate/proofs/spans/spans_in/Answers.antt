use Rattle.ux_walk.specs.Settings.{masked_setting}
use Rattle.ux_locate.proofs.SpanLemmas.{spans_lie, spans_listing}
use Rattle.ux_locate.proofs.spans.spans_in.Goals as goal

pub returns-clause-listing : goal.returns-clause-listing
returns-clause-listing c =
    spans_listing (masked_setting c.args.masked.now) c.requires.table.belongs c.requires.uncut
    c.args.policy c.in_ok-spans.spans.items c.sort_spans.new.spans.items c.in_ok-spans.ensures
    c.sort_spans.ensures.same c.sort_spans.ensures.in_order

pub returns-clause-within : goal.returns-clause-within
returns-clause-within c =
    spans_lie (masked_setting c.args.masked.now) c.requires.table.belongs c.requires.uncut
    c.args.policy c.in_ok-spans.spans.items c.sort_spans.new.spans.items c.in_ok-spans.ensures
    c.sort_spans.ensures.same
