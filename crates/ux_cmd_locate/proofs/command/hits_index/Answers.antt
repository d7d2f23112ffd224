use Rattle.std.proofs.lemmas.Result.{IfOk-weaker}
use Rattle.ux_net.specs.Nets.{net_grammar}
use Rattle.ux_cmd_locate.proofs.IgnoredLemmas.{ignored_index}
use Rattle.ux_cmd_locate.proofs.command.hits_index.Goals as goal

pub locate_spans-requires-clause-uncut : goal.locate_spans-requires-clause-uncut
locate_spans-requires-clause-uncut g c = c.cuts_nothing.ensures.0 c.if-cuts_nothing.true

pub returns-in-Ignore : goal.returns-in-Ignore
returns-in-Ignore g c =
    IfOk-weaker c.span_index.result _ _
    (λ index written. ignored_index c.args.alphabet.now c.args.text.now c.args.applied.now
    (net_grammar c.args.net.now) c.args.mode c.args.policy c.args.novar
    c.in_ok-spans-in-Ignore.spans.items c.as_slice.result.now _ c.in-Ignore.is
    c.as_slice.ensures.value (c.in_ok-spans-in-Ignore.ensures.listing c.args.novar) written)
    c.span_index.ensures
