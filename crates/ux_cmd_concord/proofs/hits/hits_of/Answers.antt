use Rattle.std.proofs.Common.{◌∙◌, List, ap, map, subst, sym}
use Rattle.std.proofs.lemmas.Result.{IfOk-weaker}
use Rattle.ux_base.specs.declared.settings.Mode.{Mode}
use Rattle.ux_net.specs.Nets.{net_grammar}
use Rattle.ux_outputs.specs.declared.span.Span.{Span}
use Rattle.ux_locate.specs.Hits.{IsHit}
use Rattle.ux_locate.specs.Index.{IsKeptListing}
use Rattle.ux_locate.specs.Spans.{hit_at}
use Rattle.ux_cmd_concord.proofs.hits.hits_of.Goals as goal

pub locate_spans-requires-clause-uncut : goal.locate_spans-requires-clause-uncut
locate_spans-requires-clause-uncut g c = c.cuts_nothing.ensures.0 c.if-cuts_nothing.true

pub returns-in-Ignore : goal.returns-in-Ignore
returns-in-Ignore g c =
    let tokens = c.args.text.now in
    IfOk-weaker c.hits_at.result _ _
    (λ hits made. subst (λ (m : Mode). IsKeptListing c.args.policy
    (IsHit c.args.alphabet.now tokens c.args.applied.now (net_grammar c.args.net.now) m c.args.novar)
    hits.items) (sym c.in-Ignore.is)
    (subst (IsKeptListing c.args.policy _)
    (sym (made ∙ ap (λ (l : List Span). map (hit_at tokens) l) c.as_slice.ensures.value))
    (c.in_ok-spans-in-Ignore.ensures.listing c.args.novar)))
    c.hits_at.ensures
