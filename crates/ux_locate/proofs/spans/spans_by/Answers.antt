use Rattle.std.proofs.Common.{List, map, subst, sym}
use Rattle.std.specs.Prelude.{All}
use Rattle.std.proofs.lemmas.Result.{IfOk-weaker}
use Rattle.ux_base.specs.declared.settings.Mode.TheVariants.{Ignore}
use Rattle.ux_base.specs.declared.settings.NoVar.{NoVar}
use Rattle.ux_net.specs.declared.net_graph.NetGraph.{NetGraph}
use Rattle.ux_net.specs.Nets.{CutNothing, net_grammar}
use Rattle.ux_locate.specs.Hits.{IsHit}
use Rattle.ux_locate.specs.Index.{IsKeptListing}
use Rattle.ux_locate.specs.Spans.{LiesIn, hit_at}
use Rattle.ux_locate.proofs.OverLemmas.{lie_over, spans_over}
use Rattle.ux_locate.proofs.spans.spans_by.Goals as goal

pub spans_in-requires : goal.spans_in-requires
spans_in-requires g c =
    let net_is = sym c.in_ok-masked.ensures.over.net_is in
    record {
      table = c.in_ok-masked.ensures.table;
      uncut = subst (λ (net : List NetGraph). CutNothing net) net_is c.requires.uncut;
    }

pub returns-clause-listing : goal.returns-clause-listing
returns-clause-listing g c =
    let masked = c.in_ok-masked.masked in
    IfOk-weaker c.spans_in.result
    (λ spans. (novar : NoVar) → IsKeptListing c.args.policy (IsHit masked.alphabet.now
    masked.text.now masked.applied.now (net_grammar masked.net.now) Ignore novar)
    (map (hit_at masked.text.now) spans.items))
    (λ spans. (novar : NoVar) → IsKeptListing c.args.policy (IsHit c.args.alphabet.now
    c.args.text.now c.args.applied.now (net_grammar c.args.net.now) Ignore novar)
    (map (hit_at c.args.text.now) spans.items))
    (λ spans listing novar. spans_over c.args.net.now c.args.text.now c.args.alphabet.now
    c.args.applied.now masked c.in_ok-masked.ensures.over c.args.policy novar spans.items
    (listing novar)) c.spans_in.ensures.listing

pub returns-clause-within : goal.returns-clause-within
returns-clause-within g c =
    let masked = c.in_ok-masked.masked in
    IfOk-weaker c.spans_in.result (λ spans. All (LiesIn masked.text.now) spans.items)
    (λ spans. All (LiesIn c.args.text.now) spans.items)
    (λ spans. lie_over c.args.net.now c.args.text.now c.args.alphabet.now c.args.applied.now masked
    c.in_ok-masked.ensures.over spans.items) c.spans_in.ensures.within
