use Rattle.std.proofs.lemmas.Result.{IfOk-weaker}
use Rattle.ux_net.specs.Nets.{net_grammar}
use Rattle.ux_locate.specs.Hits.{IsHit}
use Rattle.ux_locate.specs.Index.{IsKeptListing}
use Rattle.ux_locate.proofs.OverLemmas.{hits_over}
use Rattle.ux_locate.proofs.locating.locate_by.Goals as goal

pub returns-clause-hits : goal.returns-clause-hits
returns-clause-hits g c =
    let masked = c.in_ok-masked.masked in
    let mode = c.args.mode in
    let novar = c.args.novar in
    IfOk-weaker c.hits_in.result
    (λ kept. IsKeptListing c.args.policy (IsHit masked.alphabet.now masked.text.now
    masked.applied.now (net_grammar masked.net.now) mode novar) kept.items)
    (λ kept. IsKeptListing c.args.policy (IsHit c.args.alphabet.now c.args.text.now
    c.args.applied.now (net_grammar c.args.net.now) mode novar) kept.items)
    (λ kept. hits_over c.args.net.now c.args.text.now c.args.alphabet.now c.args.applied.now masked
    c.in_ok-masked.ensures.over c.args.policy mode novar kept.items)
    c.hits_in.ensures
