use Rattle.std.proofs.lemmas.Result.{IfOk-weaker}
use Rattle.ux_net.specs.Nets.{net_grammar}
use Rattle.ux_locate.specs.declared.search.Search.{Search}
use Rattle.ux_locate.specs.Finding.{IsFound, IsHitFrom, tokens_in}
use Rattle.ux_locate.specs.Hits.{IsHit}
use Rattle.ux_locate.specs.Index.{IsKeptListing}
use Rattle.ux_locate.proofs.HitLemmas.{found_hit}
use Rattle.ux_locate.proofs.KeptLemmas.{listing_same}
use Rattle.ux_locate.proofs.locating.hits_in.Goals as goal

pub returns : goal.returns
returns c =
    let search : Search = record {
      masked = c.args.masked;
      mode = c.args.mode;
      novar = c.args.novar;
      policy = c.args.policy;
    } in
    let Found = IsFound (tokens_in search) (IsHitFrom search) in
    let Is = IsHit search.masked.now.alphabet.now search.masked.now.text.now
    search.masked.now.applied.now (net_grammar search.masked.now.net.now) search.mode
    search.novar in
    IfOk-weaker c.listed_hits.result (λ kept. IsKeptListing search.policy Found kept.items)
    (λ kept. IsKeptListing search.policy Is kept.items)
    (λ kept. listing_same Found Is (found_hit search) kept.items search.policy)
    c.listed_hits.ensures
