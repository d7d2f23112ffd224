use Rattle.std.specs.Prelude.{Contains}
use Rattle.std.proofs.lemmas.Result.{IfOk-weaker}
use Rattle.ux_locate.specs.Finding.{IsFound, IsHitFrom}
use Rattle.ux_locate.specs.Index.{IsKeptListing}
use Rattle.ux_locate.proofs.KeptLemmas.{kept_listing, listing_same}
use Rattle.ux_locate.proofs.locating.listed_hits.Goals as goal

pub kept_hits-requires-clause-uncut : goal.kept_hits-requires-clause-uncut
kept_hits-requires-clause-uncut c = c.cuts_nothing.ensures.0 c.if-cuts_nothing.true

pub returns-then-cuts_nothing : goal.returns-then-cuts_nothing
returns-then-cuts_nothing c =
    let search = c.args.search.now in
    kept_listing search.policy (IsFound search.masked.now.text.now (IsHitFrom search)) c.in_ok-hits.hits.items
    c.sort_hits.new.hits.items c.in_ok-hits.ensures c.sort_hits.ensures.same
    c.sort_hits.ensures.in_order

pub returns : goal.returns
returns c =
    let search = c.args.search.now in
    let Is = IsFound search.masked.now.text.now (IsHitFrom search) in
    let hits = c.in_ok-hits-2.hits.items in
    IfOk-weaker c.keep.result (λ kept. IsKeptListing search.policy (Contains hits) kept.items)
    (λ kept. IsKeptListing search.policy Is kept.items)
    (λ kept. listing_same (Contains hits) Is c.in_ok-hits-2.ensures kept.items search.policy)
    c.keep.ensures
