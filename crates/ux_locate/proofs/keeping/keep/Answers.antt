use Rattle.std.specs.Prelude.{Contains}
use Rattle.ux_locate.specs.Keeping.{first_of, last_of}
use Rattle.ux_locate.proofs.KeepingLemmas.{kept_same}
use Rattle.ux_locate.proofs.KeptLemmas.{kept_listing}
use Rattle.ux_locate.proofs.keeping.keep.Goals as goal

pub returns : goal.returns
returns c =
    let given = c.args.hits.items in
    let hits = c.sort_hits.new.hits.items in
    let kept = c.in_ok-kept.kept.items in
    kept_listing c.args.policy (Contains given) kept c.sort_hits-2.new.hits.items
    (kept_same c.args.policy first_of last_of (Contains hits) (Contains given)
    c.sort_hits.ensures.same kept c.in_ok-kept.ensures)
    c.sort_hits-2.ensures.same c.sort_hits-2.ensures.in_order
