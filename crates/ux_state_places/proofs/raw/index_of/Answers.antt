use Rattle.std.proofs.Common.{sym, ◌∙◌, ap}
use Rattle.std.specs.Option.{is_some}
use Rattle.ux_state_places.proofs.RawLemmas.{found_at, found_there}
use Rattle.ux_state_places.proofs.raw.index_of.Goals as goal

pub unreachable-requires : goal.unreachable-requires
unreachable-requires g c =
    let found = found_there _ c.requires.exact c.args.set.now.keys c.args.item c.requires.there in
    let none = ap is_some c.in-None.is in
    let both = sym none ∙ (c.get_index_of.ensures.found ∙ found) in
    cc

pub returns : goal.returns
returns g c =
    found_at _ c.requires.exact c.args.set.now.keys c.args.item c.in-Some.index
    (sym c.get_index_of.ensures.index ∙ c.in-Some.is)
