use Rattle.std.proofs.Common.{ap, ◌∙◌}
use Rattle.std.specs.Prelude.{nat_eq, position, unwrap_or}
use Rattle.ux_image.proofs.NumberLemmas.{place_is}
use Rattle.ux_image.proofs.numbering.place_in.Goals as goal

pub returns : goal.returns
returns c =
    let keys = c.args.order.now.keys in
    c.unwrap_or.ensures
    ∙ ap (λ found. unwrap_or found c.len.result) c.get_index_of.ensures.index
    ∙ ap (λ n. unwrap_or (position (nat_eq c.args.number) keys) n) c.len.ensures.len
    ∙ place_is (nat_eq c.args.number) keys
