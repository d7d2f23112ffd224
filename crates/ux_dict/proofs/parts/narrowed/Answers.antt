use Rattle.std.proofs.Common.{List, ℕ, ◌++◌, ap, ◌∙◌}
use Rattle.ux_dict.specs.Keys.{low_key, high_key}
use Rattle.ux_dict.proofs.KeyLemmas.{keys_rise}
use Rattle.ux_dict.proofs.NearLemmas.{IsNarrowed-between}
use Rattle.ux_dict.proofs.parts.narrowed.Goals as goal

pub returns : goal.returns
returns c front is =
    let part = c.args.part.now in
    let bytes = c.args.more.now in
    let sift = c.between.ensures (keys_rise part.entries.now is.utf8 is.ordered) is.keyed in
    IsNarrowed-between front bytes part is c.between.result c.lowest.result c.highest.result
    (λ some.
    let shared = c.common-front.ensures front is some in (
      c.lowest.ensures ∙ ap (λ (l : List ℕ). low_key (l ++ bytes)) shared,
      c.highest.ensures ∙ ap (λ (l : List ℕ). high_key (l ++ bytes)) shared,
    )) sift
