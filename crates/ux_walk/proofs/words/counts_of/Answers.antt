use Rattle.std.proofs.Common.{rules, ◌≡◌, ◌∙◌, ℕ, List, Bor, length, map, ap}
use Rattle.std.specs.Str.{chars}
use Rattle.ux_walk.proofs.CountsLemmas.{counted_slices}
use Rattle.ux_walk.proofs.words.counts_of.Goals as goal

pub returns : goal.returns
returns c =
    let each : c.in_ok-collect.field-0.items
    ≡ map (λ (s : Bor (List ℕ)). length (chars s.now)) c.as_slice.result.now = search rules in
    each ∙ (ap (map (λ (s : Bor (List ℕ)). length (chars s.now))) c.as_slice.ensures.keys
    ∙ counted_slices c.args.texts.now.keys)
