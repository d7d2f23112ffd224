use Rattle.std.proofs.Common.{ℕ, [], ◌∷◌, ◌++◌, ap, ◌∙◌}
use Rattle.ux_subsets.specs.Paths.{link}
use Rattle.ux_subsets.proofs.numbering.place_among_many.Goals as goal

pub returns : goal.returns
returns c = record {
  place = c.in_ok-place.place;
  has = c.in_ok-place.ensures;
  linked = c.in_ok-add_link.ensures ∙ ap (λ (k : ℕ). c.args.links.now.items ++ link c.args.waiting.from k c.args.waiting.reading ∷ []) c.in_ok-number.ensures;
}
