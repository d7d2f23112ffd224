use Rattle.std.proofs.Common.{arith}
use Rattle.std.proofs.lemmas.Grind.{common_steps}
use Rattle.ux_tokens.proofs.RegionLemmas.{free_found}
use Rattle.ux_tokens.proofs.tags.tag_len.Goals as goal

pub returns-then-found-gt0-clause-free : goal.returns-then-found-gt0-clause-free
returns-then-found-gt0-clause-free c =
    free_found c.args.text.now c.args.start c.find_tag-found.result c.find_tag-found.ensures

pub slice_bounds-find_tag-count : goal.slice_bounds-find_tag-count
slice_bounds-find_tag-count c = grind (arith, common_steps)

pub slice_bounds-find_tag-start : goal.slice_bounds-find_tag-start
slice_bounds-find_tag-start c = grind (arith, common_steps)

pub find_tag-found-requires : goal.find_tag-found-requires
find_tag-found-requires c = grind (arith, common_steps)

pub returns-then-found-gt0-clause-exact : goal.returns-then-found-gt0-clause-exact
returns-then-found-gt0-clause-exact c = grind (arith, common_steps)

pub returns-clause-exact : goal.returns-clause-exact
returns-clause-exact c = grind (arith, common_steps)
