use Rattle.std.proofs.Common.{arith}
use Rattle.std.proofs.lemmas.Grind.{common_steps}
use Rattle.ux_tokens.proofs.EntriesLemmas.{inner_body, tag_boundary}
use Rattle.ux_tokens.proofs.entries.read_entry.Goals as goal

pub range-requires-clause-start_boundary : goal.range-requires-clause-start_boundary
range-requires-clause-start_boundary c =
    λ some. tag_boundary c.args.tag.now c.utf8.tag c.requires

pub unreachable-requires : goal.unreachable-requires
unreachable-requires c =
    let body = inner_body c.args.tag.now c.requires c.range.result.now c.range.ensures.value in
    (rw c.in-None.is at c.in_ok-entry.ensures.exact) body.0 body.1

pub range-requires-clause-end_boundary : goal.range-requires-clause-end_boundary
range-requires-clause-end_boundary c = grind (arith, common_steps)

pub returns : goal.returns
returns c = grind (arith, common_steps)
