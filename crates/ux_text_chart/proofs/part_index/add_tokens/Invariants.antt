use Rattle.std.proofs.Common.{ℕ, take}
use Rattle.std.specs.Prelude.{Contains}
use Rattle.ux_text_chart.specs.PartIndexes.{begins_at}
use Rattle.ux_text_chart.specs.declared.part_index.Beginning.{Beginning}
use Rattle.ux_text_chart.proofs.part_index.add_tokens.Given as goal

-- the part was listed with the tokens so far
abbrev pub invariant-loop-token : goal.invariant-loop-token
invariant-loop-token l = record {
  kept : (b : Beginning) → Contains l.fn.beginnings.items b → Contains l.beginnings.items b;
  listed : (token : ℕ) → Contains (take l.token-index l.tokens) token →
      Contains l.beginnings.items (begins_at token l.part);
}
