use Rattle.std.proofs.Common.{◌≤◌}
use Rattle.std.specs.Prelude.{slice_range}
use Rattle.ux_tokens.specs.Tokens.{joined}
use Rattle.ux_apply.specs.Applying.{contents}
use Rattle.ux_apply.specs.Cursors.{AreReachedBy}
use Rattle.ux_apply.specs.Kept.{AreSoundMembers, IsFront}
use Rattle.ux_apply.specs.Applied.{AreCompoundUpTo}
use Rattle.ux_apply.proofs.compounds.spans_from.Given as goal

-- the row has the entries of the spans so far, the tokens so far may be in a longer one, and the
-- text of those before the next one led to the cursors
abbrev pub invariant-loop-last : goal.invariant-loop-last
invariant-loop-last g l = record {
  row : AreCompoundUpTo l.alphabet (contents g.L.Lexicon.content l.dics) l.text l.first l.last
      l.row.items;
  front : IsFront l.text l.first l.last;
  sound : AreSoundMembers l.row.items;
  from_first : l.first ≤ l.next;
  to_last : l.next ≤ l.last;
  led : AreReachedBy l.alphabet (contents g.L.Lexicon.content l.dics)
      (joined (slice_range l.text l.first l.next)) l.cursors.items;
}
