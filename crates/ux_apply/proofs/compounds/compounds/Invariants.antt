use Rattle.ux_apply.specs.Applying.{contents}
use Rattle.ux_apply.specs.Kept.{AreRowsUpTo, AreSoundMembers}
use Rattle.ux_apply.specs.Applied.{IsCompoundRow}
use Rattle.ux_apply.proofs.compounds.compounds.Given as goal

-- the rows are those of the tokens so far, which are sound
abbrev pub invariant-loop-first : goal.invariant-loop-first
invariant-loop-first g l = record {
  rows : AreRowsUpTo (IsCompoundRow l.alphabet (contents g.L.Lexicon.content l.dics) l.text)
      l.first l.rows;
  sound : AreRowsUpTo (λ _. AreSoundMembers) l.first l.rows;
}
