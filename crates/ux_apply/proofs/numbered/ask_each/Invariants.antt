use Rattle.std.proofs.Common.{take}
use Rattle.std.specs.Prelude.{All}
use Rattle.std.specs.List.{AllZip}
use Rattle.ux_dela.specs.Sound.{IsSound}
use Rattle.ux_tokens.specs.Numbers.{different_texts}
use Rattle.ux_apply.specs.Applying.{AreApplying, contents}
use Rattle.ux_apply.specs.Kept.{IsStart}
use Rattle.ux_apply.proofs.numbered.ask_each.Given as goal

-- what is known is that of the texts so far
abbrev pub invariant-loop-place : goal.invariant-loop-place
invariant-loop-place g l = record {
  applying : AllZip
      (λ text row. AreApplying l.alphabet (contents g.L.Lexicon.content l.dics) text row.items)
      (take l.place-index (different_texts l.text)) l.entries.items;
  sound : All (λ row. All IsSound row.items) l.entries.items;
  starts : AllZip (IsStart l.alphabet (contents g.L.Lexicon.content l.dics))
      (take l.place-index (different_texts l.text)) l.starts.items;
}
