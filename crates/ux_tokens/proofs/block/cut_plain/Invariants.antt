use Rattle.std.proofs.Common.{◌≡◌, ◌+◌, ◌≤◌, false, length}
use Rattle.ux_alphabet.specs.Letters.{Letters}
use Rattle.ux_tokens.specs.Blocks.{AreClasses}
use Rattle.ux_tokens.proofs.BlocksLemmas.{IsBlock}
use Rattle.ux_tokens.proofs.block.cut_plain.Given as goal

-- the tokens so far are cut, and one is open
abbrev pub invariant-loop-place : goal.invariant-loop-place
invariant-loop-place l = record {
  ends : length l.ends ≡ length l.initial.ends;
  kinds : length l.kinds ≡ length l.initial.kinds;
  few : l.start + l.count ≤ l.place;
  block : (alphabet : Letters) → alphabet.single ≡ false → AreClasses alphabet l.classes →
      IsBlock alphabet l.text l.start l.place l.count l.ends l.kinds l.kind;
}
