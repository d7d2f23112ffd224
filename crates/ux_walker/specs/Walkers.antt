-- What a walker keeps is right for its setting. Inner: contracts see a walker as its setting.
use Rattle.std.specs.Prelude.{◌≡◌, false}
use Rattle.ux_mask_table.specs.MaskedTexts.{HasTable}
use Rattle.ux_net.specs.Nets.{ArePlain}
use Rattle.ux_walk.specs.Settings.{Setting, masked_setting}
use Rattle.ux_walker.specs.declared.walker.Walker.TheInside.{Inside}

-- the setting that the walker was made for
abbrev pub made_for : Inside → Setting
made_for w = masked_setting w.masked.now

-- the text has its table, the net has plain labels alone, and the automaton is that of the setting,
-- unless memory ran out while it grew
pub record IsConsistent (w : Inside) : Type 0 where
  pub automaton : w.is_spent ≡ false → w.automaton.setting ≡ made_for w
  pub table : HasTable w.masked.now
  pub plain : ArePlain w.masked.now.net.now
