use Rattle.ux_fst2.specs.Inner.{is_shielded}
use Rattle.ux_dela.proofs.ShieldLemmas.{IsShownTo}
use Rattle.ux_fst2.proofs.shielding.find_sign.Given as goal

-- no sign so far
abbrev pub invariant-loop-place : goal.invariant-loop-place
invariant-loop-place l = IsShownTo (is_shielded l.signs) l.text l.place
