use Rattle.std.proofs.Common.{◌≡◌, ◌+◌, false, drop}
use Rattle.ux_tokens.proofs.RegionLemmas.{region}
use Rattle.ux_tokens.proofs.tags.region_len.Given as goal

abbrev pub invariant-loop-place : goal.invariant-loop-place
invariant-loop-place l = region false l.text ≡ l.place + region l.protected (drop l.place l.text)
