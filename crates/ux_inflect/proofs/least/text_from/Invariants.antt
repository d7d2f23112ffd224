use Rattle.std.proofs.Common.{◌≡◌, take}
use Rattle.ux_inflect.specs.Ways.{if_wanted_text, least_in}
use Rattle.ux_inflect.proofs.least.text_from.Given as goal

-- the least text along the links so far
abbrev pub invariant-loop-link : goal.invariant-loop-link
invariant-loop-link l = l.least ≡ least_in l.best (if_wanted_text l.is_wanted) (take l.link-index l.row)
