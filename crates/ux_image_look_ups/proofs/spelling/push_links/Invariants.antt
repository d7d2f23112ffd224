use Rattle.std.proofs.Common.{◌≡◌, ◌++◌}
use Rattle.ux_image_look_ups.specs.Spelling.{links_to, table}
use Rattle.ux_image_look_ups.proofs.spelling.push_links.Given as goal

-- the links so far
abbrev pub invariant-loop-place : goal.invariant-loop-place
invariant-loop-place l =
    l.links.items ≡ l.initial.links.items ++ table (links_to l.letter l.state) l.place
