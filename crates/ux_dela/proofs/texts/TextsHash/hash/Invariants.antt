use Rattle.std.proofs.Common.{◌≡◌, ◌≤◌, length, take}
use Rattle.std.specs.Hash as fed
use Rattle.std.specs.List.{flat_map, fold}
use Rattle.ux_dela.proofs.texts.TextsHash.hash.Given as goal

-- the texts so far are fed
abbrev pub invariant-loop-number : goal.invariant-loop-number
invariant-loop-number g l =
    (l.number ≤ length l.self)
    × (l.state ≡ fold g.H.Hasher.write l.initial.state (flat_map fed.str (take l.number l.self)))
