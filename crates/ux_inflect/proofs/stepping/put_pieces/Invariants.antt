use Rattle.std.proofs.Common.{◌≡◌, ◌++◌, take}
use Rattle.std.specs.Prelude.{string_bytes}
use Rattle.std.specs.List.{flat_map}
use Rattle.ux_inflect.specs.Places.{put_of}
use Rattle.ux_inflect.proofs.stepping.put_pieces.Given as goal

-- the texts of the pieces so far are there
abbrev pub invariant-loop-piece : goal.invariant-loop-piece
invariant-loop-piece l = string_bytes l.output
    ≡ string_bytes l.fn.output ++ flat_map put_of (take l.piece-index l.pieces)
