use Rattle.std.proofs.Common.{◌≡◌, take}
use Rattle.std.specs.List.{flat_map}
use Rattle.ux_inflect.specs.Places.{after_text, put_of}
use Rattle.ux_inflect.proofs.stepping.after_pieces.Given as goal

-- the pieces so far are read
abbrev pub invariant-loop-piece : goal.invariant-loop-piece
invariant-loop-piece l = l.codes ≡ after_text l.fn.codes (flat_map put_of (take l.piece-index l.pieces))
