use Rattle.std.proofs.Common.{◌≡◌, ◌++◌, take, string_bytes}
use Rattle.std.specs.List.{flat_map}
use Rattle.ux_fst2.specs.Tags.{piece_text}
use Rattle.ux_fst2.proofs.tag_text.put_pieces.Given as goal

-- the pieces so far
abbrev pub invariant-loop-piece : goal.invariant-loop-piece
invariant-loop-piece l =
    string_bytes l.out ≡ string_bytes l.fn.out ++ flat_map piece_text (take l.piece-index l.output)
