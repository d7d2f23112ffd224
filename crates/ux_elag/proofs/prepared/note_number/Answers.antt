use Rattle.std.proofs.lemmas.Result.{on_ok_weaker}
use Rattle.ux_elag.proofs.CodesLemmas.{kinds-long, noted-again}
use Rattle.ux_elag.proofs.prepared.note_number.Goals as goal

pub note_like-requires : goal.note_like-requires
note_like-requires c =
    kinds-long c.args.table.now c.args.number c.in-Some.like c.args.rules.now
    c.in-Some.ensures.1 c.requires.prepared

-- the reading is like an earlier one
pub returns-in-Some : goal.returns-in-Some
returns-in-Some c =
    on_ok_weaker c.note_like.result
    (noted-again c.args.table.now c.args.number c.in-Some.like c.args.likes.now c.args.rules.now
    c.note_like.new.rules c.requires.likes c.in-Some.ensures.0 c.in-Some.ensures.1
    c.requires.prepared) c.note_like.ensures
