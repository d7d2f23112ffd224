use Rattle.std.proofs.Common.{arith}
use Rattle.ux_reading_table.proofs.LikesLemmas.{likes_more}
use Rattle.ux_reading_table.proofs.likes.note_like.Goals as goal

pub returns : goal.returns
returns c = λ texts are has.
    likes_more texts c.args.codes.now c.args.likes.now
    (record { alike = c.push.new.self; firsts = c.like_of.new.firsts }) c.args.number
    c.in_ok-like.like (omega (arith, c.len.ensures, c.if-number-len.false))
    c.in_ok-push.ensures.items are.alike (c.in_ok-like.ensures texts are.firsts has)
