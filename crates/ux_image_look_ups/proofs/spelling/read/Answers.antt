use Rattle.std.proofs.Common.{arith, sym, ◌∙◌}
use Rattle.ux_image_look_ups.proofs.SpellingLemmas.{read-end, read-letter}
use Rattle.ux_image_look_ups.proofs.spelling.read.Goals as goal

pub loop-left-preserved-in-End : goal.loop-left-preserved-in-End
loop-left-preserved-in-End c =
    let rows = c.args.rows.now in (
      omega arith,
      read-end rows c.args.state c.args.place c.loop-left.left c.loop-left.code c.in-End.end
          c.loop-left.state c.loop-left.place c.loop-left.letters.items c.index-rows-left.result
          c.loop-left-test.true c.loop-left.invariant.0 c.loop-left.invariant.1 c.index-rows-left.is
          (sym c.link_in.ensures ∙ c.in-End.is),
    )

pub loop-left-preserved : goal.loop-left-preserved
loop-left-preserved c =
    let rows = c.args.rows.now in
    let within = c.loop-left.invariant.0 in (
      omega (arith, within),
      read-letter rows c.args.state c.args.place c.loop-left.left c.loop-left.code
          c.in-Letter.letter c.loop-left.state c.loop-left.place c.in-Letter.target
          c.in-Letter.behind c.loop-left.letters.items c.push.new.self.items
          c.index-rows-left.result c.loop-left-test.true within c.loop-left.invariant.1
          c.index-rows-left.is (sym c.link_in.ensures ∙ c.in-Letter.is)
          c.in_ok-push-in-Letter.ensures.items,
    )
