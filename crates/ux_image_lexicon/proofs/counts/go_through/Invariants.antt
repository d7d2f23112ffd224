use Rattle.ux_image_lexicon.specs.Counting.{AreCountedBut}
use Rattle.ux_image_lexicon.specs.Walking.{forms_left, letters_left, IsWalk}
use Rattle.ux_image_lexicon.proofs.counts.go_through.Given as goal

-- all forms are counted but those that the walk has left
abbrev pub invariant-loop-branch : goal.invariant-loop-branch
invariant-loop-branch l =
    IsWalk l.coded.states l.walk.letters.items l.walk.branches.items
    × AreCountedBut l.coded l.counts
    (forms_left l.coded.states l.walk.letters.items l.walk.branches.items)

abbrev pub decreases-loop-branch : goal.decreases-loop-branch
decreases-loop-branch l = letters_left l.coded.states l.walk.branches.items
