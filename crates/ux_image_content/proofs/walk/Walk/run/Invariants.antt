use Rattle.std.proofs.Common.{◌≡◌, ◌++◌}
use Rattle.ux_image_lists.specs.Sizes.{forms_of}
use Rattle.ux_image_content.specs.Walking.{forms_left, steps_left, IsWay}
use Rattle.ux_image_content.proofs.walk.Walk.run.Given as goal

-- the forms that are listed and those that are left are all forms
abbrev pub invariant-loop-frame : goal.invariant-loop-frame
invariant-loop-frame l =
    IsWay l.states l.self.stack.items l.self.letters.items
    × (l.self.forms.items ++ forms_left l.states l.self.stack.items l.self.letters.items
    ≡ l.fn.self.forms.items ++ forms_of l.states)

abbrev pub decreases-loop-frame : goal.decreases-loop-frame
decreases-loop-frame l = steps_left l.states l.self.stack.items
