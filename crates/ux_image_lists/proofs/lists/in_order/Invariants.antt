use Rattle.std.proofs.Common.{◌≡◌, ◌++◌}
use Rattle.ux_image_lists.proofs.lists.in_order.Given as goal

-- the codes so far, and those that are left
abbrev pub invariant-loop-code : goal.invariant-loop-code
invariant-loop-code l = l.items ++ l.code-iterator ≡ l.fn.codes.keys
