use Rattle.std.proofs.Common.{arith}
use Rattle.std.proofs.lemmas.Grind.{common_steps}
use Rattle.ux_reasons.proofs.telling.say_net_error.Goals as goal

pub returns-in-MissingGraph-clause-line : goal.returns-in-MissingGraph-clause-line
returns-in-MissingGraph-clause-line g c = rw c.in-MissingGraph.is c.say_missing.ensures.line

pub returns-in-MissingGraph-clause-front : goal.returns-in-MissingGraph-clause-front
returns-in-MissingGraph-clause-front g c = rw c.in-MissingGraph.is c.say_missing.ensures.front

pub returns-in-BadMask-clause-line : goal.returns-in-BadMask-clause-line
returns-in-BadMask-clause-line g c = rw c.in-BadMask.is c.say_bad_mask.ensures.line

pub returns-in-BadMask-clause-front : goal.returns-in-BadMask-clause-front
returns-in-BadMask-clause-front g c = rw c.in-BadMask.is c.say_bad_mask.ensures.front

pub returns-in-ContextClose-clause-line : goal.returns-in-ContextClose-clause-line
returns-in-ContextClose-clause-line g c = rw c.in-ContextClose.is c.say_node.ensures.line

pub returns-in-ContextClose-clause-front : goal.returns-in-ContextClose-clause-front
returns-in-ContextClose-clause-front g c = rw c.in-ContextClose.is c.say_node.ensures.front

pub returns-in-NegativeRecursion-clause-line : goal.returns-in-NegativeRecursion-clause-line
returns-in-NegativeRecursion-clause-line g c =
    rw c.in-NegativeRecursion.is c.say_recursion.ensures.line

pub returns-in-NegativeRecursion-clause-front : goal.returns-in-NegativeRecursion-clause-front
returns-in-NegativeRecursion-clause-front g c =
    rw c.in-NegativeRecursion.is c.say_recursion.ensures.front

pub returns-in-EmptyLoop-clause-line : goal.returns-in-EmptyLoop-clause-line
returns-in-EmptyLoop-clause-line g c = rw c.in-EmptyLoop.is c.say_node-in-EmptyLoop.ensures.line

pub returns-in-EmptyLoop-clause-front : goal.returns-in-EmptyLoop-clause-front
returns-in-EmptyLoop-clause-front g c = rw c.in-EmptyLoop.is c.say_node-in-EmptyLoop.ensures.front

pub returns-in-LeftRecursion-clause-line : goal.returns-in-LeftRecursion-clause-line
returns-in-LeftRecursion-clause-line g c =
    rw c.in-LeftRecursion.is c.say_node-in-LeftRecursion.ensures.line

pub returns-in-LeftRecursion-clause-front : goal.returns-in-LeftRecursion-clause-front
returns-in-LeftRecursion-clause-front g c =
    rw c.in-LeftRecursion.is c.say_node-in-LeftRecursion.ensures.front

pub returns-in-MissingGraph-clause-later : goal.returns-in-MissingGraph-clause-later
returns-in-MissingGraph-clause-later g c = grind (arith, common_steps)

pub returns-in-MissingGraph-clause-cause : goal.returns-in-MissingGraph-clause-cause
returns-in-MissingGraph-clause-cause g c = grind (arith, common_steps)

pub returns-in-ContextClose-clause-later : goal.returns-in-ContextClose-clause-later
returns-in-ContextClose-clause-later g c = grind (arith, common_steps)

pub returns-in-ContextClose-clause-cause : goal.returns-in-ContextClose-clause-cause
returns-in-ContextClose-clause-cause g c = grind (arith, common_steps)

pub returns-in-NegativeRecursion-clause-later : goal.returns-in-NegativeRecursion-clause-later
returns-in-NegativeRecursion-clause-later g c = grind (arith, common_steps)

pub returns-in-NegativeRecursion-clause-cause : goal.returns-in-NegativeRecursion-clause-cause
returns-in-NegativeRecursion-clause-cause g c = grind (arith, common_steps)

pub returns-in-EmptyLoop-clause-later : goal.returns-in-EmptyLoop-clause-later
returns-in-EmptyLoop-clause-later g c = grind (arith, common_steps)

pub returns-in-EmptyLoop-clause-cause : goal.returns-in-EmptyLoop-clause-cause
returns-in-EmptyLoop-clause-cause g c = grind (arith, common_steps)

pub returns-in-LeftRecursion-clause-later : goal.returns-in-LeftRecursion-clause-later
returns-in-LeftRecursion-clause-later g c = grind (arith, common_steps)

pub returns-in-LeftRecursion-clause-cause : goal.returns-in-LeftRecursion-clause-cause
returns-in-LeftRecursion-clause-cause g c = grind (arith, common_steps)

pub returns-in-NoMemory-clause-later : goal.returns-in-NoMemory-clause-later
returns-in-NoMemory-clause-later g c = grind (arith, common_steps)

pub returns-in-NoMemory-clause-cause : goal.returns-in-NoMemory-clause-cause
returns-in-NoMemory-clause-cause g c = grind (arith, common_steps)

pub returns-in-NoMemory-clause-line : goal.returns-in-NoMemory-clause-line
returns-in-NoMemory-clause-line g c = grind (arith, common_steps)

pub returns-in-NoMemory-clause-front : goal.returns-in-NoMemory-clause-front
returns-in-NoMemory-clause-front g c = grind (arith, common_steps)
