-- Commands: what is read, and what answers what was read. This file carries the crate's public meaning.
use Rattle.std.specs.Prelude.{List, ℕ, Option}
use Rattle.ux_base.specs.Outside.{Files}
use Rattle.ux_plan.specs.Plans.{Comes, Plan}
use Rattle.ux_plan.specs.Laws.{Laws}

-- a command: its plan, which keeps the laws, and what answers what was read
pub record Command (R : Type 0) : Type 1 where
  pub Read : Type 0
  pub plan : Plan R Read
  pub laws : Laws plan
  pub Answers : Read → List ℕ → Type 0

-- what answers a command
pub record Answers {R : Type 0} (command : Command R) (told : Option Files) (answer : List ℕ) :
    Type 0 where
  pub read : command.Read
  pub comes : Comes command.plan told read
  pub answers : command.Answers read answer
