-- Where walks lead: from frames that are to be gone through, step by step, to a position at which
-- all of them were. Public: the contracts of the automaton speak of it.
use Rattle.std.specs.Prelude.{ℕ, List, [], ◌∷◌}
use Rattle.ux_walk.specs.declared.config.Frame.{Frame}
use Rattle.ux_walk.specs.Contexts.{Applying, none_apply}
use Rattle.ux_walk.specs.Courses.{Course, GoesOn}
use Rattle.ux_walk.specs.Settings.{Setting}

-- frames to go through, innermost first
abbrev pub Stack : Type 0
Stack = List Frame

-- the stack in which a walk begins: the first state of the main graph
abbrev pub main_stack : Stack
main_stack = record { graph = 1; state = 0 } ∷ []

-- from these frames and this position a walk leads to the end, where these contexts apply
pub data LeadsBy (setting : Setting) (applies : Applying) : Stack → (at end : ℕ) → Type 0 where
  ended : {p : ℕ} → LeadsBy setting applies [] p p
  goes : {f : Frame} {fs : Stack} {p end : ℕ} (w : Course) →
      GoesOn setting.alphabet setting.tokens setting.tables applies setting.net f fs p [] w →
      LeadsBy setting applies w.frames w.at end → LeadsBy setting applies (f ∷ fs) p end

-- the same of a net without contexts
abbrev pub LeadsTo : Setting → Stack → (at end : ℕ) → Type 0
LeadsTo setting = LeadsBy setting none_apply

-- from one of these stacks it does
abbrev pub LeadsFrom : Setting → (stacks : Stack → Type 0) → (at end : ℕ) → Type 0
LeadsFrom setting stacks at end = (stack : Stack) × stacks stack × LeadsTo setting stack at end
