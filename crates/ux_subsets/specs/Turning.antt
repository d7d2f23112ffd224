-- The second pass, over the automaton read backwards.
use Rattle.std.specs.Prelude.{◌≡◌, ℕ, List, Contains}
use Rattle.ux_subsets.specs.declared.automaton.Link.{Link}
use Rattle.ux_subsets.specs.Paths.{reversed}
use Rattle.ux_subsets.specs.Building.{IsPass}

-- a link leads to the state
abbrev pub HasEnd : ℕ → List Link → Type 0
HasEnd last links = (l : Link) × Contains links l × (l.to ≡ last)

-- a pass over the automaton read backwards, beside a machine with one state, and read backwards once more
pub record IsTurned (last : ℕ) (links : List Link) (last' : ℕ) (links' : List Link) : Type 0 where
  pub back : List Link
  pub pass : IsPass (λ (q : ℕ) (w : List ℕ). q ≡ 0) (λ w. Unit {0}) last (reversed last links) last' back
  pub made : links' ≡ reversed last' back
