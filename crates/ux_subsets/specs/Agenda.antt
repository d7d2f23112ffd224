-- What waits, filed by the least states of the sets.
use Rattle.std.specs.Prelude.{◌≡◌, ◌≢◌, ℕ, zero, suc, List, [], ◌∷◌, ◌++◌, Vec}
use Rattle.ux_subsets.specs.declared.sets.Waiting.{Waiting}
use Rattle.ux_subsets.specs.declared.agenda.Agenda.{Agenda}
use Rattle.ux_subsets.specs.Rows.{row_at}

-- what is filed for a state, in rows that begin at the state `due`
abbrev pub row_from : {Z : Type 0} → (due : ℕ) → List (Vec Waiting Z) → ℕ → List Waiting
row_from zero rows state = row_at rows state
row_from (suc due) rows zero = []
row_from (suc due) rows (suc state) = row_from due rows state

abbrev pub filed_in : Agenda → ℕ → List Waiting
filed_in agenda = row_from agenda.due agenda.rows.items

-- what was filed for the state is taken, the rest stays
pub record IsTaken (old new : ℕ → List Waiting) (state : ℕ) (taken : List Waiting) : Type 0 where
  pub is : taken ≡ old state
  pub gone : new state ≡ []
  pub rest : (k : ℕ) → k ≢ state → new k ≡ old k

-- this is filed too, by the least state of its set
pub record IsFiled (old new : ℕ → List Waiting) (one : Waiting) : Type 0 where
  pub is : new one.set.first ≡ old one.set.first ++ one ∷ []
  pub rest : (k : ℕ) → k ≢ one.set.first → new k ≡ old k
