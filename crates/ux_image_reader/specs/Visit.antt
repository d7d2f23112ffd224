-- The depth-first visit of the states, and how it numbers them. Public: the crate's public contracts
-- speak of it.
use Rattle.std.specs.Prelude.{ℕ, zero, suc, ◌-◌, List, [], ◌∷◌, ◌++◌, fold, if◌then◌else◌, length, nat_eq}
use Rattle.std.specs.List.{list_any}
use Rattle.ux_dawg.specs.declared.state.Edge.{Edge}
use Rattle.ux_dawg.specs.declared.state.State.{State}

-- the edges of the state of this number
abbrev pub edges_at : List State → ℕ → List Edge
edges_at [] number = []
edges_at (state ∷ states) zero = state.edges
edges_at (state ∷ states) (suc number) = edges_at states number

-- the states that were left, in this order, once the state of this number is: those that were left
-- before, those to which its edges lead in turn, and itself. Targets are below, so the way down is
-- shorter than `depth`
unfoldable pub left_after : (depth : ℕ) → List State → (left : List ℕ) → ℕ → List ℕ
left_after zero states left number = left
left_after (suc depth) states left number =
    if list_any (nat_eq number) left then left
    else fold (λ so_far (edge : Edge). left_after depth states so_far edge.target) left
    (edges_at states number) ++ number ∷ []

-- the states in the order in which a visit from the root leaves them
abbrev pub visit_of : List State → List ℕ
visit_of states = left_after (length states) states [] (length states - 1)
