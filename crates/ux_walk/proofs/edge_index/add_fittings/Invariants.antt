use Rattle.std.proofs.Common.{◌≡◌, ℕ, take}
use Rattle.ux_walk.specs.declared.edge_index.Fitting.{Fitting}
use Rattle.ux_walk.specs.EdgeIndexes.{fits_at}
use Rattle.ux_walk.specs.Noting.{Includes}
use Rattle.ux_walk.proofs.Collecting.{Among}
use Rattle.ux_walk.proofs.edge_index.add_fittings.Given as goal

-- the edge was added with the tokens so far
abbrev pub invariant-loop-number : goal.invariant-loop-number
invariant-loop-number l = Includes (Among (λ (number : ℕ) (fitting : Fitting).
    fitting ≡ fits_at number l.place) (take l.number-index l.number-items)) l.fn.fittings.items
    l.fittings.items
