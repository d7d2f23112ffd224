-- Worked examples of the forms of a lemma by those of its ending.
use Rattle.std.proofs.Common.{◌≡◌, [], None, Some, codes, map, refl}
use Rattle.ux_inflect.specs.Strokes.{Cursor, all_stroked, stroke_of}
use Rattle.ux_paradigm.proofs.StrokeLemmas.{longer}

-- `LCRable` doubles the last letter of `t`: `ttable`
at_end : Cursor
at_end = record { left = codes "t"; right = [] }

form : Cursor
form = record { left = codes "elbatt"; right = [] }

ending_doubled : all_stroked (map stroke_of (codes "LCRable")) (Some at_end) ≡ Some form
unfolding at_end form
ending_doubled = refl

-- and of `regret`, which has `regre` before it
lemma_doubled : all_stroked (map stroke_of (codes "LCRable")) (Some (longer (codes "erger") at_end))
    ≡ Some (longer (codes "erger") form)
unfolding at_end form
lemma_doubled = refl

-- `DD` takes more letters than `t` has, so its class says nothing of this ending
too_short : all_stroked (map stroke_of (codes "DD")) (Some at_end) ≡ None
unfolding at_end
too_short = refl
