use Rattle.std.proofs.Common.{arith, ◌<◌, inr, refl}
use Rattle.ux_lexical_tables.specs.Ends.{Asks}
use Rattle.ux_lexical_tables.proofs.ends.put_end.Goals as goal
use Rattle.ux_lexical_tables.proofs.ends.put_end.Goals.{then-end-told-via-then-end-told, then-end-told-via-else-end-told+then-not-has_asked}

pub returns-then-end-told : goal.returns-then-end-told
returns-then-end-told c =
    let isnt : c.args.told < c.args.end → Asks c.args.asked c.args.entry.now → ⊥ =
    λ behind asks. elim c.then-end-told.branch [
      | then-end-told-via-then-end-told w ↦ omega (arith, behind, w.if-end-told.true)
      | then-end-told-via-else-end-told+then-not-has_asked w ↦
          let t = w.has_asked.ensures.1 asks in let f = w.if-not-has_asked.true in cc
    ] in
    inr (isnt, refl, refl)
