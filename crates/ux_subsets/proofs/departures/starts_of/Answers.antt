use Rattle.std.proofs.Common.{arith, ℕ, [], ◌∷◌, ◌++◌, ap, ◌∙◌}
use Rattle.ux_subsets.proofs.DeparturesLemmas.{starts_more}
use Rattle.ux_subsets.proofs.departures.starts_of.Goals as goal

pub loop-state-preserved : goal.loop-state-preserved
loop-state-preserved c = λ up.
    let i = c.loop-state.invariant up in
    let s = c.start_from-place.ensures up i.within i.before in record {
      starts = starts_more c.args.sorted.now c.loop-state.state c.start_from-place.result c.loop-state.starts.items c.push.new.self.items
          (c.in_ok-push.ensures.items ∙ ap (λ (p : ℕ). c.loop-state.starts.items ++ p ∷ []) c.in_ok-narrowed.ensures) s i.starts;
      within = s.within;
      before = λ k d lt. let b = s.before k d lt in omega (arith, b);
    }
