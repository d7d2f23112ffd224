-- Runs, joined and of one step.
use Rattle.std.proofs.Common.{◌≡◌, ℕ, List, [], ◌∷◌, ◌++◌, subst, sym, append_assoc, append-nil}
use Rattle.ux_net.specs.Words.{Sign, Step, StepGraph, Letter, context, ordinary, opens, mark_of, Run, stop, along, across, letters, put_by, IsBody}

module _ (g : ℕ) (graph : StepGraph) where
  -- a run, and one from where it ends, are a run
  pub run_joined : {a b c : ℕ} {u v : List Letter} → Run g graph a b u → Run g graph b c v →
      Run g graph a c (u ++ v)
  run_joined stop q = q
  run_joined {c = c} {v = v} (along {word = word} s i m r) q =
      subst (λ w. Run g graph s.from c w)
      (sym (append_assoc (put_by s ++ letters s.labels) word v)) (along s i m (run_joined r q))
  run_joined {c = c} {v = v} (across {word = word} sign s t i m body j n r) q =
      subst (λ w. Run g graph s.from c w)
      (sym (append_assoc (put_by s) (context sign g s.to t.to ∷ word) v))
      (across sign s t i m body j n (run_joined r q))

  -- an ordinary step is a run
  pub one_step : (s : Step) → graph.IsStep s → mark_of s.labels ≡ ordinary →
      Run g graph s.from s.to (put_by s ++ letters s.labels)
  one_step s i m = subst (λ w. Run g graph s.from s.to w)
      (append-nil (put_by s ++ letters s.labels)) (along s i m stop)

  -- a run across a context
  pub over_step : {closing : ℕ} {body : List Letter} (sign : Sign) (s : Step) → graph.IsStep s →
      mark_of s.labels ≡ opens sign → IsBody g graph s.to closing body →
      Run g graph s.from closing (put_by s ++ context sign g s.to closing ∷ [])
  over_step sign s i m b =
      subst (λ c. Run g graph s.from c (put_by s ++ context sign g s.to c ∷ [])) b.after
      (across sign s b.step i m b.run b.inside b.closed stop)
