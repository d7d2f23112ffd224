use Rattle.std.proofs.Common.{arith, ◌≡◌, ◌∙◌, ◌↔◌, ℕ, ◌+◌, ◌<◌, List, Bool, true, length, subst, sym, inl, inr}
use Rattle.std.proofs.lemmas.Bool.{false≢true}
use Rattle.std.proofs.lemmas.List.{get_or_past}
use Rattle.std.proofs.lemmas.Option.{slice_get_within}
use Rattle.ux_base.proofs.Lists.{less_or}
use Rattle.ux_digraph.specs.Rules.{is_marked_at}
use Rattle.ux_inflect.specs.Faults.{IsFaultyAt}
use Rattle.ux_inflect.proofs.ListLemmas.{marked_more}
use Rattle.ux_inflect.proofs.PathLemmas.{faulty_at}
use Rattle.ux_inflect.proofs.refusing.marks_of.Goals as goal

pub loop-config-preserved : goal.loop-config-preserved
loop-config-preserved c =
    let configs = c.args.configs.now in
    let i = c.loop-config.config-index in
    let P : ℕ → Type 0 = λ n. IsFaultyAt c.args.fault configs n in
    subst (λ (marks : List Bool). (length marks ≡ i + 1)
    × ((u : ℕ) → u < i + 1 → (is_marked_at marks u ≡ true) ↔ P u))
    (sym c.in_ok-push.ensures.items)
    (marked_more P c.loop-config.marks.items i c.has_fault.result c.loop-config.invariant.0
    c.loop-config.invariant.1
    (faulty_at c.args.fault configs i c.config-item.result c.loop-config-test.true
    c.config-item.is c.has_fault.result c.has_fault.ensures))

pub returns : goal.returns
returns c = λ n. elim (less_or n c.loop-config.config-index) [
  | inl less ↦ c.loop-config.invariant.1 n less
  | inr past ↦ (
    λ is. absurd (false≢true (sym (get_or_past c.loop-config.marks.items n _
        (let l = c.loop-config.invariant.0 in omega (arith, l, past))) ∙ is)),
    λ f. absurd (
        let w = slice_get_within c.args.configs.now n f.config f.found in
        omega (arith, w, past, c.loop-config-test.false)),
  )
]
