use Rattle.std.proofs.Common.{arith, ℕ, ◌+◌, ◌<◌, ◌∙◌, ◌↔◌, List, Bool, Vec, Global, inl, inr, subst, sym, length, false}
use Rattle.std.specs.Prelude.{Contains, IsTrue}
use Rattle.std.proofs.lemmas.Bool.{false≢true}
use Rattle.std.proofs.lemmas.List.{get_or_past}
use Rattle.ux_base.proofs.Lists.{less_or}
use Rattle.ux_meaning.specs.Meaning.{Der}
use Rattle.ux_net.specs.Nets.{net_grammar}
use Rattle.ux_outputs.specs.declared.event.Event.{Event}
use Rattle.ux_tfst_locate.specs.Bases.{input_of}
use Rattle.ux_tfst_locate.specs.Reaching.{is_marked}
use Rattle.ux_tfst_locate.specs.declared.listing.Stretch.{Stretch}
use Rattle.ux_tfst_locate.proofs.ListingLemmas.{AreFoundTo, found_all, found_more, found_none, found_past}
use Rattle.ux_tfst_locate.proofs.listing.stretches.Goals as goal
use Rattle.ux_tfst_locate.proofs.listing.stretches.Goals.{then-paths-from+in_ok-push_ends, else-paths-from}

-- what is marked has a mark
inside : (marks : List Bool) (i : ℕ) → IsTrue (is_marked marks i) → i < length marks
inside marks i t = elim (less_or i (length marks)) [
  | inl less ↦ less
  | inr past ↦ absurd (false≢true (sym (get_or_past marks i false past) ∙ t))
]

pub loop-from-init : goal.loop-from-init
loop-from-init c =
    let ends : ℕ → ℕ → Type 0 = λ from to. (events : List Event)
    × Der (input_of c.args.basis.now) (net_grammar c.args.net.now) 1 from to events in
    subst (λ (l : List Stretch). AreFoundTo c.args.paths.now.reached.now c.args.paths.now.leading.now
    ends 0 l) (sym c.new-found.ensures.items)
    (found_none c.args.paths.now.reached.now c.args.paths.now.leading.now ends)

pub loop-from-preserved : goal.loop-from-preserved
loop-from-preserved c =
    let reached = c.args.paths.now.reached.now in
    let leading = c.args.paths.now.leading.now in
    let ends : ℕ → ℕ → Type 0 = λ from to. (events : List Event)
    × Der (input_of c.args.basis.now) (net_grammar c.args.net.now) 1 from to events in
    let from = c.loop-from.from in
    elim c.if-paths-from.branch [
      | then-paths-from+in_ok-push_ends w ↦
          subst (λ (f : Vec Stretch Global). AreFoundTo reached leading ends (from + 1) f.items)
          (sym w.found-is)
          (found_more reached leading ends from c.loop-from.found.items w.push_ends.new.found.items
          w.ends-ends.result.now w.if-paths-from.true
          (subst (λ m. (j : ℕ) → Contains w.ends-ends.result.now j ↔ ((events : List Event)
          × Der (input_of c.args.basis.now) (net_grammar c.args.net.now) m from j events))
          c.main_of-main.ensures.is w.ends-ends.ensures.exact)
          w.in_ok-push_ends.ensures.ascend w.in_ok-push_ends.ensures.more c.loop-from.invariant)
      | else-paths-from w ↦
          subst (λ (f : Vec Stretch Global). AreFoundTo reached leading ends (from + 1) f.items)
          (sym w.found-is)
          (found_past reached leading ends from c.loop-from.found.items
          (λ t. false≢true (sym w.if-paths-from.false ∙ t)) c.loop-from.invariant)
    ]

pub returns : goal.returns
returns c =
    let ends : ℕ → ℕ → Type 0 = λ from to. (events : List Event)
    × Der (input_of c.args.basis.now) (net_grammar c.args.net.now) 1 from to events in
    found_all c.args.paths.now.reached.now c.args.paths.now.leading.now ends c.loop-from.from
    c.loop-from.found.items
    (λ i t. let low = inside c.args.paths.now.reached.now i t in
    omega (arith, low, c.loop-from-test.false)) c.loop-from.invariant
