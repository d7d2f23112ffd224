use Rattle.std.proofs.Common.{ℕ, ◌+◌, ◌∙◌, ◌⊎◌, ◌↔◌, List, Vec, Global, subst, sym, get_or}
use Rattle.std.specs.Prelude.{Contains}
use Rattle.std.proofs.lemmas.Bool.{false≢true}
use Rattle.std.proofs.lemmas.List.{get_or_default}
use Rattle.ux_reading_match.specs.Readings.{MatchesNumber}
use Rattle.ux_tfst_locate.specs.declared.lattice.Arc.{Arc}
use Rattle.ux_tfst_locate.proofs.BasisLemmas.{AreEndsTo, IsEnd, ends_all, ends_more, ends_none, ends_past}
use Rattle.ux_tfst_locate.proofs.basis.add_ends.Goals as goal
use Rattle.ux_tfst_locate.proofs.basis.add_ends.Goals.{then-matches+in_ok-push, else-matches}

abbrev none : Arc
none = record { from = 0; to = 0; reading = 0 }

pub loop-arc-init : goal.loop-arc-init
loop-arc-init c =
    ends_none (MatchesNumber c.args.basis.now.alphabet.now c.args.basis.now.readings.now
    c.args.label.now) c.row-row.result.now c.args.positions.now.items

pub loop-arc-preserved : goal.loop-arc-preserved
loop-arc-preserved c =
    let so = MatchesNumber c.args.basis.now.alphabet.now c.args.basis.now.readings.now
    c.args.label.now in
    let row = c.row-row.result.now in
    let old = c.args.positions.now.items in
    let n = c.loop-arc.arc-index in
    let arc = get_or row n none in
    let is = get_or_default row n none arc c.loop-arc-test.true in
    elim c.if-matches.branch [
      | then-matches+in_ok-push w ↦
          subst (λ (p : Vec ℕ Global). AreEndsTo so row old (n + 1) p.items) (sym w.positions-is)
          (ends_more so row old n arc c.loop-arc-test.true is c.loop-arc.positions.items
          c.loop-arc.invariant w.push.new.self.items (c.matches.ensures.0 w.if-matches.true)
          w.in_ok-push.ensures.items)
      | else-matches w ↦
          subst (λ (p : Vec ℕ Global). AreEndsTo so row old (n + 1) p.items) (sym w.positions-is)
          (ends_past so row old n arc c.loop-arc-test.true is c.loop-arc.positions.items
          c.loop-arc.invariant
          (λ m. false≢true (sym w.if-matches.false ∙ c.matches.ensures.1 m)))
    ]

pub returns : goal.returns
returns c =
    let so = MatchesNumber c.args.basis.now.alphabet.now c.args.basis.now.readings.now
    c.args.label.now in
    let old = c.args.positions.now.items in
    subst (λ (row : List Arc). (k : ℕ) → Contains c.loop-arc.positions.items k
    ↔ (Contains old k ⊎ IsEnd so c.row-row.result.now old row k)) c.row-row.ensures
    (ends_all so c.row-row.result.now old c.loop-arc.arc-index c.loop-arc.positions.items
    c.loop-arc-test.false c.loop-arc.invariant)
