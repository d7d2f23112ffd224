use Rattle.std.proofs.Common.{◌∙◌, List, ℕ, length, subst, sym}
use Rattle.std.proofs.lemmas.Bool.{false≢true}
use Rattle.ux_tfst_locate.specs.Bases.{input_of}
use Rattle.ux_text_chart.specs.Likely.{MayBegin}
use Rattle.ux_text_chart.proofs.LikelyLemmas.{likely_more, likely_same, may_begin}
use Rattle.ux_tfst_locate.proofs.beginning.add_part.Goals as goal

pub returns-then-may_begin : goal.returns-then-may_begin
returns-then-may_begin c =
    let basis = c.args.basis.now in
    likely_more (input_of basis) c.args.net.now c.args.parts.now
    c.args.row.now.items c.push.new.self.items c.args.at c.args.number c.in_ok-push.ensures.items
    c.requires.row

pub returns : goal.returns
returns c =
    let basis = c.args.basis.now in
    let input = input_of basis in
    let parts = c.args.parts.now in
    likely_same input c.args.net.now parts c.args.row.now.items c.args.at c.args.number
    (λ (part, found, some). false≢true (sym c.if-may_begin.false ∙ c.may_begin.ensures.1 (
      part,
      found,
      subst (λ (l : List ℕ). MayBegin input c.args.net.now parts l part c.args.at)
          (sym c.deref.ensures.value)
          (may_begin input (length basis.lattice.now.places.items) c.requires.ahead c.args.net.now parts
          c.requires.parts c.args.number part found c.args.at c.args.row.now.items
          c.requires.row.whole some),
    ))) c.requires.row
