use Rattle.std.proofs.Common.{◌∙◌, List, ℕ, length, subst, sym}
use Rattle.std.proofs.lemmas.Bool.{false≢true}
use Rattle.ux_text_chart.specs.Leading.{input_of}
use Rattle.ux_walk.specs.Settings.{masked_setting}
use Rattle.ux_text_chart.specs.Likely.{MayBegin}
use Rattle.ux_text_chart.proofs.LikelyLemmas.{likely_more, likely_same, may_begin}
use Rattle.ux_text_chart.proofs.beginning.add_part.Goals as goal

pub returns-then-may_reach : goal.returns-then-may_reach
returns-then-may_reach c =
    let text = c.args.text.now in
    likely_more (input_of (masked_setting text)) text.net.now c.args.parts.now
    c.args.row.now.items c.push.new.self.items c.args.at c.args.number c.in_ok-push.ensures.items
    c.requires.row

pub returns : goal.returns
returns c =
    let text = c.args.text.now in
    let input = input_of (masked_setting text) in
    let parts = c.args.parts.now in
    likely_same input text.net.now parts c.args.row.now.items c.args.at c.args.number
    (λ (part, found, some). false≢true (sym c.if-may_reach.false ∙ c.may_reach.ensures part found
    (subst (λ (l : List ℕ). MayBegin input text.net.now parts l part c.args.at)
    (sym c.deref.ensures.value)
    (may_begin input (length text.text.now) c.requires.ahead text.net.now parts
    c.requires.parts c.args.number part found c.args.at c.args.row.now.items
    c.requires.row.whole some)))) c.requires.row
