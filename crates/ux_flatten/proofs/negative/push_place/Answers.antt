use Rattle.std.proofs.Common.{◌≡◌, ◌+◌, ◌++◌, ◌∷◌, ◌∙◌, ℕ, [], ap, get_or}
use Rattle.std.proofs.lemmas.List.{get_or_default}
use Rattle.ux_digraph.specs.declared.closing.Rule.{Rule}
use Rattle.ux_flatten.specs.Negative.{follows, rules_over}
use Rattle.ux_flatten.proofs.GrowthLemmas.{map_all, map_more}
use Rattle.ux_flatten.proofs.negative.push_place.Goals as goal

pub loop-closer-preserved : goal.loop-closer-preserved
loop-closer-preserved c =
    let count = c.args.count in
    let stands = c.args.stands.now in
    let place = c.args.place in
    let closers = c.args.closers.now in
    let n = c.loop-closer.closer-index in
    let rules = c.loop-closer.rules.items in
    let closer = get_or closers n 0 in
    let rule : c.follows.result
    ≡ follows (count + get_or stands place 0) (get_or stands closer 0) =
    c.follows.ensures
    ∙ (ap (λ (m : ℕ). follows (count + m) c.stand_of-in-loop-closer.result) c.stand_of.ensures.stand
    ∙ ap (λ (m : ℕ). follows (count + get_or stands place 0) m)
    c.stand_of-in-loop-closer.ensures.stand) in
    map_more (λ (q : ℕ). follows (count + get_or stands place 0) (get_or stands q 0)) closers n closer
    rules c.push.new.self.items (c.args.rules.now.items ++ rules_over count stands place closers)
    c.loop-closer-test.true (get_or_default closers n 0 closer c.loop-closer-test.true)
    c.loop-closer.invariant (c.in_ok-push.ensures.items ∙ ap (λ (r : Rule). rules ++ r ∷ []) rule)

pub returns : goal.returns
returns c =
    let stands = c.args.stands.now in
    let place = c.args.place in
    map_all (λ (q : ℕ). follows (c.args.count + get_or stands place 0) (get_or stands q 0))
    c.args.closers.now c.loop-closer.closer-index c.loop-closer.rules.items
    (c.args.rules.now.items ++ rules_over c.args.count stands place c.args.closers.now)
    c.loop-closer-test.false c.loop-closer.invariant
