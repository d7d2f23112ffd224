use Rattle.std.proofs.Common.{◌≡◌, ◌++◌, ◌*◌, ◌∙◌, List, ap, length, subst₂, sym}
use Rattle.ux_digraph.specs.declared.closing.Rule.{Rule}
use Rattle.ux_digraph.specs.Rules.{AreRulesInside}
use Rattle.ux_flatten.specs.Negative.{opened_in, rules_from, rules_in, rules_of_places}
use Rattle.ux_flatten.proofs.NegativeLaw.{all_inside}
use Rattle.ux_flatten.proofs.negative.negative_in.Goals as goal

pub closure-requires : goal.closure-requires
closure-requires c =
    let states = c.args.states.now in
    let stands = c.args.stands.now in
    let rows = c.args.closers.now in
    let before = c.args.before in
    let rules : c.deref.result.now ≡ rules_in states stands rows before =
    c.deref.ensures.value
    ∙ (c.in_ok-push_over.ensures
    ∙ ap (λ (l : List Rule). l ++ rules_of_places (length states) stands rows before)
    (c.in_ok-push_rules.ensures
    ∙ ap (λ (l : List Rule). l ++ rules_from (length states) 0 states) c.new-rules.ensures.items)) in
    let facts : c.deref-2.result.now ≡ opened_in states =
    c.deref-2.ensures.value ∙ c.in_ok-opened.ensures in
    record {
      inside = subst₂ (AreRulesInside (2 * length states)) (sym rules) (sym facts)
          (all_inside states stands rows before
          (λ e. c.requires.inside e.a e.state e.edge e.found e.inside) c.requires.stand);
    }
