use Rattle.std.proofs.Common.{◌≡◌, sym, ◌∙◌, true, false}
use Rattle.ux_digraph.proofs.checking.are_rules_inside.Goals as goal

pub returns-then-are_rules_below : goal.returns-then-are_rules_below
returns-then-are_rules_below c = (
  λ e. record {
    rule = c.are_rules_below.ensures.0 c.if-are_rules_below.true;
    start = c.are_below.ensures.0 e;
  },
  λ inside. c.are_below.ensures.1 inside.start,
)

pub returns-else-are_rules_below : goal.returns-else-are_rules_below
returns-else-are_rules_below c = (
  λ e. let no_way : false ≡ true = sym c.if-are_rules_below.false ∙ e in cc,
  λ inside. c.are_rules_below.ensures.1 inside.rule,
)
