use Rattle.std.proofs.Common.{List, ap, subst, sym, ◌∙◌}
use Rattle.std.proofs.lemmas.Option.{same_Some}
use Rattle.ux_tokens.specs.declared.kind.Kind.TheVariants as kind
use Rattle.ux_tokens.specs.Tokens.{Token}
use Rattle.ux_outputs.specs.Rendering.{kind_of}
use Rattle.ux_locate.specs.Hits.{IsStart}
use Rattle.ux_locate.proofs.walks.may_find.Goals as goal

pub returns-then-not-is_start-clause-nothing : goal.returns-then-not-is_start-clause-nothing
returns-then-not-is_start-clause-nothing g c is starts =
    let yes = c.is_start.ensures.1 starts in
    let no = c.if-not-is_start.true in
    cc

pub returns-clause-starts : goal.returns-clause-starts
returns-clause-starts g c is = c.is_start.ensures.0 c.if-not-is_start.false

pub returns-clause-nothing : goal.returns-clause-nothing
returns-clause-nothing g c none starts =
    let here = subst (λ (tokens : List Token). IsStart tokens c.args.position)
    (sym c.requires.made) starts in
    c.may_end.ensures none
    (λ space. here.no_space (same_Some here.token.kind kind.Space
    (ap kind_of (sym here.at_place) ∙ space)))
