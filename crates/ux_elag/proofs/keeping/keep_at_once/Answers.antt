use Rattle.std.proofs.Common.{List, ◌∙◌, subst, sym}
use Rattle.ux_subsets.specs.declared.automaton.Link.{Link}
use Rattle.ux_subsets.specs.Paths.{IsAscending}
use Rattle.ux_monitor.specs.Parts.{IsProductOf, RulePart}
use Rattle.ux_elag.proofs.Chained.{kept-at-once}
use Rattle.ux_elag.proofs.keeping.keep_at_once.Goals as goal

pub keep_satisfying_each-requires-clause-ascending : goal.keep_satisfying_each-requires-clause-ascending
keep_satisfying_each-requires-clause-ascending c =
    subst (λ (ls : List Link). IsAscending c.args.source.now.last ls)
    (sym c.as_slice-2.ensures.value) c.requires.ascending

pub keep_satisfying_each-requires-clause-product : goal.keep_satisfying_each-requires-clause-product
keep_satisfying_each-requires-clause-product c =
    subst (λ (ps : List RulePart). IsProductOf ps c.args.product.now)
    (sym (c.as_slice.ensures.value ∙ c.in_ok-parts.ensures)) c.requires.product

pub returns-clause-product : goal.returns-clause-product
returns-clause-product c =
    subst (λ (ps : List RulePart). IsProductOf ps c.keep_satisfying_each.new.product)
    (c.as_slice.ensures.value ∙ c.in_ok-parts.ensures) c.keep_satisfying_each.ensures.product

pub returns-clause-kept : goal.returns-clause-kept
returns-clause-kept c =
    let source = c.args.source.now in
    kept-at-once c.args.rules.now c.as_slice.result.now source.last source.links.items
    c.as_slice-2.result.now c.keep_satisfying_each.result
    (c.as_slice.ensures.value ∙ c.in_ok-parts.ensures) c.as_slice-2.ensures.value
    c.keep_satisfying_each.ensures.left c.keep_satisfying_each.ensures.nothing
