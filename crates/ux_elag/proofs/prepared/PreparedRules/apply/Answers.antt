use Rattle.std.proofs.Common.{List, ◌<◌, arith, subst, sym}
use Rattle.std.proofs.lemmas.Result.{IfOk-weaker}
use Rattle.ux_reading_table.specs.Numbered.{IsNumberedBy}
use Rattle.ux_elag.specs.declared.prepared_rule.PreparedRule.{PreparedRule}
use Rattle.ux_elag.specs.Numbers.{IsKept}
use Rattle.ux_elag.specs.Prepared.{LeavesNumbered, Prepared, SatisfiesAll}
use Rattle.ux_elag.proofs.PreparedLemmas.{empty-leaves, formed-of, prepared-leaves}
use Rattle.ux_elag.proofs.prepared.PreparedRules.apply.Goals as goal

pub returns-then-sentence-eq0-clause-left : goal.returns-then-sentence-eq0-clause-left
returns-then-sentence-eq0-clause-left c old is spellable =
    empty-leaves c.args.self.now old c.args.sentence.now c.without_states.result
    c.if-sentence-eq0.true is
    c.without_states.ensures

pub place_states-requires-clause-formed : goal.place_states-requires-clause-formed
place_states-requires-clause-formed c =
    formed-of c.args.self.now.texts c.requires.0 c.args.sentence.now c.requires.1 c.requires.2

pub returns-clause-left : goal.returns-clause-left
returns-clause-left c =
    let texts = c.self.inside.texts.now in
    let rules = c.self.inside.rules.items in
    let not = c.if-sentence-eq0.false in
    let some : 0 < c.args.sentence.now.states = omega arith in
    let source = c.in_ok-source.source in
    let kept = subst (λ (rs : List PreparedRule). IsKept (SatisfiesAll rs) source.last
    source.links.items c.in_ok-kept.kept) c.as_mut_slice.ensures.value c.in_ok-kept.ensures.kept in
    IfOk-weaker c.ordered_sentence.result _ _ (λ new ordered old stands spellable.
    subst (λ (p : Prepared). LeavesNumbered p old new) c.self.view_is
    (prepared-leaves texts rules c.self.invariant.0 c.args.sentence.now new source c.in_ok-kept.kept
    some c.in_ok-source.ensures kept ordered old
    (subst (λ (p : Prepared). IsNumberedBy p.texts old c.args.sentence.now) (sym c.self.view_is)
    stands)
    spellable)) c.ordered_sentence.ensures
