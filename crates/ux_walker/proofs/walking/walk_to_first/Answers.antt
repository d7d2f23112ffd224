use Rattle.std.proofs.Common.{arith, ◌≤◌, ◌∙◌, ℕ, List, ap, length, subst, sym}
use Rattle.std.proofs.lemmas.Bool.Decides.{Decides-eqb}
use Rattle.std.proofs.lemmas.List.{nil_from_length}
use Rattle.std.proofs.lemmas.List.Elements.{Contains-push}
use Rattle.ux_tokens.specs.Tokens.{Token}
use Rattle.ux_walk.specs.Settings.{Setting}
use Rattle.ux_walker.specs.declared.agenda.Visit.{Visit}
use Rattle.ux_walker.specs.Walking.{IsUnderWay}
use Rattle.ux_walker.proofs.EndsLaws.{noted_few}
use Rattle.ux_walker.proofs.UnderWay.{least_ready, left_falls}
use Rattle.ux_walker.proofs.walking.walk_to_first.Goals as goal

pub go_on-requires-clause-least : goal.go_on-requires-clause-least
go_on-requires-clause-least c =
    least_ready c.loop-visit.automaton c.args.start c.loop-visit.agenda c.take_least.new.self
    c.in-Some.visit c.loop-visit.ends.items c.in-Some.ensures.taken c.in-Some.ensures.least
    c.loop-visit.invariant.way

pub loop-visit-smaller : goal.loop-visit-smaller
loop-visit-smaller c =
    let tokens = ap (λ (s : Setting). s.tokens) c.loop-visit.invariant.same ∙ c.requires.text in
    let there = subst (λ (l : List Visit). IsUnderWay c.loop-visit.automaton c.args.start l
    c.loop-visit.ends.items) c.in-Some.ensures.taken c.loop-visit.invariant.way in
    left_falls c.args.text.now c.loop-visit.agenda c.go_on.new.agenda c.take_least.new.self
    c.in-Some.visit c.in-Some.ensures.taken
    (subst (λ (l : List Token). c.in-Some.visit.at ≤ length l) tokens
    (there.ready c.in-Some.visit (Contains-push c.take_least.new.self c.in-Some.visit)).within)
    (λ other inside. (c.in_ok-go_on.ensures.further other inside).after)

pub returns-then-not-is_empty-clause-walked : goal.returns-then-not-is_empty-clause-walked
returns-then-not-is_empty-clause-walked c = record {
  visits = c.go_on.new.agenda;
  way = c.in_ok-go_on.ensures.under_way;
  one = noted_few c.loop-visit.ends.items c.go_on.new.ends.items c.in-Some.visit.at
      c.loop-visit.invariant.none c.in_ok-go_on.ensures.noted;
  all = λ none.
      let ends = c.go_on.new.ends in
      let some = c.if-not-is_empty.ensures in
      let is = (Decides-eqb ends.len 0).1 (ends.ok.0 ∙ ap (λ (l : List ℕ). length l) none) in
      cc;
}

pub loop-visit-preserved : goal.loop-visit-preserved
loop-visit-preserved c = record {
  same = c.in_ok-go_on.ensures.same ∙ c.loop-visit.invariant.same;
  way = c.in_ok-go_on.ensures.under_way;
  none =
      let ends = c.go_on.new.ends in
      nil_from_length ends.items
      (sym ends.ok.0 ∙ (Decides-eqb ends.len 0).0 (sym c.if-not-is_empty.ensures));
}

pub returns-clause-walked : goal.returns-clause-walked
returns-clause-walked c = record {
  visits = c.loop-visit.agenda;
  way = c.loop-visit.invariant.way;
  one = let e = ap (λ (l : List ℕ). length l) c.loop-visit.invariant.none in omega (arith, e);
  all = λ none. c.in_default.ensures.taken;
}
