use Rattle.std.proofs.Common.{arith, inl, inr, refl, subst}
use Rattle.std.proofs.lemmas.Bool.{not-true}
use Rattle.ux_lexical_tables.specs.Accepting.{IsAlone}
use Rattle.ux_automaton.specs.Fronts.{HoldsIn}
use Rattle.ux_automaton.specs.Kept.{store_of}
use Rattle.ux_walk.specs.Settings.{masked_setting}
use Rattle.ux_automaton.proofs.CacheLemmas.{right_kept}
use Rattle.ux_automaton.proofs.Results.{on_ok}
use Rattle.ux_automaton.proofs.FrontIndexLemmas.{indexes_kept}
use Rattle.ux_automaton.proofs.StepLemmas.{bare_onward, end_onward}
use Rattle.ux_automaton.proofs.kept.Kept.onward.Goals as goal

pub returns-then-len-place-clause-onward : goal.returns-then-len-place-clause-onward
returns-then-len-place-clause-onward c = end_onward (masked_setting c.args.masked.now)
    c.requires.table.belongs (store_of c.args.self.now.fronts)
    (HoldsIn (store_of c.args.self.now.fronts) c.args.closed.front) c.args.at _
    (omega (arith, c.if-len-place.true, c.len.ensures.len, c.skip-place.ensures)) refl
    c.new-then-len-place.ensures.items

pub returns-then-may_land-clause-right : goal.returns-then-may_land-clause-right
returns-then-may_land-clause-right c = on_ok c.onward_anew.result _ _ (λ grows.
    right_kept (masked_setting c.args.masked.now) c.args.self.now _ c.requires.right grows refl refl refl
    refl) c.onward_anew.ensures.grows

pub onward_singly-requires-clause-singly : goal.onward_singly-requires-clause-singly
onward_singly-requires-clause-singly c = elim (c.may_land.ensures c.if-may_land.false) [
  | inl none ↦ inr (c.requires.masks none)
  | inr off ↦ inl (subst (λ n. IsAlone c.args.masked.now.text.now c.args.masked.now.applied.now n)
      c.skip-place.ensures (c.requires.marked c.skip-place.result off))
]

pub returns-then-not-closed-clause-onward : goal.returns-then-not-closed-clause-onward
returns-then-not-closed-clause-onward c = bare_onward (masked_setting c.args.masked.now)
    c.requires.table.belongs (store_of c.args.self.now.fronts)
    (HoldsIn (store_of c.args.self.now.fronts) c.args.closed.front) c.args.at _
    (c.requires.tokens (not-true c.args.closed.takes_tokens c.if-not-closed.true)) refl c.new.ensures.items

pub returns-then-may_land-clause-fronts : goal.returns-then-may_land-clause-fronts
returns-then-may_land-clause-fronts c = on_ok c.onward_anew.result _ _ (λ grows.
    indexes_kept c.args.masked.now (store_of c.args.self.now.fronts)
    (store_of c.onward_anew.new.fronts) c.args.front_indexes.now c.requires.right.sound grows
    c.requires.fronts) c.onward_anew.ensures.grows
