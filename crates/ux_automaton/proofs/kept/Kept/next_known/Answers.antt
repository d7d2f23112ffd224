use Rattle.std.proofs.Common.{arith, inl, inr, subst}
use Rattle.std.proofs.lemmas.Bool.{not-true}
use Rattle.ux_lexical_tables.specs.Accepting.{IsAlone}
use Rattle.ux_automaton.specs.Fronts.{HoldsIn}
use Rattle.ux_automaton.specs.Kept.{store_of}
use Rattle.ux_walk.specs.Settings.{masked_setting}
use Rattle.ux_automaton.proofs.NowhereLemmas.{bare_only, end_only}
use Rattle.ux_automaton.proofs.kept.Kept.next_known.Goals as goal

pub returns-then-len-place : goal.returns-then-len-place
returns-then-len-place c = end_only (masked_setting c.args.masked.now) c.requires.table.belongs
    (store_of c.args.self.now.fronts) (HoldsIn (store_of c.args.self.now.fronts) c.args.closed.front)
    c.args.at 0 (omega (arith, c.if-len-place.true, c.len.ensures.len, c.skip-place.ensures))

pub next_singly-requires-clause-singly : goal.next_singly-requires-clause-singly
next_singly-requires-clause-singly c = elim (c.may_land.ensures c.if-may_land.false) [
  | inl none ↦ inr (c.requires.masks none)
  | inr off ↦ inl (subst (λ n. IsAlone c.args.masked.now.text.now c.args.masked.now.applied.now n)
      c.skip-place.ensures (c.requires.marked c.skip-place.result off))
]

pub returns-then-not-closed : goal.returns-then-not-closed
returns-then-not-closed c = bare_only (masked_setting c.args.masked.now)
    (store_of c.args.self.now.fronts) (HoldsIn (store_of c.args.self.now.fronts) c.args.closed.front)
    c.args.at 0 (c.requires.tokens (not-true c.args.closed.takes_tokens c.if-not-closed.true))
