use Rattle.std.proofs.Common.{inl, inr}
use Rattle.ux_automaton.proofs.AddingLemmas.{pushed}
use Rattle.ux_automaton.proofs.front_index.put_other.Goals as goal

pub returns-in_ok-push : goal.returns-in_ok-push
returns-in_ok-push c = λ other.
    let adds = pushed c.args.others.now.items c.push.new.self.items c.args.stand
    c.in_ok-push.ensures.items other in (
      λ h. elim (adds.0 h) [
        | inl old ↦ inl old
        | inr is ↦ inr (is, c.has_other.ensures.0 c.if-has_other.true)
      ],
      λ h. adds.1 (elim h [ inl old ↦ inl old | inr new ↦ inr new.0 ]),
    )

pub returns-else-has_other : goal.returns-else-has_other
returns-else-has_other c = λ other. (
  λ h. inl h,
  λ h. elim h [
    | inl old ↦ old
    | inr new ↦
        let yes = c.has_other.ensures.1 new.1 in let no = c.if-has_other.false in cc
  ],
)
