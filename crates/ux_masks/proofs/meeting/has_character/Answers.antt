use Rattle.std.proofs.Common.{◌∙◌, ◌↔◌, List, ℕ, [], ◌∷◌, ◌++◌, inl, inr, refl, subst, sym}
use Rattle.std.specs.Prelude.{Contains, IsTrue}
use Rattle.std.proofs.lemmas.Iterator.{YieldsList-from_chars}
use Rattle.std.proofs.lemmas.Iterator.Consumers.{YieldsList-end}
use Rattle.std.proofs.lemmas.List.{map-id}
use Rattle.std.proofs.lemmas.List.Elements.{Contains-append_left, Contains-push, Contains-push_cases}
use Rattle.ux_masks.proofs.meeting.has_character.Goals as goal

pub loop-character-preserved-then-character-wanted : goal.loop-character-preserved-then-character-wanted
loop-character-preserved-then-character-wanted c =
    let xs = c.loop-character.yielded in
    let x = c.in-Some.character in (
      λ t. subst (λ (y : ℕ). Contains (xs ++ x ∷ []) y) c.if-character-wanted.true
          (Contains-push xs x),
      λ h. refl,
    )

pub loop-character-preserved : goal.loop-character-preserved
loop-character-preserved c =
    let xs = c.loop-character.yielded in
    let x = c.in-Some.character in (
      λ t. Contains-append_left xs (x ∷ []) c.args.wanted (c.loop-character.invariant.0 t),
      λ h. elim (Contains-push_cases xs x c.args.wanted h) [
        | inl before ↦ c.loop-character.invariant.1 before
        | inr here ↦ absurd (c.if-character-wanted.false here)
      ],
    )

pub returns : goal.returns
returns c =
    let t = YieldsList-end (YieldsList-from_chars c.args.code.now c.utf8.code cc)
    c.loop-character.yielded _ c.loop-character.yielded_by _ _ c.in-None.is c.next.ensures.steps in
    subst (λ (l : List ℕ). IsTrue c.loop-character.found ↔ Contains l c.args.wanted)
    (sym (map-id c.loop-character.yielded) ∙ t.0) c.loop-character.invariant
