use Rattle.std.proofs.Common.{◌∙◌, ◌↔◌, List, ℕ, [], ◌∷◌, ◌++◌, get_or, subst, sym}
use Rattle.std.specs.Prelude.{All, Contains, IsTrue}
use Rattle.std.specs.Str.{chars}
use Rattle.std.proofs.lemmas.Bool.{false≢true}
use Rattle.std.proofs.lemmas.Iterator.{YieldsList-from_chars}
use Rattle.std.proofs.lemmas.Iterator.Consumers.{YieldsList-end}
use Rattle.std.proofs.lemmas.List.{map-id}
use Rattle.std.proofs.lemmas.List.Elements.{All-contains, All-push, Contains-append_left, Contains-get_or, Contains-push}
use Rattle.ux_masks.proofs.meeting.has_characters.Goals as goal

pub loop-wanted-preserved-then-not-has_character : goal.loop-wanted-preserved-then-not-has_character
loop-wanted-preserved-then-not-has_character c =
    let P = Contains (chars c.args.code.now) in
    let xs = c.loop-wanted.yielded in
    let x = c.in-Some.wanted in (
      λ t. absurd (false≢true t),
      λ all. absurd (false≢true (sym c.if-not-has_character.true
          ∙ c.has_character.ensures.1
          (All-contains P (xs ++ x ∷ []) x all (Contains-push xs x)))),
    )

pub loop-wanted-preserved : goal.loop-wanted-preserved
loop-wanted-preserved c =
    let P = Contains (chars c.args.code.now) in
    let xs = c.loop-wanted.yielded in
    let x = c.in-Some.wanted in (
      λ t. All-push P xs x (c.loop-wanted.invariant.0 t)
          (c.has_character.ensures.0 c.if-not-has_character.false),
      λ all. c.loop-wanted.invariant.1
          (λ k d lt. All-contains P (xs ++ x ∷ []) (get_or xs k d) all
          (Contains-append_left xs (x ∷ []) (get_or xs k d) (Contains-get_or xs k d lt))),
    )

pub returns : goal.returns
returns c =
    let t = YieldsList-end (YieldsList-from_chars c.args.alternative.now c.utf8.alternative cc)
    c.loop-wanted.yielded _ c.loop-wanted.yielded_by _ _ c.in-None.is c.next.ensures.steps in
    subst (λ (l : List ℕ). IsTrue c.loop-wanted.all ↔ All (Contains (chars c.args.code.now)) l)
    (sym (map-id c.loop-wanted.yielded) ∙ t.0) c.loop-wanted.invariant
