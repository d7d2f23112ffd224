use Rattle.std.proofs.Common.{◌∙◌, ◌↔◌, List, ℕ, [], ◌∷◌, ◌++◌, get_or, subst, sym}
use Rattle.std.specs.Prelude.{All, IsTrue}
use Rattle.std.proofs.lemmas.Bool.{false≢true}
use Rattle.std.proofs.lemmas.Iterator.{YieldsList-from_chars}
use Rattle.std.proofs.lemmas.Iterator.Consumers.{YieldsList-end}
use Rattle.std.proofs.lemmas.List.{map-id}
use Rattle.std.proofs.lemmas.List.Elements.{All-contains, All-push, Contains-append_left, Contains-get_or, Contains-push}
use Rattle.ux_alphabet.specs.Letters.{IsUpper}
use Rattle.ux_reading_match.proofs.spelling.is_upper.Goals as goal

pub loop-c-preserved-then-not-is_upper : goal.loop-c-preserved-then-not-is_upper
loop-c-preserved-then-not-is_upper c =
    let P = IsUpper c.args.alphabet.now in
    let xs = c.loop-c.yielded in
    let x = c.in-Some.c in (
      λ t. absurd (false≢true t),
      λ all. absurd (false≢true (sym c.if-not-is_upper.true
          ∙ c.is_upper.ensures.1 (All-contains P (xs ++ x ∷ []) x all (Contains-push xs x)))),
    )

pub loop-c-preserved : goal.loop-c-preserved
loop-c-preserved c =
    let P = IsUpper c.args.alphabet.now in
    let xs = c.loop-c.yielded in
    let x = c.in-Some.c in (
      λ t. All-push P xs x (c.loop-c.invariant.0 t)
          (c.is_upper.ensures.0 c.if-not-is_upper.false),
      λ all. c.loop-c.invariant.1
          (λ k d lt. All-contains P (xs ++ x ∷ []) (get_or xs k d) all
          (Contains-append_left xs (x ∷ []) (get_or xs k d) (Contains-get_or xs k d lt))),
    )

pub returns : goal.returns
returns c =
    let t = YieldsList-end (YieldsList-from_chars c.args.text.now c.utf8.text cc)
    c.loop-c.yielded _ c.loop-c.yielded_by _ _ c.in-None.is c.next.ensures.steps in
    subst (λ (l : List ℕ). IsTrue c.loop-c.all ↔ All (IsUpper c.args.alphabet.now) l)
    (sym (map-id c.loop-c.yielded) ∙ t.0) c.loop-c.invariant
