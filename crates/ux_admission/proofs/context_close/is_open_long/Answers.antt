use Rattle.std.proofs.Common.{◌≡◌, ◌∙◌, [], List, ℕ, subst, sym, refl, inl, inr, get_or, true}
use Rattle.std.specs.Prelude.{Contains}
use Rattle.std.proofs.lemmas.List.{get_or_default}
use Rattle.ux_digraph.specs.Paths.{row_of}
use Rattle.ux_admission.specs.declared.leading.Marks.{Marks}
use Rattle.ux_admission.specs.Leading.{no_marks, is_noted}
use Rattle.ux_net.specs.Words.{Sign, opens}
use Rattle.ux_admission.proofs.EndMarksLemmas.{item_of, none_of}
use Rattle.ux_admission.proofs.context_close.is_open_long.Goals as goal

pub returns-then-is_empty-2 : goal.returns-then-is_empty-2
returns-then-is_empty-2 c =
    let leading = c.args.leading.now in
    let n = c.args.n in
    let row : c.as_slice.result.now ≡ row_of leading.sources.items n =
    c.as_slice.ensures ∙ (c.index.ensures ∙ get_or_default leading.sources.items n
    c.index.result.now [] c.requires.place) in
    let mark : c.index-2.result.now ≡ get_or leading.marks.items n no_marks =
    c.index-2.ensures ∙ get_or_default leading.marks.items n c.index-2.result.now no_marks
    c.requires.mark in
    let noted = subst (λ (m : Marks). (sign : Sign) × (is_noted (opens sign) m ≡ true)) mark
    (c.is_opening.ensures.0 c.if-not-is_opening.false) in
    let source = item_of c.as_slice.result.now (sym c.is_empty.ensures ∙ c.if-is_empty.false) in
    let there = subst (λ (r : List ℕ). Contains r source.0) row source.1 in (
      λ t. (
        (source.0, (noted.0, (there, noted.1))),
        inl (λ k h. none_of c.args.closers.now
            (sym c.is_empty-2.ensures ∙ c.if-is_empty-2.true) k ((c.requires.closers k).1 h)),
      ),
      λ x. refl,
    )

pub returns : goal.returns
returns c =
    let leading = c.args.leading.now in
    let n = c.args.n in
    let row : c.as_slice.result.now ≡ row_of leading.sources.items n =
    c.as_slice.ensures ∙ (c.index.ensures ∙ get_or_default leading.sources.items n
    c.index.result.now [] c.requires.place) in
    let mark : c.index-2.result.now ≡ get_or leading.marks.items n no_marks =
    c.index-2.ensures ∙ get_or_default leading.marks.items n c.index-2.result.now no_marks
    c.requires.mark in
    let noted = subst (λ (m : Marks). (sign : Sign) × (is_noted (opens sign) m ≡ true)) mark
    (c.is_opening.ensures.0 c.if-not-is_opening.false) in
    let source = item_of c.as_slice.result.now (sym c.is_empty.ensures ∙ c.if-is_empty.false) in
    let there = subst (λ (r : List ℕ). Contains r source.0) row source.1 in
    let closer = item_of c.args.closers.now (sym c.is_empty-2.ensures ∙ c.if-is_empty-2.false) in (
      λ t. ((source.0, (noted.0, (there, noted.1))), inr (c.requires.end.0 t)),
      λ x. elim x.1 [
        | inl never ↦ absurd (never closer.0 ((c.requires.closers closer.0).0 closer.1))
        | inr e ↦ c.requires.end.1 e
      ],
    )
