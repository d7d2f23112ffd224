use Rattle.std.proofs.Common.{◌≡◌, ◌∙◌, [], ap, List, ℕ, subst, sym, get_or}
use Rattle.std.specs.Prelude.{Contains}
use Rattle.std.proofs.lemmas.List.{get_or_default}
use Rattle.ux_digraph.specs.Paths.{row_of}
use Rattle.ux_admission.specs.declared.leading.Marks.{Marks}
use Rattle.ux_admission.specs.Leading.{no_marks}
use Rattle.ux_admission.proofs.EndMarksLemmas.{item_of}
use Rattle.ux_admission.proofs.context_close.is_forked.Goals as goal

pub returns : goal.returns
returns c =
    let leading = c.args.leading.now in
    let n = c.args.n in
    let row : c.as_slice.result.now ≡ row_of leading.sources.items n =
    c.as_slice.ensures ∙ (c.index.ensures ∙ get_or_default leading.sources.items n
    c.index.result.now [] c.requires.place) in
    let mark : c.index-2.result.now ≡ get_or leading.marks.items n no_marks =
    c.index-2.ensures ∙ get_or_default leading.marks.items n c.index-2.result.now no_marks
    c.requires.mark in
    let source = item_of c.as_slice.result.now (sym c.is_empty.ensures ∙ c.if-is_empty.false) in
    let there = subst (λ (r : List ℕ). Contains r source.0) row source.1 in
    let noted = ap (λ (m : Marks). m.negative) (sym mark) ∙ c.if-not-index.false in (
      λ t.
          let two = c.has_two.ensures.0 t in (
            (source.0, (there, noted)),
            (
              two.0,
              two.1,
              two.2,
              (c.requires.closers two.0).0 two.3,
              (c.requires.closers two.1).0 two.4,
            ),
          ),
      λ x. c.has_two.ensures.1 (
        x.1.0,
        x.1.1,
        x.1.2,
        (c.requires.closers x.1.0).1 x.1.3,
        (c.requires.closers x.1.1).1 x.1.4,
      ),
    )
