-- A file tells one list of texts.
use Rattle.std.proofs.Common.{arith, ◌≡◌, ℕ, ◌<◌, List, [], ◌∷◌, sym, ◌∙◌, ap, subst, Option, None, Some}
use Rattle.std.proofs.lemmas.List.{ext_get_or}
use Rattle.std.proofs.lemmas.Option.{same_Some}
use Rattle.ux_base.proofs.FirstsLemmas.{AreFirsts-unique}
use Rattle.ux_grf.specs.BoxLine.{BoxText}
use Rattle.ux_grf.specs.Boxes.{box_at, text_at, IsTextOf, AreTexts}
use Rattle.ux_grf.specs.File.{count_at, HasBoxLines, HasTexts}

-- the lines after a first line
abbrev tail_of : List (List ℕ) → List (List ℕ)
tail_of [] = []
tail_of (line ∷ lines) = lines

module _ (text : List ℕ) (count other : ℕ) (lines others : List (List ℕ))
    (has : HasBoxLines text count lines) (tells : HasBoxLines text other others) where
  same_lines : (tells.first ∷ others) ≡ (has.first ∷ lines)
  same_lines = same_Some (tells.first ∷ others) (has.first ∷ lines) (sym tells.header ∙ has.header)

  -- the lines and their number are the only ones
  pub lines_same : others ≡ lines
  lines_same = ap tail_of same_lines

  pub count_same : other ≡ count
  count_same = same_Some other count (sym tells.told ∙ (ap count_at same_lines ∙ has.told))

-- a line tells one text
text_once : (said : Option BoxText) (one other : BoxText) → IsTextOf said one →
    IsTextOf said other → one ≡ other
text_once None one other is also = absurd is
text_once (Some said) one other is also =
    ap (λ (c : List ℕ). record { content = c; targets = one.targets }) (is.0 ∙ sym also.0)
    ∙ ap (λ (t : List ℕ). record { content = other.content; targets = t })
    (AreFirsts-unique said.targets one.targets other.targets is.1 also.1)

pub AreTexts-once : (count : ℕ) (lines : List (List ℕ)) (one other : List BoxText) →
    AreTexts count lines one → AreTexts count lines other → one ≡ other
AreTexts-once count lines one other is also =
    ext_get_or (record { content = []; targets = [] }) one other (is.len ∙ sym also.len)
    (λ node lt.
    let inside : node < count = omega (arith, lt, is.len) in
    text_once (box_at lines node) (text_at one node) (text_at other node) (is.each node inside)
    (also.each node inside))

pub HasTexts-once : (text : List ℕ) (one other : List BoxText) → HasTexts text one →
    HasTexts text other → one ≡ other
HasTexts-once text one other is also =
    AreTexts-once is.count is.lines one other is.told
    (subst (λ (ls : List (List ℕ)). AreTexts is.count ls other)
    (lines_same text is.count also.count is.lines also.lines is.has also.has)
    (subst (λ (n : ℕ). AreTexts n also.lines other)
    (count_same text is.count also.count is.lines also.lines is.has also.has) also.told))
