-- Where some text says a label and an output, the tag that is printed for them does.
use Rattle.std.proofs.Common.{ℕ, List, [], ◌∷◌, ◌++◌, refl, sym, subst, inl, inr}
use Rattle.std.specs.Prelude.{codes}
use Rattle.ux_grf.specs.declared.graph.GraphKind.TheVariants.{Plain}
use Rattle.ux_grf.specs.declared.item.Item.{Item}
use Rattle.ux_grf.specs.declared.item.Item.TheVariants as item
use Rattle.ux_grf.specs.declared.item.Piece.{Piece}
use Rattle.ux_grf.specs.Content.{IsContent}
use Rattle.ux_grf.specs.Lines.{IsLine, last_line, line_with_output}
use Rattle.ux_grf.specs.Output.{IsOutput}
use Rattle.ux_masks.specs.declared.mask.Mask as masks
use Rattle.ux_masks.specs.Texts.{IsMaskText}
use Rattle.ux_net.specs.declared.label.Label.{Label}
use Rattle.ux_net.specs.declared.label.Label.TheVariants.{Empty, CaseFolded, CaseExact, Mask, Brace, Space, NoSpace, Begin, End, Positive, Negative, ContextEnd, Cut}
use Rattle.ux_fst2.specs.Masks.{mask_text}
use Rattle.ux_fst2.specs.Spelling.{IsSaid}
use Rattle.ux_fst2.specs.Tags.{IsExactOf, IsItemOf, IsTag, IsTagContent, item_text, output_text, tag_text, token_text}
use Rattle.ux_fst2.proofs.BraceLines.{brace_line}
use Rattle.ux_fst2.proofs.DollarLines.{begin_line, context_end_line, cut_line, end_line, negative_line, positive_line}
use Rattle.ux_fst2.proofs.ItemLines.{IsTail, an_output, empty_line, literal_line, mask_line, no_space_line, nothing, space_line}
use Rattle.ux_fst2.proofs.ReadItems.{IsRead, lines_read}
use Rattle.ux_fst2.proofs.MaskLaws.{mask_back}
use Rattle.ux_fst2.proofs.OutputLaws.{IsGoodOutput, no_output, output_back, pieces_text}

-- an output stands behind its item
output_tail : (output : List Piece) → IsTail (output_text output)
output_tail [] = nothing
output_tail (piece ∷ pieces) = an_output (pieces_text (piece ∷ pieces))

module _ (text : List ℕ) (it : Item) (output : List Piece)
    (line : (after : List ℕ) → IsTail after → IsLine Plain (text ++ after) (it ∷ []) after) where
  -- the content of a line of one item, and of an output that is put by some text
  content_of : (written : List ℕ) → IsOutput written output →
      IsContent Plain (text ++ output_text output) (record { lines = (it ∷ []) ∷ []; output = output })
  content_of written puts = by output (output_back written output puts)
    where
      by : (pieces : List Piece) → IsGoodOutput (pieces_text pieces) pieces →
          IsContent Plain (text ++ output_text pieces)
          (record { lines = (it ∷ []) ∷ []; output = pieces })
      by [] good = record {
        written = [];
        lines = last_line (line [] nothing);
        closed = no_output.closed;
        output = no_output.puts;
      }
      by (piece ∷ pieces) good = record {
        written = pieces_text (piece ∷ pieces);
        lines = line_with_output (line (output_text (piece ∷ pieces)) (output_tail (piece ∷ pieces)));
        closed = good.closed;
        output = good.puts;
      }

  -- so it is that of a tag, where the item is the label
  tag_content : (Is : Item → Label → Type 0) (label : Label) (written : List ℕ) →
      IsOutput written output → Is it label → IsTagContent Is (text ++ output_text output) label output
  tag_content Is label written puts is =
      record { item = it; content_is = content_of written puts; label_is = is }

-- the texts of a tag that says this label
module _ (output : List Piece) where
  abbrev Spells : Label → Type 0
  Spells label = IsTag (tag_text label output) label output

  literal_spells : (text written : List ℕ) → IsOutput written output →
      IsRead (item.Literal text) → Spells (CaseFolded text)
  literal_spells text written puts is =
      subst (λ (t : List ℕ). Spells (CaseFolded t)) (sym is.2)
      (inl (
        refl,
        tag_content (token_text (is.0 ∷ is.1)) (item.Literal (is.0 ∷ is.1)) output
            (literal_line is.0 is.1) IsItemOf (CaseFolded (is.0 ∷ is.1)) written puts refl,
      ))

  exact_spells : (text written : List ℕ) → IsOutput written output →
      IsRead (item.Literal text) → Spells (CaseExact text)
  exact_spells text written puts is =
      subst (λ (t : List ℕ). Spells (CaseExact t)) (sym is.2)
      (inr (
        refl,
        tag_content (token_text (is.0 ∷ is.1)) (item.Literal (is.0 ∷ is.1)) output
            (literal_line is.0 is.1) IsExactOf (CaseExact (is.0 ∷ is.1)) written puts refl,
      ))

  mask_spells : (text written : List ℕ) (mask : masks.Mask) → IsOutput written output →
      IsMaskText text mask → Spells (Mask mask)
  mask_spells text written mask puts is =
      inl (
        refl,
        tag_content (item_text (Mask mask)) (item.Mask (mask_text mask)) output
            (mask_line text mask is) IsItemOf (Mask mask) written puts (mask, mask_back text mask is, refl),
      )

  -- behind `%`
  percent_spells : (it : Item) (label : Label) (written : List ℕ) → IsOutput written output →
      IsRead it → IsItemOf it label → Spells label
  percent_spells (item.Literal text) label written puts read is =
      subst Spells (sym is) (literal_spells text written puts read)
  percent_spells (item.Quoted text) label written puts read is =
      subst Spells (sym is.1) (inl (
        refl,
        tag_content (item_text Space) (item.Quoted (codes " ")) output
            space_line IsItemOf Space written puts (refl, refl),
      ))
  percent_spells (item.Mask text) label written puts read is =
      subst Spells (sym is.2) (mask_spells text written is.0 puts is.1)
  percent_spells (item.Brace text) label written puts read is =
      subst Spells (sym is) (inl (
        refl,
        tag_content text (item.Brace text) output
            (λ after. brace_line text after read) IsItemOf (Brace text) written puts refl,
      ))
  percent_spells item.NoSpace label written puts read is =
      subst Spells (sym is) (inl (
        refl,
        tag_content (item_text NoSpace) item.NoSpace output
            no_space_line IsItemOf NoSpace written puts refl,
      ))
  percent_spells item.Empty label written puts read is =
      subst Spells (sym is) (inl (
        refl,
        tag_content (item_text Empty) item.Empty output
            empty_line IsItemOf Empty written puts refl,
      ))
  percent_spells (item.Call name) label written puts read is = absurd is
  percent_spells (item.Begin name) label written puts read is =
      subst Spells (sym is) (inl (
        refl,
        tag_content (item_text (Begin name)) (item.Begin name) output
            (λ after tail. begin_line name after tail read) IsItemOf (Begin name) written puts refl,
      ))
  percent_spells (item.End name) label written puts read is =
      subst Spells (sym is) (inl (
        refl,
        tag_content (item_text (End name)) (item.End name) output
            (λ after tail. end_line name after tail read) IsItemOf (End name) written puts refl,
      ))
  percent_spells item.Positive label written puts read is =
      subst Spells (sym is) (inl (
        refl,
        tag_content (item_text Positive) item.Positive output
            positive_line IsItemOf Positive written puts refl,
      ))
  percent_spells item.Negative label written puts read is =
      subst Spells (sym is) (inl (
        refl,
        tag_content (item_text Negative) item.Negative output
            negative_line IsItemOf Negative written puts refl,
      ))
  percent_spells item.ContextEnd label written puts read is =
      subst Spells (sym is) (inl (
        refl,
        tag_content (item_text ContextEnd) item.ContextEnd output
            context_end_line IsItemOf ContextEnd written puts refl,
      ))
  percent_spells item.Cut label written puts read is =
      subst Spells (sym is) (inl (
        refl,
        tag_content (item_text Cut) item.Cut output
            cut_line IsItemOf Cut written puts refl,
      ))

  -- and behind `@`, where only characters are a label
  at_spells : (it : Item) (label : Label) (written : List ℕ) → IsOutput written output →
      IsRead it → IsExactOf it label → Spells label
  at_spells (item.Literal text) label written puts read is =
      subst Spells (sym is) (exact_spells text written puts read)
  at_spells (item.Quoted text) label written puts read is = absurd is
  at_spells (item.Mask text) label written puts read is = absurd is
  at_spells (item.Brace text) label written puts read is = absurd is
  at_spells item.NoSpace label written puts read is = absurd is
  at_spells item.Empty label written puts read is = absurd is
  at_spells (item.Call name) label written puts read is = absurd is
  at_spells (item.Begin name) label written puts read is = absurd is
  at_spells (item.End name) label written puts read is = absurd is
  at_spells item.Positive label written puts read is = absurd is
  at_spells item.Negative label written puts read is = absurd is
  at_spells item.ContextEnd label written puts read is = absurd is
  at_spells item.Cut label written puts read is = absurd is

-- the tag that is printed says what some text says
pub tag_back : (text : List ℕ) (label : Label) (output : List Piece) → IsTag text label output →
    IsTag (tag_text label output) label output
tag_back [] label output is = absurd is
tag_back (b ∷ content) label output (inl is) =
    percent_spells output is.1.item label is.1.content_is.written is.1.content_is.output
    (lines_read is.1.content_is.lines) is.1.label_is
tag_back (b ∷ content) label output (inr is) =
    at_spells output is.1.item label is.1.content_is.written is.1.content_is.output
    (lines_read is.1.content_is.lines) is.1.label_is

pub said_back : (label : Label) (output : List Piece) → IsSaid label output →
    IsTag (tag_text label output) label output
said_back label output is = tag_back is.0 label output is.1
