-- What a tag says is what its content says, and a content is read in one way.
use Rattle.std.proofs.Common.{◌≡◌, ◌≢◌, ℕ, List, [], ◌∷◌, refl, sym, ap, subst, inl, inr, Result, Ok, Err, Option, Some, None}
use Rattle.std.specs.Prelude.{IfOk, MatchOption, codes}
use Rattle.ux_grf.specs.declared.graph.GraphKind.TheVariants.{Plain}
use Rattle.ux_grf.specs.declared.content.Content.{Content}
use Rattle.ux_grf.specs.declared.item.Item.{Item}
use Rattle.ux_grf.specs.declared.item.Piece.{Piece}
use Rattle.ux_grf.specs.declared.error.GrfError.{GrfError}
use Rattle.ux_grf.specs.declared.error.GrfError.TheVariants.{NoHeader, BadCount, BadBoxLine, BadTarget, BadContent, NoMemory}
use Rattle.ux_grf.specs.Content.{IsContent, IsOnly, RefusesContent}
use Rattle.ux_grf.proofs.UniqueLemmas.{IsContent-IsFault}
use Rattle.ux_net.specs.declared.label.Label.{Label}
use Rattle.ux_grf.specs.Items.{item_then, line_over}
use Rattle.ux_grf.specs.Lines.{last_line, of_items}
use Rattle.ux_grf.specs.Output.{chars_only, pieces_put}
use Rattle.ux_grf.specs.declared.item.Item.TheVariants as item
use Rattle.ux_net.specs.declared.label.Label.TheVariants.{Empty}
use Rattle.ux_fst2.specs.Tags.{EMPTY_TAG, PERCENT, AT, IsExactOf, IsItemOf, IsTag, IsTagContent}

-- what holds of an answer, where there is one, holds in other words
pub said_lift : {A E : Type 0} (r : Result (Option A) E) (N M : Type 0) (P Q : A → Type 0) →
    (N → M) → ((a : A) → P a → Q a) → IfOk r (λ o. MatchOption o N P) →
    IfOk r (λ o. MatchOption o M Q)
said_lift (Ok (Some a)) N M P Q none some is = some a is
said_lift (Ok None) N M P Q none some is = none is
said_lift (Err e) N M P Q none some is = tt

-- a content that is refused is the content of no tag
pub refused_says_nothing : (content : List ℕ) (error : GrfError) (Is : Item → Label → Type 0)
    (label : Label) (output : List Piece) → RefusesContent Plain 0 content error → error ≢ NoMemory →
    IsTagContent Is content label output → ⊥
refused_says_nothing content NoHeader Is label output bad other tag = absurd bad
refused_says_nothing content BadCount Is label output bad other tag = absurd bad
refused_says_nothing content (BadBoxLine n) Is label output bad other tag = absurd bad
refused_says_nothing content (BadTarget n) Is label output bad other tag = absurd bad
refused_says_nothing content (BadContent n place) Is label output bad other tag =
    IsContent-IsFault content bad.1.left _ tag.content_is bad.1.fault
refused_says_nothing content NoMemory Is label output bad other tag = absurd (other refl)

-- the one item of what was read is the label, and the output is what was read
pub item_says : (content : List ℕ) (read : Content) (item : Item) (Is : Item → Label → Type 0)
    (label : Label) (output : List Piece) → IsContent Plain content read →
    read.lines ≡ (item ∷ []) ∷ [] → Is item label → output ≡ read.output →
    IsTagContent Is content label output
item_says content read item Is label output is_content lines is_label puts =
    record {
      item = item;
      content_is = subst (λ (ls : List (List Item)).
          IsContent Plain content (record { lines = ls; output = output })) lines
          (subst (λ (o : List Piece).
          IsContent Plain content (record { lines = read.lines; output = o })) (sym puts) is_content);
      label_is = is_label;
    }

-- where what was read isn't one item that is a label, the content is that of no tag
pub other_says_nothing : (content : List ℕ) (read : Content) (Is : Item → Label → Type 0)
    (label : Label) (output : List Piece) → IsOnly Plain content read →
    ((item : Item) (other : Label) → read.lines ≡ (item ∷ []) ∷ [] → Is item other → ⊥) →
    IsTagContent Is content label output → ⊥
other_says_nothing content read Is label output only none tag =
    none tag.item label (only.one _ tag.content_is).0 tag.label_is

module _ (text content : List ℕ) (label : Label) (output : List Piece) where
  -- a tag behind `%`, and one behind `@`
  pub percent_tag : text ≡ PERCENT ∷ content → IsTagContent IsItemOf content label output →
      IsTag text label output
  percent_tag e tag = subst (λ (t : List ℕ). IsTag t label output) (sym e) (inl (refl, tag))

  pub at_tag : text ≡ AT ∷ content → IsTagContent IsExactOf content label output →
      IsTag text label output
  at_tag e tag = subst (λ (t : List ℕ). IsTag t label output) (sym e) (inr (refl, tag))

  apart : AT ≡ PERCENT → ⊥
  apart e = cc

  pub percent_only : text ≡ PERCENT ∷ content →
      (IsTagContent IsItemOf content label output → ⊥) → IsTag text label output → ⊥
  percent_only e none tag =
      let inside : IsTag (PERCENT ∷ content) label output =
      subst (λ (t : List ℕ). IsTag t label output) e tag in
      elim inside [ inl l ↦ none l.1 | inr r ↦ apart (sym r.0) ]

  pub at_only : text ≡ AT ∷ content →
      (IsTagContent IsExactOf content label output → ⊥) → IsTag text label output → ⊥
  at_only e none tag =
      let inside : IsTag (AT ∷ content) label output =
      subst (λ (t : List ℕ). IsTag t label output) e tag in
      elim inside [ inl l ↦ apart l.0 | inr r ↦ none r.1 ]

-- a text that begins with neither is no tag
pub unmarked : (text : List ℕ) (label : Label) (output : List Piece) →
    ((content : List ℕ) → text ≡ PERCENT ∷ content → ⊥) →
    ((content : List ℕ) → text ≡ AT ∷ content → ⊥) → IsTag text label output → ⊥
unmarked [] label output percent at tag = tag
unmarked (b ∷ content) label output percent at tag = elim tag [
  | inl l ↦ percent content (ap (λ n. n ∷ content) l.0)
  | inr r ↦ at content (ap (λ n. n ∷ content) r.0)
]

-- the content of tag 0
empty_content : IsContent Plain (codes "<E>") (record { lines = (item.Empty ∷ []) ∷ []; output = [] })
empty_content =
    record {
      written = [];
      lines = last_line (of_items refl (item_then {item = Some item.Empty} refl (line_over refl)));
      closed = refl;
      output = pieces_put refl (chars_only refl);
    }

-- what tag 0 says
pub empty_tag_says : (text : List ℕ) → text ≡ EMPTY_TAG → IsTag text Empty []
empty_tag_says text is =
    percent_tag text (codes "<E>") Empty [] is
    (record { item = item.Empty; content_is = empty_content; label_is = refl })
