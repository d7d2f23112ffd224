-- The text of a tag says one label and one output.
use Rattle.std.proofs.Common.{◌≡◌, inl, inr, ℕ, List, [], ◌∷◌, sym, ap, ◌∙◌, subst}
use Rattle.ux_grf.specs.declared.item.Item.{Item}
use Rattle.ux_grf.specs.declared.item.Item.TheVariants as item
use Rattle.ux_grf.specs.declared.item.Piece.{Piece}
use Rattle.ux_grf.proofs.UniqueLemmas.{IsContent-once}
use Rattle.ux_masks.proofs.UniqueLaws.{one_mask}
use Rattle.ux_net.specs.declared.label.Label.{Label}
use Rattle.ux_net.specs.declared.label.Label.TheVariants.{Mask}
use Rattle.ux_fst2.specs.Tags.{PERCENT, AT, IsItemOf, IsExactOf, IsTagContent, IsTag}

-- an item is one label behind `%`
item_once : (it : Item) (label other : Label) → IsItemOf it label → IsItemOf it other →
    label ≡ other
item_once (item.Literal text) label other is also = is ∙ sym also
item_once (item.Quoted text) label other is also = is.1 ∙ sym also.1
item_once (item.Mask text) label other is also =
    is.2 ∙ (ap Mask (one_mask text is.0 also.0 is.1 also.1) ∙ sym also.2)
item_once (item.Brace text) label other is also = is ∙ sym also
item_once item.NoSpace label other is also = is ∙ sym also
item_once item.Empty label other is also = is ∙ sym also
item_once (item.Call name) label other is also = absurd is
item_once (item.Begin name) label other is also = is ∙ sym also
item_once (item.End name) label other is also = is ∙ sym also
item_once item.Positive label other is also = is ∙ sym also
item_once item.Negative label other is also = is ∙ sym also
item_once item.ContextEnd label other is also = is ∙ sym also
item_once item.Cut label other is also = is ∙ sym also

-- and one behind `@`
exact_once : (it : Item) (label other : Label) → IsExactOf it label → IsExactOf it other →
    label ≡ other
exact_once (item.Literal text) label other is also = is ∙ sym also
exact_once (item.Quoted text) label other is also = absurd is
exact_once (item.Mask text) label other is also = absurd is
exact_once (item.Brace text) label other is also = absurd is
exact_once item.NoSpace label other is also = absurd is
exact_once item.Empty label other is also = absurd is
exact_once (item.Call name) label other is also = absurd is
exact_once (item.Begin name) label other is also = absurd is
exact_once (item.End name) label other is also = absurd is
exact_once item.Positive label other is also = absurd is
exact_once item.Negative label other is also = absurd is
exact_once item.ContextEnd label other is also = absurd is
exact_once item.Cut label other is also = absurd is

-- the one item of one line
same_item : (x y : Item) → let lines : Item → List (List Item) = λ it. (it ∷ []) ∷ [] in
    lines x ≡ lines y → x ≡ y
same_item x y same = cc

-- a content of one item says one label and one output
content_once : (Is : Item → Label → Type 0) →
    ((it : Item) (a b : Label) → Is it a → Is it b → a ≡ b) → (content : List ℕ)
    (label other : Label) (output also : List Piece) → IsTagContent Is content label output →
    IsTagContent Is content other also → (label ≡ other) × (output ≡ also)
content_once Is one content label other output also is likewise =
    let both = IsContent-once content
    (record { lines = (is.item ∷ []) ∷ []; output = output })
    (record { lines = (likewise.item ∷ []) ∷ []; output = also })
    is.content_is likewise.content_is in
    let items = same_item is.item likewise.item both.0 in (
      one likewise.item label other (subst (λ (it : Item). Is it label) items is.label_is)
          likewise.label_is,
      both.1,
    )

-- a tag isn't behind both signs
apart : (b : ℕ) → b ≡ PERCENT → b ≡ AT → ⊥
apart b percent at = let no : PERCENT ≡ AT = sym percent ∙ at in cc

pub tag_once : (text : List ℕ) (label other : Label) (output also : List Piece) →
    IsTag text label output → IsTag text other also → (label ≡ other) × (output ≡ also)
tag_once [] label other output also is likewise = absurd is
tag_once (b ∷ content) label other output also (inl is) (inl likewise) =
    content_once IsItemOf item_once content label other output also is.1 likewise.1
tag_once (b ∷ content) label other output also (inl is) (inr likewise) =
    absurd (apart b is.0 likewise.0)
tag_once (b ∷ content) label other output also (inr is) (inl likewise) =
    absurd (apart b likewise.0 is.0)
tag_once (b ∷ content) label other output also (inr is) (inr likewise) =
    content_once IsExactOf exact_once content label other output also is.1 likewise.1
