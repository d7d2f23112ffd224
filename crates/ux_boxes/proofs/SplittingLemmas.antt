-- Lines, lists of lines and literals are split one piece after another.
use Rattle.std.proofs.Common.{◌≡◌, ℕ, ◌+◌, ◌<◌, List, [], ◌∷◌, ◌++◌, refl, sym, ◌∙◌, ap, subst, append_assoc, length, map, take, drop, get_or}
use Rattle.std.specs.List.{AllZip}
use Rattle.std.proofs.lemmas.List.{append-nil, map-append, take-append-drop, take_more}
use Rattle.ux_alphabet.specs.Letters.{Letters}
use Rattle.ux_tokens.specs.declared.kind.Kind.{Kind}
use Rattle.ux_tokens.specs.Tokens.{Token, AreCutPlainly, IsPlain}
use Rattle.ux_tokens.specs.First.{IsFirstToken}
use Rattle.ux_tokens.specs.Cutting.{ReachTo}
use Rattle.ux_tokens.proofs.CutLemmas.{none_plainly, plain_more, reach_end, reach_more, reach_start}
use Rattle.ux_grf.specs.declared.item.Item.{Item}
use Rattle.ux_net.specs.declared.label.Label.{Label}
use Rattle.ux_boxes.specs.declared.split.Comparison.{Comparison}
use Rattle.ux_boxes.specs.Boxes.{IsSplit, IsSplitLine}
use Rattle.ux_boxes.specs.Splitting.{IsBehind, AreSplitLines, label_by}

-- two lists of which each element fits its partner, with one more pair
pub AllZip-grown : {A B : Type 0} (R : A → B → Type 0) (xs : List A) (ys : List B) (x : A) (y : B) →
    AllZip R xs ys → R x y → AllZip R (xs ++ x ∷ []) (ys ++ y ∷ [])
AllZip-grown R [] [] x y all fits = (fits, tt)
AllZip-grown R [] (y' ∷ ys) x y all fits = absurd all
AllZip-grown R (x' ∷ xs) [] x y all fits = absurd all
AllZip-grown R (x' ∷ xs) (y' ∷ ys) x y all fits = (all.0, AllZip-grown R xs ys x y all.1 fits)

-- the elements up to a place, and the element there
pub take-next : {X : Type 0} (xs : List X) (i : ℕ) (x : X) → i < length xs → x ≡ get_or xs i x →
    take i xs ++ x ∷ [] ≡ take (i + 1) xs
take-next {X} xs i x within is =
    ap (λ (y : X). take i xs ++ y ∷ []) is ∙ sym (take_more xs i x within)

-- the labels of tokens
abbrev pub labels_of : Comparison → List Token → List Label
labels_of comparison tokens = map (λ token. label_by comparison token.kind token.text) tokens

module _ (alphabet : Letters) (names : List (List ℕ)) where
  -- a line that goes on by an item
  IsSplitLine-push : (line : List Item) (item : Item) (front back : List Label) →
      IsSplitLine alphabet names line front → IsSplit alphabet names item back →
      IsSplitLine alphabet names (line ++ item ∷ []) (front ++ back)
  IsSplitLine-push [] item front back is_front is_back = (
    back,
    [],
    is_back,
    refl,
    ap (λ (l : List Label). l ++ back) is_front ∙ sym (append-nil back),
  )
  IsSplitLine-push (first ∷ line) item front back is_front is_back = (
    is_front.0,
    is_front.1 ++ back,
    is_front.2,
    IsSplitLine-push line item is_front.1 back is_front.3 is_back,
    ap (λ (l : List Label). l ++ back) is_front.4 ∙ append_assoc is_front.0 is_front.1 back,
  )

  -- the line up to a place, and the item there
  pub split_line_more : (line : List Item) (i : ℕ) (item : Item) (before after : List Label) →
      i < length line → item ≡ get_or line i item → IsSplitLine alphabet names (take i line)
      before →
      IsBehind alphabet names item before after → IsSplitLine alphabet names (take (i + 1) line)
      after
  split_line_more line i item before after within is so_far behind =
      subst (λ (l : List Item). IsSplitLine alphabet names l after) (take-next line i item within
      is)
      (subst (IsSplitLine alphabet names (take i line ++ item ∷ [])) (sym behind.2)
      (IsSplitLine-push (take i line) item before behind.0 so_far behind.1))

  -- the lines up to a place, and the line there
  pub split_lines_more : (lines : List (List Item)) (i : ℕ) (line : List Item) →
      (split : List (List Label)) (labels : List Label) →
      i < length lines → line ≡ get_or lines i line → AreSplitLines alphabet names (take i lines)
      split →
      IsSplitLine alphabet names line labels →
      AreSplitLines alphabet names (take (i + 1) lines) (split ++ labels ∷ [])
  split_lines_more lines i line split labels within is so_far one =
      subst (λ (l : List (List Item)). AreSplitLines alphabet names l (split ++ labels ∷ []))
      (take-next lines i line within is)
      (AllZip-grown (IsSplitLine alphabet names) (take i lines) split line labels so_far one)

module _ (alphabet : Letters) (comparison : Comparison) (text : List ℕ) (before : List Label)
  where
    -- tokens reach to the rest of the text, and their labels stand after what was there
    pub record IsCutInto (rest : List ℕ) (labels : List Label) : Type 0 where
      pub tokens : List Token
      pub cut : ReachTo (AreCutPlainly alphabet) text rest tokens
      pub are : labels ≡ before ++ labels_of comparison tokens

    pub cut_into_start : IsCutInto text before
    cut_into_start =
        record {
          tokens = [];
          cut = reach_start (AreCutPlainly alphabet) text;
          are = sym (append-nil before);
        }

    -- the token at the front of the rest is the next
    pub cut_into_more : (rest after : List ℕ) (labels : List Label) (kind : Kind) (len : ℕ) →
        IsFirstToken alphabet rest kind len → IsPlain kind → after ≡ drop len rest →
        IsCutInto rest labels →
        IsCutInto after (labels ++ label_by comparison kind (take len rest) ∷ [])
    cut_into_more rest after labels kind len first plain is so_far = record {
      tokens = so_far.tokens ++ token ∷ [];
      cut =
          subst (λ (l : List ℕ).
          ReachTo (AreCutPlainly alphabet) text l (so_far.tokens ++ token ∷ [])) (sym is)
          (reach_more (AreCutPlainly alphabet) text rest (drop len rest) so_far.tokens token
          (plain_more alphabet rest (drop len rest) token (sym (take-append-drop len rest)) first.is
          first.longest plain) so_far.cut);
      are =
          ap (λ (l : List Label). l ++ label_by comparison kind token.text ∷ []) so_far.are
          ∙ append_assoc before (labels_of comparison so_far.tokens) (label_by comparison kind
          token.text ∷ [])
          ∙ ap (λ (l : List Label). before ++ l)
          (sym (map-append (λ (t : Token). label_by comparison t.kind t.text) so_far.tokens (token ∷
          [])));
    }
      where
        token : Token
        token = record { kind = kind; text = take len rest }

    -- where nothing is left, the text is cut whole
    pub cut_into_end : (labels : List Label) → IsCutInto [] labels →
        (tokens : List Token) × AreCutPlainly alphabet text tokens
        × (labels ≡ before ++ labels_of comparison tokens)
    cut_into_end labels so_far = (
      so_far.tokens,
      reach_end (AreCutPlainly alphabet) text so_far.tokens so_far.cut (none_plainly alphabet),
      so_far.are,
    )
