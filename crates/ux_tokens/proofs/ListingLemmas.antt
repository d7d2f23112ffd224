-- A text is cut without its tokens: that there is such a list is enough for their texts.
use Rattle.std.proofs.Common.{◌≡◌, ℕ, ◌+◌, ◌-◌, ◌<◌, ◌≤◌, List, [], ◌∷◌, ◌++◌, length, take, drop, Some, refl, subst, arith}
use Rattle.std.specs.List.{slice_get}
use Rattle.std.specs.Str.{IsCharBoundary, IsUtf8}
use Rattle.std.proofs.lemmas.List.{length_push, drop_all, length-drop}
use Rattle.std.proofs.lemmas.Str.{IsUtf8-drop}
use Rattle.ux_alphabet.specs.Letters.{Letters}
use Rattle.ux_tokens.specs.declared.piece.Piece.{Piece}
use Rattle.ux_tokens.specs.declared.cutting.TheConstants.{MAX_TOKENS}
use Rattle.ux_tokens.specs.First.{IsFront}
use Rattle.ux_base.specs.Distinct.{with_text}
use Rattle.ux_tokens.specs.Pieces.{tokens_from}
use Rattle.ux_tokens.specs.Tokens.{AreCutAtMarks}
use Rattle.ux_tokens.specs.declared.text_error.TextError.TheVariants.{TooManyTokens}
use Rattle.ux_tokens.specs.Cutting.{ReachTo, IsListing, IsSoFar, RefusesCut}
use Rattle.ux_tokens.proofs.CutLemmas.{reach_end, none_at_marks}
use Rattle.ux_tokens.proofs.CuttingLemmas.{so_far_start, so_far_next, few_different}
use Rattle.ux_tokens.proofs.PiecesLemmas.{length-tokens_from}
use Rattle.ux_tokens.proofs.WholeLemmas.{has_more}

module _ (alphabet : Letters) (text : List ℕ) where
  -- the texts are those of so many tokens up to a place
  pub record IsCounted (end count : ℕ) (texts : List (List ℕ)) : Type 0 where
    pub pieces : List Piece
    pub so_far : IsSoFar alphabet text end pieces texts
    pub counted : count ≡ length pieces
    pub few : count ≤ MAX_TOKENS
    pub between : IsCharBoundary text end

  pub counted_start : IsUtf8 text → IsCounted 0 0 []
  counted_start utf8 =
      let so_far = so_far_start alphabet text utf8 in
      record {
        pieces = [];
        so_far = so_far;
        counted = refl;
        few = omega arith;
        between = so_far.between;
      }

  pub counted_next : IsUtf8 text →
      (end count : ℕ) (texts more : List (List ℕ)) (rest : List ℕ) (front : Piece) →
      IsCounted end count texts → count < MAX_TOKENS → rest ≡ drop end text →
      IsFront alphabet rest front.kind front.end →
      more ≡ with_text texts (take front.end rest) →
      slice_get more front.number ≡ Some (take front.end rest) →
      IsCounted (end + front.end) (count + 1) more
  counted_next utf8 end count texts more rest front before room is at_front known place =
      let counted = before.counted in
      let so_far = so_far_next alphabet text utf8 end before.pieces texts more rest front
      before.so_far (omega (arith, counted, room)) is at_front known place in
      let piece : Piece =
      record { end = end + front.end; number = front.number; kind = front.kind } in
      let longer : length (before.pieces ++ piece ∷ []) ≡ length before.pieces + 1 =
      length_push before.pieces piece in
      record {
        pieces = before.pieces ++ piece ∷ [];
        so_far = so_far;
        counted = omega (arith, counted, longer);
        few = omega (arith, room);
        between = so_far.between;
      }

  -- no more different texts than tokens
  pub few_texts : (end count : ℕ) (texts : List (List ℕ)) → IsCounted end count texts →
      length texts ≤ count
  few_texts end count texts counted =
      let fewer : length texts ≤ length counted.pieces =
      few_different alphabet text end counted.pieces texts counted.so_far in
      let same = counted.counted in
      omega (arith, fewer, same)

  -- after the last token stands nothing
  pub counted_whole : (end count : ℕ) (texts : List (List ℕ)) → IsCounted end count texts →
      length text ≤ end → IsListing alphabet text texts
  counted_whole end count texts counted all =
      let none : drop end text ≡ [] = drop_all end text (omega arith) in
      let same = counted.counted in
      let few = counted.few in
      let length_is : length (tokens_from text 0 counted.pieces) ≡ length counted.pieces =
      length-tokens_from text 0 counted.pieces in
      record {
        tokens = tokens_from text 0 counted.pieces;
        cut =
            reach_end (AreCutAtMarks alphabet) text (tokens_from text 0 counted.pieces)
            (subst (λ (rest : List ℕ).
            ReachTo (AreCutAtMarks alphabet) text rest (tokens_from text 0 counted.pieces)) none
            counted.so_far.tokens) (none_at_marks alphabet);
        few = omega (arith, same, few, length_is);
        are = counted.so_far.pieces_are.all;
      }

  -- where something stands after the most tokens, there are too many
  pub counted_more : IsUtf8 text →
      (end count : ℕ) (texts : List (List ℕ)) → IsCounted end count texts →
      count ≡ MAX_TOKENS → end < length text → RefusesCut alphabet text TooManyTokens
  counted_more utf8 end count texts counted full behind =
      let left : length (drop end text) ≡ length text - end = length-drop end text in
      let same = counted.counted in
      let length_is : length (tokens_from text 0 counted.pieces) ≡ length counted.pieces =
      length-tokens_from text 0 counted.pieces in
      let more = has_more alphabet text (drop end text) (tokens_from text 0 counted.pieces)
      (IsUtf8-drop text end utf8 counted.between) (omega arith)
      counted.so_far.tokens in
      let longer = more.2 in
      (more.0, more.1, omega (arith, longer, same, length_is, full))
