-- The loop that cuts a text: one more token keeps what is known of the pieces so far.
use Rattle.std.proofs.Common.{◌≡◌, ℕ, ◌+◌, ◌-◌, ◌<◌, ◌≤◌, List, [], ◌∷◌, ◌++◌, map, length, take, drop, Some, false, refl, sym, ◌∙◌, ap, subst, arith}
use Rattle.std.specs.List.{slice_get}
use Rattle.std.specs.Str.{IsCharBoundary, IsUtf8}
use Rattle.std.proofs.lemmas.Str.{IsCharBoundary-start, IsCharBoundary-from_rest}
use Rattle.std.proofs.lemmas.List.{take-append-drop, drop-drop, length_push, drop_all, length-map}
use Rattle.ux_alphabet.specs.Letters.{Letters}
use Rattle.ux_tokens.specs.declared.kind.Kind.{Kind}
use Rattle.ux_tokens.specs.declared.kind.Kind.TheVariants.{Word}
use Rattle.ux_tokens.specs.declared.piece.Piece.{Piece}
use Rattle.ux_tokens.specs.declared.pieces.Pieces.{Pieces}
use Rattle.ux_tokens.specs.declared.cutting.TheConstants.{MAX_TOKENS}
use Rattle.ux_tokens.specs.Tokens.{Token, AreCutAtMarks}
use Rattle.ux_tokens.specs.First.{BeginsWithNoLetter, IsFront}
use Rattle.ux_base.specs.Distinct.{with_text, each_once}
use Rattle.ux_tokens.specs.Pieces.{ArePieces, token_of, tokens_from, end_from}
use Rattle.ux_tokens.specs.Columns.{AreEven, pieces_of}
use Rattle.ux_tokens.specs.Cutting.{ReachTo, IsCutting, IsSoFar}
use Rattle.ux_tokens.proofs.CutLemmas.{reach_start, reach_more, reach_end, marked_more, none_at_marks}
use Rattle.ux_base.proofs.DistinctLemmas.{length-each_once}
use Rattle.ux_tokens.proofs.PiecesLemmas.{pieces_start, pieces_more, tokens_from-push, end_from-push, length-tokens_from}

module _ (alphabet : Letters) (text : List ℕ) where
  pub so_far_start : IsUtf8 text → IsSoFar alphabet text 0 [] []
  so_far_start utf8 = record {
    tokens = reach_start (AreCutAtMarks alphabet) text;
    pieces_are = pieces_start text;
    ends = refl;
    between = IsCharBoundary-start text utf8;
    few = omega arith;
  }

  -- no more different tokens than tokens
  pub few_different : (end : ℕ) (pieces : List Piece) (different : List (List ℕ)) →
      IsSoFar alphabet text end pieces different → length different ≤ length pieces
  few_different end pieces different so_far =
      let texts : List (List ℕ) = map (λ (t : Token). t.text) (tokens_from text 0 pieces) in
      let same : length different ≡ length (each_once texts) = ap length so_far.pieces_are.all in
      let fewer : length (each_once texts) ≤ length texts = length-each_once texts in
      let mapped : length texts ≡ length (tokens_from text 0 pieces) =
      length-map (tokens_from text 0 pieces) (λ (t : Token). t.text) in
      let all : length (tokens_from text 0 pieces) ≡ length pieces =
      length-tokens_from text 0 pieces in
      omega arith

  so_far_more : IsUtf8 text →
      (end : ℕ) (pieces : List Piece) (different : List (List ℕ)) →
      IsSoFar alphabet text end pieces different → length pieces < MAX_TOKENS →
      (kind : Kind) (len number : ℕ) →
      IsFront alphabet (drop end text) kind len →
      slice_get (with_text different (take len (drop end text))) number
      ≡ Some (take len (drop end text)) →
      IsSoFar alphabet text (end + len)
      (pieces ++ record { end = end + len; number = number; kind = kind } ∷ [])
      (with_text different (take len (drop end text)))
  so_far_more utf8 end pieces different so_far room kind len number front place = record {
    tokens = subst (ReachTo (AreCutAtMarks alphabet) text (drop (end + len) text)) tokens_are
        (reach_more (AreCutAtMarks alphabet) text (drop end text) (drop (end + len) text)
        (tokens_from text 0 pieces) token
        (marked_more alphabet (drop end text) (drop (end + len) text) token next front.first.is
        longest front.mark) so_far.tokens);
    pieces_are = pieces_more text pieces different piece token.text so_far.pieces_are
        (let ends : end_from 0 pieces ≡ end = so_far.ends in omega arith)
        boundary (sym (ap (λ (t : Token). t.text) last_is)) place;
    ends = end_from-push 0 pieces piece;
    between = boundary;
    few =
        let grown : length (pieces ++ piece ∷ []) ≡ length pieces + 1 = length_push pieces piece in
        omega arith;
  }
    where
      piece : Piece
      piece = record { end = end + len; number = number; kind = kind }

      token : Token
      token = record { kind = kind; text = take len (drop end text) }

      boundary : IsCharBoundary text (end + len)
      boundary = IsCharBoundary-from_rest text end len so_far.between.0 front.cut

      behind : drop len (drop end text) ≡ drop (end + len) text
      behind = drop-drop len end text

      next : drop end text ≡ token.text ++ drop (end + len) text
      next =
          sym (take-append-drop len (drop end text)) ∙ ap (λ (l : List ℕ). token.text ++ l) behind

      longest : alphabet.single ≡ false → kind ≡ Word →
          BeginsWithNoLetter alphabet (drop (end + len) text)
      longest runs word =
          subst (BeginsWithNoLetter alphabet) behind (front.first.longest runs word)

      cut_len : end + len - end ≡ len
      cut_len = omega arith

      last_is : token_of text (end_from 0 pieces) piece ≡ token
      last_is =
          ap (λ (start : ℕ). token_of text start piece) so_far.ends
          ∙ ap (λ (n : ℕ). let t : Token = record { kind = kind; text = take n (drop end text) } in
          t) cut_len

      tokens_are : tokens_from text 0 pieces ++ token ∷ []
          ≡ tokens_from text 0 (pieces ++ piece ∷ [])
      tokens_are =
          ap (λ (t : Token). tokens_from text 0 pieces ++ t ∷ []) (sym last_is)
          ∙ sym (tokens_from-push text 0 pieces piece)

  -- the token at the front of the rest is the next
  pub so_far_next : IsUtf8 text →
      (end : ℕ) (pieces : List Piece) (different more : List (List ℕ)) (rest : List ℕ)
      (front : Piece) →
      IsSoFar alphabet text end pieces different → length pieces < MAX_TOKENS →
      rest ≡ drop end text →
      IsFront alphabet rest front.kind front.end →
      more ≡ with_text different (take front.end rest) →
      slice_get more front.number ≡ Some (take front.end rest) →
      IsSoFar alphabet text (end + front.end)
      (pieces ++ record { end = end + front.end; number = front.number; kind = front.kind } ∷ [])
      more
  so_far_next utf8 end pieces different more rest front so_far room is at_front texts place =
      let token : take front.end rest ≡ take front.end (drop end text) = ap (take front.end) is in
      let known : more ≡ with_text different (take front.end (drop end text)) =
      texts ∙ ap (with_text different) token in
      rw known
      (so_far_more utf8 end pieces different so_far room front.kind front.end front.number
      (subst (λ (l : List ℕ). IsFront alphabet l front.kind front.end) is at_front)
      (ap (λ (l : List (List ℕ)). slice_get l front.number) (sym known) ∙ place ∙ ap Some token))

  -- after the last token stands nothing
  pub cut_whole : (end : ℕ) (pieces : Pieces) (different : List (List ℕ)) (count : ℕ) →
      IsSoFar alphabet text end (pieces_of pieces) different → AreEven pieces → end ≡ length text →
      count ≡ length different →
      IsCutting alphabet text (record { pieces = pieces; different = count })
  cut_whole end pieces different count so_far even all counted =
      let none : drop end text ≡ [] = drop_all end text (omega arith) in
      record {
        tokens =
            reach_end (AreCutAtMarks alphabet) text (tokens_from text 0 (pieces_of pieces))
            (subst (λ (rest : List ℕ).
            ReachTo (AreCutAtMarks alphabet) text rest (tokens_from text 0 (pieces_of pieces))) none
            so_far.tokens) (none_at_marks alphabet);
        pieces = subst (ArePieces text (pieces_of pieces)) so_far.pieces_are.all so_far.pieces_are;
        even = even;
        few = so_far.few;
        different = counted ∙ ap length so_far.pieces_are.all;
      }
