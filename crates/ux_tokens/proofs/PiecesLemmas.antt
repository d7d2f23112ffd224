-- Pieces grow by one at the end, and so do their tokens and the table of different texts.
use Rattle.std.proofs.Common.{◌≡◌, ◌⊎◌, inl, inr, ℕ, zero, suc, ◌<◌, ◌≤◌, List, [], ◌∷◌, ◌++◌, map, length, take, Some, refl, sym, ◌∙◌, ap, subst, arith}
use Rattle.std.specs.List.{slice_get, slice_range}
use Rattle.std.specs.Str.{IsCharBoundary}
use Rattle.std.proofs.lemmas.List.{map-append, take-append-le, take_at}
use Rattle.std.proofs.lemmas.Option.{none-some, same_Some}
use Rattle.ux_tokens.specs.declared.piece.Piece.{Piece}
use Rattle.ux_tokens.specs.Tokens.{Token}
use Rattle.ux_base.specs.Distinct.{each_once, with_text}
use Rattle.ux_tokens.specs.Numbers.{different_texts}
use Rattle.ux_tokens.specs.Pieces.{ArePieces, token_of, tokens_from, end_from}
use Rattle.ux_tokens.proofs.CutLemmas.{slice_get-push_cases}
use Rattle.ux_base.proofs.DistinctLemmas.{each_once-push, with_text-keeps}

pub tokens_from-push : (text : List ℕ) (start : ℕ) (pieces : List Piece) (piece : Piece) →
    tokens_from text start (pieces ++ piece ∷ [])
    ≡ tokens_from text start pieces ++ token_of text (end_from start pieces) piece ∷ []
tokens_from-push text start [] piece = refl
tokens_from-push text start (first ∷ pieces) piece =
    ap (λ (l : List Token). token_of text start first ∷ l)
    (tokens_from-push text first.end pieces piece)

pub end_from-push : (start : ℕ) (pieces : List Piece) (piece : Piece) →
    end_from start (pieces ++ piece ∷ []) ≡ piece.end
end_from-push start [] piece = refl
end_from-push start (first ∷ pieces) piece = end_from-push first.end pieces piece

pub length-tokens_from : (text : List ℕ) (start : ℕ) (pieces : List Piece) →
    length (tokens_from text start pieces) ≡ length pieces
length-tokens_from text start [] = refl
length-tokens_from text start (first ∷ pieces) = ap suc (length-tokens_from text first.end pieces)

-- the token at a place is that of the piece there, which begins where the one before it ends
pub slice_get-tokens_from : (text : List ℕ) (start : ℕ) (pieces : List Piece) (k : ℕ)
    (piece : Piece) →
    slice_get pieces k ≡ Some piece →
    slice_get (tokens_from text start pieces) k
    ≡ Some (token_of text (end_from start (take k pieces)) piece)
slice_get-tokens_from text start [] k piece at = absurd (none-some piece at)
slice_get-tokens_from text start (first ∷ pieces) zero piece at =
    ap (λ (p : Piece). Some (token_of text start p)) (same_Some first piece at)
slice_get-tokens_from text start (first ∷ pieces) (suc k) piece at =
    slice_get-tokens_from text first.end pieces k piece at

-- the end of the first pieces is the end of the last of them
pub end_from-take : (start : ℕ) (pieces : List Piece) (k : ℕ) (piece : Piece) →
    slice_get pieces k ≡ Some piece → end_from start (take (suc k) pieces) ≡ piece.end
end_from-take start [] k piece at = absurd (none-some piece at)
end_from-take start (first ∷ pieces) zero piece at =
    ap (λ (p : Piece). p.end) (same_Some first piece at)
end_from-take start (first ∷ pieces) (suc k) piece at = end_from-take first.end pieces k piece at

pub different_texts-push : (tokens : List Token) (token : Token) →
    different_texts (tokens ++ token ∷ []) ≡ with_text (different_texts tokens) token.text
different_texts-push tokens token =
    ap each_once (map-append (λ (t : Token). t.text) tokens (token ∷ []))
    ∙ each_once-push (map (λ (t : Token). t.text) tokens) token.text

pub pieces_start : (text : List ℕ) → ArePieces text [] []
pieces_start text = record {
  ordered = λ k piece at. absurd (none-some piece at);
  cut = λ k piece at. absurd (none-some piece at);
  numbered = λ k piece token at tok. absurd (none-some piece at);
  all = refl;
}

pub pieces_more : (text : List ℕ) (pieces : List Piece) (different : List (List ℕ)) (piece : Piece)
    (token : List ℕ) →
    ArePieces text pieces different → end_from 0 pieces ≤ piece.end →
    IsCharBoundary text piece.end →
    token ≡ slice_range text (end_from 0 pieces) piece.end →
    slice_get (with_text different token) piece.number ≡ Some token →
    ArePieces text (pieces ++ piece ∷ []) (with_text different token)
pieces_more text pieces different piece token are later boundary is number = record {
  ordered = λ k p at. ordered k p (slice_get-push_cases pieces piece k p at);
  cut = λ k p at. cut k p (slice_get-push_cases pieces piece k p at);
  numbered = λ k p t at tok.
      numbered k p t (slice_get-push_cases pieces piece k p at)
      (slice_get-push_cases (tokens_from text 0 pieces) last k t
      (subst (λ (l : List Token). slice_get l k ≡ Some t) (tokens_from-push text 0 pieces piece)
      tok));
  all =
      ap (λ (l : List (List ℕ)). with_text l token) are.all
      ∙ ap (with_text (different_texts (tokens_from text 0 pieces))) is
      ∙ sym (different_texts-push (tokens_from text 0 pieces) last)
      ∙ ap different_texts (sym (tokens_from-push text 0 pieces piece));
}
  where
    last : Token
    last = token_of text (end_from 0 pieces) piece

    same_len : length (tokens_from text 0 pieces) ≡ length pieces
    same_len = length-tokens_from text 0 pieces

    ordered : (k : ℕ) (p : Piece) →
        ((k < length pieces) × (slice_get pieces k ≡ Some p)) ⊎ ((k ≡ length pieces) × (piece ≡ p))
        →
        end_from 0 (take k (pieces ++ piece ∷ [])) ≤ p.end
    ordered k p (inl old) =
        let within : k ≤ length pieces = omega (arith, old.0) in
        rw take-append-le (are.ordered k p old.1)
    ordered k p (inr new) =
        let at_end : length pieces ≡ k = sym new.0 in
        rw (take_at pieces (piece ∷ []) k at_end)
        (subst (λ (q : Piece). end_from 0 pieces ≤ q.end) new.1 later)

    cut : (k : ℕ) (p : Piece) →
        ((k < length pieces) × (slice_get pieces k ≡ Some p)) ⊎ ((k ≡ length pieces) × (piece ≡ p))
        →
        IsCharBoundary text p.end
    cut k p (inl old) = are.cut k p old.1
    cut k p (inr new) = subst (λ (q : Piece). IsCharBoundary text q.end) new.1 boundary

    numbered : (k : ℕ) (p : Piece) (t : Token) →
        ((k < length pieces) × (slice_get pieces k ≡ Some p)) ⊎ ((k ≡ length pieces) × (piece ≡ p))
        →
        ((k < length (tokens_from text 0 pieces)) ×
        (slice_get (tokens_from text 0 pieces) k ≡ Some t))
        ⊎ ((k ≡ length (tokens_from text 0 pieces)) × (last ≡ t)) →
        slice_get (with_text different token) p.number ≡ Some t.text
    numbered k p t (inl old) (inl old_token) =
        with_text-keeps different token p.number t.text (are.numbered k p t old.1 old_token.1)
    numbered k p t (inl old) (inr new_token) = absurd (omega (arith, old.0, new_token.0, same_len))
    numbered k p t (inr new) (inl old_token) = absurd (omega (arith, new.0, old_token.0, same_len))
    numbered k p t (inr new) (inr new_token) =
        subst (λ (q : Piece). slice_get (with_text different token) q.number ≡ Some t.text) new.1
        (number ∙ ap Some (is ∙ ap (λ (u : Token). u.text) new_token.1))

-- a place of a token is a place of a piece
pub within_pieces : (text : List ℕ) (pieces : List Piece) (tokens : List Token) (i : ℕ) →
    tokens_from text 0 pieces ≡ tokens → i < length tokens → i < length pieces
within_pieces text pieces tokens i is within =
    let same : length (tokens_from text 0 pieces) ≡ length pieces =
    length-tokens_from text 0 pieces in
    let view : length (tokens_from text 0 pieces) ≡ length tokens = ap length is in
    omega arith

pub piece_at : (pieces : List Piece) (i : ℕ) → i < length pieces →
    (piece : Piece) × (slice_get pieces i ≡ Some piece)
piece_at [] i within = absurd (omega arith)
piece_at (piece ∷ pieces) zero within = (piece, refl)
piece_at (piece ∷ pieces) (suc i) within = piece_at pieces i (omega arith)
