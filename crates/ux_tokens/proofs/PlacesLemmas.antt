-- Where tokens lie: each begins where the one before it ends, and neighbouring ones join to a slice.
use Rattle.std.proofs.Common.{◌≡◌, ℕ, zero, suc, ◌+◌, ◌-◌, ◌<◌, ◌≤◌, List, ◌∷◌, ◌++◌, length, take, drop, Option, Some, IsSomeAnd, refl, sym, ◌∙◌, ap, subst, arith}
use Rattle.std.specs.List.{slice_get, slice_range}
use Rattle.std.specs.Str.{IsCharBoundary, IsUtf8}
use Rattle.std.proofs.lemmas.Str.{IsCharBoundary-start}
use Rattle.std.proofs.Math.Seq.{take-add}
use Rattle.std.proofs.lemmas.List.{drop_more, drop-drop}
use Rattle.std.proofs.lemmas.Option.{get_or_from_slice_get, slice_get_within}
use Rattle.ux_tokens.specs.declared.piece.Piece.{Piece}
use Rattle.ux_tokens.specs.Tokens.{Token, joined}
use Rattle.ux_tokens.specs.Pieces.{ArePieces, token_of, tokens_from, end_from}
use Rattle.ux_tokens.proofs.PiecesLemmas.{slice_get-tokens_from, end_from-take, piece_at}

-- where the token at a place begins
abbrev pub start_at : List Piece → ℕ → ℕ
start_at pieces i = end_from 0 (take i pieces)

-- after the start it is the end of the piece before
pub start_behind : (pieces : List Piece) (i : ℕ) (before : Piece) → 0 < i →
    slice_get pieces (i - 1) ≡ Some before → before.end ≡ start_at pieces i
start_behind pieces i before later at =
    let next : suc (i - 1) ≡ i = omega arith in
    sym (ap (start_at pieces) (sym next) ∙ end_from-take 0 pieces (i - 1) before at)

pub some_and : {X : Type 0} (o : Option X) (x : X) (P : X → Type 0) → o ≡ Some x → P x →
    IsSomeAnd o P
some_and o x P is holds = subst (λ (p : Option _). IsSomeAnd p P) (sym is) holds

-- two slices that follow each other join
slice_range-join : (text : List ℕ) (a b c : ℕ) → a ≤ b → b ≤ c →
    slice_range text a b ++ slice_range text b c ≡ slice_range text a c
slice_range-join text a b c ab bc =
    let at : a + (b - a) ≡ b = omega arith in
    let behind : drop (b - a) (drop a text) ≡ drop b text =
    drop-drop (b - a) a text ∙ ap (λ (n : ℕ). drop n text) at in
    let sum : b - a + (c - b) ≡ c - a = omega arith in
    ap (λ (l : List ℕ). slice_range text a b ++ take (c - b) l) (sym behind)
    ∙ sym (take-add (b - a) (c - b) (drop a text))
    ∙ ap (λ (n : ℕ). take n (drop a text)) sum

-- the same slice of equal texts
pub slice_same : (lent text : List ℕ) (pieces : List Piece) (i j : ℕ) → lent ≡ text →
    slice_range lent (start_at pieces i) (start_at pieces j)
    ≡ slice_range text (start_at pieces i) (start_at pieces j)
slice_same lent text pieces i j same =
    ap (λ (l : List ℕ). slice_range l (start_at pieces i) (start_at pieces j)) same

module _ (text : List ℕ) (pieces : List Piece) (different : List (List ℕ)) where
  -- each token begins at a place between two characters
  pub start_boundary : IsUtf8 text → ArePieces text pieces different → (i : ℕ) → i ≤ length pieces →
      IsCharBoundary text (start_at pieces i)
  start_boundary utf8 are zero within = IsCharBoundary-start text utf8
  start_boundary utf8 are (suc k) within =
      let piece = piece_at pieces k (omega arith) in
      subst (IsCharBoundary text) (sym (end_from-take 0 pieces k piece.0 piece.1))
      (are.cut k piece.0 piece.1)

  start_next : ArePieces text pieces different → (i : ℕ) → i < length pieces →
      start_at pieces i ≤ start_at pieces (suc i)
  start_next are i within =
      let piece = piece_at pieces i within in
      subst (λ (n : ℕ). start_at pieces i ≤ n) (sym (end_from-take 0 pieces i piece.0 piece.1))
      (are.ordered i piece.0 piece.1)

  pub start_in_order : ArePieces text pieces different → (n i : ℕ) → i + n ≤ length pieces →
      start_at pieces i ≤ start_at pieces (i + n)
  start_in_order are zero i within =
      let e : i + 0 ≡ i = omega arith in rw e (omega arith)
  start_in_order are (suc n) i within =
      let next : start_at pieces i ≤ start_at pieces (suc i) = start_next are i (omega arith) in
      let later : start_at pieces (suc i) ≤ start_at pieces (suc i + n) =
      start_in_order are n (suc i) (omega arith) in
      let e : i + suc n ≡ suc i + n = omega arith in
      rw e (omega arith)

  -- neighbouring tokens join to a slice of the text
  pub joined-slice : ArePieces text pieces different → (n i : ℕ) → i + n ≤ length pieces →
      joined (take n (drop i (tokens_from text 0 pieces)))
      ≡ slice_range text (start_at pieces i) (start_at pieces (i + n))
  joined-slice are zero i within =
      let e : i + 0 ≡ i = omega arith in
      let none : start_at pieces i - start_at pieces i ≡ 0 = omega arith in
      rw (e, none) refl
  joined-slice are (suc n) i within =
      let piece = piece_at pieces i (omega arith) in
      let tokens : List Token = tokens_from text 0 pieces in
      let token : Token = token_of text (start_at pieces i) piece.0 in
      let there : slice_get tokens i ≡ Some token =
      slice_get-tokens_from text 0 pieces i piece.0 piece.1 in
      let inside : i < length tokens = omega (arith, slice_get_within tokens i token there) in
      let up : i + 1 ≡ suc i = omega arith in
      let first : drop i tokens ≡ token ∷ drop (suc i) tokens =
      drop_more tokens i token inside
      ∙ ap (λ (t : Token). t ∷ drop (i + 1) tokens)
      (get_or_from_slice_get tokens i token token there)
      ∙ ap (λ (k : ℕ). token ∷ drop k tokens) up in
      let later : joined (take n (drop (suc i) tokens))
      ≡ slice_range text (start_at pieces (suc i)) (start_at pieces (suc i + n)) =
      joined-slice are n (suc i) (omega arith) in
      let ends : piece.0.end ≡ start_at pieces (suc i) =
      sym (end_from-take 0 pieces i piece.0 piece.1) in
      let e : suc i + n ≡ i + suc n = omega arith in
      ap (λ (l : List Token). joined (take (suc n) l)) first
      ∙ ap (λ (l : List ℕ). token.text ++ l) later
      ∙ ap (λ (m : ℕ). slice_range text (start_at pieces i) m
      ++ slice_range text (start_at pieces (suc i)) (start_at pieces (suc i + n))) ends
      ∙ slice_range-join text (start_at pieces i) (start_at pieces (suc i))
      (start_at pieces (suc i + n))
      (start_next are i (omega arith)) (start_in_order are n (suc i) (omega arith))
      ∙ ap (λ (m : ℕ). slice_range text (start_at pieces i) (start_at pieces m)) e

  -- what is known of the token at a place, by its piece
  pub token_text : (i : ℕ) (piece : Piece) (bytes : List ℕ) → slice_get pieces i ≡ Some piece →
      bytes ≡ slice_range text (start_at pieces i) (start_at pieces (i + 1)) →
      IsSomeAnd (slice_get (tokens_from text 0 pieces) i) (λ (t : Token). bytes ≡ t.text)
  token_text i piece bytes at is =
      let up : i + 1 ≡ suc i = omega arith in
      some_and _ (token_of text (start_at pieces i) piece) (λ (t : Token). bytes ≡ t.text)
      (slice_get-tokens_from text 0 pieces i piece at)
      (is ∙ ap (λ (k : ℕ). slice_range text (start_at pieces i) (start_at pieces k)) up
      ∙ ap (λ (e : ℕ). slice_range text (start_at pieces i) e) (end_from-take 0 pieces i piece at))

  pub token_kind : (i : ℕ) (piece : Piece) → slice_get pieces i ≡ Some piece →
      IsSomeAnd (slice_get (tokens_from text 0 pieces) i) (λ (t : Token). piece.kind ≡ t.kind)
  token_kind i piece at =
      some_and _ (token_of text (start_at pieces i) piece) (λ (t : Token). piece.kind ≡ t.kind)
      (slice_get-tokens_from text 0 pieces i piece at) refl

  pub token_number : ArePieces text pieces different → (i : ℕ) (piece : Piece) →
      slice_get pieces i ≡ Some piece →
      IsSomeAnd (slice_get (tokens_from text 0 pieces) i)
      (λ (t : Token). slice_get different piece.number ≡ Some t.text)
  token_number are i piece at =
      let token : Token = token_of text (start_at pieces i) piece in
      let there : slice_get (tokens_from text 0 pieces) i ≡ Some token =
      slice_get-tokens_from text 0 pieces i piece at in
      some_and _ token (λ (t : Token). slice_get different piece.number ≡ Some t.text) there
      (are.numbered i piece token at there)

  pub number_below : ArePieces text pieces different → (i : ℕ) (piece : Piece) →
      slice_get pieces i ≡ Some piece →
      piece.number < length different
  number_below are i piece at =
      let token : Token = token_of text (start_at pieces i) piece in
      slice_get_within different piece.number token.text
      (are.numbered i piece token at (slice_get-tokens_from text 0 pieces i piece at))
