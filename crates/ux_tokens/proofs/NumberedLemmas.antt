-- The tokens of a block are numbered one by one.
use Rattle.std.proofs.Common.{◌≡◌, ℕ, ◌+◌, ◌-◌, ◌<◌, ◌≤◌, List, [], ◌∷◌, ◌++◌, Bool, true, false, get_or, set, length, take, drop, Some, refl, sym, ◌∙◌, ap, subst, append_assoc, arith}
use Rattle.std.specs.List.{slice_get, slice_range, list_any}
use Rattle.std.specs.Str.{IsUtf8, bytes_eq}
use Rattle.std.proofs.lemmas.List.{length-append, length-take-le, length_push, take_all, take_more, take_more_set}
use Rattle.ux_alphabet.specs.Letters.{Letters}
use Rattle.ux_tokens.specs.declared.kind.Kind.{Kind}
use Rattle.ux_tokens.specs.declared.kind.Kind.TheVariants.{Word, Space}
use Rattle.ux_tokens.specs.declared.piece.Piece.{Piece}
use Rattle.ux_tokens.specs.declared.cutting.TheConstants.{MAX_TOKENS}
use Rattle.ux_tokens.specs.Blocks.{AreFronts, IsTokenAt, last_from}
use Rattle.ux_tokens.specs.Columns.{pieces_from}
use Rattle.ux_tokens.specs.Cutting.{IsSoFar}
use Rattle.ux_base.specs.Distinct.{with_text}
use Rattle.ux_tokens.specs.Tokens.{IsTokenText, SPACE}
use Rattle.ux_tokens.proofs.BlocksLemmas.{token_here}
use Rattle.ux_tokens.proofs.ColumnsLemmas.{length-pieces_from, pieces_from-push}
use Rattle.ux_tokens.proofs.CuttingLemmas.{so_far_next}
use Rattle.ux_base.proofs.DistinctLemmas.{with_text-known, with_text-new}

-- a text more is one more at most
pub length-with_text : (texts : List (List ℕ)) (text : List ℕ) →
    length (with_text texts text) ≤ length texts + 1
length-with_text texts text = by (list_any (bytes_eq text) texts) refl
  where
    by : (known : Bool) → list_any (bytes_eq text) texts ≡ known →
        length (with_text texts text) ≤ length texts + 1
    by true is = let same = ap length (with_text-known texts text is) in omega (arith, same)
    by false is =
        let same = ap length (with_text-new texts text is) in
        let longer = length_push texts text in
        omega (arith, same, longer)

pub space_text : (alphabet : Letters) (kind : Kind) (text : List ℕ) →
    IsTokenText alphabet kind text → kind ≡ Space → text ≡ SPACE ∷ []
space_text alphabet kind text is space =
    subst (λ (k : Kind). IsTokenText alphabet k text) space is

-- the front of the rest of a text
pub front_is : (front rest text : List ℕ) (from len : ℕ) → front ≡ slice_range rest 0 len →
    rest ≡ drop from text → front ≡ take len (drop from text)
front_is front rest text from len is behind =
    let same : len - 0 ≡ len = omega arith in
    is ∙ ap (λ (n : ℕ). take n rest) same ∙ ap (take len) behind

-- where all of a column is taken, it is the column
pub all_taken : (i : ℕ) (ends numbers : List ℕ) (kinds : List Kind) → length ends ≤ i →
    length numbers ≤ i → length kinds ≤ i →
    pieces_from (take i ends) (take i numbers) (take i kinds) ≡ pieces_from ends numbers kinds
all_taken i ends numbers kinds all all_numbers all_kinds =
    ap (λ (l : List ℕ). pieces_from l (take i numbers) (take i kinds)) (take_all i ends all)
    ∙ ap (λ (l : List ℕ). pieces_from ends l (take i kinds)) (take_all i numbers all_numbers)
    ∙ ap (λ (l : List Kind). pieces_from ends numbers l) (take_all i kinds all_kinds)

module _ (alphabet : Letters) (text : List ℕ) (utf8 : IsUtf8 text) where
  -- the next token of the block is the next of the text
  pub number_more : (start i from number : ℕ) (ends given : List ℕ) (kinds : List Kind)
      (pieces : List Piece) (texts more : List (List ℕ)) →
      AreFronts alphabet text start ends kinds → i < length ends → length given ≡ length ends →
      length pieces + length ends ≤ MAX_TOKENS → from ≡ last_from start (take i ends) →
      IsSoFar alphabet text from
      (pieces ++ pieces_from (take i ends) (take i given) (take i kinds)) texts →
      more ≡ with_text texts (take (get_or ends i 0 - from) (drop from text)) →
      slice_get more number ≡ Some (take (get_or ends i 0 - from) (drop from text)) →
      IsSoFar alphabet text (get_or ends i 0)
      (pieces ++ pieces_from (take (i + 1) ends) (take (i + 1) (set given i number))
      (take (i + 1) kinds)) more
  number_more start i from number ends given kinds pieces texts more fronts within even few is
      so_far known place =
      subst (λ (l : List Piece). IsSoFar alphabet text end l more) grown
      (subst (λ (n : ℕ). IsSoFar alphabet text n
      (before ++ record { end = n; number = number; kind = kind } ∷ []) more) end_is
      (so_far_next alphabet text utf8 from before texts more (drop from text)
      (record { end = end - from; number = number; kind = kind }) so_far room refl token.1 known
      place))
    where
      end : ℕ
      end = get_or ends i 0

      kind : Kind
      kind = get_or kinds i Word

      batch : List Piece
      batch = pieces_from (take i ends) (take i given) (take i kinds)

      before : List Piece
      before = pieces ++ batch

      piece : Piece
      piece = record { end = end; number = number; kind = kind }

      even_kinds : length kinds ≡ length ends
      even_kinds = fronts.even

      token : IsTokenAt alphabet text from end kind
      token = token_here alphabet text start i from ends kinds fronts within is

      end_is : from + (end - from) ≡ end
      end_is = omega (arith, token.0)

      len_ends : length (take i ends) ≡ i
      len_ends = length-take-le i ends (omega (arith, within))

      len_given : length (take i given) ≡ i
      len_given = length-take-le i given (omega (arith, within, even))

      len_kinds : length (take i kinds) ≡ i
      len_kinds = length-take-le i kinds (omega (arith, within, even_kinds))

      room : length before < MAX_TOKENS
      room =
          let parts : length before ≡ length pieces + length batch = length-append pieces batch in
          let some : length batch ≡ length (take i given) =
          length-pieces_from (take i ends) (take i given) (take i kinds) (len_ends ∙ sym len_given)
          (len_kinds ∙ sym len_given) in
          omega (arith, parts, some, len_given, within, few)

      pushed : pieces_from (take (i + 1) ends) (take (i + 1) (set given i number))
          (take (i + 1) kinds) ≡ batch ++ piece ∷ []
      pushed =
          ap (λ (l : List ℕ).
          pieces_from l (take (i + 1) (set given i number)) (take (i + 1) kinds))
          (take_more ends i 0 within)
          ∙ ap (λ (l : List ℕ). pieces_from (take i ends ++ end ∷ []) l (take (i + 1) kinds))
          (take_more_set given i number (omega (arith, within, even)))
          ∙ ap (λ (l : List Kind).
          pieces_from (take i ends ++ end ∷ []) (take i given ++ number ∷ []) l)
          (take_more kinds i Word (omega (arith, within, even_kinds)))
          ∙ pieces_from-push (take i ends) (take i given) (take i kinds) end number kind
          (len_ends ∙ sym len_given) (len_kinds ∙ sym len_given)

      grown : before ++ piece ∷ [] ≡ pieces ++ pieces_from (take (i + 1) ends)
          (take (i + 1) (set given i number)) (take (i + 1) kinds)
      grown =
          append_assoc pieces batch (piece ∷ [])
          ∙ ap (λ (l : List Piece). pieces ++ l) (sym pushed)
