-- Columns that grow by one at the end are pieces that grow by one.
use Rattle.std.proofs.Common.{◌≡◌, ℕ, zero, suc, ◌-◌, ◌<◌, ◌≤◌, List, [], ◌∷◌, ◌++◌, length, Some, refl, sym, ◌∙◌, ap, subst, arith}
use Rattle.std.specs.List.{slice_get}
use Rattle.std.proofs.lemmas.List.{append-nil}
use Rattle.std.proofs.lemmas.Option.{none-some, same_Some}
use Rattle.ux_tokens.specs.declared.kind.Kind.{Kind}
use Rattle.ux_tokens.specs.declared.piece.Piece.{Piece}
use Rattle.ux_tokens.specs.Columns.{pieces_from}

abbrev piece : ℕ → ℕ → Kind → Piece
piece end number kind = record { end = end; number = number; kind = kind }

pub pieces_from-push : (ends numbers : List ℕ) (kinds : List Kind) (end number : ℕ) (kind : Kind) →
    length ends ≡ length numbers → length kinds ≡ length numbers →
    pieces_from (ends ++ end ∷ []) (numbers ++ number ∷ []) (kinds ++ kind ∷ [])
    ≡ pieces_from ends numbers kinds ++ piece end number kind ∷ []
pieces_from-push [] [] [] end number kind same same_kinds = refl
pieces_from-push [] [] (k ∷ kinds) end number kind same same_kinds = absurd (omega (arith, same_kinds))
pieces_from-push [] (n ∷ numbers) kinds end number kind same same_kinds = absurd (omega (arith, same))
pieces_from-push (e ∷ ends) [] kinds end number kind same same_kinds = absurd (omega (arith, same))
pieces_from-push (e ∷ ends) (n ∷ numbers) [] end number kind same same_kinds =
    absurd (omega (arith, same_kinds))
pieces_from-push (e ∷ ends) (n ∷ numbers) (k ∷ kinds) end number kind same same_kinds =
    ap (λ (l : List Piece). piece e n k ∷ l)
    (pieces_from-push ends numbers kinds end number kind (omega (arith, same))
    (omega (arith, same_kinds)))

pub pieces_from-append : (ends numbers : List ℕ) (kinds : List Kind) (more_ends more : List ℕ)
    (more_kinds : List Kind) → length ends ≡ length numbers → length kinds ≡ length numbers →
    pieces_from (ends ++ more_ends) (numbers ++ more) (kinds ++ more_kinds)
    ≡ pieces_from ends numbers kinds ++ pieces_from more_ends more more_kinds
pieces_from-append [] [] [] more_ends more more_kinds same same_kinds = refl
pieces_from-append [] [] (k ∷ kinds) more_ends more more_kinds same same_kinds =
    absurd (omega (arith, same_kinds))
pieces_from-append [] (n ∷ numbers) kinds more_ends more more_kinds same same_kinds =
    absurd (omega (arith, same))
pieces_from-append (e ∷ ends) [] kinds more_ends more more_kinds same same_kinds =
    absurd (omega (arith, same))
pieces_from-append (e ∷ ends) (n ∷ numbers) [] more_ends more more_kinds same same_kinds =
    absurd (omega (arith, same_kinds))
pieces_from-append (e ∷ ends) (n ∷ numbers) (k ∷ kinds) more_ends more more_kinds same same_kinds =
    ap (λ (l : List Piece). piece e n k ∷ l)
    (pieces_from-append ends numbers kinds more_ends more more_kinds (omega (arith, same))
    (omega (arith, same_kinds)))

-- places in four bytes go after all others where no other has eight
pub near_more : (near more far : List ℕ) → far ≡ [] →
    (near ++ more) ++ far ≡ (near ++ far) ++ more
near_more near more far none =
    ap (λ (l : List ℕ). (near ++ more) ++ l) none
    ∙ append-nil (near ++ more)
    ∙ ap (λ (l : List ℕ). l ++ more) (sym (append-nil near))
    ∙ ap (λ (l : List ℕ). (near ++ l) ++ more) (sym none)

pub length-pieces_from : (ends numbers : List ℕ) (kinds : List Kind) →
    length ends ≡ length numbers → length kinds ≡ length numbers →
    length (pieces_from ends numbers kinds) ≡ length numbers
length-pieces_from [] [] kinds same same_kinds = refl
length-pieces_from [] (n ∷ numbers) kinds same same_kinds = absurd (omega (arith, same))
length-pieces_from (e ∷ ends) [] kinds same same_kinds = absurd (omega (arith, same))
length-pieces_from (e ∷ ends) (n ∷ numbers) [] same same_kinds =
    absurd (omega (arith, same_kinds))
length-pieces_from (e ∷ ends) (n ∷ numbers) (k ∷ kinds) same same_kinds =
    ap suc (length-pieces_from ends numbers kinds (omega (arith, same)) (omega (arith, same_kinds)))

-- a place of a piece is one of each column
pub within_columns : (ends numbers : List ℕ) (kinds : List Kind) (i : ℕ) →
    i < length (pieces_from ends numbers kinds) →
    (i < length ends) × (i < length numbers) × (i < length kinds)
within_columns [] numbers kinds i within = absurd (omega (arith, within))
within_columns (e ∷ ends) [] kinds i within = absurd (omega (arith, within))
within_columns (e ∷ ends) (n ∷ numbers) [] i within = absurd (omega (arith, within))
within_columns (e ∷ ends) (n ∷ numbers) (k ∷ kinds) zero within =
    (omega arith, omega arith, omega arith)
within_columns (e ∷ ends) (n ∷ numbers) (k ∷ kinds) (suc i) within =
    let later = within_columns ends numbers kinds i (omega (arith, within)) in
    (omega (arith, later.0), omega (arith, later.1), omega (arith, later.2))

-- the piece at a place has what stands there in each column
pub slice_get-pieces_from : (ends numbers : List ℕ) (kinds : List Kind) (i end number : ℕ)
    (kind : Kind) →
    slice_get ends i ≡ Some end → slice_get numbers i ≡ Some number →
    slice_get kinds i ≡ Some kind →
    slice_get (pieces_from ends numbers kinds) i ≡ Some (piece end number kind)
slice_get-pieces_from [] numbers kinds i end number kind at_end at_number at_kind =
    absurd (none-some end at_end)
slice_get-pieces_from (e ∷ ends) [] kinds i end number kind at_end at_number at_kind =
    absurd (none-some number at_number)
slice_get-pieces_from (e ∷ ends) (n ∷ numbers) [] i end number kind at_end at_number at_kind =
    absurd (none-some kind at_kind)
slice_get-pieces_from (e ∷ ends) (n ∷ numbers) (k ∷ kinds) zero end number kind at_end at_number
    at_kind =
    ap (λ (x : ℕ). Some (piece x n k)) (same_Some e end at_end)
    ∙ ap (λ (x : ℕ). Some (piece end x k)) (same_Some n number at_number)
    ∙ ap (λ (x : Kind). Some (piece end number x)) (same_Some k kind at_kind)
slice_get-pieces_from (e ∷ ends) (n ∷ numbers) (k ∷ kinds) (suc i) end number kind at_end at_number
    at_kind =
    slice_get-pieces_from ends numbers kinds i end number kind at_end at_number at_kind

-- a place in the second of two lists
pub slice_get-behind : (xs ys : List ℕ) (i x : ℕ) → length xs ≤ i →
    slice_get ys (i - length xs) ≡ Some x → slice_get (xs ++ ys) i ≡ Some x
slice_get-behind [] ys i x later at =
    let same : i - 0 ≡ i = omega arith in
    subst (λ (n : ℕ). slice_get ys n ≡ Some x) same at
slice_get-behind (y ∷ xs) ys zero x later at = absurd (omega (arith, later))
slice_get-behind (y ∷ xs) ys (suc i) x later at =
    let same : suc i - length (y ∷ xs) ≡ i - length xs = omega arith in
    slice_get-behind xs ys i x (omega (arith, later))
    (subst (λ (n : ℕ). slice_get ys n ≡ Some x) same at)
