-- A body has no backslash that protects nothing, and doesn't begin with an exclamation mark.
use Rattle.std.proofs.Common.{arith, ◌≡◌, ℕ, List, [], ◌∷◌, ◌++◌, true, refl, sym, ◌∙◌, ap, subst, Option, None, Some}
use Rattle.std.proofs.lemmas.Bool.{both_ways}
use Rattle.ux_dela.specs.Signs.{BACKSLASH}
use Rattle.ux_dela.specs.Written.{Written, bare, protected, written, IsPart, is_end}
use Rattle.ux_dela.proofs.CharactersLemmas.{IsPart-append}
use Rattle.ux_dela.proofs.RunLemmas.{is_none_stop, IsClosed, closed_part}
use Rattle.ux_masks.specs.declared.sign.Sign.TheVariants.{Comma, Dot, Plus, Tilde, Colon}
use Rattle.ux_masks.specs.declared.sign.Sign.{Sign}
use Rattle.ux_masks.specs.Signs.{EXCLAMATION, is_sign}
use Rattle.ux_masks.specs.Pieces.{Piece, piece, byte_of, joined, AreInOrder}
use Rattle.ux_masks.specs.Texts.{IsName, Body, IsBody, body_text}
use Rattle.ux_masks.proofs.BodyPiecesLemmas.{first_of, first_name, pieces_of, body_joined, body_in_order}

sign_closed : (sign : Sign) (rest : List Written) → IsClosed rest →
    IsClosed (bare (byte_of sign) ∷ rest)
sign_closed Comma rest closed = (refl, closed)
sign_closed Dot rest closed = (refl, closed)
sign_closed Plus rest closed = (refl, closed)
sign_closed Tilde rest closed = (refl, closed)
sign_closed Colon rest closed = (refl, closed)

pub pieces_closed : (last : Option Sign) (pieces : List Piece) → AreInOrder last pieces →
    IsClosed (joined pieces)
pieces_closed last [] are = tt
pieces_closed last (piece sign name ∷ pieces) are =
    sign_closed sign (name ++ joined pieces)
    (IsPart-append is_none_stop name (joined pieces) (closed_part is_sign name are.1.part)
    (pieces_closed (Some sign) pieces are.2))

pub row_closed : (last : Option Sign) (first : List Written) (pieces : List Piece) →
    IsPart is_sign first → AreInOrder last pieces → IsClosed (first ++ joined pieces)
row_closed last first pieces part are =
    IsPart-append is_none_stop first (joined pieces) (closed_part is_sign first part)
    (pieces_closed last pieces are)

pub body_closed : (body : Body) → IsBody body → IsClosed (body_text body)
body_closed body is =
    subst (λ (t : List Written). IsClosed t) (sym (body_joined body))
    (row_closed None (first_of body.target) (pieces_of body)
    (first_name body.target is.target).part (body_in_order body is))

pub same_head : (b c : ℕ) (v w : List ℕ) → b ∷ v ≡ c ∷ w → b ≡ c
same_head b c v w e = cc

ends_name : (b : ℕ) → b ≡ EXCLAMATION → is_end is_sign b ≡ true
ends_name b e = ap (is_end is_sign) e

no_sign_first : (name rest : List Written) (later : List ℕ) → IsName name →
    written (name ++ rest) ≡ EXCLAMATION ∷ later → ⊥
no_sign_first [] rest later is e = is.some refl
no_sign_first (bare b ∷ name) rest later is e =
    both_ways (is_end is_sign b) is.part.0
    (ends_name b (same_head b EXCLAMATION (written (name ++ rest)) later e))
no_sign_first (protected b ∷ name) rest later is e =
    let same = same_head BACKSLASH EXCLAMATION (b ∷ written (name ++ rest)) later e in
    absurd (omega (arith, same))

pub no_exclamation : (body : Body) (later : List ℕ) → IsBody body →
    written (body_text body) ≡ EXCLAMATION ∷ later → ⊥
no_exclamation body later is e =
    no_sign_first (first_of body.target) (joined (pieces_of body)) later
    (first_name body.target is.target) (ap written (sym (body_joined body)) ∙ e)
