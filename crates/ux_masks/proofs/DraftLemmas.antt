-- Names are read one after the other: what is read is a row of names, and what it asks for.
use Rattle.std.proofs.Common.{arith, ◌≡◌, ℕ, ◌<◌, List, [], ◌∷◌, ◌++◌, Bool, true, false, cond, refl, sym, ◌∙◌, ap, append_assoc, append-nil, length, drop, get_or, Option, None, Some}
use Rattle.std.proofs.lemmas.Bool.{both_ways, eqb-true}
use Rattle.std.specs.Prelude.{◌==◌}
use Rattle.std.specs.Str.{IsUtf8, IsCharBoundary}
use Rattle.std.proofs.lemmas.Str.{IsCharBoundary-after_ascii}
use Rattle.ux_dela.specs.Written.{Written, bare, written, IsPart}
use Rattle.ux_dela.specs.Reading.{characters, IsPartEnd, IsSplit}
use Rattle.ux_dela.proofs.CharactersLemmas.{written-append, written-characters}
use Rattle.ux_dela.proofs.CutLemmas.{characters_some}
use Rattle.ux_masks.specs.declared.lexical.Parts.{Parts}
use Rattle.ux_masks.specs.declared.sign.Sign.{Sign}
use Rattle.ux_masks.specs.declared.sign.Sign.TheVariants.{Comma, Dot, Plus, Tilde, Colon}
use Rattle.ux_masks.specs.Signs.{COMMA, DOT, PLUS, TILDE, COLON, is_sign}
use Rattle.ux_masks.specs.Texts.{IsName}
use Rattle.ux_masks.specs.Reading.{IsBodyText}
use Rattle.ux_masks.specs.Pieces.{Piece, piece, byte_of, sign_of, sign_at, joined, may_follow, needs_name, IsPiece, AreInOrder, last_sign, begun, with_piece, with_pieces, first_sign}
use Rattle.ux_masks.proofs.PiecesLemmas.{joined-append}
use Rattle.ux_masks.proofs.RowLemmas.{row_body, row_text, row_asks}

-- the sign behind the first name, in the pieces or in what is left
abbrev next_of : List Piece → List ℕ → Option Sign
next_of [] rest = sign_at rest
next_of (piece sign name ∷ pieces) rest = Some sign

-- what was read so far, and what is left
pub record IsDraft (text : List ℕ) (last : Option Sign) (draft : Parts) (rest : List ℕ)
    : Type 0 where
  pub first : List Written
  pub pieces : List Piece
  pub is_name : IsName first
  pub order : AreInOrder None pieces
  pub whole : text ≡ written (first ++ joined pieces) ++ rest
  pub ends : IsPartEnd is_sign rest
  pub is_last : last ≡ last_sign None pieces
  pub asks : draft ≡ with_pieces (begun first (next_of pieces rest)) pieces

-- a first name is read
pub draft_begun : (text name rest : List ℕ) (draft : Parts) → IsSplit is_sign text name rest →
    0 < length name → draft ≡ begun (characters name) (sign_at rest) → IsDraft text None draft rest
draft_begun text name rest draft split some asks = record {
  first = characters name;
  pieces = [];
  is_name = record { some = characters_some name some; part = split.part };
  order = tt;
  whole = split.whole
      ∙ ap (λ t. t ++ rest) (sym (ap written (append-nil (characters name))
      ∙ written-characters name));
  ends = split.ends;
  is_last = refl;
  asks = asks;
}

pub order-push : (last : Option Sign) (pieces : List Piece) (sign : Sign) (name : List Written) →
    AreInOrder last pieces → may_follow (last_sign last pieces) sign ≡ true → IsPiece sign name →
    AreInOrder last (pieces ++ piece sign name ∷ [])
order-push last [] sign name are may is = (may, is, tt)
order-push last (piece other n ∷ pieces) sign name are may is =
    (are.0, are.1, order-push (Some other) pieces sign name are.2 may is)

last_sign-push : (last : Option Sign) (pieces : List Piece) (sign : Sign) (name : List Written) →
    last_sign last (pieces ++ piece sign name ∷ []) ≡ Some sign
last_sign-push last [] sign name = refl
last_sign-push last (piece other n ∷ pieces) sign name = last_sign-push (Some other) pieces sign name

with_pieces-push : (parts : Parts) (pieces : List Piece) (sign : Sign) (name : List Written) →
    with_pieces parts (pieces ++ piece sign name ∷ [])
    ≡ with_piece (with_pieces parts pieces) sign name
with_pieces-push parts [] sign name = refl
with_pieces-push parts (piece other n ∷ pieces) sign name =
    with_pieces-push (with_piece parts other n) pieces sign name

next_of-push : (pieces : List Piece) (rest left : List ℕ) (sign : Sign) (name : List Written) →
    sign_at rest ≡ Some sign →
    next_of pieces rest ≡ next_of (pieces ++ piece sign name ∷ []) left
next_of-push [] rest left sign name is = is
next_of-push (piece other n ∷ pieces) rest left sign name is = refl

-- the byte of a sign
module _ (b : ℕ) (sign : Sign) where
  byte_at : (t u v w x : Bool) → (t ≡ true → b ≡ COMMA) → (u ≡ true → b ≡ DOT) →
      (v ≡ true → b ≡ PLUS) → (w ≡ true → b ≡ TILDE) → (x ≡ true → b ≡ COLON) →
      cond t (Some Comma) (cond u (Some Dot) (cond v (Some Plus) (cond w (Some Tilde)
      (cond x (Some Colon) None)))) ≡ Some sign → b ≡ byte_of sign
  byte_at true u v w x p q r s y e = let same : Comma ≡ sign = cc in p refl ∙ ap byte_of same
  byte_at false true v w x p q r s y e = let same : Dot ≡ sign = cc in q refl ∙ ap byte_of same
  byte_at false false true w x p q r s y e =
      let same : Plus ≡ sign = cc in r refl ∙ ap byte_of same
  byte_at false false false true x p q r s y e =
      let same : Tilde ≡ sign = cc in s refl ∙ ap byte_of same
  byte_at false false false false true p q r s y e =
      let same : Colon ≡ sign = cc in y refl ∙ ap byte_of same
  byte_at false false false false false p q r s y e = absurd (let none : None ≡ Some sign = e in cc)

  pub byte_from_sign : sign_of b ≡ Some sign → b ≡ byte_of sign
  byte_from_sign e =
      byte_at (b == COMMA) (b == DOT) (b == PLUS) (b == TILDE) (b == COLON) (eqb-true b COMMA)
      (eqb-true b DOT) (eqb-true b PLUS) (eqb-true b TILDE) (eqb-true b COLON) e

pub sign_from_byte : (sign : Sign) → sign_of (byte_of sign) ≡ Some sign
sign_from_byte Comma = refl
sign_from_byte Dot = refl
sign_from_byte Plus = refl
sign_from_byte Tilde = refl
sign_from_byte Colon = refl

pub sign_small : (sign : Sign) → byte_of sign < 128
sign_small Comma = omega arith
sign_small Dot = omega arith
sign_small Plus = omega arith
sign_small Tilde = omega arith
sign_small Colon = omega arith

-- a text that begins with a sign
pub begins_with_sign : (rest : List ℕ) (sign : Sign) → sign_at rest ≡ Some sign →
    rest ≡ byte_of sign ∷ drop 1 rest
begins_with_sign [] sign is = absurd (let none : None ≡ Some sign = is in cc)
begins_with_sign (b ∷ rest) sign is =
    ap (λ x. x ∷ rest) (byte_from_sign b sign is)

-- a text may be cut behind a sign in front
pub cut_behind_sign : (rest : List ℕ) (sign : Sign) → IsUtf8 rest → sign_at rest ≡ Some sign →
    IsCharBoundary rest 1
cut_behind_sign rest sign utf8 is =
    let e = begins_with_sign rest sign is in
    IsCharBoundary-after_ascii rest 0 utf8 (omega (arith, ap length e))
    (let first : get_or rest 0 0 ≡ byte_of sign = ap (λ t. get_or t 0 0) e in
    omega (arith, first, sign_small sign))

-- how a row goes on
pub row_push : (first : List Written) (pieces : List Piece) (sign : Sign) (name : List Written) →
    first ++ joined (pieces ++ piece sign name ∷ [])
    ≡ (first ++ joined pieces) ++ bare (byte_of sign) ∷ name
row_push first pieces sign name =
    ap (λ t. first ++ t) (joined-append pieces (piece sign name ∷ [])
    ∙ ap (λ t. joined pieces ++ bare (byte_of sign) ∷ t) (append-nil name))
    ∙ sym (append_assoc first (joined pieces) (bare (byte_of sign) ∷ name))

row_whole : (text rest front left : List ℕ) (w : List Written) (sign : Sign) →
    text ≡ written w ++ rest → rest ≡ byte_of sign ∷ (front ++ left) →
    text ≡ written (w ++ bare (byte_of sign) ∷ characters front) ++ left
row_whole text rest front left w sign e f =
    e ∙ ap (λ t. written w ++ t) f
    ∙ ap (λ t. written w ++ byte_of sign ∷ (t ++ left)) (sym (written-characters front))
    ∙ sym (append_assoc (written w) (byte_of sign ∷ written (characters front)) left)
    ∙ ap (λ t. t ++ left) (sym (written-append w (bare (byte_of sign) ∷ characters front)))

a_piece : (sign : Sign) (name : List ℕ) → IsPart is_sign (characters name) →
    (length name ≡ 0 → needs_name sign ≡ false) → IsPiece sign (characters name)
a_piece sign [] part free = record {
  part = part;
  some = λ needs. absurd (both_ways (needs_name sign) (free refl) needs);
}
a_piece sign (b ∷ name) part free = record {
  part = part;
  some = λ needs. characters_some (b ∷ name) (omega arith);
}

-- a name more is read
pub draft_more : (text rest name left behind : List ℕ) (last : Option Sign) (sign : Sign)
    (draft now : Parts) → IsDraft text last draft rest → sign_at rest ≡ Some sign →
    may_follow last sign ≡ true → behind ≡ drop 1 rest → IsSplit is_sign behind name left →
    (length name ≡ 0 → needs_name sign ≡ false) → now ≡ with_piece draft sign (characters name) →
    IsDraft text (Some sign) now left
draft_more text rest name left behind last sign draft now d is may e split free asks =
    let n = characters name in
    let pieces = d.pieces ++ piece sign n ∷ [] in
    let whole : rest ≡ byte_of sign ∷ (name ++ left) =
    begins_with_sign rest sign is
    ∙ ap (λ t. byte_of sign ∷ t) (sym e ∙ split.whole) in
    record {
      first = d.first;
      pieces = pieces;
      is_name = d.is_name;
      order = order-push None d.pieces sign n d.order
          (ap (λ l. may_follow l sign) (sym d.is_last) ∙ may) (a_piece sign name split.part free);
      whole = row_whole text rest name left (d.first ++ joined d.pieces) sign d.whole whole
          ∙ ap (λ t. written t ++ left) (sym (row_push d.first d.pieces sign n));
      ends = split.ends;
      is_last = sym (last_sign-push None d.pieces sign n);
      asks = asks
          ∙ ap (λ p. with_piece p sign n) d.asks
          ∙ sym (with_pieces-push (begun d.first (next_of d.pieces rest)) d.pieces sign n)
          ∙ ap (λ s. with_pieces (begun d.first s) pieces) (next_of-push d.pieces rest left sign n is);
    }

next_of-end : (pieces : List Piece) → next_of pieces [] ≡ first_sign pieces
next_of-end [] = refl
next_of-end (piece sign name ∷ pieces) = refl

-- all is read
pub draft_whole : (text rest : List ℕ) (last : Option Sign) (draft : Parts) →
    IsDraft text last draft rest → rest ≡ [] → IsBodyText text draft
draft_whole text rest last draft d none =
    let row = row_body d.first d.pieces d.is_name d.order in
    record {
      body = row.body;
      is = row.is;
      whole = d.whole
          ∙ ap (λ t. written (d.first ++ joined d.pieces) ++ t) none
          ∙ append-nil (written (d.first ++ joined d.pieces))
          ∙ ap written (sym (row_text d.first d.pieces row));
      asks = d.asks
          ∙ ap (λ r. with_pieces (begun d.first (next_of d.pieces r)) d.pieces) none
          ∙ ap (λ s. with_pieces (begun d.first s) d.pieces) (next_of-end d.pieces)
          ∙ row_asks d.first d.pieces row;
    }
