-- The names of a text and their signs are found in one way.
use Rattle.std.proofs.Common.{◌≡◌, List, [], ◌∷◌, ◌++◌, refl, sym, ◌∙◌, ap, append_assoc, Option, Some}
use Rattle.ux_dela.specs.Written.{Written, bare, IsPart}
use Rattle.ux_dela.proofs.UniqueLemmas.{Stopped, one_front}
use Rattle.ux_masks.specs.declared.sign.Sign.{Sign}
use Rattle.ux_masks.specs.declared.sign.Sign.TheVariants.{Comma, Dot, Plus, Tilde, Colon}
use Rattle.ux_masks.specs.Signs.{is_sign}
use Rattle.ux_masks.specs.Pieces.{Piece, piece, byte_of, joined, AreInOrder}

pub joined-append : (ps qs : List Piece) → joined (ps ++ qs) ≡ joined ps ++ joined qs
joined-append [] qs = refl
joined-append (piece sign name ∷ ps) qs =
    ap (λ t. bare (byte_of sign) ∷ (name ++ t)) (joined-append ps qs)
    ∙ ap (λ t. bare (byte_of sign) ∷ t) (sym (append_assoc name (joined ps) (joined qs)))

-- a name ends before a piece
pub stops_name : (ps : List Piece) → Stopped is_sign (joined ps)
stops_name [] = tt
stops_name (piece Comma name ∷ ps) = refl
stops_name (piece Dot name ∷ ps) = refl
stops_name (piece Plus name ∷ ps) = refl
stops_name (piece Tilde name ∷ ps) = refl
stops_name (piece Colon name ∷ ps) = refl

-- the byte tells the sign
pub same_sign : (a b : Sign) → byte_of a ≡ byte_of b → a ≡ b
same_sign Comma Comma e = refl
same_sign Comma Dot e = cc
same_sign Comma Plus e = cc
same_sign Comma Tilde e = cc
same_sign Comma Colon e = cc
same_sign Dot Comma e = cc
same_sign Dot Dot e = refl
same_sign Dot Plus e = cc
same_sign Dot Tilde e = cc
same_sign Dot Colon e = cc
same_sign Plus Comma e = cc
same_sign Plus Dot e = cc
same_sign Plus Plus e = refl
same_sign Plus Tilde e = cc
same_sign Plus Colon e = cc
same_sign Tilde Comma e = cc
same_sign Tilde Dot e = cc
same_sign Tilde Plus e = cc
same_sign Tilde Tilde e = refl
same_sign Tilde Colon e = cc
same_sign Colon Comma e = cc
same_sign Colon Dot e = cc
same_sign Colon Plus e = cc
same_sign Colon Tilde e = cc
same_sign Colon Colon e = refl

-- a first name and pieces are found in one way
pub one_row : (v w : List Written) (ps qs : List Piece) (last other : Option Sign) →
    IsPart is_sign v → IsPart is_sign w → AreInOrder last ps → AreInOrder other qs →
    v ++ joined ps ≡ w ++ joined qs → (v ≡ w) × (ps ≡ qs)
one_row v w [] [] last other p q a b e =
    let front = one_front is_sign v w [] [] p q tt tt e in
    (front.0, refl)
one_row v w [] (piece s n ∷ qs) last other p q a b e =
    let front = one_front is_sign v w [] (joined (piece s n ∷ qs)) p q tt
    (stops_name (piece s n ∷ qs)) e in
    let not : [] ≡ joined (piece s n ∷ qs) = front.1 in
    (front.0, cc)
one_row v w (piece s n ∷ ps) [] last other p q a b e =
    let front = one_front is_sign v w (joined (piece s n ∷ ps)) [] p q
    (stops_name (piece s n ∷ ps)) tt e in
    let not : joined (piece s n ∷ ps) ≡ [] = front.1 in
    (front.0, cc)
one_row v w (piece s n ∷ ps) (piece t m ∷ qs) last other p q a b e =
    let front = one_front is_sign v w (joined (piece s n ∷ ps)) (joined (piece t m ∷ qs)) p q
    (stops_name (piece s n ∷ ps)) (stops_name (piece t m ∷ qs)) e in
    let both : bare (byte_of s) ∷ (n ++ joined ps) ≡ bare (byte_of t) ∷ (m ++ joined qs) =
    front.1 in
    let bytes : byte_of s ≡ byte_of t = cc in
    let later : n ++ joined ps ≡ m ++ joined qs = cc in
    let rest = one_row n m ps qs (Some s) (Some t) a.1.part b.1.part a.2 b.2 later in (
      front.0,
      ap (λ x. piece x n ∷ ps) (same_sign s t bytes)
          ∙ ap (λ x. piece t x ∷ ps) rest.0
          ∙ ap (λ x. piece t m ∷ x) rest.1,
    )
