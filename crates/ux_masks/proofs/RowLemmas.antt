-- A first name and pieces in order are a body.
use Rattle.std.proofs.Common.{◌≡◌, inl, inr, List, [], ◌∷◌, ◌++◌, Bool, true, false, refl, sym, ◌∙◌, ap, subst, Option, None, Some}
use Rattle.std.specs.Prelude.{All}
use Rattle.std.proofs.lemmas.Bool.{both_ways, cases_Bool}
use Rattle.std.proofs.lemmas.List.Elements.{All-nil, All-cons}
use Rattle.ux_dela.specs.Written.{Written, IsPart}
use Rattle.ux_masks.specs.declared.sign.Sign.{Sign}
use Rattle.ux_masks.specs.declared.sign.Sign.TheVariants.{Comma, Dot, Plus, Tilde, Colon}
use Rattle.ux_masks.specs.Signs.{is_sign}
use Rattle.ux_masks.specs.Texts.{IsName, Target, a_code, a_lemma, a_lemma_with, a_form, a_form_with, Asked, needed, forbidden, IsNameIfAny, IsTarget, if_any, Body, IsBody, body_text, parts_of}
use Rattle.ux_masks.specs.Pieces.{Piece, piece, joined, may_follow, needs_name, IsPiece, AreInOrder, is_code_name, asked_by}
use Rattle.ux_masks.proofs.CodeNameLemmas.{code_name, code_name_back}
use Rattle.ux_masks.proofs.BodyPiecesLemmas.{IsAsked, first_of, target_pieces, asked_pieces, colon_pieces, pieces_of, body_joined, body_asked}

-- codes and alternatives, as pieces
pub record AreLater (pieces : List Piece) : Type 0 where
  pub asked : List Asked
  pub alternatives : List (List Written)
  pub are_asked : All IsAsked asked
  pub are_alternatives : All IsName alternatives
  pub same : pieces ≡ asked_pieces asked ++ colon_pieces alternatives

a_name : (sign : Sign) (name : List Written) → IsPiece sign name → needs_name sign ≡ true →
    IsName name
a_name sign name is needs = record { some = is.some needs; part = is.part }

-- no comma or dot comes first
abbrev is_later : List Piece → Bool
is_later [] = true
is_later (piece Comma name ∷ pieces) = false
is_later (piece Dot name ∷ pieces) = false
is_later (piece Plus name ∷ pieces) = true
is_later (piece Tilde name ∷ pieces) = true
is_later (piece Colon name ∷ pieces) = true

later_than : (last : Sign) (pieces : List Piece) → may_follow (Some last) Comma ≡ false →
    may_follow (Some last) Dot ≡ false → AreInOrder (Some last) pieces → is_later pieces ≡ true
later_than last [] p q are = refl
later_than last (piece Comma name ∷ pieces) p q are =
    absurd (both_ways (may_follow (Some last) Comma) p are.0)
later_than last (piece Dot name ∷ pieces) p q are =
    absurd (both_ways (may_follow (Some last) Dot) q are.0)
later_than last (piece Plus name ∷ pieces) p q are = refl
later_than last (piece Tilde name ∷ pieces) p q are = refl
later_than last (piece Colon name ∷ pieces) p q are = refl

only_colons : (pieces : List Piece) → AreInOrder (Some Colon) pieces →
    (names : List (List Written)) × All IsName names × (pieces ≡ colon_pieces names)
only_colons [] are = ([], All-nil IsName, refl)
only_colons (piece Comma name ∷ pieces) are = absurd (let e : false ≡ true = are.0 in cc)
only_colons (piece Dot name ∷ pieces) are = absurd (let e : false ≡ true = are.0 in cc)
only_colons (piece Plus name ∷ pieces) are = absurd (let e : false ≡ true = are.0 in cc)
only_colons (piece Tilde name ∷ pieces) are = absurd (let e : false ≡ true = are.0 in cc)
only_colons (piece Colon name ∷ pieces) are =
    let rest = only_colons pieces are.2 in (
      name ∷ rest.0,
      All-cons IsName name rest.0 (a_name Colon name are.1 refl) rest.1,
      ap (λ ps. piece Colon name ∷ ps) rest.2,
    )

later : (last : Option Sign) (pieces : List Piece) → is_later pieces ≡ true →
    AreInOrder last pieces → AreLater pieces
later last [] is are = record {
  asked = [];
  alternatives = [];
  are_asked = All-nil IsAsked;
  are_alternatives = All-nil IsName;
  same = refl;
}
later last (piece Comma name ∷ pieces) is are = absurd (let e : false ≡ true = is in cc)
later last (piece Dot name ∷ pieces) is are = absurd (let e : false ≡ true = is in cc)
later last (piece Plus name ∷ pieces) is are =
    let rest = later (Some Plus) pieces (later_than Plus pieces refl refl are.2) are.2 in
    record {
      asked = needed name ∷ rest.asked;
      alternatives = rest.alternatives;
      are_asked = All-cons IsAsked (needed name) rest.asked (a_name Plus name are.1 refl)
          rest.are_asked;
      are_alternatives = rest.are_alternatives;
      same = ap (λ ps. piece Plus name ∷ ps) rest.same;
    }
later last (piece Tilde name ∷ pieces) is are =
    let rest = later (Some Tilde) pieces (later_than Tilde pieces refl refl are.2) are.2 in
    record {
      asked = forbidden name ∷ rest.asked;
      alternatives = rest.alternatives;
      are_asked = All-cons IsAsked (forbidden name) rest.asked (a_name Tilde name are.1 refl)
          rest.are_asked;
      are_alternatives = rest.are_alternatives;
      same = ap (λ ps. piece Tilde name ∷ ps) rest.same;
    }
later last (piece Colon name ∷ pieces) is are =
    let rest = only_colons pieces are.2 in
    record {
      asked = [];
      alternatives = name ∷ rest.0;
      are_asked = All-nil IsAsked;
      are_alternatives = All-cons IsName name rest.0 (a_name Colon name are.1 refl) rest.1;
      same = ap (λ ps. piece Colon name ∷ ps) rest.2;
    }

-- the body of a first name and pieces
pub record IsRow (first : List Written) (pieces : List Piece) : Type 0 where
  pub body : Body
  pub is : IsBody body
  pub same_first : first_of body.target ≡ first
  pub same_pieces : pieces_of body ≡ pieces

with_later : (target : Target) (pieces : List Piece) → IsTarget target → AreLater pieces →
    IsRow (first_of target) (target_pieces target ++ pieces)
with_later target pieces is l = record {
  body = record { target = target; asked = l.asked; alternatives = l.alternatives };
  is = record { target = is; asked = l.are_asked; alternatives = l.are_alternatives };
  same_first = refl;
  same_pieces = ap (λ ps. target_pieces target ++ ps) (sym l.same);
}

-- a name that may be empty
abbrev some_name : List Written → Option (List Written)
some_name [] = None
some_name (x ∷ name) = Some (x ∷ name)

some_name_is : (name : List Written) → if_any (some_name name) ≡ name
some_name_is [] = refl
some_name_is (x ∷ name) = refl

some_name_any : (name : List Written) → IsPart is_sign name → IsNameIfAny (some_name name)
some_name_any [] part = tt
some_name_any (x ∷ name) part = record { some = λ e. cc; part = part }

alone_row : (first : List Written) (pieces : List Piece) → IsName first → AreLater pieces →
    IsRow first pieces
alone_row first pieces is l =
    elim (cases_Bool (is_code_name first)) [
      | inl code ↦ with_later (a_code first) pieces (is, code_name_back first code) l
      | inr other ↦ (
          with_later (a_lemma first) pieces
          (is, λ code. both_ways (is_code_name first) other (code_name first code)) l)
    ]

-- a dot behind a first name, or behind a lemma
behind_comma : (first name : List Written) (pieces : List Piece) → IsName first →
    IsPart is_sign name → AreInOrder (Some Comma) pieces →
    IsRow first (piece Comma name ∷ pieces)
behind_comma first name [] is part are =
    subst (λ (n : List Written). IsRow first (piece Comma n ∷ [])) (some_name_is name)
    (with_later (a_form first (some_name name)) [] (is, some_name_any name part)
    (later (Some Comma) [] refl tt))
behind_comma first name (piece Comma code ∷ pieces) is part are =
    absurd (let e : false ≡ true = are.0 in cc)
behind_comma first name (piece Dot code ∷ pieces) is part are =
    let l = later (Some Dot) pieces (later_than Dot pieces refl refl are.2) are.2 in
    subst (λ (n : List Written). IsRow first (piece Comma n ∷ (piece Dot code ∷ pieces)))
    (some_name_is name)
    (subst (λ (m : List Written).
    IsRow first (piece Comma (if_any (some_name name)) ∷ (piece Dot m ∷ pieces)))
    (some_name_is code)
    (with_later (a_form_with first (some_name name) (some_name code)) pieces
    (is, some_name_any name part, some_name_any code are.1.part) l))
behind_comma first name (piece Plus code ∷ pieces) is part are =
    subst (λ (n : List Written). IsRow first (piece Comma n ∷ (piece Plus code ∷ pieces)))
    (some_name_is name)
    (with_later (a_form first (some_name name)) (piece Plus code ∷ pieces)
    (is, some_name_any name part) (later (Some Comma) (piece Plus code ∷ pieces) refl are))
behind_comma first name (piece Tilde code ∷ pieces) is part are =
    subst (λ (n : List Written). IsRow first (piece Comma n ∷ (piece Tilde code ∷ pieces)))
    (some_name_is name)
    (with_later (a_form first (some_name name)) (piece Tilde code ∷ pieces)
    (is, some_name_any name part) (later (Some Comma) (piece Tilde code ∷ pieces) refl are))
behind_comma first name (piece Colon code ∷ pieces) is part are =
    subst (λ (n : List Written). IsRow first (piece Comma n ∷ (piece Colon code ∷ pieces)))
    (some_name_is name)
    (with_later (a_form first (some_name name)) (piece Colon code ∷ pieces)
    (is, some_name_any name part) (later (Some Comma) (piece Colon code ∷ pieces) refl are))

-- a first name and pieces in order are a body
pub row_body : (first : List Written) (pieces : List Piece) → IsName first →
    AreInOrder None pieces → IsRow first pieces
row_body first [] is are = alone_row first [] is (later None [] refl tt)
row_body first (piece Comma name ∷ pieces) is are =
    behind_comma first name pieces is are.1.part are.2
row_body first (piece Dot name ∷ pieces) is are =
    subst (λ (n : List Written). IsRow first (piece Dot n ∷ pieces)) (some_name_is name)
    (with_later (a_lemma_with first (some_name name)) pieces
    (is, some_name_any name are.1.part)
    (later (Some Dot) pieces (later_than Dot pieces refl refl are.2) are.2))
row_body first (piece Plus name ∷ pieces) is are =
    alone_row first (piece Plus name ∷ pieces) is (later None (piece Plus name ∷ pieces) refl are)
row_body first (piece Tilde name ∷ pieces) is are =
    alone_row first (piece Tilde name ∷ pieces) is (later None (piece Tilde name ∷ pieces) refl are)
row_body first (piece Colon name ∷ pieces) is are =
    alone_row first (piece Colon name ∷ pieces) is (later None (piece Colon name ∷ pieces) refl are)

pub row_text : (first : List Written) (pieces : List Piece) (row : IsRow first pieces) →
    body_text row.body ≡ first ++ joined pieces
row_text first pieces row =
    body_joined row.body
    ∙ ap (λ f. f ++ joined (pieces_of row.body)) row.same_first
    ∙ ap (λ ps. first ++ joined ps) row.same_pieces

pub row_asks : (first : List Written) (pieces : List Piece) (row : IsRow first pieces) →
    asked_by first pieces ≡ parts_of row.body
row_asks first pieces row =
    ap (λ f. asked_by f pieces) (sym row.same_first)
    ∙ ap (λ ps. asked_by (first_of row.body.target) ps) (sym row.same_pieces)
    ∙ body_asked row.body row.is
