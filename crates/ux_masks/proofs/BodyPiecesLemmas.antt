-- A body is a first name and pieces behind it, and asks for what these ask for.
use Rattle.std.proofs.Common.{◌≡◌, ℕ, List, [], ◌∷◌, ◌++◌, true, false, refl, sym, ◌∙◌, ap, append_assoc, append-nil, Option, None, Some}
use Rattle.std.specs.Prelude.{All}
use Rattle.std.specs.List.{flat_map}
use Rattle.std.proofs.lemmas.Bool.{both_ways}
use Rattle.std.proofs.lemmas.List.Elements.{All-head, All-tail}
use Rattle.ux_dela.specs.Written.{Written, bare, meant, all_meant, all_behind}
use Rattle.ux_masks.specs.declared.lexical.Parts.{Parts}
use Rattle.ux_masks.specs.declared.sign.Sign.{Sign}
use Rattle.ux_masks.specs.declared.sign.Sign.TheVariants.{Comma, Dot, Plus, Tilde, Colon}
use Rattle.ux_masks.specs.Signs.{COMMA, DOT, PLUS, TILDE, COLON}
use Rattle.ux_masks.specs.Texts.{IsName, Target, a_code, a_lemma, a_lemma_with, a_form, a_form_with, Asked, needed, forbidden, IsNameIfAny, IsTarget, name_of, if_any, target_text, asked_text, Body, IsBody, body_text, needed_in, forbidden_in, codes_if_any, lemma_or, form_in, lemma_in, code_in, parts_of}
use Rattle.ux_masks.specs.Pieces.{Piece, piece, joined, may_follow, needs_name, IsPiece, AreInOrder, alone, begun, with_need, with_piece, with_pieces, first_sign, asked_by, is_code_name, asking}
use Rattle.ux_masks.proofs.CodeNameLemmas.{code_name, other_name}
use Rattle.ux_masks.proofs.PiecesLemmas.{joined-append}

abbrev pub first_of : Target → List Written
first_of (a_code name) = name
first_of (a_lemma name) = name
first_of (a_lemma_with lemma code) = lemma
first_of (a_form form lemma) = form
first_of (a_form_with form lemma code) = form

abbrev pub target_pieces : Target → List Piece
target_pieces (a_code name) = []
target_pieces (a_lemma name) = []
target_pieces (a_lemma_with lemma code) = piece Dot (if_any code) ∷ []
target_pieces (a_form form lemma) = piece Comma (if_any lemma) ∷ []
target_pieces (a_form_with form lemma code) =
    piece Comma (if_any lemma) ∷ (piece Dot (if_any code) ∷ [])

abbrev pub asked_pieces : List Asked → List Piece
asked_pieces [] = []
asked_pieces (needed name ∷ codes) = piece Plus name ∷ asked_pieces codes
asked_pieces (forbidden name ∷ codes) = piece Tilde name ∷ asked_pieces codes

abbrev pub colon_pieces : List (List Written) → List Piece
colon_pieces [] = []
colon_pieces (name ∷ names) = piece Colon name ∷ colon_pieces names

abbrev pub later_pieces : Body → List Piece
later_pieces body = asked_pieces body.asked ++ colon_pieces body.alternatives

abbrev pub pieces_of : Body → List Piece
pieces_of body = target_pieces body.target ++ later_pieces body

-- how a body is written
target_joined : (target : Target) →
    target_text target ≡ first_of target ++ joined (target_pieces target)
target_joined (a_code name) = sym (append-nil name)
target_joined (a_lemma name) = sym (append-nil name)
target_joined (a_lemma_with lemma code) =
    ap (λ t. lemma ++ bare DOT ∷ t) (sym (append-nil (if_any code)))
target_joined (a_form form lemma) =
    ap (λ t. form ++ bare COMMA ∷ t) (sym (append-nil (if_any lemma)))
target_joined (a_form_with form lemma code) =
    ap (λ t. form ++ bare COMMA ∷ (if_any lemma ++ bare DOT ∷ t)) (sym (append-nil (if_any code)))

asked_joined : (codes : List Asked) → flat_map asked_text codes ≡ joined (asked_pieces codes)
asked_joined [] = refl
asked_joined (needed name ∷ codes) = ap (λ t. bare PLUS ∷ (name ++ t)) (asked_joined codes)
asked_joined (forbidden name ∷ codes) = ap (λ t. bare TILDE ∷ (name ++ t)) (asked_joined codes)

colons_joined : (names : List (List Written)) →
    all_behind COLON names ≡ joined (colon_pieces names)
colons_joined [] = refl
colons_joined (name ∷ names) = ap (λ t. bare COLON ∷ (name ++ t)) (colons_joined names)

pub body_joined : (body : Body) → body_text body ≡ first_of body.target ++ joined (pieces_of body)
body_joined body =
    let target = target_pieces body.target in
    let asked = asked_pieces body.asked in
    let colons = colon_pieces body.alternatives in
    let later : flat_map asked_text body.asked ++ all_behind COLON body.alternatives
    ≡ joined (asked ++ colons) =
    ap (λ t. t ++ all_behind COLON body.alternatives) (asked_joined body.asked)
    ∙ ap (λ t. joined asked ++ t) (colons_joined body.alternatives)
    ∙ sym (joined-append asked colons) in
    ap (λ t. target_text body.target ++ t) later
    ∙ ap (λ t. t ++ joined (asked ++ colons)) (target_joined body.target)
    ∙ append_assoc (first_of body.target) (joined target) (joined (asked ++ colons))
    ∙ ap (λ t. first_of body.target ++ t) (sym (joined-append target (asked ++ colons)))

-- the first name of a target is a name
pub first_name : (target : Target) → IsTarget target → IsName (first_of target)
first_name (a_code name) is = is.0
first_name (a_lemma name) is = is.0
first_name (a_lemma_with lemma code) is = is.0
first_name (a_form form lemma) is = is.0
first_name (a_form_with form lemma code) is = is.0

-- an alternative may come behind each sign
colon_next : (last : Option Sign) → may_follow last Colon ≡ true
colon_next None = refl
colon_next (Some Comma) = refl
colon_next (Some Dot) = refl
colon_next (Some Plus) = refl
colon_next (Some Tilde) = refl
colon_next (Some Colon) = refl

named_piece : (sign : Sign) (name : List Written) → IsName name → IsPiece sign name
named_piece sign name is = record { part = is.part; some = λ e. is.some }

any_piece : (sign : Sign) (name : Option (List Written)) → needs_name sign ≡ false →
    IsNameIfAny name → IsPiece sign (if_any name)
any_piece sign None free is = record { part = tt; some = λ e. absurd (both_ways (needs_name sign) free e) }
any_piece sign (Some name) free is = named_piece sign name is

abbrev pub IsAsked : Asked → Type 0
IsAsked code = IsName (name_of code)

-- the pieces of a body are in order
colons_in_order : (last : Option Sign) (names : List (List Written)) → All IsName names →
    AreInOrder last (colon_pieces names)
colons_in_order last [] is = tt
colons_in_order last (name ∷ names) is = (
  colon_next last,
  named_piece Colon name (All-head IsName name names is),
  colons_in_order (Some Colon) names (All-tail IsName name names is),
)

later_in_order : (last : Option Sign) (codes : List Asked) (names : List (List Written)) →
    may_follow last Plus ≡ true → may_follow last Tilde ≡ true →
    All IsAsked codes → All IsName names →
    AreInOrder last (asked_pieces codes ++ colon_pieces names)
later_in_order last [] names p t cs ns = colons_in_order last names ns
later_in_order last (needed name ∷ codes) names p t cs ns = (
  p,
  named_piece Plus name (All-head IsAsked (needed name) codes cs),
  later_in_order (Some Plus) codes names refl refl (All-tail IsAsked (needed name) codes cs) ns,
)
later_in_order last (forbidden name ∷ codes) names p t cs ns = (
  t,
  named_piece Tilde name (All-head IsAsked (forbidden name) codes cs),
  later_in_order (Some Tilde) codes names refl refl (All-tail IsAsked (forbidden name) codes cs) ns,
)

all_in_order : (target : Target) (codes : List Asked) (names : List (List Written)) →
    IsTarget target → All IsAsked codes → All IsName names →
    AreInOrder None (target_pieces target ++ (asked_pieces codes ++ colon_pieces names))
all_in_order (a_code name) codes names is cs ns = later_in_order None codes names refl refl cs ns
all_in_order (a_lemma name) codes names is cs ns = later_in_order None codes names refl refl cs ns
all_in_order (a_lemma_with lemma code) codes names is cs ns =
    (refl, any_piece Dot code refl is.1, later_in_order (Some Dot) codes names refl refl cs ns)
all_in_order (a_form form lemma) codes names is cs ns =
    (refl, any_piece Comma lemma refl is.1, later_in_order (Some Comma) codes names refl refl cs ns)
all_in_order (a_form_with form lemma code) codes names is cs ns = (
  refl,
  any_piece Comma lemma refl is.1,
  (refl, any_piece Dot code refl is.2, later_in_order (Some Dot) codes names refl refl cs ns),
)

pub body_in_order : (body : Body) → IsBody body → AreInOrder None (pieces_of body)
body_in_order body is =
    all_in_order body.target body.asked body.alternatives is.target is.asked is.alternatives

-- what the pieces of a body ask for
abbrev more : Parts → (need forbid infl : List (List ℕ)) → Parts
more parts need forbid infl = record {
  form = parts.form;
  lemma = parts.lemma;
  need = need;
  forbid = forbid;
  infl = infl;
}

colons_asked : (parts : Parts) (names : List (List Written)) →
    with_pieces parts (colon_pieces names)
    ≡ more parts parts.need parts.forbid (parts.infl ++ all_meant names)
colons_asked parts [] = ap (more parts parts.need parts.forbid) (sym (append-nil parts.infl))
colons_asked parts (name ∷ names) =
    colons_asked (record parts { infl = parts.infl ++ meant name ∷ [] }) names
    ∙ ap (more parts parts.need parts.forbid)
    (append_assoc parts.infl (meant name ∷ []) (all_meant names))

later_asked : (parts : Parts) (codes : List Asked) (names : List (List Written)) →
    with_pieces parts (asked_pieces codes ++ colon_pieces names)
    ≡ more parts (parts.need ++ flat_map needed_in codes)
    (parts.forbid ++ flat_map forbidden_in codes) (parts.infl ++ all_meant names)
later_asked parts [] names =
    colons_asked parts names
    ∙ ap (λ n. more parts n parts.forbid (parts.infl ++ all_meant names))
    (sym (append-nil parts.need))
    ∙ ap (λ f. more parts (parts.need ++ []) f (parts.infl ++ all_meant names))
    (sym (append-nil parts.forbid))
later_asked parts (needed name ∷ codes) names =
    later_asked (with_need parts (meant name)) codes names
    ∙ ap (λ n. more parts n (parts.forbid ++ flat_map forbidden_in codes)
    (parts.infl ++ all_meant names))
    (append_assoc parts.need (meant name ∷ []) (flat_map needed_in codes))
later_asked parts (forbidden name ∷ codes) names =
    later_asked (record parts { forbid = parts.forbid ++ meant name ∷ [] }) codes names
    ∙ ap (λ f. more parts (parts.need ++ flat_map needed_in codes) f
    (parts.infl ++ all_meant names))
    (append_assoc parts.forbid (meant name ∷ []) (flat_map forbidden_in codes))

-- no comma and no dot comes behind a name alone
alone_begins : (name : List Written) (codes : List Asked) (names : List (List Written)) →
    begun name (first_sign (asked_pieces codes ++ colon_pieces names))
    ≡ alone (is_code_name name) (meant name)
alone_begins name [] [] = refl
alone_begins name [] (other ∷ names) = refl
alone_begins name (needed other ∷ codes) names = refl
alone_begins name (forbidden other ∷ codes) names = refl

-- a name may be empty where it stands, and then it isn't told
lemma_asked : (form : List Written) (lemma : Option (List Written)) → IsNameIfAny lemma →
    with_piece (asking (Some (meant form)) (Some (meant form))) Comma (if_any lemma)
    ≡ asking (Some (meant form)) (Some (lemma_or form lemma))
lemma_asked form None is = refl
lemma_asked form (Some []) is = absurd (is.some refl)
lemma_asked form (Some (x ∷ lemma)) is = refl

code_asked : (form lemma : Option (List ℕ)) (code : Option (List Written)) → IsNameIfAny code →
    with_piece (asking form lemma) Dot (if_any code)
    ≡ more (asking form lemma) (codes_if_any code) [] []
code_asked form lemma None is = refl
code_asked form lemma (Some []) is = absurd (is.some refl)
code_asked form lemma (Some (x ∷ code)) is = refl

target_asked : (target : Target) (codes : List Asked) (names : List (List Written)) →
    IsTarget target →
    asked_by (first_of target) (target_pieces target ++ (asked_pieces codes ++ colon_pieces names))
    ≡ with_pieces (record {
      form = form_in target;
      lemma = lemma_in target;
      need = code_in target;
      forbid = [];
      infl = [];
    }) (asked_pieces codes ++ colon_pieces names)
target_asked (a_code name) codes names is =
    ap (λ p. with_pieces p (asked_pieces codes ++ colon_pieces names))
    (alone_begins name codes names
    ∙ ap (λ t. alone t (meant name)) (code_name name is.1))
target_asked (a_lemma name) codes names is =
    ap (λ p. with_pieces p (asked_pieces codes ++ colon_pieces names))
    (alone_begins name codes names
    ∙ ap (λ t. alone t (meant name)) (other_name name is.1))
target_asked (a_lemma_with lemma code) codes names is =
    ap (λ p. with_pieces p (asked_pieces codes ++ colon_pieces names))
    (code_asked None (Some (meant lemma)) code is.1)
target_asked (a_form form lemma) codes names is =
    ap (λ p. with_pieces p (asked_pieces codes ++ colon_pieces names))
    (lemma_asked form lemma is.1)
target_asked (a_form_with form lemma code) codes names is =
    ap (λ p. with_pieces (with_piece p Dot (if_any code))
    (asked_pieces codes ++ colon_pieces names))
    (lemma_asked form lemma is.1)
    ∙ ap (λ p. with_pieces p (asked_pieces codes ++ colon_pieces names))
    (code_asked (Some (meant form)) (Some (lemma_or form lemma)) code is.2)

pub body_asked : (body : Body) → IsBody body →
    asked_by (first_of body.target) (pieces_of body) ≡ parts_of body
body_asked body is =
    target_asked body.target body.asked body.alternatives is.target
    ∙ later_asked (record {
      form = form_in body.target;
      lemma = lemma_in body.target;
      need = code_in body.target;
      forbid = [];
      infl = [];
    }) body.asked body.alternatives
