-- A text is of one mask at most.
use Rattle.std.proofs.Common.{◌≡◌, ℕ, List, ◌∷◌, ◌++◌, sym, ◌∙◌, ap, None}
use Rattle.ux_dela.specs.Written.{written}
use Rattle.ux_dela.specs.Reading.{characters}
use Rattle.ux_dela.proofs.CharactersLemmas.{characters_part}
use Rattle.ux_masks.specs.declared.mask.Mask.{Mask}
use Rattle.ux_masks.specs.declared.mask.Mask.TheVariants.{Lexical, NotLexical}
use Rattle.ux_masks.specs.Signs.{EXCLAMATION}
use Rattle.ux_masks.specs.Pieces.{joined, asked_by}
use Rattle.ux_masks.specs.Texts.{Body, IsBody, body_text, parts_of, named, lexical, IsLexicalText, plain, negated, IsMaskText}
use Rattle.ux_masks.proofs.BodyPiecesLemmas.{first_of, first_name, pieces_of, body_joined, body_in_order, body_asked}
use Rattle.ux_masks.proofs.PiecesLemmas.{one_row}
use Rattle.ux_dela.proofs.RunLemmas.{is_none_stop}
use Rattle.ux_masks.proofs.ClosedLemmas.{body_closed, no_exclamation}
use Rattle.ux_masks.proofs.NamesLemmas.{one_name}

-- a body is read in one way
same_body : (a b : Body) → IsBody a → IsBody b → written (body_text a) ≡ written (body_text b) →
    body_text a ≡ body_text b
same_body a b is_a is_b e =
    sym (characters_part is_none_stop (body_text a) (body_closed a is_a))
    ∙ ap characters e
    ∙ characters_part is_none_stop (body_text b) (body_closed b is_b)

-- and asks for one thing
pub one_body : (a b : Body) → IsBody a → IsBody b →
    written (body_text a) ≡ written (body_text b) → parts_of a ≡ parts_of b
one_body a b is_a is_b e =
    let rows : first_of a.target ++ joined (pieces_of a) ≡ first_of b.target ++ joined (pieces_of b) =
    sym (body_joined a) ∙ same_body a b is_a is_b e ∙ body_joined b in
    let one = one_row (first_of a.target) (first_of b.target) (pieces_of a) (pieces_of b) None None
    (first_name a.target is_a.target).part (first_name b.target is_b.target).part
    (body_in_order a is_a) (body_in_order b is_b) rows in
    sym (body_asked a is_a)
    ∙ ap (λ f. asked_by f (pieces_of a)) one.0
    ∙ ap (λ ps. asked_by (first_of b.target) ps) one.1
    ∙ body_asked b is_b

one_lexical : (text : List ℕ) (a b : Mask) → IsLexicalText text a → IsLexicalText text b → a ≡ b
one_lexical text a b (plain p is_p e) (plain q is_q f) =
    ap Lexical (one_body p q is_p is_q (sym e ∙ f))
one_lexical text a b (plain p is_p e) (negated q is_q f) =
    absurd (no_exclamation p (written (body_text q)) is_p (sym e ∙ f))
one_lexical text a b (negated p is_p e) (plain q is_q f) =
    absurd (no_exclamation q (written (body_text p)) is_q (sym f ∙ e))
one_lexical text a b (negated p is_p e) (negated q is_q f) =
    let both : EXCLAMATION ∷ written (body_text p) ≡ EXCLAMATION ∷ written (body_text q) =
    sym e ∙ f in
    let same : written (body_text p) ≡ written (body_text q) = cc in
    ap NotLexical (one_body p q is_p is_q same)

-- a text is of one mask at most
pub one_mask : (text : List ℕ) (a b : Mask) → IsMaskText text a → IsMaskText text b → a ≡ b
one_mask text a b (named p) (named q) = one_name text a b p q
one_mask text a b (named p) (lexical none refused q) = absurd (none (a, p))
one_mask text a b (lexical none refused p) (named q) = absurd (none (b, q))
one_mask text a b (lexical none refused p) (lexical none' refused' q) = one_lexical text a b p q
