-- What pairs make of a form, a piece at a time.
use Rattle.std.proofs.Common.{arith, ◌≡◌, ℕ, List, [], ◌∷◌, ◌++◌, append_assoc, refl, sym, ◌∙◌, ap, length, map, zip, drop}
use Rattle.std.specs.Prelude.{Option, slice_get}
use Rattle.ux_image.specs.Pieces.{pieces, separators, joined}
use Rattle.ux_image.specs.Codes.{pair_between, pairs_of_pieces, all_changed, made_of, made_of_pieces}
use Rattle.ux_image.specs.Cutting.{HasNoSeparator, IsCutOf, changed_by}
use Rattle.ux_image.specs.declared.code.Pair.{Pair}
use Rattle.ux_image.specs.declared.pieces.Cut.{Cut}
use Rattle.ux_image.proofs.CutLemmas.{pieces_none, separators_none, pieces_cut, separators_cut}

-- the pair of the first piece, and those of the later ones
pub pairs_cut : (form lemma : List ℕ) (in_form in_lemma : Cut) → IsCutOf form in_form →
    IsCutOf lemma in_lemma → pairs_of_pieces form lemma
    ≡ pair_between in_form.piece.now in_lemma.piece.now
    ∷ pairs_of_pieces in_form.behind.now in_lemma.behind.now
pairs_cut form lemma in_form in_lemma f l =
    ap (λ ps. map (λ p. pair_between p.0 p.1) (zip ps (pieces lemma))) (pieces_cut form in_form f)
    ∙ ap (λ qs. map (λ p. pair_between p.0 p.1)
    (zip (in_form.piece.now ∷ pieces in_form.behind.now) qs)) (pieces_cut lemma in_lemma l)

pub pairs_none : (form lemma : List ℕ) → HasNoSeparator form → HasNoSeparator lemma →
    pairs_of_pieces form lemma ≡ pair_between form lemma ∷ []
pairs_none form lemma f l =
    ap (λ ps. map (λ p. pair_between p.0 p.1) (zip ps (pieces lemma))) (pieces_none form f)
    ∙ ap (λ qs. map (λ p. pair_between p.0 p.1) (zip (form ∷ []) qs)) (pieces_none lemma l)

-- the pairs so far, and those of what is left
pub pairs_more : (form lemma : List ℕ) (in_form in_lemma : Cut) → IsCutOf form in_form →
    IsCutOf lemma in_lemma → (old new whole : List Pair) (pair : Pair) →
    pair ≡ pair_between in_form.piece.now in_lemma.piece.now → new ≡ old ++ pair ∷ [] →
    old ++ pairs_of_pieces form lemma ≡ whole →
    new ++ pairs_of_pieces in_form.behind.now in_lemma.behind.now ≡ whole
pairs_more form lemma in_form in_lemma f l old new whole pair is more so_far =
    let rest = pairs_of_pieces in_form.behind.now in_lemma.behind.now in
    ap (λ (ps : List Pair). ps ++ rest) more
    ∙ append_assoc old (pair ∷ []) rest
    ∙ ap (λ (p : Pair). old ++ (p ∷ rest)) is
    ∙ ap (λ (ps : List Pair). old ++ ps) (sym (pairs_cut form lemma in_form in_lemma f l))
    ∙ so_far

pub pairs_all : (form lemma : List ℕ) → HasNoSeparator form → HasNoSeparator lemma →
    (old new whole : List Pair) (pair : Pair) → pair ≡ pair_between form lemma →
    new ≡ old ++ pair ∷ [] → old ++ pairs_of_pieces form lemma ≡ whole → new ≡ whole
pairs_all form lemma f l old new whole pair is more so_far =
    more
    ∙ ap (λ (p : Pair). old ++ p ∷ []) is
    ∙ ap (λ (ps : List Pair). old ++ ps) (sym (pairs_none form lemma f l))
    ∙ so_far

-- the first piece changes by the first pair, and the later ones by the later pairs
changed_first : (pairs : List Pair) (piece : List ℕ) (later : List (List ℕ)) →
    all_changed pairs (piece ∷ later)
    ≡ changed_by (slice_get pairs 0) piece ∷ all_changed (drop 1 pairs) later
changed_first [] piece later = refl
changed_first (pair ∷ pairs) piece later = refl

pub made_cut : (pairs : List Pair) (form : List ℕ) (cut : Cut) → (is : IsCutOf form cut) →
    made_of_pieces pairs form ≡ changed_by (slice_get pairs 0) cut.piece.now
    ++ (cut.separator.now ++ made_of_pieces (drop 1 pairs) cut.behind.now)
made_cut pairs form cut is =
    ap (λ ps. joined (all_changed pairs ps) (separators form)) (pieces_cut form cut is)
    ∙ ap (λ ss. joined (all_changed pairs (cut.piece.now ∷ pieces cut.behind.now)) ss)
    (separators_cut form cut is)
    ∙ ap (λ ts. joined ts (is.sign ∷ separators cut.behind.now))
    (changed_first pairs cut.piece.now (pieces cut.behind.now))
    ∙ ap (λ (s : List ℕ). changed_by (slice_get pairs 0) cut.piece.now
    ++ (s ++ made_of_pieces (drop 1 pairs) cut.behind.now)) (sym is.alone)

joined_one : (pairs : List Pair) (form : List ℕ) →
    joined (changed_by (slice_get pairs 0) form ∷ all_changed (drop 1 pairs) []) []
    ≡ changed_by (slice_get pairs 0) form
joined_one pairs form = refl

pub made_none : (pairs : List Pair) (form : List ℕ) → HasNoSeparator form →
    made_of_pieces pairs form ≡ changed_by (slice_get pairs 0) form
made_none pairs form none =
    ap (λ ps. joined (all_changed pairs ps) (separators form)) (pieces_none form none)
    ∙ ap (λ ss. joined (all_changed pairs (form ∷ [])) ss) (separators_none form none)
    ∙ ap (λ ts. joined ts []) (changed_first pairs form [])

-- a pair that is alone changes the whole, and several change the pieces
pub made_one : (pairs : List Pair) (form : List ℕ) → length pairs ≡ 1 →
    made_of pairs form ≡ changed_by (slice_get pairs 0) form
made_one [] form one = absurd (omega (arith, one))
made_one (pair ∷ []) form one = refl
made_one (pair ∷ (next ∷ pairs)) form one = absurd (omega (arith, one))

pub made_several : (pairs : List Pair) (form : List ℕ) → (length pairs ≡ 1 → ⊥) →
    made_of pairs form ≡ made_of_pieces pairs form
made_several [] form several = refl
made_several (pair ∷ []) form several = absurd (several refl)
made_several (pair ∷ (next ∷ pairs)) form several = refl

-- a text that was put, and then what the rest makes
pub made_more : (pairs : List Pair) (form : List ℕ) (cut : Cut) → IsCutOf form cut →
    (old mid new whole : List ℕ) → mid ≡ old ++ changed_by (slice_get pairs 0) cut.piece.now →
    new ≡ mid ++ cut.separator.now → old ++ made_of_pieces pairs form ≡ whole →
    new ++ made_of_pieces (drop 1 pairs) cut.behind.now ≡ whole
made_more pairs form cut is old mid new whole first second so_far =
    let rest = made_of_pieces (drop 1 pairs) cut.behind.now in
    let here = changed_by (slice_get pairs 0) cut.piece.now in
    ap (λ (t : List ℕ). t ++ rest) (second ∙ ap (λ (t : List ℕ). t ++ cut.separator.now) first)
    ∙ append_assoc (old ++ here) cut.separator.now rest
    ∙ append_assoc old here (cut.separator.now ++ rest)
    ∙ ap (λ (t : List ℕ). old ++ t) (sym (made_cut pairs form cut is))
    ∙ so_far

-- and the last piece
pub made_last : (pairs : List Pair) (form : List ℕ) → HasNoSeparator form → (pair : Option Pair) →
    (old new whole : List ℕ) → pair ≡ slice_get pairs 0 → old ++ made_of_pieces pairs form ≡ whole →
    new ≡ old ++ changed_by pair form → new ≡ whole
made_last pairs form none pair old new whole is so_far put =
    put
    ∙ ap (λ (p : Option Pair). old ++ changed_by p form) is
    ∙ ap (λ (t : List ℕ). old ++ t) (sym (made_none pairs form none))
    ∙ so_far
