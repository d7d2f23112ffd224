-- The first piece of a text is what stands before its first separator.
use Rattle.std.proofs.Common.{arith, ◌≡◌, ℕ, ◌+◌, List, [], ◌∷◌, ◌++◌, Bool, true, false, not, cond, refl, sym, ◌∙◌, ap, subst, length, length-append, take, drop}
use Rattle.std.specs.Prelude.{◌↔◌, IsTrue, Option, None, Some, MatchOption, IsUtf8, slice_index}
use Rattle.std.specs.Option.{is_some}
use Rattle.std.proofs.lemmas.Bool.{false≢true}
use Rattle.std.proofs.lemmas.List.Elements.{All-head, All-tail, All-nil, All-cons, filter-append}
use Rattle.std.proofs.lemmas.List.{take-append-drop, drop_more}
use Rattle.std.proofs.lemmas.List.Splits.{slice_split_at, slice_split_none}
use Rattle.ux_image.specs.Pieces.{is_separator, pieces, separators}
use Rattle.ux_image.specs.Cutting.{HasNoSeparator, IsCutOf, IsSeparatorAt}
use Rattle.ux_image.specs.declared.pieces.Cut.{Cut}

-- a text without a separator is its one piece
pub separators_none : (text : List ℕ) → HasNoSeparator text → separators text ≡ []
separators_none [] none = refl
separators_none (b ∷ text) none =
    ap (λ t. cond t (b ∷ separators text) (separators text))
    (All-head (λ x. is_separator x ≡ false) b text none)
    ∙ separators_none text (All-tail (λ x. is_separator x ≡ false) b text none)

pub pieces_none : (text : List ℕ) → HasNoSeparator text → pieces text ≡ text ∷ []
pieces_none text none = slice_split_none is_separator text none

-- and has no other separators than none
pub none_from_separators : (text : List ℕ) → separators text ≡ [] → HasNoSeparator text
none_from_separators [] none = All-nil (λ x. is_separator x ≡ false)
none_from_separators (b ∷ text) none = by (is_separator b) refl (λ h. none_from_separators text h)
  where
    by : (t : Bool) → is_separator b ≡ t → (separators text ≡ [] → HasNoSeparator text) →
        HasNoSeparator (b ∷ text)
    by true e later =
        let some : b ∷ separators text ≡ [] =
        sym (ap (λ t. cond t (b ∷ separators text) (separators text)) e) ∙ none in
        cc
    by false e later =
        let rest : separators text ≡ [] =
        sym (ap (λ t. cond t (b ∷ separators text) (separators text)) e) ∙ none in
        All-cons (λ x. is_separator x ≡ false) b text e (later rest)

-- a cut text has its first piece and those behind the separator
module _ (text : List ℕ) (cut : Cut) (is : IsCutOf text cut) where
  pub pieces_cut : pieces text ≡ cut.piece.now ∷ pieces cut.behind.now
  pieces_cut =
      ap pieces is.whole
      ∙ slice_split_at is_separator cut.piece.now is.sign cut.behind.now is.none is.is_sign

  pub separators_cut : separators text ≡ is.sign ∷ separators cut.behind.now
  separators_cut =
      ap separators is.whole
      ∙ filter-append is_separator cut.piece.now (is.sign ∷ cut.behind.now)
      ∙ ap (λ (front : List ℕ). front ++ separators (is.sign ∷ cut.behind.now))
      (separators_none cut.piece.now is.none)
      ∙ ap (λ t. cond t (is.sign ∷ separators cut.behind.now) (separators cut.behind.now))
      is.is_sign

  -- each part is shorter
  pub cut_length : length text ≡ length cut.piece.now + (length cut.behind.now + 1)
  cut_length =
      omega (
        arith,
        ap (length {A = ℕ}) is.whole,
        length-append cut.piece.now (is.sign ∷ cut.behind.now),
      )

tail_same : (x y : ℕ) (xs ys : List ℕ) → x ∷ xs ≡ y ∷ ys → xs ≡ ys
tail_same x y xs ys e = cc

heads_same : (x y : ℕ) (xs ys : List ℕ) → x ∷ xs ≡ y ∷ ys → x ≡ y
heads_same x y xs ys e = cc

-- two cut texts have the same separators where they do from the first one on
module _ (form lemma : List ℕ) (in_form in_lemma : Cut) (f : IsCutOf form in_form)
    (l : IsCutOf lemma in_lemma) where
  pub same_behind : separators form ≡ separators lemma →
      separators in_form.behind.now ≡ separators in_lemma.behind.now
  same_behind same =
      tail_same f.sign l.sign _ _
      (sym (separators_cut form in_form f) ∙ same ∙ separators_cut lemma in_lemma l)

  pub same_signs : separators form ≡ separators lemma →
      in_form.separator.now ≡ in_lemma.separator.now
  same_signs same =
      f.alone
      ∙ ap (λ s. s ∷ []) (heads_same f.sign l.sign _ _
      (sym (separators_cut form in_form f) ∙ same ∙ separators_cut lemma in_lemma l))
      ∙ sym l.alone

  pub same_again : in_form.separator.now ≡ in_lemma.separator.now →
      separators in_form.behind.now ≡ separators in_lemma.behind.now →
      separators form ≡ separators lemma
  same_again signs later =
      let sign : f.sign ≡ l.sign = heads_same f.sign l.sign [] [] (sym f.alone ∙ signs ∙ l.alone) in
      separators_cut form in_form f
      ∙ ap (λ s. s ∷ separators in_form.behind.now) sign
      ∙ ap (λ (s : List ℕ). l.sign ∷ s) later
      ∙ sym (separators_cut lemma in_lemma l)

-- one that is cut and one that has no separator have not
pub cut_differs : (form lemma : List ℕ) (in_form : Cut) → IsCutOf form in_form →
    HasNoSeparator lemma → separators form ≡ separators lemma → ⊥
cut_differs form lemma in_form f none same =
    let e : f.sign ∷ separators in_form.behind.now ≡ [] =
    sym (separators_cut form in_form f) ∙ same ∙ separators_none lemma none in
    cc

pub not_flip : (b : Bool) → not b ≡ false → b ≡ true
not_flip true e = refl
not_flip false e = absurd (false≢true (sym e))

-- where the form is at its end, the texts agree where the lemma is too
pub both_none : {P : Type 0} (form lemma : List ℕ) (found : Option Cut) (end : Bool) →
    HasNoSeparator form → MatchOption found (HasNoSeparator lemma) (IsCutOf lemma) →
    is_some found ≡ not end → (P ↔ (separators form ≡ separators lemma)) → (IsTrue end ↔ P)
both_none form lemma None end none at is both = (
  λ h. both.1 (separators_none form none ∙ sym (separators_none lemma at)),
  λ p. not_flip end (sym is),
)
both_none form lemma (Some cut) end none at is both = (
  λ h. absurd (false≢true (sym (is ∙ ap not h))),
  λ p. absurd (cut_differs lemma form cut at none (sym (both.0 p))),
)

-- the parts at the first separator are a cut
pub cut_is : (text : List ℕ) (place : ℕ) (cut : Cut) → IsSeparatorAt text place →
    cut.piece.now ≡ take place text → cut.separator.now ≡ slice_index text place ∷ [] →
    cut.behind.now ≡ drop (place + 1) text → IsUtf8 cut.behind.now → IsCutOf text cut
cut_is text place cut at is_piece is_separator is_behind utf8 = record {
  sign = slice_index text place;
  whole = sym (take-append-drop place text)
      ∙ ap (λ (t : List ℕ). t ++ drop place text) (sym is_piece)
      ∙ ap (λ (t : List ℕ). cut.piece.now ++ t)
      (drop_more text place 0 at.inside
      ∙ ap (λ (t : List ℕ). slice_index text place ∷ t) (sym is_behind));
  is_sign = at.sign;
  alone = is_separator;
  none = subst HasNoSeparator (sym is_piece) at.none;
  utf8 = utf8;
}
