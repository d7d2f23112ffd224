-- What is printed for characters, a mask, a space and the like is a line of its item.
use Rattle.std.proofs.Common.{◌≡◌, ℕ, ◌+◌, List, [], ◌∷◌, ◌++◌, Bool, true, false, length, take, drop, refl, sym, ◌∙◌, ap, subst, append_assoc, append-nil, Some}
use Rattle.std.specs.Prelude.{◌==◌, if◌then◌else◌, codes}
use Rattle.std.proofs.lemmas.Bool.{eqb-true, false_from_ne_true, false≢true, ne_eqb, or_from}
use Rattle.std.proofs.Math.Seq.{drop-append-add, take-append_seam}
use Rattle.std.proofs.lemmas.List.{drop_at}
use Rattle.ux_grf.specs.declared.graph.GraphKind.TheVariants.{Plain}
use Rattle.ux_grf.specs.declared.item.Item.{Item}
use Rattle.ux_grf.specs.declared.item.Item.TheVariants.{Literal, Quoted, Mask, NoSpace, Empty}
use Rattle.ux_grf.specs.declared.protection.Stop.TheVariants.{LiteralEnd}
use Rattle.ux_grf.specs.declared.protection.Layer.TheVariants.{Language}
use Rattle.ux_grf.specs.declared.start.Sign.{Sign}
use Rattle.ux_grf.specs.declared.start.Sign.TheVariants.{Other}
use Rattle.ux_grf.specs.declared.words.Gap.TheVariants.{Blanks}
use Rattle.ux_grf.specs.Items.{SLASH, no_more, part, fault, begin_at, begin_of, item_then, line_over, literal_begin, mask_begin, mask_item, sign_at, sign_of, some_text}
use Rattle.ux_grf.specs.Lines.{COLON, DOLLAR, IsLine, is_marked, of_items, without_front}
use Rattle.ux_grf.specs.Protection.{BACKSLASH, first_free, is_stop, resolved}
use Rattle.ux_grf.specs.Words.{SPACE, TAB, is_gap}
use Rattle.ux_masks.specs.Texts.{IsMaskText}
use Rattle.ux_masks.specs.declared.mask.Mask as masks
use Rattle.ux_dela.proofs.ShieldLemmas.{shown, shown_other}
use Rattle.ux_fst2.specs.Masks.{mask_text}
use Rattle.ux_fst2.specs.Tags.{is_text_sign}
use Rattle.ux_fst2.proofs.MaskBounds.{mask_free, mask_some, no_empty_word}
use Rattle.ux_fst2.proofs.MaskLaws.{mask_back}
use Rattle.ux_fst2.proofs.ScanLemmas.{free_none, free_some, open_shown, resolved_shown, shown_sign}

-- bytes of which one is something and the other isn't are two
pub unlike : {A : Type 0} (f : ℕ → A) (x : A) (b c : ℕ) → f b ≡ x → (f c ≡ x → ⊥) → (b == c) ≡ false
unlike f x b c is other =
    false_from_ne_true (b == c) (λ same. other (ap f (sym (eqb-true b c same)) ∙ is))

-- what may stand behind an item: nothing, or an output
pub data IsTail : List ℕ → Type 0 where
  nothing : IsTail []
  an_output : (output : List ℕ) → IsTail (SLASH ∷ output)

tail_begins : (after : List ℕ) → IsTail after → begin_of after ≡ no_more
tail_begins after nothing = refl
tail_begins after (an_output output) = refl

-- a line that isn't marked, of the one item that begins it
pub one_item : (text after : List ℕ) (item : Item) → IsTail after →
    is_marked (without_front text) ≡ false → begin_of text ≡ part (Some item) after →
    IsLine Plain text (item ∷ []) after
one_item text after item tail unmarked begins =
    of_items unmarked (item_then {item = Some item} begins (line_over (tail_begins after tail)))

-- CHARACTERS

-- a byte that begins characters: it isn't a gap, and begins nothing else
record BeginsText (b : ℕ) : Type 0 where
  gap : is_gap Blanks b ≡ false
  colon : (b == COLON) ≡ false
  dollar : (b == DOLLAR) ≡ false
  sign : sign_of b ≡ Other

-- what gets no backslash is none of the signs
text_unlike : (b c : ℕ) → is_text_sign b ≡ false → is_text_sign c ≡ true → (b == c) ≡ false
text_unlike b c other is =
    unlike is_text_sign false b c other (λ e. false≢true (sym e ∙ is))

text_begins : (b : ℕ) → is_text_sign b ≡ false → BeginsText b
text_begins b other =
    let off : (c : ℕ) → is_text_sign c ≡ true → (b == c) ≡ false =
    λ c is. text_unlike b c other is in
    record {
      gap = or_from (b == SPACE) (b == TAB) (off SPACE refl) (off TAB refl);
      colon = off COLON refl;
      dollar = off DOLLAR refl;
      sign = rw (off 43 refl, off 47 refl, off 32 refl, off 9 refl, off 35 refl, off 34 refl, off 60 refl, off 123 refl) refl;
    }

slash_begins : BeginsText BACKSLASH
slash_begins = record { gap = refl; colon = refl; dollar = refl; sign = refl }

text_stops : (b : ℕ) → is_text_sign b ≡ false → is_stop LiteralEnd b ≡ false
text_stops b other =
    let off : (c : ℕ) → is_text_sign c ≡ true → (b == c) ≡ false =
    λ c is. text_unlike b c other is in
    rw (off 34 refl, off 60 refl, off 123 refl, off 35 refl, off 43 refl, off 47 refl, off 32 refl, off 9 refl) refl

-- characters with their backslashes
abbrev printed : List ℕ → List ℕ
printed text = shown is_text_sign text

-- the first byte of them
record IsHead (text : List ℕ) : Type 0 where
  first : ℕ
  rest : List ℕ
  is : text ≡ first ∷ rest
  begins : BeginsText first

head_of : (b : ℕ) (text : List ℕ) → IsHead (printed (b ∷ text))
head_of b text = by (is_text_sign b) refl
  where
    by : (q : Bool) → is_text_sign b ≡ q → IsHead (printed (b ∷ text))
    by true is = record {
      first = BACKSLASH;
      rest = b ∷ printed text;
      is = shown_sign is_text_sign b text is;
      begins = slash_begins;
    }
    by false is = record {
      first = b;
      rest = printed text;
      is = shown_other is_text_sign b text is;
      begins = text_begins b is;
    }

head_unmarked : (b : ℕ) (text : List ℕ) → BeginsText b → is_marked (without_front (b ∷ text)) ≡ false
head_unmarked b text begins =
    ap (λ (q : Bool). is_marked (if q then without_front text else b ∷ text)) begins.gap
    ∙ or_from (b == COLON) (b == DOLLAR) begins.colon begins.dollar

module _ (b : ℕ) (text : List ℕ) where
  abbrev Chars : List ℕ
  Chars = b ∷ text

  text_unmarked : (after : List ℕ) → is_marked (without_front (printed Chars ++ after)) ≡ false
  text_unmarked after =
      let head = head_of b text in
      ap (λ (t : List ℕ). is_marked (without_front (t ++ after))) head.is
      ∙ head_unmarked head.first (head.rest ++ after) head.begins

  text_sign : (after : List ℕ) → sign_at (printed Chars ++ after) ≡ Other
  text_sign after =
      let head = head_of b text in
      ap (λ (t : List ℕ). sign_at (t ++ after)) head.is ∙ head.begins.sign

  literal_is : (after : List ℕ) → IsTail after →
      literal_begin (printed Chars ++ after)
      (first_free LiteralEnd false (printed Chars ++ after)) ≡ part (Some (Literal Chars)) after
  literal_is after nothing =
      let whole = printed Chars ++ [] in
      let same : resolved Language false whole ≡ Chars =
      ap (resolved Language false) (append-nil (printed Chars))
      ∙ resolved_shown is_text_sign refl Chars in
      ap (literal_begin whole) (free_none is_text_sign refl LiteralEnd text_stops Chars [] refl)
      ∙ ap (λ (q : Bool). if q then fault (BACKSLASH ∷ [])
      else part (some_text Literal (resolved Language false whole)) [])
      (open_shown is_text_sign refl Chars [])
      ∙ ap (λ (t : List ℕ). part (some_text Literal t) []) same
  literal_is after (an_output output) =
      let whole = printed Chars ++ SLASH ∷ output in
      let k = length (printed Chars) in
      ap (literal_begin whole)
      (free_some is_text_sign refl LiteralEnd text_stops Chars (SLASH ∷ output) refl)
      ∙ ap (λ (t : List ℕ). part (some_text Literal (resolved Language false t)) (drop k whole))
      (take-append_seam (printed Chars) (SLASH ∷ output))
      ∙ ap (λ (t : List ℕ). part (some_text Literal t) (drop k whole))
      (resolved_shown is_text_sign refl Chars)
      ∙ ap (part (Some (Literal Chars))) (drop_at (printed Chars) (SLASH ∷ output) k refl)

  pub literal_line : (after : List ℕ) → IsTail after →
      IsLine Plain (printed Chars ++ after) (Literal Chars ∷ []) after
  literal_line after tail =
      let whole = printed Chars ++ after in
      one_item whole after (Literal Chars) tail (text_unmarked after)
      (ap (λ (s : Sign). begin_at s whole) (text_sign after) ∙ literal_is after tail)

-- WHAT IS WRITTEN IN ONE WAY

pub space_line : (after : List ℕ) → IsTail after →
    IsLine Plain (codes "\" \"" ++ after) (Quoted (codes " ") ∷ []) after
space_line after tail =
    one_item (codes "\" \"" ++ after) after (Quoted (codes " ")) tail refl refl

pub no_space_line : (after : List ℕ) → IsTail after →
    IsLine Plain (codes "#" ++ after) (NoSpace ∷ []) after
no_space_line after tail = one_item (codes "#" ++ after) after NoSpace tail refl refl

pub empty_line : (after : List ℕ) → IsTail after →
    IsLine Plain (codes "<E>" ++ after) (Empty ∷ []) after
empty_line after tail = one_item (codes "<E>" ++ after) after Empty tail refl refl

-- MASKS

module _ (text : List ℕ) (mask : masks.Mask) (is : IsMaskText text mask) where
  abbrev Between : List ℕ
  Between = mask_text mask

  mask_is : (after : List ℕ) →
      begin_of (60 ∷ (Between ++ 62 ∷ after)) ≡ part (Some (Mask Between)) after
  mask_is after =
      let back = mask_back text mask is in
      let whole = 60 ∷ (Between ++ 62 ∷ after) in
      let k = length Between in
      let left = drop (k + 1) (Between ++ 62 ∷ after) in
      ap (mask_begin whole) (mask_free after text mask is)
      ∙ ap (λ (q : Bool). if q then fault whole
      else part (Some (mask_item (take k (Between ++ 62 ∷ after)))) left)
      (ne_eqb k 0 (mask_some Between mask back))
      ∙ ap (λ (t : List ℕ). part (Some (mask_item t)) left)
      (take-append_seam Between (62 ∷ after))
      ∙ ap (λ (q : Bool). part (Some (if q then Empty else Mask Between)) left)
      (no_empty_word Between mask back)
      ∙ ap (part (Some (Mask Between))) (drop-append-add Between (62 ∷ after) 1)

  pub mask_line : (after : List ℕ) → IsTail after →
      IsLine Plain ((codes "<" ++ (Between ++ codes ">")) ++ after) (Mask Between ∷ []) after
  mask_line after tail =
      subst (λ (t : List ℕ). IsLine Plain (60 ∷ t) (Mask Between ∷ []) after)
      (sym (append_assoc Between (codes ">") after))
      (one_item (60 ∷ (Between ++ 62 ∷ after)) after (Mask Between) tail refl (mask_is after))
