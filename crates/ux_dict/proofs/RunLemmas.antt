-- Parts that fit the front of a text go on with characters which no others fit.
use Rattle.std.proofs.Common.{◌≡◌, ◌↔◌, ℕ, List, [], ◌∷◌, ◌++◌, get_or, refl, sym, ◌∙◌, ap, subst, inl}
use Rattle.std.specs.Prelude.{All, IsUtf8}
use Rattle.std.specs.Str.{chars}
use Rattle.std.proofs.lemmas.Str.{chars_from_encodes, encodes-append, encodes-chars}
use lib.Utf8.{encode, encodes}
use Rattle.ux_dict.specs.Kept.{IsSpelled}
use Rattle.std.specs.List.{AllZip}
use Rattle.std.proofs.lemmas.List.{append_assoc, append-nil}
use Rattle.std.proofs.lemmas.List.Elements.{All-append, All-weaker, All-head, All-tail, All-nil, All-push, length_all_zip}
use Rattle.ux_alphabet.specs.Letters.{Letters, Fits, FitsAlone}
use Rattle.ux_dela.specs.declared.entry.Entry.{Entry}
use Rattle.ux_dict.specs.declared.parts.Part.{Part}
use Rattle.ux_dict.specs.Forms.{IsChosen}
use Rattle.ux_dict.specs.Parts.{BeginsWith, IsPart, IsFollowed, BeginsFittingAll, IsFittingPart, AreFittingParts, GoOn, GoOnAlone, entries_of}
use Rattle.ux_dict.proofs.ChosenLemmas.{chosen-same, chosen-append, chosen-again}
use Rattle.ux_dict.proofs.ContinuedLemmas.{entries_of-append}
use Rattle.ux_dict.proofs.FittingLemmas.{zip_apart, fits_less, same_front}

AllZip-append : (R : ℕ → ℕ → Type 0) (xs ys us vs : List ℕ) → AllZip R xs ys → AllZip R us vs →
    AllZip R (xs ++ us) (ys ++ vs)
AllZip-append R [] [] us vs zip more = more
AllZip-append R [] (y ∷ ys) us vs zip more = absurd zip
AllZip-append R (x ∷ xs) [] us vs zip more = absurd zip
AllZip-append R (x ∷ xs) (y ∷ ys) us vs zip more =
    (zip.0, AllZip-append R xs ys us vs zip.1 more)

module _ (alphabet : Letters) where
  -- each character fits itself
  fits_itself : (run : List ℕ) → AllZip (Fits alphabet) run run
  fits_itself [] = tt
  fits_itself (c ∷ run) = (inl refl, fits_itself run)

  only_itself : (fitting run : List ℕ) → All (FitsAlone alphabet) run →
      AllZip (Fits alphabet) fitting run → fitting ≡ run
  only_itself [] [] alone zip = refl
  only_itself [] (c ∷ run) alone zip = absurd zip
  only_itself (x ∷ fitting) [] alone zip = absurd zip
  only_itself (x ∷ fitting) (c ∷ run) alone zip =
      let first = All-head (FitsAlone alphabet) c run alone x zip.0 in
      let rest = only_itself fitting run (All-tail (FitsAlone alphabet) c run alone) zip.1 in
      ap (λ d. d ∷ fitting) first ∙ ap (λ (l : List ℕ). c ∷ l) rest

  module _ (front run : List ℕ) (alone : All (FitsAlone alphabet) run) where
    longer : (fitting : List ℕ) → AllZip (Fits alphabet) fitting front →
        AllZip (Fits alphabet) (fitting ++ run) (front ++ run)
    longer fitting zip = AllZip-append (Fits alphabet) fitting front run run zip (fits_itself run)

    -- a form of a part fits these as well exactly where it goes on with them
    goes_fitting : (fitting : List ℕ) (entry : Entry) → AllZip (Fits alphabet) fitting front →
        BeginsWith fitting entry →
        BeginsWith (fitting ++ run) entry ↔ BeginsFittingAll alphabet (front ++ run) entry
    goes_fitting fitting entry zip begins = (
      λ goes. (fitting ++ run, longer fitting zip, goes),
      λ more.
          let split = zip_apart (Fits alphabet) more.0 front run more.1 in
          let whole = more.2.1 ∙ ap (λ (l : List ℕ). l ++ more.2.0) split.2 in
          let behind = whole ∙ append_assoc split.0 split.1 more.2.0 in
          let long = length_all_zip (Fits alphabet) split.0 front split.3
          ∙ sym (length_all_zip (Fits alphabet) fitting front zip) in
          let same = same_front split.0 fitting (split.1 ++ more.2.0) begins.0
          (sym behind ∙ begins.1) long in
          let last = only_itself split.1 run alone split.4 in (
            more.2.0,
            whole ∙ ap (λ (l : List ℕ). (l ++ split.1) ++ more.2.0) same
                ∙ ap (λ (l : List ℕ). (fitting ++ l) ++ more.2.0) last,
          ),
    )

    -- a part's new parts fit these as well
    pub fitting_run : (part : Part) (old new : List Part) → IsFittingPart alphabet front part →
        ((fitting : List ℕ) → IsPart fitting part → IsFollowed fitting run part old new) →
        (before : List Entry) → AreFittingParts alphabet (front ++ run) before old →
        AreFittingParts alphabet (front ++ run) (before ++ part.entries.now) new
    fitting_run part old new (fitting, zip, is) follows before so_far =
        let goes = follows fitting is in
        let Q = BeginsFittingAll alphabet (front ++ run) in
        let chosen = chosen-same (BeginsWith (fitting ++ run)) Q
        (λ k d lt. goes_fitting fitting (get_or part.entries.now k d) zip (is.shared k d lt))
        goes.chosen in
        let entries = ap entries_of goes.is ∙ entries_of-append old goes.pushed in
        record {
          whole = subst (IsChosen Q (before ++ part.entries.now)) (sym entries)
              (chosen-append Q so_far.whole chosen);
          each = subst (All (IsFittingPart alphabet (front ++ run))) (sym goes.is)
              (All-append (IsFittingPart alphabet (front ++ run)) old goes.pushed so_far.each
              (All-weaker (IsPart (fitting ++ run)) (IsFittingPart alphabet (front ++ run))
              (λ p h. (fitting ++ run, longer fitting zip, h)) goes.pushed goes.each));
        }

-- what holds of the parts alone holds of all entries
pub GoOnAlone-from : (more : List ℕ) (parts next : List Part) →
    ((alphabet : Letters) (front : List ℕ) → All (FitsAlone alphabet) more →
    All (IsFittingPart alphabet front) parts →
    AreFittingParts alphabet (front ++ more) (entries_of parts) next) → GoOnAlone more parts next
GoOnAlone-from more parts next goes alphabet front all alone fit =
    let step = goes alphabet front alone fit.each in
    record {
      whole = chosen-again (BeginsFittingAll alphabet front) (BeginsFittingAll alphabet (front ++ more))
          (fits_less alphabet front more) fit.whole step.whole;
      each = step.each;
    }

-- to go on with no character is to stay
pub GoOnAlone-none : (more : List ℕ) (parts : List Part) → more ≡ [] → GoOnAlone more parts parts
GoOnAlone-none more parts is alphabet front all alone fit =
    subst (λ (l : List ℕ). AreFittingParts alphabet l all parts)
    (sym (append-nil front) ∙ ap (λ (l : List ℕ). front ++ l) (sym is)) fit

-- characters that no others fit are gone on with alike by any alphabet that says so
pub GoOn-alone : (alphabet : Letters) (letters more : List ℕ) (parts next : List Part) →
    All (FitsAlone alphabet) more → GoOnAlone more parts next →
    GoOn alphabet letters more parts next
GoOn-alone alphabet letters more parts next alone goes front all spelled fit =
    goes alphabet front all alone fit

-- the parts fit the front of a text, but for a run of characters at its end that no others fit
pub record AreFittingBut (alphabet : Letters) (front run : List ℕ) (all : List Entry)
    (parts : List Part) : Type 0 where
  pub done : List ℕ
  pub is : front ≡ done ++ run
  pub alone : All (FitsAlone alphabet) run
  pub fit : AreFittingParts alphabet done all parts

-- where some parts fit the front of a text, the next ones fit it and these characters, but for such
-- a run
abbrev pub GoOnBut : Letters → (letters more run : List ℕ) (parts next : List Part) → Type 0
GoOnBut alphabet letters more run parts next = (front : List ℕ) (all : List Entry) →
    All (IsSpelled letters) all → AreFittingParts alphabet front all parts →
    AreFittingBut alphabet (front ++ more) run all next

module _ (alphabet : Letters) (letters : List ℕ) (parts : List Part) where
  -- no character yet
  pub but_start : (run : List ℕ) (next : List Part) → run ≡ [] → next ≡ parts →
      GoOnBut alphabet letters [] run parts next
  but_start run next none same front all spelled fit = record {
    done = front;
    is = ap (λ (l : List ℕ). front ++ l) (sym none);
    alone = subst (All (FitsAlone alphabet)) (sym none) (All-nil (FitsAlone alphabet));
    fit = subst (AreFittingParts alphabet front all) (sym same) fit;
  }

  -- one more that no other fits
  pub but_longer : (more run new : List ℕ) (c : ℕ) (next : List Part) →
      GoOnBut alphabet letters more run parts next → FitsAlone alphabet c → new ≡ run ++ c ∷ [] →
      GoOnBut alphabet letters (more ++ c ∷ []) new parts next
  but_longer more run new c next so_far alone is front all spelled fit =
      let but = so_far front all spelled fit in record {
        done = but.done;
        is = sym (append_assoc front more (c ∷ []))
            ∙ ap (λ (l : List ℕ). l ++ c ∷ []) but.is ∙ append_assoc but.done run (c ∷ [])
            ∙ ap (λ (l : List ℕ). but.done ++ l) (sym is);
        alone = subst (All (FitsAlone alphabet)) (sym is)
            (All-push (FitsAlone alphabet) run c but.alone alone);
        fit = but.fit;
      }

  -- all characters so far
  pub but_end : (more run : List ℕ) (next last : List Part) →
      GoOnBut alphabet letters more run parts next → GoOnAlone run next last →
      GoOn alphabet letters more parts last
  but_end more run next last so_far goes front all spelled fit =
      let but = so_far front all spelled fit in
      subst (λ (l : List ℕ). AreFittingParts alphabet l all last) (sym but.is)
      (goes alphabet but.done all but.alone but.fit)

  -- one more that others fit
  pub but_other : (more run new : List ℕ) (c : ℕ) (next behind last : List Part) →
      GoOnBut alphabet letters more run parts next → GoOnAlone run next behind →
      GoOn alphabet letters (c ∷ []) behind last → new ≡ [] →
      GoOnBut alphabet letters (more ++ c ∷ []) new parts last
  but_other more run new c next behind last so_far goes on none front all spelled fit =
      let longer = front ++ more ++ c ∷ [] in record {
        done = longer;
        is = sym (append_assoc front more (c ∷ [])) ∙ sym (append-nil longer)
            ∙ ap (λ (l : List ℕ). longer ++ l) (sym none);
        alone = subst (All (FitsAlone alphabet)) (sym none) (All-nil (FitsAlone alphabet));
        fit = on (front ++ more) all spelled
            (but_end more run next behind so_far goes front all spelled fit);
      }

-- the characters of a text behind which one was put
pub chars-pushed : (old new : List ℕ) (c : ℕ) → IsUtf8 old → IsUtf8 new → new ≡ old ++ encode c →
    chars new ≡ chars old ++ c ∷ []
chars-pushed old new c before utf8 is =
    sym (chars_from_encodes (chars old ++ c ∷ []) new utf8
    (encodes-append (chars old) (c ∷ [])
    ∙ ap (λ (l : List ℕ). encodes (chars old) ++ l) (append-nil (encode c))
    ∙ ap (λ (l : List ℕ). l ++ encode c) (encodes-chars old before) ∙ sym is))
