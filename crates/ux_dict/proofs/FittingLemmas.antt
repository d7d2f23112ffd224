-- Parts that fit the front of a text, and how they go on with one more character of it.
use Rattle.std.proofs.Common.{◌≡◌, ◌↔◌, ℕ, zero, suc, ◌+◌, ◌<◌, List, [], ◌∷◌, ◌++◌, true, length, take, get_or, refl, sym, ◌∙◌, ap, subst, arith, length-append}
use Rattle.std.specs.Prelude.{All, AllPairs, Contains, IsUtf8, filter, map}
use Rattle.std.specs.List.{AllZip}
use Rattle.std.specs.List.Sorted.{IsPartitionedBy}
use Rattle.std.specs.Str.{chars}
use Rattle.std.proofs.lemmas.Bool.{leb-true, le-leb}
use Rattle.std.proofs.lemmas.List.{append_assoc, append-nil, take_more, take_at, nil_from_length, get_or_append_left, get_or-append-add}
use Rattle.std.proofs.lemmas.List.Elements.{All-nil, All-cons, All-head, All-append, All-weaker, All-contains, AllZip-push, length_all_zip, Contains-append_left, Contains-push}
use Rattle.std.proofs.lemmas.Str.{length-le-encodes}
use lib.Utf8.{encodes}
use Rattle.ux_alphabet.specs.Letters.{Letters, Fits}
use Rattle.ux_dela.specs.declared.entry.Entry.{Entry}
use Rattle.ux_dict.specs.declared.parts.Part.{Part}
use Rattle.ux_dict.specs.Content.{IsUpTo}
use Rattle.ux_dict.specs.Forms.{IsChosen, none, kept, MayBegin}
use Rattle.ux_dict.specs.Keys.{key_of}
use Rattle.ux_dict.specs.Kept.{IsSpelled, IsKept}
use Rattle.ux_dict.specs.Parts.{ends_by, BeginsWith, IsPart, GoesOnWith, entries_of, IsContinued, AreCandidates, BeginsFittingAll, IsFittingPart, AreFittingParts, GoOn}
use Rattle.ux_dict.proofs.ChosenLemmas.{chosen-all, chosen-same, chosen-append, chosen-again, chosen-within, chosen-filter, chosen-member, chosen-from}
use Rattle.ux_dict.proofs.PartLemmas.{form_is, ends_parted}
use Rattle.ux_dict.proofs.ContinuedLemmas.{entries_of-append}

-- a list beside one that was pushed to was pushed to as well
zip_split : (R : ℕ → ℕ → Type 0) (xs ys : List ℕ) (y : ℕ) → AllZip R xs (ys ++ y ∷ []) →
    (front : List ℕ) × (x : ℕ) × (xs ≡ front ++ x ∷ []) × AllZip R front ys × R x y
zip_split R [] [] y zip = absurd zip
zip_split R [] (z ∷ ys) y zip = absurd zip
zip_split R (x ∷ []) [] y zip = ([], x, refl, tt, zip.0)
zip_split R (x ∷ (w ∷ xs)) [] y zip = absurd zip.1
zip_split R (x ∷ xs) (z ∷ ys) y zip =
    let rest = zip_split R xs ys y zip.1 in
    (x ∷ rest.0, rest.1, ap (λ (l : List ℕ). x ∷ l) rest.2, (zip.0, rest.3), rest.4)

-- two fronts of one list that are as long are one
pub same_front : (xs ys us vs : List ℕ) → xs ++ us ≡ ys ++ vs → length xs ≡ length ys → xs ≡ ys
same_front xs ys us vs is long =
    sym (take_at xs us (length xs) refl) ∙ ap (take (length xs)) is
    ∙ take_at ys vs (length xs) (sym long)

-- a list beside two lists, one behind the other, is two lists as well
pub zip_apart : (R : ℕ → ℕ → Type 0) (xs ys zs : List ℕ) → AllZip R xs (ys ++ zs) →
    (front rest : List ℕ) × (xs ≡ front ++ rest) × AllZip R front ys × AllZip R rest zs
zip_apart R xs [] zs zip = ([], xs, refl, tt, zip)
zip_apart R [] (y ∷ ys) zs zip = absurd zip
zip_apart R (x ∷ xs) (y ∷ ys) zs zip =
    let rest = zip_apart R xs ys zs zip.1 in
    (x ∷ rest.0, rest.1, ap (λ (l : List ℕ). x ∷ l) rest.2, (zip.0, rest.3), rest.4)

-- what begins with characters that fit more begins with some that fit less
pub fits_less : (alphabet : Letters) (front more : List ℕ) (entry : Entry) →
    BeginsFittingAll alphabet (front ++ more) entry → BeginsFittingAll alphabet front entry
fits_less alphabet front more entry (fitting, zip, (rest, is)) =
    let split = zip_apart (Fits alphabet) fitting front more zip in
    let whole = is ∙ ap (λ (l : List ℕ). l ++ rest) split.2
    ∙ append_assoc split.0 split.1 rest in
    (split.0, split.3, (split.1 ++ rest, whole))

-- no parts go on as none
pub GoOn-none : (alphabet : Letters) (letters more : List ℕ) (parts next : List Part) →
    parts ≡ [] → next ≡ [] → GoOn alphabet letters more parts next
GoOn-none alphabet letters more parts next is also front all spelled fit =
    let P = BeginsFittingAll alphabet front in
    let whole = subst (λ (p : List Part). IsChosen P all (entries_of p)) is fit.whole in
    subst (AreFittingParts alphabet (front ++ more) all) (sym also) (record {
      whole = chosen-again (BeginsFittingAll alphabet front)
          (BeginsFittingAll alphabet (front ++ more)) (fits_less alphabet front more) whole none;
      each = All-nil (IsFittingPart alphabet (front ++ more));
    })

module _ (alphabet : Letters) (all candidates front : List ℕ) (c : ℕ)
    (are : AreCandidates alphabet all c candidates) where
  -- one more character that fits
  longer : (fitting : List ℕ) (d : ℕ) → AllZip (Fits alphabet) fitting front →
      Contains candidates d → AllZip (Fits alphabet) (fitting ++ d ∷ []) (front ++ c ∷ [])
  longer fitting d zip member =
      AllZip-push (Fits alphabet) fitting front d c zip
      (All-contains (λ letter. Fits alphabet letter c) candidates d are.fit member)

  -- a form of the part fits one character more exactly where it goes on with a candidate
  goes_fitting : (fitting : List ℕ) (entry : Entry) → AllZip (Fits alphabet) fitting front →
      BeginsWith fitting entry → IsSpelled all entry →
      GoesOnWith fitting candidates entry ↔ BeginsFittingAll alphabet (front ++ c ∷ []) entry
  goes_fitting fitting entry zip begins spelled = (
    λ goes. (fitting ++ goes.0 ∷ [], longer fitting goes.0 zip goes.1, goes.2),
    λ more.
        let split = zip_split (Fits alphabet) more.0 front c more.1 in
        let whole = more.2.1 ∙ ap (λ (l : List ℕ). l ++ more.2.0) split.2 in
        let behind = whole ∙ append_assoc split.0 (split.1 ∷ []) more.2.0 in
        let long = length_all_zip (Fits alphabet) split.0 front split.3
        ∙ sym (length_all_zip (Fits alphabet) fitting front zip) in
        let same = same_front split.0 fitting (split.1 ∷ more.2.0) begins.0
        (sym behind ∙ begins.1) long in
        let there : Contains (chars entry.form) split.1 =
        subst (λ (l : List ℕ). Contains l split.1) (sym whole)
        (Contains-append_left (split.0 ++ split.1 ∷ []) more.2.0 split.1
        (Contains-push split.0 split.1)) in
        let letter = All-contains (Contains all) _ split.1 spelled.inside there in (
          split.1,
          are.every split.1 letter split.4,
          (
            more.2.0,
            whole ∙ ap (λ (l : List ℕ). (l ++ split.1 ∷ []) ++ more.2.0) same,
          ),
        ),
  )

  -- a part's new parts fit one character more
  pub fitting_part : (part : Part) (old new : List Part) → IsFittingPart alphabet front part →
      ((fitting : List ℕ) → IsPart fitting part → IsContinued fitting candidates part old new) →
      All (IsSpelled all) part.entries.now → (before : List Entry) →
      AreFittingParts alphabet (front ++ c ∷ []) before old →
      AreFittingParts alphabet (front ++ c ∷ []) (before ++ part.entries.now) new
  fitting_part part old new (fitting, zip, is) continues spelled before so_far =
      let goes = continues fitting is in
      let Q = BeginsFittingAll alphabet (front ++ c ∷ []) in
      let chosen = chosen-same (GoesOnWith fitting candidates) Q
      (λ k d lt. goes_fitting fitting (get_or part.entries.now k d) zip (is.shared k d lt)
      (spelled k d lt)) goes.chosen in
      let entries = ap entries_of goes.is ∙ entries_of-append old goes.pushed in
      record {
        whole = subst (IsChosen Q (before ++ part.entries.now)) (sym entries)
            (chosen-append Q so_far.whole chosen);
        each = subst (All (IsFittingPart alphabet (front ++ c ∷ []))) (sym goes.is)
            (All-append (IsFittingPart alphabet (front ++ c ∷ [])) old goes.pushed so_far.each
            (All-weaker (λ (p : Part). (d : ℕ) × Contains candidates d
            × IsPart (fitting ++ d ∷ []) p) (IsFittingPart alphabet (front ++ c ∷ []))
            (λ p h. (fitting ++ h.0 ∷ [], longer fitting h.0 zip h.1, h.2)) goes.pushed goes.each));
      }

-- no part so far
pub fitting_start : (alphabet : Letters) (front : List ℕ) →
    AreFittingParts alphabet front [] []
fitting_start alphabet front =
    record { whole = none; each = All-nil (IsFittingPart alphabet front) }

-- the entries of the parts so far and of the next one
pub entries_of-more : (parts : List Part) (i : ℕ) (part : Part) → i < length parts →
    part ≡ get_or parts i part →
    entries_of (take (i + 1) parts) ≡ entries_of (take i parts) ++ part.entries.now
entries_of-more parts i part lt at =
    ap entries_of (take_more parts i part lt ∙ ap (λ p. take i parts ++ p ∷ []) (sym at))
    ∙ entries_of-append (take i parts) (part ∷ [])
    ∙ ap (λ (l : List Entry). entries_of (take i parts) ++ l) (append-nil part.entries.now)

All-left : (P : Entry → Type 0) (xs ys : List Entry) → All P (xs ++ ys) → All P xs
All-left P xs ys all k d lt =
    subst P (get_or_append_left xs ys d k lt)
    (all k d (omega (arith, lt, length-append xs ys)))

All-right : (P : Entry → Type 0) (xs ys : List Entry) → All P (xs ++ ys) → All P ys
All-right P xs ys all k d lt =
    subst P (get_or-append-add xs ys k d)
    (all (length xs + k) d (omega (arith, lt, length-append xs ys)))

-- entries of a part are entries of the parts
pub entries_of-at : (P : Entry → Type 0) (parts : List Part) (i : ℕ) (part : Part) →
    i < length parts → part ≡ get_or parts i part → All P (entries_of parts) →
    All P part.entries.now
entries_of-at P [] i part lt at all = absurd (omega (arith, lt))
entries_of-at P (first ∷ parts) zero part lt at all =
    subst (λ (p : Part). All P p.entries.now) (sym at)
    (All-left P first.entries.now (entries_of parts) all)
entries_of-at P (first ∷ parts) (suc i) part lt at all =
    entries_of-at P parts i part (omega (arith, lt)) at
    (All-right P first.entries.now (entries_of parts) all)

-- an entry of a part is an entry of the parts
pub some_entry : (parts : List Part) (i : ℕ) (part : Part) → i < length parts →
    part ≡ get_or parts i part → 0 < length part.entries.now → 0 < length (entries_of parts)
some_entry [] i part lt at some = absurd (omega (arith, lt))
some_entry (first ∷ parts) zero part lt at some =
    let size = length-append first.entries.now (entries_of parts) in
    let same = ap (λ (p : Part). length p.entries.now) at in
    omega (arith, size, same, some)
some_entry (first ∷ parts) (suc i) part lt at some =
    let size = length-append first.entries.now (entries_of parts) in
    let later = some_entry parts i part (omega (arith, lt)) at some in
    omega (arith, size, later)

-- what holds of the parts alone holds of all entries
pub GoOn-from : (alphabet : Letters) (letters more : List ℕ) (parts next : List Part) →
    ((front : List ℕ) → All (IsFittingPart alphabet front) parts →
    All (IsSpelled letters) (entries_of parts) →
    AreFittingParts alphabet (front ++ more) (entries_of parts) next) →
    GoOn alphabet letters more parts next
GoOn-from alphabet letters more parts next goes front all spelled fit =
    let P = BeginsFittingAll alphabet front in
    let step = goes front fit.each (chosen-within P (IsSpelled letters) fit.whole spelled) in
    record {
      whole = chosen-again P (BeginsFittingAll alphabet (front ++ more))
          (fits_less alphabet front more) fit.whole step.whole;
      each = step.each;
    }

-- all entries of a dictionary are one part, whose forms begin with no character
pub IsPart-whole : (keys letters : List ℕ) (longest : ℕ) (entries : List Entry) (part : Part) →
    IsKept entries keys letters longest → part.entries.now ≡ entries → part.keys.now ≡ keys →
    part.len ≡ 0 → IsPart [] part
IsPart-whole keys letters longest entries part is same also len = record {
  keyed = also ∙ is.keyed ∙ ap (map key_of) (sym same);
  long = sym len;
  utf8 = subst (All (λ (e : Entry). IsUtf8 e.form)) (sym same)
      (λ k d lt. (is.spelled k d lt).utf8);
  shared = λ k d lt. (chars (get_or part.entries.now k d).form, refl);
  ordered = subst (AllPairs IsUpTo) (sym same) is.dictionary.ordered;
}

pub fitting_whole : (alphabet : Letters) (part : Part) → IsPart [] part →
    AreFittingParts alphabet [] part.entries.now (part ∷ [])
fitting_whole alphabet part is =
    let begins : (entry : Entry) → BeginsFittingAll alphabet [] entry =
    λ entry. ([], tt, (chars entry.form, refl)) in
    record {
      whole = subst (IsChosen (BeginsFittingAll alphabet []) part.entries.now)
          (sym (append-nil part.entries.now))
          (chosen-every (BeginsFittingAll alphabet []) part.entries.now begins);
      each = All-cons (IsFittingPart alphabet []) part [] ([], tt, is)
          (All-nil (IsFittingPart alphabet []));
    }
  where
    chosen-every : (P : Entry → Type 0) (xs : List Entry) → ((x : Entry) → P x) → IsChosen P xs xs
    chosen-every P [] all = none
    chosen-every P (x ∷ xs) all = kept (all x) (chosen-every P xs all)

-- a form of a part that fits a text ends with it exactly where the form fits it whole
ends_whole : (alphabet : Letters) (text fitting : List ℕ) (part : Part) →
    AllZip (Fits alphabet) fitting text → (is : IsPart fitting part) → (k : ℕ) (d : Entry) →
    k < length part.entries.now → (ends_by part.len (get_or part.entries.now k d) ≡ true)
    ↔ AllZip (Fits alphabet) (chars (get_or part.entries.now k d).form) text
ends_whole alphabet text fitting part zip is k d lt =
    let form = (get_or part.entries.now k d).form in
    let begins = is.shared k d lt in
    let size = ap length (form_is form fitting begins.0 (is.utf8 k d lt) begins.1)
    ∙ length-append (encodes fitting) (encodes begins.0) in (
      λ ends.
          let short = leb-true (length form) part.len ends in
          let few = length-le-encodes begins.0 in
          let empty = nil_from_length begins.0 (omega (arith, short, size, few, is.long)) in
          let whole = begins.1 ∙ ap (λ (l : List ℕ). fitting ++ l) empty ∙ append-nil fitting in
          subst (λ (l : List ℕ). AllZip (Fits alphabet) l text) (sym whole) zip,
      λ fits.
          let long = length_all_zip (Fits alphabet) (chars form) text fits in
          let same = length_all_zip (Fits alphabet) fitting text zip in
          let parts = ap length begins.1 ∙ length-append fitting begins.0 in
          let empty = nil_from_length begins.0 (omega (arith, long, same, parts)) in
          let bytes = ap (λ (l : List ℕ). length (encodes l)) empty in
          le-leb (length form) part.len (omega (arith, size, bytes, is.long)),
    )

-- the entries of a part whose forms end with the text
pub whole_part : (alphabet : Letters) (text : List ℕ) (part : Part) (found : List Entry) →
    IsFittingPart alphabet text part →
    (IsPartitionedBy (ends_by part.len) part.entries.now →
    found ≡ filter (ends_by part.len) part.entries.now) →
    IsChosen (λ entry. AllZip (Fits alphabet) (chars entry.form) text) part.entries.now found
whole_part alphabet text part found (fitting, zip, is) given =
    let W : Entry → Type 0 = λ entry. AllZip (Fits alphabet) (chars entry.form) text in
    subst (IsChosen W part.entries.now) (sym (given (ends_parted fitting part is)))
    (chosen-filter W (ends_by part.len) part.entries.now
    (ends_whole alphabet text fitting part zip is))

-- a form that fits a text whole begins fitting it
pub whole_begins : (alphabet : Letters) (text : List ℕ) (entry : Entry) →
    AllZip (Fits alphabet) (chars entry.form) text → BeginsFittingAll alphabet text entry
whole_begins alphabet text entry zip =
    (chars entry.form, zip, ([], sym (append-nil (chars entry.form))))

-- some entry may begin the text exactly where the parts have one
pub MayBegin-some : (alphabet : Letters) (text : List ℕ) (content : List Entry)
    (parts : List Part) → AreFittingParts alphabet (chars text) content parts →
    (0 < length (entries_of parts)) ↔ MayBegin alphabet text content
MayBegin-some alphabet text content parts fit =
    let P = BeginsFittingAll alphabet (chars text) in (
      λ some. first (entries_of parts) fit.whole some,
      λ (k, entry, lt, at, begins).
          let member = chosen-member P entry fit.whole (k, lt, at)
          (begins.0, begins.3, (begins.1, begins.2)) in
          omega (arith, member.1),
    )
  where
    first : (found : List Entry) →
        IsChosen (BeginsFittingAll alphabet (chars text)) content found → 0 < length found →
        MayBegin alphabet text content
    first [] chosen some = absurd (omega (arith, some))
    first (entry ∷ found) chosen some =
        let P = BeginsFittingAll alphabet (chars text) in
        let begins = All-head P entry found (chosen-all P chosen) in
        let member = chosen-from P entry chosen (0, omega arith, refl) in
        (member.0, entry, member.1, member.2, (begins.0, begins.2.0, begins.2.1, begins.1))
