-- How the parts go on: letter by letter, in order of letters, and part by part.
use Rattle.std.proofs.Common.{◌≡◌, ◌↔◌, ◌⊎◌, ℕ, ◌+◌, ◌<◌, List, [], ◌∷◌, ◌++◌, length, take, get_or, refl, sym, ◌∙◌, ap, subst, inl, inr, arith}
use Rattle.std.specs.Prelude.{All, AllPairs, Contains}
use Rattle.std.specs.List.Sorted.{IsStrictlyIncreasing}
use Rattle.std.proofs.lemmas.List.{append_assoc, append-nil, take_more, length-take-le, get_or-take, get_or_default}
use Rattle.std.proofs.lemmas.List.Elements.{All-nil, All-append, All-weaker, Contains-append_left, Contains-push, Contains-push_cases, Contains-append_right}
use Rattle.std.proofs.lemmas.List.Kept.{AllPairs-from_increasing}
use lib.Utf8.{encode}
use Rattle.ux_dela.specs.declared.entry.Entry.{Entry}
use Rattle.ux_dict.specs.declared.parts.Part.{Part}
use Rattle.ux_dict.specs.Forms.{IsChosen}
use Rattle.ux_dict.specs.Parts.{next_rank, BeginsWith, IsPart, GoesOnWith, entries_of, IsContinued}
use Rattle.ux_dict.proofs.ChosenLemmas.{chosen-none, chosen-same, chosen-either}
use Rattle.ux_base.proofs.OrderedLists.{Contains-nil, Contains-cons_cases}
use Rattle.ux_dict.proofs.PartLemmas.{next_rises, rank_here, rank_lower}

-- the entries of two lists of parts
pub entries_of-append : (parts more : List Part) →
    entries_of (parts ++ more) ≡ entries_of parts ++ entries_of more
entries_of-append [] more = refl
entries_of-append (part ∷ parts) more =
    ap (λ (l : List Entry). part.entries.now ++ l) (entries_of-append parts more)
    ∙ sym (append_assoc part.entries.now (entries_of parts) (entries_of more))

-- no letter, no part
pub IsContinued-start : (front : List ℕ) (part : Part) (old : List Part) →
    IsContinued front [] part old old
IsContinued-start front part old = record {
  pushed = [];
  is = sym (append-nil old);
  chosen = chosen-none (GoesOnWith front []) part.entries.now
      (λ k d lt goes. Contains-nil goes.0 goes.1);
  each = All-nil (λ (p : Part). (d : ℕ) × Contains [] d × IsPart (front ++ d ∷ []) p);
}

module _ (front : List ℕ) (part : Part) (letters : List ℕ) (i c : ℕ) (lt : i < length letters)
    (at : c ≡ get_or letters i c) (rising : IsStrictlyIncreasing letters)
    (is : IsPart front part) where
  -- a letter before this one is lower
  lower : (f : ℕ) → Contains (take i letters) f → f < c
  lower f (k, inside, same) =
      let within : k < i =
      omega (arith, inside, length-take-le i letters (omega (arith, lt))) in
      let read : get_or letters k f ≡ f = sym (get_or-take i letters k f within) ∙ same in
      let up = AllPairs-from_increasing letters rising k i f within lt in
      let here = get_or_default letters i f c lt in
      omega (arith, up, read, here, at)

  -- the part's forms begin with the front and one of the letters
  abbrev GoesOnAs : List ℕ → Part → Type 0
  GoesOnAs some p = (d : ℕ) × Contains some d × IsPart (front ++ d ∷ []) p

  only_here : (entry : Entry) → GoesOnWith front (c ∷ []) entry → BeginsWith (front ++ c ∷ []) entry
  only_here entry (d, member, begins) = elim (Contains-cons_cases c d [] member) [
    | inl same ↦ subst (λ e. BeginsWith (front ++ e ∷ []) entry) (sym same) begins
    | inr later ↦ absurd (Contains-nil d later)
  ]

  middle : (k : ℕ) (d : Entry) → k < length part.entries.now →
      GoesOnWith front (c ∷ []) (get_or part.entries.now k d) →
      next_rank part.len (encode c) (get_or part.entries.now k d) ≡ 1
  middle k d inside goes =
      rank_here front (c ∷ []) (encode c) part.len (get_or part.entries.now k d)
      (sym (append-nil (encode c))) is.long (is.utf8 k d inside)
      (only_here (get_or part.entries.now k d) goes)

  low : (k : ℕ) (d : Entry) → k < length part.entries.now →
      GoesOnWith front (take i letters) (get_or part.entries.now k d) →
      next_rank part.len (encode c) (get_or part.entries.now k d) ≡ 0
  low k d inside (f, member, begins) =
      rank_lower front f c part.len (get_or part.entries.now k d) (lower f member) is.long
      (is.utf8 k d inside) begins

  either_letter : (entry : Entry) →
      (GoesOnWith front (take i letters) entry ⊎ GoesOnWith front (c ∷ []) entry)
      ↔ GoesOnWith front (take (i + 1) letters) entry
  either_letter entry =
      let more = take_more letters i c lt ∙ ap (λ e. take i letters ++ e ∷ []) (sym at) in
      let last = subst (λ (l : List ℕ). Contains l c) (sym more) (Contains-push (take i letters) c)
      in (
        λ either. elim either [
          | inl earlier ↦ (
            earlier.0,
            subst (λ (l : List ℕ). Contains l earlier.0) (sym more)
                (Contains-append_left (take i letters) (c ∷ []) earlier.0 earlier.1),
            earlier.2,
          )
          | inr here ↦ (c, last, only_here entry here)
        ],
        λ goes. elim (Contains-push_cases (take i letters) c goes.0
            (subst (λ (l : List ℕ). Contains l goes.0) more goes.1)) [
              | inl earlier ↦ inl (goes.0, earlier, goes.2)
              | inr same ↦ inr (
                c,
                (0, omega arith, refl),
                subst (λ e. BeginsWith (front ++ e ∷ []) entry) (sym same) goes.2,
              )
            ],
      )

  -- one more letter
  pub IsContinued-more : (old mid new : List Part) →
      IsContinued front (take i letters) part old mid → IsContinued front (c ∷ []) part mid new →
      IsContinued front (take (i + 1) letters) part old new
  IsContinued-more old mid new before here =
      let entries = part.entries.now in
      let rises = next_rises front part (encode c) is in
      let pairs : AllPairs (λ x y. GoesOnWith front (c ∷ []) x →
      GoesOnWith front (take i letters) y → ⊥) entries =
      λ k m d earlier inside q p.
      let up = rises k m d (omega (arith, earlier)) inside in
      let mid' = middle k d (omega (arith, earlier, inside)) q in
      let low' = low m d inside p in
      absurd (omega (arith, up, mid', low')) in
      let apart : All (λ x. GoesOnWith front (take i letters) x →
      GoesOnWith front (c ∷ []) x → ⊥) entries =
      λ k d inside p q.
      let mid' = middle k d inside q in
      let low' = low k d inside p in
      absurd (omega (arith, mid', low')) in
      let both = chosen-either (GoesOnWith front (take i letters)) (GoesOnWith front (c ∷ [])) pairs
      apart before.chosen here.chosen in
      let more = take_more letters i c lt ∙ ap (λ e. take i letters ++ e ∷ []) (sym at) in
      record {
        pushed = before.pushed ++ here.pushed;
        is = here.is ∙ ap (λ (l : List Part). l ++ here.pushed) before.is
            ∙ append_assoc old before.pushed here.pushed;
        chosen = chosen-same _ (GoesOnWith front (take (i + 1) letters))
            (λ k d inside. either_letter (get_or entries k d))
            (subst (IsChosen (λ x. GoesOnWith front (take i letters) x
            ⊎ GoesOnWith front (c ∷ []) x) entries)
            (sym (entries_of-append before.pushed here.pushed)) both);
        each = subst (λ (l : List ℕ). All (GoesOnAs l) (before.pushed ++ here.pushed)) (sym more)
            (All-append (GoesOnAs (take i letters ++ c ∷ [])) before.pushed here.pushed
            (All-weaker (GoesOnAs (take i letters)) (GoesOnAs (take i letters ++ c ∷ []))
            (λ p h. (h.0, Contains-append_left (take i letters) (c ∷ []) h.0 h.1, h.2))
            before.pushed before.each)
            (All-weaker (GoesOnAs (c ∷ [])) (GoesOnAs (take i letters ++ c ∷ []))
            (λ p h. (h.0, Contains-append_right (take i letters) (c ∷ []) h.0 h.1, h.2))
            here.pushed here.each));
      }
