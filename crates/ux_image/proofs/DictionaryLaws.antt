-- The entries of a dictionary stand in the order of code points, since their forms are texts.
use Rattle.std.proofs.Common.{arith, ◌≡◌, ◌≢◌, ◌⊎◌, inl, inr, ℕ, List, [], ◌∷◌, refl, sym, ◌∙◌}
use Rattle.std.specs.Prelude.{All, AllPairs, IsUtf8}
use Rattle.std.proofs.lemmas.List.Elements.{All-head, All-tail, All-weaker}
use Rattle.std.proofs.lemmas.Str.{IsUtf8-nil}
use Rattle.ux_base.proofs.CodePoints.{code_points}
use Rattle.ux_dela.specs.Sound.{IsSound}
use Rattle.ux_dela.specs.declared.entry.Entry.{Entry}
use Rattle.ux_dict.specs.Content.{IsDictionary, IsUpTo}
use Rattle.ux_base.proofs.OrderedLists.{AllPairs-head, AllPairs-tail}
use Rattle.ux_image.specs.Contents.{AreInOrder, HasTexts, IsContent, Precedes}

-- the entry behind another is of its form, or of one behind that by code points
follows : (entry next : Entry) → IsUtf8 entry.form → IsUtf8 next.form → IsUpTo entry next →
    (next.form ≡ entry.form) ⊎ Precedes entry.form next.form
follows entry next text other (inl below) =
    inr (sym (code_points entry.form next.form text other) ∙ below)
follows entry next text other (inr same) = inl (sym same)

-- so the rest is in order behind the first entry
rest_in_order : (entry : Entry) (rest : List Entry) → AllPairs IsUpTo (entry ∷ rest) →
    All (λ (e : Entry). IsUtf8 e.form) (entry ∷ rest) → AreInOrder entry.form rest
rest_in_order entry [] pairs texts = tt
rest_in_order entry (next ∷ rest) pairs texts =
    let later = All-tail (λ (e : Entry). IsUtf8 e.form) entry (next ∷ rest) texts in (
      follows entry next (All-head (λ (e : Entry). IsUtf8 e.form) entry (next ∷ rest) texts)
          (All-head (λ (e : Entry). IsUtf8 e.form) next rest later)
          (AllPairs-head IsUpTo entry next (next ∷ rest) pairs (0, omega arith, refl)),
      rest_in_order next rest (AllPairs-tail IsUpTo entry (next ∷ rest) pairs) later,
    )

-- a form that isn't empty comes behind the empty one
behind_empty : (form : List ℕ) → IsUtf8 form → form ≢ [] → Precedes [] form
behind_empty [] text some = absurd (some refl)
behind_empty (b ∷ form) text some = sym (code_points [] (b ∷ form) IsUtf8-nil text) ∙ refl

in_order : (content : List Entry) → AllPairs IsUpTo content →
    All (λ (e : Entry). IsUtf8 e.form) content → All (λ (e : Entry). e.form ≢ []) content →
    AreInOrder [] content
in_order [] pairs texts some = tt
in_order (entry ∷ rest) pairs texts some = (
  inr (behind_empty entry.form (All-head (λ (e : Entry). IsUtf8 e.form) entry rest texts)
      (All-head (λ (e : Entry). e.form ≢ []) entry rest some)),
  rest_in_order entry rest pairs texts,
)

-- so they are a content
pub dictionary_content : (content : List Entry) → IsDictionary content → All HasTexts content →
    IsContent content
dictionary_content content dictionary texts =
    let forms = All-weaker HasTexts (λ (e : Entry). IsUtf8 e.form) (λ e has. has.form) content texts
    in
    let some : All (λ (e : Entry). e.form ≢ []) content =
    All-weaker IsSound (λ (e : Entry). e.form ≢ []) (λ e sound. sound.form.some) content
    dictionary.sound in
    record { some = some; ordered = in_order content dictionary.ordered forms some }
