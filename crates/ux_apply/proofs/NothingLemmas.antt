-- Where no form begins with characters that fit a text, no entry applies to it or to a longer one.
use Rattle.std.proofs.Common.{arith, ℕ, Bool, true, false, cond, List, [], ◌∷◌, ◌++◌, append-nil, get_or, inr, refl, subst}
use Rattle.std.specs.Prelude.{All, IsUtf8}
use Rattle.std.specs.List.{AllZip}
use Rattle.std.specs.Str.{chars}
use Rattle.std.proofs.lemmas.Str.{chars-append}
use Rattle.std.proofs.lemmas.List.{get_or_default}
use Rattle.std.proofs.lemmas.List.Elements.{All-head, All-tail}
use Rattle.ux_alphabet.specs.Letters.{Letters, Fits}
use Rattle.ux_dela.specs.declared.entry.Entry.{Entry}
use Rattle.ux_dict.specs.Forms.{FitsForm, BeginsFitting, MayBegin, IsChosen, none, kept, left, IsFitting}
use Rattle.ux_apply.specs.declared.priority.Priority.{Priority}
use Rattle.ux_apply.specs.declared.priority.Priority.TheVariants.{High, Normal, Low}
use Rattle.ux_apply.specs.Applying.{AreFound, AreApplying, content_at, is_same}
use Rattle.ux_apply.specs.Kept.{NoneBegins}
use Rattle.ux_apply.proofs.OnceLemmas.{once-short}
use Rattle.ux_apply.proofs.ZipLemmas.{zip-split}

module _ {X : Type 0} (P : X → Type 0) where
  -- what is chosen of two lists
  pub chosen-append : {xs ys us vs : List X} → IsChosen P xs ys → IsChosen P us vs →
      IsChosen P (xs ++ us) (ys ++ vs)
  chosen-append none more = more
  chosen-append (kept p rest) more = kept p (chosen-append rest more)
  chosen-append (left fails rest) more = left fails (chosen-append rest more)

  -- nothing is, where no member has the property
  chosen-none : (xs : List X) → All (λ x. P x → ⊥) xs → IsChosen P xs []
  chosen-none [] fails = none
  chosen-none (x ∷ xs) fails =
      let No : X → Type 0 = λ y. P y → ⊥ in
      left (All-head No x xs fails) (chosen-none xs (All-tail No x xs fails))

module _ (alphabet : Letters) (text : List ℕ) where
  module _ (utf8 : IsUtf8 text) (rest : List ℕ) where
    -- a form that fits a text begins with characters that fit its front
    begins-fitting : (form : List ℕ) → FitsForm alphabet form (text ++ rest) →
        BeginsFitting alphabet form text
    begins-fitting form fits =
        zip-split (Fits alphabet) (chars form) (chars text) (chars rest)
        (subst (λ (l : List ℕ). AllZip (Fits alphabet) (chars form) l) (chars-append text rest utf8)
        fits)

    none-fits : (content : List Entry) → (MayBegin alphabet text content → ⊥) →
        IsFitting alphabet (text ++ rest) content []
    none-fits content none_begins =
        chosen-none (λ (e : Entry). FitsForm alphabet e.form (text ++ rest)) content
        (λ k d lt fits. none_begins (
          k,
          get_or content k d,
          lt,
          get_or_default content k (get_or content k d) d lt,
          begins-fitting (get_or content k d).form fits,
        ))

    none-at : (priority : Priority) (dics : List (Priority × List Entry)) →
        NoneBegins alphabet dics text →
        IsFitting alphabet (text ++ rest) (content_at priority dics) []
    none-at priority [] begin = none
    none-at priority (dic ∷ dics) begin =
        let No : Priority × List Entry → Type 0 = λ d. MayBegin alphabet text d.1 → ⊥ in
        chosen-append (λ (e : Entry). FitsForm alphabet e.form (text ++ rest))
        (own (is_same dic.0 priority) (All-head No dic dics begin))
        (none-at priority dics (All-tail No dic dics begin))
      where
        own : (same : Bool) → (MayBegin alphabet text dic.1 → ⊥) →
            IsFitting alphabet (text ++ rest) (cond same dic.1 []) []
        own true fails = none-fits dic.1 fails
        own false fails = none

    -- so no entry applies
    pub nothing-applies : (dics : List (Priority × List Entry)) → NoneBegins alphabet dics text →
        AreApplying alphabet dics (text ++ rest) []
    nothing-applies dics begin =
        inr (found High, inr (found Normal, inr (found Low, refl)))
      where
        found : (priority : Priority) → AreFound alphabet dics (text ++ rest) priority []
        found priority = record {
          fitting = [];
          fit = none-at priority dics begin;
          once = once-short [] (omega arith);
        }

  -- and none applies to the text itself
  pub nothing-there : IsUtf8 text → (dics : List (Priority × List Entry)) →
      NoneBegins alphabet dics text → AreApplying alphabet dics text []
  nothing-there utf8 dics begin =
      subst (λ (t : List ℕ). AreApplying alphabet dics t []) (append-nil text)
      (nothing-applies utf8 [] dics begin)
