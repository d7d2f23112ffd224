-- One more form is counted.
use Rattle.std.proofs.Common.{◌≡◌, ℕ, ◌^◌, ◌<◌, List, [], ◌∷◌, ◌++◌, cond, length, refl, sym, ◌∙◌, ap, subst, inl, inr, arith}
use Rattle.std.specs.Prelude.{◌⊎◌, Contains, Option, None, Some, bytes_eq, slice_get, sum_by}
use Rattle.std.specs.Cmp.Lexicographic.{bytes_decides}
use Rattle.std.specs.Option.{unwrap_or}
use Rattle.std.proofs.lemmas.Bool.{cases_Bool}
use Rattle.std.proofs.lemmas.Option.{same_Some}
use Rattle.std.proofs.lemmas.List.Elements.{Contains-append_cases, Contains-append_left, Contains-append_right}
use Rattle.std.proofs.lemmas.List.Sums.{sum_by-append, sum_by-cons}
use Rattle.indexmap.specs.IndexMap.{get_by_text}
use Rattle.ux_dawg.specs.declared.state.Form.{Form}
use Rattle.ux_dict.specs.Forms.{count_of}
use Rattle.ux_base.proofs.OrderedLists.{Contains-cons_cases}
use Rattle.ux_image_lists.specs.Sizes.{forms_of}
use Rattle.ux_image_lexicon.specs.Counting.{AreCountedBut, Puts, TellsForm}
use Rattle.ux_image_lexicon.specs.Told.{content_in, made_of, read_in, CodedForms, IsCoded}
use Rattle.ux_image_lexicon.specs.declared.counts.Counts.{Counts}
use Rattle.ux_image_lexicon.proofs.CountLemmas.{count_at, text_of}

module _ (coded : CodedForms) (is : IsCoded coded) where
  abbrev forms : List Form
  forms = forms_of coded.states

  abbrev made : Form → ℕ
  made = made_of coded.lists

  -- forms with one text have as many entries
  made_alike : (f g : Form) → Contains forms f → Contains forms g → text_of f ≡ text_of g →
      made f ≡ made g
  made_alike f g has there same =
      sym (count_at coded is f has) ∙ ap (λ (l : List ℕ). count_of l (content_in coded)) same
      ∙ count_at coded is g there

  module _ (old new : Counts) (before behind : List Form) (g : Form) (n : ℕ)
      (so_far : AreCountedBut coded old (before ++ g ∷ behind)) (own : n ≡ made g)
      (puts : Puts (text_of g) n (length (read_in (slice_get coded.lists g.code))) old new) where
    abbrev codes_of : Form → ℕ
    codes_of f = length (read_in (slice_get coded.lists f.code))

    in_left : (f : Form) → Contains (before ++ behind) f → Contains (before ++ g ∷ behind) f
    in_left f has = elim (Contains-append_cases before behind f has) [
      | inl here ↦ Contains-append_left before (g ∷ behind) f here
      | inr later ↦ Contains-append_right before (g ∷ behind) f
          (Contains-append_right (g ∷ []) behind f later)
    ]

    out_left : (f : Form) → Contains (before ++ g ∷ behind) f →
        (g ≡ f) ⊎ Contains (before ++ behind) f
    out_left f has = elim (Contains-append_cases before (g ∷ behind) f has) [
      | inl here ↦ inr (Contains-append_left before behind f here)
      | inr later ↦ elim (Contains-cons_cases g f behind later) [
        | inl same ↦ inl same
        | inr more ↦ inr (Contains-append_right before behind f more)
      ]
    ]

    among_g : Contains forms g
    among_g =
        so_far.among g (Contains-append_right before (g ∷ behind) g
        (Contains-append_left (g ∷ []) behind g (0, omega arith, refl)))

    -- what is kept of a form is what was, or how many entries it has
    kept_now : (f : Form) → Contains forms f →
        (get_by_text new.fewer (text_of f) ≡ get_by_text old.fewer (text_of f))
        ⊎ (get_by_text new.fewer (text_of f) ≡ Some (made f))
    kept_now f has = elim puts.fewer [
      | inl stays ↦ inl (stays.1 (text_of f))
      | inr put ↦ elim (cases_Bool (bytes_eq (text_of g) (text_of f))) [
        | inl same ↦
            let alike = made_alike g f among_g has
            ((bytes_decides (text_of g) (text_of f)).0 same) in
            inr (put (text_of f)
            ∙ ap (λ b. cond b (Some n) (get_by_text old.fewer (text_of f))) same
            ∙ ap Some (own ∙ alike))
        | inr other ↦
            inl (put (text_of f)
            ∙ ap (λ b. cond b (Some n) (get_by_text old.fewer (text_of f))) other)
      ]
    ]

    kept_right : (f : Form) → Contains forms f → (m : ℕ) →
        get_by_text new.fewer (text_of f) ≡ Some m → m ≡ made f
    kept_right f has m at = elim (kept_now f has) [
      | inl stays ↦ so_far.kept f has m (sym stays ∙ at)
      | inr put ↦ same_Some m (made f) (sym at ∙ put)
    ]

    tells_still : (f : Form) → Contains forms f → TellsForm coded.lists old f →
        TellsForm coded.lists new f
    tells_still f has tells = elim (kept_now f has) [
      | inl stays ↦ ap (λ (o : Option ℕ). unwrap_or o (codes_of f)) stays ∙ tells
      | inr put ↦ ap (λ (o : Option ℕ). unwrap_or o (codes_of f)) put
    ]

    tells_here : TellsForm coded.lists new g
    tells_here = elim puts.fewer [
      | inl stays ↦ by (get_by_text old.fewer (text_of g)) refl (stays.1 (text_of g)) stays.0
      | inr put ↦
          ap (λ (o : Option ℕ). unwrap_or o (codes_of g)) (put (text_of g)
          ∙ ap (λ b. cond b (Some n) (get_by_text old.fewer (text_of g)))
          ((bytes_decides (text_of g) (text_of g)).1 refl)) ∙ own
    ]
      where
        by : (o : Option ℕ) → get_by_text old.fewer (text_of g) ≡ o →
            get_by_text new.fewer (text_of g) ≡ get_by_text old.fewer (text_of g) →
            n ≡ codes_of g → TellsForm coded.lists new g
        by None at stays all =
            ap (λ (o : Option ℕ). unwrap_or o (codes_of g)) (stays ∙ at) ∙ sym all ∙ own
        by (Some m) at stays all =
            ap (λ (o : Option ℕ). unwrap_or o (codes_of g)) (stays ∙ at)
            ∙ so_far.kept g among_g m at

    pub one_more : sum_by made forms < 2 ^ 64 → AreCountedBut coded new (before ++ behind)
    one_more few = record {
      among = λ f has. so_far.among f (in_left f has);
      total =
          let old_sum = sum_by-append made before (g ∷ behind) in
          let one = sum_by-cons made g behind in
          let new_sum = sum_by-append made before behind in
          let whole = so_far.total in
          let put = puts.total in
          omega (arith, old_sum, one, new_sum, whole, put, own, few);
      kept = kept_right;
      each = λ f has. elim (so_far.each f has) [
        | inl left ↦ elim (out_left f left) [
          | inl same ↦ inr (subst (TellsForm coded.lists new) same tells_here)
          | inr more ↦ inl more
        ]
        | inr tells ↦ inr (tells_still f has tells)
      ];
    }
