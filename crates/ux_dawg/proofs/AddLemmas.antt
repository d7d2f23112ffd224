-- A form is added.
use Rattle.std.proofs.Common.{arith, length-append, ◌≡◌, ℕ, zero, suc, ◌<◌, ◌-◌, ◌∙◌, List, [], ◌∷◌, ◌++◌, inl, inr, refl, sym, ap, subst, length, take, drop, length-drop}
use Rattle.std.specs.Prelude.{Some, slice_get, Contains}
use Rattle.std.proofs.lemmas.List.{take-append-drop}
use Rattle.ux_dawg.specs.declared.state.State.{State}
use Rattle.ux_dawg.specs.declared.state.Edge.{Edge}
use Rattle.ux_dawg.specs.declared.pending.Frame.{Frame}
use Rattle.ux_dawg.specs.Building.{Held, letters, bare, IsCut, IsGrown, IsShared, IsAdded}
use Rattle.ux_dawg.proofs.HeldLemmas.{held_code}
use Rattle.ux_dawg.proofs.SoundLemmas.{sound_code}
use Rattle.ux_dawg.proofs.StepLemmas.{take_all}

-- a slice from n on
abbrev pub rest_from : ℕ → List ℕ → List ℕ
rest_from n word = take (length word - n) (drop n word)

rest_is : (n : ℕ) (word : List ℕ) → rest_from n word ≡ drop n word
rest_is n word = ap (λ m. take m (drop n word)) (sym (length-drop n word)) ∙ take_all (drop n word)

get_dropped : (n : ℕ) (word : List ℕ) → slice_get (drop n word) 0 ≡ slice_get word n
get_dropped zero [] = refl
get_dropped zero (x ∷ word) = refl
get_dropped (suc n) [] = refl
get_dropped (suc n) (x ∷ word) = get_dropped n word

module _ (s : List State) (a : List Frame) (t : State) (word : List ℕ) (n : ℕ) (shared : IsShared (letters a) word n)
    (s' : List State) (a₁ : List Frame) (t₁ : State) (cut : IsCut s a t s' a₁ t₁ n) where
  -- the next letter comes after the steps that are there
  pub under : (b : ℕ) (e : Edge) → slice_get (rest_from n word) 0 ≡ Some b → Contains t₁.edges e → e.letter < b
  under b e at has =
      let old = cut.under e has in
      let up = shared.up old.0 b old.1 (sym (get_dropped n word) ∙ (ap (λ l. slice_get l 0) (sym (rest_is n word)) ∙ at)) in
      let low = old.2 in
      omega (arith, up, low)

  pub added : (code : ℕ) (a₂ : List Frame) (t₂ t₃ : State) → IsGrown s' a₁ t₁ (rest_from n word) a₂ t₂ → t₃.code ≡ Some code → t₃.edges ≡ t₂.edges →
      IsAdded s a t s' a₂ t₃ word code
  added code a₂ t₂ t₃ grown coded edges =
      let less = shared.less in
      let long : length (rest_from n word) ≡ length word - n = ap (length {A = ℕ}) (rest_is n word) ∙ length-drop n word in
      let fresh : t₂ ≡ bare = grown.fresh (omega (arith, long, less)) in
      let spelled : letters a₂ ≡ word = grown.spelled ∙ (ap (λ l. letters a₁ ++ l) (rest_is n word) ∙ (ap (λ l. l ++ drop n word) (cut.spelled ∙ shared.same) ∙ take-append-drop n word)) in
      record {
        ready = record {
          sound = sound_code s' a₂ t₂ t₃ edges grown.sound;
          none = edges ∙ ap (λ (x : State). x.edges) fresh;
          alive = λ some. inl (code, coded);
          empty = λ none. absurd (let e = sym (ap (length {A = ℕ}) spelled) ∙ length-letters a₂ in omega (arith, e, none, less));
        };
        held = λ w c.
            let r = held_code s' a₂ t₂ code (ap (λ (x : State). x.code) fresh) w c in
            let is : t₃ ≡ record { code = Some code; edges = t₂.edges } = λ j. record { code = coded j; edges = edges j } in
            let g = grown.held w c in let o = cut.held w c in (
              λ h. elim (r.0 (subst (λ (x : State). Held s' a₂ x w c) is h)) [
                | inl old ↦ inl (o.0 (g.0 old))
                | inr new ↦ inr (new.0 ∙ spelled, new.1)
              ],
              λ h. subst (λ (x : State). Held s' a₂ x w c) (sym is) (r.1 (elim h [
                | inl old ↦ inl (g.1 (o.1 old))
                | inr new ↦ inr (new.0 ∙ sym spelled, new.1)
              ])),
            );
        spelled = spelled;
        room = let m = cut.room in let k = ap (length {A = ℕ}) grown.spelled in omega (arith, m, k, length-append (letters a₁) (rest_from n word), length-letters a₁, length-letters a₂, long);
      }
    where
      length-letters : (xs : List Frame) → length (letters xs) ≡ length xs
      length-letters [] = refl
      length-letters (x ∷ xs) = ap suc (length-letters xs)
