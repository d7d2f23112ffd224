-- A builder holds no form at first, and one more after each that is added.
use Rattle.std.proofs.Common.{arith, ◌≡◌, ℕ, ◌<◌, ◌+◌, ◌↔◌, ◌∙◌, List, [], ◌∷◌, ◌++◌, inl, inr, refl, sym, ap, subst, length}
use Rattle.std.specs.Prelude.{Contains}
use Rattle.std.proofs.lemmas.Option.{none-some}
use Rattle.std.proofs.lemmas.List.Elements.{Contains-append_left, Contains-push_cases, Contains-push}
use Rattle.ux_dawg.specs.declared.state.State.{State}
use Rattle.ux_dawg.specs.declared.state.Form.{Form}
use Rattle.ux_dawg.specs.declared.pending.Frame.{Frame}
use Rattle.ux_dawg.specs.Forms.{form_of, letters_in, last_letters, AreSorted, MayFollow}
use Rattle.ux_dawg.specs.Paths.{edge}
use Rattle.ux_dawg.specs.Automaton.{IsAutomaton}
use Rattle.ux_dawg.specs.Building.{Held, letters, bare, IsAdded, IsFinished}
use Rattle.ux_dawg.specs.Listed.{forms_held, AreHeld, IsBuilt}
use Rattle.ux_dawg.proofs.PathLemmas.{is_some_of}
use Rattle.ux_dawg.proofs.SoundLemmas.{sound_start}
use Rattle.ux_dawg.proofs.FormsLemmas.{in_order, one_order, AreSorted-push, last_letters-push, letters_in-push, some_after}
use Rattle.ux_dawg.proofs.ListedLemmas.{held_listed, held_in_order}

-- nothing is held at first
none_held : forms_held [] [] bare ≡ []
unfolding forms_held
none_held = refl

held_start : AreHeld [] [] [] bare
held_start = record {
  sorted = tt;
  ready = record {
    sound = sound_start;
    none = refl;
    alive = λ less. absurd (omega (arith, less));
    empty = λ none. refl;
  };
  held = λ w c. (λ h. absurd (nothing w c h), λ h. absurd (none-some _ (is_some_of [] _ h).1));
  spelled = refl;
  some = λ less. absurd (omega (arith, less));
  room = omega arith;
}
  where
    nothing : (w : List ℕ) (c : ℕ) → Held [] [] bare w c → ⊥
    nothing [] c h = none-some c h
    nothing (b ∷ w) c h = none-some (edge b h.0) (is_some_of [] (edge b h.0) h.2).1

pub started : (s : List State) (a : List Frame) (t : State) → s ≡ [] → a ≡ [] → t ≡ bare →
    (forms_held s a t ≡ []) × IsBuilt s a t 0
started s a t s_is a_is t_is =
    let Starts : List State → List Frame → State → Type 0 =
    λ x y z. (forms_held x y z ≡ []) × IsBuilt x y z 0 in
    subst (λ (x : List State). Starts x a t) (sym s_is)
    (subst (λ (y : List Frame). Starts [] y t) (sym a_is)
    (subst (λ (z : State). Starts [] [] z) (sym t_is) (
      none_held,
      record {
        holds = subst (λ (fs : List Form). AreHeld fs [] [] bare) (sym none_held) held_start;
        counted = ap letters_in none_held;
      },
    )))

module _ (fs : List Form) (s : List State) (a : List Frame) (t : State) (old : AreHeld fs s a t)
    (word : List ℕ) (code : ℕ) (follow : MayFollow fs word) (s' : List State) (a' : List Frame)
    (t' : State) (add : IsAdded s a t s' a' t' word code) where
  abbrev more : List Form
  more = fs ++ form_of word code ∷ []

  -- the form is held, and those before it
  one_more : (w : List ℕ) (c : ℕ) → Held s' a' t' w c ↔ Contains more (form_of w c)
  one_more w c = let h = add.held w c in let before = old.held w c in (
    λ x. elim (h.0 x) [
      | inl there ↦ Contains-append_left fs (form_of word code ∷ []) (form_of w c) (before.0 there)
      | inr new ↦ subst (Contains more) (λ j. form_of (sym new.0 j) (sym new.1 j))
          (Contains-push fs (form_of word code))
    ],
    λ x. h.1 (elim (Contains-push_cases fs (form_of word code) (form_of w c) x) [
      | inl there ↦ inl (before.1 there)
      | inr new ↦ inr (ap (λ (f : Form). f.letters) (sym new), ap (λ (f : Form). f.code) (sym new))
    ]),
  )

  more_sorted : AreSorted [] more
  more_sorted = AreSorted-push [] fs (form_of word code) old.sorted follow.after

  -- so the list of the forms has this one at its end
  forms_held-added : forms_held s' a' t' ≡ more
  forms_held-added =
      one_order (forms_held s' a' t') more (held_in_order s' a' t' add.ready.sound)
      (in_order [] more more_sorted)
      (λ f. let listed = held_listed s' a' t' add.ready.sound f.letters f.code in
      let is = one_more f.letters f.code in
      (λ has. is.0 (listed.0 has), λ has. listed.1 (is.1 has)))

  held_added : AreHeld (forms_held s' a' t') s' a' t'
  held_added = subst (λ (gs : List Form). AreHeld gs s' a' t') (sym forms_held-added) (record {
    sorted = more_sorted;
    ready = add.ready;
    held = one_more;
    spelled = add.spelled ∙ sym (last_letters-push [] fs (form_of word code));
    some = λ less. spelled_some a' (subst (λ w. 0 < length w) (sym add.spelled)
        (some_after (last_letters [] fs) word follow.after));
    room = let most = add.room in let before = old.room in
        omega (arith, most, before, letters_in-push fs (form_of word code));
  })
    where
      spelled_some : (above : List Frame) → 0 < length (letters above) → 0 < length above
      spelled_some [] less = less
      spelled_some (f ∷ above) less = omega arith

-- the same of a builder that is seen as these forms
module _ (fs : List Form) (s : List State) (a : List Frame) (t : State) (many : ℕ)
    (view : forms_held s a t ≡ fs) (built : IsBuilt s a t many) where
  pub holds_view : AreHeld fs s a t
  holds_view = subst (λ (gs : List Form). AreHeld gs s a t) view built.holds

  module _ (word : List ℕ) (code : ℕ) (follow : MayFollow fs word) (s' : List State)
      (a' : List Frame) (t' : State) (add : IsAdded s a t s' a' t' word code) where
    pub view_added : forms_held s' a' t' ≡ fs ++ form_of word code ∷ []
    view_added = forms_held-added fs s a t holds_view word code follow s' a' t' add

    pub built_added : IsBuilt s' a' t' (many + length word)
    built_added = record {
      holds = held_added fs s a t holds_view word code follow s' a' t' add;
      counted = ap letters_in view_added ∙ (letters_in-push fs (form_of word code)
          ∙ ap (λ n. n + length word) (ap letters_in (sym view) ∙ built.counted));
    }

  -- the finished automaton has the forms that were held
  pub automaton_of : (states : List State) (root : ℕ) → IsFinished s a t states root →
      IsAutomaton fs states root
  automaton_of states root fin = record {
    exact = λ w c. let e = fin.exact w c in let h = holds_view.held w c in (
      λ path. h.0 (e.0 path),
      λ has. e.1 (h.1 has),
    );
    minimal = fin.minimal;
    numbered = fin.numbered;
    paths = λ some. fin.paths (holds_view.some some);
    fit = fin.fit;
    last = fin.last;
  }
