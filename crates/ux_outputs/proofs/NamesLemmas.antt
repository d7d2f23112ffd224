-- What the texts of events name, from their first sign and their end.
use Rattle.std.specs.Prelude.{◌≡◌, ◌≢◌, ℕ, ◌-◌, ◌≤◌, ◌==◌, Bool, true, false, not, List, [], ◌∷◌, Option, Some, None, MatchOption, is_some, is_none, refl, nat_eq, length, take, option_map, string_bytes, if◌then◌else◌}
use Rattle.std.specs.Borrow.{Bor}
use Rattle.std.specs.List.{ends_with}
use Rattle.std.specs.Str.{IsCharBoundary}
use Rattle.std.specs.Str.Pattern.{FindsTextSuffix, StripsSuffix}
use Rattle.std.proofs.Common.{◌∙◌, ap, sym, subst, arith}
use Rattle.std.proofs.lemmas.Bool.Decides.{nat_tests}
use Rattle.std.proofs.lemmas.Str.Pattern.{ends_text}
use Rattle.ux_base.specs.declared.settings.Mode.{Mode}
use Rattle.ux_base.specs.declared.settings.NoVar.{NoVar}
use Rattle.ux_tokens.specs.Tokens.{Token}
use Rattle.ux_outputs.specs.declared.known.Place.{Place}
use Rattle.ux_outputs.specs.declared.rendering.Rendering.{Rendering}
use Rattle.ux_outputs.specs.Variables.{SET, UNSET, BAR, asked_by, before_end, input, is_set, is_unset, named_by, output, value_of}
use Rattle.ux_outputs.specs.Rendering.{State, after_asked}
use Rattle.ux_outputs.specs.Kept.{known_in, state_of, text_at}

-- a text with this end, or without it
pub ends-told : (end text : List ℕ) (r : Option (Bor (List ℕ))) →
    MatchOption r (FindsTextSuffix end text None)
    (λ x. StripsSuffix (FindsTextSuffix end) text x.now) →
    MatchOption r (ends_with nat_eq text end ≡ false)
    (λ x. (ends_with nat_eq text end ≡ true) × (x.now ≡ before_end end text))
ends-told end text None told = sym (ends_text false end text told)
ends-told end text (Some x) told =
    let count = told.1.0 in
    let within : told.0 ≤ length text = omega (arith, told.3) in
    let cut : IsCharBoundary text (length text - told.0) =
    subst (λ n. IsCharBoundary text (length text - n)) (sym count) told.1.2 in (
      sym (ends_text true end text (told.0, told.1, within, cut)),
      told.2 ∙ ap (λ n. take (length text - n) text) count,
    )

-- an output's name stands after a bar
named-bar : (b : ℕ) (name : List ℕ) → (b == BAR) ≡ true → named_by (b ∷ name) ≡ output name
named-bar b name is =
    ap (λ (t : Bool). if t then output name else input (b ∷ name)) is

named-other : (b : ℕ) (name : List ℕ) → (b == BAR) ≡ false → named_by (b ∷ name) ≡ input (b ∷ name)
named-other b name is =
    ap (λ (t : Bool). if t then output name else input (b ∷ name)) is

-- a text names an input where it doesn't begin with a bar
pub named-input : (text : List ℕ) → ((name : List ℕ) → text ≢ BAR ∷ name) →
    named_by text ≡ input text
named-input [] none = refl
named-input (b ∷ name) none = by (b == BAR) refl
  where
    by : (t : Bool) → (b == BAR) ≡ t → named_by (b ∷ name) ≡ input (b ∷ name)
    by false is = named-other b name is
    by true is =
        absurd (none name (let same : b ≡ BAR = grind (arith, nat_tests) in
        ap (λ n. n ∷ name) same))

-- the first test that a text's end tells, and the value where it tells none
pub asked-set : (text : List ℕ) → ends_with nat_eq text SET ≡ true →
    asked_by text ≡ is_set (before_end SET text)
asked-set text ends = ap (λ (b : Bool). if b then is_set (before_end SET text)
    else if ends_with nat_eq text UNSET then is_unset (before_end UNSET text)
    else value_of text) ends

asked-later : (text : List ℕ) → ends_with nat_eq text SET ≡ false →
    asked_by text ≡ (if ends_with nat_eq text UNSET then is_unset (before_end UNSET text)
    else value_of text)
asked-later text other = ap (λ (b : Bool). if b then is_set (before_end SET text)
    else if ends_with nat_eq text UNSET then is_unset (before_end UNSET text)
    else value_of text) other

pub asked-unset : (text : List ℕ) → ends_with nat_eq text SET ≡ false →
    ends_with nat_eq text UNSET ≡ true → asked_by text ≡ is_unset (before_end UNSET text)
asked-unset text other ends = asked-later text other ∙ ap (λ (b : Bool).
    if b then is_unset (before_end UNSET text) else value_of text) ends

pub asked-value : (text : List ℕ) → ends_with nat_eq text SET ≡ false →
    ends_with nat_eq text UNSET ≡ false → asked_by text ≡ value_of text
asked-value text other neither = asked-later text other ∙ ap (λ (b : Bool).
    if b then is_unset (before_end UNSET text) else value_of text) neither

module _ (mode : Mode) (novar : NoVar) (tokens : List Token) (rendering : Rendering) where
  abbrev state : State
  state = state_of mode tokens rendering

  mapped-some : (f : Place → List ℕ) (o : Option Place) → is_some (option_map f o) ≡ is_some o
  mapped-some f None = refl
  mapped-some f (Some x) = refl

  mapped-none : (f : Place → List ℕ) (o : Option Place) → is_none (option_map f o) ≡ not (is_some o)
  mapped-none f None = refl
  mapped-none f (Some x) = refl

  -- a test goes on by what is known of the variable
  pub after_asked-set : (name : List ℕ) (has : Bool) →
      has ≡ is_some (known_in rendering.table name).value →
      after_asked novar state (is_set name) ≡ (if has then Some state else None)
  after_asked-set name has told =
      let same = mapped-some (text_at tokens (string_bytes rendering.collected))
      (known_in rendering.table name).value in
      ap (λ (b : Bool). if b then Some state else None) (same ∙ sym told)

  pub after_asked-unset : (name : List ℕ) (has : Bool) →
      has ≡ is_some (known_in rendering.table name).value →
      after_asked novar state (is_unset name) ≡ (if not has then Some state else None)
  after_asked-unset name has told =
      let same = mapped-none (text_at tokens (string_bytes rendering.collected))
      (known_in rendering.table name).value in
      ap (λ (b : Bool). if b then Some state else None) (same ∙ ap not (sym told))

-- a text without its first sign, where that is a bar
pub prefix-told : (text : List ℕ) (r : Option (Bor (List ℕ))) →
    MatchOption r ((rest : List ℕ) → text ≢ BAR ∷ rest) (λ x. text ≡ BAR ∷ x.now) →
    MatchOption r (named_by text ≡ input text) (λ x. named_by text ≡ output x.now)
prefix-told text None told = named-input text told
prefix-told text (Some x) told = ap named_by told
