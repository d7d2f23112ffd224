-- Which entries meet a lexical mask. The manual, on lexical masks. Public: the crate's public
-- contracts speak of it.
use Rattle.std.specs.Prelude.{◌≡◌, ◌⊎◌, ℕ, List, [], Option, None, Some, All, Contains}
use Rattle.std.specs.Str.{chars}
use Rattle.ux_dela.specs.declared.entry.Entry.{Entry}
use Rattle.ux_masks.specs.declared.lexical.Parts.{Parts}
use Rattle.ux_masks.specs.declared.mask.Mask.{Mask}
use Rattle.ux_masks.specs.declared.mask.Mask.TheVariants.{Lexical, NotLexical}

-- a text that is told is this one
abbrev pub IsTold : Option (List ℕ) → List ℕ → Type 0
IsTold None text = Unit {0}
IsTold (Some told) text = text ≡ told

-- the code is the entry's grammatical code, or one of its semantic codes
abbrev pub HasCode : Entry → List ℕ → Type 0
HasCode entry code = (entry.gram ≡ code) ⊎ Contains entry.sem code

-- the inflection code has each character of the alternative
abbrev pub HasCharacters : (code alternative : List ℕ) → Type 0
HasCharacters code alternative = All (Contains (chars code)) (chars alternative)

-- one inflection code of the entry has all characters of the alternative
abbrev pub MeetsAlternative : Entry → List ℕ → Type 0
MeetsAlternative entry alternative = (code : List ℕ) × Contains entry.infl code
    × HasCharacters code alternative

-- the entry meets one of the alternatives, if there are any
abbrev pub MeetsSome : List (List ℕ) → Entry → Type 0
MeetsSome alternatives entry = (alternatives ≡ [])
    ⊎ ((alternative : List ℕ) × Contains alternatives alternative
    × MeetsAlternative entry alternative)

-- the entry has what is asked
pub record MeetsParts (parts : Parts) (entry : Entry) : Type 0 where
  pub form : IsTold parts.form entry.form
  pub lemma : IsTold parts.lemma entry.lemma
  pub need : All (HasCode entry) parts.need
  pub forbid : All (λ code. HasCode entry code → ⊥) parts.forbid
  pub infl : MeetsSome parts.infl entry

-- the entry meets a lexical mask, or doesn't meet what is negated; another mask asks for no entry
abbrev pub Meets : Mask → Entry → Type 0
Meets (Lexical parts) entry = MeetsParts parts entry
Meets (NotLexical parts) entry = MeetsParts parts entry → ⊥
Meets other entry = ⊥
