-- A place of each different word, by the number of the word. Inner: the crate's own functions alone
-- speak of it.
use Rattle.std.specs.Prelude.{◌≡◌, ℕ, ◌<◌, List, Option, Some, length, slice_get}
use Rattle.ux_tokens.specs.declared.kind.Kind.TheVariants.{Word}
use Rattle.ux_tokens.specs.Tokens.{Token}
use Rattle.ux_tokens.specs.Numbers.{different_texts}

module _ (tokens : List Token) where
  -- the word of this number stands at the place
  pub record IsWordAt (number place : ℕ) : Type 0 where
    pub token : Token
    pub stands : slice_get tokens place ≡ Some token
    pub word : token.kind ≡ Word
    pub numbered : slice_get (different_texts tokens) number ≡ Some token.text

  -- some place is kept for the text, by its number
  abbrev pub HasPlace : (places : List (Option ℕ)) (text : List ℕ) → Type 0
  HasPlace places text = (number place : ℕ) × (slice_get places number ≡ Some (Some place))
      × (slice_get (different_texts tokens) number ≡ Some text)

  -- where a number has a place, its word stands there, and each word among the first tokens has a
  -- number with a place
  pub record AreWordPlacesUpTo (end : ℕ) (places : List (Option ℕ)) : Type 0 where
    pub each_number : length places ≡ length (different_texts tokens)
    pub sound : (number place : ℕ) → slice_get places number ≡ Some (Some place) →
        IsWordAt number place
    pub whole : (place : ℕ) (token : Token) → place < end → slice_get tokens place ≡ Some token →
        token.kind ≡ Word → HasPlace places token.text

  -- the same of all tokens
  abbrev pub AreWordPlaces : (places : List (Option ℕ)) → Type 0
  AreWordPlaces places = AreWordPlacesUpTo (length tokens) places
