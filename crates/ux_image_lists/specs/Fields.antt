-- The fields of a file: what bytes begin with, and why they don't. A field is put together of
-- smaller ones, and is refused by the first of them that is. Public: the crate's public contracts
-- speak of it.
use Rattle.std.specs.Prelude.{◌≡◌, ◌≢◌, ℕ, ◌<◌, ◌^◌, List, [], ◌∷◌, ◌++◌, ◌⊎◌, length}
use Rattle.ux_image.specs.Layout.{number_bytes}
use Rattle.ux_image_reader.specs.declared.error.ImageError.{ImageError}
use Rattle.ux_image_reader.specs.declared.error.ImageError.TheVariants.{Short, Trailing, NoMemory}

-- a field: which bytes begin with one, of which value, and what stands behind it; and by which
-- error bytes are refused that begin with none
pub record Field (V : Type 0) : Type 1 where
  pub Begins : List ℕ → V → List ℕ → Type 0
  pub Refuses : List ℕ → ImageError → Type 0

-- a number of 32 bits, the least byte first
abbrev pub number : Field ℕ
number = record {
  Begins = λ bytes n rest. (n < 2 ^ 32) × (bytes ≡ number_bytes n ++ rest);
  Refuses = λ bytes error. (error ≡ Short) × (length bytes < 4);
}

-- so many bytes
abbrev pub bytes_of : ℕ → Field (List ℕ)
bytes_of many = record {
  Begins = λ bytes text rest. (length text ≡ many) × (bytes ≡ text ++ rest);
  Refuses = λ bytes error. (error ≡ Short) × (length bytes < many);
}

-- no field, but a value
abbrev pub gives : {V : Type 0} → V → Field V
gives value = record {
  Begins = λ bytes v rest. (v ≡ value) × (rest ≡ bytes);
  Refuses = λ bytes error. ⊥;
}

-- the field's value passes a test, or else this is the error
abbrev pub tested : {V : Type 0} → Field V → (V → Type 0) → ImageError → Field V
tested {V} field Passes fault = record {
  Begins = λ bytes v rest. field.Begins bytes v rest × Passes v;
  Refuses = λ bytes error. field.Refuses bytes error
      ⊎ ((v : V) × (rest : List ℕ) × field.Begins bytes v rest × (Passes v → ⊥) × (error ≡ fault));
}

-- a field, and then another by its value
abbrev pub reads : {V W : Type 0} → Field V → (V → Field W) → Field W
reads {V} first then = record {
  Begins = λ bytes w rest.
      (v : V) × (mid : List ℕ) × first.Begins bytes v mid × (then v).Begins mid w rest;
  Refuses = λ bytes error. first.Refuses bytes error
      ⊎ ((v : V) × (mid : List ℕ) × first.Begins bytes v mid × (then v).Refuses mid error);
}

-- these fields follow one another, each by the values before it
abbrev pub BeginAll : {V : Type 0} → (List V → Field V) → (before : List V) → List ℕ → List V →
    List ℕ → Type 0
BeginAll field before bytes [] rest = rest ≡ bytes
BeginAll field before bytes (v ∷ values) rest =
    (mid : List ℕ) × (field before).Begins bytes v mid
    × BeginAll field (before ++ v ∷ []) mid values rest

-- so many fields, each by the values before it
abbrev pub each : {V : Type 0} → ℕ → (List V → Field V) → Field (List V)
each {V} many field = record {
  Begins = λ bytes values rest. (length values ≡ many) × BeginAll field [] bytes values rest;
  Refuses = λ bytes error. (before : List V) × (mid : List ℕ) × (length before < many)
      × BeginAll field [] bytes before mid × (field before).Refuses mid error;
}

-- the field ends the file
abbrev pub closed : {V : Type 0} → Field V → Field V
closed {V} field = record {
  Begins = λ bytes v rest. field.Begins bytes v rest × (rest ≡ []);
  Refuses = λ bytes error. field.Refuses bytes error
      ⊎ ((v : V) × (rest : List ℕ) × field.Begins bytes v rest × (rest ≢ []) × (error ≡ Trailing));
}

-- why a field isn't read: memory may run out at any time
abbrev pub Stops : {V : Type 0} → Field V → List ℕ → ImageError → Type 0
Stops field bytes error = (error ≡ NoMemory) ⊎ field.Refuses bytes error
