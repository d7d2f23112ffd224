-- Which entries apply to one text, by the priorities of the dictionaries. The manual, on applying
-- dictionaries. Public: the crate's public contracts speak of it.
use Rattle.std.specs.Prelude.{◌≡◌, ◌≢◌, ◌⊎◌, ℕ, Bool, true, false, cond, List, [], ◌∷◌, ◌++◌, map}
use Rattle.ux_alphabet.specs.Letters.{Letters}
use Rattle.ux_dela.specs.declared.entry.Entry.{Entry}
use Rattle.ux_dict.specs.Content.{AreDifferent}
use Rattle.ux_dict.specs.Forms.{IsFitting}
use Rattle.ux_apply.specs.declared.priority.Priority.{Priority}
use Rattle.ux_apply.specs.declared.priority.Priority.TheVariants.{High, Normal, Low}

-- each dictionary as its priority and its content
abbrev pub contents : {L : Type 0} → (L → List Entry) → List (Priority × L) →
    List (Priority × List Entry)
contents content dics = map (λ dic. (dic.0, content dic.1)) dics

-- whether both are one priority
abbrev pub is_same : (priority other : Priority) → Bool
is_same High High = true
is_same High Normal = false
is_same High Low = false
is_same Normal High = false
is_same Normal Normal = true
is_same Normal Low = false
is_same Low High = false
is_same Low Normal = false
is_same Low Low = true

-- the entries of all dictionaries of a priority, one dictionary after the other
abbrev pub content_at : Priority → List (Priority × List Entry) → List Entry
content_at priority [] = []
content_at priority (dic ∷ dics) =
    cond (is_same dic.0 priority) dic.1 [] ++ content_at priority dics

-- the entries of dictionaries of this priority whose forms fit the text, each once
pub record AreFound (alphabet : Letters) (dics : List (Priority × List Entry)) (text : List ℕ)
    (priority : Priority) (entries : List Entry) : Type 0 where
  pub fitting : List Entry
  pub fit : IsFitting alphabet text (content_at priority dics) fitting
  pub once : AreDifferent fitting entries

-- the priorities, the highest first
abbrev pub priorities : List Priority
priorities = High ∷ (Normal ∷ (Low ∷ []))

module _ (alphabet : Letters) (dics : List (Priority × List Entry)) (text : List ℕ) where
  -- the entries are those found at the first of the priorities at which any are
  abbrev pub AreOfFirst : List Priority → List Entry → Type 0
  AreOfFirst [] entries = entries ≡ []
  AreOfFirst (priority ∷ lower) entries =
      (AreFound alphabet dics text priority entries × (entries ≢ []))
      ⊎ (AreFound alphabet dics text priority [] × AreOfFirst lower entries)

  -- the entries that apply to the text are those of the highest priority that has any
  abbrev pub AreApplying : List Entry → Type 0
  AreApplying entries = AreOfFirst priorities entries
