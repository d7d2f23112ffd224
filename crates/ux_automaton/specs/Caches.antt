-- When what is kept is right. Inner: the crate's own functions alone speak of it.
use Rattle.std.specs.Prelude.{◌≡◌, ◌↔◌, ◌⊎◌, ◌+◌, ℕ, List, Bool, false, Option, Some, IsTrue, slice_get}
use Rattle.ux_lexical_tables.specs.Accepting.{IsAlone}
use Rattle.ux_tokens.specs.declared.kind.Kind.{Kind}
use Rattle.ux_tokens.specs.Numbers.{different_texts}
use Rattle.ux_tokens.specs.Tokens.{Token}
use Rattle.ux_outputs.specs.Rendering.{skip}
use Rattle.ux_meaning.specs.Texts.{IsSpaceAt}
use Rattle.ux_closure.specs.Taking.{TellsSpace}
use Rattle.ux_walk.specs.Leads.{LeadsFrom, Stack}
use Rattle.ux_walk.specs.Settings.{Setting}
use Rattle.ux_automaton.specs.declared.closed.Closed.{Closed}
use Rattle.ux_automaton.specs.declared.transitions.Transition.{Transition}
use Rattle.ux_automaton.specs.Fronts.{BeginsNothing, Store, HoldsIn, IsFrontIn}
use Rattle.ux_automaton.specs.Targets.{GoesOver, HaveNoMask, IsOver, TakeNoToken}

-- the slot of this number has the value
abbrev pub HasValue : {V : Type 0} → List (Option V) → ℕ → V → Type 0
HasValue slots number value = slice_get slots number ≡ Some (Some value)

-- the token at the place has this number and kind
abbrev pub IsNumbered : List Token → (place number : ℕ) → Kind → Type 0
IsNumbered tokens place number kind = (token : Token) × (slice_get tokens place ≡ Some token)
    × (token.kind ≡ kind) × (slice_get (different_texts tokens) number ≡ Some token.text)

-- the masks on these stacks accept no span of several tokens there: none begins, or no mask stands
abbrev pub TakeSingly : Setting → (IsThere : Stack → Type 0) → (place : ℕ) → Type 0
TakeSingly setting IsThere place =
    IsAlone setting.tokens setting.tables place ⊎ HaveNoMask setting.net IsThere

-- nothing begins with a token of this number and kind, where no space stands and no span of several
-- tokens begins
abbrev pub IsBarred : Setting → (number : ℕ) → Kind → Type 0
IsBarred setting number kind = (start : ℕ) → IsNumbered setting.tokens start number kind →
    IsAlone setting.tokens setting.tables start → (IsSpaceAt setting.tokens start → ⊥) →
    BeginsNothing setting start

module _ (setting : Setting) (store : Store) where
  -- what is kept of a front is right, where a space stands or where none does
  pub record IsClosed (front : ℕ) (is_spaced : Bool) (closed : Closed) : Type 0 where
    pub front_there : IsFrontIn store front
    pub there : IsFrontIn store closed.front
    pub space_there : IsFrontIn store closed.over_space
    pub leads : (p : ℕ) → TellsSpace setting p is_spaced → (end : ℕ) →
        LeadsFrom setting (HoldsIn store front) p end
        ↔ ((IsTrue closed.ends × (end ≡ p))
        ⊎ GoesOver setting (HoldsIn store closed.front) p end)
    pub over_space : (p : ℕ) → IsTrue is_spaced → IsSpaceAt setting.tokens p → (stack : Stack) →
        HoldsIn store closed.over_space stack
        ↔ IsOver setting (HoldsIn store closed.front) p (p + 1) stack
    pub no_space : is_spaced ≡ false → closed.over_space ≡ 0
    pub masks : closed.has_masks ≡ false →
        HaveNoMask setting.net (HoldsIn store closed.front)
    pub tokens : closed.takes_tokens ≡ false →
        TakeNoToken setting.net (HoldsIn store closed.front)

  -- a transition leads from the stacks of a front over each token of its number and kind
  pub record IsTransition (transition : Transition) : Type 0 where
    pub front_there : IsFrontIn store transition.front
    pub next_there : IsFrontIn store transition.next
    pub leads : (p : ℕ) →
        IsNumbered setting.tokens (skip setting.tokens p) transition.number transition.kind →
        TakeSingly setting (HoldsIn store transition.front) (skip setting.tokens p) →
        (stack : Stack) → HoldsIn store transition.next stack
        ↔ IsOver setting (HoldsIn store transition.front) p (skip setting.tokens p + 1) stack
