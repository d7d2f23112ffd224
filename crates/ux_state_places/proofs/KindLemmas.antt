-- What a label and its kind have in common.
use Rattle.std.proofs.Common.{◌≡◌, ℕ, [], ◌∷◌, refl}
use Rattle.ux_net.specs.declared.label.Label.{Label}
use Rattle.ux_net.specs.declared.label.Label.TheVariants.{Empty, Space, Call}
use Rattle.ux_net.specs.Silent.{is_silent}
use Rattle.ux_net.specs.Words.{Sign, Letter, plain, context, mark_of}
use Rattle.ux_state_places.specs.Kinds.{kind_of}

-- a label and its kind do the same to contexts
pub mark_kind : (x : Label) → mark_of (kind_of x ∷ []) ≡ mark_of (x ∷ [])
mark_kind Empty = refl
mark_kind x = refl

-- either both take nothing, or none
pub silent_kind : (x : Label) → is_silent (kind_of x) ≡ is_silent x
silent_kind Empty = refl
silent_kind x = refl

-- what has the kind of a call is that call
pub call_kind : (x : Label) (h : ℕ) → kind_of x ≡ Call h → x ≡ Call h
call_kind (Call k) h e = e
call_kind x h e = absurd cc

-- a letter of the one word and what stands for it in the other: a call for itself, a context for a
-- context, and one token for another
pub data IsKept : Letter → Letter → Type 0 where
  token : {x : Label} → kind_of x ≡ Space → IsKept (plain x) (plain Space)
  calling : {h : ℕ} → IsKept (plain (Call h)) (plain (Call h))
  over : {s t : Sign} {g h a b c d : ℕ} → IsKept (context s g a b) (context t h c d)
