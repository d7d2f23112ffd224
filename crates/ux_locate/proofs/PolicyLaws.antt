-- A policy keeps one set of hits, though the definition has it on both sides.
use Rattle.std.proofs.Common.{arith, ℕ, zero, suc, ◌+◌, ◌<◌, List}
use Rattle.std.specs.Prelude.{◌↔◌, Contains}
use Rattle.ux_base.specs.declared.settings.Policy.{Policy}
use Rattle.ux_base.specs.declared.settings.Policy.TheVariants.{Shortest, Longest, All}
use Rattle.ux_outputs.specs.declared.hit.Hit.{Hit}
use Rattle.ux_locate.specs.Index.{IsKeptListing}
use Rattle.ux_locate.specs.Policies.{Keeps}

-- whether a hit is kept depends on those kept that begin before, and on no others
keeps_by_earlier : (policy : Policy) (IsHit : Hit → Type 0) (one other : List Hit) (hit : Hit) →
    ((x : Hit) → x.first < hit.first → Contains other x → Contains one x) →
    Keeps policy IsHit one hit → Keeps policy IsHit other hit
keeps_by_earlier All IsHit one other hit earlier k = k
keeps_by_earlier Longest IsHit one other hit earlier k =
    (k.0, k.1, λ x c lt. k.2 x (earlier x lt c) lt)
keeps_by_earlier Shortest IsHit one other hit earlier k =
    (k.0, k.1, λ x c lt. k.2 x (earlier x lt c) lt)

module _ (policy : Policy) (IsHit : Hit → Type 0) (one other : List Hit)
    (first : IsKeptListing policy IsHit one) (second : IsKeptListing policy IsHit other) where
  -- from the text's start on, the same hits are kept
  same_below : (n : ℕ) (hit : Hit) → hit.first < n → Contains one hit ↔ Contains other hit
  same_below zero hit lt = absurd (omega (arith, lt))
  same_below (suc n) hit lt = (
    λ c. (second.exactly hit).1 (keeps_by_earlier policy IsHit one other hit
        (λ x low. (same_below n x (omega (arith, low, lt))).1) ((first.exactly hit).0 c)),
    λ c. (first.exactly hit).1 (keeps_by_earlier policy IsHit other one hit
        (λ x low. (same_below n x (omega (arith, low, lt))).0) ((second.exactly hit).0 c)),
  )

  -- two lists of what the policy keeps of a set have the same hits
  pub kept_once : (hit : Hit) → Contains one hit ↔ Contains other hit
  kept_once hit = same_below (hit.first + 1) hit (omega arith)
