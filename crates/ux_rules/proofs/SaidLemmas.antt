-- The signs of items, one after the other.
use Rattle.std.proofs.Common.{◌≡◌, List, [], ◌∷◌, ◌++◌, refl, sym, ap, ◌∙◌, append_assoc, append-nil}
use Rattle.ux_grf.specs.declared.item.Item.{Item}
use Rattle.ux_rules.specs.declared.step.Sign.{Sign}
use Rattle.ux_rules.specs.Words.{IsSaid, AreSaid}

-- one item more
pub said_more : (read : List Item) (item : Item) (v w : List Sign) → AreSaid read v →
    IsSaid item w → AreSaid (read ++ item ∷ []) (v ++ w)
said_more [] item v w e h =
    (w, [], h, refl, ap (λ (x : List Sign). x ++ w) e ∙ sym (append-nil w))
said_more (x ∷ read) item v w (front, back, first, rest, e) h = (
  front,
  back ++ w,
  first,
  said_more read item back w rest h,
  ap (λ (y : List Sign). y ++ w) e ∙ append_assoc front back w,
)

-- and one less
pub said_less : (read : List Item) (item : Item) (signs : List Sign) →
    AreSaid (read ++ item ∷ []) signs →
    (v w : List Sign) × AreSaid read v × IsSaid item w × (signs ≡ v ++ w)
said_less [] item signs (front, back, first, rest, e) =
    ([], front, refl, first, e ∙ (ap (λ (y : List Sign). front ++ y) rest ∙ append-nil front))
said_less (x ∷ read) item signs (front, back, first, rest, e) =
    let r = said_less read item back rest in (
      front ++ r.0,
      r.1,
      (front, r.0, first, r.2, refl),
      r.3,
      e ∙ (ap (λ (y : List Sign). front ++ y) r.4 ∙ sym (append_assoc front r.0 r.1)),
    )
