-- What is kept, put in order, is the listing of what the policy keeps.
use Rattle.std.proofs.Common.{List}
use Rattle.std.specs.Prelude.{◌↔◌, Contains}
use Rattle.ux_base.specs.declared.settings.Policy.{Policy}
use Rattle.ux_base.specs.declared.settings.Policy.TheVariants.{Shortest, Longest, All}
use Rattle.ux_outputs.specs.declared.hit.Hit.{Hit}
use Rattle.ux_locate.specs.Index.{IsKeptListing, StandsBefore}
use Rattle.ux_locate.specs.Keeping.{AreKept, IsKept, first_of, last_of}
use Rattle.ux_locate.specs.Order.{AreInOrder}
use Rattle.ux_locate.specs.Policies.{Keeps}

module _ (IsHit : Hit → Type 0) (kept : List Hit) (hit : Hit) where
  pub keeps : (policy : Policy) → IsKept policy first_of last_of IsHit kept hit →
      Keeps policy IsHit kept hit
  keeps All k = k.is
  keeps Longest k = (k.is, k.best, k.apart tt)
  keeps Shortest k = (k.is, k.best, k.apart tt)

  pub kept_by : (policy : Policy) → Keeps policy IsHit kept hit →
      IsKept policy first_of last_of IsHit kept hit
  kept_by All k = record { is = k; best = λ other o same. tt; apart = λ none. absurd none }
  kept_by Longest k = record { is = k.0; best = k.1; apart = λ _. k.2 }
  kept_by Shortest k = record { is = k.0; best = k.1; apart = λ _. k.2 }

module _ (Is Other : Hit → Type 0) (same : (hit : Hit) → Is hit ↔ Other hit) (kept : List Hit) where
  keeps_same : (policy : Policy) (hit : Hit) → Keeps policy Is kept hit →
      Keeps policy Other kept hit
  keeps_same All hit k = (same hit).0 k
  keeps_same Longest hit k =
      ((same hit).0 k.0, λ other o first. k.1 other ((same other).1 o) first, k.2)
  keeps_same Shortest hit k =
      ((same hit).0 k.0, λ other o first. k.1 other ((same other).1 o) first, k.2)

  keeps_back : (policy : Policy) (hit : Hit) → Keeps policy Other kept hit →
      Keeps policy Is kept hit
  keeps_back All hit k = (same hit).1 k
  keeps_back Longest hit k =
      ((same hit).1 k.0, λ other o first. k.1 other ((same other).0 o) first, k.2)
  keeps_back Shortest hit k =
      ((same hit).1 k.0, λ other o first. k.1 other ((same other).0 o) first, k.2)

  -- of a set that has the same hits the same are listed
  pub listing_same : (policy : Policy) → IsKeptListing policy Is kept →
      IsKeptListing policy Other kept
  listing_same policy listing = record {
    exactly = λ hit. (
      λ c. keeps_same policy hit ((listing.exactly hit).0 c),
      λ k. (listing.exactly hit).1 (keeps_back policy hit k),
    );
    ordered = listing.ordered;
  }

module _ (policy : Policy) (IsHit : Hit → Type 0) where
  -- a list of the same hits keeps the same
  kept_alike : (kept other : List Hit) → ((hit : Hit) → Contains other hit → Contains kept hit) →
      (hit : Hit) → IsKept policy first_of last_of IsHit kept hit →
      IsKept policy first_of last_of IsHit other hit
  kept_alike kept other same hit k = record {
    is = k.is;
    best = k.best;
    apart = λ single x c. k.apart single x (same x c);
  }

  pub kept_listing : (kept sorted : List Hit) → AreKept policy first_of last_of IsHit kept →
      ((hit : Hit) → Contains sorted hit ↔ Contains kept hit) → AreInOrder StandsBefore sorted →
      IsKeptListing policy IsHit sorted
  kept_listing kept sorted are same ordered = record {
    exactly = λ hit. (
      λ c. keeps IsHit sorted hit policy
          (kept_alike kept sorted (λ x. (same x).0) hit ((are.exactly hit).0 ((same hit).0 c))),
      λ k. (same hit).1 ((are.exactly hit).1
          (kept_alike sorted kept (λ x. (same x).1) hit (kept_by IsHit sorted hit policy k))),
    );
    ordered = ordered;
  }
