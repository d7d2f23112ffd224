-- The hits that derivations render, one derivation after another.
use Rattle.std.proofs.Common.{◌≡◌, ℕ, List, [], ◌∷◌, ◌++◌, sym, ◌∙◌, subst, inl, inr}
use Rattle.std.specs.Prelude.{◌↔◌, Contains, None}
use Rattle.std.proofs.lemmas.Option.{same_Some, none-some}
use Rattle.std.proofs.lemmas.List.Elements.{Contains-append_left, Contains-push, Contains-push_cases}
use Rattle.ux_base.specs.declared.settings.Policy.{Policy}
use Rattle.ux_net.specs.Nets.{CutNothing, net_grammar}
use Rattle.ux_outputs.specs.declared.event.Event.{Event}
use Rattle.ux_outputs.specs.declared.hit.Hit.{Hit}
use Rattle.ux_outputs.specs.Rendering.{render}
use Rattle.ux_walk.specs.Ends.{AreEnds}
use Rattle.ux_walk.specs.Noting.{Includes}
use Rattle.ux_walk.specs.Settings.{Derives}
use Rattle.ux_locate.specs.declared.search.Search.{Search}
use Rattle.ux_locate.specs.Finding.{HasMasks, IsFound, IsHitFrom, IsRendered, setting_in}
use Rattle.ux_locate.specs.Hits.{IsHit, IsStart}
use Rattle.ux_locate.specs.Keeping.{AreBest, first_of, last_of}
use Rattle.ux_locate.proofs.BeginLemmas.{renders_from_start}
use Rattle.ux_locate.proofs.BestLemmas.{best_same}
use Rattle.ux_locate.proofs.CutLaws.{derivation_uncut}
use Rattle.ux_locate.proofs.FoundLemmas.{followed, no_ends_no_hit}

module _ (search : Search) (start : ℕ) where
  module _ (derivation : ℕ × List Event) where
    -- where the hit is added, the hit that the derivation renders is
    pub hit_pushed : (hit : Hit) → IsRendered search start derivation hit → (old new : List Hit) →
        new ≡ old ++ hit ∷ [] → Includes (IsRendered search start derivation) old new
    hit_pushed hit rendered old new is =
        subst (Includes (IsRendered search start derivation) old) (sym is) (record {
          kept = λ other c. Contains-append_left old (hit ∷ []) other c;
          only = λ other c. elim (Contains-push_cases old hit other c) [
            | inl o ↦ inl o
            | inr same ↦ inr
                (subst (λ (h : Hit). IsRendered search start derivation h) same rendered)
          ];
          has = λ other f.
              subst (Contains (old ++ hit ∷ [])) (same_Some hit other (sym rendered ∙ f))
              (Contains-push old hit);
        })

    -- where nothing is rendered, nothing is added
    pub none_pushed : render search.masked.now.text.now search.mode search.novar start derivation.1 ≡ None →
        (old : List Hit) → Includes (IsRendered search start derivation) old old
    none_pushed none old = record {
      kept = λ hit c. c;
      only = λ hit c. inl c;
      has = λ hit f. absurd (none-some hit (sym none ∙ f));
    }

  -- of the hits of all derivations from the start, the best are the best from the start
  pub hits_best : (policy : Policy) (found : List (ℕ × List Event)) →
      ((end : ℕ) (events : List Event) →
      Contains found (end, events) ↔ Derives (setting_in search) start end events) →
      (best : List Hit) → AreBest policy last_of (λ hit. (derivation : ℕ × List Event)
      × Contains found derivation × IsRendered search start derivation hit) best →
      AreBest policy last_of (IsHitFrom search start) best
  hits_best policy found exactly best are = best_same policy last_of
      (λ hit. (derivation : ℕ × List Event)
      × Contains found derivation × IsRendered search start derivation hit)
      (IsHitFrom search start) (λ hit. (
        λ f. (f.0.0, f.0.1, (exactly f.0.0 f.0.1).0 f.1, f.2),
        λ f. ((f.0, f.1), (exactly f.0 f.1).1 f.2, f.3),
      )) best are

  -- a hit from a start begins there
  pub hit_begins : HasMasks search → CutNothing search.masked.now.net.now → IsStart search.masked.now.text.now start →
      (hit : Hit) → IsHitFrom search start hit → first_of hit ≡ start
  hit_begins masks uncut starts hit (end, events, derives, rendered) =
      let follow = followed (setting_in search) masks.belongs start end events starts derives in
      renders_from_start search.masked.now.text.now search.novar start starts search.mode end events hit
      follow.0 (derivation_uncut (setting_in search) uncut start end events derives) rendered

  -- where no derivation ends after the start, no hit comes from it
  pub no_hits : HasMasks search → AreEnds (setting_in search) start [] →
      IsStart search.masked.now.text.now start → (hit : Hit) → IsHitFrom search start hit → ⊥
  no_hits masks are starts hit (end, events, derives, rendered) =
      no_ends_no_hit (setting_in search) masks.belongs start end events starts derives search.mode
      search.novar hit rendered are

-- what comes from all starts is every hit
pub found_hit : (search : Search) (hit : Hit) → IsFound search.masked.now.text.now (IsHitFrom search) hit
    ↔ IsHit search.masked.now.alphabet.now search.masked.now.text.now search.masked.now.applied.now (net_grammar search.masked.now.net.now)
    search.mode search.novar hit
found_hit search hit = (
  λ f. record {
    start = f.0;
    starts = f.1;
    end = f.2.0;
    events = f.2.1;
    derived = f.2.2;
    rendered = f.2.3;
  },
  λ h. (h.start, h.starts, (h.end, h.events, h.derived, h.rendered)),
)
