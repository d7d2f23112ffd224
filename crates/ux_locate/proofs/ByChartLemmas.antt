-- The hits that come from starts, all of them.
use Rattle.std.proofs.Common.{arith, ◌≡◌, ℕ, ◌+◌, ◌≤◌, List, [], ◌∷◌, ◌++◌, inl, inr, length, refl, sym, subst}
use Rattle.std.proofs.lemmas.List.Elements.{Contains-append_left, Contains-append_right, Contains-append_cases}
use Rattle.ux_base.specs.declared.settings.Policy.TheVariants.{All}
use Rattle.ux_outputs.specs.declared.event.Event.{Event}
use Rattle.ux_outputs.specs.declared.hit.Hit.{Hit}
use Rattle.ux_walk.proofs.Collecting.{includes_nothing, none_in}
use Rattle.ux_walk.specs.Noting.{Includes}
use Rattle.ux_walk.specs.Settings.{Derives}
use Rattle.ux_locate.specs.declared.search.Search.{Search}
use Rattle.ux_locate.specs.Finding.{AreAllHits, AreHitsBefore, IsHitAt, IsHitFrom, setting_in}
use Rattle.ux_locate.specs.Hits.{IsStart}
use Rattle.ux_locate.specs.Keeping.{AreBest, last_of}
use Rattle.ux_locate.proofs.StartLemmas.{found_all, found_splits}

module _ (search : Search) where
  -- before the first position there is none
  pub hits_none : AreHitsBefore search 0 []
  hits_none hit = (λ c. absurd (none_in hit c), λ f. absurd (omega (arith, f.1)))

  -- with those of a position there are those before the next
  pub hits_next : (start : ℕ) (old new : List Hit) → AreHitsBefore search start old →
      Includes (IsHitAt search start) old new → AreHitsBefore search (start + 1) new
  hits_next start old new are more hit =
      let splits = found_splits search.masked.now.text.now (IsHitFrom search) start hit in (
        λ c. elim (more.only hit c) [
          | inl before ↦ splits.1 (inl ((are hit).0 before))
          | inr here ↦ splits.1 (inr here)
        ],
        λ f. elim (splits.0 f) [
          | inl before ↦ more.kept hit ((are hit).1 before)
          | inr here ↦ more.has hit here
        ],
      )

  -- after the last position there are all
  pub hits_all : (count : ℕ) (hits : List Hit) → length search.masked.now.text.now ≤ count →
      AreHitsBefore search count hits → AreAllHits search hits
  hits_all count hits past are hit =
      let same = found_all search.masked.now.text.now (IsHitFrom search) count past hit in
      (λ c. same.0 ((are hit).0 c), λ f. (are hit).1 (same.1 f))

  module _ (start : ℕ) (old : List Hit) where
    -- where no search begins there is none
    pub hits_of_no_start : (IsStart search.masked.now.text.now start → ⊥) →
        Includes (IsHitAt search start) old old
    hits_of_no_start never =
        includes_nothing (IsHitAt search start) old (λ hit here. never here.0)

    -- nor where nothing is derived
    pub hits_of_no_end : ((end : ℕ) (events : List Event) →
        Derives (setting_in search) start end events → ⊥) →
        Includes (IsHitAt search start) old old
    hits_of_no_end never = includes_nothing (IsHitAt search start) old
        (λ hit here. never here.1.0 here.1.1 here.1.2)

    -- all that come from a start are added
    pub hits_added : (found new : List Hit) → IsStart search.masked.now.text.now start →
        AreBest All last_of (IsHitFrom search start) found → new ≡ old ++ found →
        Includes (IsHitAt search start) old new
    hits_added found new starts are is =
        subst (Includes (IsHitAt search start) old) (sym is) (record {
          kept = λ hit c. Contains-append_left old found hit c;
          only = λ hit c. elim (Contains-append_cases old found hit c) [
            | inl o ↦ inl o
            | inr f ↦ inr (starts, ((are.exactly hit).0 f).0)
          ];
          has = λ hit here. Contains-append_right old found hit
              ((are.exactly hit).1 (here.1, λ other o. tt));
        })
