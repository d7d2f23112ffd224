-- A front is built, stand by stand.
use Rattle.std.proofs.Common.{arith, ◌≡◌, ℕ, ◌+◌, ◌<◌, ◌≤◌, List, [], ◌∷◌, ◌++◌, ◌⊎◌, ◌↔◌, inl, inr, sym, subst, refl, length, take, get_or, append-nil}
use Rattle.std.specs.Prelude.{Contains, Some, slice_get}
use Rattle.std.proofs.lemmas.List.{take_all}
use Rattle.ux_closure.specs.declared.stand.Stand.{Stand}
use Rattle.ux_walk.specs.declared.lists.Link.{Link}
use Rattle.ux_walk.specs.Links.{IsConsed, Names}
use Rattle.ux_walk.proofs.LinksLemmas.{consed_below, consed_extends, consed_names, get_pushed, number_within, one_list}
use Rattle.ux_automaton.specs.Fronts.{Store, HasStand, IsFrontIn}
use Rattle.ux_automaton.specs.Kept.{Grows, IsSound, IsStand}
use Rattle.ux_automaton.proofs.AddingLemmas.{contains_first, contains_later, first_or_later, nothing_in, seen_next}
use Rattle.ux_automaton.proofs.StoreLemmas.{grows_not, grows_on}

-- the store with these fronts
abbrev pub with_fronts : Store → List (Link Stand) → Store
with_fronts store fronts = record { stacks = store.stacks; fronts = fronts }

-- these stands are a front so far
pub record IsBuilt (old : Store) (stands : List Stand) (fronts : List (Link Stand)) (front : ℕ)
    : Type 0 where
  pub grows : Grows old (with_fronts old fronts)
  pub listed : List Stand
  pub names : Names fronts front listed
  pub same : (stand : Stand) → Contains listed stand ↔ Contains stands stand

module _ (old : Store) (stands : List Stand) where
  pub built_first : IsSound old → IsBuilt old (take 0 stands) old.fronts 0
  built_first sound = record {
    grows = grows_not old sound;
    listed = [];
    names = refl;
    same = λ stand. (
      λ h. absurd (nothing_in h),
      λ h. absurd (let some = h.1 in omega (arith, some)),
    );
  }

  pub built_next : (i : ℕ) (s : Stand) → i < length stands → s ≡ get_or stands i s →
      IsStand old s → (now new : List (Link Stand)) (front next : ℕ) →
      IsBuilt old (take i stands) now front → IsConsed now new s front next →
      IsBuilt old (take (i + 1) stands) new next
  built_next i s lt is there now new front next built consed = record {
    grows = grows_on old (with_fronts old now) (with_fronts old new) built.grows (record {
      stacks = ([], sym (append-nil old.stacks));
      fronts = consed_extends now new s front next consed;
      sound = record {
        stacks_below = built.grows.sound.stacks_below;
        fronts_below = consed_below now new s front next consed built.grows.sound.fronts_below
            built.listed built.names;
        stands = stands_there consed.added;
      };
    });
    listed = s ∷ built.listed;
    names = consed_names now new s front next consed built.listed built.names;
    same = λ stand. (
      λ h. (seen_next stands i s lt is stand).1 (elim (first_or_later s built.listed stand h) [
        | inl e ↦ inr e
        | inr later ↦ inl ((built.same stand).0 later)
      ]),
      λ h. elim ((seen_next stands i s lt is stand).0 h) [
        | inl earlier ↦ contains_later s built.listed stand ((built.same stand).1 earlier)
        | inr e ↦ subst (Contains (s ∷ built.listed)) (sym e) (contains_first s built.listed)
      ],
    );
  }
    where
      stands_there : (new ≡ now) ⊎ (new ≡ now ++ record { head = s; tail = front } ∷ []) →
          (i : ℕ) (link : Link Stand) → slice_get new i ≡ Some link → IsStand old link.head
      stands_there (inl same) i link at = built.grows.sound.stands i link
          (subst (λ (l : List (Link Stand)). slice_get l i ≡ Some link) same at)
      stands_there (inr more) i link at =
          elim (get_pushed now (record { head = s; tail = front }) i link
          (subst (λ (l : List (Link Stand)). slice_get l i ≡ Some link) more at)) [
            | inl before ↦ built.grows.sound.stands i link before
            | inr last ↦ subst (λ (l : Link Stand). IsStand old l.head) (sym last.1) there
          ]

  module _ (i : ℕ) (past : length stands ≤ i) (fronts : List (Link Stand)) (front : ℕ)
      (built : IsBuilt old (take i stands) fronts front) where
    pub built_there : IsFrontIn (with_fronts old fronts) front
    built_there = number_within fronts front built.listed built.names

    pub built_stands : (stand : Stand) →
        HasStand (with_fronts old fronts) front stand ↔ Contains stands stand
    built_stands stand =
        let all = take_all i stands past in (
          λ h. subst (λ (l : List Stand). Contains l stand) all ((built.same stand).0
              (subst (λ (l : List Stand). Contains l stand) (one h.0 h.1) h.2)),
          λ h. (
            built.listed,
            built.names,
            (built.same stand).1 (subst (λ (l : List Stand). Contains l stand) (sym all) h),
          ),
        )
      where
        one : (xs : List Stand) → Names fronts front xs → xs ≡ built.listed
        one xs names = one_list fronts front xs built.listed names built.names
