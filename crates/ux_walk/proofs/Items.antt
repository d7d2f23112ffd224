-- What is added item by item: configurations, callers and derivations.
use Rattle.std.proofs.Common.{◌≡◌, ℕ, List, ◌++◌, ◌⊎◌, inl, inr, sym, ◌∙◌, ap, subst}
use Rattle.std.specs.Prelude.{Contains}
use Rattle.ux_outputs.specs.declared.event.Event.{Event}
use Rattle.ux_walk.specs.declared.config.Visit.{Visit}
use Rattle.ux_walk.specs.declared.config.Config.{Config}
use Rattle.ux_walk.specs.declared.config.Return.{Return}
use Rattle.ux_walk.specs.declared.config.Found.{Found}
use Rattle.ux_walk.specs.declared.reached.Reached.{Reached}
use Rattle.ux_walk.specs.Groups.{AreGrouped, Grows, IsIn}
use Rattle.ux_walk.specs.Links.{AreBelow}
use Rattle.ux_walk.specs.Courses.{Course}
use Rattle.ux_walk.specs.Configurations.{Adds, Has, HasBegun, HasConfig, HasFound, HasReturn, IsClosed, IsFound, IsJoined, IsNamed, IsSound, IsWaiting, Spreads, beginning, calling, ended, events_of, given, going}
use Rattle.ux_walk.proofs.JoinsLemmas.{grown_in}
use Rattle.ux_walk.proofs.Keeping.{Keeps, telling_kept, visit_kept, named_kept, waiting_kept, found_kept, one_visit, one_before, named_back, waiting_back, found_back}

-- all that was added, item by item
module _ (Told : Visit → Course → Type 0) (old new : Reached) where
  abbrev pub Follows : Visit → Course → Type 0
  Follows = Spreads (λ u x. Has old u x ⊎ Told u x)

  abbrev pub NewConfig : Config → Type 0
  NewConfig c = (v : Visit) × (w : Course) × IsNamed new c v w × Follows v w

  abbrev pub NewReturn : ℕ → Return → Type 0
  NewReturn number r = (v : Visit) × (w : Course) × IsWaiting new number r v w × Follows v w

  abbrev pub NewFound : ℕ → Found → Type 0
  NewFound number f = (v : Visit) × (w : Course) × IsFound new number f v w × Follows v w

  pub record Items : Type 0 where
    pub kept : Keeps old new
    pub below : AreBelow (events_of new)
    pub returns_grouped : AreGrouped new.returns
    pub found_grouped : AreGrouped new.found
    pub grows : Grows old.configs.keys new.configs.keys
    pub returns_kept : (n : ℕ) (r : Return) → IsIn old.returns n r → IsIn new.returns n r
    pub found_kept : (n : ℕ) (f : Found) → IsIn old.found n f → IsIn new.found n f
    pub configs : (c : Config) → Contains new.configs.keys c →
        Contains old.configs.keys c ⊎ NewConfig c
    pub returns : (n : ℕ) (r : Return) → IsIn new.returns n r → IsIn old.returns n r ⊎ NewReturn n r
    pub found : (n : ℕ) (f : Found) → IsIn new.found n f → IsIn old.found n f ⊎ NewFound n f
    pub has : (v : Visit) (w : Course) → Told v w → Has new v w

  module _ (sound : IsSound old) (i : Items) where
    pub has_kept : (v : Visit) (w : Course) → Has old v w → Has new v w
    has_kept v w h = elim h [
      | inl c ↦ inl (
        c.0,
        grown_in old.configs.keys new.configs.keys i.grows c.0 c.1,
        named_kept old new i.kept c.0 v w c.2,
      )
      | inr o ↦ elim o [
        | inl r ↦ inr (inl (
          r.0,
          r.1,
          i.returns_kept r.0 r.1 r.2,
          waiting_kept old new i.kept r.0 r.1 v w r.3,
        ))
        | inr f ↦ inr (inr (
          f.0,
          f.1,
          i.found_kept f.0 f.1 f.2,
          found_kept old new i.kept f.0 f.1 v w f.3,
        ))
      ]
    ]

    config_follows : (v : Visit) (w : Course) → HasConfig new v w → Follows v w
    config_follows v w (c, inside, named) = elim (i.configs c inside) [
      | inl was ↦
          let s = sound.configs c was in
          given (inl (inl (c, was, named_back old new i.kept c s.0 v s.1 w s.2 named)))
      | inr n ↦
          let visits = one_visit new c.visit n.0 v n.2.spells.visit named.spells.visit in
          let befores = one_before new c.events n.2.before named.before n.2.spells.events
          named.spells.events in
          let same : n.1 ≡ w = n.2.is ∙ (ap (λ (b : List Event). going c.here c.at b) befores
          ∙ sym named.is) in
          subst (λ (u : Visit). Follows u w) visits
          (subst (λ (x : Course). Follows n.0 x) same n.3)
    ]

    return_follows : (v : Visit) (w : Course) → HasReturn new v w → Follows v w
    return_follows v w (number, r, inside, waits) = elim (i.returns number r inside) [
      | inl was ↦
          let s = sound.returns number r was in
          given (inl (inr (inl (
            number,
            r,
            was,
            waiting_back old new i.kept number r s.0 v s.1 w s.2 waits,
          ))))
      | inr n ↦
          let visits = one_visit new r.visit n.0 v n.2.visit waits.visit in
          let callees = one_visit new number n.2.called waits.called n.2.callee waits.callee in
          let befores = one_before new r.events n.2.before waits.before n.2.events waits.events in
          let same : n.1 ≡ w = n.2.is
          ∙ (ap (λ (u : Visit). calling u r.here n.2.before) callees
          ∙ (ap (λ (b : List Event). calling waits.called r.here b) befores ∙ sym waits.is)) in
          subst (λ (u : Visit). Follows u w) visits
          (subst (λ (x : Course). Follows n.0 x) same n.3)
    ]

    found_follows : (v : Visit) (w : Course) → HasFound new v w → Follows v w
    found_follows v w (number, f, inside, is) = elim (i.found number f inside) [
      | inl was ↦
          let s = sound.found number f was in
          given (inl (inr (inr (
            number,
            f,
            was,
            found_back old new i.kept number f s.0 v s.1 w s.2 is,
          ))))
      | inr n ↦
          let visits = one_visit new number n.0 v n.2.visit is.visit in
          let befores = one_before new f.events n.2.before is.before n.2.events is.events in
          let same : n.1 ≡ w = n.2.is ∙ (ap (λ (b : List Event). ended f.end b) befores
          ∙ sym is.is) in
          subst (λ (u : Visit). Follows u w) visits
          (subst (λ (x : Course). Follows n.0 x) same n.3)
    ]

    pub adds_items : (IsClosed old → IsClosed new) → Adds Told old new
    adds_items closed = record {
      sound = record {
        events_below = i.below;
        returns_grouped = i.returns_grouped;
        found_grouped = i.found_grouped;
        configs = λ c h. elim (i.configs c h) [
          | inl was ↦ let s = sound.configs c was in
              (s.0, s.1, named_kept old new i.kept c s.0 s.1 s.2)
          | inr n ↦ (n.0, n.1, n.2)
        ];
        returns = λ number r h. elim (i.returns number r h) [
          | inl was ↦ let s = sound.returns number r was in
              (s.0, s.1, waiting_kept old new i.kept number r s.0 s.1 s.2)
          | inr n ↦ (n.0, n.1, n.2)
        ];
        found = λ number f h. elim (i.found number f h) [
          | inl was ↦ let s = sound.found number f was in
              (s.0, s.1, found_kept old new i.kept number f s.0 s.1 s.2)
          | inr n ↦ (n.0, n.1, n.2)
        ];
      };
      closed = closed;
      events = i.kept.events;
      texts = i.kept.texts;
      visits = i.kept.visits;
      configs = i.grows;
      kept = has_kept;
      has = i.has;
      only = λ v w h. elim h [
        | inl c ↦ config_follows v w c
        | inr o ↦ elim o [ inl r ↦ return_follows v w r | inr f ↦ found_follows v w f ]
      ];
    }

    config_kept : (v : Visit) (w : Course) → HasConfig old v w → HasConfig new v w
    config_kept v w (c, inside, named) = (
      c,
      grown_in old.configs.keys new.configs.keys i.grows c inside,
      named_kept old new i.kept c v w named,
    )

    -- what is closed stays so, where each new return and each new pair is
    pub closed_items :
        ((n : ℕ) (r : Return) → IsIn new.returns n r → IsIn old.returns n r ⊎ HasBegun new n) →
        ((n : ℕ) (r : Return) (f : Found) → IsIn new.returns n r → IsIn new.found n f →
        (IsIn old.returns n r × IsIn old.found n f) ⊎ IsJoined new r f) →
        IsClosed old → IsClosed new
    closed_items begun joined closed = record {
      begins = λ n r h. elim (begun n r h) [
        | inl was ↦ let b = closed.begins n r was in
            (b.0, visit_kept old new i.kept n b.0 b.1, config_kept b.0 (beginning b.0) b.2)
        | inr b ↦ b
      ];
      joins = λ n r f h k. elim (joined n r f h k) [
        | inl was ↦ let j = closed.joins n r f was.0 was.1 in record {
          v = j.v;
          before = j.before;
          inside = j.inside;
          visit = visit_kept old new i.kept r.visit j.v j.visit;
          earlier = telling_kept old new i.kept r.events j.before j.earlier;
          later = telling_kept old new i.kept f.events j.inside j.later;
          has = config_kept j.v (going r.here f.end (j.inside ++ j.before)) j.has;
        }
        | inr j ↦ j
      ];
    }
