-- Free steps, followed when a step is taken.
use Rattle.std.proofs.Common.{arith, ◌≡◌, ◌≢◌, ℕ, ◌+◌, ◌-◌, ◌*◌, ◌^◌, ◌<◌, ◌≤◌, length, List, [], ◌∷◌, ◌++◌, ◌⊎◌, ◌↔◌, inl, inr, refl, sym, ◌∙◌, subst}
use Rattle.std.specs.Prelude.{Contains}
use Rattle.ux_monitor.specs.declared.rule.Sign.{Sign}
use Rattle.ux_monitor.specs.declared.rule.Sign.TheVariants.{Free, Read}
use Rattle.ux_monitor.specs.declared.rule.Step.{Step}
use Rattle.ux_monitor.specs.Rules.{Run, stop, free, along}
use Rattle.ux_monitor.specs.Monitor.{Moves}
use Rattle.ux_monitor.specs.Steps.{Among, Marks, Reads}
use Rattle.ux_monitor.specs.Walks.{Reaches, IsWalk, IsPopped}
use Rattle.std.proofs.lemmas.List.Elements.{Contains-append_left, Contains-push, Contains-push_cases}
use Rattle.ux_base.proofs.Lists.{nothing_in}
use Rattle.ux_monitor.proofs.RunsLemmas.{run_append}

pub emptied : (xs : List ℕ) → length xs ≡ 0 → xs ≡ []
emptied [] e = refl
emptied (x ∷ xs) e = absurd (omega (arith, e))

-- a new place leaves less to do, however many its free steps put ahead
pub work_falls : (old new before ahead : ℕ) → new ≡ old + 1 → new < 2 ^ 64 → ahead < 2 ^ 64 →
    (2 ^ 64 - new) * 2 ^ 64 + ahead ≤ (2 ^ 64 - old) * 2 ^ 64 + before
work_falls old new before ahead more room few = omega arith

-- the last place ahead, and the rest
pub popped : (ahead rest : List ℕ) (place : ℕ) → ahead ≡ rest ++ place ∷ [] →
    IsPopped ahead rest place
popped ahead rest place is k =
    subst (λ (xs : List ℕ). Contains xs k ↔ (Contains rest k ⊎ (k ≡ place))) (sym is) (
      λ h. elim (Contains-push_cases rest place k h) [ inl r ↦ inl r | inr e ↦ inr (sym e) ],
      λ h. elim h [
        | inl r ↦ Contains-append_left rest (place ∷ []) k r
        | inr e ↦ subst (λ (x : ℕ). Contains (rest ++ place ∷ []) x) (sym e)
            (Contains-push rest place)
      ],
    )

module _ (steps : List Step) where
  -- 1. a walk along free steps
  pub walk_first : (from found : List ℕ) → found ≡ [] → IsWalk steps from found from
  walk_first from found none = record {
    sound = λ k h. absurd (nothing_in (subst (λ (xs : List ℕ). Contains xs k) none h));
    sound_ahead = λ k h. (k, h, stop);
    begins = λ k h. inr h;
    followed = λ k h. absurd (nothing_in (subst (λ (xs : List ℕ). Contains xs k) none h));
  }

  moved : (found ahead rest : List ℕ) (place : ℕ) → IsPopped ahead rest place →
      (found' ahead' : List ℕ) → Contains found' place →
      ((k : ℕ) → Contains found k → Contains found' k) →
      ((k : ℕ) → Contains rest k → Contains ahead' k) →
      (k : ℕ) → Contains found k ⊎ Contains ahead k → Contains found' k ⊎ Contains ahead' k
  moved found ahead rest place popped found' ahead' here still on k h = elim h [
    | inl f ↦ inl (still k f)
    | inr a ↦ elim ((popped k).0 a) [
      | inl r ↦ inr (on k r)
      | inr e ↦ inl (subst (λ (x : ℕ). Contains found' x) (sym e) here)
    ]
  ]

  -- one more place, whose free steps are followed
  pub walk_more : (from found ahead rest found' ahead' : List ℕ) (place : ℕ) →
      IsPopped ahead rest place →
      ((k : ℕ) → Contains found' k ↔ (Contains found k ⊎ (k ≡ place))) →
      ((k : ℕ) → Contains ahead' k ↔ (Contains rest k ⊎ Marks steps Free place k)) →
      IsWalk steps from found ahead → IsWalk steps from found' ahead'
  walk_more from found ahead rest found' ahead' place popped more on w =
      let here = (more place).1 (inr refl) in
      let go = moved found ahead rest place popped found' ahead' here (λ k h. (more k).1 (inl h))
      (λ k h. (on k).1 (inl h)) in
      record {
        sound = λ k h. elim ((more k).0 h) [
          | inl f ↦ w.sound k f
          | inr e ↦ subst (λ (x : ℕ). Reaches steps from x) (sym e) at
        ];
        sound_ahead = λ k h. elim ((on k).0 h) [
          | inl r ↦ w.sound_ahead k ((popped k).1 (inl r))
          | inr m ↦ led k m
        ];
        begins = λ k h. go k (w.begins k h);
        followed = λ k h t m. elim ((more k).0 h) [
          | inl f ↦ go t (w.followed k f t m)
          | inr e ↦ inr ((on t).1 (inr (subst (λ (x : ℕ). Marks steps Free x t) e m)))
        ];
      }
    where
      at : Reaches steps from place
      at = w.sound_ahead place ((popped place).1 (inr refl))

      led : (k : ℕ) → Marks steps Free place k → Reaches steps from k
      led k m =
          let s = m.0 in
          let step : Run steps place k [] =
          subst (λ (x : ℕ). Run steps x k []) m.1.1
          (subst (λ (x : ℕ). Run steps s.from x []) (sym m.2.1)
          (free s m.1.0 m.2.0 stop)) in
          (at.0, at.1, run_append steps at.2 step)

  -- a place that was found before
  pub walk_on : (from found ahead rest found' : List ℕ) (place : ℕ) →
      IsPopped ahead rest place → found' ≡ found → Contains found' place →
      IsWalk steps from found ahead → IsWalk steps from found' rest
  walk_on from found ahead rest found' place popped same here w =
      let still : (k : ℕ) → Contains found k → Contains found' k =
      λ k h. subst (λ (xs : List ℕ). Contains xs k) (sym same) h in
      let back : (k : ℕ) → Contains found' k → Contains found k =
      λ k h. subst (λ (xs : List ℕ). Contains xs k) same h in
      let go = moved found ahead rest place popped found' rest here still (λ k h. h) in
      record {
        sound = λ k h. w.sound k (back k h);
        sound_ahead = λ k h. w.sound_ahead k ((popped k).1 (inl h));
        begins = λ k h. go k (w.begins k h);
        followed = λ k h t m. go t (w.followed k (back k h) t m);
      }

  -- at the end all is found
  pub walked : (from found ahead : List ℕ) → ahead ≡ [] → IsWalk steps from found ahead →
      (k : ℕ) → Contains found k ↔ Reaches steps from k
  walked from found ahead none w k = (
    w.sound k,
    λ r. along_free r.2 refl (here (w.begins r.0 r.1)),
  )
    where
      here : {t : ℕ} → Contains found t ⊎ Contains ahead t → Contains found t
      here {t} (inl f) = f
      here {t} (inr a) =
          absurd (nothing_in (subst (λ (xs : List ℕ). Contains xs t) none a))

      along_free : {a b : ℕ} {word : List Sign} → Run steps a b word → word ≡ [] →
          Contains found a → Contains found b
      along_free stop e h = h
      along_free (free s is sign run) e h =
          along_free run e (here (w.followed s.from h s.to (s, (is, refl), (sign, refl))))
      along_free (along s is sign run) e h = cc

  -- 2. a run with one sign: free steps, a step, free steps
  parts : {a b : ℕ} {w : List Sign} → Run steps a b w → (x : Sign) → w ≡ x ∷ [] →
      (s : Step) × Contains steps s × (s.sign ≡ x) × Run steps a s.from [] × Run steps s.to b []
  parts stop x e = cc
  parts (free s here is h) x e =
      let r = parts h x e in
      (r.0, r.1, r.2, free s here is r.3, r.4)
  parts (along {b = b} {word = word} s here is h) x e =
      let rest : word ≡ [] = cc in
      let sign : s.sign ≡ x = cc in
      (s, here, sign, stop, subst (λ (v : List Sign). Run steps s.to b v) rest h)

  whole : {a p t b : ℕ} {x : Sign} → Run steps a p [] → (s : Step) → Contains steps s →
      s.from ≡ p → s.sign ≡ x → t ≡ s.to → x ≢ Free → Run steps t b [] → Run steps a b (x ∷ [])
  whole {a} {p} {t} {b} {x} before s here from sign to other after =
      run_append steps before
      (subst (λ (q : ℕ). Run steps q b (x ∷ [])) from
      (subst (λ (y : Sign). Run steps s.from b (y ∷ [])) sign
      (along s here (λ e. other (sym sign ∙ e))
      (subst (λ (q : ℕ). Run steps q b []) to after))))

  module _ (from here : List ℕ) (is_here : (k : ℕ) → Contains here k ↔ Reaches steps from k)
    where
      -- what a mark gives, between free steps
      pub marks_run : (mark : Sign) → mark ≢ Free → (k : ℕ) →
          ((a : ℕ) × ((p : ℕ) × Contains here p × Marks steps mark p a) × Run steps a k [])
          ↔ ((p : ℕ) × Contains from p × Run steps p k (mark ∷ []))
      marks_run mark other k = (
        λ r.
            let m = r.1 in
            let b = (is_here m.0).0 m.1 in
            let s = m.2 in
            (b.0, b.1, whole b.2 s.0 s.1.0 s.1.1 s.2.0 s.2.1 other r.2),
        λ r.
            let o = parts r.2 mark refl in (
              o.0.to,
              (o.0.from, (is_here o.0.from).1 (r.0, r.1, o.3), (o.0, (o.1, refl), (o.2, refl))),
              o.4,
            ),
      )

      -- what a reading gives, between free steps
      pub reads_run : (passed : List ℕ) (k : ℕ) →
          ((a : ℕ) × ((p : ℕ) × Contains here p × Reads steps passed p a) × Run steps a k [])
          ↔ ((p : ℕ) × Contains from p × Moves steps [] (Among passed) p 0 k)
      reads_run passed k = (
        λ r.
            let m = r.1 in
            let b = (is_here m.0).0 m.1 in
            let s = m.2 in
            let t = s.2.0 in
            (b.0, b.1, (t.0, t.2, whole b.2 s.0 s.1.0 s.1.1 t.1 s.2.1 read r.2)),
        λ r.
            let t = r.2 in
            let o = parts t.2 (Read t.0) refl in (
              o.0.to,
              (
                o.0.from,
                (is_here o.0.from).1 (r.0, r.1, o.3),
                (o.0, (o.1, refl), ((t.0, o.2, t.1), refl)),
              ),
              o.4,
            ),
      )
        where
          read : {t : ℕ} → Read t ≢ Free
          read e = cc

  -- 3. what is reached from places that were put to none
  pub reaches_only : (P : ℕ → Type 0) (none ahead : List ℕ) → none ≡ [] →
      ((k : ℕ) → Contains ahead k ↔ (Contains none k ⊎ P k)) → (k : ℕ) →
      Reaches steps ahead k ↔ ((a : ℕ) × P a × Run steps a k [])
  reaches_only P none ahead empty more k = (
    λ r. elim ((more r.0).0 r.1) [
      | inl n ↦ absurd (nothing_in (subst (λ (xs : List ℕ). Contains xs r.0) empty n))
      | inr p ↦ (r.0, p, r.2)
    ],
    λ r. (r.0, (more r.0).1 (inr r.1), r.2),
  )

  -- and others to these
  pub reaches_both : (P Q : ℕ → Type 0) (none some ahead : List ℕ) → none ≡ [] →
      ((k : ℕ) → Contains some k ↔ (Contains none k ⊎ P k)) →
      ((k : ℕ) → Contains ahead k ↔ (Contains some k ⊎ Q k)) → (k : ℕ) →
      Reaches steps ahead k ↔
      (((a : ℕ) × Q a × Run steps a k []) ⊎ ((a : ℕ) × P a × Run steps a k []))
  reaches_both P Q none some ahead empty first second k =
      let head = reaches_only P none some empty first k in (
        λ r. elim ((second r.0).0 r.1) [
          | inl s ↦ inr (head.0 (r.0, s, r.2))
          | inr q ↦ inl (r.0, q, r.2)
        ],
        λ h. elim h [
          | inl q ↦ (q.0, (second q.0).1 (inr q.1), q.2)
          | inr p ↦ (let s = head.1 p in (s.0, (second s.0).1 (inl s.1), s.2))
        ],
      )
