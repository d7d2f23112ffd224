-- The law of the monitor.
use Rattle.std.proofs.Common.{◌≡◌, ℕ, List, [], ◌∷◌, ◌++◌, ◌⊎◌, inl, inr, refl, sym, ap, subst, ◌∙◌, ◌↔◌, map, append_assoc, append-nil}
use Rattle.std.specs.Prelude.{Contains, IsTrue}
use Rattle.ux_monitor.specs.declared.owing.Obligation.{Obligation}
use Rattle.ux_monitor.specs.declared.watching.Seen.{Seen}
use Rattle.ux_monitor.specs.Watches.{IsMet, Watches, IsPaid, IsIdle, IsLater, IsHere, IsFirst, IsNext}
use Rattle.ux_monitor.specs.declared.rule.Sign.{Sign}
use Rattle.ux_monitor.specs.declared.rule.Sign.TheVariants.{If, Then, Read}
use Rattle.ux_monitor.specs.declared.rule.Step.{Step}
use Rattle.ux_monitor.specs.Rules.{Run, Matches, IsFound, Satisfies}
use Rattle.ux_monitor.specs.Monitor.{Moves, Closes, Left, Right, Owes, Passed}
use Rattle.ux_monitor.proofs.WordsLemmas.{split_last}
use Rattle.ux_monitor.proofs.RunsLemmas.{run_append, run_split, found_meets, meeting_found}

module _ (steps : List Step) (ends : List ℕ) (Passes : ℕ → ℕ → Type 0) where
  -- 1. left places after one more reading
  matches_more : (tests here : List ℕ) (t r : ℕ) → Matches steps ends Passes tests here → Passes t r →
      Matches steps ends Passes (tests ++ t ∷ []) (here ++ r ∷ [])
  matches_more [] [] t r m p = (p, tt)
  matches_more [] (x ∷ here) t r m p = absurd m
  matches_more (y ∷ tests) [] t r m p = absurd m
  matches_more (y ∷ tests) (x ∷ here) t r m p = (m.0, matches_more tests here t r m.1 p)

  matches_last : (tests here : List ℕ) (r : ℕ) → Matches steps ends Passes tests (here ++ r ∷ []) →
      (before : List ℕ) × (t : ℕ) × (tests ≡ before ++ t ∷ []) × Matches steps ends Passes before here × Passes t r
  matches_last [] [] r m = absurd m
  matches_last [] (x ∷ here) r m = absurd m
  matches_last (t ∷ []) [] r m = ([], t, refl, tt, m.0)
  matches_last (t ∷ (y ∷ tests)) [] r m = absurd m.1
  matches_last (t ∷ tests) (x ∷ here) r m =
      let s = matches_last tests here r m.1 in
      (t ∷ s.0, s.1, ap (λ (ts : List ℕ). t ∷ ts) s.2, (m.0, s.3), s.4)

  map_more : (tests : List ℕ) (t : ℕ) → map Read (tests ++ t ∷ []) ≡ map Read tests ++ Read t ∷ []
  map_more [] t = refl
  map_more (x ∷ tests) t = ap (λ (ws : List Sign). Read x ∷ ws) (map_more tests t)

  pub left_first : (mark : Sign) (p : ℕ) → Left steps ends Passes mark [] p ↔ Run steps 0 p (mark ∷ [])
  left_first mark p = (
    λ l. first l.tests l.head l.here l.run l.ends_here l.matches,
    λ h. record { tests = []; run = h; head = []; here = []; ends_here = refl; matches = tt },
  )
    where
      first : (tests head here : List ℕ) → Run steps 0 p (mark ∷ map Read tests) → [] ≡ head ++ here → Matches steps ends Passes tests here → Run steps 0 p (mark ∷ [])
      first [] head here run e m = run
      first (t ∷ tests) [] [] run e m = absurd m
      first (t ∷ tests) [] (x ∷ here) run e m = cc
      first (t ∷ tests) (y ∷ head) here run e m = cc

  pub left_more : (mark : Sign) (u : List ℕ) (r p : ℕ) →
      Left steps ends Passes mark (u ++ r ∷ []) p ↔
      (Run steps 0 p (mark ∷ []) ⊎ ((k : ℕ) × Left steps ends Passes mark u k × Moves steps ends Passes k r p))
  left_more mark u r p = (
    λ l. elim (split_last u r l.head l.here l.ends_here) [
      | inl s ↦ inl (none l.tests l.run (subst (λ (h : List ℕ). Matches steps ends Passes l.tests h) s.0 l.matches))
      | inr s ↦
          let m = matches_last l.tests s.0 r (subst (λ (h : List ℕ). Matches steps ends Passes l.tests h) s.1 l.matches) in
          let run : Run steps 0 p ((mark ∷ map Read m.0) ++ (Read m.1 ∷ [])) =
          subst (λ (ws : List Sign). Run steps 0 p (mark ∷ ws)) (ap (map Read) m.2 ∙ map_more m.0 m.1) l.run in
          let parts = run_split steps run (mark ∷ map Read m.0) (Read m.1 ∷ []) refl in
          inr (parts.0, record { tests = m.0; run = parts.1; head = l.head; here = s.0; ends_here = s.2; matches = m.3 }, (m.1, m.4, parts.2))
    ],
    λ h. elim h [
      | inl run ↦ record { tests = []; run = run; head = u ++ r ∷ []; here = []; ends_here = sym (append-nil (u ++ r ∷ [])); matches = tt }
      | inr k ↦ let l = k.1 in let m = k.2 in record {
        tests = l.tests ++ m.0 ∷ [];
        run = subst (λ (ws : List Sign). Run steps 0 p (mark ∷ ws)) (sym (map_more l.tests m.0)) (run_append steps l.run m.2);
        head = l.head;
        here = l.here ++ r ∷ [];
        ends_here = ap (λ (xs : List ℕ). xs ++ r ∷ []) l.ends_here ∙ append_assoc l.head l.here (r ∷ []);
        matches = matches_more l.tests l.here m.0 r l.matches m.1;
      }
    ],
  )
    where
      none : (tests : List ℕ) → Run steps 0 p (mark ∷ map Read tests) → Matches steps ends Passes tests [] → Run steps 0 p (mark ∷ [])
      none [] run m = run
      none (t ∷ tests) run m = absurd m

  -- 2. split points within a list with one more reading
  well_more : (u : List ℕ) (r : ℕ) (after : List ℕ) →
      Passed steps ends Passes (u ++ r ∷ []) after ↔
      (Passed steps ends Passes u (r ∷ after) ×
      (IsFound steps ends Passes If (u ++ r ∷ []) after → IsFound steps ends Passes Then (u ++ r ∷ []) after))
  well_more u r after = (
    λ w. (
      λ x y e f. subst (λ (rest : List ℕ). IsFound steps ends Passes Then x rest) (append_assoc y (r ∷ []) after)
          (w x (y ++ r ∷ []) (ap (λ (xs : List ℕ). xs ++ r ∷ []) e ∙ append_assoc x y (r ∷ []))
          (subst (λ (rest : List ℕ). IsFound steps ends Passes If x rest) (sym (append_assoc y (r ∷ []) after)) f)),
      λ f. w (u ++ r ∷ []) [] (sym (append-nil (u ++ r ∷ []))) f,
    ),
    λ h. λ x y e f. elim (split_last u r x y e) [
      | inl s ↦ here x y s.0 s.1 h.1 f
      | inr s ↦ let joined : y ++ after ≡ s.0 ++ r ∷ after = ap (λ (xs : List ℕ). xs ++ after) s.1 ∙ append_assoc s.0 (r ∷ []) after in
          subst (λ (rest : List ℕ). IsFound steps ends Passes Then x rest) (sym joined)
          (h.0 x s.0 s.2 (subst (λ (rest : List ℕ). IsFound steps ends Passes If x rest) joined f))
    ],
  )
    where
      here : (x y : List ℕ) → y ≡ [] → x ≡ u ++ r ∷ [] →
          (IsFound steps ends Passes If (u ++ r ∷ []) after → IsFound steps ends Passes Then (u ++ r ∷ []) after) →
          IsFound steps ends Passes If x (y ++ after) → IsFound steps ends Passes Then x (y ++ after)
      here x y e is h f =
          subst (λ (ys : List ℕ). IsFound steps ends Passes Then x (ys ++ after)) (sym e)
          (subst (λ (xs : List ℕ). IsFound steps ends Passes Then xs after) (sym is)
          (h (subst (λ (xs : List ℕ). IsFound steps ends Passes If xs after) is
          (subst (λ (ys : List ℕ). IsFound steps ends Passes If x (ys ++ after)) e f))))

  pub passed_first : (after : List ℕ) → Passed steps ends Passes [] after ↔
      (IsFound steps ends Passes If [] after → IsFound steps ends Passes Then [] after)
  passed_first after = (
    λ w f. w [] [] refl f,
    λ h x y e f. at x y e h f,
  )
    where
      at : (x y : List ℕ) → [] ≡ x ++ y → (IsFound steps ends Passes If [] after → IsFound steps ends Passes Then [] after) →
          IsFound steps ends Passes If x (y ++ after) → IsFound steps ends Passes Then x (y ++ after)
      at [] [] e h f = h f
      at [] (a ∷ y) e h f = cc
      at (a ∷ x) y e h f = cc

  pub passed_whole : (list : List ℕ) → Passed steps ends Passes list [] ↔ Satisfies steps ends Passes list
  passed_whole list = (
    λ w x y e f. subst (λ (rest : List ℕ). IsFound steps ends Passes Then x rest) (append-nil y)
        (w x y e (subst (λ (rest : List ℕ). IsFound steps ends Passes If x rest) (sym (append-nil y)) f)),
    λ s x y e f. subst (λ (rest : List ℕ). IsFound steps ends Passes Then x rest) (sym (append-nil y))
        (s x y e (subst (λ (rest : List ℕ). IsFound steps ends Passes If x rest) (append-nil y) f)),
  )

  -- 3. what is owed, after one more reading
  pub owes_more : (found found' : Type 0) (ifs ifs' thens thens' : ℕ → Type 0) (r : ℕ) (after : List ℕ) →
      found' ↔ (found ⊎ ((p : ℕ) × ifs p × Closes steps ends Passes If p)) →
      ((k : ℕ) → ifs' k ↔ ((p : ℕ) × ifs p × Moves steps ends Passes p r k)) →
      ((k : ℕ) → thens' k ↔ ((p : ℕ) × thens p × Moves steps ends Passes p r k)) →
      ((p : ℕ) → thens p → Closes steps ends Passes Then p → ⊥) →
      Owes steps ends Passes found ifs thens (r ∷ after) ↔ Owes steps ends Passes found' ifs' thens' after
  owes_more found found' ifs ifs' thens thens' r after is_found is_ifs is_thens never = (
    λ o owed. later (o (elim owed [
      | inl f ↦ elim (is_found.0 f) [ inl g ↦ inl g | inr c ↦ inr (c.0, c.1, inl c.2) ]
      | inr i ↦ let m = (is_ifs i.0).0 i.1 in inr (m.0, m.1, inr (i.0, m.2, i.2))
    ])),
    λ o owed. sooner (o (elim owed [
      | inl f ↦ inl (is_found.1 (inl f))
      | inr i ↦ nearer i.0 i.1 i.2
    ])),
  )
    where
      later : ((p : ℕ) × thens p × Right steps ends Passes Then p (r ∷ after)) → (k : ℕ) × thens' k × Right steps ends Passes Then k after
      later t = elim t.2 [
        | inl c ↦ absurd (never t.0 t.1 c)
        | inr m ↦ (m.0, (is_thens m.0).1 (t.0, t.1, m.1), m.2)
      ]

      sooner : ((k : ℕ) × thens' k × Right steps ends Passes Then k after) → (p : ℕ) × thens p × Right steps ends Passes Then p (r ∷ after)
      sooner t = let m = (is_thens t.0).0 t.1 in (m.0, m.1, inr (t.0, m.2, t.2))

      nearer : (p : ℕ) → ifs p → Right steps ends Passes If p (r ∷ after) → found' ⊎ ((k : ℕ) × ifs' k × Right steps ends Passes If k after)
      nearer p i (inl c) = inl (is_found.1 (inr (p, i, c)))
      nearer p i (inr m) = inr (m.0, (is_ifs m.0).1 (p, i, m.1), m.2)

  -- a then-place that closes pays
  pub owes_paid : (found : Type 0) (ifs thens : ℕ → Type 0) (r : ℕ) (after : List ℕ) (p : ℕ) → thens p → Closes steps ends Passes Then p →
      Owes steps ends Passes found ifs thens (r ∷ after)
  owes_paid found ifs thens r after p t c owed = (p, t, inl c)

  -- nothing is owed where no if-pair can come
  pub owes_none : (found : Type 0) (ifs thens : ℕ → Type 0) (after : List ℕ) → (found → ⊥) → ((p : ℕ) → ifs p → ⊥) →
      Owes steps ends Passes found ifs thens after
  owes_none found ifs thens after no_found no_ifs owed = absurd (elim owed [ inl f ↦ no_found f | inr i ↦ no_ifs i.0 i.1 ])

  -- what is owed at a split point
  pub owes_here : (before after : List ℕ) (ifs thens : ℕ → Type 0) →
      ((k : ℕ) → ifs k ↔ ((p : ℕ) × Left steps ends Passes If before p × Run steps p k (If ∷ []))) →
      ((k : ℕ) → thens k ↔ ((p : ℕ) × Left steps ends Passes Then before p × Run steps p k (Then ∷ []))) →
      Owes steps ends Passes ⊥ ifs thens after ↔ (IsFound steps ends Passes If before after → IsFound steps ends Passes Then before after)
  owes_here before after ifs thens is_ifs is_thens = (
    λ o f. let m = found_meets steps ends Passes If before after f in
        let t = o (inr (m.to, (is_ifs m.to).1 (m.from, m.left, m.middle), m.right)) in
        let l = (is_thens t.0).0 t.1 in
        meeting_found steps ends Passes Then before after (record { from = l.0; to = t.0; left = l.1; middle = l.2; right = t.2 }),
    λ h owed. elim owed [
      | inl f ↦ absurd f
      | inr i ↦ let l = (is_ifs i.0).0 i.1 in
          let m = found_meets steps ends Passes Then before after
          (h (meeting_found steps ends Passes If before after (record { from = l.0; to = i.0; left = l.1; middle = l.2; right = i.2 }))) in
          (m.to, (is_thens m.to).1 (m.from, m.left, m.middle), m.right)
    ],
  )

  -- 4. the law
  met_idle : (o : Obligation) → IsIdle o → (after : List ℕ) → IsMet steps ends Passes o after
  met_idle o idle after = owes_none (IsTrue o.found) (Contains o.ifs.items) (Contains o.thens.items) after idle.found idle.ifs

  met_later : (r : ℕ) (o later : Obligation) → IsLater steps ends Passes r o later → (after : List ℕ) →
      IsMet steps ends Passes o (r ∷ after) ↔ IsMet steps ends Passes later after
  met_later r o later l after =
      owes_more (IsTrue o.found) (IsTrue later.found) (Contains o.ifs.items) (Contains later.ifs.items) (Contains o.thens.items) (Contains later.thens.items)
      r after l.found l.ifs l.thens (λ p t c. l.unpaid (p, t, c))

  met_here : (ifs thens before : List ℕ) →
      ((p : ℕ) → Contains ifs p ↔ Left steps ends Passes If before p) →
      ((p : ℕ) → Contains thens p ↔ Left steps ends Passes Then before p) →
      (o : Obligation) → IsHere steps ifs thens o → (after : List ℕ) →
      IsMet steps ends Passes o after ↔ (IsFound steps ends Passes If before after → IsFound steps ends Passes Then before after)
  met_here ifs thens before is_ifs is_thens o h after =
      let whole = owes_here before after (Contains o.ifs.items) (Contains o.thens.items)
      (λ k. (λ c. let m = (h.ifs k).0 c in (m.0, (is_ifs m.0).0 m.1, m.2), λ m. (h.ifs k).1 (m.0, (is_ifs m.0).1 m.1, m.2)))
      (λ k. (λ c. let m = (h.thens k).0 c in (m.0, (is_thens m.0).0 m.1, m.2), λ m. (h.thens k).1 (m.0, (is_thens m.0).1 m.1, m.2))) in (
        λ met. whole.0 (λ owed. met (elim owed [ inl f ↦ absurd f | inr i ↦ inr i ])),
        λ f owed. whole.1 f (elim owed [ inl g ↦ absurd (h.found g) | inr i ↦ inr i ]),
      )

  pub watches_more : (seen : Seen) (before : List ℕ) (r : ℕ) (next : Seen) →
      Watches steps ends Passes seen before → IsNext steps ends Passes seen r next → Watches steps ends Passes next (before ++ r ∷ [])
  watches_more seen before r next w n = record {
    ifs = is_ifs;
    thens = is_thens;
    owed = λ after. (
      λ all. (well_more before r after).1 (
        (w.owed (r ∷ after)).0 (λ o h. elim (n.each o h) [
          | inl paid ↦ owes_paid (IsTrue o.found) (Contains o.ifs.items) (Contains o.thens.items) r after paid.0 paid.1 paid.2
          | inr l ↦ (met_later r o l.0 l.1 after).1 (elim l.2 [ inl in_next ↦ all l.0 in_next | inr idle ↦ met_idle l.0 idle after ])
        ]),
        (met_here next.ifs.items next.thens.items (before ++ r ∷ []) is_ifs is_thens n.opened.here n.opened.is_here after).0
            (elim n.opened.kept [ inl in_next ↦ all n.opened.here in_next | inr idle ↦ met_idle n.opened.here idle after ]),
      ),
      λ passed. let both = (well_more before r after).0 passed in λ o h. elim (n.opened.only o h) [
        | inl e ↦ (met_here next.ifs.items next.thens.items (before ++ r ∷ []) is_ifs is_thens o e after).1 both.1
        | inr l ↦ (met_later r l.0 o l.2 after).0 ((w.owed (r ∷ after)).1 both.0 l.0 l.1)
      ],
    );
  }
    where
      is_ifs : (p : ℕ) → Contains next.ifs.items p ↔ Left steps ends Passes If (before ++ r ∷ []) p
      is_ifs p = (
        λ c. (left_more If before r p).1 (elim ((n.ifs p).0 c) [ inl o ↦ inl o | inr m ↦ inr (m.0, (w.ifs m.0).0 m.1, m.2) ]),
        λ l. (n.ifs p).1 (elim ((left_more If before r p).0 l) [ inl o ↦ inl o | inr m ↦ inr (m.0, (w.ifs m.0).1 m.1, m.2) ]),
      )

      is_thens : (p : ℕ) → Contains next.thens.items p ↔ Left steps ends Passes Then (before ++ r ∷ []) p
      is_thens p = (
        λ c. (left_more Then before r p).1 (elim ((n.thens p).0 c) [ inl o ↦ inl o | inr m ↦ inr (m.0, (w.thens m.0).0 m.1, m.2) ]),
        λ l. (n.thens p).1 (elim ((left_more Then before r p).0 l) [ inl o ↦ inl o | inr m ↦ inr (m.0, (w.thens m.0).1 m.1, m.2) ]),
      )

  pub watches_first : (seen : Seen) → IsFirst steps seen → Watches steps ends Passes seen []
  watches_first seen n = record {
    ifs = is_ifs;
    thens = is_thens;
    owed = λ after. (
      λ all. (passed_first after).1 ((met_here seen.ifs.items seen.thens.items [] is_ifs is_thens n.opened.here n.opened.is_here after).0
          (elim n.opened.kept [ inl in_seen ↦ all n.opened.here in_seen | inr idle ↦ met_idle n.opened.here idle after ])),
      λ passed. λ o h. elim (n.opened.only o h) [
        | inl e ↦ (met_here seen.ifs.items seen.thens.items [] is_ifs is_thens o e after).1 ((passed_first after).0 passed)
        | inr never ↦ absurd never
      ],
    );
  }
    where
      is_ifs : (p : ℕ) → Contains seen.ifs.items p ↔ Left steps ends Passes If [] p
      is_ifs p = (λ c. (left_first If p).1 ((n.ifs p).0 c), λ l. (n.ifs p).1 ((left_first If p).0 l))

      is_thens : (p : ℕ) → Contains seen.thens.items p ↔ Left steps ends Passes Then [] p
      is_thens p = (λ c. (left_first Then p).1 ((n.thens p).0 c), λ l. (n.thens p).1 ((left_first Then p).0 l))

  -- the monitor accepts exactly where nothing that was found is unpaid at the end
  pub accepts_iff : (seen : Seen) (list : List ℕ) → Watches steps ends Passes seen list →
      ((o : Obligation) → Contains seen.owed.items o →
      (IsTrue o.found ⊎ ((p : ℕ) × Contains o.ifs.items p × Closes steps ends Passes If p)) → IsPaid steps ends Passes o)
      ↔ Satisfies steps ends Passes list
  accepts_iff seen list w = (
    λ all. (passed_whole list).0 ((w.owed []).0 all),
    λ s. (w.owed []).1 ((passed_whole list).1 s),
  )
