-- What two passes leave: a pass forwards with the machine, and a pass backwards with none.
use Rattle.std.proofs.Common.{arith, ◌≡◌, ℕ, zero, suc, ◌-◌, ◌<◌, ◌≤◌, ◌↔◌, inl, inr, List, [], ◌∷◌, ◌++◌, refl, sym, subst, ◌∙◌, length, reverse, length-append}
use Rattle.std.proofs.lemmas.List.{reverse-reverse}
use Rattle.ux_subsets.specs.declared.automaton.Link.{Link}
use Rattle.std.specs.Prelude.{Contains}
use Rattle.ux_subsets.specs.Paths.{link, IsPath, readings_of, IsAscending, reversed, IsLeft}
use Rattle.ux_subsets.specs.Machines.{AreSubsets}
use Rattle.ux_subsets.proofs.SpellingLemmas.{Reads, same_link, spells_iff, reads_path, reads_append, climbs}
use Rattle.ux_subsets.proofs.SubsetsSpellLemmas.{below_or_last, up', spells_on, spelled_on, reached_once, exact, reached_by}
use Rattle.ux_subsets.proofs.BackwardsLemmas.{back_up, back_iff, back_whole, back_from}

pub last_link : (links : List Link) (r : ℕ) (w : List ℕ) (a b : ℕ) → Reads links a b (r ∷ w) → (m q : ℕ) × Contains links (link m b q)
last_link links r [] a b h = (a, r, subst (λ (t : ℕ). Contains links (link a t r)) h.2 h.1)
last_link links r (q ∷ w) a b h = last_link links q w h.0 b h.2

-- lists would grow without end
module _ (last : ℕ) (links : List Link) (up : IsAscending last links) where
  longer : (i a b : ℕ) → a < b → (u : List ℕ) → Reads links a b u → (w : List ℕ) → Reads links a last w →
      ((v : List ℕ) → Reads links a last v → Reads links b last v) → (v : List ℕ) × Reads links a last v × (i ≤ length v)
  longer zero a b lt u h w k same = (w, k, omega arith)
  longer (suc i) a b lt [] h w k same = absurd (omega (arith, h, lt))
  longer (suc i) a b lt (r ∷ u) h w k same =
      let v = longer i a b lt (r ∷ u) h w k same in
      let len = length-append u v.0 in
      let long = v.2 in
      (r ∷ (u ++ v.0), reads_append links (r ∷ u) v.0 a b last h (same v.0 v.1), omega (arith, len, long))

  pub not_alike : (a b : ℕ) → a < b → (u : List ℕ) → Reads links a b u → (w : List ℕ) → Reads links a last w →
      ((v : List ℕ) → Reads links a last v → Reads links b last v) → ⊥
  not_alike a b lt u h w k same =
      let v = longer (suc last) a b lt u h w k same in
      let short = climbs links last up v.0 a last v.1 in
      let long = v.2 in
      omega (arith, short, long)

module _ {Q : Type 0} (Stands : Q → List ℕ → Type 0) (Satisfies : List ℕ → Type 0)
    (last : ℕ) (links : List Link) (up : IsAscending last links) (some : 0 < last)
    (At : ℕ → ℕ → Type 0) (seen : ℕ → Q) (last1 : ℕ) (links1 : List Link) (some1 : 0 < last1)
    (forth : AreSubsets Stands Satisfies last links At seen last1 links1)
    {R : Type 0} (Stands2 : R → List ℕ → Type 0) (At2 : ℕ → ℕ → Type 0) (seen2 : ℕ → R) (last2 : ℕ) (links2 : List Link) (some2 : 0 < last2)
    (again : AreSubsets Stands2 (λ w. Unit {0}) last1 (reversed last1 links1) At2 seen2 last2 links2)
    (stood2 : (n : ℕ) → n < last2 → (before : List ℕ) × Stands2 (seen2 n) before)
    (distinct2 : (n k : ℕ) → n < last2 → k < last2 → ((s : ℕ) → At2 n s ↔ At2 k s) → n ≡ k) where
  up1 : IsAscending last1 links1
  up1 = up' Stands Satisfies last links up At seen last1 links1 forth

  up_back : IsAscending last1 (reversed last1 links1)
  up_back = back_up last1 links1 up1

  up2 : IsAscending last2 links2
  up2 = up' Stands2 (λ w. Unit {0}) last1 (reversed last1 links1) up_back At2 seen2 last2 links2 again

  exact1 : (w : List ℕ) → Reads links1 0 last1 w ↔ (Reads links 0 last w × Satisfies w)
  exact1 = exact Stands Satisfies last links up At seen last1 links1 forth some some1

  exact2 : (w : List ℕ) → Reads links2 0 last2 w ↔ (Reads (reversed last1 links1) 0 last1 w × Unit {0})
  exact2 = exact Stands2 (λ w. Unit {0}) last1 (reversed last1 links1) up_back At2 seen2 last2 links2 again some1 some2

  exact3 : (w : List ℕ) → Reads (reversed last2 links2) 0 last2 w ↔ (Reads links 0 last w × Satisfies w)
  exact3 w = (
    λ h. let h2 = (back_from last2 links2 up2 w 0 (omega arith)).0 h in
        let e : last2 - 0 ≡ last2 = omega arith in
        let h1 = ((exact2 (reverse w)).0 (subst (λ (t : ℕ). Reads links2 0 t (reverse w)) e h2)).0 in
        (exact1 w).0 ((back_whole last1 links1 up1 w).1 h1),
    λ h. let h1 = (back_whole last1 links1 up1 w).0 ((exact1 w).1 h) in
        let h2 = (exact2 (reverse w)).1 (h1, tt) in
        let e : last2 - 0 ≡ last2 = omega arith in
        (back_from last2 links2 up2 w 0 (omega arith)).1 (subst (λ (t : ℕ). Reads links2 0 t (reverse w)) (sym e) h2),
  )

  -- one list leads from one state to the last, but for the first state
  told : (a b : ℕ) → 0 < a → 0 < b → a ≤ last2 → b ≤ last2 → (w : List ℕ) →
      Reads (reversed last2 links2) a last2 w → Reads (reversed last2 links2) b last2 w → a ≡ b
  told a b pa pb la lb w h k =
      let e = reached_once Stands2 (λ w. Unit {0}) last1 (reversed last1 links1) up_back At2 seen2 last2 links2 again (reverse w) 0
      (last2 - a) (last2 - b) (omega arith) (omega arith) ((back_from last2 links2 up2 w a la).0 h) ((back_from last2 links2 up2 w b lb).0 k) in
      omega arith

  up3 : IsAscending last2 (reversed last2 links2)
  up3 = back_up last2 links2 up2

  once3 : (p q : List Link) (n : ℕ) → IsPath (reversed last2 links2) n last2 p → IsPath (reversed last2 links2) n last2 q →
      readings_of p ≡ readings_of q → p ≡ q
  once3 [] [] n h k e = refl
  once3 [] (l ∷ q) n h k e = cc
  once3 (l ∷ p) [] n h k e = cc
  once3 (l ∷ p) (m ∷ q) n h k e =
      let same : l.reading ≡ m.reading = cc in
      let rest : readings_of p ≡ readings_of q = cc in
      let rises = up3.ascends l h.0 in
      let rises' = up3.ascends m k.0 in
      let to = told l.to m.to (omega (arith, rises)) (omega (arith, rises')) (up3.within l h.0) (up3.within m k.0) (readings_of p)
      (reads_path (reversed last2 links2) p l.to last2 h.2)
      (subst (λ (w : List ℕ). Reads (reversed last2 links2) m.to last2 w) (sym rest) (reads_path (reversed last2 links2) q m.to last2 k.2)) in
      let from : l.from ≡ m.from = h.1 ∙ sym k.1 in
      let one : l ≡ m = same_link l.from m.from l.to m.to l.reading m.reading from to same in
      let others = once3 p q m.to (subst (λ (t : ℕ). IsPath (reversed last2 links2) t last2 p) to h.2) k.2 rest in
      cc

  module _ (word : List ℕ) (spelled : Reads links 0 last word) (accepted : Satisfies word) where
    reached1 : (n : ℕ) → n ≤ last1 → (v : List ℕ) × Reads links1 0 n v
    reached1 n le = elim (below_or_last n last1 le) [
      | inl lt ↦ reached_by Stands Satisfies last links up At seen last1 links1 forth n lt
      | inr e ↦ (word, subst (λ (t : ℕ). Reads links1 0 t word) (sym e) ((exact1 word).1 (spelled, accepted)))
    ]

    reached2 : (n : ℕ) → n ≤ last2 → (v : List ℕ) × Reads links2 0 n v
    reached2 n le = elim (below_or_last n last2 le) [
      | inl lt ↦ reached_by Stands2 (λ w. Unit {0}) last1 (reversed last1 links1) up_back At2 seen2 last2 links2 again n lt
      | inr e ↦ (
        reverse word,
        subst (λ (t : ℕ). Reads links2 0 t (reverse word)) (sym e)
            ((exact2 (reverse word)).1 ((back_whole last1 links1 up1 word).0 ((exact1 word).1 (spelled, accepted)), tt)),
      )
    ]

    leaves2 : (n : ℕ) → n ≤ last2 → (v : List ℕ) × Reads links2 n last2 v
    leaves2 n le = elim (below_or_last n last2 le) [
      | inl lt ↦
          let s = again.filled n lt in
          let inside = again.inside n s.0 lt s.1 in
          let v = reached1 (last1 - s.0) (omega arith) in
          let r = (back_from last1 links1 up1 (reverse v.0) s.0 (omega arith)).1
          (subst (λ (w : List ℕ). Reads links1 0 (last1 - s.0) w) (sym (reverse-reverse v.0)) v.1) in (
            reverse v.0,
            spelled_on Stands2 (λ w. Unit {0}) last1 (reversed last1 links1) up_back At2 seen2 last2 links2 again
                (reverse v.0) (stood2 n lt).0 n (stood2 n lt).1 lt s.0 s.1 r tt inside,
          )
      | inr e ↦ ([], e)
    ]

    after3 : (a : ℕ) → a ≤ last2 → (v : List ℕ) × Reads (reversed last2 links2) a last2 v
    after3 a le = let v = reached2 (last2 - a) (omega arith) in (
      reverse v.0,
      (back_from last2 links2 up2 (reverse v.0) a le).1
          (subst (λ (w : List ℕ). Reads links2 0 (last2 - a) w) (sym (reverse-reverse v.0)) v.1),
    )

    before3 : (a : ℕ) → a ≤ last2 → (v : List ℕ) × Reads (reversed last2 links2) 0 a v
    before3 a le =
        let v = leaves2 (last2 - a) (omega arith) in
        let r = (back_iff last2 links2 up2 v.0 (last2 - a) last2 (omega arith) (omega arith)).0 v.1 in
        let start : last2 - last2 ≡ 0 = omega arith in
        let end : last2 - (last2 - a) ≡ a = omega arith in (
          reverse v.0,
          subst (λ (s : ℕ). Reads (reversed last2 links2) s a (reverse v.0)) start
              (subst (λ (t : ℕ). Reads (reversed last2 links2) (last2 - last2) t (reverse v.0)) end r),
        )

    first_differs : (b : ℕ) → 0 < b → b ≤ last2 →
        ((v : List ℕ) → Reads (reversed last2 links2) 0 last2 v → Reads (reversed last2 links2) b last2 v) → ⊥
    first_differs b pb lb same =
        let u = before3 b lb in
        let w = after3 0 (omega arith) in
        not_alike last2 (reversed last2 links2) up3 0 b pb u.0 u.1 w.0 w.1 same

    apart3 : (a b : ℕ) → a ≤ last2 → b ≤ last2 →
        ((v : List ℕ) → Reads (reversed last2 links2) a last2 v ↔ Reads (reversed last2 links2) b last2 v) → a ≡ b
    apart3 zero zero la lb same = refl
    apart3 zero (suc b) la lb same = absurd (first_differs (suc b) (omega arith) lb (λ v. (same v).0))
    apart3 (suc a) zero la lb same = absurd (first_differs (suc a) (omega arith) la (λ v. (same v).1))
    apart3 (suc a) (suc b) la lb same =
        let w = after3 (suc a) la in told (suc a) (suc b) (omega arith) (omega arith) la lb w.0 w.1 ((same w.0).0 w.1)

    -- a set behind the first has not the first state
    positive : (n : ℕ) → 0 < n → n < last2 → (s : ℕ) → At2 n s → 0 < s
    positive n pos lt s at = by (reached_by Stands2 (λ w. Unit {0}) last1 (reversed last1 links1) up_back At2 seen2 last2 links2 again n lt)
      where
        by : ((v : List ℕ) × Reads links2 0 n v) → 0 < s
        by ([], h) = absurd (omega (arith, pos, h))
        by (r ∷ v, h) =
            let l = last_link links2 r v 0 n h in
            let enters = ((again.goes l.0 n l.1 lt l.2 s).0 at).1 in
            let rises = up_back.ascends (link enters.0 s l.1) enters.2 in
            omega (arith, rises)

    -- a state's lists to it lead from each set that has it
    carried : (n k : ℕ) → 0 < n → n < last2 → 0 < k → k < last2 →
        ((v : List ℕ) → Reads links2 n last2 v → Reads links2 k last2 v) → (s : ℕ) → At2 n s → At2 k s
    carried n k pn ln pk lk all s at =
        let inside = again.inside n s ln at in
        let low = positive n pn ln s at in
        let v = reached1 (last1 - s) (omega arith) in
        let r = (back_from last1 links1 up1 (reverse v.0) s (omega arith)).1
        (subst (λ (w : List ℕ). Reads links1 0 (last1 - s) w) (sym (reverse-reverse v.0)) v.1) in
        let h = spelled_on Stands2 (λ w. Unit {0}) last1 (reversed last1 links1) up_back At2 seen2 last2 links2 again
        (reverse v.0) (stood2 n ln).0 n (stood2 n ln).1 ln s at r tt inside in
        let o = spells_on Stands2 (λ w. Unit {0}) last1 (reversed last1 links1) up_back At2 seen2 last2 links2 again
        (reverse v.0) (stood2 k lk).0 k (stood2 k lk).1 lk (all (reverse v.0) h) in
        let inside' = again.inside k o.state lk o.at in
        let low' = positive k pk lk o.state o.at in
        let v' = subst (λ (w : List ℕ). Reads links1 0 (last1 - o.state) w) (reverse-reverse v.0)
        ((back_from last1 links1 up1 (reverse v.0) o.state (omega (arith, inside'))).0 o.reads) in
        let e = reached_once Stands Satisfies last links up At seen last1 links1 forth v.0 0 (last1 - s) (last1 - o.state)
        (omega (arith, inside, low)) (omega (arith, inside', low')) v.1 v' in
        let same : o.state ≡ s = omega (arith, e, inside, inside') in
        subst (λ (t : ℕ). At2 k t) same o.at

    before_iff : (w : List ℕ) (a : ℕ) → a ≤ last2 → Reads links2 (last2 - a) last2 w ↔ Reads (reversed last2 links2) 0 a (reverse w)
    before_iff w a la =
        let i = back_iff last2 links2 up2 w (last2 - a) last2 (omega arith) (omega arith) in
        let start : last2 - last2 ≡ 0 = omega arith in
        let end : last2 - (last2 - a) ≡ a = omega arith in (
          λ h. subst (λ (s : ℕ). Reads (reversed last2 links2) s a (reverse w)) start
              (subst (λ (t : ℕ). Reads (reversed last2 links2) (last2 - last2) t (reverse w)) end (i.0 h)),
          λ h. i.1 (subst (λ (s : ℕ). Reads (reversed last2 links2) s (last2 - (last2 - a)) (reverse w)) (sym start)
              (subst (λ (t : ℕ). Reads (reversed last2 links2) 0 t (reverse w)) (sym end) h)),
        )

    before_apart3 : (a b : ℕ) → a < last2 → b < last2 →
        ((v : List ℕ) → Reads (reversed last2 links2) 0 a v ↔ Reads (reversed last2 links2) 0 b v) → a ≡ b
    before_apart3 zero b la lb same = (same []).0 refl
    before_apart3 (suc a) zero la lb same = sym ((same []).1 refl)
    before_apart3 (suc a) (suc b) la lb same =
        let i = λ (w : List ℕ). before_iff w (suc a) (omega (arith, la)) in
        let j = λ (w : List ℕ). before_iff w (suc b) (omega (arith, lb)) in
        let e = distinct2 (last2 - suc a) (last2 - suc b) (omega (arith, la)) (omega (arith, lb)) (λ s. (
          carried (last2 - suc a) (last2 - suc b) (omega (arith, la)) (omega (arith, la)) (omega (arith, lb)) (omega (arith, lb))
              (λ w h. (j w).1 ((same (reverse w)).0 ((i w).0 h))) s,
          carried (last2 - suc b) (last2 - suc a) (omega (arith, lb)) (omega (arith, lb)) (omega (arith, la)) (omega (arith, la))
              (λ w h. (i w).1 ((same (reverse w)).1 ((j w).0 h))) s,
        )) in
        omega (arith, e, la, lb)

    -- two passes leave what is to be left
    pub is_left : IsLeft Satisfies last links last2 (reversed last2 links2)
    is_left = record {
      some = some2;
      exact = λ w. (
        λ h. let e = (exact3 w).0 ((spells_iff (reversed last2 links2) w 0 last2).0 h) in ((spells_iff links w 0 last).1 e.0, e.1),
        λ h. (spells_iff (reversed last2 links2) w 0 last2).1 ((exact3 w).1 ((spells_iff links w 0 last).0 h.0, h.1)),
      );
      once = λ p q h k e. once3 p q 0 h k e;
      apart = λ a b la lb same. apart3 a b la lb (λ v. (
        λ h. (spells_iff (reversed last2 links2) v b last2).0 ((same v).0 ((spells_iff (reversed last2 links2) v a last2).1 h)),
        λ h. (spells_iff (reversed last2 links2) v a last2).0 ((same v).1 ((spells_iff (reversed last2 links2) v b last2).1 h)),
      ));
      apart_before = λ a b la lb same. before_apart3 a b la lb (λ v. (
        λ h. (spells_iff (reversed last2 links2) v 0 b).0 ((same v).0 ((spells_iff (reversed last2 links2) v 0 a).1 h)),
        λ h. (spells_iff (reversed last2 links2) v 0 a).0 ((same v).1 ((spells_iff (reversed last2 links2) v 0 b).1 h)),
      ));
      on_path = λ a le. let u = before3 a le in let w = after3 a le in
          (u.0, w.0, (spells_iff (reversed last2 links2) u.0 0 a).1 u.1, (spells_iff (reversed last2 links2) w.0 a last2).1 w.1);
      ascending = up3;
    }
