-- The automaton read backwards spells the lists read backwards.
use Rattle.std.proofs.Common.{arith, ◌≡◌, ℕ, ◌-◌, ◌<◌, ◌≤◌, ◌↔◌, List, [], ◌∷◌, refl, sym, ap, subst, ◌∙◌, reverse}
use Rattle.std.specs.Prelude.{Contains}
use Rattle.std.proofs.lemmas.List.{reverse-append, reverse-reverse}
use Rattle.ux_subsets.specs.declared.automaton.Link.{Link}
use Rattle.ux_subsets.specs.Paths.{link, IsAscending, back, reversed}
use Rattle.ux_subsets.proofs.ElementsLemmas.{contains_map, contained_map}
use Rattle.ux_subsets.proofs.SpellingLemmas.{Reads, reads_append, same_link}

module _ (last : ℕ) (links : List Link) (up : IsAscending last links) where
  pub back_up : IsAscending last (reversed last links)
  back_up = record {
    ascends = λ l h. let m = contained_map (back last) links l h in
        let lt = up.ascends m.0 m.1 in let le = up.within m.0 m.1 in
        subst (λ (k : Link). k.from < k.to) m.2 (omega (arith, lt, le));
    within = λ l h. let m = contained_map (back last) links l h in
        subst (λ (k : Link). k.to ≤ last) m.2 (omega arith);
  }

  pub reads_back : (readings : List ℕ) (a b : ℕ) → a ≤ last → Reads links a b readings →
      Reads (reversed last links) (last - b) (last - a) (reverse readings)
  reads_back [] a b le h = ap (λ (s : ℕ). last - s) (sym h)
  reads_back (r ∷ readings) a b le h =
      let within = up.within (link a h.0 r) h.1 in
      subst (λ (w : List ℕ). Reads (reversed last links) (last - b) (last - a) w) (sym (reverse-append (r ∷ []) readings)) (reads_append (reversed last links) (reverse readings) (r ∷ []) (last - b) (last - h.0) (last - a)
      (reads_back readings h.0 b within h.2) (last - a, contains_map (back last) links (link a h.0 r) h.1, refl))

pub weaker : (links links' : List Link) → ((l : Link) → Contains links l → Contains links' l) →
    (readings : List ℕ) (a b : ℕ) → Reads links a b readings → Reads links' a b readings
weaker links links' each [] a b h = h
weaker links links' each (r ∷ readings) a b h = (h.0, each (link a h.0 r) h.1, weaker links links' each readings h.0 b h.2)

module _ (last : ℕ) (links : List Link) (up : IsAscending last links) where
  twice : (l : Link) → Contains (reversed last (reversed last links)) l → Contains links l
  twice l h =
      let m = contained_map (back last) (reversed last links) l h in
      let k = contained_map (back last) links m.0 m.1 in
      let lt = up.ascends k.0 k.1 in let le = up.within k.0 k.1 in
      let from : last - (last - k.0.from) ≡ k.0.from = omega (arith, lt, le) in
      let to : last - (last - k.0.to) ≡ k.0.to = omega (arith, le) in
      let same : back last (back last k.0) ≡ k.0 = same_link (last - (last - k.0.from)) k.0.from (last - (last - k.0.to)) k.0.to k.0.reading k.0.reading from to refl in
      subst (λ (x : Link). Contains links x) (sym same ∙ (ap (back last) k.2 ∙ m.2)) k.1

  pub read_back : (readings : List ℕ) (a b : ℕ) → a ≤ last → Reads (reversed last links) a b readings →
      Reads links (last - b) (last - a) (reverse readings)
  read_back readings a b le h = weaker (reversed last (reversed last links)) links twice (reverse readings) (last - b) (last - a)
      (reads_back last (reversed last links) (back_up last links up) readings a b le h)

  -- from a to b forwards is from b to a backwards
  pub back_iff : (readings : List ℕ) (a b : ℕ) → a ≤ last → b ≤ last →
      Reads links a b readings ↔ Reads (reversed last links) (last - b) (last - a) (reverse readings)
  back_iff readings a b la lb = (
    reads_back last links up readings a b la,
    λ h. let k = read_back (reverse readings) (last - b) (last - a) (omega arith) h in
        let ea : last - (last - a) ≡ a = omega arith in
        let eb : last - (last - b) ≡ b = omega arith in
        subst (λ (s : ℕ). Reads links s b readings) ea
        (subst (λ (t : ℕ). Reads links (last - (last - a)) t readings) eb
        (subst (λ (w : List ℕ). Reads links (last - (last - a)) (last - (last - b)) w) (reverse-reverse readings) k)),
  )

  pub back_whole : (readings : List ℕ) → Reads links 0 last readings ↔ Reads (reversed last links) 0 last (reverse readings)
  back_whole readings =
      let i = back_iff readings 0 last (omega arith) (omega arith) in
      let start : last - last ≡ 0 = omega arith in
      let end : last - 0 ≡ last = omega arith in (
        λ h. subst (λ (s : ℕ). Reads (reversed last links) s last (reverse readings)) start
            (subst (λ (t : ℕ). Reads (reversed last links) (last - last) t (reverse readings)) end (i.0 h)),
        λ h. i.1 (subst (λ (s : ℕ). Reads (reversed last links) s (last - 0) (reverse readings)) (sym start)
            (subst (λ (t : ℕ). Reads (reversed last links) 0 t (reverse readings)) (sym end) h)),
      )

  -- what leads from a state to the last leads backwards from the first to it
  pub back_from : (readings : List ℕ) (a : ℕ) → a ≤ last →
      Reads (reversed last links) a last readings ↔ Reads links 0 (last - a) (reverse readings)
  back_from readings a le =
      let i = back_iff (reverse readings) 0 (last - a) (omega arith) (omega arith) in
      let start : last - (last - a) ≡ a = omega arith in
      let end : last - 0 ≡ last = omega arith in (
        λ h. i.1 (subst (λ (w : List ℕ). Reads (reversed last links) (last - (last - a)) (last - 0) w) (sym (reverse-reverse readings))
            (subst (λ (s : ℕ). Reads (reversed last links) s (last - 0) readings) (sym start)
            (subst (λ (t : ℕ). Reads (reversed last links) a t readings) (sym end) h))),
        λ h. subst (λ (s : ℕ). Reads (reversed last links) s last readings) start
            (subst (λ (t : ℕ). Reads (reversed last links) (last - (last - a)) t readings) end
            (subst (λ (w : List ℕ). Reads (reversed last links) (last - (last - a)) (last - 0) w) (reverse-reverse readings) (i.0 h))),
      )
