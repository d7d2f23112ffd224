-- What is left of a sentence in numbers, with its names, is left of the sentence.
use Rattle.std.proofs.Common.{arith, ◌≡◌, ℕ, ◌+◌, ◌-◌, ◌<◌, ◌≤◌, ◌↔◌, List, [], ◌∷◌, ◌++◌, inl, inr, refl, sym, ◌∙◌, ap, subst, length, get_or}
use Rattle.std.specs.Prelude.{All, AllPairs, Contains, map}
use Rattle.std.proofs.lemmas.List.{get_or-map, length-map}
use Rattle.std.proofs.lemmas.List.Elements.{Contains-append_right, Contains-get_or}
use Rattle.std.proofs.lemmas.List.Kept.{AllPairs-from_increasing}
use Rattle.ux_base.proofs.Lists.{nothing_in, contains_first, less_or}
use Rattle.ux_base.proofs.JoinedLists.{contained_mapped}
use Rattle.ux_sentence.specs.declared.sentence.Reading.{Reading}
use Rattle.ux_sentence.specs.declared.sentence.Link.{Link}
use Rattle.ux_sentence.specs.declared.sentence.Sentence.{Sentence}
use Rattle.ux_sentence.specs.Paths.{IsPath, IsReadAs, LeadsOn, Spells, last_of}
use Rattle.ux_sentence.specs.Written.{reading_text}
use Rattle.ux_subsets.specs.declared.automaton.Link as placed
use Rattle.ux_subsets.specs.Paths as numbers
use Rattle.ux_elag.specs.Left.{AreInOrder, IsBefore, IsTextBefore, Keeps, readings_of}
use Rattle.ux_elag.specs.Numbers.{AreReadings, ComesBefore, HaveTexts, reading_at, state_at, text_with}
use Rattle.ux_elag.proofs.Named.{IsNamed, named}
use Rattle.ux_elag.proofs.NamedPaths.{AreSmall, path-below, path-numbered, readings-named, spelled-below, spells-named, spells-numbered, words-alone}

-- a path along links is one along others that have them
pub path-among : (links others path : List placed.Link) (a b : ℕ) →
    ((link : placed.Link) → Contains links link → Contains others link) →
    numbers.IsPath links a b path → numbers.IsPath others a b path
path-among links others [] a b each p = p
path-among links others (link ∷ path) a b each p =
    (each link p.0, p.1, path-among links others path link.to b each p.2)

pub spells-among : (links others : List placed.Link) (a b : ℕ) (word : List ℕ) →
    ((link : placed.Link) → Contains links link → Contains others link) →
    numbers.Spells links a b word → numbers.Spells others a b word
spells-among links others a b word each s = (s.0, path-among links others s.0 a b each s.1, s.2)

-- one path behind another
pub path-append : (links path more : List placed.Link) (a b c : ℕ) →
    numbers.IsPath links a b path → numbers.IsPath links b c more →
    numbers.IsPath links a c (path ++ more)
path-append links [] more a b c p q = subst (λ (s : ℕ). numbers.IsPath links s c more) (sym p) q
path-append links (link ∷ path) more a b c p q =
    (p.0, p.1, path-append links path more link.to b c p.2 q)

readings-append : (path more : List placed.Link) →
    numbers.readings_of (path ++ more) ≡ numbers.readings_of path ++ numbers.readings_of more
readings-append [] more = refl
readings-append (link ∷ path) more = ap (λ rest. link.reading ∷ rest) (readings-append path more)

-- states that rise are told apart by their numbers
pub states-alone : (states : List ℕ) → AllPairs (λ x y. x < y) states → (a b : ℕ) →
    a < length states → b < length states → state_at states a ≡ state_at states b → a ≡ b
states-alone states rise a b la lb e =
    elim (less_or a b) [
      | inl below ↦ let less = rise a b 0 below lb in absurd (omega (arith, less, e))
      | inr at_least ↦ elim (less_or b a) [
        | inl below ↦ let less = rise b a 0 below la in absurd (omega (arith, less, e))
        | inr at_most ↦ omega arith
      ]
    ]

-- readings are told apart by their numbers
pub readings-alone : (readings : List Reading) → AreReadings readings → (r k : ℕ) →
    r < length readings → k < length readings →
    reading_at readings r ≡ reading_at readings k → r ≡ k
readings-alone readings are r k lr lk e = are.different r k lr lk (ap reading_text e)

-- what is so of all elements
pub all-of : {A : Type 0} (P : A → Type 0) (xs : List A) → ((x : A) → Contains xs x → P x) → All P xs
all-of P xs each k d lt = each (get_or xs k d) (Contains-get_or xs k d lt)

module _ (old : Sentence) (IsSo : List Reading → Type 0) (number : ℕ)
    (states : List ℕ) (readings : List Reading) (links : List placed.Link)
    (some : 0 < old.states) (are : IsNamed old states readings links)
    (IsGood : List ℕ → Type 0)
    (good : (word : List ℕ) → AreSmall (length readings) word →
    IsGood word ↔ IsSo (map (reading_at readings) word))
    (same_number : number ≡ old.number) where
  known_old : (a b : ℕ) (word : List ℕ) → numbers.Spells links a b word →
      AreSmall (length readings) word
  known_old a b word s =
      spelled-below (length readings) links a b word (λ link h. (are.within link h).reading) s

  -- the lists of the sentence in numbers are those of the sentence
  old-read : (word : List ℕ) → numbers.Spells links 0 (length states - 1) word →
      IsReadAs old (map (reading_at readings) word)
  old-read word s =
      let named_path = spells-named (state_at states) readings links 0 (length states - 1) word s in
      let from_first = subst (λ (a : ℕ). Spells (map (named (state_at states) readings) links) a
      (state_at states (length states - 1)) (map (reading_at readings) word)) are.first named_path in
      let to_last = subst (λ (b : ℕ). Spells (map (named (state_at states) readings) links) 0 b
      (map (reading_at readings) word)) are.last from_first in (
        some,
        subst (λ (ls : List Link). Spells ls 0 (last_of old) (map (reading_at readings) word))
            (sym are.links_are) to_last,
      )

  old-numbered : (list : List Reading) → IsReadAs old list →
      (word : List ℕ) × (map (reading_at readings) word ≡ list)
      × numbers.Spells links 0 (length states - 1) word
  old-numbered list h =
      let two = are.two in
      let rise : AllPairs (λ x y. x < y) states = AllPairs-from_increasing states are.states_rise in
      let here = subst (λ (ls : List Link). Spells ls 0 (last_of old) list) are.links_are h.1 in
      let to_last = subst (λ (b : ℕ). Spells (map (named (state_at states) readings) links) 0 b list)
      (sym are.last) here in
      let from_first = subst (λ (a : ℕ). Spells (map (named (state_at states) readings) links) a
      (state_at states (length states - 1)) list) (sym are.first) to_last in
      spells-numbered (state_at states) readings (length states) (states-alone states rise) links
      (λ link has. (are.within link has).from) (λ link has. (are.within link has).to)
      0 (length states - 1) list (omega arith) (omega arith) from_first

  -- without links a path is empty
  no_paths : (path other : List Link) → IsPath [] 0 0 path → IsPath [] 0 0 other → path ≡ other
  no_paths [] [] p q = refl
  no_paths [] (link ∷ other) p q = absurd (nothing_in q.0)
  no_paths (link ∷ path) other p q = absurd (nothing_in p.0)

  -- where nothing is left
  pub left-none : ((word : List ℕ) → numbers.Spells links 0 (length states - 1) word →
      IsGood word → ⊥) → Keeps IsSo old (record { number = number; states = 0; links = [] })
  left-none nothing =
      let never : (list : List Reading) → IsReadAs old list → IsSo list → ⊥ = λ list h so.
      (let w = old-numbered list h in
      nothing w.0 w.2 ((good w.0 (known_old 0 (length states - 1) w.0 w.2)).1 (subst IsSo (sym w.1) so))) in
      record {
        number = same_number;
        exact = λ list. (λ h. absurd (omega (arith, h.0)), λ h. absurd (never list h.0 h.1));
        once = λ path other p q e. no_paths path other p q;
        on_path = λ state lt. absurd (omega arith);
        apart = λ state other lt lo alike. absurd (omega arith);
        apart_before = λ state other lt lo alike. absurd (omega arith);
        formed = inl (refl, refl);
        ordered = λ i j d lt lj. absurd (omega arith);
        none = λ no. refl;
      }

  module _ (last : ℕ) (left_links : List placed.Link)
      (left : numbers.IsLeft IsGood (length states - 1) links last left_links) where
    -- the readings of what is left are known
    pub known-left : (link : placed.Link) → Contains left_links link →
        link.reading < length readings
    known-left link has =
        let up = left.ascending.ascends link has in
        let within = left.ascending.within link has in
        let before = (left.on_path link.from (omega (arith, up, within))).0 in
        let to = (left.on_path link.from (omega (arith, up, within))).2 in
        let after = (left.on_path link.to within).1 in
        let from = (left.on_path link.to within).3 in
        let path : numbers.Spells left_links 0 last (before ++ link.reading ∷ after) = (
          to.0 ++ link ∷ from.0,
          path-append left_links to.0 (link ∷ from.0) 0 link.from last to.1 (has, refl, from.1),
          (readings-append to.0 (link ∷ from.0)
              ∙ (ap (λ (front : List ℕ). front ++ link.reading ∷ numbers.readings_of from.0) to.2
              ∙ ap (λ (back : List ℕ). before ++ link.reading ∷ back) from.2)),
        ) in
        known_old 0 (length states - 1) (before ++ link.reading ∷ after)
        ((left.exact (before ++ link.reading ∷ after)).0 path).0 link.reading
        (Contains-append_right before (link.reading ∷ after) link.reading
        (contains_first link.reading after))

    below-left : (a b : ℕ) (word : List ℕ) → numbers.Spells left_links a b word →
        AreSmall (length readings) word
    below-left a b word s = spelled-below (length readings) left_links a b word known-left s

    module _ (texts : List (List ℕ)) (have : HaveTexts texts readings) (sorted : List placed.Link)
        (rising : AllPairs (ComesBefore texts) sorted)
        (same : (link : placed.Link) → Contains sorted link ↔ Contains left_links link) where
      -- the lists of what is left, with their names
      new-read : (a b : ℕ) (word : List ℕ) → numbers.Spells left_links a b word →
          Spells (map (named (λ state. state) readings) sorted) a b (map (reading_at readings) word)
      new-read a b word s = spells-named (λ state. state) readings sorted a b word
          (spells-among left_links sorted a b word (λ link h. (same link).1 h) s)

      new-path : (path : List Link) (a b : ℕ) → a ≤ last → b ≤ last →
          IsPath (map (named (λ state. state) readings) sorted) a b path →
          (way : List placed.Link) × (map (named (λ state. state) readings) way ≡ path)
          × numbers.IsPath left_links a b way
      new-path path a b la lb p =
          let found = path-numbered (λ state. state) readings (last + 1) (λ x y lx ly e. e) sorted
          (λ link h. let up = left.ascending.ascends link ((same link).0 h) in
          let within = left.ascending.within link ((same link).0 h) in omega (arith, up, within))
          (λ link h. let within = left.ascending.within link ((same link).0 h) in
          omega (arith, within))
          path a b (omega arith) (omega arith) p in
          (found.0, found.1, path-among sorted left_links found.0 a b (λ link h. (same link).0 h) found.2)

      new-numbered : (a b : ℕ) (list : List Reading) → a ≤ last → b ≤ last →
          Spells (map (named (λ state. state) readings) sorted) a b list →
          (word : List ℕ) × (map (reading_at readings) word ≡ list)
          × numbers.Spells left_links a b word
      new-numbered a b list la lb s =
          let way = new-path s.0 a b la lb s.1 in (
            numbers.readings_of way.0,
            (sym (readings-named (λ state. state) readings way.0) ∙ (ap readings_of way.1 ∙ s.2)),
            (way.0, way.2, refl),
          )

      same-word : (word other : List ℕ) → AreSmall (length readings) word →
          AreSmall (length readings) other →
          map (reading_at readings) word ≡ map (reading_at readings) other → word ≡ other
      same-word = words-alone readings (readings-alone readings are.are_readings)

      -- what follows for names follows for numbers
      numbered-alike : (a b c d : ℕ) → c ≤ last → d ≤ last → (word : List ℕ) →
          (Spells (map (named (λ state. state) readings) sorted) a b (map (reading_at readings) word) →
          Spells (map (named (λ state. state) readings) sorted) c d (map (reading_at readings) word)) →
          numbers.Spells left_links a b word → numbers.Spells left_links c d word
      numbered-alike a b c d lc ld word moves s =
          let w = new-numbered c d (map (reading_at readings) word) lc ld (moves (new-read a b word s)) in
          subst (λ (ws : List ℕ). numbers.Spells left_links c d ws)
          (same-word w.0 word (below-left c d w.0 w.2) (below-left a b word s) w.1) w.2

      -- links in the order of their texts are in order
      before-named : (link other : placed.Link) → link.reading < length readings →
          other.reading < length readings → ComesBefore texts link other →
          IsBefore (named (λ state. state) readings link) (named (λ state. state) readings other)
      before-named link other lk lo (inl from) = inl from
      before-named link other lk lo (inr (same_from, inl to)) = inr (same_from, inl to)
      before-named link other lk lo (inr (same_from, inr (same_to, inl less))) =
          inr (
            same_from,
            inr (
              same_to,
              subst (λ (t : List ℕ). IsTextBefore t
                  (reading_text (reading_at readings other.reading)))
                  (have link.reading lk)
                  (subst (λ (t : List ℕ). IsTextBefore (text_with texts link.reading) t)
                  (have other.reading lo) less),
            ),
          )
      before-named link other lk lo (inr (same_from, inr (same_to, inr tied))) =
          let alike : link.reading ≡ other.reading =
          are.are_readings.different link.reading other.reading lk lo
          (sym (have link.reading lk) ∙ (tied.0 ∙ have other.reading lo)) in
          absurd (omega (arith, alike, tied.1))

      ordered-named : AreInOrder (map (named (λ state. state) readings) sorted)
      ordered-named i j d lt lj =
          let none : placed.Link = record { from = 0; to = 0; reading = 0 } in
          let inside : j < length sorted =
          subst (λ (n : ℕ). j < n) (length-map sorted (named (λ state. state) readings)) lj in
          let first = get_or-map (named (λ state. state) readings) sorted i none d (omega arith) in
          let second = get_or-map (named (λ state. state) readings) sorted j none d inside in
          let known : (k : ℕ) → k < length sorted → (get_or sorted k none).reading < length readings =
          λ k lk. known-left (get_or sorted k none)
          ((same (get_or sorted k none)).0 (Contains-get_or sorted k none lk)) in
          subst (λ (x : Link). IsBefore x (get_or (map (named (λ state. state) readings) sorted) j d)) (sym first)
          (subst (λ (y : Link). IsBefore (named (λ state. state) readings (get_or sorted i none)) y) (sym second)
          (before-named (get_or sorted i none) (get_or sorted j none) (known i (omega arith))
          (known j inside) (rising i j none lt inside)))

      leads-named : (link : Link) → Contains (map (named (λ state. state) readings) sorted) link →
          LeadsOn (last + 1) link
      leads-named link has =
          let found = contained_mapped (named (λ state. state) readings) sorted link has in
          let up = left.ascending.ascends found.0 ((same found.0).0 found.1) in
          let within = left.ascending.within found.0 ((same found.0).0 found.1) in
          subst (LeadsOn (last + 1)) found.2 (up, omega (arith, within))

      back : last + 1 - 1 ≡ last
      back = omega arith

      exact-left : (list : List Reading) →
          Spells (map (named (λ state. state) readings) sorted) 0 last list
          ↔ (IsReadAs old list × IsSo list)
      exact-left list = (
        λ h. let w = new-numbered 0 last list (omega arith) (omega arith) h in
            let e = (left.exact w.0).0 w.2 in (
              subst (IsReadAs old) w.1 (old-read w.0 e.0),
              subst IsSo w.1 ((good w.0 (known_old 0 (length states - 1) w.0 e.0)).0 e.1),
            ),
        λ h. let w = old-numbered list h.0 in
            let is_good = (good w.0 (known_old 0 (length states - 1) w.0 w.2)).1
            (subst IsSo (sym w.1) h.1) in
            subst (λ (rs : List Reading). Spells (map (named (λ state. state) readings) sorted) 0 last rs)
            w.1 (new-read 0 last w.0 ((left.exact w.0).1 (w.2, is_good))),
      )

      once-left : (path other : List Link) →
          IsPath (map (named (λ state. state) readings) sorted) 0 last path →
          IsPath (map (named (λ state. state) readings) sorted) 0 last other →
          readings_of path ≡ readings_of other → path ≡ other
      once-left path other p q e =
          let way = new-path path 0 last (omega arith) (omega arith) p in
          let detour = new-path other 0 last (omega arith) (omega arith) q in
          let words : map (reading_at readings) (numbers.readings_of way.0)
          ≡ map (reading_at readings) (numbers.readings_of detour.0) =
          sym (readings-named (λ state. state) readings way.0) ∙ (ap readings_of way.1
          ∙ (e ∙ (sym (ap readings_of detour.1)
          ∙ readings-named (λ state. state) readings detour.0))) in
          let same_words : numbers.readings_of way.0 ≡ numbers.readings_of detour.0 =
          same-word (numbers.readings_of way.0) (numbers.readings_of detour.0)
          (path-below (length readings) left_links way.0 0 last known-left way.2)
          (path-below (length readings) left_links detour.0 0 last known-left detour.2) words in
          sym way.1 ∙ (ap (map (named (λ state. state) readings))
          (left.once way.0 detour.0 way.2 detour.2 same_words) ∙ detour.1)

      -- where something is left
      pub left-some : Keeps IsSo old (record {
        number = number;
        states = last + 1;
        links = map (named (λ state. state) readings) sorted;
      })
      left-some = record {
        number = same_number;
        exact = λ list. (
          λ h. (exact-left list).0 (subst (λ (n : ℕ).
              Spells (map (named (λ state. state) readings) sorted) 0 n list) back h.1),
          λ h. (
            omega arith,
            subst (λ (n : ℕ).
                Spells (map (named (λ state. state) readings) sorted) 0 n list) (sym back)
                ((exact-left list).1 h),
          ),
        );
        once = λ path other p q e. once-left path other
            (subst (λ (n : ℕ). IsPath (map (named (λ state. state) readings) sorted) 0 n path) back p)
            (subst (λ (n : ℕ). IsPath (map (named (λ state. state) readings) sorted) 0 n other) back q) e;
        on_path = λ state lt.
            let way = left.on_path state (omega arith) in (
              map (reading_at readings) way.0,
              map (reading_at readings) way.1,
              new-read 0 state way.0 way.2,
              subst (λ (n : ℕ). Spells (map (named (λ state. state) readings) sorted) state n
                  (map (reading_at readings) way.1)) (sym back) (new-read state last way.1 way.3),
            );
        apart = λ state other lt lo alike.
            let moved = subst (λ (n : ℕ). (rs : List Reading) →
            Spells (map (named (λ state. state) readings) sorted) state n rs
            ↔ Spells (map (named (λ state. state) readings) sorted) other n rs) back alike in
            left.apart state other (omega arith) (omega arith) (λ word. (
              numbered-alike state last other last (omega arith) (omega arith) word
                  (moved (map (reading_at readings) word)).0,
              numbered-alike other last state last (omega arith) (omega arith) word
                  (moved (map (reading_at readings) word)).1,
            ));
        apart_before = λ state other lt lo alike.
            let below : state < last = subst (λ (n : ℕ). state < n) back lt in
            let below_other : other < last = subst (λ (n : ℕ). other < n) back lo in
            left.apart_before state other below below_other (λ word. (
              numbered-alike 0 state 0 other (omega arith) (omega arith) word
                  (alike (map (reading_at readings) word)).0,
              numbered-alike 0 other 0 state (omega arith) (omega arith) word
                  (alike (map (reading_at readings) word)).1,
            ));
        formed = inr (
          (let some_left = left.some in omega arith),
          all-of (LeadsOn (last + 1)) (map (named (λ state. state) readings) sorted) leads-named,
        );
        ordered = ordered-named;
        none = λ never.
            let way = left.on_path 0 (omega arith) in
            let read_so = (exact-left (map (reading_at readings) way.1)).0 (new-read 0 last way.1 way.3) in
            absurd (never (map (reading_at readings) way.1) read_so.0 read_so.1);
      }
