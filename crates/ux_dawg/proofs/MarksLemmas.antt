-- The marks of links: a link is put behind the others, and into its bucket.
use Rattle.std.proofs.Common.{arith, ◌≡◌, ◌≢◌, inl, inr, ℕ, suc, ◌+◌, ◌<◌, ◌≤◌, ◌^◌, ◌∙◌, List, [], ◌∷◌, ◌++◌, Bool, true, false, refl, sym, ap, subst, length, get_or, set, true≢false}
use Rattle.std.specs.Prelude.{nat_eq}
use Rattle.std.proofs.lemmas.Bool.{cases_lt}
use Rattle.std.proofs.lemmas.Bool.Decides.{Decides-eqb}
use Rattle.std.proofs.lemmas.List.{get_or-map, get_or-set_other, get_or-set_same, get_or_append_left, length-map, length-set, map-set, map_push, set-get_or}
use Rattle.ux_dawg.specs.declared.index.Link.{Link}
use Rattle.ux_dawg.specs.Indexed.{bucket_at, bucket_in, hashes_of, newest_of, number_at, numbers_of, olders_of, AreMarks}
use Rattle.ux_dawg.proofs.NewestLemmas.{newest-append, newest-here, newest-other}

-- what stands in a link is what the lists of marks, of hashes and of numbers have at its item
pub older_at : (links : List Link) (i : ℕ) (link : Link) → i < length links →
    link ≡ get_or links i link → link.older ≡ get_or (olders_of links) i 0
older_at links i link within read =
    ap (λ (l : Link). l.older) read
    ∙ sym (get_or-map (λ (l : Link). l.older) links i link 0 within)

pub hash_at : (links : List Link) (i : ℕ) (link : Link) → i < length links →
    link ≡ get_or links i link → link.hash ≡ get_or (hashes_of links) i 0
hash_at links i link within read =
    ap (λ (l : Link). l.hash) read
    ∙ sym (get_or-map (λ (l : Link). l.hash) links i link 0 within)

pub number_read : (links : List Link) (i : ℕ) (link : Link) → i < length links →
    link ≡ get_or links i link → link.number ≡ number_at links i
number_read links i link within read =
    ap (λ (l : Link). l.number) read
    ∙ sym (get_or-map (λ (l : Link). l.number) links i link 0 within)

-- there are as many hashes as links
pub length-hashes : (links : List Link) → length (hashes_of links) ≡ length links
length-hashes links = length-map links (λ (l : Link). l.hash)

-- and as many numbers
pub length-numbers : (links : List Link) → length (numbers_of links) ≡ length links
length-numbers links = length-map links (λ (l : Link). l.number)

-- a link is written over by one with the same hash, which changes no hash
pub hashes-link : (n : ℕ) (links : List Link) (link : Link) →
    link.hash ≡ get_or (hashes_of links) n 0 → hashes_of (set links n link) ≡ hashes_of links
hashes-link n links link kept =
    map-set (λ (l : Link). l.hash) links n link ∙ ap (set (hashes_of links) n) kept
    ∙ set-get_or (hashes_of links) n 0

-- and by one with the same number, which changes no number
pub numbers-link : (n : ℕ) (links : List Link) (link : Link) →
    link.number ≡ number_at links n → numbers_of (set links n link) ≡ numbers_of links
numbers-link n links link kept =
    map-set (λ (l : Link). l.number) links n link ∙ ap (set (numbers_of links) n) kept
    ∙ set-get_or (numbers_of links) n 0

module _ (newest : List ℕ) (links : List Link) where
  abbrev many : ℕ
  many = length newest

  abbrev known : List ℕ
  known = hashes_of links

  -- a link behind those that are marked changes nothing
  module _ (n : ℕ) (are : AreMarks n newest links) (link : Link) (within : n ≤ length links)
      (few : length (links ++ link ∷ []) < 2 ^ 32) where
    abbrev pushed : List ℕ
    pushed = hashes_of (links ++ link ∷ [])

    hashes_pushed : pushed ≡ known ++ link.hash ∷ []
    hashes_pushed = map_push (λ (l : Link). l.hash) links link

    olders_pushed : olders_of (links ++ link ∷ []) ≡ olders_of links ++ link.older ∷ []
    olders_pushed = map_push (λ (l : Link). l.older) links link

    newest_pushed : (bucket i : ℕ) → i ≤ n →
        newest_of many pushed bucket i ≡ newest_of many known bucket i
    newest_pushed bucket i below =
        let long = length-hashes links in
        ap (λ h. newest_of many h bucket i) hashes_pushed
        ∙ newest-append many known bucket (link.hash ∷ []) i (omega (arith, long, below, within))

    bucket_pushed : (i : ℕ) → i < n → bucket_at many pushed i ≡ bucket_at many known i
    bucket_pushed i below =
        let long = length-hashes links in
        ap (λ h. bucket_at many h i) hashes_pushed
        ∙ ap (bucket_in many)
        (get_or_append_left known (link.hash ∷ []) 0 i (omega (arith, long, below, within)))

    pub marks-push : AreMarks n newest (links ++ link ∷ [])
    marks-push = record {
      heads = λ b below. are.heads b below ∙ sym (newest_pushed b n (omega arith));
      olders = λ i below.
          let long = length-map links (λ (l : Link). l.older) in
          ap (λ o. get_or o i 0) olders_pushed
          ∙ get_or_append_left (olders_of links) (link.older ∷ []) 0 i
          (omega (arith, long, below, within))
          ∙ are.olders i below
          ∙ sym (newest_pushed (bucket_at many pushed i) i (omega (arith, below))
          ∙ ap (λ b. newest_of many known b i) (bucket_pushed i below));
      few = few;
    }

  -- the next link is put into its bucket
  module _ (n : ℕ) (are : AreMarks n newest links) (within : n < length links) (bucket : ℕ)
      (inside : bucket < length newest) (link : Link)
      (kept : link.hash ≡ get_or (hashes_of links) n 0)
      (own : bucket ≡ bucket_in (length newest) link.hash)
      (older : link.older ≡ get_or newest bucket 0) where
    abbrev heads : List ℕ
    heads = set newest bucket (n + 1)

    abbrev linked : List Link
    linked = set links n link

    in_bucket : bucket ≡ bucket_at many known n
    in_bucket = own ∙ ap (bucket_in many) kept

    next : suc n ≡ n + 1
    next = omega arith

    heads-link : (b : ℕ) → b < many → get_or heads b 0 ≡ newest_of many known b (suc n)
    heads-link b below = by (nat_eq b bucket) refl
      where
        by : (t : Bool) → nat_eq b bucket ≡ t →
            get_or heads b 0 ≡ newest_of many known b (suc n)
        by true is =
            let same : b ≡ bucket = (Decides-eqb b bucket).0 is in
            ap (λ k. get_or heads k 0) same ∙ get_or-set_same newest bucket (n + 1) 0 inside
            ∙ sym next ∙ sym (newest-here many known b n (sym in_bucket ∙ sym same))
        by false is =
            let differ : b ≢ bucket =
            λ same. true≢false (sym ((Decides-eqb b bucket).1 same) ∙ is) in
            get_or-set_other newest bucket b (n + 1) 0 differ ∙ are.heads b below
            ∙ sym (newest-other many known b n (λ here. differ (sym here ∙ sym in_bucket)))

    olders-link : (i : ℕ) → i < n + 1 →
        get_or (set (olders_of links) n link.older) i 0
        ≡ newest_of many known (bucket_at many known i) i
    olders-link i below = elim (cases_lt i n) [
      | inl less ↦
          get_or-set_other (olders_of links) n i link.older 0 (λ same. omega (arith, less, same))
          ∙ are.olders i less
      | inr past ↦
          let last : n ≡ i = omega (arith, below, past) in
          let long = length-map links (λ (l : Link). l.older) in
          ap (λ k. get_or (set (olders_of links) n link.older) k 0) (sym last)
          ∙ get_or-set_same (olders_of links) n link.older 0 (omega (arith, within, long))
          ∙ older ∙ are.heads bucket inside ∙ ap (λ b. newest_of many known b n) in_bucket
          ∙ ap (λ k. newest_of many known (bucket_at many known k) k) last
    ]

    -- there are as many buckets, and the same hashes
    newest-link : (bucket_then : ℕ → List ℕ → ℕ) (i : ℕ) →
        newest_of (length heads) (hashes_of linked)
        (bucket_then (length heads) (hashes_of linked)) i
        ≡ newest_of many known (bucket_then many known) i
    newest-link bucket_then i =
        ap (λ k. newest_of k (hashes_of linked) (bucket_then k (hashes_of linked)) i)
        (length-set newest bucket (n + 1))
        ∙ ap (λ h. newest_of many h (bucket_then many h) i) (hashes-link n links link kept)

    pub marks-link : AreMarks (n + 1) (set newest bucket (n + 1)) (set links n link)
    marks-link = record {
      heads = λ b below.
          heads-link b (subst (λ k. b < k) (length-set newest bucket (n + 1)) below)
          ∙ ap (newest_of many known b) next ∙ sym (newest-link (λ k h. b) (n + 1));
      olders = λ i below.
          ap (λ o. get_or o i 0) (map-set (λ (l : Link). l.older) links n link)
          ∙ olders-link i below ∙ sym (newest-link (λ k h. bucket_at k h i) i);
      few = subst (λ k. k < 2 ^ 32) (sym (length-set links n link)) are.few;
    }
