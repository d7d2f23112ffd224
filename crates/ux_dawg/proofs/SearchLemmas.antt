-- The marks of an index lead through all items of a bucket, from the newest down.
use Rattle.std.proofs.Common.{arith, ◌≡◌, ◌≢◌, inl, inr, ℕ, suc, ◌<◌, ◌≤◌, ◌∙◌, List, sym, ap, length, get_or}
use Rattle.std.proofs.lemmas.Bool.{cases_lt}
use Rattle.std.proofs.lemmas.List.{get_or_default}
use Rattle.ux_dawg.specs.declared.state.State.{State}
use Rattle.ux_dawg.specs.declared.index.Link.{Link}
use Rattle.ux_dawg.specs.Hash.{hash_of}
use Rattle.ux_dawg.specs.Indexed.{bucket_at, bucket_in, hashes_of, newest_of, olders_of, state_at, AreMarks, IsSearched}
use Rattle.ux_dawg.proofs.NewestLemmas.{newest-gap, newest-inside, newest-le}

module _ (newest : List ℕ) (links : List Link) (hash : ℕ) where
  abbrev many : ℕ
  many = length newest

  abbrev known : List ℕ
  known = hashes_of links

  abbrev bucket : ℕ
  bucket = bucket_in many hash

  module _ (states : List State) (n : ℕ) (are : AreMarks n newest links)
      (hashes : (i : ℕ) → i < n → get_or (hashes_of links) i 0 ≡ hash_of (state_at states links i))
      (state : State) (is : hash ≡ hash_of state) where
    -- a state of another hash is another one
    pub other_hash : (i : ℕ) → i < n → get_or (hashes_of links) i 0 ≢ hash →
        state_at states links i ≢ state
    other_hash i below differ same = differ (hashes i below ∙ ap hash_of same ∙ sym is)

    -- and so is one in another bucket
    apart : (i : ℕ) → i < n → bucket_at many known i ≢ bucket → state_at states links i ≢ state
    apart i below differ = other_hash i below (λ same. differ (ap (bucket_in many) same))

    -- at first no item was looked at
    pub searched_first : (place mark : ℕ) → place ≡ bucket_in (length newest) hash →
        place < length newest → mark ≡ get_or newest place mark →
        IsSearched (length newest) links states n (bucket_in (length newest) hash)
        state mark
    searched_first place mark own inside read =
        let head = read ∙ get_or_default newest place mark 0 inside ∙ are.heads place inside
        ∙ ap (λ b. newest_of many known b n) own in
        let low = newest-le many known bucket n in
        record {
          most = omega (arith, head, low);
          inside = λ item e. newest-inside many known bucket n item (sym head ∙ e);
          nowhere = λ i from below.
              apart i below (newest-gap many known bucket n i (omega (arith, head, from)) below);
        }

    -- an item's mark leads to an older one
    pub link-le : (item next : ℕ) → item < n → next ≡ get_or (olders_of links) item 0 →
        next ≤ item
    link-le item next within read =
        let link = are.olders item within in
        let low = newest-le many known (bucket_at many known item) item in
        omega (arith, read, link, low)

    -- and then one more, which is another one
    pub searched_next : (mark item next : ℕ) →
        IsSearched (length newest) links states n (bucket_in (length newest) hash)
        state mark → mark ≡ suc item → state_at states links item ≢ state →
        next ≡ get_or (olders_of links) item 0 →
        IsSearched (length newest) links states n (bucket_in (length newest) hash)
        state next
    searched_next mark item next so_far at differ read =
        let most = so_far.most in
        let within : item < n = omega (arith, most, at) in
        let head : next ≡ newest_of many known bucket item =
        read ∙ are.olders item within
        ∙ ap (λ b. newest_of many known b item) (so_far.inside item at) in
        let low = newest-le many known bucket item in
        record {
          most = omega (arith, head, low, within);
          inside = λ k e. newest-inside many known bucket item k (sym head ∙ e);
          nowhere = λ i from below. elim (cases_lt i item) [
            | inl less ↦ apart i below (newest-gap many known bucket item i
                (omega (arith, head, from)) less)
            | inr past ↦ elim (cases_lt item i) [
              | inl later ↦ so_far.nowhere i (omega (arith, at, later)) below
              | inr not_later ↦
                  let same : i ≡ item = omega (arith, past, not_later) in
                  λ equal. differ (ap (state_at states links) (sym same) ∙ equal)
            ]
          ];
        }
