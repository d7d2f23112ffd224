-- The links that are collected from a token are those of the sentence that begin there, and none of
-- them tie.
use Rattle.std.proofs.Common.{arith, ◌≡◌, ◌⊎◌, ℕ, ◌+◌, ◌<◌, ◌≤◌, true, List, [], ◌∷◌, ◌++◌, length, get_or, refl, sym, ◌∙◌, ap, subst, inl, inr}
use Rattle.std.specs.Prelude.{Option, Some, All, AllPairs, Contains, IsSomeAnd, slice_get}
use Rattle.std.specs.declared.cmp.Ordering.TheVariants.{Equal}
use Rattle.std.proofs.lemmas.Bool.{cases_lt}
use Rattle.std.proofs.lemmas.List.Elements.{All-contains, All-contains_itself, All-weaker, Contains-append_cases, Contains-append_left, Contains-append_right}
use Rattle.std.proofs.lemmas.Option.{same_Some, slice_get_within}
use Rattle.ux_alphabet.specs.Letters.{Letters}
use Rattle.ux_dela.specs.Sound.{IsSound}
use Rattle.ux_dela.specs.declared.entry.Entry.{Entry}
use Rattle.ux_base.proofs.FirstsLemmas.{Contains-none}
use Rattle.ux_base.proofs.JoinedLists.{contained_mapped, contains_mapped}
use Rattle.ux_base.proofs.OrderedLists.{Contains-cons_cases}
use Rattle.ux_tokens.specs.declared.kind.Kind.{Kind}
use Rattle.ux_tokens.specs.declared.kind.Kind.TheVariants as kind
use Rattle.ux_tokens.specs.Tokens.{Token}
use Rattle.ux_lexical_tables.specs.Belonging.{Belongs, MayHaveSimple}
use Rattle.ux_lexical_tables.specs.Belonging as belonging
use Rattle.ux_lexical_tables.specs.Spans.{IsSpan, MayBound, MayStand}
use Rattle.ux_lexical_tables.specs.Tables.{Tables, IsSimpleForm}
use Rattle.ux_lexical_tables.proofs.EqualRowLemmas.{one_tag}
use Rattle.ux_lexical_tables.proofs.LetterLemmas.{simple_settled}
use Rattle.ux_sentence.specs.declared.sentence.Reading.{Reading}
use Rattle.ux_sentence.specs.declared.sentence.Reading.TheVariants.{Word, Raw}
use Rattle.ux_sentence.specs.declared.sentence.Link.{Link}
use Rattle.ux_text_automaton.specs.declared.run.Run.{Run}
use Rattle.ux_text_automaton.specs.Built.{HasSimple, IsLinkAt, MayBeRaw, StandsOn}
use Rattle.ux_text_automaton.specs.Candidates.{LieWithin, own_links, raw_link, raw_links, span_links, word_link}
use Rattle.ux_text_automaton.specs.Order.{link_cmp}
use Rattle.ux_text_automaton.specs.Runs.{EndsSentence, IsEndAt, IsNoSpaceAt, IsRun, is_no_space, state_at}
use Rattle.ux_text_automaton.proofs.KindLemmas.{on_token, the_token, token_at, within}
use Rattle.ux_text_automaton.proofs.OrderLemmas.{pairs_append, pairs_mapped, tied}
use Rattle.ux_text_automaton.proofs.PrintedLemmas.{braced_once}
use Rattle.ux_text_automaton.proofs.StateLemmas.{same_place}

-- KINDS

bound_counts : (k : Kind) → MayBound k → is_no_space k ≡ true
bound_counts kind.Word may = refl
bound_counts kind.Space may = absurd may
bound_counts kind.Other may = refl
bound_counts kind.Sentence may = absurd may
bound_counts kind.Stop may = absurd may
bound_counts kind.Tag may = absurd may

raw_counts : (k : Kind) → MayBeRaw k → is_no_space k ≡ true
raw_counts kind.Word may = refl
raw_counts kind.Space may = absurd may
raw_counts kind.Other may = refl
raw_counts kind.Sentence may = absurd may
raw_counts kind.Stop may = absurd may
raw_counts kind.Tag may = absurd may

simple_counts : (k : Kind) → MayHaveSimple k → is_no_space k ≡ true
simple_counts kind.Word may = refl
simple_counts kind.Space may = absurd may
simple_counts kind.Other may = absurd may
simple_counts kind.Sentence may = absurd may
simple_counts kind.Stop may = absurd may
simple_counts kind.Tag may = refl

no_end_stands : (k : Kind) → MayStand k → EndsSentence k → ⊥
no_end_stands kind.Word may ends = ends
no_end_stands kind.Space may ends = ends
no_end_stands kind.Other may ends = ends
no_end_stands kind.Sentence may ends = may
no_end_stands kind.Stop may ends = may
no_end_stands kind.Tag may ends = ends

module _ (alphabet : Letters) (tokens : List Token) (tables : Tables)
    (belongs : Belongs alphabet tokens tables) where
  -- SPANS

  counts_at : (P : Kind → Type 0) → ((k : Kind) → P k → is_no_space k ≡ true) → (place : ℕ) →
      IsSomeAnd (slice_get tokens place) (λ token. P token.kind) → IsNoSpaceAt tokens place
  counts_at P means place holds =
      let found = the_token (λ token. P token.kind) (slice_get tokens place) holds in
      on_token (λ token. is_no_space token.kind ≡ true) (slice_get tokens place) found.0 found.1
      (means found.0.kind found.2)

  tag_counts : (k : Kind) → k ≡ kind.Tag → is_no_space k ≡ true
  tag_counts k is = ap is_no_space is

  -- the tokens that bound a compound entry aren't spaces, and are in order
  bounds : (first last : ℕ) → belonging.StandsOn tokens first last →
      (first ≤ last) × IsNoSpaceAt tokens first × IsNoSpaceAt tokens last
  bounds first last (inl (longer, span)) = (
    span.in_order,
    counts_at MayBound bound_counts first span.begins,
    counts_at MayBound bound_counts last span.ends,
  )
  bounds first last (inr (same, (token, at, is))) =
      let here = on_token (λ token. is_no_space token.kind ≡ true) (slice_get tokens first) token at
      (tag_counts token.kind is) in
      (omega (arith, same), here, subst (IsNoSpaceAt tokens) (sym same) here)

  nothing_simple : (k : Kind) (row : List Entry) (entry : Entry) → MayHaveSimple k ⊎ (row ≡ []) →
      Contains row entry → is_no_space k ≡ true
  nothing_simple k row entry (inl may) member = simple_counts k may
  nothing_simple k row entry (inr none) member =
      absurd (Contains-none entry (subst (λ (l : List Entry). Contains l entry) none member))

  simple_at : (place : ℕ) (entry : Entry) → HasSimple tokens tables place entry →
      IsNoSpaceAt tokens place
  simple_at place entry has =
      let lt : place < length tokens = omega (
        arith,
        slice_get_within tables.simple place has.row has.entries,
        belongs.simple_rows,
      ) in
      let found = token_at tokens place lt in
      on_token (λ token. is_no_space token.kind ≡ true) (slice_get tokens place) found.0 found.1
      (nothing_simple found.0.kind has.row entry
      (belongs.words place found.0 has.row found.1 has.entries) has.member)

  alone : (first last : ℕ) → last ≡ first → IsNoSpaceAt tokens first →
      (first ≤ last) × IsNoSpaceAt tokens first × IsNoSpaceAt tokens last
  alone first last same here =
      (omega (arith, same), here, subst (IsNoSpaceAt tokens) (sym same) here)

  -- a reading stands on tokens in order, of which the first and the last aren't spaces
  pub stands_on : (first last : ℕ) (reading : Reading) → StandsOn tokens tables first last reading →
      (first ≤ last) × IsNoSpaceAt tokens first × IsNoSpaceAt tokens last
  stands_on first last (Word entry) (inl (same, has)) =
      alone first last same (simple_at first entry has)
  stands_on first last (Word entry) (inr has) =
      bounds first last (belongs.spans first last entry has.row has.entries has.member)
  stands_on first last (Raw text) (same, unread) =
      alone first last same
      (on_token (λ token. is_no_space token.kind ≡ true) (slice_get tokens first) unread.token
      unread.stands (raw_counts unread.token.kind unread.kind))

  -- THE LINKS FROM A PLACE

  module _ (run : Run) (is_run : IsRun tokens run) where
    not_over : (first last : ℕ) → run.first ≤ first → first < run.end → IsSpan tokens first last →
        run.end ≤ last → (run.end ≡ length tokens) ⊎ IsEndAt tokens run.end → ⊥
    not_over first last from to span over (inl whole) =
        absurd (omega (arith, whole, over, within _ tokens last span.ends))
    not_over first last from to span over (inr mark) =
        let found = the_token (λ token. EndsSentence token.kind) (slice_get tokens run.end) mark in
        let stand = subst (λ (o : Option Token). IsSomeAnd o (λ token. MayStand token.kind)) found.1
        (span.inside run.end (omega (arith, to)) over) in
        no_end_stands found.0.kind stand found.2

    within_run : (first last : ℕ) → run.first ≤ first → first < run.end →
        belonging.StandsOn tokens first last → (first ≤ last) × (last < run.end)
    within_run first last from to (inl (longer, span)) = elim (cases_lt last run.end) [
      | inl lt ↦ (span.in_order, lt)
      | inr over ↦ absurd (not_over first last from to span over is_run.ends)
    ]
    within_run first last from to (inr (same, _)) = (omega (arith, same), omega (arith, same, to))

    -- the spans of a row lie in the run
    pub lie_within : (place : ℕ) → run.first ≤ place → place < run.end → (row : List (ℕ × Entry)) →
        slice_get tables.compounds place ≡ Some row → LieWithin place run.end row
    lie_within place from to row at =
        All-weaker (Contains row) (λ (member : ℕ × Entry). (place ≤ member.0) × (member.0 < run.end))
        (λ (member : ℕ × Entry) has. within_run place member.0 from to
        (belongs.spans place member.0 member.1 row at has)) row (All-contains_itself row)

    module _ (place : ℕ) (from : run.first ≤ place) (to : place < run.end) where
      abbrev start : ℕ
      start = state_at tokens run.first place

      abbrev next : ℕ
      next = state_at tokens run.first (place + 1)

      abbrev Found : Link → Type 0
      Found link = (last : ℕ) × IsLinkAt tokens tables run place last link

      module _ (token : Token) (simple : List Entry) (row : List (ℕ × Entry))
          (stands : slice_get tokens place ≡ Some token)
          (simple_row : slice_get tables.simple place ≡ Some simple)
          (compound_row : slice_get tables.compounds place ≡ Some row) where
        raw_found : MayBeRaw token.kind → simple ≡ [] → (link : Link) →
            raw_link start next token.text ≡ link → Found link
        raw_found may none link same =
            subst (λ (l : Link). (last : ℕ) × IsLinkAt tokens tables run place last l) same (
              place,
              record {
                begins = from;
                ends = to;
                stands = (
                  refl,
                  record {
                    token = token;
                    stands = stands;
                    kind = may;
                    none = simple_row ∙ ap Some none;
                    text_is = refl;
                  },
                );
                from = refl;
                to = refl;
              },
            )

        raws_found : (k : Kind) → token.kind ≡ k → simple ≡ [] → (link : Link) →
            Contains (raw_links start next k token.text) link → Found link
        raws_found kind.Word is none link member = only (Contains-cons_cases _ link [] member)
          where
            only : (raw_link start next token.text ≡ link) ⊎ Contains [] link → Found link
            only (inl same) = raw_found (subst MayBeRaw (sym is) tt) none link same
            only (inr nothing) = absurd (Contains-none link nothing)
        raws_found kind.Space is none link member = absurd (Contains-none link member)
        raws_found kind.Other is none link member = only (Contains-cons_cases _ link [] member)
          where
            only : (raw_link start next token.text ≡ link) ⊎ Contains [] link → Found link
            only (inl same) = raw_found (subst MayBeRaw (sym is) tt) none link same
            only (inr nothing) = absurd (Contains-none link nothing)
        raws_found kind.Sentence is none link member = absurd (Contains-none link member)
        raws_found kind.Stop is none link member = absurd (Contains-none link member)
        raws_found kind.Tag is none link member = absurd (Contains-none link member)

        word_found : (entry : Entry) → Contains simple entry → (link : Link) →
            word_link start next entry ≡ link → Found link
        word_found entry member link same =
            subst (λ (l : Link). (last : ℕ) × IsLinkAt tokens tables run place last l) same (
              place,
              record {
                begins = from;
                ends = to;
                stands = inl (refl, record { row = simple; entries = simple_row; member = member });
                from = refl;
                to = refl;
              },
            )

        own_found : (l : List Entry) → simple ≡ l → (link : Link) →
            Contains (own_links start next token.kind token.text l) link → Found link
        own_found [] none link member = raws_found token.kind refl none link member
        own_found (entry ∷ entries) is link member =
            let found = contained_mapped (word_link start next) (entry ∷ entries) link member in
            word_found found.0 (subst (λ (l : List Entry). Contains l found.0) (sym is) found.1) link
            found.2

        row_inside : (member : ℕ × Entry) → Contains row member →
            (place ≤ member.0) × (member.0 < run.end)
        row_inside member has =
            All-contains (λ (member : ℕ × Entry). (place ≤ member.0) × (member.0 < run.end)) row
            member (lie_within place from to row compound_row) has

        span_found : (link : Link) → Contains (span_links tokens run.first start row) link →
            Found link
        span_found link member =
            let found = contained_mapped
            (λ (member : ℕ × Entry). word_link start (state_at tokens run.first (member.0 + 1)) member.1)
            row link member in
            subst (λ (l : Link). (last : ℕ) × IsLinkAt tokens tables run place last l) found.2 (
              found.0.0,
              record {
                begins = from;
                ends = (row_inside found.0 found.1).1;
                stands = inr (record { row = row; entries = compound_row; member = found.1 });
                from = refl;
                to = refl;
              },
            )

        abbrev all : List Link
        all = own_links start next token.kind token.text simple ++ span_links tokens run.first start row

        -- what is collected is found there
        pub collected : (link : Link) → Contains all link → Found link
        collected link member = elim (Contains-append_cases
            (own_links start next token.kind token.text simple) (span_links tokens run.first start row)
            link member) [
              | inl own ↦ own_found simple refl link own
              | inr span ↦ span_found link span
            ]

        own_listed : (l : List Entry) (entry : Entry) → Contains l entry →
            Contains (own_links start next token.kind token.text l) (word_link start next entry)
        own_listed [] entry member = absurd (Contains-none entry member)
        own_listed (first ∷ entries) entry member =
            contains_mapped (word_link start next) (first ∷ entries) entry member

        raw_listed : (k : Kind) (text : List ℕ) → MayBeRaw k →
            Contains (raw_links start next k text) (raw_link start next text)
        raw_listed kind.Word text may = (0, omega arith, refl)
        raw_listed kind.Space text may = absurd may
        raw_listed kind.Other text may = (0, omega arith, refl)
        raw_listed kind.Sentence text may = absurd may
        raw_listed kind.Stop text may = absurd may
        raw_listed kind.Tag text may = absurd may

        abbrev own : List Link
        own = own_links start next token.kind token.text simple

        abbrev spans : List Link
        spans = span_links tokens run.first start row

        link_listed : (f t last : ℕ) (reading : Reading) → start ≡ f →
            state_at tokens run.first (last + 1) ≡ t → StandsOn tokens tables place last reading →
            Contains all (record { from = f; to = t; reading = reading })
        link_listed f t last (Word entry) is_from is_to (inl (same, has)) =
            let member = subst (λ (l : List Entry). Contains l entry)
            (same_Some has.row simple (sym has.entries ∙ simple_row)) has.member in
            let to_is : next ≡ t =
            ap (λ (n : ℕ). state_at tokens run.first (n + 1)) (sym same) ∙ is_to in
            let link_is : word_link start next entry
            ≡ record { from = f; to = t; reading = Word entry } =
            λ i. record { from = is_from i; to = to_is i; reading = Word entry } in
            subst (Contains all) link_is
            (Contains-append_left own spans (word_link start next entry)
            (own_listed simple entry member))
        link_listed f t last (Word entry) is_from is_to (inr has) =
            let member = subst (λ (l : List (ℕ × Entry)). Contains l (last, entry))
            (same_Some has.row row (sym has.entries ∙ compound_row)) has.member in
            let to = state_at tokens run.first (last + 1) in
            let link_is : word_link start to entry
            ≡ record { from = f; to = t; reading = Word entry } =
            λ i. record { from = is_from i; to = is_to i; reading = Word entry } in
            subst (Contains all) link_is
            (Contains-append_right own spans (word_link start to entry)
            (contains_mapped
            (λ (member : ℕ × Entry). word_link start (state_at tokens run.first (member.0 + 1)) member.1)
            row (last, entry) member))
        link_listed f t last (Raw text) is_from is_to (same, unread) =
            let none : simple ≡ [] = same_Some simple [] (sym simple_row ∙ unread.none) in
            let token_is : unread.token ≡ token =
            same_Some unread.token token (sym unread.stands ∙ stands) in
            let may = subst (λ (t : Token). MayBeRaw t.kind) token_is unread.kind in
            let text_is : token.text ≡ text =
            sym (unread.text_is ∙ ap (λ (t : Token). t.text) token_is) in
            let to_is : next ≡ t =
            ap (λ (n : ℕ). state_at tokens run.first (n + 1)) (sym same) ∙ is_to in
            let link_is : raw_link start next token.text
            ≡ record { from = f; to = t; reading = Raw text } =
            λ i. record { from = is_from i; to = to_is i; reading = Raw (text_is i) } in
            subst (Contains all) link_is
            (Contains-append_left own spans (raw_link start next token.text)
            (subst (λ (l : List Entry). Contains (own_links start next token.kind token.text l)
            (raw_link start next token.text)) (sym none) (raw_listed token.kind token.text may)))

        -- and what stands there is collected
        pub listed : (link : Link) → Found link → Contains all link
        listed link found =
            link_listed link.from link.to found.0 link.reading (sym found.1.from) (sym found.1.to)
            found.1.stands

        -- NONE TIE

        abbrev Apart : Link → Link → Type 0
        Apart a b = link_cmp a b ≡ Equal → ⊥

        entries_apart : (f t : ℕ) (a b : Entry) → IsSound a → IsSound b → (a ≡ b → ⊥) →
            Apart (word_link f t a) (word_link f t b)
        entries_apart f t a b sound sound' differ tie =
            differ (braced_once a b sound sound' (tied (word_link f t a) (word_link f t b) tie).1)

        own_apart : (l : List Entry) → All IsSound l → AllPairs (λ a b. a ≡ b → ⊥) l →
            AllPairs Apart (own_links start next token.kind token.text l)
        own_apart [] sound differ = raw_apart token.kind
          where
            raw_apart : (k : Kind) → AllPairs Apart (raw_links start next k token.text)
            raw_apart kind.Word = λ i j d before within. absurd (omega (arith, before, within))
            raw_apart kind.Space = λ i j d before within. absurd (omega (arith, before, within))
            raw_apart kind.Other = λ i j d before within. absurd (omega (arith, before, within))
            raw_apart kind.Sentence = λ i j d before within. absurd (omega (arith, before, within))
            raw_apart kind.Stop = λ i j d before within. absurd (omega (arith, before, within))
            raw_apart kind.Tag = λ i j d before within. absurd (omega (arith, before, within))
        own_apart (entry ∷ entries) sound differ =
            pairs_mapped (λ a b. a ≡ b → ⊥) Apart (word_link start next) IsSound
            (λ a b one other apart. entries_apart start next a b one other apart) (entry ∷ entries)
            sound differ

        abbrev IsMember : ℕ × Entry → Type 0
        IsMember member = IsSound member.1 × belonging.StandsOn tokens place member.0

        abbrev span_link : ℕ × Entry → Link
        span_link member = word_link start (state_at tokens run.first (member.0 + 1)) member.1

        same_last : (a b : ℕ) → belonging.StandsOn tokens place a → belonging.StandsOn tokens place b →
            state_at tokens run.first (a + 1) ≡ state_at tokens run.first (b + 1) → a ≡ b
        same_last a b on also same =
            let here = bounds place a on in
            let there = bounds place b also in
            same_place tokens run.first a b (omega (arith, from, here.0)) (omega (arith, from, there.0))
            here.2 there.2 same

        members_apart : (a b : ℕ × Entry) → IsMember a → IsMember b → (a ≡ b → ⊥) →
            Apart (span_link a) (span_link b)
        members_apart a b (sound, on) (sound', also) differ tie =
            let parts = tied (span_link a) (span_link b) tie in
            let lasts = same_last a.0 b.0 on also parts.0 in
            let entries = braced_once a.1 b.1 sound sound' parts.1 in
            differ (λ i. (lasts i, entries i))

        spans_apart : AllPairs Apart spans
        spans_apart =
            pairs_mapped (λ (a b : ℕ × Entry). a ≡ b → ⊥) Apart span_link IsMember members_apart row
            (λ k d lt. (
              belongs.sound_compounds place row compound_row k d lt,
              belongs.spans place (get_or row k d).0 (get_or row k d).1 row compound_row
                  (All-contains_itself row k d lt),
            )) (belongs.once_compounds place row compound_row)

        own_next : (l : List Entry) (link : Link) →
            Contains (own_links start next token.kind token.text l) link → link.to ≡ next
        own_next [] link member = raw_next token.kind member
          where
            raw_next : (k : Kind) → Contains (raw_links start next k token.text) link → link.to ≡ next
            raw_next kind.Word has = only (Contains-cons_cases _ link [] has)
              where
                only : (raw_link start next token.text ≡ link) ⊎ Contains [] link → link.to ≡ next
                only (inl same) = sym (ap (λ (l : Link). l.to) same)
                only (inr nothing) = absurd (Contains-none link nothing)
            raw_next kind.Space has = absurd (Contains-none link has)
            raw_next kind.Other has = only (Contains-cons_cases _ link [] has)
              where
                only : (raw_link start next token.text ≡ link) ⊎ Contains [] link → link.to ≡ next
                only (inl same) = sym (ap (λ (l : Link). l.to) same)
                only (inr nothing) = absurd (Contains-none link nothing)
            raw_next kind.Sentence has = absurd (Contains-none link has)
            raw_next kind.Stop has = absurd (Contains-none link has)
            raw_next kind.Tag has = absurd (Contains-none link has)
        own_next (entry ∷ entries) link member =
            let found = contained_mapped (word_link start next) (entry ∷ entries) link member in
            sym (ap (λ (l : Link). l.to) found.2)

        no_raw_tag : (k : Kind) → k ≡ kind.Tag → (l : List Entry) → l ≡ [] → (link : Link) →
            Contains (own_links start next k token.text l) link → ⊥
        no_raw_tag k is l none link member =
            let only = subst (λ (k : Kind). Contains (own_links start next k token.text []) link) is
            (subst (λ (l : List Entry). Contains (own_links start next k token.text l) link) none
            member) in
            Contains-none link only

        tag_apart : token.kind ≡ kind.Tag → (link : Link) → Contains own link →
            (member : ℕ × Entry) → Contains row member → ⊥
        tag_apart is link has member has' =
            let one = belongs.own_simple place token simple stands is simple_row in
            let other = belongs.own_compound place token row stands is compound_row in
            let same = one_tag token.text other.entry one.entry other.tag one.tag in
            elim (simple_settled alphabet other.entry) [
              | inl letters ↦ Contains-none member
                  (subst (λ (l : List (ℕ × Entry)). Contains l member) (other.letters letters) has')
              | inr signs ↦ no_raw_tag token.kind is simple
                  (one.others (λ letters. signs (subst (IsSimpleForm alphabet) (sym same) letters)))
                  link has
            ]

        own_before_spans : (a : Link) → Contains own a → (b : Link) → Contains spans b → Apart a b
        own_before_spans a has b has' tie =
            let found = contained_mapped span_link row b has' in
            let to = sym (own_next simple a has) ∙ ((tied a b tie).0
            ∙ sym (ap (λ (l : Link). l.to) found.2)) in
            across found.0 found.1 to (belongs.spans place found.0.0 found.0.1 row compound_row found.1)
          where
            across : (member : ℕ × Entry) → Contains row member →
                next ≡ state_at tokens run.first (member.0 + 1) →
                belonging.StandsOn tokens place member.0 → ⊥
            across member there to (inl (longer, span)) =
                let lasts = same_place tokens run.first place member.0 from (omega (arith, from, longer))
                (counts_at MayBound bound_counts place span.begins)
                (counts_at MayBound bound_counts member.0 span.ends) to in
                absurd (omega (arith, lasts, longer))
            across member there to (inr (same, (other, at, is))) =
                let token_is : other ≡ token = same_Some other token (sym at ∙ stands) in
                tag_apart (subst (λ (t : Token). t.kind ≡ kind.Tag) token_is is) a has member there

        -- no two of the links tie
        pub all_apart : AllPairs (λ a b. link_cmp a b ≡ Equal → ⊥) all
        all_apart =
            pairs_append Apart own spans
            (own_apart simple (belongs.sound_simple place simple simple_row)
            (belongs.once_simple place simple simple_row))
            spans_apart
            (All-weaker (Contains own) (λ a. All (Apart a) spans)
            (λ a has. All-weaker (Contains spans) (Apart a) (λ b has'. own_before_spans a has b has')
            spans (All-contains_itself spans)) own (All-contains_itself own))
