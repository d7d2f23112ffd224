-- The words of a text, one place after another.
use Rattle.std.proofs.Common.{arith, ◌≡◌, ◌∙◌, ◌⊎◌, inl, inr, ℕ, ◌+◌, ◌<◌, ◌≤◌, Bool, true, List, [], ◌∷◌, ◌++◌, ap, get_or, length, refl, subst, sym, take}
use Rattle.std.specs.Prelude.{◌↔◌, Contains, IsSomeAnd, None, Option, Some, slice_get}
use Rattle.std.specs.Cmp.Lexicographic.{slice_cmp}
use Rattle.std.specs.List.{flat_map}
use Rattle.std.specs.List.Sorted.{IsStrictlySortedBy}
use Rattle.std.specs.Ordering.{nat_cmp}
use Rattle.std.proofs.lemmas.List.Elements.{Contains-append_cases, Contains-append_left, Contains-append_right}
use Rattle.std.proofs.lemmas.Option.{same_Some, slice_get_within}
use Rattle.ux_alphabet.specs.Letters.{Letters}
use Rattle.ux_apply.specs.declared.priority.Priority.{Priority}
use Rattle.ux_base.proofs.JoinedLists.{joined_push}
use Rattle.ux_base.proofs.Lists.{less_or, nothing_in, take_more}
use Rattle.ux_dela.specs.declared.entry.Entry.{Entry}
use Rattle.ux_marks.specs.declared.error.MorphError.{MorphError}
use Rattle.ux_marks.specs.declared.error.MorphError.TheVariants as morph
use Rattle.ux_marks.specs.declared.error.MorphError.TheVariants.{BadOutput}
use Rattle.ux_net.specs.declared.net_graph.NetGraph.{NetGraph}
use Rattle.ux_plan.specs.declared.stop.Stop.{Stop}
use Rattle.ux_plan.specs.declared.stop.Stop.TheVariants.{Absent, NoMemory, ReadFault, Refused, TooLarge}
use Rattle.ux_plan.specs.Plans.{StopsTest, refusing}
use Rattle.ux_reasons.specs.declared.reason.Reason.{Reason}
use Rattle.ux_reasons.specs.declared.reason.Reason.TheVariants.{Morph}
use Rattle.ux_tokens.specs.declared.kind.Kind.{Kind}
use Rattle.ux_tokens.specs.declared.kind.Kind.TheVariants.{Word}
use Rattle.ux_tokens.specs.Numbers.{different_texts}
use Rattle.ux_tokens.specs.Tokens.{Token}
use Rattle.ux_cmd_morpho.specs.Answering.{IsFileOfWords, IsFirstBad, IsWordAt, IsWordOf, NoneIsBad, RefusesWords, line_with_feed}
use Rattle.ux_cmd_morpho.specs.Going.{Adds, AreSoFar, IsSeen, IsWordBefore, RefusesWord}

-- what is so of that of which an analyser is made is so of the files
pub of_files : (Is : Letters → List (Priority × List Entry) → List NetGraph → Type 0) →
    {told letters : Letters} → told ≡ letters → {lent dics : List (Priority × List Entry)} →
    lent ≡ dics → {made net : List NetGraph} → made ≡ net → Is told lent made → Is letters dics net
of_files Is {told} {letters} same {lent} {dics} entries {made} {net} states is =
    subst (λ l. Is l dics net) same (subst (λ d. Is told d net) entries
    (subst (λ n. Is told lent n) states is))

pub some_and : {A : Type 0} (o : Option A) (P : A → Type 0) → IsSomeAnd o P →
    (x : A) × (o ≡ Some x) × P x
some_and (Some x) P h = (x, (λ i. Some x), h)
some_and None P h = absurd h

module _ (tokens : List Token) where
  -- one place has one word
  pub one_word : (place : ℕ) (word other : List ℕ) → IsWordAt tokens place word →
      IsWordAt tokens place other → word ≡ other
  one_word place word other a b =
      let token = same_Some a.token b.token (sym a.at ∙ b.at) in
      sym a.is ∙ (ap (λ (t : Token). t.text) token ∙ b.is)

  -- the text of the token at a place of a word is the word
  pub word_text : (place : ℕ) (text word : List ℕ) →
      IsSomeAnd (slice_get tokens place) (λ (token : Token). text ≡ token.text) →
      IsWordAt tokens place word → text ≡ word
  word_text place text word here at =
      let s = some_and (slice_get tokens place) (λ (token : Token). text ≡ token.text) here in
      let token = same_Some s.0 at.token (sym s.1 ∙ at.at) in
      s.2 ∙ (ap (λ (t : Token). t.text) token ∙ at.is)

  -- a text that a token at the place of a word has is the word
  pub word_there : (place : ℕ) (word other : List ℕ) → IsWordAt tokens place word →
      ((token : Token) × (slice_get tokens place ≡ Some token) × (token.text ≡ other)) →
      IsWordAt tokens place other
  word_there place word other at there =
      let token = same_Some at.token there.0 (sym at.at ∙ there.1) in
      record {
        token = at.token;
        at = at.at;
        kind = at.kind;
        is = ap (λ (t : Token). t.text) token ∙ there.2;
      }

  before_next : (place : ℕ) (word : List ℕ) → IsWordBefore tokens place word →
      IsWordBefore tokens (place + 1) word
  before_next place word (k, low, at) = (k, omega (arith, low), at)

  here_next : (place : ℕ) (word : List ℕ) → IsWordAt tokens place word →
      IsWordBefore tokens (place + 1) word
  here_next place word at = (place, omega arith, at)

  before_or_here : (place : ℕ) (word : List ℕ) → IsWordBefore tokens (place + 1) word →
      IsWordBefore tokens place word ⊎ IsWordAt tokens place word
  before_or_here place word (k, low, at) = elim (less_or k place) [
    | inl early ↦ inl (k, early, at)
    | inr late ↦ inr (subst (λ (n : ℕ). IsWordAt tokens n word)
        (let same : k ≡ place = omega (arith, low, late) in same) at)
  ]

  module _ (IsLine : (word line : List ℕ) → Type 0) (IsBad : (word : List ℕ) → Type 0) where
    -- before the first place there is no word
    pub so_far_none : (seen : List Bool) → ((n : ℕ) → slice_get seen n ≡ Some true → ⊥) →
        AreSoFar tokens IsLine IsBad 0 seen []
    so_far_none seen none = record {
      before = λ word is. absurd (none is.0 is.1);
      exactly = λ line. (
        λ here. absurd (nothing_in here),
        λ of. absurd (let low = of.1.1 in omega (arith, low)),
      );
      good = λ word before. absurd (let low = before.1 in omega (arith, low));
    }

    module _ (place : ℕ) (old : List Bool) (before : List (List ℕ))
        (known : AreSoFar tokens IsLine IsBad place old before) where
      -- what stands there was seen before, or is no word
      pub so_far_passed : ((word : List ℕ) → IsWordAt tokens place word → IsSeen tokens old word) →
          AreSoFar tokens IsLine IsBad (place + 1) old before
      so_far_passed passed = record {
        before = λ word is. before_next place word (known.before word is);
        exactly = λ line. (
          λ here. let of = (known.exactly line).0 here in
              (of.0, before_next place of.0 of.1, of.2),
          λ of. elim (before_or_here place of.0 of.1) [
            | inl early ↦ (known.exactly line).1 (of.0, early, of.2)
            | inr at ↦ (known.exactly line).1 (of.0, known.before of.0 (passed of.0 at), of.2)
          ],
        );
        good = λ word here. elim (before_or_here place word here) [
          | inl early ↦ known.good word early
          | inr at ↦ known.good word (known.before word (passed word at))
        ];
      }

      -- the lines of a word were added, and it was marked
      pub so_far_added : (word : List ℕ) (new : List Bool) (after : List (List ℕ)) →
          IsWordAt tokens place word → Adds (IsLine word) before after → (IsBad word → ⊥) →
          ((n : ℕ) → slice_get new n ≡ Some true → (slice_get old n ≡ Some true)
          ⊎ ((other : List ℕ) → slice_get (different_texts tokens) n ≡ Some other →
          (token : Token) × (slice_get tokens place ≡ Some token) × (token.text ≡ other))) →
          AreSoFar tokens IsLine IsBad (place + 1) new after
      so_far_added word new after at adds good marked = record {
        before = λ other is. elim (marked is.0 is.1) [
          | inl early ↦ before_next place other (known.before other (is.0, early, is.2))
          | inr there ↦ here_next place other (word_there place word other at (there other is.2))
        ];
        exactly = λ line. (
          λ here. elim ((adds line).0 here) [
            | inl early ↦ let of = (known.exactly line).0 early in
                (of.0, before_next place of.0 of.1, of.2)
            | inr of ↦ (word, here_next place word at, of)
          ],
          λ of. elim (before_or_here place of.0 of.1) [
            | inl early ↦ (adds line).1 (inl ((known.exactly line).1 (of.0, early, of.2)))
            | inr here ↦ (adds line).1 (inr (subst (λ (w : List ℕ). IsLine w line)
                (one_word place of.0 word here at) of.2))
          ],
        );
        good = λ other here. elim (before_or_here place other here) [
          | inl early ↦ known.good other early
          | inr there ↦ subst (λ (w : List ℕ). IsBad w → ⊥)
              (one_word place word other at there) good
        ];
      }

      -- the word there is the first bad one
      pub first_bad : (graph : List ℕ) (stop : Stop Reason) →
          StopsTest (refusing (RefusesWord tokens IsBad graph place)) stop →
          StopsTest (refusing (RefusesWords tokens IsBad graph)) stop
      first_bad graph (Absent name) stops = stops
      first_bad graph (ReadFault name) stops = stops
      first_bad graph (TooLarge name) stops = stops
      first_bad graph (Refused name reason) stops = (
        stops.0,
        record {
          place = place;
          at = stops.1;
          bad = stops.2;
          before = λ k other low at. known.good other (k, low, at);
        },
        stops.3,
        stops.4,
      )
      first_bad graph NoMemory stops = tt

    module _ (place : ℕ) (seen : List Bool) (lines : List (List ℕ)) (past : length tokens ≤ place)
        (known : AreSoFar tokens IsLine IsBad place seen lines) where
      all_before : (word : List ℕ) → IsWordOf tokens word → IsWordBefore tokens place word
      all_before word of =
          let within = slice_get_within tokens of.0 of.1.token of.1.at in
          (of.0, omega (arith, within, past), of.1)

      -- the lines, put in order, are the file
      pub file_of_all : (sorted : List (List ℕ)) (text : List ℕ) →
          IsStrictlySortedBy (slice_cmp nat_cmp) sorted →
          ((line : List ℕ) → Contains sorted line ↔ Contains lines line) →
          text ≡ flat_map line_with_feed sorted → IsFileOfWords tokens IsLine text
      file_of_all sorted text ordered same is = record {
        lines = sorted;
        exactly = λ line. (
          λ here. let of = (known.exactly line).0 ((same line).0 here) in
              (of.0, (of.1.0, of.1.2), of.2),
          λ of. (same line).1 ((known.exactly line).1 (of.0, all_before of.0 of.1, of.2)),
        );
        ordered = ordered;
        is = is;
      }

      pub none_bad : NoneIsBad tokens IsBad
      none_bad word of = known.good word (all_before word of)

-- lists of lines joined
pub adds_appended : (Is : List ℕ → Type 0) (old more new : List (List ℕ)) → new ≡ old ++ more →
    ((line : List ℕ) → Contains more line ↔ Is line) → Adds Is old new
adds_appended Is old more new is are line = (
  λ here. elim (Contains-append_cases old more line
      (subst (λ (l : List (List ℕ)). Contains l line) is here)) [
        | inl before ↦ inl before
        | inr after ↦ inr ((are line).0 after)
      ],
  λ either. subst (λ (l : List (List ℕ)). Contains l line) (sym is) (elim either [
    | inl before ↦ Contains-append_left old more line before
    | inr after ↦ Contains-append_right old more line ((are line).1 after)
  ]),
)

-- one more line with its feed
pub feed_next : (lines : List (List ℕ)) (i : ℕ) (line file : List ℕ) → i < length lines →
    line ≡ get_or lines i line → file ≡ flat_map line_with_feed (take i lines) →
    file ++ line_with_feed line ≡ flat_map line_with_feed (take (i + 1) lines)
feed_next lines i line file inside is known =
    let front : take (i + 1) lines ≡ take i lines ++ line ∷ [] =
    take_more lines i line inside ∙ ap (λ (x : List ℕ). take i lines ++ x ∷ []) (sym is) in
    ap (λ (f : List ℕ). f ++ line_with_feed line) known
    ∙ (sym (joined_push line_with_feed (take i lines) line)
    ∙ ap (flat_map line_with_feed) (sym front))

-- a word that is refused at its place
pub word_stops : (tokens : List Token) (IsBad : (word : List ℕ) → Type 0) (graph text : List ℕ)
    (place : ℕ) (stop : Stop Reason) → IsWordAt tokens place text →
    StopsTest (refusing (λ file reason. (file ≡ graph) × (reason ≡ Morph (BadOutput text))
    × IsBad text)) stop →
    StopsTest (refusing (RefusesWord tokens IsBad graph place)) stop
word_stops tokens IsBad graph text place (Absent name) at stops = stops
word_stops tokens IsBad graph text place (ReadFault name) at stops = stops
word_stops tokens IsBad graph text place (TooLarge name) at stops = stops
word_stops tokens IsBad graph text place (Refused name reason) at stops =
    (text, at, stops.2, stops.0, stops.1)
word_stops tokens IsBad graph text place NoMemory at stops = tt

-- the error of an analysis stops the command, where it names a token
pub word_refused : (graph word : List ℕ) (IsBad : Type 0) (error : MorphError) (stop : Stop Reason) →
    (error ≡ morph.NoMemory) ⊎ ((error ≡ BadOutput word) × IsBad) →
    (stop ≡ NoMemory) ⊎ ((token : List ℕ) × (error ≡ BadOutput token)
    × (stop ≡ Refused graph (Morph error))) →
    StopsTest (refusing (λ file reason. (file ≡ graph) × (reason ≡ Morph (BadOutput word)) × IsBad))
    stop
word_refused graph word IsBad error stop cause (inl memory) = rw memory tt
word_refused graph word IsBad error stop (inl memory) (inr named) =
    absurd (not_named named.0 (sym memory ∙ named.1))
  where
    not_named : (token : List ℕ) → morph.NoMemory ≡ BadOutput token → ⊥
    not_named token is = cc
word_refused graph word IsBad error stop (inr bad) (inr named) =
    rw named.2 (refl, ap Morph bad.0, bad.1)

-- a word stands where a token of its kind does
pub word_here : (tokens : List Token) (place : ℕ) (kind : Kind) →
    IsSomeAnd (slice_get tokens place) (λ (token : Token). kind ≡ token.kind) → kind ≡ Word →
    (word : List ℕ) × IsWordAt tokens place word
word_here tokens place kind here is =
    let s = some_and (slice_get tokens place) (λ (token : Token). kind ≡ token.kind) here in
    (s.0.text, record { token = s.0; at = s.1; kind = sym s.2 ∙ is; is = refl })

-- and its text is one
pub text_at : (tokens : List Token) (place : ℕ) (text word : List ℕ) →
    IsSomeAnd (slice_get tokens place) (λ (token : Token). text ≡ token.text) →
    IsWordAt tokens place word → IsWordAt tokens place text
text_at tokens place text word here at =
    subst (λ (w : List ℕ). IsWordAt tokens place w) (sym (word_text tokens place text word here at)) at
