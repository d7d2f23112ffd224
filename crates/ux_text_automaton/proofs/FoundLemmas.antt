-- The links from one token, as they are collected with what is printed, and as they are put in order.
use Rattle.std.proofs.Common.{arith, ◌≡◌, ℕ, ◌+◌, ◌<◌, ◌≤◌, List, [], ◌∷◌, ◌++◌, length, map, get_or, refl, sym, ◌∙◌, ap, subst}
use Rattle.std.specs.Prelude.{All, IsSomeAnd, slice_get}
use Rattle.std.specs.Cmp.Lexicographic.{slice_cmp}
use Rattle.std.specs.List.Sorted.{IsPermutation, IsSorted}
use Rattle.std.specs.Ordering.{is_lt, nat_cmp, ordering_then}
use Rattle.std.proofs.Math.ListN.{get_or-map}
use Rattle.std.proofs.lemmas.List.{length-map}
use Rattle.std.proofs.lemmas.List.Elements.{All-map}
use Rattle.std.proofs.lemmas.List.Sorted.{All-permutation, IsPermutation-map, IsPermutation-refl}
use Rattle.ux_dela.specs.declared.entry.Entry.{Entry}
use Rattle.ux_tokens.specs.declared.kind.Kind.{Kind}
use Rattle.ux_tokens.specs.Tokens.{Token}
use Rattle.ux_lexical_tables.specs.Tables.{Tables}
use Rattle.ux_lexical_tables.proofs.EndsLemmas.{row_is}
use Rattle.ux_sentence.specs.declared.sentence.Link.{Link}
use Rattle.ux_sentence.specs.Written.{reading_text}
use Rattle.ux_text_automaton.specs.declared.keyed.Keyed.{Keyed}
use Rattle.ux_text_automaton.specs.Candidates.{AreLinksFrom, ArePutInOrder, keyed_cmp, keyed_of, link_in, own_links, span_links}
use Rattle.ux_text_automaton.specs.Order.{link_cmp}
use Rattle.ux_text_automaton.specs.Runs.{state_at}
use Rattle.ux_text_automaton.proofs.KindLemmas.{at_token, the_token}

-- WHAT IS COLLECTED

module _ (tokens : List Token) (tables : Tables) (first place : ℕ) (kind : Kind) (text : List ℕ)
    (simple : List Entry) (row : List (ℕ × Entry)) where
  pub links_found : (from to : ℕ) →
      IsSomeAnd (slice_get tokens place) (λ token. kind ≡ token.kind) →
      IsSomeAnd (slice_get tokens place) (λ token. text ≡ token.text) →
      IsSomeAnd (slice_get tables.simple place) (λ given. simple ≡ given) →
      IsSomeAnd (slice_get tables.compounds place) (λ given. row ≡ given) →
      from ≡ state_at tokens first place → to ≡ state_at tokens first (place + 1) →
      (own all : List Link) → own ≡ own_links from to kind text simple →
      all ≡ own ++ span_links tokens first (state_at tokens first place) row →
      AreLinksFrom tokens tables first place all
  links_found from to kinds texts simples rows from_is to_is own all own_is all_is =
      let found = the_token (λ token. kind ≡ token.kind) (slice_get tokens place) kinds in
      let token = found.0 in
      let text_is : text ≡ token.text =
      at_token (λ token. text ≡ token.text) (slice_get tokens place) token found.1 texts in
      let start = state_at tokens first place in
      let next = state_at tokens first (place + 1) in
      let spans = span_links tokens first start row in
      let mine = own_links start next token.kind token.text simple in
      let own_same : own_links from to kind text simple ≡ mine =
      λ i. own_links (from_is i) (to_is i) (found.2 i) (text_is i) simple in
      record {
        token = token;
        simple = simple;
        row = row;
        stands = found.1;
        simple_row = row_is simple (slice_get tables.simple place) simples;
        compound_row = row_is row (slice_get tables.compounds place) rows;
        links_are = all_is ∙ ap (λ (l : List Link). l ++ spans) (own_is ∙ own_same);
      }

-- WHAT IS PUT

-- what is printed belongs to the link
abbrev IsKeyed : Keyed → Type 0
IsKeyed keyed = keyed.printed ≡ reading_text keyed.link.reading

all_keyed : (links : List Link) → All IsKeyed (map keyed_of links)
all_keyed links = All-map IsKeyed keyed_of links (λ k d lt. refl)

links_back : (links : List Link) → map link_in (map keyed_of links) ≡ links
links_back [] = refl
links_back (link ∷ links) = ap (λ (l : List Link). link ∷ l) (links_back links)

same_order : (a b : Keyed) → IsKeyed a → IsKeyed b → keyed_cmp a b ≡ link_cmp (link_in a) (link_in b)
same_order a b first second =
    λ i. ordering_then (nat_cmp a.link.from b.link.from) (ordering_then (nat_cmp a.link.to b.link.to)
    (slice_cmp nat_cmp (first i) (second i)))

sorted_links : (sorted : List Keyed) → All IsKeyed sorted → IsSorted keyed_cmp sorted →
    IsSorted link_cmp (map link_in sorted)
sorted_links sorted keyed up k d low high =
    let e = keyed_of d in
    let long = length-map sorted link_in in
    let within : k + 1 < length sorted = omega (arith, high, long) in
    let a = get_or sorted (k + 1) e in
    let b = get_or sorted k e in
    let order = same_order a b (keyed (k + 1) e within) (keyed k e (omega (arith, within))) in
    (λ i. is_lt (link_cmp (get_or-map link_in sorted (k + 1) e i) (get_or-map link_in sorted k e i)))
    ∙ (ap is_lt (sym order) ∙ up k e low within)

-- links that were sorted by what is printed stand last, in order
pub links_put : (links old new : List Link) (all sorted : List Keyed) → all ≡ map keyed_of links →
    IsPermutation all sorted → IsSorted keyed_cmp sorted → new ≡ old ++ map link_in sorted →
    ArePutInOrder links old new
links_put links old new all sorted all_is moved up new_is =
    let moved' = subst (λ (l : List Keyed). IsPermutation l sorted) all_is moved in
    record {
      put = map link_in sorted;
      same = subst (λ (l : List Link). IsPermutation l (map link_in sorted)) (links_back links)
          (IsPermutation-map link_in (map keyed_of links) sorted moved');
      in_order = sorted_links sorted
          (All-permutation IsKeyed (map keyed_of links) sorted moved' (all_keyed links)) up;
      behind = new_is;
    }

-- one link or none is in order
pub one_put : (links old new : List Link) → length links ≤ 1 → new ≡ old ++ links →
    ArePutInOrder links old new
one_put links old new few new_is = record {
  put = links;
  same = IsPermutation-refl links;
  in_order = λ k d low high. absurd (omega (arith, few, high));
  behind = new_is;
}
