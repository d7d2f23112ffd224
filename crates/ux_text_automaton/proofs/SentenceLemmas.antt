-- The links of a sentence, token by token.
use Rattle.std.proofs.Common.{arith, ◌≡◌, ◌↔◌, ℕ, ◌+◌, ◌<◌, ◌≤◌, List, [], sym, subst, inl, inr}
use Rattle.std.specs.Prelude.{All, AllPairs, Contains}
use Rattle.std.specs.declared.cmp.Ordering.TheVariants.{Less, Equal}
use Rattle.std.proofs.lemmas.Bool.{cases_lt}
use Rattle.std.proofs.lemmas.List.Elements.{All-contains_itself, All-weaker, Contains-append_cases, Contains-append_left, Contains-append_right}
use Rattle.std.proofs.lemmas.List.Sorted.{Contains-permutation, IsPermutation-sym}
use Rattle.ux_alphabet.specs.Letters.{Letters}
use Rattle.ux_base.proofs.FirstsLemmas.{Contains-none}
use Rattle.ux_tokens.specs.Tokens.{Token}
use Rattle.ux_lexical_tables.specs.Belonging.{Belongs}
use Rattle.ux_lexical_tables.specs.Tables.{Tables}
use Rattle.ux_sentence.specs.declared.sentence.Link.{Link}
use Rattle.ux_text_automaton.specs.declared.run.Run.{Run}
use Rattle.ux_text_automaton.specs.Built.{AreLinks, IsLinkAt}
use Rattle.ux_text_automaton.specs.Candidates.{AreLinksFrom, ArePut}
use Rattle.ux_text_automaton.specs.Order.{AreInOrder, link_cmp}
use Rattle.ux_text_automaton.specs.Runs.{IsRun}
use Rattle.ux_text_automaton.proofs.LinkLemmas.{all_apart, collected, listed, stands_on}
use Rattle.ux_text_automaton.proofs.OrderLemmas.{lower_first, pairs_append, strictly}
use Rattle.ux_text_automaton.proofs.StateLemmas.{state_less}

-- the links are those of the sentence that begin before a place
pub record AreLinksBefore (tokens : List Token) (tables : Tables) (run : Run) (place : ℕ)
    (links : List Link) : Type 0 where
  pub exact : (link : Link) → Contains links link
      ↔ ((first : ℕ) × (last : ℕ) × (first < place) × IsLinkAt tokens tables run first last link)
  pub in_order : AreInOrder links

-- before the first token there are none
pub links_none : (tokens : List Token) (tables : Tables) (run : Run) →
    AreLinksBefore tokens tables run run.first []
links_none tokens tables run = record {
  exact = λ link. (
    λ member. absurd (Contains-none link member),
    λ (first, last, lt, at). absurd (omega (arith, lt, at.begins)),
  );
  in_order = λ i j d before within. absurd (omega (arith, within));
}

module _ (alphabet : Letters) (tokens : List Token) (tables : Tables)
    (belongs : Belongs alphabet tokens tables) (run : Run) (is_run : IsRun tokens run) where
  module _ (place : ℕ) (from : run.first ≤ place) (to : place < run.end) (old new : List Link)
      (put : ArePut tokens tables run.first place old new)
      (before : AreLinksBefore tokens tables run place old) where
    abbrev found : AreLinksFrom tokens tables run.first place put.found
    found = put.are

    here : (link : Link) → Contains put.in_order.put link →
        (last : ℕ) × IsLinkAt tokens tables run place last link
    here link member =
        collected alphabet tokens tables belongs run is_run place from to found.token found.simple
        found.row found.stands found.simple_row found.compound_row link
        (subst (λ (l : List Link). Contains l link) found.links_are
        (Contains-permutation put.in_order.put put.found link (IsPermutation-sym put.found put.in_order.put put.in_order.same)
        member))

    there : (link : Link) (last : ℕ) → IsLinkAt tokens tables run place last link →
        Contains put.in_order.put link
    there link last at =
        Contains-permutation put.found put.in_order.put link put.in_order.same
        (subst (λ (l : List Link). Contains l link) (sym found.links_are)
        (listed alphabet tokens tables belongs run is_run place from to found.token found.simple
        found.row found.stands found.simple_row found.compound_row link (last, at)))

    rising : AreInOrder put.in_order.put
    rising =
        strictly put.found put.in_order.put put.in_order.same put.in_order.in_order
        (subst (AllPairs (λ a b. link_cmp a b ≡ Equal → ⊥)) (sym found.links_are)
        (all_apart alphabet tokens tables belongs run is_run place from to found.token found.simple
        found.row found.stands found.simple_row found.compound_row))

    lower : (a : Link) → Contains old a → (b : Link) → Contains put.in_order.put b → link_cmp a b ≡ Less
    lower a has b has' = go ((before.exact a).0 has) (here b has')
      where
        go : (first : ℕ) × (last : ℕ) × (first < place) × IsLinkAt tokens tables run first last a →
            (last : ℕ) × IsLinkAt tokens tables run place last b → link_cmp a b ≡ Less
        go (first, last, lt, at) (last', at') =
            let some = (stands_on alphabet tokens tables belongs first last a.reading at.stands).1 in
            let rise = state_less tokens run.first first place at.begins some lt
            (omega (arith, to, is_run.within)) in
            lower_first a b (omega (arith, rise, at.from, at'.from))

    -- a token more
    pub links_more : AreLinksBefore tokens tables run (place + 1) new
    links_more = record {
      exact = λ link. (
        λ member. elim (Contains-append_cases old put.in_order.put link
            (subst (λ (l : List Link). Contains l link) put.in_order.behind member)) [
              | inl has ↦ (
                  let is = (before.exact link).0 has in
                  (is.0, is.1, omega (arith, is.2), is.3))
              | inr has ↦ (
                  let is = here link has in
                  (place, is.0, omega arith, is.1))
            ],
        λ (first, last, lt, at). subst (λ (l : List Link). Contains l link) (sym put.in_order.behind)
            (elim (cases_lt first place) [
              | inl less ↦ Contains-append_left old put.in_order.put link
                  ((before.exact link).1 (first, last, less, at))
              | inr over ↦ (
                  let same : first ≡ place = omega (arith, lt, over) in
                  Contains-append_right old put.in_order.put link
                  (there link last
                  (subst (λ (n : ℕ). IsLinkAt tokens tables run n last link) same at)))
            ]),
      );
      in_order = subst AreInOrder (sym put.in_order.behind)
          (pairs_append (λ a b. link_cmp a b ≡ Less) old put.in_order.put before.in_order rising
          (All-weaker (Contains old) (λ a. All (λ b. link_cmp a b ≡ Less) put.in_order.put)
          (λ a has. All-weaker (Contains put.in_order.put) (λ b. link_cmp a b ≡ Less)
          (λ b has'. lower a has b has') put.in_order.put (All-contains_itself put.in_order.put)) old
          (All-contains_itself old)));
    }

  -- the whole sentence
  pub links_are : (place : ℕ) (links : List Link) → place ≡ run.end →
      AreLinksBefore tokens tables run place links → AreLinks tokens tables run links
  links_are place links end_at before = record {
    exact = λ link. (
      λ member. (let is = (before.exact link).0 member in (is.0, is.1, is.3)),
      λ (first, last, at). (before.exact link).1 (
        first,
        last,
        omega (
          arith,
          end_at,
          at.ends,
          (stands_on alphabet tokens tables belongs first last link.reading at.stands).0,
        ),
        at,
      ),
    );
    in_order = before.in_order;
  }
