-- The entries of lines in order are those that the configurations give, each once and in order.
use Rattle.std.proofs.Common.{arith, ◌≡◌, ◌≢◌, ◌↔◌, ℕ, ◌<◌, List, [], length, get_or, refl, sym, ◌∙◌, ap, subst, Ordering, Less, Equal, Greater, Some, false}
use Rattle.std.specs.Prelude.{AllPairs, Contains, encode_utf8_all, reverse, slice_get}
use Rattle.std.specs.Ordering.{is_gt, nat_cmp, ordering_then}
use Rattle.std.specs.Cmp.Lexicographic.{nat_list_cmp_total, slice_cmp}
use Rattle.std.specs.List.Sorted.{IsStrictlySortedBy}
use Rattle.std.proofs.lemmas.Cmp.{tied_itself}
use Rattle.std.proofs.lemmas.Map.Keys.{Less-from_sorted}
use Rattle.std.proofs.lemmas.Option.{get_or_from_slice_get, slice_get-get_or, slice_get_within}
use Rattle.ux_dela.specs.declared.entry.Entry.{Entry}
use Rattle.ux_dela.specs.declared.entry.Stem.{Stem}
use Rattle.ux_dela.specs.Printed.{printed}
use Rattle.ux_inflect.specs.declared.config.Config.{Config}
use Rattle.ux_inflect.specs.declared.outcomes.Line.{Line}
use Rattle.ux_inflect.specs.Inflected.{HasCodes, IsNotAfter, behind_colons}
use Rattle.ux_inflect.specs.Outcomes.{AreEntriesFor, AreListed, Gives, IsEntryFor, IsLineOfSome, entry_with}
use Rattle.ux_inflect.specs.Places.{place_of}
use Rattle.ux_inflect.proofs.OutcomeLemmas.{same_line}

-- lines are compared by their texts, and then by what they are made of
abbrev pub line_cmp : Line → Line → Ordering
line_cmp a b = ordering_then (slice_cmp nat_cmp a.text b.text)
    (ordering_then (slice_cmp nat_cmp a.form b.form) (slice_cmp nat_cmp a.output b.output))

-- what is less by its first part has no greater one
first_not_greater : (first rest : Ordering) → ordering_then first rest ≡ Less → is_gt first ≡ false
first_not_greater Less rest less = refl
first_not_greater Equal rest less = refl
first_not_greater Greater rest less = cc

-- no line is less than itself
line_itself : (line : Line) → line_cmp line line ≡ Equal
line_itself line =
    ap (λ (o : Ordering). ordering_then o
    (ordering_then (slice_cmp nat_cmp line.form line.form) (slice_cmp nat_cmp line.output line.output)))
    (tied_itself nat_list_cmp_total line.text)
    ∙ (ap (λ (o : Ordering). ordering_then o (slice_cmp nat_cmp line.output line.output))
    (tied_itself nat_list_cmp_total line.form)
    ∙ tied_itself nat_list_cmp_total line.output)

-- what stands at a number is there
pub member_at : {X : Type 0} (xs : List X) (x : X) (n : ℕ) → slice_get xs n ≡ Some x → Contains xs x
member_at xs x n at = (n, slice_get_within xs n x at, get_or_from_slice_get xs n x x at)

-- the line is that of the entry, which a configuration gives
record IsGiven (stem : Stem) (configs : List Config) (line : Line) (entry : Entry) : Type 0 where
  config : Config
  inside : Contains configs config
  gives : Gives stem (place_of config) entry
  text : line.text ≡ printed entry
  form : line.form ≡ entry.form
  output : line.output ≡ behind_colons entry.infl

-- what an entry says is in its line
line_of_entry : {stem : Stem} {configs : List Config} {a b : Line} {c d : Entry} →
    IsGiven stem configs a c → IsGiven stem configs b d → c ≡ d → a ≡ b
line_of_entry a b same =
    let text = a.text ∙ (ap printed same ∙ sym b.text) in
    let form = a.form ∙ (ap (λ (e : Entry). e.form) same ∙ sym b.form) in
    let output = a.output ∙ (ap (λ (e : Entry). behind_colons e.infl) same ∙ sym b.output) in
    same_line _ _ text form output

module _ (stem : Stem) (configs : List Config) (lines sorted : List Line) (entries : List Entry)
    (whole : (line : Line) → Contains lines line ↔ IsLineOfSome stem configs line)
    (same : (line : Line) → Contains sorted line ↔ Contains lines line)
    (in_order : IsStrictlySortedBy line_cmp sorted) (are : AreEntriesFor stem sorted entries) where
  -- the entry of a line is one that a configuration gives
  given : (line : Line) (entry : Entry) → Contains sorted line → IsEntryFor stem line entry →
      IsGiven stem configs line entry
  given line entry has says =
      let some = (whole line).0 ((same line).0 has) in
      let lined = some.2 in
      let codes : HasCodes line.output lined.codes =
      subst (λ (o : List ℕ). HasCodes o lined.codes) (sym lined.output) lined.has in
      let is = says lined.codes codes in
      record {
        config = some.0;
        inside = some.1;
        gives = record {
          over = lined.over;
          cursor = lined.cursor;
          at = lined.at;
          codes = lined.codes;
          has = lined.has;
          is = is ∙ ap (λ (form : List ℕ). entry_with stem form lined.codes) lined.form;
        };
        text = lined.text ∙ ap printed (sym is);
        form = sym (ap (λ (e : Entry). e.form) is);
        output = codes.joined ∙ ap behind_colons (sym (ap (λ (e : Entry). e.infl) is));
      }

  abbrev nothing : Line
  nothing = record { text = []; form = []; output = [] }

  -- the same of the line and the entry of a number
  given_at : (n : ℕ) (d : Entry) → n < length entries →
      IsGiven stem configs (get_or sorted n nothing) (get_or entries n d)
  given_at n d low =
      let below : n < length sorted = (let len = are.len in omega (arith, low, len)) in
      let line = get_or sorted n nothing in
      let found = slice_get-get_or sorted n nothing below in
      let each = are.each n line found in
      let is : get_or entries n d ≡ each.0 = get_or_from_slice_get entries n each.0 d each.1 in
      given line (get_or entries n d) (member_at sorted line n found)
      (subst (λ (e : Entry). IsEntryFor stem line e) (sym is) each.2)

  line_less : (i j : ℕ) → i < j → j < length entries →
      line_cmp (get_or sorted i nothing) (get_or sorted j nothing) ≡ Less
  line_less i j low high = Less-from_sorted line_cmp sorted i j nothing in_order low
      (let len = are.len in omega (arith, high, len))

  each_once : AllPairs (λ a b. a ≢ b) entries
  each_once i j d low high one =
      let a = given_at i d (omega (arith, low, high)) in
      let b = given_at j d high in
      let line = line_of_entry a b one in
      let less = line_less i j low high in
      let tied = ap (λ (l : Line). line_cmp l (get_or sorted j nothing)) line
      ∙ line_itself (get_or sorted j nothing) in
      cc (less, tied)

  lines_in_order : AllPairs (λ a b. IsNotAfter (printed a) (printed b)) entries
  lines_in_order i j d low high =
      let a = given_at i d (omega (arith, low, high)) in
      let b = given_at j d high in
      let x = get_or sorted i nothing in
      let y = get_or sorted j nothing in
      subst (λ (text : List ℕ). IsNotAfter text (printed (get_or entries j d))) a.text
      (subst (λ (text : List ℕ). IsNotAfter x.text text) b.text
      (first_not_greater (slice_cmp nat_cmp x.text y.text)
      (ordering_then (slice_cmp nat_cmp x.form y.form) (slice_cmp nat_cmp x.output y.output))
      (line_less i j low high)))

  -- the entry of a line that a configuration has
  entry_there : (line : Line) (codes : List (List ℕ)) (entry : Entry) → IsLineOfSome stem configs line →
      HasCodes line.output codes → entry ≡ entry_with stem line.form codes → Contains entries entry
  entry_there line codes entry some has is =
      let there = (same line).1 ((whole line).1 some) in
      let found = slice_get-get_or sorted there.0 line there.1 ∙ ap Some there.2 in
      let each = are.each there.0 line found in
      subst (λ (e : Entry). Contains entries e) (each.2 codes has ∙ sym is)
      (member_at entries each.0 there.0 each.1)

  is_there : (entry : Entry) (config : Config) → Contains configs config →
      Gives stem (place_of config) entry → Contains entries entry
  is_there entry config inside gives =
      let form = encode_utf8_all (reverse gives.cursor.left) in
      entry_there
      (record {
        text = printed (entry_with stem form gives.codes);
        form = form;
        output = (place_of config).output;
      })
      gives.codes entry (
        config,
        inside,
        record {
          over = gives.over;
          cursor = gives.cursor;
          at = gives.at;
          codes = gives.codes;
          has = gives.has;
          form = refl;
          output = refl;
          text = refl;
        },
      )
      gives.has gives.is

  pub are_listed : AreListed stem configs entries
  are_listed = record {
    same = λ entry. (
      λ has.
          let g = given_at has.0 entry has.1 in
          (g.config, g.inside, subst (λ (e : Entry). Gives stem (place_of g.config) e) has.2 g.gives),
      λ some. is_there entry some.0 some.1 some.2,
    );
    once = each_once;
    in_order = lines_in_order;
  }
