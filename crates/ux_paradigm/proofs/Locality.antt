-- A class that accepts the ending of a lemma accepts the lemma, and gives it the forms of the ending
-- behind what the lemma begins with: the left end of the lemma is never met.
use Rattle.std.proofs.Common.{arith, ◌≡◌, ◌≢◌, ℕ, ◌<◌, List, [], ◌∷◌, ◌++◌, false, All, AllPairs, Contains, Option, Some, None, get_or, inl, inr, length, map, refl, sym, ◌∙◌, ap, subst, chars, encode_utf8_all, reverse}
use Rattle.std.proofs.lemmas.Bool.{or_parts}
use Rattle.std.proofs.lemmas.List.{append_cancel_left, get_or-map, length-map, reverse-append, reverse-reverse}
use Rattle.std.proofs.lemmas.List.Elements.{All-cons, All-nil, Contains-get_or}
use Rattle.std.proofs.lemmas.Option.{same_Some}
use Rattle.std.proofs.lemmas.Str.{chars-append, encodes-append, encodes-chars}
use Rattle.ux_dela.specs.Printed.{printed}
use Rattle.ux_dela.specs.declared.entry.Entry.{Entry}
use Rattle.ux_dela.specs.declared.entry.Stem.{Stem}
use Rattle.ux_inflect.specs.Inflected.{AreInflected, Inflects, IsNotAfter, end_of}
use Rattle.ux_inflect.specs.Refusing.{IsAccepted, IsMiscoded, IsStuck}
use Rattle.ux_inflect.specs.Strokes.{Cursor, all_stroked, at_end}
use Rattle.ux_inflect.specs.Whole.{IsWhole, strokes_of}
use Rattle.ux_net.specs.declared.net_graph.NetGraph.{NetGraph}
use Rattle.ux_net.specs.Words.{Letter}
use Rattle.ux_subsets.proofs.ElementsLemmas.{contained_map, contains_map}
use Rattle.ux_paradigm.proofs.LineLemmas.{order_behind}
use Rattle.ux_paradigm.proofs.StrokeLemmas.{all_stroked_longer, longer}
use Rattle.ux_paradigm.specs.Behind.{EndsAs, behind, of_stem}
use Rattle.ux_paradigm.specs.Kept.{is_any_slashed, is_slashed}

-- what holds of two members of a list, one later, holds of what is made of them
all_pairs_map : {A B : Type 0} (f : A → B) (P : A → Type 0) (R : A → A → Type 0)
    (S : B → B → Type 0) → ((x y : A) → P x → P y → R x y → S (f x) (f y)) → (xs : List A) →
    All P xs → AllPairs R xs → AllPairs S (map f xs)
all_pairs_map f P R S step [] all pairs = λ i j d low inside. absurd (omega (arith, inside))
all_pairs_map f P R S step (x ∷ xs) all pairs = λ i j d low inside.
    let there : j < length (x ∷ xs) = subst (λ n. j < n) (length-map (x ∷ xs) f) inside in
    let here : i < length (x ∷ xs) = omega (arith, low, there) in
    subst (λ a. S a (get_or (map f (x ∷ xs)) j d)) (sym (get_or-map f (x ∷ xs) i x d here))
    (subst (λ b. S (f (get_or (x ∷ xs) i x)) b) (sym (get_or-map f (x ∷ xs) j x d there))
    (step (get_or (x ∷ xs) i x) (get_or (x ∷ xs) j x) (all i x here) (all j x there)
    (pairs i j x low there)))

-- no form begins with a `/`
each_bare : (entries : List Entry) → is_any_slashed entries ≡ false →
    All (λ (entry : Entry). is_slashed entry.form ≡ false) entries
each_bare [] bare = All-nil (λ (entry : Entry). is_slashed entry.form ≡ false)
each_bare (entry ∷ entries) bare =
    let parts = or_parts (is_slashed entry.form) (is_any_slashed entries) bare in
    All-cons (λ (entry : Entry). is_slashed entry.form ≡ false) entry entries parts.0
    (each_bare entries parts.1)

-- an entry of the list, whose form doesn't
abbrev IsKnown : List Entry → Entry → Type 0
IsKnown entries entry = Contains entries entry × (is_slashed entry.form ≡ false)

module _ (front : List ℕ) (stem short : Stem) (ends : EndsAs front stem short) where
  abbrev more : List ℕ
  more = reverse (chars front)

  start : at_end stem.lemma ≡ longer more (at_end short.lemma)
  start =
      let left : reverse (chars stem.lemma) ≡ reverse (chars short.lemma) ++ more =
      ap (λ (l : List ℕ). reverse (chars l)) ends.lemma
      ∙ (ap reverse (chars-append front short.lemma ends.text)
      ∙ reverse-append (chars front) (chars short.lemma)) in
      let at : List ℕ → Cursor = λ l. record { left = l; right = [] } in
      ap at left

  -- the form of the lemma has more on its left end
  end_behind : (whole : List Letter) (cursor : Cursor) → end_of short whole ≡ Some cursor →
      end_of stem whole ≡ Some (longer more cursor)
  end_behind whole cursor is =
      ap (λ (c : Cursor). all_stroked (strokes_of whole) (Some c)) start
      ∙ all_stroked_longer more (strokes_of whole) (at_end short.lemma) cursor is

  form_of : (left : List ℕ) →
      encode_utf8_all (reverse (left ++ more)) ≡ front ++ encode_utf8_all (reverse left)
  form_of left =
      ap encode_utf8_all (reverse-append left more
      ∙ ap (λ (l : List ℕ). l ++ reverse left) (reverse-reverse (chars front)))
      ∙ (encodes-append (chars front) (reverse left)
      ∙ ap (λ (l : List ℕ). l ++ encode_utf8_all (reverse left)) (encodes-chars front ends.text))

  module _ (net : List NetGraph) where
    -- each word of an accepted class leaves a form of the ending
    leaves : IsAccepted short net → (whole : List Letter) → IsWhole net whole →
        (cursor : Cursor) × (end_of short whole ≡ Some cursor)
    leaves accepted whole is_whole = by (end_of short whole) refl
      where
        by : (o : Option Cursor) → end_of short whole ≡ o →
            (cursor : Cursor) × (end_of short whole ≡ Some cursor)
        by None lost = absurd (accepted.doable.doable whole is_whole lost)
        by (Some cursor) is = (cursor, is)

    -- the class accepts the lemma
    pub accepted_behind : IsAccepted short net → IsAccepted stem net
    accepted_behind accepted = record {
      doable = record { clean = accepted.doable.clean; doable = never_stuck };
      coded = never_miscoded;
    }
      where
        never_stuck : (whole : List Letter) → IsWhole net whole → IsStuck stem whole → ⊥
        never_stuck whole is_whole stuck =
            let form = leaves accepted whole is_whole in
            let none : None ≡ Some (longer more form.0) =
            sym stuck ∙ end_behind whole form.0 form.1 in
            cc

        bare_left : (left : List ℕ) → left ++ more ≡ [] → left ≡ []
        bare_left [] is = refl
        bare_left (c ∷ left) is = cc

        never_miscoded : (whole : List Letter) → IsWhole net whole → IsMiscoded stem whole → ⊥
        never_miscoded whole is_whole (inl uncoded) =
            accepted.coded whole is_whole (inl uncoded)
        never_miscoded whole is_whole (inr formless) =
            let form = leaves accepted whole is_whole in
            let same : formless.0 ≡ longer more form.0 =
            same_Some formless.0 (longer more form.0)
            (sym formless.1 ∙ end_behind whole form.0 form.1) in
            let none : form.0.left ++ more ≡ [] =
            sym (ap (λ (c : Cursor). c.left) same) ∙ formless.2 in
            accepted.coded whole is_whole (inr (form.0, form.1, bare_left form.0.left none))

    -- an entry of the ending makes one of the lemma
    inflects_behind : (entry : Entry) → Inflects short net entry →
        Inflects stem net (behind front stem entry)
    inflects_behind entry inflects = record {
      whole = inflects.whole;
      is_whole = inflects.is_whole;
      is_entry = record {
        cursor = longer more inflects.is_entry.cursor;
        ends = end_behind inflects.whole inflects.is_entry.cursor inflects.is_entry.ends;
        form = ap (λ (l : List ℕ). front ++ l) inflects.is_entry.form
            ∙ sym (form_of inflects.is_entry.cursor.left);
        lemma = refl;
        gram = refl;
        sem = refl;
        infl = inflects.is_entry.infl;
      };
    }

    -- and each entry of the lemma is made of one
    inflects_from : IsAccepted short net → (entry : Entry) → Inflects stem net entry →
        (other : Entry) × Inflects short net other × (entry ≡ behind front stem other)
    inflects_from accepted entry inflects =
        let is = inflects.is_entry in
        let form = leaves accepted inflects.whole inflects.is_whole in
        let same : is.cursor ≡ longer more form.0 =
        same_Some is.cursor (longer more form.0)
        (sym is.ends ∙ end_behind inflects.whole form.0 form.1) in
        let text : entry.form ≡ front ++ encode_utf8_all (reverse form.0.left) =
        is.form ∙ (ap (λ (c : Cursor). encode_utf8_all (reverse c.left)) same
        ∙ form_of form.0.left) in
        let made : List ℕ → List ℕ → List ℕ → List (List ℕ) → Entry =
        λ f l g s. record { form = f; lemma = l; gram = g; sem = s; infl = entry.infl } in
        let other : Entry = of_stem short (encode_utf8_all (reverse form.0.left)) entry.infl in (
          other,
          record {
            whole = inflects.whole;
            is_whole = inflects.is_whole;
            is_entry = record {
              cursor = form.0;
              ends = form.1;
              form = refl;
              lemma = refl;
              gram = refl;
              sem = refl;
              infl = is.infl;
            };
          },
          λ i. made (text i) (is.lemma i) (is.gram i) (is.sem i),
        )

    -- an entry of a stem is known by its form and codes
    made_of : (entry : Entry) → Inflects short net entry →
        entry ≡ of_stem short entry.form entry.infl
    made_of entry inflects =
        let is = inflects.is_entry in
        let made : List ℕ → List ℕ → List (List ℕ) → Entry =
        λ l g s. record { form = entry.form; lemma = l; gram = g; sem = s; infl = entry.infl } in
        λ i. made (is.lemma i) (is.gram i) (is.sem i)

    behind_once : (a b : Entry) → Inflects short net a → Inflects short net b → a ≢ b →
        behind front stem a ≢ behind front stem b
    behind_once a b is also differ same =
        let form : a.form ≡ b.form =
        append_cancel_left front a.form b.form (ap (λ (e : Entry). e.form) same) in
        let infl : a.infl ≡ b.infl = ap (λ (e : Entry). e.infl) same in
        differ (made_of a is ∙ ((λ i. of_stem short (form i) (infl i)) ∙ sym (made_of b also)))

    behind_in_order : (a b : Entry) → Inflects short net a → Inflects short net b →
        is_slashed a.form ≡ false → is_slashed b.form ≡ false → IsNotAfter (printed a) (printed b) →
        IsNotAfter (printed (behind front stem a)) (printed (behind front stem b))
    behind_in_order a b is also a_bare b_bare before =
        order_behind front stem short a.form b.form a.infl b.infl a_bare b_bare
        (subst (λ (e : Entry). IsNotAfter (printed (of_stem short a.form a.infl)) (printed e))
        (made_of b also)
        (subst (λ (e : Entry). IsNotAfter (printed e) (printed b)) (made_of a is) before))

    -- The entries of the lemma are those of the ending behind the front, in the same order, where no
    -- form of the ending begins with a `/`, which gets a backslash where it begins a line.
    pub inflected_behind : (entries : List Entry) → IsAccepted short net →
        AreInflected short net entries → is_any_slashed entries ≡ false →
        AreInflected stem net (map (behind front stem) entries)
    inflected_behind entries accepted are bare = record {
      same = λ entry. (there entry, back entry);
      once = all_pairs_map (behind front stem) (IsKnown entries) (λ a b. a ≢ b) (λ a b. a ≢ b)
          (λ a b is also differ. behind_once a b (inside a is) (inside b also) differ) entries known
          are.once;
      in_order = all_pairs_map (behind front stem) (IsKnown entries)
          (λ a b. IsNotAfter (printed a) (printed b)) (λ a b. IsNotAfter (printed a) (printed b))
          (λ a b is also before. behind_in_order a b (inside a is) (inside b also) is.1 also.1
          before) entries known are.in_order;
    }
      where
        known : All (IsKnown entries) entries
        known = λ k d low. (Contains-get_or entries k d low, each_bare entries bare k d low)

        inside : (entry : Entry) → IsKnown entries entry → Inflects short net entry
        inside entry is = (are.same entry).0 is.0

        there : (entry : Entry) → Contains (map (behind front stem) entries) entry →
            Inflects stem net entry
        there entry has =
            let of = contained_map (behind front stem) entries entry has in
            subst (Inflects stem net) of.2 (inflects_behind of.0 ((are.same of.0).0 of.1))

        back : (entry : Entry) → Inflects stem net entry →
            Contains (map (behind front stem) entries) entry
        back entry inflects =
            let of = inflects_from accepted entry inflects in
            subst (λ (e : Entry). Contains (map (behind front stem) entries) e) (sym of.2)
            (contains_map (behind front stem) entries of.0 ((are.same of.0).1 of.1))
