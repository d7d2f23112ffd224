-- A set of characters that grows by one character at a time, and a table that marks them.
use Rattle.std.proofs.Common.{◌≡◌, ℕ, ◌↔◌, ◌<◌, ◌+◌, ◌⊎◌, inl, inr, List, [], ◌∷◌, ◌++◌, take, length, get_or, refl, sym, ◌∙◌, ap, subst, Bool, true, false, cond}
use Rattle.std.specs.Prelude.{All, Contains, IsTrue, IsUtf8}
use Rattle.std.specs.Str.{chars}
use Rattle.std.specs.Ordering.{nat_cmp}
use Rattle.std.specs.Cmp.{nat_cmp_total}
use Rattle.std.specs.BTreeMap.{is_at}
use Rattle.std.specs.BTreeSet.{BTreeSet, contains, Updates}
use Rattle.std.proofs.lemmas.Map.Lookups.{exact_unsigned}
use Rattle.std.proofs.lemmas.Map.Views.{btree_set_contains_iff}
use Rattle.std.proofs.lemmas.List.Elements.{All-push, All-weaker, All-more}
use Rattle.ux_dela.specs.declared.entry.Entry.{Entry}
use Rattle.ux_dict.specs.Kept.{AreMarksOf, IsSpelled}

-- a look-up finds exactly the set's characters
reads : (s : BTreeSet ℕ) (q : ℕ) → (contains nat_cmp s q ≡ true) ↔ Contains s.keys q
reads s q = let h = btree_set_contains_iff nat_cmp_total exact_unsigned s q in h

both : (b : Bool) → cond b true true ≡ true
both true = refl
both false = refl

-- the set has what it had
pub Contains-insert_old : (s n : BTreeSet ℕ) (at c : ℕ) → Updates nat_cmp s n at true →
    Contains s.keys c → Contains n.keys c
Contains-insert_old s n at c u old =
    let was = (reads s c).1 old in
    let kept = ap (λ b. cond (is_at (nat_cmp at) c) true b) was ∙ both (is_at (nat_cmp at) c) in
    (reads n c).0 (u.0 c ∙ kept)

-- and the new one
pub Contains-insert_new : (s n : BTreeSet ℕ) (at : ℕ) → Updates nat_cmp s n at true →
    Contains n.keys at
Contains-insert_new s n at u = (reads n at).0 u.1

-- so it has the characters so far
pub put_more : (few more : List ℕ) (at : ℕ) (front : List ℕ) →
    ((c : ℕ) → Contains few c → Contains more c) → Contains more at →
    All (Contains few) front → All (Contains more) (front ++ at ∷ [])
put_more few more at front kept put all =
    All-push (Contains more) front at (All-weaker (Contains few) (Contains more) kept front all) put

-- what is marked after one more mark is in the set after the same character
pub AreMarksOf-more : (few more : List ℕ) (at : ℕ) (old new : List Bool) →
    ((c : ℕ) → Contains few c → Contains more c) → Contains more at →
    ((c : ℕ) → IsTrue (get_or new c false) ↔ (IsTrue (get_or old c false) ⊎ (c ≡ at))) →
    AreMarksOf few old → AreMarksOf more new
AreMarksOf-more few more at old new kept put marked before c is =
    elim ((marked c).0 is) [
      | inl was ↦ kept c (before c was)
      | inr same ↦ subst (Contains more) (sym same) put
    ]

-- a form is spelled with more characters as well
pub IsSpelled-more : (few more : List ℕ) → ((c : ℕ) → Contains few c → Contains more c) →
    (entry : Entry) → IsSpelled few entry → IsSpelled more entry
IsSpelled-more few more kept entry spelled = record {
  utf8 = spelled.utf8;
  inside = All-weaker (Contains few) (Contains more) kept _ spelled.inside;
}

-- the forms so far and the next one are spelled with the characters of a larger set
pub spelled_more : (entries : List Entry) (i : ℕ) (entry : Entry) (few more text : List ℕ) →
    i < length entries → entry ≡ get_or entries i entry → text ≡ entry.form → IsUtf8 text →
    ((c : ℕ) → Contains few c → Contains more c) → All (Contains more) (chars text) →
    All (IsSpelled few) (take i entries) → All (IsSpelled more) (take (i + 1) entries)
spelled_more entries i entry few more text lt at is utf8 kept put before =
    let here : IsSpelled more entry = record {
      utf8 = subst IsUtf8 is utf8;
      inside = subst (λ (t : List ℕ). All (Contains more) (chars t)) is put;
    } in
    All-more (IsSpelled more) entries i entry lt
    (All-weaker (IsSpelled few) (IsSpelled more) (IsSpelled-more few more kept) _ before)
    (subst (IsSpelled more) at here)
