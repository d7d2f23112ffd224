-- Groups that rise, and groups that are joined.
use Rattle.std.proofs.Common.{arith, ◌≡◌, ℕ, ◌+◌, ◌<◌, ◌≤◌, List, [], ◌∷◌, ◌++◌, sym, subst, ap, ◌∙◌, inl, inr, length, length-append}
use Rattle.std.specs.Prelude.{Contains}
use Rattle.std.proofs.lemmas.List.Elements.{Contains-append_left, Contains-push, Contains-push_cases}
use Rattle.ux_base.proofs.Lists.{nothing_in, first_or_later, contains_first, contains_later}
use Rattle.ux_digraph.specs.declared.grouping.Group.{Group}
use Rattle.ux_digraph.specs.Grouping.{Rises, AreJoined}

-- the last group begins after the others
pub rises_split : (gs : List Group) (g : Group) → Rises (gs ++ g ∷ []) →
    Rises gs × ((h : Group) → Contains gs h → (h.first < g.first) × (h.ahead ≤ g.ahead))
rises_split [] g r = (tt, λ h c. absurd (nothing_in c))
rises_split (x ∷ xs) g r =
    let rest = rises_split xs g r.1 in (
      (λ h c. r.0 h (Contains-append_left xs (g ∷ []) h c), rest.0),
      λ h c. elim (first_or_later x xs h c) [
        | inl e ↦ subst (λ (z : Group). (z.first < g.first) × (z.ahead ≤ g.ahead)) e
            (r.0 g (Contains-push xs g))
        | inr l ↦ rest.1 h l
      ],
    )

pub rises_push : (gs : List Group) (g : Group) → Rises gs →
    ((h : Group) → Contains gs h → (h.first < g.first) × (h.ahead ≤ g.ahead)) →
    Rises (gs ++ g ∷ [])
rises_push [] g r below = (λ h c. absurd (nothing_in c), tt)
rises_push (x ∷ xs) g r below = (
  λ h c. elim (Contains-push_cases xs g h c) [
    | inl o ↦ r.0 h o
    | inr e ↦ subst (λ (z : Group). (x.first < z.first) × (x.ahead ≤ z.ahead)) e
        (below x (contains_first x xs))
  ],
  rises_push xs g r.1 (λ h c. below h (contains_later x xs h c)),
)

-- all groups begin no later than the last
pub last_is_latest : (gs : List Group) (g : Group) → Rises (gs ++ g ∷ []) → (h : Group) →
    Contains (gs ++ g ∷ []) h → (h.first ≤ g.first) × (h.ahead ≤ g.ahead)
last_is_latest gs g r h c = elim (Contains-push_cases gs g h c) [
  | inl o ↦ let l = (rises_split gs g r).1 h o in let a = l.0 in (omega arith, l.1)
  | inr e ↦ subst (λ (z : Group). (z.first ≤ g.first) × (z.ahead ≤ g.ahead)) e
      (omega arith, omega arith)
]

-- how far the joining of groups has come
pub record IsJoining (groups : List Group) (place : ℕ) (rest : List Group) : Type 0 where
  pub kept : (g : Group) → Contains rest g → Contains groups g
  pub left : (g : Group) → Contains groups g → g.first ≤ place → Contains rest g
  pub rises : Rises rest
  pub shorter : length rest ≤ length groups

module _ (groups : List Group) (place : ℕ) where
  pub joining_begins : Rises groups → IsJoining groups place groups
  joining_begins r = record {
    kept = λ g c. c;
    left = λ g c h. c;
    rises = r;
    shorter = omega arith;
  }

  -- a group that begins after the place is dropped
  pub joining_goes_on : (rest gs : List Group) (g : Group) → rest ≡ gs ++ g ∷ [] →
      place < g.first → IsJoining groups place rest → IsJoining groups place gs
  joining_goes_on rest gs g is late j =
      let r : Rises (gs ++ g ∷ []) = subst (λ (x : List Group). Rises x) is j.rises in
      let l : length rest ≡ length gs + 1 = ap length is ∙ length-append gs (g ∷ []) in
      record {
        kept = λ h c. j.kept h (subst (λ (x : List Group). Contains x h) (sym is)
            (Contains-append_left gs (g ∷ []) h c));
        left = λ h c low. elim (Contains-push_cases gs g h
            (subst (λ (x : List Group). Contains x h) is (j.left h c low))) [
              | inl o ↦ o
              | inr e ↦ let same : g.first ≡ h.first = ap (λ (z : Group). z.first) e in
                  absurd (omega arith)
            ];
        rises = (rises_split gs g r).0;
        shorter = let s = j.shorter in omega arith;
      }

  -- a group that doesn't is put back
  pub joining_ends : (rest gs back : List Group) (g : Group) → rest ≡ gs ++ g ∷ [] →
      back ≡ gs ++ g ∷ [] → g.first ≤ place → IsJoining groups place rest →
      AreJoined groups place back
  joining_ends rest gs back g is again low j =
      let same : rest ≡ back = is ∙ sym again in
      subst (λ (x : List Group). AreJoined groups place x) same (record {
        kept = j.kept;
        left = j.left;
        low = λ h c.
            let latest = (last_is_latest gs g (subst (λ (x : List Group). Rises x) is j.rises) h
            (subst (λ (x : List Group). Contains x h) is c)).0 in omega arith;
        rises = j.rises;
        shorter = j.shorter;
      })

  -- no group is left
  pub joining_emptied : (rest now : List Group) → rest ≡ [] → now ≡ rest →
      IsJoining groups place rest → AreJoined groups place now
  joining_emptied rest now none same j =
      subst (λ (x : List Group). AreJoined groups place x) (sym same) (record {
        kept = j.kept;
        left = j.left;
        low = λ h c. absurd (nothing_in (subst (λ (x : List Group). Contains x h) none c));
        rises = j.rises;
        shorter = j.shorter;
      })
