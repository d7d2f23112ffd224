-- What is owed, kept as a set.
use Rattle.std.proofs.Common.{arith, ◌≡◌, ℕ, ◌+◌, ◌<◌, ◌≤◌, List, [], ◌∷◌, ◌++◌, ◌⊎◌, ◌↔◌, inl, inr, refl, sym, ap, ◌∙◌, subst, length, take, get_or, Bool, true, false, cond, Some}
use Rattle.std.specs.Prelude.{Contains, IsTrue, slice_get}
use Rattle.std.specs.List.{list_any}
use Rattle.std.proofs.lemmas.Option.{slice_get_within, get_or_from_slice_get}
use Rattle.indexmap.specs.IndexSet.{insert_key}
use Rattle.std.proofs.lemmas.List.{take_all}
use Rattle.std.proofs.lemmas.List.Elements.{All-more, All-weaker, All-contains, Contains-append_left, Contains-push, Contains-push_cases, Contains-get_or}
use Rattle.ux_monitor.specs.declared.rule.Step.{Step}
use Rattle.ux_monitor.specs.declared.owing.Obligation.{Obligation}
use Rattle.ux_monitor.specs.declared.rule.Sign.TheVariants.{If, Then}
use Rattle.ux_monitor.specs.Rules.{Run}
use Rattle.ux_monitor.specs.Monitor.{Moves, Closes}
use Rattle.ux_monitor.specs.Watches.{IsIdle, IsHere, IsOpened, IsPaid, IsLater, IsSettled}
use Rattle.ux_monitor.specs.Steps.{Among}
use Rattle.ux_monitor.specs.Owing.{IsAlike, IsKept, IsNoted, AreLater}
use Rattle.ux_base.proofs.Lists.{nothing_in}

same_as_itself : (o : Obligation) → IsAlike o o
same_as_itself o = record { found = refl; ifs = refl; thens = refl }

pub kept_idle : (old : List Obligation) (one : Obligation) → IsIdle one → IsKept old one old
kept_idle old one idle = record {
  only = λ o h. inl h;
  still = λ o h. h;
  same = one;
  alike = same_as_itself one;
  kept = inr idle;
}

kept_there : (old : List Obligation) (one same : Obligation) → Contains old same → IsAlike one same → IsKept old one old
kept_there old one same there alike = record {
  only = λ o h. inl h;
  still = λ o h. h;
  same = same;
  alike = alike;
  kept = inl there;
}

kept_new : (old : List Obligation) (one : Obligation) → IsKept old one (old ++ one ∷ [])
kept_new old one = record {
  only = λ o h. elim (Contains-push_cases old one o h) [
    | inl before ↦ inl before
    | inr e ↦ inr (subst (λ (x : Obligation). IsAlike one x) e (same_as_itself one))
  ];
  still = λ o h. Contains-append_left old (one ∷ []) o h;
  same = one;
  alike = same_as_itself one;
  kept = inl (Contains-push old one);
}

-- a set to which it was put
pub kept_put : (eq : Obligation → Obligation → Bool) (old new : List Obligation) (one : Obligation) → new ≡ insert_key eq old one →
    (n : ℕ) (stored : Obligation) → slice_get new n ≡ Some stored → eq one stored ≡ true →
    ((a b : Obligation) → eq a b ≡ true → IsAlike a b) → IsKept old one new
kept_put eq old new one is n stored at equal tells = by (list_any (eq one) old) refl
  where
    by : (b : Bool) → list_any (eq one) old ≡ b → IsKept old one new
    by true e =
        let same : new ≡ old = is ∙ ap (λ (c : Bool). cond c old (old ++ one ∷ [])) e in
        let inside : n < length old = slice_get_within old n stored (subst (λ (xs : List Obligation). slice_get xs n ≡ Some stored) same at) in
        let there : get_or old n stored ≡ stored = get_or_from_slice_get old n stored stored (subst (λ (xs : List Obligation). slice_get xs n ≡ Some stored) same at) in
        subst (λ (xs : List Obligation). IsKept old one xs) (sym same)
        (kept_there old one stored (subst (λ (x : Obligation). Contains old x) there (Contains-get_or old n stored inside)) (tells one stored equal))
    by false e = subst (λ (xs : List Obligation). IsKept old one xs) (sym (is ∙ ap (λ (c : Bool). cond c old (old ++ one ∷ [])) e)) (kept_new old one)

module _ (steps : List Step) where
  here_alike : (ifs thens : List ℕ) (a b : Obligation) → IsAlike a b → IsHere steps ifs thens a → IsHere steps ifs thens b
  here_alike ifs thens a b same h = record {
    found = λ t. h.found (subst (λ (x : Bool). IsTrue x) (sym same.found) t);
    ifs = subst (λ (xs : List ℕ). (k : ℕ) → Contains xs k ↔ ((p : ℕ) × Contains ifs p × Run steps p k (If ∷ []))) same.ifs h.ifs;
    thens = subst (λ (xs : List ℕ). (k : ℕ) → Contains xs k ↔ ((p : ℕ) × Contains thens p × Run steps p k (Then ∷ []))) same.thens h.thens;
  }

  -- what is owed at a split point is kept
  pub opened_kept : (ifs thens : List ℕ) (old new : List Obligation) (one : Obligation) → IsHere steps ifs thens one → IsKept old one new →
      IsOpened steps ifs thens (Contains old) new
  opened_kept ifs thens old new one h k = record {
    here = k.same;
    is_here = here_alike ifs thens one k.same k.alike h;
    kept = k.kept;
    only = λ o c. elim (k.only o c) [ inl before ↦ inr before | inr alike ↦ inl (here_alike ifs thens one o alike h) ];
  }

  pub opened_told : (ifs thens : List ℕ) (Was Told : Obligation → Type 0) (new : List Obligation) → ((o : Obligation) → Was o → Told o) →
      IsOpened steps ifs thens Was new → IsOpened steps ifs thens Told new
  opened_told ifs thens Was Told new tells o = record {
    here = o.here;
    is_here = o.is_here;
    kept = o.kept;
    only = λ x c. elim (o.only x c) [ inl h ↦ inl h | inr was ↦ inr (tells x was) ];
  }

  -- the same is owed in another order
  pub opened_ordered : (ifs thens : List ℕ) (Was : Obligation → Type 0) (old new : List Obligation) → ((o : Obligation) → Contains new o ↔ Contains old o) →
      IsOpened steps ifs thens Was old → IsOpened steps ifs thens Was new
  opened_ordered ifs thens Was old new same o = record {
    here = o.here;
    is_here = o.is_here;
    kept = elim o.kept [ inl h ↦ inl ((same o.here).1 h) | inr idle ↦ inr idle ];
    only = λ x c. o.only x ((same x).0 c);
  }

  module _ (ends passed : List ℕ) where
    later_alike : (o a b : Obligation) → IsAlike a b → IsLater steps ends (Among passed) 0 o a → IsLater steps ends (Among passed) 0 o b
    later_alike o a b same l = record {
      unpaid = l.unpaid;
      found = subst (λ (x : Bool). IsTrue x ↔ (IsTrue o.found ⊎ ((p : ℕ) × Contains o.ifs.items p × Closes steps ends (Among passed) If p))) same.found l.found;
      ifs = subst (λ (xs : List ℕ). (k : ℕ) → Contains xs k ↔ ((p : ℕ) × Contains o.ifs.items p × Moves steps ends (Among passed) p 0 k)) same.ifs l.ifs;
      thens = subst (λ (xs : List ℕ). (k : ℕ) → Contains xs k ↔ ((p : ℕ) × Contains o.thens.items p × Moves steps ends (Among passed) p 0 k)) same.thens l.thens;
    }

    pub settled_still : (was : Obligation) (old new : List Obligation) → ((o : Obligation) → Contains old o → Contains new o) →
        IsSettled steps ends (Among passed) was 0 old → IsSettled steps ends (Among passed) was 0 new
    settled_still was old new still s = elim s [
      | inl paid ↦ inl paid
      | inr l ↦ inr (l.0, l.1, elim l.2 [ inl h ↦ inl (still l.0 h) | inr idle ↦ inr idle ])
    ]

    pub noted_paid : (one : Obligation) (old : List Obligation) → IsPaid steps ends (Among []) one → IsNoted steps ends passed one old old
    noted_paid one old paid = record { only = λ o h. inl h; still = λ o h. h; settled = inl paid }

    pub noted_kept : (one after : Obligation) (old new : List Obligation) → IsLater steps ends (Among passed) 0 one after → IsKept old after new →
        IsNoted steps ends passed one old new
    noted_kept one after old new l k = record {
      only = λ o h. elim (k.only o h) [ inl before ↦ inl before | inr alike ↦ inr (later_alike one after o alike l) ];
      still = k.still;
      settled = inr (k.same, later_alike one after k.same k.alike l, k.kept);
    }

    pub none_later : (all new : List Obligation) → new ≡ [] → AreLater steps ends passed all (take 0 all) new
    none_later all new none = record {
      only = λ o h. absurd (nothing_in (subst (λ (xs : List Obligation). Contains xs o) none h));
      settled = λ k d h. absurd (omega arith);
    }

    pub one_later : (all old new : List Obligation) (i : ℕ) (one : Obligation) → i < length all → one ≡ get_or all i one → Contains all one →
        AreLater steps ends passed all (take i all) old → IsNoted steps ends passed one old new →
        AreLater steps ends passed all (take (i + 1) all) new
    one_later all old new i one inside is here a n = record {
      only = λ o h. elim (n.only o h) [ inl before ↦ a.only o before | inr l ↦ (one, here, l) ];
      settled = All-more (λ was. IsSettled steps ends (Among passed) was 0 new) all i one inside
          (All-weaker (λ was. IsSettled steps ends (Among passed) was 0 old) (λ was. IsSettled steps ends (Among passed) was 0 new)
          (λ x s. settled_still x old new n.still s) (take i all) a.settled)
          (subst (λ (x : Obligation). IsSettled steps ends (Among passed) x 0 new) is n.settled);
    }

    pub all_later : (all new : List Obligation) (i : ℕ) → length all ≤ i → AreLater steps ends passed all (take i all) new → AreLater steps ends passed all all new
    all_later all new i past a = subst (λ (xs : List Obligation). AreLater steps ends passed all xs new) (take_all i all past) a

    pub each_settled : (all next new : List Obligation) → AreLater steps ends passed all all next → ((o : Obligation) → Contains next o → Contains new o) →
        (was : Obligation) → Contains all was → IsSettled steps ends (Among passed) was 0 new
    each_settled all next new a still was h =
        settled_still was next new still (All-contains (λ x. IsSettled steps ends (Among passed) x 0 next) all was a.settled h)
