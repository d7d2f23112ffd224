-- What is remembered stays right where more is remembered.
use Rattle.std.proofs.Common.{arith, ◌≡◌, ℕ, ◌<◌, List, [], ◌⊎◌, ◌∙◌, inl, inr, sym, ap, subst, length-append}
use Rattle.std.specs.Prelude.{Option, Some, None, Contains, length}
use Rattle.std.proofs.lemmas.List.{get_or_append_left}
use Rattle.std.proofs.lemmas.Option.{same_Some}
use Rattle.ux_base.proofs.Lists.{nothing_in}
use Rattle.ux_monitor.specs.declared.rule.Step.{Step}
use Rattle.ux_monitor.specs.declared.watching.Seen.{Seen}
use Rattle.ux_monitor.specs.declared.memory.Taken.{Taken}
use Rattle.ux_monitor.specs.Monitors.{AreMore, kind_at}
use Rattle.ux_monitor.specs.Owing.{TellsWell}
use Rattle.ux_monitor.specs.Remembering.{AreRight, BeginsAs, IsAt, IsStep, KeepsNumbers, LeadsTo}

module _ (steps : List Step) (ends : List ℕ) where
  pub right_none : (kinds : List (List ℕ)) (states : List Seen) (next : List (Taken × ℕ)) →
      states ≡ [] → next ≡ [] → AreRight steps ends kinds states None next
  right_none kinds states next no_states no_next = record {
    tells = λ seen h.
        absurd (nothing_in (subst (λ (xs : List Seen). Contains xs seen) no_states h));
    begins = λ number e. cc;
    leads = λ taken number h. absurd
        (nothing_in (subst (λ (xs : List (Taken × ℕ)). Contains xs (taken, number)) no_next h));
  }

  step_kept : (kinds : List (List ℕ)) (old new : List Seen) → KeepsNumbers old new →
      (taken : Taken) (number : ℕ) → IsStep steps ends kinds old taken number →
      IsStep steps ends kinds new taken number
  step_kept kinds old new kept taken number s = record {
    known = s.known;
    seen = s.seen;
    here = kept taken.seen s.seen s.here;
    later = s.later;
    there = kept number s.later s.there;
    leads = s.leads;
  }

  -- one more thing was seen
  pub right_seen : (kinds : List (List ℕ)) (old new : List Seen) (first : Option ℕ)
      (next : List (Taken × ℕ)) (one : Seen) → TellsWell steps ends one → KeepsNumbers old new →
      ((seen : Seen) → Contains new seen → Contains old seen ⊎ (seen ≡ one)) →
      AreRight steps ends kinds old first next → AreRight steps ends kinds new first next
  right_seen kinds old new first next one well kept only right = record {
    tells = λ seen h. elim (only seen h) [
      | inl o ↦ right.tells seen o
      | inr e ↦ subst (λ (s : Seen). TellsWell steps ends s) (sym e) well
    ];
    begins = λ number e. let b = right.begins number e in (b.0, kept number b.0 b.1, b.2);
    leads = λ taken number h. step_kept kinds old new kept taken number (right.leads taken number h);
  }

  -- the number of the first is remembered
  pub right_first : (kinds : List (List ℕ)) (states : List Seen) (first : Option ℕ)
      (next : List (Taken × ℕ)) (number : ℕ) (seen : Seen) → IsAt states number seen →
      BeginsAs steps seen → AreRight steps ends kinds states first next →
      AreRight steps ends kinds states (Some number) next
  right_first kinds states first next number seen at begins right = record {
    tells = right.tells;
    begins = λ other e.
        (seen, subst (λ (n : ℕ). IsAt states n seen) (same_Some number other e) at, begins);
    leads = right.leads;
  }

  -- one more step is remembered
  pub right_step : (kinds : List (List ℕ)) (states : List Seen) (first : Option ℕ)
      (old new : List (Taken × ℕ)) (taken : Taken) (number : ℕ) →
      IsStep steps ends kinds states taken number →
      ((k : Taken) (v : ℕ) → Contains new (k, v) →
      Contains old (k, v) ⊎ ((k ≡ taken) × (v ≡ number))) →
      AreRight steps ends kinds states first old → AreRight steps ends kinds states first new
  right_step kinds states first old new taken number step only right = record {
    tells = right.tells;
    begins = right.begins;
    leads = λ k v h. elim (only k v h) [
      | inl o ↦ right.leads k v o
      | inr e ↦ subst (λ (t : Taken). IsStep steps ends kinds states t v) (sym e.0)
          (subst (λ (n : ℕ). IsStep steps ends kinds states taken n) (sym e.1) step)
    ];
  }

  -- kinds came at the end
  pub right_more : (old new : List (List ℕ)) → AreMore old new → (states : List Seen)
      (first : Option ℕ) (next : List (Taken × ℕ)) → AreRight steps ends old states first next →
      AreRight steps ends new states first next
  right_more old new more states first next right = record {
    tells = right.tells;
    begins = right.begins;
    leads = λ taken number h.
        let s = right.leads taken number h in
        let same : kind_at new taken.kind ≡ kind_at old taken.kind = kind_stays taken.kind s.known in
        record {
          known = inside taken.kind s.known;
          seen = s.seen;
          here = s.here;
          later = s.later;
          there = s.there;
          leads = subst (λ (tests : List ℕ). LeadsTo steps ends tests s.seen s.later) (sym same)
              s.leads;
        };
  }
    where
      inside : (k : ℕ) → k < length old → k < length new
      inside k lt =
          let len = length-append old more.0 in
          subst (λ (xs : List (List ℕ)). k < length xs) (sym more.1) (omega (arith, len, lt))

      kind_stays : (k : ℕ) → k < length old → kind_at new k ≡ kind_at old k
      kind_stays k lt =
          ap (λ (xs : List (List ℕ)). kind_at xs k) more.1 ∙ get_or_append_left old more.0 [] k lt
