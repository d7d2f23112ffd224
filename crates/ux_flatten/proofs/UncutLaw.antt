-- Where a depth cuts nothing off, what is derived to it is what is derived; where it cuts off nothing
-- in negative contexts, the first is part of the second.
use Rattle.std.proofs.Common.{arith, ◌≡◌, ℕ, zero, suc, List, [], ◌∷◌, ◌++◌, ◌↔◌, sym, subst}
use Rattle.ux_net.specs.declared.label.Label.TheVariants as label
use Rattle.ux_outputs.specs.declared.event.Event.{Event}
use Rattle.ux_net.specs.Words.{Sign, positive, negative, Letter, plain, context, Grammar, IsWord, IsBody}
use Rattle.ux_meaning.specs.Inputs.{Input}
use Rattle.ux_meaning.specs.Meaning.{Stays, Seq, RefusesBy, DerBy}
use Rattle.ux_meaning.specs.Meaning as fully
use Rattle.ux_flatten.specs.Depths.{SeqTo, RefusesTo, DerToBy}
use Rattle.ux_flatten.specs.Depths as to
use Rattle.ux_flatten.proofs.Lines.{IsSimple}

abbrev pub Each : (Letter → Type 0) → List Letter → Type 0
Each Is [] = Unit {0}
Each Is (x ∷ word) = Is x × Each Is word

module _ (input : Input) (grammar : Grammar) (Uncut : (d g a : ℕ) → Type 0) where
  -- nothing in the letter is cut off
  pub data Whole (d : ℕ) : Letter → Type 0 where
    simple : {x : Letter} → IsSimple x → Whole d x
    called : {h : ℕ} → ((word : List Letter) → IsWord h (grammar.graph h) word →
        (e : ℕ) × (d ≡ suc e) × Uncut e h (grammar.graph h).start) → Whole d (plain (label.Call h))
    opened : {sign : Sign} {g a b : ℕ} → Uncut d g a → Whole d (context sign g a b)

  pub record AreWhole : Type 0 where
    pub of_graphs : (d g : ℕ) (word : List Letter) → Uncut d g (grammar.graph g).start →
        IsWord g (grammar.graph g) word → Each (Whole d) word
    pub of_bodies : (d g a b : ℕ) (word : List Letter) → Uncut d g a →
        IsBody g (grammar.graph g) a b word → Each (Whole d) word

  call_in : {d h : ℕ} → Whole d (plain (label.Call h)) → (word : List Letter) →
      IsWord h (grammar.graph h) word → (e : ℕ) × (d ≡ suc e) × Uncut e h (grammar.graph h).start
  call_in (simple u) word is = absurd u
  call_in (called f) word is = f word is

  unit_in : {d : ℕ} {sign : Sign} {g a b : ℕ} → Whole d (context sign g a b) → Uncut d g a
  unit_in (simple u) = absurd u
  unit_in (opened u) = u

  module _ (are : AreWhole) where
    module _ (R : ℕ → ℕ → ℕ → ℕ → ℕ → Type 0) (S : ℕ → ℕ → ℕ → ℕ → Type 0)
        (told : (d g a b p : ℕ) → Uncut d g a → R d g a b p → S g a b p) where
      pub whole_forth : {d : ℕ} {word : List Letter} {i j : ℕ} {events : List Event} →
          SeqTo input grammar R d word i j events → Each (Whole d) word →
          Seq input grammar S word i j events
      whole_forth to.done l = fully.done
      whole_forth (to.takes t s) l = fully.takes t (whole_forth s l.1)
      whole_forth (to.stays now t s) l = fully.stays now t (whole_forth s l.1)
      whole_forth (to.calls {d = d} {h = h} {called = v} is i s) l =
          let c = call_in l.0 v is in
          let u : Uncut d h (grammar.graph h).start =
          subst (λ e. Uncut e h (grammar.graph h).start) (omega (arith, c.1)) c.2 in
          fully.calls is (whole_forth i (are.of_graphs d h v u is)) (whole_forth s l.1)
      whole_forth (to.holds {d = d} {g = g} {opening = a} {closing = b} {body = v} is i s) l =
          fully.holds is (whole_forth i (are.of_bodies d g a b v (unit_in l.0) is))
          (whole_forth s l.1)
      whole_forth (to.refused {d = d} {g = g} {opening = a} {closing = b} {p = p} r s) l =
          fully.refused (told d g a b p (unit_in l.0) r) (whole_forth s l.1)

    module _ (R : ℕ → ℕ → ℕ → ℕ → ℕ → Type 0) (S : ℕ → ℕ → ℕ → ℕ → Type 0)
        (told : (d g a b p : ℕ) → Uncut d g a → S g a b p → R d g a b p) where
      pub whole_back : {word : List Letter} {i j : ℕ} {events : List Event} →
          Seq input grammar S word i j events → (d : ℕ) → Each (Whole d) word →
          SeqTo input grammar R d word i j events
      whole_back fully.done d l = to.done
      whole_back (fully.takes t s) d l = to.takes t (whole_back s d l.1)
      whole_back (fully.stays now t s) d l = to.stays now t (whole_back s d l.1)
      whole_back (fully.calls {h = h} {called = v} {word = word} {p = p} {k = k} {j = j}
          {inside = inside} {later = later} is i s) d l =
          let c = call_in l.0 v is in
          let e = c.0 in
          let rest : SeqTo input grammar R (suc e) word k j later =
          subst (λ d. SeqTo input grammar R d word k j later) c.1 (whole_back s d l.1) in
          subst (λ d. SeqTo input grammar R d (plain (label.Call h) ∷ word) p j (inside ++ later))
          (sym c.1)
          (to.calls is (whole_back i e (are.of_graphs e h v c.2 is)) rest)
      whole_back (fully.holds {g = g} {opening = a} {closing = b} {body = v} is i s) d l =
          to.holds is (whole_back i d (are.of_bodies d g a b v (unit_in l.0) is))
          (whole_back s d l.1)
      whole_back (fully.refused {g = g} {opening = a} {closing = b} {p = p} r s) d l =
          to.refused (told d g a b p (unit_in l.0) r) (whole_back s d l.1)

    mutual
      pub refused_forth : (n d g a b p : ℕ) → Uncut d g a → RefusesTo input grammar n d g a b p →
          RefusesBy input grammar n g a b p
      refused_forth zero d g a b p u r = r
      refused_forth (suc n) d g a b p u r = λ word k events body s.
          r word k events body (whole_back (RefusesTo input grammar n) (RefusesBy input grammar n)
          (refused_back n) s d (are.of_bodies d g a b word u body))

      pub refused_back : (n d g a b p : ℕ) → Uncut d g a → RefusesBy input grammar n g a b p →
          RefusesTo input grammar n d g a b p
      refused_back zero d g a b p u r = r
      refused_back (suc n) d g a b p u r = λ word k events body s.
          r word k events body (whole_forth (RefusesTo input grammar n) (RefusesBy input grammar n)
          (refused_forth n) s (are.of_bodies d g a b word u body))

    -- uncut, the two are equal
    pub whole : (n d g i j : ℕ) (events : List Event) → Uncut d g (grammar.graph g).start →
        DerToBy input grammar n d g i j events ↔ DerBy input grammar n g i j events
    whole n d g i j events u = (
      λ a. record {
        word = a.word;
        of_graph = a.of_graph;
        seq = whole_forth (RefusesTo input grammar n) (RefusesBy input grammar n) (refused_forth n)
            a.seq
            (are.of_graphs d g a.word u a.of_graph);
      },
      λ a. record {
        word = a.word;
        of_graph = a.of_graph;
        seq = whole_back (RefusesTo input grammar n) (RefusesBy input grammar n) (refused_back n)
            a.seq d
            (are.of_graphs d g a.word u a.of_graph);
      },
    )

    module _ (Reached : (d g a : ℕ) → Type 0) where
      -- nothing in a negative context is cut off
      pub data Kept (d : ℕ) : Letter → Type 0 where
        simple : {x : Letter} → IsSimple x → Kept d x
        called : {h : ℕ} → ((word : List Letter) → IsWord h (grammar.graph h) word → (e : ℕ) →
            d ≡ suc e → Reached e h (grammar.graph h).start) → Kept d (plain (label.Call h))
        holding : {g a b : ℕ} → Reached d g a → Kept d (context positive g a b)
        refusing : {g a b : ℕ} → Uncut d g a → Kept d (context negative g a b)

      pub record AreKept : Type 0 where
        pub of_graphs : (d g : ℕ) (word : List Letter) → Reached d g (grammar.graph g).start →
            IsWord g (grammar.graph g) word → Each (Kept d) word
        pub of_bodies : (d g a b : ℕ) (word : List Letter) → Reached d g a →
            IsBody g (grammar.graph g) a b word → Each (Kept d) word

      kept_call : {d h : ℕ} → Kept d (plain (label.Call h)) → (word : List Letter) →
          IsWord h (grammar.graph h) word → (e : ℕ) → d ≡ suc e →
          Reached e h (grammar.graph h).start
      kept_call (simple u) word is = absurd u
      kept_call (called f) word is = f word is

      kept_holding : {d g a b : ℕ} → Kept d (context positive g a b) → Reached d g a
      kept_holding (simple u) = absurd u
      kept_holding (holding u) = u

      kept_refusing : {d g a b : ℕ} → Kept d (context negative g a b) → Uncut d g a
      kept_refusing (simple u) = absurd u
      kept_refusing (refusing u) = u

      module _ (kept : AreKept) (n : ℕ) where
        kept_forth : {d : ℕ} {word : List Letter} {i j : ℕ} {events : List Event} →
            SeqTo input grammar (RefusesTo input grammar n) d word i j events → Each (Kept d) word →
            Seq input grammar (RefusesBy input grammar n) word i j events
        kept_forth to.done l = fully.done
        kept_forth (to.takes t s) l = fully.takes t (kept_forth s l.1)
        kept_forth (to.stays now t s) l = fully.stays now t (kept_forth s l.1)
        kept_forth (to.calls {d = d} {h = h} {called = v} is i s) l =
            let u = kept_call l.0 v is d (omega arith) in
            fully.calls is (kept_forth i (kept.of_graphs d h v u is)) (kept_forth s l.1)
        kept_forth (to.holds {d = d} {g = g} {opening = a} {closing = b} {body = v} is i s) l =
            fully.holds is (kept_forth i (kept.of_bodies d g a b v (kept_holding l.0) is))
            (kept_forth s l.1)
        kept_forth (to.refused {d = d} {g = g} {opening = a} {closing = b} {p = p} r s) l =
            fully.refused (refused_forth n d g a b p (kept_refusing l.0) r) (kept_forth s l.1)

        -- uncut in negative contexts, each derivation to the depth is one
        pub part : (d g i j : ℕ) (events : List Event) → Reached d g (grammar.graph g).start →
            DerToBy input grammar n d g i j events → DerBy input grammar n g i j events
        part d g i j events u a = record {
          word = a.word;
          of_graph = a.of_graph;
          seq = kept_forth a.seq (kept.of_graphs d g a.word u a.of_graph);
        }
