-- Where two grammars have the same steps and ends, the same contexts are refused.
use Rattle.std.proofs.Common.{ℕ, subst, sym, inl, inr}
use Rattle.ux_net.specs.Words.{Sign, Step, Grammar}
use Rattle.ux_net.specs.Closers.{ClosesInto, OpensInto}
use Rattle.ux_admission.specs.ContextClose.{IsBadContext, AreClosed}
use Rattle.ux_admission.specs.NegativeRecursion.{LeadsTo, Uses, called, opened, UsesInTurns, once, more, IsNegativeRecursive}
use Rattle.ux_net.proofs.SameGrammar.{IsWithin, run_within, body_within}

module _ (old new : Grammar) (within : (g : ℕ) → IsWithin (old.graph g) (new.graph g)) where
  -- a body of the one grammar is closed into the same place in the other
  pub closes_within : (g a c : ℕ) → ClosesInto old g a c → ClosesInto new g a c
  closes_within g a c h =
      (h.0, body_within g (old.graph g) (new.graph g) (within g) a c h.0 h.1)

  opens_within : (g : ℕ) (sign : Sign) (node : ℕ) → OpensInto old g sign node →
      OpensInto new g sign node
  opens_within g sign node o = record {
    step = o.step;
    of_graph = (within g).steps o.step o.of_graph;
    to = o.to;
    opens = o.opens;
  }

  leads_within : (g first : ℕ) (step : Step) → LeadsTo old g first step → LeadsTo new g first step
  leads_within g first step l = record {
    of_graph = (within g).steps step l.of_graph;
    word = l.word;
    run = run_within g (old.graph g) (new.graph g) (within g) l.run;
  }

  uses_within : {g first h next : ℕ} → Uses old g first h next → Uses new g first h next
  uses_within {g = g} {first = first} (called {h = h} step l calls) =
      subst (λ n. Uses new g first h n) (sym (within h).start)
      (called step (leads_within g first step l) calls)
  uses_within {g = g} {first = first} (opened step l opens) =
      opened step (leads_within g first step l) opens

  turns_within : {g first h next : ℕ} → UsesInTurns old g first h next →
      UsesInTurns new g first h next
  turns_within (once u) = once (uses_within u)
  turns_within (more u rest) = more (uses_within u) (turns_within rest)

  pub negative_within : (g : ℕ) → IsNegativeRecursive old g → IsNegativeRecursive new g
  negative_within g n = record {
    first = n.first;
    opening = n.opening;
    has = record {
      step = n.has.step;
      leads = leads_within g n.first n.has.step n.has.leads;
      to = n.has.to;
      refuses = n.has.refuses;
    };
    uses = turns_within n.uses;
  }

module _ (old new : Grammar) (forth : (g : ℕ) → IsWithin (old.graph g) (new.graph g))
    (back : (g : ℕ) → IsWithin (new.graph g) (old.graph g)) where
  pub bad_within : (g node : ℕ) → IsBadContext old g node → IsBadContext new g node
  bad_within g node (inl (inl x)) = inl (inl (record {
    sign = x.sign;
    opening = opens_within old new forth g x.sign node x.opening;
    never = λ c h. x.never c (closes_within new old back g node c h);
  }))
  bad_within g node (inl (inr x)) = inl (inr (record {
    sign = x.sign;
    opening = opens_within old new forth g x.sign node x.opening;
    last = x.last;
    ends = (forth g).ends x.last x.ends;
    word = x.word;
    run = run_within g (old.graph g) (new.graph g) (forth g) x.run;
  }))
  bad_within g node (inr (inl x)) = inr (inl (record {
    opening = opens_within old new forth g _ node x.opening;
    first = x.first;
    second = x.second;
    apart = x.apart;
    into_first = closes_within old new forth g node x.first x.into_first;
    into_second = closes_within old new forth g node x.second x.into_second;
  }))
  bad_within g node (inr (inr x)) = inr (inr
      (subst (λ a. ClosesInto new g a node) (forth g).start
      (closes_within old new forth g (old.graph g).start node x)))

-- contexts that are closed in one are so in the other
pub closed_within : (old new : Grammar) → ((g : ℕ) → IsWithin (old.graph g) (new.graph g)) →
    ((g : ℕ) → IsWithin (new.graph g) (old.graph g)) → AreClosed old → AreClosed new
closed_within old new forth back closed = λ g node bad.
    closed g node (bad_within new old back forth g node bad)
