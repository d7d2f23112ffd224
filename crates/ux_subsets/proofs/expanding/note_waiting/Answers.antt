use Rattle.std.proofs.Common.{arith, ℕ, [], ◌∷◌, ◌≡◌, ◌≢◌, sym, refl, get_or}
use Rattle.std.proofs.lemmas.List.{append-nil}
use Rattle.std.proofs.lemmas.List.Elements.{Contains-get_or}
use Rattle.ux_subsets.specs.declared.sets.Waiting.{Waiting}
use Rattle.ux_subsets.specs.Departures.{step_by, LeadsTo}
use Rattle.ux_subsets.proofs.ElementsLemmas.{contains_first}
use Rattle.ux_subsets.proofs.RunsLemmas.{least_first}
use Rattle.ux_subsets.proofs.NotingLemmas.{one_new, none_new}
use Rattle.ux_subsets.proofs.expanding.note_waiting.Goals as goal

pub returns-then-first-last : goal.returns-then-first-last
returns-then-first-last c = λ up within. (
  [],
  sym (append-nil c.args.waiting.now.items),
  none_new (λ (t : ℕ). (t ≢ c.args.last) × LeadsTo c.args.run.now t) c.args.from c.args.reading c.args.next
      (λ t h. let least = least_first c.args.run.now up c.requires t h.1 in
      let w = within t h.1 in
      let e : (get_or c.args.run.now 0 (step_by 0 0)).to ≡ c.args.last = c.if-first-last.true in
      h.0 (omega (arith, least, w, e))),
)

pub returns : goal.returns
returns c = λ up within.
    let run = c.args.run.now in
    let first = (get_or run 0 (step_by 0 0)).to in
    let one : Waiting = record { from = c.args.from; reading = c.args.reading; set = record { first = first; others = c.in_ok-others.others; seen = c.args.next } } in
    let told = c.in_ok-others.ensures up c.if-first-last.false (get_or run 0 (step_by 0 0), Contains-get_or run 0 (step_by 0 0) c.requires, refl)
    (least_first run up c.requires) in (
      one ∷ [],
      c.in_ok-push.ensures.items,
      one_new (λ (t : ℕ). (t ≢ c.args.last) × LeadsTo run t) c.args.from c.args.reading c.args.next
          one refl refl told.1 first (contains_first first c.in_ok-others.others.items) refl told.0,
    )
