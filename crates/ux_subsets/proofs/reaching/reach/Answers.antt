use Rattle.std.proofs.Common.{arith, ℕ, List, [], ◌∷◌, ◌≡◌, ◌∙◌, refl, sym, ap, subst}
use Rattle.std.specs.Prelude.{true}
use Rattle.ux_subsets.specs.declared.automaton.Link.{Link}
use Rattle.ux_subsets.specs.declared.sets.Over.{Over}
use Rattle.ux_subsets.specs.Agenda.{filed_in}
use Rattle.ux_subsets.specs.Paths.{IsAscending}
use Rattle.ux_subsets.specs.Building.{states_of, IsStage, IsReached}
use Rattle.ux_subsets.proofs.StagesLemmas.{begun, grows_both}
use Rattle.ux_subsets.proofs.reaching.reach.Goals as goal

pub all_states-requires-clause-some : goal.all_states-requires-clause-some
all_states-requires-clause-some g c = let some = c.requires in let same = c.in_ok-end.ensures in omega (arith, some, same)

pub returns-clause-grows : goal.returns-clause-grows
returns-clause-grows g c = grows_both c.in_ok-seen.ensures.grows (grows_both c.in_ok-all.ensures.grows c.in_ok-so_far.ensures.grows)

pub returns-clause-reached : goal.returns-clause-reached
returns-clause-reached g c = λ up.
    let last = c.args.last in
    let end = c.in_ok-end.end in
    let same : end ≡ last = c.in_ok-end.ensures in
    let source = c.args.source.items in
    let S0 = g.M.Machine.stands c.begin.new.self in
    let T0 = g.M.Machine.satisfies c.begin.new.self in
    let S1 = g.M.Machine.stands c.one_set.new.machine in
    let T1 = g.M.Machine.satisfies c.one_set.new.machine in
    let set = c.first_set-first.result in
    let some = c.requires in
    let up' : IsAscending end source = subst (λ (k : ℕ). IsAscending k source) (sym same) up in
    let start = c.in_ok-table.ensures up' in
    let zero_only : states_of set ≡ 0 ∷ [] = ap (λ (x : ℕ). x ∷ set.others.items) c.first_set-first.ensures.first ∙ ap (λ (xs : List ℕ). 0 ∷ xs) c.first_set-first.ensures.items in
    let stands = subst (λ (q : ℕ). S0 q []) (sym c.first_set-first.ensures.seen) c.in_ok-seen.ensures.begun in
    let begin = begun {Stands = S0} {Satisfies = T0} end source (omega (arith, same, some)) set zero_only stands (filed_in c.new-agenda.result)
    c.new-agenda.ensures.empty in
    let first = subst (λ (os : List Over). IsStage S0 T0 end source (set ∷ []) [] os [] (filed_in c.new-agenda.result) 0 0 0 true) (sym c.new-overs.ensures.items) begin in
    let after = c.in_ok-all.ensures.staged source (set ∷ []) [] 0 0 start up' refl refl (omega arith) c.new-waiting.ensures.items c.new-agenda.ensures.due first in
    let linked = subst (λ (ls : List Link). IsStage S1 T1 end source (set ∷ []) ls c.one_set.new.overs.items [] (filed_in c.one_set.new.agenda) 1 0 0 c.in_ok-all.all) (sym c.in_ok-links.ensures.items) after.1 in
    let found = c.in_ok-so_far.ensures.reached source (set ∷ []) 0 start up' refl after.0 linked in
    let reached = c.in_ok-so_far.so_far in (
      found.0,
      subst (λ (k : ℕ). IsReached (g.M.Machine.stands c.all_states.new.machine) (g.M.Machine.satisfies c.all_states.new.machine) k source found.0 c.all_states.new.links.items c.all_states.new.overs.items reached.count reached.all) same found.1,
    )
