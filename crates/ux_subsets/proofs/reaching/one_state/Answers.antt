use Rattle.std.proofs.Common.{arith, ℕ, List, [], ◌++◌, ◌≡◌, ◌+◌, sym, subst, length, length-append}
use Rattle.std.proofs.lemmas.List.{append-nil}
use Rattle.ux_subsets.specs.declared.sets.Set.{Set}
use Rattle.ux_subsets.specs.Agenda.{filed_in}
use Rattle.ux_subsets.specs.Building.{IsStage, ArePlaced}
use Rattle.ux_subsets.proofs.NumberingLemmas.{all_placed}
use Rattle.ux_subsets.proofs.StagesLemmas.{due_here, stage_taken}
use Rattle.ux_subsets.proofs.reaching.one_state.Goals as goal

pub returns-clause-staged : goal.returns-clause-staged
returns-clause-staged g c = λ source before border done start up next counted none s.
    let S0 = g.M.Machine.stands c.args.machine.now in
    let T0 = g.M.Machine.satisfies c.args.machine.now in
    let S1 = g.M.Machine.stands c.all_sets.new.machine in
    let T1 = g.M.Machine.satisfies c.all_sets.new.machine in
    let last = c.args.last in
    let state = c.args.state in
    let sets = c.in_ok-sets.sets.items in
    let links = c.numbered.new.links.items in
    let overs = c.args.overs.now.items in
    let due = c.take-due.result.items in
    let was = filed_in c.args.agenda.now in
    let filed = filed_in c.take-due.new.self in
    let so = c.args.so_far in
    let taken = c.take-due.ensures.taken in
    let begun : IsStage S0 T0 last source (before ++ []) c.args.links.now.items overs due filed (length before) (length before) state so.all =
    subst (λ (xs : List Set). IsStage S0 T0 last source xs c.args.links.now.items overs due filed (length before) (length before) state so.all) (sym (append-nil before))
    (stage_taken last source before c.args.links.now.items overs due was filed border done state so.all next taken s) in
    let here = due_here last source before c.args.links.now.items overs due was filed border done state so.all next taken s in
    let placed = subst (λ (k : ℕ). ArePlaced k [] sets c.args.links.now.items links due) counted c.in_ok-sets.ensures in
    let all = all_placed last source up before overs filed state so.all [] due [] sets c.args.links.now.items links here placed begun in
    let slice = c.as_slice.ensures.value in
    let ready = subst (λ (xs : List Set). IsStage S0 T0 last source (before ++ xs) links overs [] filed so.count so.count state so.all) (sym slice)
    (subst (λ (k : ℕ). IsStage S0 T0 last source (before ++ sets) links overs [] filed k k state so.all) (sym counted) all) in
    let over = c.in_ok-all.ensures.staged source before links state start up counted none c.take-due.ensures.due ready in
    let given = subst (λ (xs : List Set). IsStage S1 T1 last source (before ++ xs) links c.all_sets.new.overs.items [] (filed_in c.all_sets.new.agenda) (so.count + length xs) so.count state c.in_ok-all.all) slice over.1 in
    let len = length-append before sets in
    let whole : so.count + length sets ≡ length (before ++ sets) = omega (arith, len, counted) in
    let count = c.in_ok-count.ensures in (
      over.0,
      (
        before ++ sets,
        omega (arith, count, whole),
        subst (λ (k : ℕ). IsStage S1 T1 last source (before ++ sets) links c.all_sets.new.overs.items [] (filed_in c.all_sets.new.agenda) (length (before ++ sets)) k state c.in_ok-all.all) counted
            (subst (λ (n : ℕ). IsStage S1 T1 last source (before ++ sets) links c.all_sets.new.overs.items [] (filed_in c.all_sets.new.agenda) n so.count state c.in_ok-all.all) whole given),
      ),
    )
