use Rattle.std.proofs.Common.{ℕ, List, sym, subst, ◌≡◌, ◌∙◌}
use Rattle.ux_subsets.specs.declared.automaton.Link.{Link}
use Rattle.ux_subsets.specs.declared.automaton.Automaton.{Automaton}
use Rattle.ux_subsets.specs.declared.reaching.Reached.{Reached}
use Rattle.ux_subsets.specs.declared.sets.Set.{Set}
use Rattle.ux_subsets.specs.Paths.{IsAscending, Spells, IsNormal}
use Rattle.ux_subsets.specs.Building.{IsReached, IsClosed, IsPass}
use Rattle.ux_subsets.proofs.KeptLemmas.{all_satisfy, normal_left}
use Rattle.ux_subsets.proofs.ClosedLemmas.{reached_pass}
use Rattle.ux_subsets.proofs.PassesLemmas.{turned_left, nothing_turned}
use Rattle.ux_subsets.proofs.passes.apply_again.Goals as goal

-- the sets that were reached are a pass
pass_of : {Stands : ℕ → List ℕ → Type 0} {Satisfies : List ℕ → Type 0} (source : Automaton) (copy : List Link) → copy ≡ source.links.items →
    IsNormal source.last source.links.items → (reached : Reached) → (IsAscending source.last copy → (sets : List Set) ×
    IsReached Stands Satisfies source.last copy sets reached.links.items reached.overs.items reached.so_far.count reached.so_far.all) →
    (forth : Automaton) → IsClosed reached.links.items reached.overs.items reached.so_far.count forth.last forth.links.items →
    IsPass Stands Satisfies source.last source.links.items forth.last forth.links.items
pass_of {Stands} {Satisfies} source copy is normal reached staged forth n =
    let up = subst (λ (ls : List Link). IsAscending source.last ls) (sym is) normal.ascending in
    let s = staged up in
    subst (λ (ls : List Link). IsPass Stands Satisfies source.last ls forth.last forth.links.items) is
    (reached_pass source.last copy s.0 reached.links.items reached.overs.items reached.so_far.count reached.so_far.all s.1
    forth.last forth.links.items n)

pub returns-then-reached-clause-left : goal.returns-then-reached-clause-left
returns-then-reached-clause-left g c =
    let last = c.args.source.last in
    let links = c.args.source.links.items in
    let copy = c.in_ok-links.links.items in
    let is : copy ≡ links = c.in_ok-links.ensures ∙ c.as_slice.ensures.value in
    let up = subst (λ (ls : List Link). IsAscending last ls) (sym is) c.requires.ascending in
    let reached = c.in_ok-reached.reached in
    let s = c.in_ok-reached.ensures.reached up in
    normal_left last links c.requires (λ readings h.
    all_satisfy last copy up s.0 reached.links.items reached.overs.items reached.so_far.count reached.so_far.all s.1 c.if-reached.true readings
    (subst (λ (ls : List Link). Spells ls 0 last readings) (sym is) h))

pub turned-requires : goal.turned-requires
turned-requires g c =
    (pass_of {Stands = g.M.Machine.stands c.reach.new.machine} {Satisfies = g.M.Machine.satisfies c.reach.new.machine} c.args.source c.in_ok-links.links.items (c.in_ok-links.ensures ∙ c.as_slice.ensures.value) c.requires c.in_ok-reached.reached c.in_ok-reached.ensures.reached c.in_ok-forth.forth c.in_ok-forth.ensures).some

pub returns-clause-left : goal.returns-clause-left
returns-clause-left g c =
    turned_left c.args.source.last c.args.source.links.items c.requires.ascending c.requires.some c.in_ok-forth.forth.last c.in_ok-forth.forth.links.items
    (pass_of {Stands = g.M.Machine.stands c.reach.new.machine} {Satisfies = g.M.Machine.satisfies c.reach.new.machine} c.args.source c.in_ok-links.links.items (c.in_ok-links.ensures ∙ c.as_slice.ensures.value) c.requires c.in_ok-reached.reached c.in_ok-reached.ensures.reached c.in_ok-forth.forth c.in_ok-forth.ensures)
    c.in_ok-left.left c.in_ok-left.ensures.left

pub returns-clause-nothing : goal.returns-clause-nothing
returns-clause-nothing g c =
    nothing_turned c.args.source.last c.args.source.links.items c.requires.ascending c.requires.some c.in_ok-forth.forth.last c.in_ok-forth.forth.links.items
    (pass_of {Stands = g.M.Machine.stands c.reach.new.machine} {Satisfies = g.M.Machine.satisfies c.reach.new.machine} c.args.source c.in_ok-links.links.items (c.in_ok-links.ensures ∙ c.as_slice.ensures.value) c.requires c.in_ok-reached.reached c.in_ok-reached.ensures.reached c.in_ok-forth.forth c.in_ok-forth.ensures)
    c.in_ok-left.left c.in_ok-left.ensures.nothing
