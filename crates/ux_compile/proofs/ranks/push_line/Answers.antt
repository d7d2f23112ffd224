use Rattle.std.proofs.Common.{Bool, [], ◌∷◌, ◌++◌, sym, ◌∙◌, ap}
use Rattle.ux_net.specs.declared.net_graph.Rank.{Rank}
use Rattle.ux_compile.proofs.RanksLemmas.{call_ranked, call_marked}
use Rattle.ux_compile.proofs.ranks.push_line.Goals as goal

pub returns-in_ok-push-in-Some-2-clause-ranks : goal.returns-in_ok-push-in-Some-2-clause-ranks
returns-in_ok-push-in-Some-2-clause-ranks c =
    call_ranked c.args.admission.now.ranks.items c.args.admission.now.free.items c.args.graph
    c.args.places.now c.args.place c.args.line c.requires.fit c.requires.line c.in-Some.called
    c.place_rank-rank.result c.args.state_ranks.now.items c.push.new.self.items
    (sym c.called_behind.ensures ∙ c.in-Some.is) c.place_rank-rank.ensures.rank
    (c.in_ok-push-in-Some.ensures.items
    ∙ ap (λ (rank : Rank). c.args.state_ranks.now.items ++ rank ∷ []) c.call_rank.ensures)

pub returns-in_ok-push-in-Some-2-clause-free : goal.returns-in_ok-push-in-Some-2-clause-free
returns-in_ok-push-in-Some-2-clause-free c =
    call_marked c.args.admission.now.ranks.items c.args.admission.now.free.items c.args.graph
    c.args.places.now c.args.place c.args.line c.requires.fit c.requires.line c.in-Some.called
    c.is_place_free-free.result c.args.state_frees.now.items c.push-in-Some.new.self.items
    (sym c.called_behind.ensures ∙ c.in-Some.is) c.is_place_free-free.ensures
    (c.in_ok-push-in-Some-2.ensures.items
    ∙ ap (λ (mark : Bool). c.args.state_frees.now.items ++ mark ∷ []) c.call_free.ensures)
