use Rattle.std.proofs.Common.{◌≡◌, Some, refl, sym, ◌∙◌, ap, subst}
use Rattle.std.specs.Prelude.{Option, IsSomeAnd, option_copied}
use Rattle.ux_net.specs.declared.state.State.{State}
use Rattle.ux_net.specs.Whole.{unmet_in, put_back}
use Rattle.ux_net.proofs.WholeLemmas.{whole_there}
use Rattle.ux_net.proofs.net.Net.whole_edges.Goals as goal

pub returns-in-Some : goal.returns-in-Some
returns-in-Some c =
    let there = whole_there c.args.self.now c.args.graph c.args.state c.requires.inside
    (option_copied c.kept_aside.result)
    (c.kept_aside.ensures ∙ ap (λ l. unmet_in l c.args.state) c.unmet.ensures.entries) in
    subst (λ (o : Option State). IsSomeAnd o (λ s. c.as_slice.result.now ≡ s.edges))
    (sym (there.2 ∙ ap (λ o. Some (put_back (option_copied o) there.0)) c.in-Some.is)) c.as_slice.ensures

pub returns-in-None : goal.returns-in-None
returns-in-None c =
    let there = whole_there c.args.self.now c.args.graph c.args.state c.requires.inside
    (option_copied c.kept_aside.result)
    (c.kept_aside.ensures ∙ ap (λ l. unmet_in l c.args.state) c.unmet.ensures.entries) in
    subst (λ (o : Option State). IsSomeAnd o (λ s. c.edges.result.now ≡ s.edges))
    (there.1 ∙ sym (there.2 ∙ ap (λ o. Some (put_back (option_copied o) there.0)) c.in-None.is))
    c.edges.ensures
