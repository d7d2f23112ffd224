use Rattle.std.proofs.Common.{sym, subst, List}
use Rattle.std.specs.Prelude.{IfSome}
use Rattle.ux_net.specs.declared.state.Edge.{Edge}
use Rattle.ux_walk.specs.EdgeIndexes.{IsIndexOf}
use Rattle.ux_walk.proofs.look_ups.LookUps.add_index.Goals as goal

pub returns : goal.returns
returns c net there texts found edges sound =
    c.keep.ensures net there c.args.alphabet.now texts found
    (subst (λ (l : List Edge). IfSome c.in_ok-index.index (IsIndexOf c.args.alphabet.now texts l))
    (sym edges)
    (c.in_ok-index.ensures texts (sound.ready c.in-Some.words c.in-Some.is)))
    (record { ready = sound.ready; indexes = sound.indexes })
