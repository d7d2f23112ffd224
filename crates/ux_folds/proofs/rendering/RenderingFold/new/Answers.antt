use Rattle.ux_folds.proofs.rendering.RenderingFold.new.Goals as goal

pub returns-clause-ready : goal.returns-clause-ready
returns-clause-ready c = c.new.ensures c.args.names.now c.requires.once
