use Rattle.ux_lexical_tables.proofs.OneTokenLaws.{accepts_forward}
use Rattle.ux_net.specs.Nets.{net_grammar}
use Rattle.ux_walk.specs.Configurations.{main_visit}
use Rattle.ux_walk.proofs.FollowingLemmas.{derivation_follows}
use Rattle.ux_walk.proofs.MatchingLemmas.{through}
use Rattle.ux_walk.proofs.walking.walk_through.Goals as goal

pub returns-clause-exactly : goal.returns-clause-exactly
returns-clause-exactly g c = λ end events.
    through (c.in_ok-derivations.ensures.exactly (main_visit c.args.start)
    c.in_ok-main.ensures.main end events)
    (c.in_ok-main.ensures.exactly end events)

pub returns-clause-follows : goal.returns-clause-follows
returns-clause-follows g c = λ end events inside.
    let masked = c.args.masked.now in
    derivation_follows masked.alphabet.now masked.text.now masked.applied.now
    (accepts_forward masked.alphabet.now masked.text.now masked.applied.now
    c.requires.table.belongs) (net_grammar masked.net.now) 1 c.args.start end events
    ((through (c.in_ok-derivations.ensures.exactly (main_visit c.args.start)
    c.in_ok-main.ensures.main end events)
    (c.in_ok-main.ensures.exactly end events)).0 inside) c.requires.inside
