use Rattle.ux_walk.proofs.look_ups.LookUps.meet.Goals as goal

pub returns : goal.returns
returns c net there found edges sound =
    c.add_index.ensures net there _ found edges (c.know_words.ensures net sound)
