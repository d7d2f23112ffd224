use Rattle.ux_walk.proofs.look_ups.LookUps.keep_texts.Goals as goal

pub returns : goal.returns
returns c alphabet net texts sound = record { ready = sound.ready; indexes = sound.indexes }
