use Rattle.ux_automaton.specs.Kept.{store_of}
use Rattle.ux_automaton.proofs.SlotsLemmas.{nothing_given}
use Rattle.ux_automaton.proofs.StoreLemmas.{first_right}
use Rattle.ux_automaton.proofs.kept.Kept.new.Goals as goal

pub returns : goal.returns
returns c = λ setting. record {
  sound = c.in_ok-first.ensures.grows.sound;
  first = first_right (store_of c.front_of.new.self) c.in_ok-first.first
      c.in_ok-first.ensures.there c.in_ok-first.ensures.stands;
  closures = λ is_spaced front closed has. absurd (c.new.ensures is_spaced front closed has);
  transitions = λ transition has. absurd (c.in_ok-new.ensures transition has);
  barred = λ number kind has. absurd (nothing_given _ c.new-3.ensures.items number kind has);
}
