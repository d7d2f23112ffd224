use Rattle.ux_admission.proofs.LeadingLemmas.{leading_inside}
use Rattle.ux_admission.proofs.closers.push_closers.Goals as goal

pub closers_in-requires : goal.closers_in-requires
closers_in-requires c = record {
  inside = leading_inside c.args.places.now c.in_ok-leading.leading c.in_ok-leading.ensures;
}

pub returns : goal.returns
returns c = record {
  leading = c.in_ok-leading.leading;
  of_places = c.in_ok-leading.ensures;
  more = c.in_ok-more.more.items;
  behind = c.in_ok-append.ensures.items;
  closers = c.in_ok-more.ensures;
}
