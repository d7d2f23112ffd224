use Rattle.ux_locate.specs.Finding.{AreHitsBefore, AreKeptFor}
use Rattle.ux_locate.proofs.by_chart.hits_from_all.Given as goal

-- the hits are those from the starts so far
abbrev pub invariant-loop-start : goal.invariant-loop-start
invariant-loop-start l = record {
  kept : AreKeptFor l.search l.look_ups;
  hits : AreHitsBefore l.search l.start l.hits.items;
}
