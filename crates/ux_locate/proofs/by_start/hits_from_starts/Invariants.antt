use Rattle.std.specs.Prelude.{◌≡◌}
use Rattle.ux_locate.specs.Finding.{AreKeptFor, IsFoundBefore, IsHitFrom, setting_in}
use Rattle.ux_locate.specs.Keeping.{AreKept, first_of, last_of}
use Rattle.ux_locate.proofs.by_start.hits_from_starts.Given as goal

-- the hits are those that the policy keeps of the ones from the starts so far
abbrev pub invariant-loop-start : goal.invariant-loop-start
invariant-loop-start g l = record {
  same : g.E.Ends.setting l.finder ≡ setting_in l.search;
  kept : AreKeptFor l.search l.look_ups;
  hits : AreKept l.search.policy first_of last_of
      (IsFoundBefore l.search.masked.now.text.now (IsHitFrom l.search) l.start) l.hits.items;
}
