use Rattle.std.proofs.Common.{◌≡◌, take}
use Rattle.std.specs.Prelude.{map}
use Rattle.ux_elag.proofs.numbering.numbered_links.Given as goal

abbrev pub invariant-loop-index : goal.invariant-loop-index
invariant-loop-index l = record {
  froms : map (λ one. one.from) l.found.items ≡ map (λ link. link.from) (take l.index l.links);
  tos : map (λ one. one.to) l.found.items ≡ map (λ link. link.to) (take l.index l.links);
  readings : map (λ one. one.reading) l.found.items ≡ map (λ n. n) (take l.index l.places);
}
