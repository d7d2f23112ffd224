use Rattle.std.proofs.Common.{◌≡◌, ◌++◌, All, take}
use Rattle.std.specs.List.{flat_map}
use Rattle.ux_image.specs.Layout.{list_bytes, ListFits}
use Rattle.ux_image.specs.Lent.{lent}
use Rattle.ux_image.proofs.image.put_lists.Given as goal

-- the lists so far
abbrev pub invariant-loop-list : goal.invariant-loop-list
invariant-loop-list l = record {
  bytes : l.bytes.items ≡ l.fn.bytes.items
      ++ flat_map list_bytes (lent (take l.list-index l.lists));
  fits : All ListFits (lent (take l.list-index l.lists));
}
