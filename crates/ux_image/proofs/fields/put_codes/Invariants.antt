use Rattle.std.proofs.Common.{◌≡◌, ◌++◌, ◌<◌, ◌^◌, All, length, take}
use Rattle.std.specs.List.{flat_map}
use Rattle.ux_image.specs.Layout.{number_bytes, code_bytes, CodeFits}
use Rattle.ux_image.proofs.fields.put_codes.Given as goal

-- their number, and those so far
abbrev pub invariant-loop-code : goal.invariant-loop-code
invariant-loop-code l = record {
  bytes : l.bytes.items ≡ l.fn.bytes.items
      ++ (number_bytes (length l.codes) ++ flat_map code_bytes (take l.code-index l.codes));
  few : length l.codes < 2 ^ 32;
  fits : All CodeFits (take l.code-index l.codes);
}
