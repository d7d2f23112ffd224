use Rattle.std.proofs.Common.{◌≡◌, ◌∷◌, ◌++◌, [], ℕ, take, string_bytes}
use Rattle.std.specs.List.{flat_map}
use Rattle.ux_fst2.specs.Masks.{behind_sign}
use Rattle.ux_fst2.proofs.masks.put_behind.Given as goal

-- the names so far
abbrev pub invariant-loop-name : goal.invariant-loop-name
invariant-loop-name l = (byte : ℕ) → l.sign ≡ byte ∷ [] →
    string_bytes l.out ≡ string_bytes l.fn.out
    ++ flat_map (behind_sign byte) (take l.name-index l.names)
