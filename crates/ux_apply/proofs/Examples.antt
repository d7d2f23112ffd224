-- Small cases of the definitions, worked by hand.
use Rattle.std.proofs.Common.{arith, ◌≡◌, ℕ, zero, suc, ◌<◌, get_or, refl, inl}
use Rattle.std.specs.Prelude.{Contains, codes}
use Rattle.ux_apply.specs.declared.priority.Priority.TheVariants.{High, Low}
use Rattle.ux_apply.specs.Names.{DOT, IsPriorityOf}

-- no dot stands in an extension of three letters
no_dot_at : (k : ℕ) → k < 3 → get_or (codes "dic") k DOT ≡ DOT → ⊥
no_dot_at zero lt at = omega (arith, at)
no_dot_at (suc zero) lt at = omega (arith, at)
no_dot_at (suc (suc zero)) lt at = omega (arith, at)
no_dot_at (suc (suc (suc k))) lt at = omega (arith, lt)

no_dot : Contains (codes "dic") DOT → ⊥
no_dot has = no_dot_at has.0 has.1 has.2

-- a hyphen before the extension gives high priority
hyphen : IsPriorityOf (codes "proper-.dic") High
hyphen = (codes "proper-", inl (codes "dic", refl, no_dot), (codes "proper", refl))

-- and a plus sign low priority
plus : IsPriorityOf (codes "rare+.dic") Low
plus = (codes "rare+", inl (codes "dic", refl, no_dot), (codes "rare", refl))
