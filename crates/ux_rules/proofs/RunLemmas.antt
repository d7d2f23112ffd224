-- Runs put together, and runs of more steps.
use Rattle.std.proofs.Common.{◌≡◌, ◌≢◌, ℕ, List, [], ◌∷◌, ◌++◌, refl, subst}
use Rattle.std.specs.Prelude.{Contains}
use Rattle.ux_rules.specs.declared.step.Sign.{Sign}
use Rattle.ux_rules.specs.declared.step.Sign.TheVariants.{Free, If, Then, Read}
use Rattle.ux_rules.specs.declared.step.Step.{Step}
use Rattle.ux_rules.specs.Drafts.{said_by}
use Rattle.ux_rules.specs.Runs.{Run, stop, free, along}

-- one run after another
pub run_append : {steps : List Step} {a b c : ℕ} {v w : List Sign} → Run steps a b v →
    Run steps b c w → Run steps a c (v ++ w)
run_append stop k = k
run_append (free s here is h) k = free s here is (run_append h k)
run_append (along s here is h) k = along s here is (run_append h k)

-- a run of some steps is one of more
pub run_kept : {old new : List Step} {a b : ℕ} {w : List Sign} →
    ((s : Step) → Contains old s → Contains new s) → Run old a b w → Run new a b w
run_kept kept stop = stop
run_kept kept (free s here is h) = free s (kept s here) is (run_kept kept h)
run_kept kept (along s here is h) = along s (kept s here) is (run_kept kept h)

one_by : (steps : List Step) (s : Step) (sign : Sign) → Contains steps s → s.sign ≡ sign →
    Run steps s.from s.to (said_by sign)
one_by steps s Free here e = free s here e stop
one_by steps s If here e =
    subst (λ (x : Sign). Run steps s.from s.to (x ∷ [])) e (along s here (λ f. cc) stop)
one_by steps s Then here e =
    subst (λ (x : Sign). Run steps s.from s.to (x ∷ [])) e (along s here (λ f. cc) stop)
one_by steps s (Read test) here e =
    subst (λ (x : Sign). Run steps s.from s.to (x ∷ [])) e (along s here (λ f. cc) stop)

-- one step is a run
pub run_one : (steps : List Step) (s : Step) → Contains steps s →
    Run steps s.from s.to (said_by s.sign)
run_one steps s here = one_by steps s s.sign here refl

-- a sign that isn't free says itself
pub said_one : (sign : Sign) → sign ≢ Free → said_by sign ≡ sign ∷ []
said_one Free other = absurd (other refl)
said_one If other = refl
said_one Then other = refl
said_one (Read test) other = refl
