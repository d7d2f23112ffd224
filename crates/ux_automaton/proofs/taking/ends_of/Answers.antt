use Rattle.std.proofs.Common.{◌↔◌, ℕ, [], sym, subst}
use Rattle.std.specs.Prelude.{Contains, IfOk}
use Rattle.std.proofs.lemmas.List.Elements.{Contains-push}
use Rattle.ux_mask_table.specs.MaskedTexts.{accepts_in}
use Rattle.ux_net.specs.declared.label.Label.{Label}
use Rattle.ux_net.specs.Masks.{masks_of_label}
use Rattle.ux_walk.specs.Settings.{masked_setting}
use Rattle.ux_automaton.specs.Targets.{Takes}
use Rattle.ux_automaton.proofs.CacheLemmas.{through}
use Rattle.ux_automaton.proofs.Results.{if_ok}
use Rattle.ux_automaton.proofs.taking.ends_of.Goals as goal

pub returns-in-CaseFolded : goal.returns-in-CaseFolded
returns-in-CaseFolded c = subst (λ (x : Label). IfOk c.listed.result (λ ends. (k : ℕ) →
    Contains ends.items k ↔ Takes (masked_setting c.args.masked.now) x c.args.at k)) (sym c.in-CaseFolded.is)
    (if_ok c.listed.result _ _ (λ ends exact k. through (exact k)
    (through (rw c.as_str.ensures at c.after_fold.ensures k) (λ t. (tt, t), λ t. t.1))) c.listed.ensures)

pub returns-in-CaseExact : goal.returns-in-CaseExact
returns-in-CaseExact c = subst (λ (x : Label). IfOk c.listed-in-CaseExact.result (λ ends. (k : ℕ) →
    Contains ends.items k ↔ Takes (masked_setting c.args.masked.now) x c.args.at k)) (sym c.in-CaseExact.is)
    (if_ok c.listed-in-CaseExact.result _ _ (λ ends exact k. through (exact k)
    (through (rw c.as_str-in-CaseExact.ensures at c.after_exact.ensures k) (λ t. (tt, t), λ t. t.1))) c.listed-in-CaseExact.ensures)

pub returns-in-Brace : goal.returns-in-Brace
returns-in-Brace c = subst (λ (x : Label). IfOk c.listed-in-Brace.result (λ ends. (k : ℕ) →
    Contains ends.items k ↔ Takes (masked_setting c.args.masked.now) x c.args.at k)) (sym c.in-Brace.is)
    (if_ok c.listed-in-Brace.result _ _ (λ ends exact k. through (exact k)
    (through (rw c.as_str-in-Brace.ensures at c.after_brace.ensures k) (λ t. (tt, t), λ t. t.1))) c.listed-in-Brace.ensures)

pub returns-in-Space : goal.returns-in-Space
returns-in-Space c = subst (λ (x : Label). IfOk c.listed-in-Space.result (λ ends. (k : ℕ) →
    Contains ends.items k ↔ Takes (masked_setting c.args.masked.now) x c.args.at k)) (sym c.in-Space.is)
    (if_ok c.listed-in-Space.result _ _ (λ ends exact k. through (exact k)
    (through (c.after_space.ensures k) (λ t. (tt, t), λ t. t.1))) c.listed-in-Space.ensures)

pub returns-in-Mask : goal.returns-in-Mask
returns-in-Mask c = subst (λ (x : Label). IfOk c.mask_ends.result (λ ends. (k : ℕ) →
    Contains ends.items k ↔ Takes (masked_setting c.args.masked.now) x c.args.at k)) (sym c.in-Mask.is)
    (if_ok c.mask_ends.result _ _ (λ ends exact k. through
    (subst (λ n. Contains ends.items k ↔ accepts_in c.args.masked.now c.in-Mask.mask n k)
    c.skip.ensures (exact k)) (λ t. (tt, t), λ t. t.1)) c.mask_ends.ensures.exactly)

pub mask_ends-requires-clause-mask : goal.mask_ends-requires-clause-mask
mask_ends-requires-clause-mask c = c.requires.known.mask c.in-Mask.mask
    (subst (λ (x : Label). Contains (masks_of_label x) c.in-Mask.mask) (sym c.in-Mask.is)
    (Contains-push [] c.in-Mask.mask))
