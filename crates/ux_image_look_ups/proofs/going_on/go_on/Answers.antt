use Rattle.std.proofs.Common.{arith, ◌≡◌, ◌↔◌, List, ℕ, [], ◌∷◌, ◌++◌, subst, sym, ◌∙◌}
use Rattle.std.specs.Prelude.{Contains}
use Rattle.std.specs.Str.{chars}
use Rattle.std.proofs.lemmas.Bool.{false≢true}
use Rattle.std.proofs.lemmas.Iterator.{YieldsList-from_chars}
use Rattle.std.proofs.lemmas.Iterator.Consumers.{YieldsList-end}
use Rattle.std.proofs.lemmas.List.{append-nil, append_assoc, map-id}
use Rattle.ux_alphabet.specs.Letters.{Letters}
use Rattle.ux_image_look_ups.specs.Steps.{GoesFrom}
use Rattle.ux_image_look_ups.specs.Ways.{LeadsBy}
use Rattle.ux_image_look_ups.proofs.PathLemmas.{leads_next}
use Rattle.ux_image_look_ups.proofs.going_on.go_on.Goals as goal

pub loop-c-init : goal.loop-c-init
loop-c-init c front leads =
    subst (λ (l : List ℕ). LeadsBy c.args.states.now c.args.alphabet.now l c.in_ok-next.next)
    (sym (append-nil front))
    (subst (LeadsBy c.args.states.now c.args.alphabet.now front) (sym c.in_ok-next.ensures) leads)

pub loop-c-preserved-then-has_state : goal.loop-c-preserved-then-has_state
loop-c-preserved-then-has_state c front leads =
    let states = c.args.states.now in
    let alphabet = c.args.alphabet.now in
    subst (λ (l : List ℕ). LeadsBy states alphabet l c.in_ok-next-2.next)
    (append_assoc front c.loop-c.yielded (c.in-Some.c ∷ []))
    (leads_next states c.requires.automaton c.requires.forms alphabet (front ++ c.loop-c.yielded)
    c.in-Some.c c.loop-c.next c.in_ok-next-2.next (c.loop-c.invariant front leads)
    (subst (λ (a : Letters). (t : ℕ) → Contains c.in_ok-next-2.next t
    ↔ GoesFrom states a c.in-Some.c c.loop-c.next t) c.of.ensures.alphabet
    (subst (λ k. (t : ℕ) → Contains c.in_ok-next-2.next t
    ↔ GoesFrom states c.of.result.alphabet.now k c.loop-c.next t) c.of.ensures.c
    c.in_ok-next-2.ensures)))

-- where no state is left, no character leads on
pub loop-c-preserved : goal.loop-c-preserved
loop-c-preserved c front leads =
    let states = c.args.states.now in
    let alphabet = c.args.alphabet.now in
    let place = c.loop-c.next in
    let never : (t : ℕ) → Contains place t → ⊥ = λ t (n, inside, is).
    false≢true (sym c.if-has_state.false ∙ c.has_state.ensures.1 (omega (arith, inside))) in
    subst (λ (l : List ℕ). LeadsBy states alphabet l place)
    (append_assoc front c.loop-c.yielded (c.in-Some.c ∷ []))
    (leads_next states c.requires.automaton c.requires.forms alphabet (front ++ c.loop-c.yielded)
    c.in-Some.c place place (c.loop-c.invariant front leads)
    (λ t. (λ has. absurd (never t has), λ (source, has, goes). absurd (never source has))))

-- all characters were met
pub returns : goal.returns
returns c =
    let t = YieldsList-end (YieldsList-from_chars c.args.text.now c.utf8.text cc) c.loop-c.yielded _
    c.loop-c.yielded_by _ _ c.in-None.is c.next.ensures.steps in
    let whole : c.loop-c.yielded ≡ chars c.args.text.now =
    sym (map-id c.loop-c.yielded) ∙ t.0 in
    λ front leads.
    subst (λ (l : List ℕ). LeadsBy c.args.states.now c.args.alphabet.now (front ++ l) c.loop-c.next)
    whole (c.loop-c.invariant front leads)
