use Rattle.std.proofs.Common.{◌≡◌, ℕ, IsCharBoundary, IsUtf8, List, ap, drop, string_bytes, subst, sym, take, ◌∙◌}
use Rattle.ux_inflect.specs.Refusing.{IsAccepted}
use Rattle.ux_net.specs.declared.net_graph.NetGraph.{NetGraph}
use Rattle.ux_paradigm.proofs.KeptLemmas.{ends_cut, kept_found, known_accepted, known_lines}
use Rattle.ux_paradigm.specs.Behind.{EndsAs}
use Rattle.ux_paradigm.specs.Kept.{IsKept, alone, lines_by}
use Rattle.ux_paradigm.specs.Lines.{AreLines}
use Rattle.ux_paradigm.proofs.paradigm.Paradigm.known_lines.Goals as goal

-- what is kept of the ending makes the lines
pub returns-in_ok-lines-in-Some : goal.returns-in_ok-lines-in-Some
returns-in_ok-lines-in-Some c =
    let stem = c.args.stem.now in
    let place = c.ending_place-place.result in
    let front = c.split_at.result.0.now in
    let ending = c.split_at.result.1.now in
    let tails = c.in-Some.tails.now.items in
    let text = string_bytes c.in_ok-lines-in-Some.lines in
    let net = c.self.inside.net in
    let utf8 : IsUtf8 stem.lemma = subst IsUtf8 c.as_str.ensures c.as_str.utf8 in
    let boundary : IsCharBoundary stem.lemma place =
    subst (λ (l : List ℕ). IsCharBoundary l place) c.as_str.ensures c.ending_place-place.ensures in
    let ends : EndsAs front stem (alone ending) =
    ends_cut stem place front ending utf8 boundary
    (c.split_at.ensures.front ∙ ap (take place) c.as_str-2.ensures)
    (c.split_at.ensures.back ∙ ap (drop place) c.as_str-2.ensures) in
    let kept : IsKept net ending tails =
    kept_found net ending c.in-Some.tails.now c.self.inside.kept.entries c.self.invariant
    (sym c.in-Some.ensures.value) in
    let lines : text ≡ lines_by front stem tails =
    c.in_ok-lines-in-Some.ensures ∙ ap (lines_by front stem) c.as_slice.ensures.value in
    record {
      accepted = subst (IsAccepted stem) c.self.view_is
          (known_accepted net front ending stem tails ends kept);
      lines = subst (λ (n : List NetGraph). AreLines stem n text) c.self.view_is
          (known_lines net front ending stem tails ends kept text lines);
    }
