use Rattle.std.proofs.Common.{arith, ◌≤◌, ◌++◌, ℕ, List, length, refl, sym, ◌∙◌, ap, inl, string_bytes}
use Rattle.std.proofs.lemmas.List.{append-nil}
use Rattle.ux_base.proofs.Lists.{take_whole}
use Rattle.ux_sentence.specs.Written.{ended, sentence_line, link_lines}
use Rattle.ux_sentence.specs.declared.sentence.Link.{Link}
use Rattle.ux_sentence.proofs.PrintLemmas.{lines_more}
use Rattle.ux_sentence.proofs.printing.print_sentence.Goals as goal

pub loop-link-init : goal.loop-link-init
loop-link-init c =
    let s = c.args.sentence.now in
    c.in_ok-push_sentence.ensures
    ∙ ap (λ (t : List ℕ). string_bytes c.args.file.now ++ t)
    (sym (append-nil (ended (sentence_line s.number s.states (length s.links)))))

pub loop-link-preserved : goal.loop-link-preserved
loop-link-preserved c =
    let s = c.args.sentence.now in
    lines_more s.links c.as_slice-link-items.result.now c.loop-link.link-index
    c.link-item.result (string_bytes c.args.file.now) (string_bytes c.loop-link.file)
    (string_bytes c.push_link.new.file)
    (ended (sentence_line s.number s.states (length s.links))) c.as_slice-link-items.ensures
    c.loop-link-test.true c.link-item.is c.loop-link.invariant c.in_ok-push_link.ensures

pub returns : goal.returns
returns c =
    let s = c.args.sentence.now in
    let head = ended (sentence_line s.number s.states (length s.links)) in
    let all : length s.links ≤ c.loop-link.link-index =
    omega (arith, ap length c.as_slice-link-items.ensures, c.loop-link-test.false) in (
      head ++ link_lines s.links,
      inl (c.in_ok-has_path.ensures.0 c.if-not-branch.false, refl),
      c.loop-link.invariant
          ∙ ap (λ (ls : List Link). string_bytes c.args.file.now ++ (head ++ link_lines ls))
          (take_whole s.links c.loop-link.link-index all),
    )
