use Rattle.std.proofs.Common.{◌∙◌, ap, ◌++◌, ◌∷◌, [], List, ℕ, string_bytes, flat_map}
use Rattle.ux_fst2_file.specs.Lines.{END}
use Rattle.ux_fst2_file.specs.Fields.{SPACE}
use Rattle.ux_fst2_file.specs.Printed.{ended, head_text, state_line_text}
use Rattle.ux_fst2_file.specs.declared.file.Fst2State.{Fst2State}
use Rattle.ux_fst2_file.proofs.PrintLemmas.{graph_put}
use Rattle.ux_fst2_file.proofs.printing.put_graph.Goals as goal

pub returns : goal.returns
returns c =
    graph_put (string_bytes c.args.text.now) (string_bytes c.put_head.new.text)
    (string_bytes c.put_states.new.text) (string_bytes c.push_str.new.self)
    (head_text c.args.number c.args.graph.now.name) (END ++ SPACE ∷ []) c.args.graph.now.states
    (c.in_ok-put_head.ensures
    ∙ ap (λ (n : List ℕ). string_bytes c.args.text.now ++ ended (head_text c.args.number n))
    c.as_str.ensures)
    (c.in_ok-put_states.ensures
    ∙ ap (λ (s : List Fst2State). string_bytes c.put_head.new.text ++ flat_map state_line_text s)
    c.as_slice.ensures)
    c.in_ok-push_str.ensures.bytes
