-- A tape of format 2 is copied; of one of format 1 the read cells are lifted between the others.
use Rattle.std.proofs.Common.{◌≡◌, ◌++◌, ◌∙◌, List, ℕ, ◌*◌, ap₂, sym, take, drop, flat_map}
use Rattle.std.proofs.lemmas.Bool.{eq-eqb, ne_eqb}
use Rattle.std.proofs.lemmas.List.{drop-drop}
use Rattle.tk_shape.specs.Lengths.{turn_count, read_cell_len}
use Rattle.tk_kernel.specs.Pieces.{pieces}
use Rattle.tk_words.specs.Words.{write_cells_len, read_cells_len, write_part, read_part, keyed_part}
use Rattle.tk_words.specs.Lifting.{lifted_read_cell}
use Rattle.tk_words.proofs.LiftedTape.{lifted_one, lifted_two}
use Rattle.tk_words.proofs.lifting.lifted_bytes.Goals as goal

pub returns-then-shape-eq2 : goal.returns-then-shape-eq2
returns-then-shape-eq2 c =
    let shape = c.args.shape.now in
    c.in_ok-extend_from_slice.ensures.items
    ∙ ap₂ (λ (xs ys : List ℕ). xs ++ ys) c.new-out.ensures.items c.as_bytes.ensures
    ∙ sym (lifted_two shape c.args.tape.now (eq-eqb shape.format 2 c.if-shape-eq2.true))

pub returns : goal.returns
returns c =
    let shape = c.args.shape.now in
    let tape = c.args.tape.now in
    let writes : c.split_at.result.0.now ≡ write_part shape tape =
    c.split_at.ensures.front ∙ ap₂ (λ n (xs : List ℕ). take n xs) c.write_cells_len.ensures c.as_bytes-2.ensures
    in
    let rest : c.split_at.result.1.now ≡ drop (write_cells_len shape) tape =
    c.split_at.ensures.back ∙ ap₂ (λ n (xs : List ℕ). drop n xs) c.write_cells_len.ensures c.as_bytes-2.ensures
    in
    let reads : c.split_at-2.result.0.now ≡ read_part shape tape =
    c.split_at-2.ensures.front ∙ ap₂ (λ n (xs : List ℕ). take n xs) c.read_cells_len.ensures rest
    in
    let keyed : c.split_at-2.result.1.now ≡ keyed_part shape tape =
    c.split_at-2.ensures.back ∙ ap₂ (λ n (xs : List ℕ). drop n xs) c.read_cells_len.ensures rest
    ∙ drop-drop (read_cells_len shape) (write_cells_len shape) tape
    in
    c.in_ok-extend_from_slice-3.ensures.items
    ∙ ap₂ (λ (xs ys : List ℕ). xs ++ ys)
    (c.in_ok-push_read_cells.ensures
    ∙ ap₂ (λ (xs ys : List ℕ). xs ++ flat_map (lifted_read_cell shape)
    (pieces (read_cell_len shape) (turn_count shape * shape.clients) ys))
    (c.in_ok-extend_from_slice-2.ensures.items ∙ ap₂ (λ (xs ys : List ℕ). xs ++ ys) c.new-out.ensures.items writes)
    reads)
    keyed
    ∙ sym (lifted_one shape tape (ne_eqb shape.format 2 c.if-shape-eq2.false))
