-- The next cell comes after those before it.
use Rattle.std.proofs.Common.{◌≡◌, ◌+◌, ◌-◌, ◌*◌, ◌++◌, ◌∙◌, length, ap, ap₂, sym, subst, flat_map}
use Rattle.tk_kernel.specs.Pieces.{pieces}
use Rattle.tk_words.specs.Lifting.{lifted_read_cell}
use Rattle.tk_words.proofs.Written.{part_appended, pieces_left, one_left, all_appended}
use Rattle.tk_words.proofs.lifting.push_read_cells.Goals as goal

pub split_at-requires : goal.split_at-requires
split_at-requires c =
    one_left c.read_cell_len-size.result c.cells.counter (c.turns.result * c.args.shape.now.clients)
    (length c.cells.rest.now) c.cells-test.true c.cells.invariant.0

pub cells-preserved : goal.cells-preserved
cells-preserved c =
    let shape = c.args.shape.now in
    let size = c.read_cell_len-size.result in
    let i = c.cells.counter in
    let count = c.turns.result * shape.clients in
    let rest = c.cells.rest.now in
    let new = c.push_read_cell.new.out.items in
    let all = c.args.out.now.items ++ flat_map (lifted_read_cell shape) (pieces size count c.args.cells.now) in (
      pieces_left size i count (length rest) (length c.split_at.result.1.now) c.cells-test.true
          c.cells.invariant.0 c.split_at.ensures.back_len,
      subst (λ xs. new ++ flat_map (lifted_read_cell shape) (pieces size (count - (i + 1)) xs) ≡ all)
          (sym c.split_at.ensures.back)
          (part_appended (lifted_read_cell shape) size i count c.cells.out.items new
          (lifted_read_cell shape c.split_at.result.0.now) rest all c.cells-test.true c.in_ok-push_read_cell.ensures
          (ap (lifted_read_cell shape) c.split_at.ensures.front) c.cells.invariant.1),
    )

pub returns : goal.returns
returns c =
    let shape = c.args.shape.now in
    all_appended (lifted_read_cell shape) c.read_cell_len-size.result c.cells.counter
    (c.turns.result * shape.clients) c.cells.out.items c.cells.rest.now _ c.cells-test.false c.cells.invariant.1
    ∙ ap₂ (λ size n. c.args.out.now.items ++ flat_map (lifted_read_cell shape)
    (pieces size (n * shape.clients) c.args.cells.now)) c.read_cell_len-size.ensures c.turns.ensures.count
