-- The front and the back of a piece come after those of the pieces before it.
use Rattle.std.proofs.Common.{◌≡◌, ◌+◌, ◌-◌, ◌*◌, ◌++◌, ◌∙◌, length, take, drop, ap, sym, subst, arith}
use Rattle.std.specs.List.{flat_map}
use Rattle.tk_kernel.specs.Pieces.{pieces}
use Rattle.tk_words.proofs.Written.{part_written, pieces_left}
use Rattle.tk_words.proofs.cells.take_apart.Goals as goal

pub pieces-preserved : goal.pieces-preserved
pieces-preserved c =
    let size = c.args.halves.front + c.args.halves.back in
    let i = c.pieces.i in
    let count = c.args.count in
    let rest = c.pieces.rest.now in
    let low = c.pieces-test.true in
    let behind = c.split_at.result.1.now in
    let is_behind = c.split_at.ensures.back in
    let one = c.split_at-in-pieces.result.0.now in
    let other = c.split_at-in-pieces.result.1.now in
    let fronts_long : length c.pieces.fronts ≡ count * c.args.halves.front = c.pieces.auto.fronts ∙ c.requires.fronts_room in
    let backs_long : length c.pieces.backs ≡ count * c.args.halves.back = c.pieces.auto.backs ∙ c.requires.backs_room in
    let one_long : length one ≡ c.args.halves.front = c.split_at-in-pieces.ensures.front_len in
    let other_long : length other ≡ c.args.halves.back =
    omega (arith, c.split_at-in-pieces.ensures.back_len, c.split_at.ensures.front_len)
    in (
      pieces_left size i count (length rest) (length behind) low c.pieces.invariant.0 c.split_at.ensures.back_len,
      subst (λ xs. take ((i + 1) * c.args.halves.front) c.put.new.bytes ++ flat_map (take c.args.halves.front) (pieces size (count - (i + 1)) xs)
          ≡ flat_map (take c.args.halves.front) (pieces size count c.args.bytes.now)) (sym is_behind)
          (part_written (take c.args.halves.front) c.args.halves.front size i count c.pieces.fronts c.put.new.bytes one rest _ low fronts_long
          c.put.ensures
          (c.split_at-in-pieces.ensures.front ∙ ap (take c.args.halves.front) c.split_at.ensures.front)
          one_long c.pieces.invariant.1),
      subst (λ xs. take ((i + 1) * c.args.halves.back) c.put-in-pieces.new.bytes ++ flat_map (drop c.args.halves.front) (pieces size (count - (i + 1)) xs)
          ≡ flat_map (drop c.args.halves.front) (pieces size count c.args.bytes.now)) (sym is_behind)
          (part_written (drop c.args.halves.front) c.args.halves.back size i count c.pieces.backs c.put-in-pieces.new.bytes other rest _ low backs_long
          c.put-in-pieces.ensures
          (c.split_at-in-pieces.ensures.back ∙ ap (drop c.args.halves.front) c.split_at.ensures.front)
          other_long c.pieces.invariant.2),
    )
