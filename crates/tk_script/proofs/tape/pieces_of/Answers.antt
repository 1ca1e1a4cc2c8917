-- Each line is its piece, up to the one that ends them.
use Rattle.std.proofs.Common.{◌≡◌, ◌++◌, ◌+◌, ◌-◌, ◌^◌, codes, length, take, min, refl, rules}
use Rattle.tk_script.specs.Pieces.{piece_bytes}
use Rattle.tk_script.specs.Reading.{alone, read_piece}
use Rattle.tk_script.specs.Stands.{stands}
use Rattle.tk_script.proofs.AnswerLaws.{refused_as, told_refused}
use Rattle.tk_script.proofs.PlaceLaws.{end_early, end_here, end_refused, read_ok, read_err}
use Rattle.tk_script.proofs.TapeSoFar.{so_far_refused, so_far_done, so_far_more}
use Rattle.tk_script.proofs.tape.pieces_of.Goals as goal

pub returns-in_err-line : goal.returns-in_err-line
returns-in_err-line c = search (rules, told_refused, so_far_refused, end_early)

pub returns-then-is_end : goal.returns-then-is_end
returns-then-is_end c =
    let end : c.in_ok-line.line.now ≡ codes "end" = search rules in
    let s = c.pieces.invariant.so_far in
    so_far_done c.args.want (stands c.args.start) (stands c.pieces.here) c.pieces.kept.items
    c.pieces.got s (stands c.in_ok-line.behind)
    (record { bytes = c.from_vec-bytes.result; got = c.pieces.got })
    (end_here (alone read_piece) s.parts (stands c.pieces.here) c.in_ok-line.line.now
    (stands c.in_ok-line.behind)
    (record { number = c.in_ok-line.ensures.number; lines = c.in_ok-line.ensures.line }) end
    s.parts refl)
    c.from_vec-bytes.ensures refl

pub returns-in-Err : goal.returns-in-Err
returns-in-Err c = search (rules, refused_as, so_far_refused, end_refused, read_err)

pub pieces-preserved : goal.pieces-preserved
pieces-preserved c =
    let other : c.in_ok-line.line.now ≡ codes "end" → ⊥ = search rules in
    let keeps : c.append_to.new.kept.items ≡ c.pieces.kept.items ++ take
    (c.args.want - length c.pieces.kept.items) (piece_bytes c.in-Ok.piece)
    = search rules
    in
    let counts : c.saturating_add-got.result ≡ min (c.pieces.got + length
    (piece_bytes c.in-Ok.piece)) (2 ^ 64 - 1) = search rules in
    let more = so_far_more c.args.want (stands c.args.start) (stands c.pieces.here)
    c.pieces.kept.items c.pieces.got c.pieces.invariant.so_far c.in_ok-line.line.now
    (stands c.in_ok-line.behind) (piece_bytes c.in-Ok.piece) c.append_to.new.kept.items
    c.saturating_add-got.result
    (record { number = c.in_ok-line.ensures.number; lines = c.in_ok-line.ensures.line }) other
    (read_ok piece_bytes c.in_ok-piece.field-0 c.in-Ok.piece (read_piece c.in_ok-line.line.now)
    c.in-Ok.is c.in_ok-piece.ensures)
    keeps counts
    in
    record { so_far = more }

pub pieces-preserved-in_ok-append_to : goal.pieces-preserved-in_ok-append_to
pieces-preserved-in_ok-append_to c =
    let other : c.in_ok-line.line.now ≡ codes "end" → ⊥ = search rules in
    let keeps : c.append_to.new.kept.items ≡ c.pieces.kept.items ++ take
    (c.args.want - length c.pieces.kept.items) (piece_bytes c.in-Ok.piece)
    = search rules
    in
    let counts : c.saturating_add-got.result ≡ min (c.pieces.got + length
    (piece_bytes c.in-Ok.piece)) (2 ^ 64 - 1) = search rules in
    let more = so_far_more c.args.want (stands c.args.start) (stands c.pieces.here)
    c.pieces.kept.items c.pieces.got c.pieces.invariant.so_far c.in_ok-line.line.now
    (stands c.in_ok-line.behind) (piece_bytes c.in-Ok.piece) c.append_to.new.kept.items
    c.saturating_add-got.result
    (record { number = c.in_ok-line.ensures.number; lines = c.in_ok-line.ensures.line }) other
    (read_ok piece_bytes c.in_ok-piece.field-0 c.in-Ok.piece (read_piece c.in_ok-line.line.now)
    c.in-Ok.is c.in_ok-piece.ensures)
    keeps counts
    in
    record { so_far = more }
