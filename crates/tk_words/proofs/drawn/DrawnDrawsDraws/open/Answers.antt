use Rattle.std.proofs.Common.{◌<◌, ◌^◌, ◌∙◌, length, arith}
use Rattle.std.proofs.lemmas.Option.{IfSome_then}
use Rattle.tk_seal.proofs.Offers.{closed_by_mark, opened_by_reading, closed_by_reading, IfNone_then, marks_differ, marks_agree}
use Rattle.tk_words.proofs.CellOpening.{opened-cell}
use Rattle.tk_words.proofs.drawn.DrawnDrawsDraws.open.Goals as goal

pub returns-then-ne-clause-none : goal.returns-then-ne-clause-none
returns-then-ne-clause-none c =
    let pad = c.pad_and_tag.result.0.now in
    let tag = c.pad_and_tag.result.1.now in
    let masked = c.split_at.result.0.now in
    let mark = c.split_at.result.1.now in
    let high = c.args.self.now.shape.in_range.block_high in
    let small : length pad < 2 ^ 16 = omega (arith, c.pad_and_tag.ensures.pad_len) in
    let as_read =
    opened-cell c.args.self.now.shape c.args.self.now.tape c.args.log c.args.number c.keyed_cell.result.now pad tag c.args.block.now masked mark
    c.keyed_cell.ensures.cell c.pad_and_tag.ensures.pad c.pad_and_tag.ensures.tag c.split_at.ensures.by_index.0 in
    as_read ∙ closed_by_mark pad (λ m. tag) masked mark c.split_at.ensures.front_len small (marks_differ mark tag c.if-ne.ensures)

pub returns-clause-text : goal.returns-clause-text
returns-clause-text c =
    let pad = c.pad_and_tag.result.0.now in
    let tag = c.pad_and_tag.result.1.now in
    let masked = c.split_at.result.0.now in
    let mark = c.split_at.result.1.now in
    let as_read =
    opened-cell c.args.self.now.shape c.args.self.now.tape c.args.log c.args.number c.keyed_cell.result.now pad tag c.args.block.now masked mark
    c.keyed_cell.ensures.cell c.pad_and_tag.ensures.pad c.pad_and_tag.ensures.tag c.split_at.ensures.by_index.0 in
    IfSome_then c.unmask.result
    (opened_by_reading pad (λ m. tag) masked mark c.unmask.new.out c.unmask.result c.split_at.ensures.front_len (marks_agree mark tag c.if-ne.ensures) c.unmask.ensures.text)
    (λ n e. as_read ∙ e)

pub returns-clause-none : goal.returns-clause-none
returns-clause-none c =
    let pad = c.pad_and_tag.result.0.now in
    let tag = c.pad_and_tag.result.1.now in
    let masked = c.split_at.result.0.now in
    let mark = c.split_at.result.1.now in
    let high = c.args.self.now.shape.in_range.block_high in
    let small : length pad < 2 ^ 16 = omega (arith, c.pad_and_tag.ensures.pad_len) in
    let as_read =
    opened-cell c.args.self.now.shape c.args.self.now.tape c.args.log c.args.number c.keyed_cell.result.now pad tag c.args.block.now masked mark
    c.keyed_cell.ensures.cell c.pad_and_tag.ensures.pad c.pad_and_tag.ensures.tag c.split_at.ensures.by_index.0 in
    IfNone_then c.unmask.result (closed_by_reading pad (λ m. tag) masked mark c.unmask.result c.split_at.ensures.front_len small c.unmask.ensures.none)
    (λ e. as_read ∙ e)
