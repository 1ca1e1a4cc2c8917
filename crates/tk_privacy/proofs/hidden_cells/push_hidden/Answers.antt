-- The front and both halves, each with a vector replaced, are the cell.
use Rattle.std.proofs.Common.{◌≡◌, ◌∙◌, ◌+◌, ◌-◌, ◌*◌, ◌++◌, ap, subst, refl, List, ℕ, OnOk}
use Rattle.tk_privacy.proofs.HidingLaws.{hidden_parts, in_second_half, replaced}
use Rattle.tk_privacy.proofs.hidden_cells.push_hidden.Goals as goal

pub push_replaced-requires-2 : goal.push_replaced-requires-2
push_replaced-requires-2 c =
    let each = c.piece_len-each.result in
    in_second_half c.args.shape.now c.args.hidden ((c.args.hidden - 1) * each + c.seed_len.result)
    c.vector_len-size.result each c.seed_len.result c.args.cell.now c.split_at.result.1.now
    c.split_at-2.result.1.now c.requires.low c.requires.high c.requires.whole c.split_at.ensures.back
    c.vector_len-size.ensures c.piece_len-each.ensures c.seed_len.ensures c.split_at-2.ensures.back refl

pub returns : goal.returns
returns c =
    let shape = c.args.shape.now in
    let read = c.args.read.now in
    let size = c.vector_len-size.result in
    let each = c.piece_len-each.result in
    let at = (c.args.hidden - 1) * each + c.seed_len.result in
    let all =
    ap (λ (other : List ℕ). c.push_replaced.new.out.items
    ++ replaced at size other c.split_at-2.result.1.now) c.as_slice-2.ensures
    ∙ hidden_parts shape c.args.hidden at size each c.seed_len.result read.first read.second c.args.cell.now
    c.args.out.now.items c.split_at.result.0.now c.split_at.result.1.now
    c.split_at-2.result.0.now c.split_at-2.result.1.now _ c.push_replaced.new.out.items
    c.requires.low c.requires.high c.requires.whole c.split_at.ensures.front
    c.split_at.ensures.back c.vector_len-size.ensures c.piece_len-each.ensures c.seed_len.ensures
    c.split_at-2.ensures.front
    c.split_at-2.ensures.back refl c.in_ok-extend_from_slice.ensures.items
    (c.in_ok-push_replaced.ensures
    ∙ ap (λ (one : List ℕ). c.extend_from_slice.new.self.items
    ++ replaced at size one c.split_at-2.result.0.now) c.as_slice.ensures)
    in
    subst (λ (bytes : List ℕ). OnOk c.push_replaced-2.result
    (c.push_replaced-2.new.out.items ≡ bytes)) all c.push_replaced-2.ensures
