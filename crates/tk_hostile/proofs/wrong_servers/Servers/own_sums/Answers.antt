-- A vector has a bit for each bucket.
use Rattle.std.proofs.Common.{◌∙◌, ℕ, ◌*◌, List, ap, sym, length}
use Rattle.tk_shape.proofs.Offers.{vector_bits}
use Rattle.tk_bucket.specs.Bytes.{BlockList}
use Rattle.tk_hostile.proofs.wrong_servers.Servers.own_sums.Goals as goal

pub answer-requires-clause-count : goal.answer-requires-clause-count
answer-requires-clause-count c κs =
    let shape = c.args.self.now.replies.now.shape in
    ap (λ (v : List ℕ). 8 * length v) c.as_slice.ensures
    ∙ ap (λ n. 8 * n) c.requires.asked.first_len
    ∙ sym (vector_bits shape)
    ∙ sym (c.requires.left.1).counted
    ∙ ap (λ (b : BlockList). length b.blocks) (sym c.blocks-blocks.ensures)

pub answer-requires-2-clause-count : goal.answer-requires-2-clause-count
answer-requires-2-clause-count c κs =
    let shape = c.args.self.now.replies.now.shape in
    ap (λ (v : List ℕ). 8 * length v) c.as_slice-2.ensures
    ∙ ap (λ n. 8 * n) c.requires.asked.second_len
    ∙ sym (vector_bits shape)
    ∙ sym (c.requires.left.1).counted
    ∙ ap (λ (b : BlockList). length b.blocks) (sym c.blocks-blocks.ensures)
