-- The vector that completes them comes after the drawn vectors.
use Rattle.std.proofs.Common.{refl, ◌∙◌, ap, ap₂, ◌++◌, ◌-◌, ◌%◌, arith}
use Rattle.tk_shape.specs.Lengths.{vector_len}
use Rattle.tk_shape.proofs.Offers.{vector_bits}
use Rattle.tk_kernel.specs.Pieces.{all_pieces}
use Rattle.tk_bits.specs.Shares.{last_share}
use Rattle.tk_client.proofs.AskingLaws.{vector_some, whole_vectors, completed_behind}
use Rattle.tk_client.proofs.query.complete.Goals as goal

pub share-requires-clause-in_vector : goal.share-requires-clause-in_vector
share-requires-clause-in_vector c =
    let bits = vector_bits c.args.shape.now in
    omega (arith, bits, c.requires.bucket_in, c.requires.room)

pub share-requires-clause-whole : goal.share-requires-clause-whole
share-requires-clause-whole c =
    let shape = c.args.shape.now in
    ap₂ (λ n k. n % k) c.requires.whole c.requires.room
    ∙ whole_vectors (shape.servers - 1) (vector_len shape) (vector_some shape)

pub returns : goal.returns
returns c =
    let shape = c.args.shape.now in
    let size = vector_len shape in
    let drawn = c.args.drawn.now in
    let last = c.share.new.last in
    let whole =
    ap (λ n. n % size) c.requires.whole ∙ whole_vectors (shape.servers - 1) size (vector_some shape)
    in
    let share_is =
    c.share.ensures
    ∙ ap (λ n. last_share n c.args.bucket (all_pieces n drawn)) c.requires.room
    in
    record {
      vectors =
          completed_behind size c.args.bucket drawn last (drawn ++ last) (vector_some shape) whole
          (c.share.auto.last ∙ c.requires.room) share_is refl;
    }
