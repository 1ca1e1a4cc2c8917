-- What a set replies.
use Rattle.std.proofs.Common.{◌≡◌, ℕ, ap, ap₂, sym, ◌∙◌, List}
use Rattle.tk_shape.specs.declared.shape.Shape.{Shape}
use Rattle.tk_shape.specs.Lengths.{width}
use Rattle.tk_kernel.specs.Chosen.{chosen_sum}
use Rattle.tk_frames.specs.declared.entry.Placed.{Placed}
use Rattle.tk_frames.specs.declared.read_frame.ReadFrame.{ReadFrame}
use Rattle.tk_frames.specs.Fields.{read_in}
use Rattle.tk_frames.specs.Order.{before}
use Rattle.tk_frames.specs.Spelling.{reply_frame}
use Rattle.tk_frames.proofs.Offers.{read-again}
use Rattle.tk_table.specs.Table.{layout, blocks_of}
use Rattle.tk_table.specs.Replies.{reply_to}
use Rattle.tk_replica.specs.declared.epoch.Epoch.{Epoch}
use Rattle.tk_replica.specs.Epochs.{IsEpochOf}
use Rattle.tk_replica.specs.Replies.{asker_of, asker_reply, frame_over, reply_for, reply_due, reply_bytes}
use Rattle.tk_cluster.specs.Refusals.{SpellsRead}

-- the sums over the blocks that the writes before the mark of an epoch leave make the reply to a
-- read that names it
over-blocks : (shape : Shape) (E : List Placed) (e n : ℕ) (bs : List (List ℕ)) (r : ReadFrame) →
    n ≡ width shape → bs ≡ blocks_of (layout shape (before E e)) → r.epoch ≡ e →
    asker_reply (asker_of r) (chosen_sum n bs r.first) (chosen_sum n bs r.second)
    ≡ reply_for shape E r
over-blocks shape E e n bs r wide laid named =
    ap₂ (λ (m : ℕ) (ys : List (List ℕ)). record {
      client = r.client;
      turn = r.turn;
      epoch = r.epoch;
      first = chosen_sum m ys r.first;
      second = chosen_sum m ys r.second;
    }) wide laid
    ∙ ap (λ k. reply_to shape (before E k) r) (sym named)

-- and to the bytes that spell the read
pub reply-blocks : (shape : Shape) (E : List Placed) (e n : ℕ) (bs : List (List ℕ))
    (bytes : List ℕ) (r : ReadFrame) → n ≡ width shape →
    bs ≡ blocks_of (layout shape (before E e)) → r.epoch ≡ e → SpellsRead shape bytes r →
    reply_frame (asker_reply (asker_of r) (chosen_sum n bs r.first) (chosen_sum n bs r.second))
    ≡ reply_bytes shape E bytes
unfolding reply_due
reply-blocks shape E e n bs bytes r wide laid named spells =
    ap reply_frame (over-blocks shape E e n bs r wide laid named
    ∙ ap (reply_for shape E)
    (sym (ap (read_in shape) spells.spelled ∙ read-again shape r spells.in_range)))

-- an epoch of the order has the blocks that the writes before its mark leave, of the shape's width
pub epoch-wide : (shape : Shape) (E : List Placed) (e : ℕ) (epoch : Epoch) →
    IsEpochOf shape E e epoch → epoch.blocks.width ≡ width shape
epoch-wide shape E e epoch is = epoch.wide ∙ ap width is.stands.same

-- a reply over it is the reply to the bytes that spell the read
pub reply-over : (shape : Shape) (E : List Placed) (e : ℕ) (epoch : Epoch) (bytes : List ℕ)
    (r : ReadFrame) → IsEpochOf shape E e epoch → r.epoch ≡ e → SpellsRead shape bytes r →
    frame_over epoch r ≡ reply_bytes shape E bytes
reply-over shape E e epoch bytes r is named spells =
    reply-blocks shape E e epoch.blocks.width epoch.blocks.blocks bytes r
    (epoch-wide shape E e epoch is) is.stands.blocks named spells
