-- The replies to a client's read: the hidden server's own, and the chosen ones.
use Rattle.std.proofs.Common.{◌≡◌, ◌≢◌, ap, sym, ◌∙◌, arith, ℕ, ◌+◌, ◌-◌, ◌≤◌, List, [], ◌∷◌, ◌++◌, map, length}
use Rattle.std.proofs.Common.{cond, eq-eqb, ne_eqb}
use Rattle.std.specs.List.{range_with_len}
use Rattle.std.proofs.lemmas.List.{length-map}
use Rattle.std.proofs.lemmas.List.FromFn.{length-map-range_with_len, map-range_with_len_more}
use Rattle.tk_shape.specs.declared.shape.Shape.{Shape}
use Rattle.tk_frames.specs.declared.read_frame.ReadFrame.{ReadFrame}
use Rattle.tk_frames.specs.Order.{Record}
use Rattle.tk_frames.specs.Ranges.{IsRead, IsReply}
use Rattle.tk_frames.specs.Spelling.{reply_frame}
use Rattle.tk_hostile.specs.declared.sums.Sums.{Sums}
use Rattle.tk_hostile.specs.Choice.{Choice, own_sums, sums_by, reply_with, reply_by, replies_by}
use Rattle.tk_hostile.specs.Given.{AreSums}

-- a reply to a read in range with sums of the shape is in range
pub reply-in_range : (shape : Shape) (r : ReadFrame) (sums : Sums) → IsRead shape r →
    AreSums shape sums → IsReply shape (reply_with r sums)
reply-in_range shape r sums is sized =
    record {
      client = is.client;
      turn = is.turn;
      epoch = is.epoch;
      first_len = sized.first;
      second_len = sized.second;
    }

module _ (shape : Shape) (h : ℕ) (F : Choice) (R : List Record) (r : ReadFrame) (j : ℕ) where
  pub sums-own : j ≡ h → own_sums shape R r ≡ sums_by shape h F R r j
  sums-own same =
      sym (ap (λ t. cond t (own_sums shape R r) (F r.turn r.client j)) (eq-eqb j h same))

  pub sums-chosen : j ≢ h → F r.turn r.client j ≡ sums_by shape h F R r j
  sums-chosen other =
      sym (ap (λ t. cond t (own_sums shape R r) (F r.turn r.client j)) (ne_eqb j h other))

-- a reply for each server
pub replies-counted : (shape : Shape) (h : ℕ) (F : Choice) (R : List Record) (r : ReadFrame) →
    length (map reply_frame (replies_by shape h F R r)) ≡ shape.servers
unfolding replies_by
replies-counted shape h F R r =
    length-map (replies_by shape h F R r) reply_frame
    ∙ length-map-range_with_len (reply_by shape h F R r) 1 shape.servers

-- one server more
pub servers-more : {X : Type 0} (f : ℕ → X) (j : ℕ) → 1 ≤ j →
    map f (range_with_len 1 (j + 1 - 1)) ≡ map f (range_with_len 1 (j - 1)) ++ f j ∷ []
servers-more f j low =
    let same : j + 1 - 1 ≡ j - 1 + 1 = omega (arith, low) in
    ap (λ n. map f (range_with_len 1 n)) same
    ∙ map-range_with_len_more f 1 (j - 1) j (omega (arith, low))
