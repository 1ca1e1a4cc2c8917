-- What server 1 sees of a read, with pads that are moved.
use Rattle.std.proofs.Common.{◌≡◌, ℕ, ◌+◌, ◌-◌, ◌≤◌, ◌<◌, List, ap, sym, ◌∙◌, arith, subst, inl, inr}
use Rattle.std.proofs.lemmas.Bool.{cases_lt}
use Rattle.tk_shape.specs.declared.shape.Shape.{Shape}
use Rattle.tk_shape.specs.Lengths.{vector_len, width}
use Rattle.tk_client.specs.Asked.{AreWhole}
use Rattle.tk_relay.specs.Halves.{Halves}
use Rattle.tk_relay.specs.Pads.{PadLists, ArePads, masked}
use Rattle.tk_relay.specs.Parts.{part_with, masked_reply_frame}
use Rattle.tk_relay.specs.Bundles.{part_for, bundle_frame}
use Rattle.tk_relay.specs.Serving.{sums_for, served_part}
use Rattle.tk_relay.specs.Sights.{DrawnRead, frames_for, AreBuckets, AreBlocks, units_of, blocks_at}
use Rattle.tk_relay.specs.Sights.{sight, moved_last, moved_pads}
use Rattle.tk_relay.specs.Laws.{SameSight, MovedBack, MovedStay}
use Rattle.tk_report.proofs.Offers.{map-range}
use Rattle.tk_relay.proofs.Masks.{moved-counted, moved-each, other-shows, last-shows, back}
use Rattle.tk_relay.proofs.Asking.{vectors_for, part-at, served-at, drawn-asked, all_drawn}
use Rattle.tk_relay.proofs.Asking.{last-asked, last-replied, units-sized, blocks-sized}

-- the moved pads are pads too
pub moved_stay : MovedStay
unfolding moved_pads
moved_stay shape blocks pads old new whole are from to =
    record {
      requests_counted = moved-counted shape (vector_len shape) pads.requests
          are.requests_counted are.requests_sized (units_of shape old) (units_of shape new)
          (units-sized shape old) (units-sized shape new);
      requests_sized = moved-each shape (vector_len shape) pads.requests
          are.requests_counted are.requests_sized (units_of shape old) (units_of shape new)
          (units-sized shape old) (units-sized shape new);
      replies_counted = moved-counted shape (width shape) pads.replies are.replies_counted
          are.replies_sized (blocks_at blocks old) (blocks_at blocks new)
          (blocks-sized shape blocks old whole from) (blocks-sized shape blocks new whole to);
      replies_sized = moved-each shape (width shape) pads.replies are.replies_counted
          are.replies_sized (blocks_at blocks old) (blocks_at blocks new)
          (blocks-sized shape blocks old whole from) (blocks-sized shape blocks new whole to);
    }

module _ (shape : Shape) (blocks : List (List ℕ)) (pads : PadLists) (r : DrawnRead) (old new : ℕ × ℕ)
    (whole : AreBlocks shape blocks) (are : ArePads shape pads) (vectors : AreWhole shape r.drawn)
    (from : AreBuckets shape old) (to : AreBuckets shape new) where
  requests' : List Halves
  requests' = moved_last shape (units_of shape old) (units_of shape new) pads.requests

  replies' : List Halves
  replies' = moved_last shape (blocks_at blocks old) (blocks_at blocks new) pads.replies

  -- the moved pads are pads too
  still-pads : ArePads shape (moved_pads shape blocks old new pads)
  still-pads = moved_stay shape blocks pads old new whole are from to

  -- what server j is asked, as it stands in the bundle
  asked-shows : (j : ℕ) → 1 ≤ j → j < 1 + shape.servers →
      masked pads.requests j (vectors_for shape old r.drawn j)
      ≡ masked requests' j (vectors_for shape new r.drawn j)
  unfolding requests'
  asked-shows j low high =
      let first = units-sized shape old in
      let second = units-sized shape new in
      elim (cases_lt j shape.servers) [
        | inl less ↦
            other-shows shape (vector_len shape) pads.requests are.requests_counted
            are.requests_sized (units_of shape old) (units_of shape new) first second j
            (vectors_for shape old r.drawn j) less
            ∙ ap (masked requests' j) (drawn-asked shape r vectors old new j low less)
        | inr more ↦
            let last : shape.servers ≡ j = omega (arith, high, more) in
            subst (λ (k : ℕ). masked pads.requests k (vectors_for shape old r.drawn k)
            ≡ masked requests' k (vectors_for shape new r.drawn k)) last
            (last-shows shape (vector_len shape) pads.requests are.requests_counted
            are.requests_sized (units_of shape old) (units_of shape new) first second
            (vectors_for shape old r.drawn shape.servers)
            (vectors_for shape new r.drawn shape.servers)
            (all_drawn shape r vectors) (last-asked shape r vectors old)
            (last-asked shape r vectors new))
      ]

  -- what server j replies
  replied-shows : (j : ℕ) → 2 ≤ j → j < 2 + (shape.servers - 1) →
      masked pads.replies j (sums_for shape blocks (vectors_for shape old r.drawn j))
      ≡ masked replies' j (sums_for shape blocks (vectors_for shape new r.drawn j))
  unfolding replies'
  replied-shows j low high =
      let first = blocks-sized shape blocks old whole from in
      let second = blocks-sized shape blocks new whole to in
      elim (cases_lt j shape.servers) [
        | inl less ↦
            other-shows shape (width shape) pads.replies are.replies_counted are.replies_sized
            (blocks_at blocks old) (blocks_at blocks new) first second j
            (sums_for shape blocks (vectors_for shape old r.drawn j)) less
            ∙ ap (λ (x : Halves). masked replies' j (sums_for shape blocks x))
            (drawn-asked shape r vectors old new j (omega (arith, low)) less)
        | inr more ↦
            let some = shape.in_range.servers_low in
            let last : shape.servers ≡ j = omega (arith, high, more, some) in
            subst (λ (k : ℕ). masked pads.replies k
            (sums_for shape blocks (vectors_for shape old r.drawn k))
            ≡ masked replies' k (sums_for shape blocks (vectors_for shape new r.drawn k))) last
            (last-shows shape (width shape) pads.replies are.replies_counted are.replies_sized
            (blocks_at blocks old) (blocks_at blocks new) first second
            (sums_for shape blocks (vectors_for shape old r.drawn shape.servers))
            (sums_for shape blocks (vectors_for shape new r.drawn shape.servers))
            (sums_for shape blocks (all_drawn shape r vectors))
            (last-replied shape r vectors blocks old whole from)
            (last-replied shape r vectors blocks new whole to))
      ]

  -- so a server's part of the bundle is the same, and so is its masked reply
  part-shows : (j : ℕ) → 1 ≤ j → j < 1 + shape.servers →
      part_for pads (frames_for shape r old) j
      ≡ part_for (moved_pads shape blocks old new pads) (frames_for shape r new) j
  unfolding moved_pads requests'
  part-shows j low high =
      part-at shape r vectors pads old j low (omega (arith, high))
      ∙ ap (part_with r.client r.turn r.epoch) (asked-shows j low high)
      ∙ sym (part-at shape r vectors (moved_pads shape blocks old new pads) new j low
      (omega (arith, high)))

  served-shows : (j : ℕ) → 2 ≤ j → j < 2 + (shape.servers - 1) →
      served_part shape blocks pads j (part_for pads (frames_for shape r old) j)
      ≡ served_part shape blocks (moved_pads shape blocks old new pads) j
      (part_for (moved_pads shape blocks old new pads) (frames_for shape r new) j)
  unfolding moved_pads replies'
  served-shows j low high =
      let several = shape.in_range.servers_low in
      served-at shape r vectors blocks pads old j are (omega (arith, low))
      (omega (arith, high, several))
      ∙ ap (part_with r.client r.turn r.epoch) (replied-shows j low high)
      ∙ sym (served-at shape r vectors blocks (moved_pads shape blocks old new pads) new j
      still-pads (omega (arith, low)) (omega (arith, high, several)))

  pub sights : sight shape blocks pads (frames_for shape r old)
      ≡ sight shape blocks (moved_pads shape blocks old new pads) (frames_for shape r new)
  unfolding sight
  sights =
      let after = moved_pads shape blocks old new pads in
      λ i. record {
        bundle = bundle_frame (map-range (part_for pads (frames_for shape r old))
            (part_for after (frames_for shape r new)) 1 shape.servers part-shows i);
        replies =
            map-range (λ j. masked_reply_frame
            (served_part shape blocks pads j (part_for pads (frames_for shape r old) j)))
            (λ j. masked_reply_frame
            (served_part shape blocks after j (part_for after (frames_for shape r new) j)))
            2 (shape.servers - 1)
            (λ j low high. ap masked_reply_frame (served-shows j low high)) i;
      }

pub same_sight : SameSight
same_sight shape blocks pads r old new whole are vectors from to =
    sights shape blocks pads r old new whole are vectors from to

pub moved_back : MovedBack
unfolding moved_pads
moved_back shape blocks pads old new whole are from to = λ i. record {
  requests = back shape (vector_len shape) pads.requests are.requests_counted are.requests_sized
      (units_of shape old) (units_of shape new) (units-sized shape old) (units-sized shape new) i;
  replies = back shape (width shape) pads.replies are.replies_counted are.replies_sized
      (blocks_at blocks old) (blocks_at blocks new) (blocks-sized shape blocks old whole from)
      (blocks-sized shape blocks new whole to) i;
}
