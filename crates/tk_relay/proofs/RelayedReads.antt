-- Reads of a turn, before and after the servers reply to them.
use Rattle.std.proofs.Common.{◌≡◌, ap, sym, subst, ◌∙◌, arith, ℕ, ◌+◌, ◌-◌, ◌<◌, ◌≤◌, List, ◌++◌, length, map}
use Rattle.std.specs.Prelude.{All, slice_index_or}
use Rattle.std.specs.List.{AllByRecursion, range_with_len}
use Rattle.std.proofs.lemmas.List.{get_or-replicate}
use Rattle.std.proofs.lemmas.List.Elements.{All-from_recursion}
use Rattle.std.proofs.lemmas.List.FromFn.{length-map-range_with_len, get_or-map-range_with_len}
use Rattle.tk_shape.specs.declared.shape.Shape.{Shape}
use Rattle.tk_shape.specs.Lengths.{turn_count, vector_len}
use Rattle.tk_schedule.specs.declared.history.History.{History}
use Rattle.tk_schedule.specs.declared.history.TurnOrder.{TurnOrder}
use Rattle.tk_schedule.specs.Schedule.{IsLegal, epoch_at, phases_over, serial_history, serial_turn, blank_turn}
use Rattle.tk_script.specs.declared.script.Script.{Script}
use Rattle.tk_words.specs.Words.{WordBook, words_of, seed_at, IsBook}
use Rattle.tk_frames.specs.Order.{Record, before}
use Rattle.tk_frames.specs.Ranges.{IsRead}
use Rattle.tk_table.specs.Table.{layout, blocks_of}
use Rattle.tk_report.specs.Turns.{placed_before}
use Rattle.tk_report.proofs.Offers.{all-made, each-made, map-range}
use Rattle.tk_report.specs.Exchange.{blank_read}
use Rattle.tk_relay.specs.declared.part.Part.{Part}
use Rattle.tk_relay.specs.declared.relayed_read.RelayedRead.{RelayedRead}
use Rattle.tk_relay.specs.Bundles.{IsAlong, frame_of, vectors_of, part_for}
use Rattle.tk_relay.specs.Pads.{PadLists, Padding, padding_of, paddings_of}
use Rattle.tk_relay.specs.Parts.{blank_part}
use Rattle.tk_relay.specs.Reads.{IsSplitRead, HasAllParts, AreRepliedTo, AreServed, IsReplied, part_of}
use Rattle.tk_relay.specs.Relayed.{blocks_read, frames_read, pads_read, part_read, reply_read}
use Rattle.tk_relay.specs.Running.{IsRelayed, AreRelayed}
use Rattle.tk_relay.specs.Serving.{IsAsking, served_part}
use Rattle.tk_relay.proofs.AskedTurns.{one-read, reads-in_range}
use Rattle.tk_relay.proofs.Masks.{masked-sized}
use Rattle.tk_relay.proofs.PadLaws.{keyed-are}
use Rattle.tk_relay.proofs.Paddings.{padding-at}

-- ---- one epoch in a turn

-- in the serial history all clients read the epoch of the phases that are over
pub serial-epoch : (shape : Shape) (g c : ℕ) → g < turn_count shape → c < shape.clients →
    epoch_at (serial_history shape) g c ≡ phases_over shape g
unfolding serial_history
serial-epoch shape g c low client_in =
    ap (λ (turn : TurnOrder). slice_index_or turn.epochs c 0)
    (get_or-map-range_with_len (serial_turn shape) 0 (turn_count shape) g g blank_turn low (omega arith))
    ∙ get_or-replicate shape.clients c (phases_over shape g) 0 client_in

pub one-epoch : (shape : Shape) (H : History) (g c : ℕ) → H ≡ serial_history shape →
    g < turn_count shape → c < shape.clients → epoch_at H g 0 ≡ epoch_at H g c
one-epoch shape H g c serial turn_in client_in =
    let some : 0 < shape.clients = omega (arith, client_in) in
    let named : (k : ℕ) → k < shape.clients → epoch_at H g k ≡ phases_over shape g =
    λ k low. ap (λ (h : History). epoch_at h g k) serial ∙ serial-epoch shape g k turn_in low
    in
    named 0 some ∙ sym (named c client_in)

-- so all their reads are over the same blocks
pub blocks-of_turn : (S : Script) (b : WordBook) (H : History) (g c : ℕ) → IsLegal S.shape H →
    H ≡ serial_history S.shape → g < turn_count S.shape → c < S.shape.clients →
    blocks_of (layout S.shape (before (placed_before S (words_of S.shape b) H (g + 1)) (epoch_at H g 0)))
    ≡ blocks_read S b H g c
unfolding blocks_read
blocks-of_turn S b H g c legal serial turn_in client_in =
    let E = placed_before S (words_of S.shape b) H (g + 1) in
    ap (λ (R : List Record). blocks_of (layout S.shape R))
    (ap (before E) (one-epoch S.shape H g c serial turn_in client_in)
    ∙ all-made S b H g legal turn_in c client_in)

-- ---- a read that is sent

pub sent-relayed : (S : Script) (b : WordBook) (seeds : List (List ℕ)) (H : History) (g c : ℕ)
    (r : RelayedRead) → IsSplitRead S.shape (frames_read S b H g c) (pads_read S seeds g c) r →
    IsRelayed S b seeds H g 0 c r
unfolding part_read
sent-relayed S b seeds H g c r sent =
    record {
      bundle = sent.bundle;
      parts = sent.parts;
      replies = sent.replies;
    }

module _ {S : Script} {b : WordBook} {seeds : List (List ℕ)} {H : History} {g count c : ℕ}
    {r : RelayedRead} (is : IsRelayed S b seeds H g count c r) where
  pub relayed-counted : length r.parts.items ≡ S.shape.servers
  relayed-counted =
      ap length is.parts ∙ length-map-range_with_len (part_read S b seeds H g c) 1 S.shape.servers

  pub replied-counted : length r.replies.items ≡ count
  replied-counted =
      ap length is.replies ∙ length-map-range_with_len (reply_read S b seeds H g c) 1 count

  pub part-at : (j : ℕ) → 1 ≤ j → j ≤ S.shape.servers → part_of r j ≡ part_read S b seeds H g c j
  part-at j low high =
      ap (λ (ps : List Part). slice_index_or ps (j - 1) blank_part) is.parts
      ∙ get_or-map-range_with_len (part_read S b seeds H g c) 1 S.shape.servers (j - 1) j blank_part
      (omega (arith, low, high)) (omega (arith, low))

  -- it has a part of a shape's vectors for each server
  pub relayed-whole : AllByRecursion (IsRead S.shape) (frames_read S b H g c) → HasAllParts S.shape r
  unfolding part_read
  relayed-whole reads =
      let frames = frames_read S b H g c in
      let pads = pads_read S seeds g c in
      let are = keyed-are S.shape (seed_at seeds c) g in
      let one = one-read S b H g c reads in
      let counted = one.counted in
      record {
        counted = relayed-counted;
        sized =
            subst (AllByRecursion (IsAsking S.shape)) (sym is.parts)
            (each-made (IsAsking S.shape) (part_for pads frames) 1 S.shape.servers (λ j low high.
            masked-sized S.shape (vector_len S.shape) pads.requests are.requests_counted
            are.requests_sized j (vectors_of (frame_of frames j)) (omega (arith, high))
            (All-from_recursion (IsAlong S.shape (frame_of frames 1)) frames one.along (j - 1)
            blank_read (omega (arith, counted, low, high))).vectors));
      }

-- ---- a read to which all servers have replied

pub served-relayed : {S : Script} {b : WordBook} {seeds : List (List ℕ)} {H : History} {g c : ℕ}
    {old new : RelayedRead} (blocks : List (List ℕ)) (pads : PadLists) →
    blocks ≡ blocks_read S b H g c → pads ≡ pads_read S seeds g c →
    IsRelayed S b seeds H g 0 c old → AreRepliedTo S.shape blocks pads 1 S.shape.servers old new →
    IsRelayed S b seeds H g S.shape.servers c new
unfolding reply_read
served-relayed {S} {b} {seeds} {H} {g} {c} {old} {new} blocks pads over own is served =
    let reply = λ (j : ℕ). served_part S.shape blocks pads j (part_of old j) in
    let replied : (j : ℕ) → 1 ≤ j → j < 1 + S.shape.servers → reply j ≡ reply_read S b seeds H g c j =
    λ j low high.
    ap (λ (ps : PadLists). served_part S.shape blocks ps j (part_of old j)) own
    ∙ ap (λ (xs : List (List ℕ)). served_part S.shape xs (pads_read S seeds g c) j (part_of old j)) over
    ∙ ap (served_part S.shape (blocks_read S b H g c) (pads_read S seeds g c) j)
    (part-at is j low (omega (arith, high)))
    in
    record {
      bundle = served.bundle ∙ is.bundle;
      parts = ap (λ (ps : _). ps.items) served.parts ∙ is.parts;
      replies =
          served.replies
          ∙ ap (λ (ps : List Part). ps ++ map reply (range_with_len 1 S.shape.servers)) is.replies
          ∙ map-range reply (reply_read S b seeds H g c) 1 S.shape.servers replied;
    }

-- ---- those of all clients

pub all-whole : {S : Script} {b : WordBook} {seeds : List (List ℕ)} {H : History} {g count : ℕ}
    {reads : List RelayedRead} → IsBook S.shape b → IsLegal S.shape H → g < turn_count S.shape →
    AreRelayed S b seeds H g count reads → All (HasAllParts S.shape) reads
all-whole {S} {b} {seeds} {H} {g} {count} {reads} serves legal turn_in are c d low =
    relayed-whole (are.each c d low)
    (reads-in_range S b H g c serves legal turn_in (omega (arith, low, are.counted)))

pub all-served : {S : Script} {b : WordBook} {seeds : List (List ℕ)} {H : History} {g : ℕ}
    {old new : List RelayedRead} (blocks : List (List ℕ)) (pads : List Padding) →
    ((c : ℕ) → c < S.shape.clients → blocks ≡ blocks_read S b H g c) →
    pads ≡ paddings_of S.shape seeds g → length pads ≡ S.shape.clients →
    AreRelayed S b seeds H g 0 old → AreServed S.shape blocks pads 1 S.shape.servers old new →
    AreRelayed S b seeds H g S.shape.servers new
all-served {S} {b} {seeds} {H} {g} {old} {new} blocks pads over own as_many are served =
    let same = served.counted in
    record {
      counted = same ∙ are.counted;
      each = λ c d low.
          let within : c < length old = omega (arith, low, same) in
          let client_in : c < S.shape.clients = omega (arith, within, are.counted) in
          let p = padding_of S.shape (seed_at seeds c) g in
          served-relayed blocks (slice_index_or pads c p).pads (over c client_in)
          (ap (λ (x : Padding). x.pads) (padding-at S.shape seeds g pads own c p
          (omega (arith, client_in, as_many))))
          (are.each c d within) (served.each c p d within);
    }

pub all-replied : {S : Script} {b : WordBook} {seeds : List (List ℕ)} {H : History} {g : ℕ}
    {reads : List RelayedRead} → AreRelayed S b seeds H g S.shape.servers reads →
    All (IsReplied S.shape.servers) reads
all-replied are c d low =
    record {
      parts = relayed-counted (are.each c d low);
      replies = replied-counted (are.each c d low);
    }

-- in a turn of the serial history, where each server replies over its blocks of the one epoch
pub turn-served : (S : Script) (b : WordBook) (seeds : List (List ℕ)) (H : History) (g e : ℕ)
    (pads : List Padding) (old new : List RelayedRead) → IsLegal S.shape H →
    H ≡ serial_history S.shape → g < turn_count S.shape → e ≡ epoch_at H g 0 →
    pads ≡ paddings_of S.shape seeds g → length pads ≡ S.shape.clients →
    AreRelayed S b seeds H g 0 old →
    let E = placed_before S (words_of S.shape b) H (g + 1) in
    AreServed S.shape (blocks_of (layout S.shape (before E e))) pads 1 S.shape.servers old new →
    AreRelayed S b seeds H g S.shape.servers new
turn-served S b seeds H g e pads old new legal serial turn_in named own as_many are served =
    let E = placed_before S (words_of S.shape b) H (g + 1) in
    let blocks_at = λ (n : ℕ). blocks_of (layout S.shape (before E n)) in
    all-served (blocks_at e) pads
    (λ c client_in. ap blocks_at named ∙ blocks-of_turn S b H g c legal serial turn_in client_in)
    own as_many are served
