-- The replies of servers with equal blocks join to the block that was asked for.
use Rattle.std.proofs.Common.{◌≡◌, refl, ap, ap₂, sym, ◌∙◌, arith, Bool, ℕ, suc, ◌+◌, ◌-◌, ◌<◌, List, [], ◌∷◌, length}
use Rattle.std.proofs.Common.{map, get_or, Option}
use Rattle.std.specs.Prelude.{slice_index_or}
use Rattle.std.specs.List.{range_with_len}
use Rattle.std.proofs.lemmas.Option.{get_or_from_slice_get}
use Rattle.tk_shape.specs.declared.shape.Shape.{Shape}
use Rattle.tk_shape.specs.Lengths.{vector_len, width}
use Rattle.tk_kernel.specs.Xor.{xor_all}
use Rattle.tk_kernel.specs.Pieces.{AllSized}
use Rattle.tk_kernel.specs.Chosen.{chosen_sum}
use Rattle.tk_bits.specs.Shares.{Share, completed, shares, share_at}
use Rattle.tk_bits.proofs.Offers.{answers_join, vectors-shares, vector-at}
use Rattle.tk_words.specs.Words.{WordBook, words_of, fresh_seeds, fresh_vectors, shows_vectors}
use Rattle.tk_frames.specs.declared.reply_frame.ReplyFrame.{ReplyFrame}
use Rattle.tk_frames.specs.Order.{Record}
use Rattle.tk_bucket.specs.Table.{SlotTable}
use Rattle.tk_table.specs.Stands.{IsPair}
use Rattle.tk_table.specs.Table.{layout}
use Rattle.tk_bucket.specs.Bytes.{blocks_of}
use Rattle.tk_table.specs.Laws.{block_at}
use Rattle.tk_client.specs.declared.target.Target.{Target}
use Rattle.tk_table.specs.Replies.{reply_to}
use Rattle.tk_client.specs.Asked.{frame_with, asked, AreWhole, pair_for}
use Rattle.tk_client.proofs.Offers.{vector_bits, length-completed}

-- ---- what servers with equal blocks reply

abbrev first_of : ReplyFrame → List ℕ
first_of reply = reply.first

abbrev second_of : ReplyFrame → List ℕ
second_of reply = reply.second

-- what vectors choose among the blocks of a table
abbrev chosen_sums : Shape → List Record → List (List ℕ) → List (List ℕ)
chosen_sums shape R vectors = map (chosen_sum (width shape) (blocks_of (layout shape R))) vectors

-- the vectors of these servers, and those of their shares
abbrev of_servers : List (List ℕ) → List ℕ → List (List ℕ)
of_servers us js = map (λ j. slice_index_or us (j - 1) []) js

abbrev shared : List Share → List ℕ → List (List ℕ)
shared all js = map (λ j. (share_at all (j - 1)).vector) js

shared-are : (size i : ℕ) (seeds drawn : List (List ℕ)) (js : List ℕ) →
    shared (shares size i seeds drawn) js ≡ of_servers (completed size i drawn) js
shared-are size i seeds drawn [] = refl
shared-are size i seeds drawn (j ∷ js) =
    ap₂ (λ (v : List ℕ) (vs : List (List ℕ)). v ∷ vs) (vector-at size i (j - 1) seeds drawn)
    (shared-are size i seeds drawn js)

firsts : (shape : Shape) (R : List Record) (shows : Bool) (g c e : ℕ) (us vs : List Share)
    (js : List ℕ) →
    map first_of (map (reply_to shape R) (map (frame_with shape shows g c e us vs) js))
    ≡ chosen_sums shape R (shared us js)
unfolding frame_with
firsts shape R shows g c e us vs [] = refl
firsts shape R shows g c e us vs (j ∷ js) =
    let sum = chosen_sum (width shape) (blocks_of (layout shape R)) in
    ap (λ (xs : List (List ℕ)). sum (share_at us (j - 1)).vector ∷ xs)
    (firsts shape R shows g c e us vs js)

seconds : (shape : Shape) (R : List Record) (shows : Bool) (g c e : ℕ) (us vs : List Share)
    (js : List ℕ) →
    map second_of (map (reply_to shape R) (map (frame_with shape shows g c e us vs) js))
    ≡ chosen_sums shape R (shared vs js)
unfolding frame_with
seconds shape R shows g c e us vs [] = refl
seconds shape R shows g c e us vs (j ∷ js) =
    let sum = chosen_sum (width shape) (blocks_of (layout shape R)) in
    ap (λ (xs : List (List ℕ)). sum (share_at vs (j - 1)).vector ∷ xs)
    (seconds shape R shows g c e us vs js)

-- the elements of a list, by their places from k on
by_places : {X : Type 0} (F : ℕ → X) (k : ℕ) (us : List X) (d : X) →
    ((i : ℕ) → i < length us → F (k + i) ≡ get_or us i d) →
    map F (range_with_len k (length us)) ≡ us
by_places F k [] d each = refl
by_places F k (u ∷ us) d each =
    let here : F k ≡ u = ap F (omega arith) ∙ each 0 (omega arith) in
    ap (λ x. x ∷ map F (range_with_len (k + 1) (length us))) here
    ∙ ap (λ xs. u ∷ xs) (by_places F (k + 1) us d
    (λ i low. ap F (omega arith) ∙ each (suc i) (omega (arith, low))))

by_servers : (us : List (List ℕ)) (n : ℕ) → length us ≡ n → of_servers us (range_with_len 1 n) ≡ us
by_servers us n each =
    ap (λ k. of_servers us (range_with_len 1 k)) (sym each)
    ∙ by_places (λ j. slice_index_or us (j - 1) []) 1 us []
    (λ i low. ap (λ k. slice_index_or us k []) (omega arith))

-- blocks as a table has them: one for each bucket, each of a bucket's width
pub record AreBlocks (shape : Shape) (blocks : List (List ℕ)) : Type 0 where
  pub each : length blocks ≡ shape.buckets
  pub sized : AllSized (width shape) blocks

answers_of : (shape : Shape) (R : List Record) (seeds drawn : List (List ℕ)) (bucket : ℕ) →
    AreBlocks shape (blocks_of (layout shape R)) → AllSized (vector_len shape) drawn →
    bucket < shape.buckets →
    xor_all (width shape) (chosen_sums shape R (completed (vector_len shape) bucket drawn))
    ≡ block_at (layout shape R) bucket
answers_of shape R seeds drawn bucket are sized within =
    let blocks = blocks_of (layout shape R) in
    let each = are.each in
    let bits = each ∙ vector_bits shape in
    let low : bucket < length blocks = omega (arith, each, within) in
    ap (λ (vs : List (List ℕ)). xor_all (width shape) (chosen_sums shape R vs))
    (sym (vectors-shares (vector_len shape) bucket seeds drawn))
    ∙ sym (get_or_from_slice_get blocks bucket _ []
    (answers_join (width shape) (vector_len shape) bucket blocks seeds drawn are.sized bits sized
    low))

-- replies that join to the blocks of a pair of buckets
pub record JoinTo (shape : Shape) (T : SlotTable) (pair : ℕ × ℕ) (rs : List ReplyFrame)
    : Type 0 where
  pub first : xor_all (width shape) (map (λ (r : ReplyFrame). r.first) rs) ≡ block_at T pair.0
  pub second : xor_all (width shape) (map (λ (r : ReplyFrame). r.second) rs) ≡ block_at T pair.1

-- The replies of servers with equal blocks to what a client asks join to the blocks of the buckets
-- that it wants.
pub replies_join : (shape : Shape) (b : WordBook) (R : List Record) (g c e : ℕ)
    (t : Option Target) → let pair = pair_for (words_of shape b) g c t in
    AreWhole shape (fresh_vectors shape b g c) → AreBlocks shape (blocks_of (layout shape R)) →
    IsPair shape pair →
    JoinTo shape (layout shape R) pair (map (reply_to shape R) (asked shape b g c e t))
replies_join shape b R g c e t whole are within =
    let size = vector_len shape in
    let pair = pair_for (words_of shape b) g c t in
    let seeds = fresh_seeds shape b g c in
    let vectors = fresh_vectors shape b g c in
    let us = completed size pair.0 vectors.first in
    let vs = completed size pair.1 vectors.second in
    let first_shares = shares size pair.0 seeds.first vectors.first in
    let second_shares = shares size pair.1 seeds.second vectors.second in
    let servers = shape.in_range.servers_low in
    let some : 0 < shape.servers = omega (arith, servers) in
    let us_each = length-completed size pair.0 shape.servers vectors.first some whole.first_each in
    let vs_each = length-completed size pair.1 shape.servers vectors.second some whole.second_each in
    let js = range_with_len 1 shape.servers in
    let sum = xor_all (width shape) in
    let sums = λ (xs : List (List ℕ)). sum (chosen_sums shape R xs) in
    record {
      first =
          ap sum (firsts shape R (shows_vectors b) g c e first_shares second_shares js)
          ∙ ap sums (shared-are size pair.0 seeds.first vectors.first js
          ∙ by_servers us shape.servers us_each)
          ∙ answers_of shape R seeds.first vectors.first pair.0 are whole.first_sized within.0;
      second =
          ap sum (seconds shape R (shows_vectors b) g c e first_shares second_shares js)
          ∙ ap sums (shared-are size pair.1 seeds.second vectors.second js
          ∙ by_servers vs shape.servers vs_each)
          ∙ answers_of shape R seeds.second vectors.second pair.1 are whole.second_sized within.1;
    }
