-- Replies with sums over even ranges.
use Rattle.std.proofs.Common.{◌≡◌, refl, ap, ap₂, sym, ◌∙◌, ℕ, ◌<◌, ◌≤◌, Bool, cond, List, [], ◌∷◌, length, map, le-leb}
use Rattle.std.proofs.lemmas.Bool.{lt-leb}
use Rattle.tk_shape.specs.declared.shape.Shape.{Shape}
use Rattle.tk_shape.specs.Lengths.{width}
use Rattle.tk_frames.specs.declared.entry.Placed.{Placed}
use Rattle.tk_frames.specs.declared.read_frame.ReadFrame.{ReadFrame}
use Rattle.tk_frames.specs.Fields.{read_in}
use Rattle.tk_frames.specs.Order.{Record, before}
use Rattle.tk_frames.specs.Spelling.{reply_frame}
use Rattle.tk_frames.proofs.Offers.{read-again}
use Rattle.tk_table.specs.Replies.{reply_to}
use Rattle.tk_table.specs.Table.{layout, blocks_of}
use Rattle.tk_replica.specs.declared.asker.Asker.{Asker}
use Rattle.tk_replica.specs.Replies.{asker_of, asker_reply, both_vectors, frames_with, reply_bytes, reply_due}
use Rattle.tk_cluster.specs.Many.{NamesEpoch, AreNamed, AreReads}
use Rattle.tk_kernel.specs.Chosen.{chosen_sum}
use Rattle.tk_shards.specs.Shards.{Sharded}
use Rattle.tk_run.specs.Ranged.{Summing, in_ranges}
use Rattle.tk_run.specs.Rows.{Frame}
use Rattle.tk_run.specs.Ranging.{even_ranges, in_even_ranges, reply_by, made_due, bytes_made}
use Rattle.tk_report.proofs.Offers.{map_same}

-- a server's blocks, in ranges
pub set-is : (shape : Shape) (R : List Record) (shards wide : ℕ) (blocks : List (List ℕ)) (set : Sharded) →
    wide ≡ width shape → blocks ≡ blocks_of (layout shape R) → length blocks ≡ shape.buckets →
    set ≡ in_even_ranges wide blocks shards →
    set ≡ in_ranges shape R (even_ranges shape.buckets shards)
set-is shape R shards wide blocks set wide_is laid count is =
    is
    ∙ ap (λ n. record { width = wide; blocks = blocks; ranges = even_ranges n shards }) count
    ∙ ap₂ (λ (n : ℕ) (bs : List (List ℕ)). record {
      width = n;
      blocks = bs;
      ranges = even_ranges shape.buckets shards;
    }) wide_is laid

module _ (sum : Summing) (shards : ℕ) (shape : Shape) (E : List Placed) (e : ℕ) (set : Sharded)
    (is : set ≡ in_ranges shape (before E e) (even_ranges shape.buckets shards)) where
  frame-made : (f : Frame) (r : ReadFrame) → NamesEpoch shape e f r →
      reply_frame (asker_reply (asker_of r) (sum set r.first) (sum set r.second))
      ≡ made_due sum shards shape E f
  unfolding made_due
  frame-made f r named =
      let spells = named.spells in
      ap (λ (s : Sharded). reply_frame (asker_reply (asker_of r) (sum s r.first) (sum s r.second))) is
      ∙ ap (λ k. reply_frame (reply_by sum shards shape (before E k) r)) (sym named.named)
      ∙ ap (λ (q : ReadFrame). reply_frame (reply_by sum shards shape (before E q.epoch) q))
      (sym (ap (read_in shape) spells.spelled ∙ read-again shape r spells.in_range))

  frames-made : (fs : List Frame) (rs : List ReadFrame) → AreNamed shape e fs rs →
      frames_with (map asker_of rs) (map (sum set) (both_vectors rs))
      ≡ map (made_due sum shards shape E) fs
  frames-made [] [] named = refl
  frames-made (f ∷ fs) (r ∷ rs) named =
      ap₂ (λ (x : Frame) (xs : List Frame). x ∷ xs) (frame-made f r named.0)
      (frames-made fs rs named.1)
  frames-made (f ∷ fs) [] named = absurd named
  frames-made [] (r ∷ rs) named = absurd named

  -- the frames made of all sums are the replies to the frames
  pub replies-made : (fs : List Frame) (askers : List Asker) (vectors sums : List (List ℕ)) →
      AreReads shape e fs askers vectors → sums ≡ map (sum set) vectors →
      frames_with askers sums ≡ map (made_due sum shards shape E) fs
  replies-made fs askers vectors sums are summed =
      ap₂ (λ (left : List Asker) (xs : List (List ℕ)). frames_with left xs) are.askers_are
      (summed ∙ ap (map (sum set)) are.vectors_are)
      ∙ frames-made fs are.reads are.spelled

module _ (sum : Summing) (shards : ℕ) (shape : Shape) (E : List Placed) where
  -- over one range those over all blocks are made
  whole-one : (f : Frame) → shards ≤ 1 → reply_bytes shape E f ≡ bytes_made sum shards shape E f
  unfolding made_due reply_due
  whole-one f few =
      let r = read_in shape f in
      let R = before E r.epoch in
      let set = in_ranges shape R (even_ranges shape.buckets shards) in
      let made = λ (v : List ℕ) (b : Bool). cond b (chosen_sum set.width set.blocks v) (sum set v) in
      let few_is = sym (le-leb shards 1 few) in
      ap (λ (b : Bool). reply_frame (record (reply_to shape R r) {
        first = made r.first b;
        second = made r.second b;
      })) few_is

  pub all-whole : (fs : List Frame) → shards ≤ 1 →
      map (reply_bytes shape E) fs ≡ map (bytes_made sum shards shape E) fs
  all-whole fs few =
      map_same (reply_bytes shape E) (bytes_made sum shards shape E) (λ f. whole-one f few) fs

  -- and over several those that the ranges are asked for
  divided-one : (f : Frame) → 1 < shards → made_due sum shards shape E f ≡ bytes_made sum shards shape E f
  unfolding made_due
  divided-one f many =
      let r = read_in shape f in
      let R = before E r.epoch in
      let set = in_ranges shape R (even_ranges shape.buckets shards) in
      let made = λ (v : List ℕ) (b : Bool). cond b (chosen_sum set.width set.blocks v) (sum set v) in
      let many_is = sym (lt-leb shards 1 many) in
      ap (λ (b : Bool). reply_frame (record (reply_to shape R r) {
        first = made r.first b;
        second = made r.second b;
      })) many_is

  pub all-divided : (fs : List Frame) → 1 < shards →
      map (made_due sum shards shape E) fs ≡ map (bytes_made sum shards shape E) fs
  all-divided fs many =
      map_same (made_due sum shards shape E) (bytes_made sum shards shape E)
      (λ f. divided-one f many) fs
