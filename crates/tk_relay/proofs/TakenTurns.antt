-- What a client takes of the one reply to its read.
use Rattle.std.proofs.Common.{◌≡◌, refl, ap, ap₂, sym, subst, ◌∙◌, arith, ℕ, zero, suc, ◌+◌, ◌-◌, ◌<◌, ◌≤◌, List, [], ◌∷◌, length, map}
use Rattle.std.proofs.Common.{Bool, Option, Some, None, replicate}
use Rattle.std.specs.Prelude.{IsSome}
use Rattle.std.specs.List.{AllByRecursion, range_with_len}
use Rattle.std.proofs.lemmas.List.{length-map, length-replicate}
use Rattle.std.proofs.lemmas.List.FromFn.{get_or-map-range_with_len}
use Rattle.std.proofs.lemmas.Option.{get_or_from_slice_get}
use Rattle.tk_shape.specs.declared.shape.Shape.{Shape}
use Rattle.tk_shape.specs.Lengths.{turn_count, vector_len, width}
use Rattle.tk_shape.proofs.Offers.{vector_bits}
use Rattle.tk_kernel.specs.Xor.{xor_all}
use Rattle.tk_kernel.specs.Pieces.{AllSized}
use Rattle.tk_kernel.specs.Chosen.{chosen_sum}
use Rattle.tk_bits.specs.Shares.{Share, share, shares, share_at}
use Rattle.tk_bits.proofs.Offers.{answers_join, vectors-shares}
use Rattle.tk_schedule.specs.declared.history.History.{History}
use Rattle.tk_schedule.specs.Schedule.{IsLegal, epoch_at}
use Rattle.tk_script.specs.declared.script.Script.{Script}
use Rattle.tk_words.specs.Words.{WordBook, BookWords, words_of, IsBook, fresh_seeds, fresh_vectors}
use Rattle.tk_words.specs.Words.{opened as opens_to, shows_vectors, seed_at}
use Rattle.tk_frames.specs.declared.read_frame.ReadFrame.{ReadFrame}
use Rattle.tk_frames.specs.declared.reply_frame.ReplyFrame.{ReplyFrame}
use Rattle.tk_frames.specs.Order.{Record}
use Rattle.tk_frames.specs.Ranges.{IsRead, IsReply}
use Rattle.tk_frames.specs.Slots.{text_from}
use Rattle.tk_frames.specs.Spelling.{reply_frame}
use Rattle.tk_table.specs.Table.{layout, blocks_of}
use Rattle.tk_table.specs.Laws.{block_at}
use Rattle.tk_table.specs.Replies.{reply_to}
use Rattle.tk_client.specs.declared.target.Target.{Target}
use Rattle.tk_client.specs.Asked.{asked, frame_with, pair_for}
use Rattle.tk_client.specs.Client.{ClientState, after_replies}
use Rattle.tk_client.specs.Reader.{at_epoch, after_read}
use Rattle.tk_client.specs.Replies.{answer_in, frames_in, first_joined, second_joined}
use Rattle.tk_client.proofs.Offers.{frames_in-spelled, fresh-whole, pair-in_range, length-completed}
use Rattle.tk_report.specs.Clients.{client_before, client_knowing, idle}
use Rattle.tk_report.specs.Exchange.{blank_read, read_at}
use Rattle.tk_report.specs.Queues.{writing_before}
use Rattle.tk_report.specs.Report.{answered, read_over, reader_before, target_at}
use Rattle.tk_report.proofs.Offers.{before-next, bytes-give-lookup, epochs-ordered, epochs-storable, epoch-most, map-map}
use Rattle.tk_relay.specs.declared.part.Part.{Part}
use Rattle.tk_relay.specs.Bundles.{frame_of}
use Rattle.tk_relay.specs.Halves.{Halves, HasHalves, joined}
use Rattle.tk_relay.specs.Laws.{all_served, JoinAlike}
use Rattle.tk_relay.specs.Pads.{PadLists, ArePads}
use Rattle.tk_relay.specs.Parts.{halves_of}
use Rattle.tk_relay.specs.Relayed.{blocks_read, frames_read, pads_read, part_read, reply_read}
use Rattle.tk_relay.specs.Replies.{reply_with, replies_from, unmasked, zero_halves}
use Rattle.tk_relay.specs.Running.{client_asked}
use Rattle.tk_relay.specs.Serving.{gathered_part}
use Rattle.tk_relay.specs.Sights.{AreBlocks}
use Rattle.tk_relay.proofs.AskedTurns.{asked-read, one-read, reads-in_range}
use Rattle.tk_relay.proofs.Joins.{blocks-whole, honest_replies_join, gathered-client, gathered-turn}
use Rattle.tk_relay.proofs.Joins.{gathered-epoch, gathered-sized, all-sized}
use Rattle.tk_relay.proofs.Lists.{list-again}
use Rattle.tk_relay.proofs.Mixing.{joined-sized, mixed-sized, zeros-sized}
use Rattle.tk_relay.proofs.PadLaws.{keyed-are}

-- ---- what the servers' own replies join to

module _ (shape : Shape) (R : List Record) (shows : Bool) (g c e : ℕ) (us vs : List Share) where
  abbrev sum : List ℕ → List ℕ
  sum v = chosen_sum (width shape) (blocks_of (layout shape R)) v

  firsts : (js : List ℕ) →
      map (λ (r : ReplyFrame). r.first) (map (reply_to shape R) (map (frame_with shape shows g c e us vs) js))
      ≡ map (λ j. sum (share_at us (j - 1)).vector) js
  unfolding frame_with
  firsts [] = refl
  firsts (j ∷ js) = ap (λ (xs : List (List ℕ)). sum (share_at us (j - 1)).vector ∷ xs) (firsts js)

  seconds : (js : List ℕ) →
      map (λ (r : ReplyFrame). r.second) (map (reply_to shape R) (map (frame_with shape shows g c e us vs) js))
      ≡ map (λ j. sum (share_at vs (j - 1)).vector) js
  unfolding frame_with
  seconds [] = refl
  seconds (j ∷ js) = ap (λ (xs : List (List ℕ)). sum (share_at vs (j - 1)).vector ∷ xs) (seconds js)

-- what all servers choose for a bucket joins to its block
module _ (shape : Shape) (R : List Record) (bucket : ℕ) (seeds drawn : List (List ℕ))
    (are : AreBlocks shape (blocks_of (layout shape R))) (each : length drawn ≡ shape.servers - 1)
    (sized : AllSized (vector_len shape) drawn) (within : bucket < shape.buckets) where
  abbrev parts : List Share
  parts = shares (vector_len shape) bucket seeds drawn

  parts-counted : length parts ≡ shape.servers
  parts-counted =
      let several = shape.in_range.servers_low in
      sym (length-map parts (λ (s : Share). s.vector))
      ∙ ap length (vectors-shares (vector_len shape) bucket seeds drawn)
      ∙ length-completed (vector_len shape) bucket shape.servers drawn (omega (arith, several)) each

  pub chosen-join : xor_all (width shape)
      (map (λ j. chosen_sum (width shape) (blocks_of (layout shape R)) (share_at parts (j - 1)).vector)
      (range_with_len 1 shape.servers))
      ≡ block_at (layout shape R) bucket
  chosen-join =
      let blocks = blocks_of (layout shape R) in
      let choose = λ (v : List ℕ). chosen_sum (width shape) blocks v in
      let vector = λ (s : Share). s.vector in
      let all = xor_all (width shape) in
      let js = range_with_len 1 shape.servers in
      let counted = are.counted in
      ap all (sym (map-map (λ (s : Share). choose s.vector) (λ j. share_at parts (j - 1)) js)
      ∙ ap (λ n. map (λ (s : Share). choose s.vector) (map (λ j. share_at parts (j - 1)) (range_with_len 1 n)))
      (sym parts-counted)
      ∙ ap (map (λ (s : Share). choose s.vector)) (list-again parts 1 (share [] []))
      ∙ sym (map-map choose vector parts))
      ∙ sym (get_or_from_slice_get blocks bucket _ []
      (answers_join (width shape) (vector_len shape) bucket blocks seeds drawn are.sized
      (counted ∙ vector_bits shape) sized (omega (arith, counted, within))))

-- so what they reply joins to the blocks of the two buckets
pub own-join : (S : Script) (b : WordBook) (H : History) (g c e : ℕ) (t : Option Target) →
    IsBook S.shape b → IsLegal S.shape H → g < turn_count S.shape → c < S.shape.clients →
    let R = read_over S (words_of S.shape b) H g c in
    let pair = pair_for (words_of S.shape b) g c t in
    let replies = map (reply_to S.shape R) (asked S.shape b g c e t) in
    (first_joined S.shape replies ≡ block_at (layout S.shape R) pair.0)
    × (second_joined S.shape replies ≡ block_at (layout S.shape R) pair.1)
own-join S b H g c e t serves legal turn_in client_in =
    let R = read_over S (words_of S.shape b) H g c in
    let pair = pair_for (words_of S.shape b) g c t in
    let size = vector_len S.shape in
    let seeds = fresh_seeds S.shape b g c in
    let drawn = fresh_vectors S.shape b g c in
    let us = shares size pair.0 seeds.first drawn.first in
    let vs = shares size pair.1 seeds.second drawn.second in
    let js = range_with_len 1 S.shape.servers in
    let whole = fresh-whole S.shape b g c serves turn_in client_in in
    let within = pair-in_range S.shape b g c t in
    let blocks =
    blocks-whole S.shape R (epochs-ordered S b H (epoch_at H g c))
    (epochs-storable S b H (epoch_at H g c) serves legal)
    in (
      ap (xor_all (width S.shape)) (firsts S.shape R (shows_vectors b) g c e us vs js)
          ∙ chosen-join S.shape R pair.0 seeds.first drawn.first blocks whole.first_each
          whole.first_sized within.0,
      ap (xor_all (width S.shape)) (seconds S.shape R (shows_vectors b) g c e us vs js)
          ∙ chosen-join S.shape R pair.1 seeds.second drawn.second blocks whole.second_each
          whole.second_sized within.1,
    )

-- ---- the replies that the client makes

each-same : {X : Type 0} (P : X → Type 0) (n : ℕ) (x : X) → P x → AllByRecursion P (replicate n x)
each-same P zero x has = tt
each-same P (suc n) x has = (has, each-same P n x has)

module _ (S : Script) (b : WordBook) (seeds : List (List ℕ)) (H : History) (g c : ℕ)
    (serves : IsBook S.shape b) (legal : IsLegal S.shape H) (turn_in : g < turn_count S.shape)
    (client_in : c < S.shape.clients) where
  reads : AllByRecursion (IsRead S.shape) (frames_read S b H g c)
  reads = reads-in_range S b H g c serves legal turn_in client_in

  blocks-are : AreBlocks S.shape (blocks_read S b H g c)
  unfolding blocks_read
  blocks-are =
      blocks-whole S.shape (read_over S (words_of S.shape b) H g c)
      (epochs-ordered S b H (epoch_at H g c)) (epochs-storable S b H (epoch_at H g c) serves legal)

  pads-are : ArePads S.shape (pads_read S seeds g c)
  pads-are = keyed-are S.shape (seed_at seeds c) g

  -- the replies of all servers, and what server 1 gathers
  abbrev served : List Part
  served = all_served S.shape (blocks_read S b H g c) (pads_read S seeds g c) (frames_read S b H g c)

  pub served-are : map (reply_read S b seeds H g c) (range_with_len 1 S.shape.servers) ≡ served
  unfolding reply_read part_read
  served-are = refl

  pub served-sized : AllByRecursion (λ (p : Part). HasHalves (width S.shape) (halves_of p)) served
  served-sized =
      all-sized S.shape (blocks_read S b H g c) (pads_read S seeds g c) (frames_read S b H g c)
      blocks-are pads-are (one-read S b H g c reads)

  abbrev one_reply : Part
  one_reply = gathered_part served

  abbrev made : List ReplyFrame
  made = replies_from S.shape (pads_read S seeds g c) one_reply

  first-frame : frame_of (frames_read S b H g c) 1 ≡ read_at S b H g c 1
  first-frame =
      let several = S.shape.in_range.servers_low in
      get_or-map-range_with_len (read_at S b H g c) 1 S.shape.servers 0 1 blank_read
      (omega (arith, several)) refl

  -- a reply with sums, which is to the read
  made-in_range : (x : Halves) → HasHalves (width S.shape) x →
      IsReply S.shape (reply_with one_reply x)
  unfolding read_at frame_with
  made-in_range x sized =
      let blocks = blocks_read S b H g c in
      let pads = pads_read S seeds g c in
      let frames = frames_read S b H g c in
      let one = one-read S b H g c reads in
      let client : one_reply.client ≡ c =
      gathered-client S.shape blocks pads frames blocks-are pads-are one
      ∙ ap (λ (r : ReadFrame). r.client) first-frame
      in
      let turn : one_reply.turn ≡ g =
      gathered-turn S.shape blocks pads frames blocks-are pads-are one
      ∙ ap (λ (r : ReadFrame). r.turn) first-frame
      in
      let epoch : one_reply.epoch ≡ epoch_at H g c =
      gathered-epoch S.shape blocks pads frames blocks-are pads-are one
      ∙ ap (λ (r : ReadFrame). r.epoch) first-frame
      in
      record {
        client = subst (λ (n : ℕ). n < S.shape.clients) (sym client) client_in;
        turn = subst (λ (n : ℕ). n < turn_count S.shape) (sym turn) turn_in;
        epoch = subst (λ (n : ℕ). n ≤ S.shape.phases) (sym epoch)
            (epoch-most S H g c legal turn_in client_in);
        first_len = sized.first;
        second_len = sized.second;
      }

  all-in_range : AllByRecursion (IsReply S.shape) made
  unfolding replies_from
  all-in_range =
      let n = width S.shape in
      let pads = pads_read S seeds g c in
      let joined_pads = joined-sized n pads.replies pads-are.replies_sized in
      let gathered = gathered-sized S.shape (blocks_read S b H g c) pads (frames_read S b H g c)
      blocks-are pads-are (one-read S b H g c reads)
      in (
        made-in_range (unmasked S.shape pads one_reply)
            (mixed-sized n (halves_of one_reply) (joined n pads.replies) gathered joined_pads),
        each-same (IsReply S.shape) (S.shape.servers - 1) (reply_with one_reply (zero_halves n))
            (made-in_range (zero_halves n) (zeros-sized n)),
      )

  -- they join to the blocks of the two buckets
  made-join : JoinAlike S.shape made
      (map (reply_to S.shape (read_over S (words_of S.shape b) H g c)) (frames_read S b H g c))
  unfolding blocks_read
  made-join =
      honest_replies_join S.shape (read_over S (words_of S.shape b) H g c) (pads_read S seeds g c)
      (frames_read S b H g c) (epochs-ordered S b H (epoch_at H g c))
      (epochs-storable S b H (epoch_at H g c) serves legal) pads-are (one-read S b H g c reads)

  -- so what they give for a target is what is looked up
  answer-made : (t : Option Target) → t ≡ target_at S (words_of S.shape b) H g c →
      answer_in S.shape (words_of S.shape b) made t
      ≡ answered S.shape (words_of S.shape b) (read_over S (words_of S.shape b) H g c) t
  answer-made None is = refl
  answer-made (Some t) is =
      let w = words_of S.shape b in
      let R = read_over S w H g c in
      let e = epoch_at H g c in
      let asks : frames_read S b H g c ≡ asked S.shape b g c e (Some t) =
      sym (ap (asked S.shape b g c e) is ∙ asked-read S b H g c)
      in
      let own = own-join S b H g c e (Some t) serves legal turn_in client_in in
      let first = made-join.first
      ∙ ap (λ (frames : List ReadFrame). first_joined S.shape (map (reply_to S.shape R) frames)) asks
      ∙ own.0
      in
      let second = made-join.second
      ∙ ap (λ (frames : List ReadFrame). second_joined S.shape (map (reply_to S.shape R) frames)) asks
      ∙ own.1
      in
      ap₂ (λ (x y : List ℕ). text_from S.shape (w.pair t.log t.number) (opens_to w t.log t.number) x y)
      first second
      ∙ bytes-give-lookup S b H e t.log t.number serves legal

  -- and the client knows afterwards what it knows before the next turn
  pub client-takes : {old new : ClientState} {replies : List (List ℕ)} →
      old ≡ client_asked S (words_of S.shape b) H g c → replies ≡ map reply_frame made →
      new ≡ after_replies (words_of old.shape b) replies old →
      new ≡ client_before S (words_of S.shape b) H (g + 1) c
  unfolding client_asked client_knowing client_before
  client-takes {old} {new} {replies} asks are is =
      let w = words_of S.shape b in
      let R = read_over S w H g c in
      let e = epoch_at H g c in
      let t = target_at S w H g c in
      let r = reader_before S w H c g in
      let answer : answer_in S.shape w (frames_in S.shape replies) t ≡ answered S.shape w R t =
      ap (λ (fs : List ReplyFrame). answer_in S.shape w fs t)
      (ap (frames_in S.shape) are ∙ frames_in-spelled S.shape made all-in_range)
      ∙ answer-made t refl
      in
      is
      ∙ ap (λ (s : ClientState). after_replies (words_of s.shape b) replies s) asks
      ∙ ap (λ (o : Option (List ℕ)). idle S.shape c (writing_before S c (g + 1))
      (after_read S.shape (at_epoch e r) t o)) answer
      ∙ ap (idle S.shape c (writing_before S c (g + 1))) (sym (before-next S w H c g))

-- ---- what a client is before it takes replies

module _ (S : Script) (w : BookWords) (H : History) (g c : ℕ) (client : ClientState)
    (is : client ≡ client_asked S w H g c) where
  pub asked-shape : client.shape ≡ S.shape
  unfolding client_asked client_knowing
  asked-shape = ap (λ (s : ClientState). s.shape) is

  pub asked-open : IsSome client.read
  unfolding client_asked client_knowing
  asked-open = subst (λ (s : ClientState). IsSome s.read) (sym is) refl

-- as many replies are made as there are servers
pub made-counted : (shape : Shape) (pads : PadLists) (p : Part) (replies : List (List ℕ)) →
    replies ≡ map reply_frame (replies_from shape pads p) → length replies ≡ shape.servers
unfolding replies_from
made-counted shape pads p replies are =
    let several = shape.in_range.servers_low in
    let same = ap length are ∙ length-map (replies_from shape pads p) reply_frame in
    let rest = length-replicate (shape.servers - 1) (reply_with p (zero_halves (width shape))) in
    omega (arith, same, rest, several)
