-- The buckets that are read over a tape and those that are found read by read over what is regained
-- from it: they are the same.
use Rattle.std.proofs.Common.{◌≡◌, ℕ, zero, suc, ◌-◌, ◌≤◌, ◌<◌, ◌==◌, cond, List, length, map}
use Rattle.std.proofs.Common.{refl, ap, ap₂, sym, ◌∙◌, arith}
use Rattle.std.specs.List.{range_with_len}
use Rattle.tk_shape.specs.declared.shape.Shape.{Shape}
use Rattle.tk_shape.specs.Lengths.{turn_count, vector_len, width, tape_len}
use Rattle.tk_schedule.specs.declared.history.History.{History}
use Rattle.tk_script.specs.declared.script.Script.{Script}
use Rattle.tk_kernel.specs.Chosen.{chosen_sum}
use Rattle.tk_bits.proofs.Offers.{vector-at}
use Rattle.tk_words.specs.Words.{BookWords, drawn, words_of, read_cell, cell_pieces, piece_seed}
use Rattle.tk_words.specs.Words.{piece_vector, fresh_seeds, fresh_vectors}
use Rattle.tk_frames.specs.declared.read_frame.ReadFrame.{ReadFrame}
use Rattle.tk_frames.specs.declared.reply_frame.ReplyFrame.{ReplyFrame}
use Rattle.tk_frames.specs.Order.{Record}
use Rattle.tk_table.specs.Table.{layout, blocks_of}
use Rattle.tk_client.specs.Reader.{Reader, at_epoch, after_read}
use Rattle.tk_client.specs.Replies.{answer_in}
use Rattle.tk_client.specs.Asked.{pair_for, frame_for, frame_with}
use Rattle.tk_schedule.specs.Schedule.{epoch_at}
use Rattle.tk_report.specs.Report.{target_for, read_over}
use Rattle.tk_privacy.specs.Privacy.{Pairs, normal_for, regained, unnormal_for, shown_read_cell}
use Rattle.tk_privacy.proofs.Offers as privacy
use Rattle.tk_hostile.specs.Choice.{Choice, own_sums, sums_by, reply_by, replies_by}
use Rattle.tk_hostile.specs.Wrong.{Asking, reader_next, reader_asking, pair_asking, asks, wrong_pair}
use Rattle.tk_hostile.specs.Wrong.{wrong_normal, read_from, read_regained, asks_regained, pair_regained, wrong_unnormal}

-- ---- frames that are replied to alike

-- two read frames that differ in their seeds alone
pub record AreAlike (r r' : ReadFrame) : Type 0 where
  pub client : r.client ≡ r'.client
  pub turn : r.turn ≡ r'.turn
  pub epoch : r.epoch ≡ r'.epoch
  pub first : r.first ≡ r'.first
  pub second : r.second ≡ r'.second

alike-same : (r r' : ReadFrame) → r ≡ r' → AreAlike r r'
alike-same r r' same =
    record {
      client = ap (λ (x : ReadFrame). x.client) same;
      turn = ap (λ (x : ReadFrame). x.turn) same;
      epoch = ap (λ (x : ReadFrame). x.epoch) same;
      first = ap (λ (x : ReadFrame). x.first) same;
      second = ap (λ (x : ReadFrame). x.second) same;
    }

module _ (shape : Shape) (h : ℕ) (F : Choice) (R : List Record) (r r' : ReadFrame)
    (are : AreAlike r r') where
  own-alike : own_sums shape R r ≡ own_sums shape R r'
  own-alike =
      let blocks = blocks_of (layout shape R) in
      λ i. record {
        first = chosen_sum (width shape) blocks (are.first i);
        second = chosen_sum (width shape) blocks (are.second i);
      }

  sums-alike : (j : ℕ) → sums_by shape h F R r j ≡ sums_by shape h F R r' j
  sums-alike j = λ i. cond (j == h) (own-alike i) (F (are.turn i) (are.client i) j)

  by-alike : reply_by shape h F R r ≡ reply_by shape h F R r'
  by-alike =
      λ i j. record {
        client = are.client i;
        turn = are.turn i;
        epoch = are.epoch i;
        first = (sums-alike j i).first;
        second = (sums-alike j i).second;
      }

  pub replies-alike : replies_by shape h F R r ≡ replies_by shape h F R r'
  unfolding replies_by
  replies-alike =
      ap (λ (by : ℕ → ReplyFrame). map by (range_with_len 1 shape.servers)) by-alike

-- ---- readers who hear the same

module _ (S : Script) (w : BookWords) (H : History) (h : ℕ) (F : Choice) (ask ask' : Asking) (c : ℕ)
  where
    next-same : (g : ℕ) (reader : Reader) →
        let pair = pair_for w g c (target_for S w H g c reader) in
        AreAlike (ask g c pair) (ask' g c pair) →
        reader_next S w H h F ask g c reader ≡ reader_next S w H h F ask' g c reader
    next-same g reader are =
        let t = target_for S w H g c reader in
        let r : ReadFrame = ask g c (pair_for w g c t) in
        let r' : ReadFrame = ask' g c (pair_for w g c t) in
        let next : List ReplyFrame → Reader =
        λ replies. after_read S.shape (at_epoch (epoch_at H g c) reader) t
        (answer_in S.shape w replies t)
        in
        ap₂ (λ (n m : ℕ). next (replies_by S.shape h F (read_over S w H n m) r)) are.turn are.client
        ∙ ap next (replies-alike S.shape h F (read_over S w H r'.turn r'.client) r r' are)

    -- the hidden server is asked alike in the reads before a turn
    abbrev AskAlike : ℕ → Type 0
    AskAlike n =
        (g : ℕ) → g < n →
        AreAlike (ask g c (pair_asking S w H h F ask g c)) (ask' g c (pair_asking S w H h F ask g c))

    pub readers-same : (n : ℕ) → AskAlike n →
        reader_asking S w H h F ask c n ≡ reader_asking S w H h F ask' c n
    unfolding reader_asking
    readers-same zero alike = refl
    readers-same (suc g) alike =
        next-same g (reader_asking S w H h F ask c g) (alike g (omega arith))
        ∙ ap (reader_next S w H h F ask' g c) (readers-same g (λ k low. alike k (omega arith)))

    pub pairs-same : (g : ℕ) → AskAlike g →
        pair_asking S w H h F ask g c ≡ pair_asking S w H h F ask' g c
    pairs-same g alike =
        ap (λ (reader : Reader). pair_for w g c (target_for S w H g c reader)) (readers-same g alike)

-- ---- one read frame

module _ (S : Script) (h : ℕ) (low : 1 ≤ h) (pairs : Pairs) where
  -- over a tape, and over what is regained once it is changed
  pub read-back : (u : List ℕ) → length u ≡ tape_len S.shape → (g c e j : ℕ) →
      g < turn_count S.shape → c < S.shape.clients →
      frame_for S.shape (drawn u) g c e (pairs g c) j
      ≡ read_regained S.shape h (regained S (normal_for S h pairs u)) g c e (pairs g c) j
  unfolding fresh_seeds fresh_vectors
  read-back u whole g c e j turn client =
      ap (λ (cell : List ℕ). read_from S.shape cell g c e (pairs g c) j)
      (sym (privacy.reads-regained S h low pairs u whole g c turn client))

  -- over what is regained, and over the tape whose change is undone
  pub read-again : (z : List ℕ) → length z ≡ tape_len S.shape → (g c e j : ℕ) →
      g < turn_count S.shape → c < S.shape.clients →
      read_regained S.shape h (regained S z) g c e (pairs g c) j
      ≡ frame_for S.shape (drawn (unnormal_for S h pairs z)) g c e (pairs g c) j
  unfolding fresh_seeds fresh_vectors
  read-again z whole g c e j turn client =
      ap (λ (cell : List ℕ). read_from S.shape cell g c e (pairs g c) j)
      (sym (privacy.reads-undone S h low pairs z whole g c turn client))

-- ---- over what is regained from a changed tape

module _ (S : Script) (H : History) (h : ℕ) (low : 1 ≤ h) (F : Choice) (u : List ℕ)
    (whole : length u ≡ tape_len S.shape) where
  pairs : Pairs
  pairs = wrong_pair S (drawn u) H h F

  r : List ℕ
  r = regained S (normal_for S h pairs u)

  asked-back : (g c : ℕ) → g < turn_count S.shape → c < S.shape.clients →
      asks S.shape (drawn u) H h g c (wrong_pair S (drawn u) H h F g c)
      ≡ asks_regained S.shape H h r g c (wrong_pair S (drawn u) H h F g c)
  unfolding pairs r
  asked-back g c turn client =
      read-back S h low (wrong_pair S (drawn u) H h F) u whole g c (epoch_at H g c) h turn client

  pairs-back : (g c : ℕ) → g < turn_count S.shape → c < S.shape.clients →
      pair_regained S H h F r g c ≡ wrong_pair S (drawn u) H h F g c
  unfolding pairs r
  pairs-back g c turn client =
      ap (λ (w : BookWords). pair_asking S w H h F (asks_regained S.shape H h r) g c)
      (privacy.words-regained S h low pairs u whole)
      ∙ sym (pairs-same S (words_of S.shape (drawn u)) H h F (asks S.shape (drawn u) H h)
      (asks_regained S.shape H h r) c g
      (λ k less. alike-same _ _ (asked-back k c (omega (arith, less, turn)) client)))

  pub unnormal-normal : wrong_unnormal S H h F (wrong_normal S H h F u) ≡ u
  unfolding wrong_unnormal wrong_normal pairs r
  unnormal-normal =
      privacy.same-unnormal_for S h (pair_regained S H h F r) pairs (normal_for S h pairs u)
      pairs-back
      ∙ privacy.unnormal-normal S h low pairs u whole

-- ---- over a tape whose change is undone

module _ (S : Script) (H : History) (h : ℕ) (low : 1 ≤ h) (F : Choice) (z : List ℕ)
    (whole : length z ≡ tape_len S.shape) where
  found : Pairs
  found = pair_regained S H h F (regained S z)

  undone : List ℕ
  undone = unnormal_for S h found z

  asked-again : (g c : ℕ) → g < turn_count S.shape → c < S.shape.clients →
      asks_regained S.shape H h (regained S z) g c (pair_regained S H h F (regained S z) g c)
      ≡ asks S.shape (drawn undone) H h g c (pair_regained S H h F (regained S z) g c)
  unfolding found undone
  asked-again g c turn client =
      read-again S h low (pair_regained S H h F (regained S z)) z whole g c (epoch_at H g c) h turn
      client

  pairs-again : (g c : ℕ) → g < turn_count S.shape → c < S.shape.clients →
      wrong_pair S (drawn undone) H h F g c ≡ pair_regained S H h F (regained S z) g c
  unfolding found undone
  pairs-again g c turn client =
      ap (λ (w : BookWords). pair_asking S w H h F (asks S.shape (drawn undone) H h) g c)
      (privacy.words-undone S h low found z whole)
      ∙ sym (pairs-same S (words_of S.shape (drawn (regained S z))) H h F
      (asks_regained S.shape H h (regained S z)) (asks S.shape (drawn undone) H h) c g
      (λ k less. alike-same _ _ (asked-again k c (omega (arith, less, turn)) client)))

  pub normal-unnormal : wrong_normal S H h F (wrong_unnormal S H h F z) ≡ z
  unfolding wrong_unnormal wrong_normal found undone
  normal-unnormal =
      privacy.same-normal_for S h (wrong_pair S (drawn undone) H h F) found undone pairs-again
      ∙ privacy.normal-unnormal S h low found z whole

-- ---- computed over what is regained

module _ (S : Script) (H : History) (h : ℕ) (high : h ≤ S.shape.servers) (F : Choice) (r : List ℕ)
    (whole : length r ≡ tape_len S.shape) where
  -- the hidden server gets the vectors that the last server gets over the tape
  asked-last : (g c : ℕ) (pair : ℕ × ℕ) → g < turn_count S.shape → c < S.shape.clients →
      AreAlike (asks_regained S.shape H h r g c pair)
      (asks S.shape (drawn r) H S.shape.servers g c pair)
  unfolding fresh_seeds fresh_vectors frame_with
  asked-last g c pair turn client =
      let shape = S.shape in
      let bits = vector_len shape in
      let cell = read_cell shape r g c in
      let size = privacy.length-read_cell shape r g c whole turn client in
      let own = cell_pieces shape cell in
      let back = cell_pieces shape (shown_read_cell shape h pair cell) in
      let gets = privacy.pieces-hidden shape cell size h pair high in
      record {
        client = refl;
        turn = refl;
        epoch = refl;
        first =
            vector-at bits pair.0 (h - 1) (map (piece_seed shape) back.first)
            (map (piece_vector shape) back.first)
            ∙ gets.first
            ∙ sym (vector-at bits pair.0 (shape.servers - 1) (map (piece_seed shape) own.first)
            (map (piece_vector shape) own.first));
        second =
            vector-at bits pair.1 (h - 1) (map (piece_seed shape) back.second)
            (map (piece_vector shape) back.second)
            ∙ gets.second
            ∙ sym (vector-at bits pair.1 (shape.servers - 1) (map (piece_seed shape) own.second)
            (map (piece_vector shape) own.second));
      }

  -- so the buckets are found by what it sees
  pub pairs-last : (g c : ℕ) → g < turn_count S.shape → c < S.shape.clients →
      pair_asking S (words_of S.shape (drawn r)) H h F (asks S.shape (drawn r) H S.shape.servers) g c
      ≡ pair_regained S H h F r g c
  pairs-last g c turn client =
      sym (pairs-same S (words_of S.shape (drawn r)) H h F (asks_regained S.shape H h r)
      (asks S.shape (drawn r) H S.shape.servers) c g
      (λ k less. asked-last k c (pair_regained S H h F r k c) (omega (arith, less, turn)) client))
