-- What a server sees is made of the cells of the normal tape.
use Rattle.std.proofs.Common.{◌≡◌, ◌≢◌, ℕ, zero, suc, ◌+◌, ◌-◌, ◌≤◌, ◌<◌, true, List, [], ◌∷◌, ◌++◌}
use Rattle.std.proofs.Common.{length, map, flat_map, count_by, get_or, refl, ap, ap₂, sym}
use Rattle.std.proofs.Common.{subst, ◌∙◌, arith, Option, Some, None, ltb-true}
use Rattle.std.specs.Prelude.{nat_lt}
use Rattle.std.specs.List.{range_with_len, list_all}
use Rattle.std.specs.Option.{option_map}
use Rattle.tk_shape.specs.declared.shape.Shape.{Shape}
use Rattle.tk_shape.specs.Lengths.{turn_count, vector_len, tape_len}
use Rattle.tk_schedule.specs.declared.history.History.{History}
use Rattle.tk_schedule.specs.declared.item.Item.{Item}
use Rattle.tk_schedule.specs.declared.item.Item.TheVariants.{Client, Publish}
use Rattle.tk_schedule.specs.Schedule.{IsLegal, order_at, epoch_at, blank_turn, is_within}
use Rattle.tk_schedule.proofs.Offers.{turn_within}
use Rattle.tk_script.specs.declared.script.Script.{Script}
use Rattle.tk_script.specs.Sent.{Sending, sent, sent_as, writer_of}
use Rattle.std.proofs.lemmas.Bool.{and_parts}
use Rattle.std.proofs.lemmas.List.{length-map}
use Rattle.tk_words.specs.Words.{drawn, words_of, cell_pieces, piece_seed, piece_vector, write_cell, read_cell}
use Rattle.tk_words.specs.Words.{keyed_cell, cell_write, pair_of, hits_of, pad_of, tag_of}
use Rattle.tk_words.specs.Words.{fresh_write, fresh_seeds, fresh_vectors}
use Rattle.tk_frames.specs.declared.write_frame.WriteFrame.{WriteFrame}
use Rattle.tk_frames.specs.declared.read_frame.ReadFrame.{ReadFrame}
use Rattle.tk_frames.specs.declared.entry.Placed.{Placed}
use Rattle.tk_frames.specs.declared.entry.Entry.TheVariants.{Write, Mark}
use Rattle.tk_frames.specs.Spelling.{placed_frame, read_frame}
use Rattle.tk_frames.specs.Order.{is_mark_entry}
use Rattle.tk_client.specs.Writes.{write_of, dummy}
use Rattle.tk_bits.proofs.Offers.{vector-at, seed-at}
use Rattle.tk_client.specs.Asked.{frame_for, frame_with}
use Rattle.tk_client.proofs.Offers.{told-alike}
use Rattle.tk_report.specs.Queues.{waiting_of}
use Rattle.tk_report.specs.Entries.{write_at, placed_from, placed_after, entries_before}
use Rattle.tk_report.specs.Exchange.{turn_frames, frames_before}
use Rattle.tk_privacy.specs.Privacy.{Pairs, shown_write_cell, shown_keyed_cell, read_cell_for}
use Rattle.tk_privacy.specs.Privacy.{shown_read, normal_for, cells_view, read_for, view_for}
use Rattle.tk_privacy.proofs.Tapes.{IsTape}
use Rattle.tk_privacy.proofs.Masks.{cell_write-masked}
use Rattle.tk_privacy.proofs.ReadCells.{both, AreShown, pieces-shown}
use Rattle.tk_privacy.proofs.SameWords.{length-read_cell}
use Rattle.tk_privacy.proofs.Changes.{normal-IsTape, sent_len}

-- ---- frames that agree, where writes and reads do

pub same-placed : (f g : ℕ → WriteFrame) (n : ℕ) → ((c : ℕ) → c < n → f c ≡ g c) →
    (position e : ℕ) (items : List Item) →
    list_all (is_within n) items ≡ true → placed_from f position e items
    ≡ placed_from g position e items
unfolding placed_from
same-placed f g n same position e [] within = refl
same-placed f g n same position e (Client c ∷ items) within =
    let split = and_parts (nat_lt c n) (list_all (is_within n) items) within in
    ap₂ (λ (w : WriteFrame) (rest : List Placed). record { position = position; entry = Write w }
    ∷ rest)
    (same c (ltb-true c n split.0)) (same-placed f g n same (position + 1) e items split.1)
same-placed f g n same position e (Publish ∷ items) within =
    ap (λ (rest : List Placed). record { position = position; entry = Mark e } ∷ rest)
    (same-placed f g n same (position + 1) (e + 1) items within)

pub same-flat : {X : Type 0} (f g : ℕ → List X) (a n : ℕ) → ((k : ℕ) → k < a + n → f k ≡ g k) →
    flat_map f (range_with_len a n) ≡ flat_map g (range_with_len a n)
same-flat f g a zero h = refl
same-flat {X} f g a (suc n) h =
    ap₂ (λ (x y : List X). x ++ y) (h a (omega arith))
    (same-flat f g (a + 1) n (λ k l. h k (omega arith)))

module _ (shape : Shape) (H : History) (legal : IsLegal shape H) (f f' : ℕ → ℕ → WriteFrame)
    (writes : (g c : ℕ) → g < turn_count shape → c < shape.clients → f g c ≡ f' g c) where
  same-turn : (g : ℕ) (E : List Placed) → g < turn_count shape → placed_after (f g) E (order_at H g)
      ≡ placed_after (f' g) E (order_at H g)
  same-turn g E turn =
      same-placed (f g) (f' g) shape.clients (λ c client. writes g c turn client) (length E + 1)
      (count_by is_mark_entry E + 1) (order_at H g)
      (turn_within shape g (get_or H g blank_turn) (legal.each_turn g turn))

  same-entries : (g : ℕ) → g ≤ turn_count shape → entries_before f H g ≡ entries_before f' H g
  unfolding entries_before
  same-entries zero low = refl
  same-entries (suc g) low =
      let before = same-entries g (omega arith) in
      ap (λ (E : List Placed). E ++ placed_after (f g) E (order_at H g)) before
      ∙ ap (λ ys. entries_before f' H g ++ ys) (same-turn g (entries_before f' H g) (omega arith))

  module _ (r r' : ℕ → ℕ → List (List ℕ))
      (reads : (g c : ℕ) → g < turn_count shape → c < shape.clients → r g c ≡ r' g c) where
    same-turn_frames : (g : ℕ) → g < turn_count shape → turn_frames shape H f r g
        ≡ turn_frames shape H f' r' g
    same-turn_frames g turn =
        ap₂ (λ (xs ys : List (List ℕ)). xs ++ ys)
        (ap (map placed_frame)
        (ap (λ (E : List Placed). placed_after (f g) E (order_at H g))
        (same-entries g (omega arith))
        ∙ same-turn g (entries_before f' H g) turn))
        (same-flat (r g) (r' g) 0 shape.clients (λ c client. reads g c turn (omega arith)))

    pub same-frames : frames_before shape H f r (turn_count shape)
        ≡ frames_before shape H f' r' (turn_count shape)
    unfolding frames_before
    same-frames =
        same-flat (turn_frames shape H f r) (turn_frames shape H f' r') 0 (turn_count shape)
        (λ g turn. same-turn_frames g (omega arith))

-- ---- one script

module _ (S : Script) (h : ℕ) (pairs : Pairs) (u : List ℕ) (whole : length u ≡ tape_len S.shape)
  where
    v : List ℕ
    v = normal_for S h pairs u

    tv : IsTape S.shape (λ g c. shown_write_cell S.shape u g c (sent S g c))
        (read_cell_for S.shape h pairs u)
        (λ log s. shown_keyed_cell S.shape u (writer_of S log) log s (sent_as S log s)) v
    unfolding v
    tv = normal-IsTape S u whole h pairs

    -- the write of a turn is the shown write cell, whether a text is sent or not
    write_shown : (g c : ℕ) (o : Option Sending) → sent S g c ≡ o →
        write_of (words_of S.shape (drawn u)) g c (option_map waiting_of o)
        ≡ dummy g c (cell_write S.shape (shown_write_cell S.shape u g c o))
    unfolding fresh_write pair_of hits_of pad_of tag_of
    write_shown g c None e = refl
    write_shown g c (Some y) e =
        ap (dummy g c) (sym (cell_write-masked S.shape y.text (keyed_cell S.shape u y.log y.number)
        (sent_len S u whole g c y e)))

    pub write-seen : (g c : ℕ) → g < turn_count S.shape → c < S.shape.clients →
        write_at S (words_of S.shape (drawn u)) g c
        ≡ dummy g c (cell_write S.shape (write_cell S.shape (normal_for S h pairs u) g c))
    unfolding write_at v
    write-seen g c turn client =
        write_shown g c (sent S g c) refl
        ∙ ap (λ cell. dummy g c (cell_write S.shape cell)) (sym (tv.writes g c turn client))

    pieces_kept : (g c : ℕ) → g < turn_count S.shape → c < S.shape.clients →
        cell_pieces S.shape (read_cell_for S.shape h pairs u g c)
        ≡ cell_pieces S.shape (read_cell S.shape v g c)
    pieces_kept g c turn client = ap (cell_pieces S.shape) (sym (tv.reads g c turn client))

    module _ (H : History) (j : ℕ) (low : 1 ≤ h) (high : h ≤ S.shape.servers) (j_low : 1 ≤ j)
        (j_high : j ≤ S.shape.servers) (differ : j ≢ h) where
      -- a read over any epoch
      pub read-seen : (g c e : ℕ) → g < turn_count S.shape → c < S.shape.clients →
          frame_for S.shape (drawn u) g c e (pairs g c) j
          ≡ record (shown_read S.shape H h (normal_for S h pairs u) j g c) { epoch = e }
      unfolding frame_with shown_read fresh_seeds fresh_vectors v
      read-seen g c e turn client =
          let cell = read_cell S.shape u g c in
          let pair = pairs g c in
          let size = length-read_cell S.shape u g c whole turn client in
          let own = cell_pieces S.shape cell in
          let counted = both S.shape cell size in
          let shown = subst (AreShown S.shape cell size h j pair own) (pieces_kept g c turn client)
          (pieces-shown S.shape cell size h j pair low high j_low j_high differ) in
          let firsts = map (piece_vector S.shape) own.first in
          let seconds = map (piece_vector S.shape) own.second in
          let first_seeds = map (piece_seed S.shape) own.first in
          let second_seeds = map (piece_seed S.shape) own.second in
          let bits = vector_len S.shape in
          let first_each : length firsts ≡ S.shape.servers - 1 =
          length-map own.first (piece_vector S.shape) ∙ counted.first.count in
          let second_each : length seconds ≡ S.shape.servers - 1 =
          length-map own.second (piece_vector S.shape) ∙ counted.second.count in
          let told = told-alike S.shape true j _ _ (λ less.
          ap₂ (λ (s t : List ℕ). s ++ t)
          (seed-at bits pair.0 (j - 1) first_seeds firsts (omega (arith, less, j_low, first_each))
          ∙ sym (shown.first.seed less))
          (seed-at bits pair.1 (j - 1) second_seeds seconds (omega (arith, less, j_low, second_each))
          ∙ sym (shown.second.seed less))) in
          λ i. record {
            client = c;
            turn = g;
            epoch = e;
            first = (vector-at bits pair.0 (j - 1) first_seeds firsts ∙ sym shown.first.vector) i;
            second = (vector-at bits pair.1 (j - 1) second_seeds seconds ∙ sym shown.second.vector) i;
            seeds = told i;
          }

-- whichever buckets are read
pub view-is : (S : Script) (H : History) (h j : ℕ) (pairs : Pairs) (u : List ℕ) →
    IsLegal S.shape H → length u ≡ tape_len S.shape → 1 ≤ h → h ≤ S.shape.servers → 1 ≤ j →
    j ≤ S.shape.servers → j ≢ h →
    view_for S (drawn u) H pairs j ≡ cells_view S.shape H h (normal_for S h pairs u) j
unfolding cells_view shown_read
view-is S H h j pairs u legal whole low high j_low j_high differ =
    let v = normal_for S h pairs u in
    same-frames S.shape H legal (write_at S (words_of S.shape (drawn u)))
    (λ g c. dummy g c (cell_write S.shape (write_cell S.shape v g c)))
    (write-seen S h pairs u whole)
    (λ g c. read_frame (read_for S.shape (drawn u) H (pairs g c) g c j) ∷ [])
    (λ g c. read_frame (shown_read S.shape H h v j g c) ∷ [])
    (λ g c turn client. ap (λ (f : ReadFrame). read_frame f ∷ [])
    (read-seen S h pairs u whole H j low high j_low j_high differ g c (epoch_at H g c) turn client))
