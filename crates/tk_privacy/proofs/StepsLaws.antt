-- What the last server sees of reads changes the read cells.
use Rattle.std.proofs.Common.{◌≡◌, ◌∙◌, ap, ap₂, sym, arith, ℕ, ◌-◌, ◌*◌, ◌<◌, ◌≤◌, cond, List, [], length, map, drop}
use Rattle.std.proofs.lemmas.Bool.{lt-ltb, le-ltb}
use Rattle.std.proofs.lemmas.List.{get_or_push, length-map}
use Rattle.tk_shape.specs.declared.shape.Shape.{Shape}
use Rattle.tk_shape.specs.Lengths.{turn_count, vector_len, piece_len, tape_len}
use Rattle.tk_schedule.specs.declared.history.History.{History}
use Rattle.tk_kernel.proofs.Offers.{length-pieces}
use Rattle.tk_bits.specs.Shares.{last_share, shares, share_at}
use Rattle.tk_bits.proofs.Offers.{vector-at}
use Rattle.tk_words.specs.Words.{drawn, cell_pieces, piece_seed, piece_vector}
use Rattle.tk_words.specs.Words.{read_cell, read_part, fresh_seeds, fresh_vectors}
use Rattle.tk_frames.specs.declared.read_frame.ReadFrame.{ReadFrame}
use Rattle.tk_client.specs.Asked.{frame_with}
use Rattle.tk_privacy.specs.Privacy.{Pairs, changed_read, read_cell_for, read_for}
use Rattle.tk_privacy.specs.Hiding.{cell_with, read_in, hidden_read, reads_hidden}
use Rattle.tk_privacy.specs.Steps.{AreLastReads, reads_changed}
use Rattle.tk_privacy.proofs.Tapes.{same-rows, same-read_part}

module _ (shape : Shape) (H : History) (h : ℕ) (pairs : Pairs) (u : List ℕ) where
  -- the last of completed vectors
  last-completed : (bucket : ℕ) (seeds vectors : List (List ℕ)) →
      length vectors ≡ shape.servers - 1 →
      (share_at (shares (vector_len shape) bucket seeds vectors) (shape.servers - 1)).vector
      ≡ last_share (vector_len shape) bucket vectors
  last-completed bucket seeds vectors counted =
      let size = vector_len shape in
      vector-at size bucket (shape.servers - 1) seeds vectors
      ∙ get_or_push vectors (last_share size bucket vectors) [] (shape.servers - 1)
      (omega (arith, counted))

  last-first : (g c : ℕ) → let pieces = cell_pieces shape (read_cell shape u g c) in
      (read_for shape (drawn u) H (pairs g c) g c shape.servers).first
      ≡ last_share (vector_len shape) (pairs g c).0
      (map (piece_vector shape) pieces.first)
  unfolding frame_with fresh_seeds fresh_vectors
  last-first g c =
      let bytes = drop 8 (read_cell shape u g c) in
      let pieces = (cell_pieces shape (read_cell shape u g c)).first in
      last-completed (pairs g c).0
      (map (piece_seed shape) pieces) (map (piece_vector shape) pieces)
      (length-map pieces (piece_vector shape)
      ∙ length-pieces (piece_len shape) (shape.servers - 1) bytes)

  last-second : (g c : ℕ) → let pieces = cell_pieces shape (read_cell shape u g c) in
      (read_for shape (drawn u) H (pairs g c) g c shape.servers).second
      ≡ last_share (vector_len shape) (pairs g c).1
      (map (piece_vector shape) pieces.second)
  unfolding frame_with fresh_seeds fresh_vectors
  last-second g c =
      let size = piece_len shape in
      let bytes = drop 8 (read_cell shape u g c) in
      let pieces = (cell_pieces shape (read_cell shape u g c)).second in
      last-completed (pairs g c).1
      (map (piece_seed shape) pieces) (map (piece_vector shape) pieces)
      (length-map pieces (piece_vector shape)
      ∙ length-pieces size (shape.servers - 1) (drop ((shape.servers - 1) * size) bytes))

  -- where the hidden server isn't the last
  changed-is : (g c : ℕ) → h < shape.servers →
      read_cell_for shape h pairs u g c
      ≡ changed_read shape h (pairs g c)
      (read_cell shape u g c)
  changed-is g c high =
      ap (λ b. cond b (changed_read shape h (pairs g c)
      (read_cell shape u g c)) (read_cell shape u g c)) (lt-ltb h shape.servers high)

  hidden-is : (reads : List ReadFrame) (g c : ℕ) → h < shape.servers →
      read_in shape reads g c ≡ read_for shape (drawn u) H (pairs g c) g c shape.servers →
      hidden_read shape reads h u g c ≡ read_cell_for shape h pairs u g c
  unfolding changed_read
  hidden-is reads g c high is =
      let cell = read_cell shape u g c in
      ap (λ (r : ReadFrame). cell_with shape h r.first r.second cell) is
      ∙ ap₂ (λ (one other : List ℕ). cell_with shape h one other cell) (last-first g c)
      (last-second g c)
      ∙ sym (changed-is g c high)

  pub reads-hidden : (reads : List ReadFrame) → h < shape.servers → AreLastReads shape H pairs u reads →
      reads_hidden shape reads h u ≡ reads_changed shape h pairs u
  reads-hidden reads high are =
      same-rows (hidden_read shape reads h u) (read_cell_for shape h pairs u) (turn_count shape)
      shape.clients (λ g c turn client. hidden-is reads g c high (are g c turn client))

  -- where it is the last
  pub reads-open : shape.servers ≤ h → length u ≡ tape_len shape →
      read_part shape u ≡ reads_changed shape h pairs u
  reads-open low whole =
      sym (same-read_part shape u whole)
      ∙ same-rows (read_cell shape u) (read_cell_for shape h pairs u) (turn_count shape)
      shape.clients
      (λ g c turn client. sym (ap (λ b. cond b
      (changed_read shape h (pairs g c)
      (read_cell shape u g c)) (read_cell shape u g c)) (le-ltb h shape.servers low)))
