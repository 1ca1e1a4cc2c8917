-- Two scripts of which the second has the book over the mirrored tape: each client writes the same in each
-- turn, and asks the same of each server but the hidden one.
use Rattle.tk_meeting.proofs.Terms.{◌≡◌, ℕ, ◌≤◌, ◌<◌, List, length, ◌∙◌, ap, sym, subst, ◌≢◌, turn_count, tape_len}
use Rattle.tk_meeting.proofs.Terms.{Shape, words_of, drawn, cell_write, write_cell, epoch_at, History, Script, dummy}
use Rattle.tk_meeting.proofs.Terms.{write_at, read_at, length-mirror, same-normal, write-seen, read-seen, mirror}
use Rattle.tk_meeting.proofs.Terms.{shown_read, normal, pairs_read}
use Rattle.tk_privacy.specs.Laws.{AreMirrored}

-- ---- one script

module _ (S : Script) (H : History) (h : ℕ) (u : List ℕ) (whole : length u ≡ tape_len S.shape)
    (g c : ℕ) (turn : g < turn_count S.shape) (client : c < S.shape.clients) where
  write-cell : write_at S (words_of S.shape (drawn u)) g c
      ≡ dummy g c (cell_write S.shape (write_cell S.shape (normal S H h u) g c))
  unfolding normal
  write-cell = write-seen S h (pairs_read S (drawn u) H) u whole g c turn client

  read-cell : (j : ℕ) → 1 ≤ h → h ≤ S.shape.servers → 1 ≤ j → j ≤ S.shape.servers → j ≢ h →
      read_at S (drawn u) H g c j ≡ shown_read S.shape H h (normal S H h u) j g c
  unfolding normal read_at shown_read
  read-cell j low high j_low j_high differ =
      read-seen S h (pairs_read S (drawn u) H) u whole H j low high j_low j_high differ g c
      (epoch_at H g c) turn client

-- ---- two

module _ (A B : Script) (H : History) (h : ℕ) (u : List ℕ) (is : AreMirrored A B H h u) where
  pub same-write : (g c : ℕ) → g < turn_count A.shape → c < A.shape.clients →
      write_at A (words_of A.shape (drawn u)) g c
      ≡ write_at B (words_of B.shape (drawn (mirror A B H h u))) g c
  same-write g c turn client =
      let same : A.shape ≡ B.shape = is.one_shape in
      write-cell A H h u is.tape g c turn client
      ∙ ap (λ (shape : Shape). dummy g c (cell_write shape (write_cell shape (normal A H h u) g c))) same
      ∙ ap (λ v. dummy g c (cell_write B.shape (write_cell B.shape v g c)))
      (sym (same-normal A B H h u is))
      ∙ sym (write-cell B H h (mirror A B H h u) (length-mirror A B H h u is) g c
      (subst (λ (shape : Shape). g < turn_count shape) same turn)
      (subst (λ (shape : Shape). c < shape.clients) same client))

  pub same-read : (j g c : ℕ) → 1 ≤ j → j ≤ A.shape.servers → j ≢ h → g < turn_count A.shape →
      c < A.shape.clients →
      read_at A (drawn u) H g c j ≡ read_at B (drawn (mirror A B H h u)) H g c j
  same-read j g c j_low j_high differ turn client =
      let same : A.shape ≡ B.shape = is.one_shape in
      read-cell A H h u is.tape g c turn client j is.hidden_low is.hidden_high j_low j_high differ
      ∙ ap (λ (shape : Shape). shown_read shape H h (normal A H h u) j g c) same
      ∙ ap (λ v. shown_read B.shape H h v j g c) (sym (same-normal A B H h u is))
      ∙ sym (read-cell B H h (mirror A B H h u) (length-mirror A B H h u is) g c
      (subst (λ (shape : Shape). g < turn_count shape) same turn)
      (subst (λ (shape : Shape). c < shape.clients) same client) j is.hidden_low
      (subst (λ (shape : Shape). h ≤ shape.servers) same is.hidden_high) j_low
      (subst (λ (shape : Shape). j ≤ shape.servers) same j_high) differ)
