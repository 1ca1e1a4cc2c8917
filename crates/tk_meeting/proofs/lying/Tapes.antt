-- Tapes over which two groups show the same to all servers but the hidden one.
use Rattle.tk_meeting.proofs.Terms.{◌≡◌, ℕ, ◌≤◌, ◌<◌, List, [], length, ◌++◌, ◌∙◌, sym, subst, ◌≢◌, turn_count}
use Rattle.tk_meeting.proofs.Terms.{tape_len, Shape, words_of, drawn, cell_write, write_cell, ReadFrame, Script}
use Rattle.tk_meeting.proofs.Terms.{frame_for, dummy, write_at, write-seen, read-seen, shown_read, Pairs, normal_for}
use Rattle.tk_meeting.proofs.Terms.{Hidden, pairs_of, AreGroups, LiarsSeeAlike}
use Rattle.tk_meeting.proofs.lying.Books.{ShowAlike}
use Rattle.tk_meeting.proofs.lying.Alike.{lied-alike}
use Rattle.tk_meeting.proofs.lying.Asked.{are-asked}

-- the read frame that server j, which is not h, sees of a tape that is shown
abbrev shown_frame : Shape → ℕ → List ℕ → ℕ → ℕ → ℕ → ℕ → ReadFrame
shown_frame shape h v g c e j = record (shown_read shape [] h v j g c) { epoch = e }

module _ (A B : Script) (h : Hidden) (are : AreGroups A B h) (pairs others : Pairs) (u v : List ℕ)
    (whole : length u ≡ tape_len A.shape) (other_whole : length v ≡ tape_len B.shape)
    (same : normal_for A h.server pairs u ≡ normal_for B h.server others v) where
  same-write : (g c : ℕ) → g < turn_count A.shape → c < A.shape.clients →
      write_at A (words_of A.shape (drawn u)) g c ≡ write_at B (words_of B.shape (drawn v)) g c
  same-write g c turn client =
      let shape : A.shape ≡ B.shape = are.one_shape in
      write-seen A h.server pairs u whole g c turn client
      ∙ (λ i. dummy g c (cell_write (shape i) (write_cell (shape i) (same i) g c)))
      ∙ sym (write-seen B h.server others v other_whole g c
      (subst (λ (k : Shape). g < turn_count k) shape turn) (subst (λ (k : Shape). c < k.clients) shape client))

  same-read : (g c e j : ℕ) → g < turn_count A.shape → c < A.shape.clients → 1 ≤ j → j ≤ A.shape.servers →
      j ≢ h.server →
      frame_for A.shape (drawn u) g c e (pairs g c) j ≡ frame_for B.shape (drawn v) g c e (others g c) j
  same-read g c e j turn client low high differ =
      let shape : A.shape ≡ B.shape = are.one_shape in
      read-seen A h.server pairs u whole [] j are.hidden_low are.hidden_high low high differ g c e turn client
      ∙ (λ i. shown_frame (shape i) h.server (same i) g c e j)
      ∙ sym (read-seen B h.server others v other_whole [] j are.hidden_low
      (subst (λ (k : Shape). h.server ≤ k.servers) shape are.hidden_high) low
      (subst (λ (k : Shape). j ≤ k.servers) shape high) differ g c e
      (subst (λ (k : Shape). g < turn_count k) shape turn) (subst (λ (k : Shape). c < k.clients) shape client))

  pub show-alike : ShowAlike A B h (drawn u) (drawn v) pairs others
  show-alike =
      record {
        one_shape = are.one_shape;
        writes = λ g c turn client. same-write g c turn client;
        reads = λ g c e j turn client low high differ. same-read g c e j turn client low high differ;
      }

pub liars-see-alike : LiarsSeeAlike
liars-see-alike A B h are deeds more others rest u v matched same tells other_tells =
    let show =
    show-alike A B h are (pairs_of A h (drawn u) (deeds ++ more)) (pairs_of B h (drawn v) (others ++ rest)) u v
    matched.tape matched.other_tape matched.shown
    in
    lied-alike A B h (drawn u) (drawn v) (pairs_of A h (drawn u) (deeds ++ more))
    (pairs_of B h (drawn v) (others ++ rest)) show are.holds deeds more others rest (are-asked A h (drawn u) deeds more)
    (are-asked B h (drawn v) others rest) tells other_tells same
