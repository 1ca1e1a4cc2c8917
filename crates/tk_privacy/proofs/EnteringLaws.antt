-- The frames of a turn's entries, seen one after the other.
use Rattle.std.proofs.Common.{◌≡◌, refl, ap, sym, ◌∙◌, subst, arith, ℕ, ◌+◌, List, [], ◌∷◌, ◌++◌, length, map}
use Rattle.std.proofs.Common.{flat_map, append_assoc, append-nil, length-append}
use Rattle.std.specs.List.{range_with_len}
use Rattle.std.proofs.lemmas.List.{map-append}
use Rattle.tk_shape.specs.declared.shape.Shape.{Shape}
use Rattle.tk_shape.specs.Lengths.{turn_count}
use Rattle.tk_schedule.specs.declared.history.History.{History}
use Rattle.tk_script.specs.declared.script.Script.{Script}
use Rattle.tk_words.specs.Words.{WordBook, BookWords, words_of}
use Rattle.tk_frames.specs.declared.entry.Placed.{Placed}
use Rattle.tk_frames.specs.declared.read_frame.ReadFrame.{ReadFrame}
use Rattle.tk_frames.specs.InOrder.{IsOrder, IsNext}
use Rattle.tk_frames.specs.Spelling.{placed_frame, read_frame}
use Rattle.tk_frames.proofs.Offers.{order-push, order-none}
use Rattle.tk_report.specs.Entries.{write_at, entries_at, entries_before}
use Rattle.tk_report.specs.Exchange.{turn_frames, frames_before, read_at, view}
use Rattle.tk_report.specs.Turns.{placed_before}
use Rattle.tk_report.proofs.Offers.{flat_map-next}
use Rattle.tk_privacy.specs.Privacy.{Pairs, pairs_read, read_for, view_for}
use Rattle.tk_privacy.specs.Hiding.{read_in}
use Rattle.tk_privacy.specs.Reads.{all_reads}
use Rattle.tk_privacy.specs.Views.{HasSeenEntries, HasEntered, frame_in}
use Rattle.tk_privacy.specs.declared.server_sights.Seen.{Seen}
use Rattle.tk_privacy.proofs.ReadsLaws.{read-in}
use Rattle.tk_privacy.proofs.Seen.{same-flat}

-- ---- the entries of a turn

pub entered-none : (shape : Shape) (E : List Placed) (seen : Seen) → HasSeenEntries shape E seen →
    HasEntered seen shape E [] seen
entered-none shape E seen has =
    let same = sym (append-nil E) in
    record {
      order = subst (IsOrder shape) same has.order;
      count = has.count ∙ ap length same;
      frames = sym (append-nil seen.frames.items);
    }

pub entered-more : (was : Seen) (shape : Shape) (E F : List Placed) (p : Placed) (is new : Seen) →
    HasEntered was shape E F is → IsNext shape (E ++ F) p → new.entries ≡ p.position →
    new.frames.items ≡ is.frames.items ++ placed_frame p ∷ [] →
    HasEntered was shape E (F ++ p ∷ []) new
entered-more was shape E F p is new has next counted pushed =
    let same = append_assoc E F (p ∷ []) in
    record {
      order = subst (IsOrder shape) same (order-push shape (E ++ F) p has.order next);
      count =
          counted ∙ next.at ∙ sym (length-append (E ++ F) (p ∷ [])) ∙ ap length same;
      frames =
          pushed
          ∙ ap (λ (xs : List (List ℕ)). xs ++ placed_frame p ∷ []) has.frames
          ∙ append_assoc was.frames.items (map placed_frame F) (placed_frame p ∷ [])
          ∙ ap (λ (xs : List (List ℕ)). was.frames.items ++ xs)
          (sym (map-append placed_frame F (p ∷ [])));
    }

-- ---- turn after turn

pub entered-first : (S : Script) (w : BookWords) (H : History) (seen : Seen) → seen.entries ≡ 0 →
    HasSeenEntries S.shape (placed_before S w H 0) seen
unfolding entries_before
entered-first S w H seen none = record { order = order-none S.shape; count = none }

pub frames-first : (S : Script) (w : BookWords) (H : History) (reads : List ReadFrame) →
    [] ≡ frames_before S.shape H (write_at S w) (frame_in S.shape reads) 0
unfolding frames_before
frames-first S w H reads = refl

pub frames-next : (S : Script) (w : BookWords) (H : History) (reads : List ReadFrame) (g : ℕ)
    (old now new : List (List ℕ)) →
    old ≡ frames_before S.shape H (write_at S w) (frame_in S.shape reads) g →
    now ≡ old ++ map placed_frame (entries_at (write_at S w) H g) →
    new ≡ now ++ flat_map (frame_in S.shape reads g) (range_with_len 0 S.shape.clients) →
    new ≡ frames_before S.shape H (write_at S w) (frame_in S.shape reads) (g + 1)
unfolding frames_before
frames-next S w H reads g old now new before entered asked =
    let front = map placed_frame (entries_at (write_at S w) H g) in
    let back = flat_map (frame_in S.shape reads g) (range_with_len 0 S.shape.clients) in
    asked
    ∙ ap (λ (xs : List (List ℕ)). xs ++ back) entered
    ∙ append_assoc old front back
    ∙ ap (λ (xs : List (List ℕ)). xs ++ (front ++ back)) before
    ∙ sym (flat_map-next (turn_frames S.shape H (write_at S w) (frame_in S.shape reads)) g)

-- ---- all

-- with the reads that a server sees the frames are those that it sees
pub frames-seen : (S : Script) (b : WordBook) (H : History) (pairs : Pairs) (j : ℕ)
    (reads : List ReadFrame) → reads ≡ all_reads S.shape b H pairs j →
    frames_before S.shape H (write_at S (words_of S.shape b)) (frame_in S.shape reads)
    (turn_count S.shape)
    ≡ view_for S b H pairs j
unfolding frames_before
frames-seen S b H pairs j reads are =
    let write = write_at S (words_of S.shape b) in
    let seen : ℕ → ℕ → List (List ℕ) =
    λ g c. read_frame (read_for S.shape b H (pairs g c) g c j) ∷ []
    in
    same-flat (turn_frames S.shape H write (frame_in S.shape reads)) (turn_frames S.shape H write seen)
    0 (turn_count S.shape)
    (λ g within. ap (λ (xs : List (List ℕ)). map placed_frame (entries_at write H g) ++ xs)
    (same-flat (frame_in S.shape reads g) (seen g) 0 S.shape.clients
    (λ c low. ap (λ (r : ReadFrame). read_frame r ∷ [])
    (ap (λ (xs : List ReadFrame). read_in S.shape xs g c) are
    ∙ read-in S.shape b H pairs j g c (omega (arith, within)) (omega (arith, low))))))

-- a run reads the buckets that are read with its words
pub view-for : (S : Script) (b : WordBook) (H : History) (j : ℕ) →
    view S b H j ≡ view_for S b H (pairs_read S b H) j
unfolding read_at
view-for S b H j = refl
