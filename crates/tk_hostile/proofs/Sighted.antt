-- What is seen under attack is made of the cells of the changed tape, and names no script.
use Rattle.std.proofs.Common.{◌≡◌, refl, ap, sym, ◌∙◌, arith}
use Rattle.std.proofs.Common.{ℕ, zero, suc, ◌+◌, ◌≤◌, ◌==◌, Bool, true, false, cond, List, [], length, map}
use Rattle.std.proofs.lemmas.Bool.{eqb-true}
use Rattle.tk_shape.specs.declared.shape.Shape.{Shape}
use Rattle.tk_shape.specs.Lengths.{tape_len}
use Rattle.tk_script.specs.declared.script.Script.{Script}
use Rattle.tk_words.specs.Words.{drawn, words_of, write_cell, cell_write}
use Rattle.tk_frames.specs.declared.write_frame.WriteFrame.{WriteFrame}
use Rattle.tk_frames.specs.declared.read_frame.ReadFrame.{ReadFrame}
use Rattle.tk_client.specs.Writes.{dummy}
use Rattle.tk_client.specs.Asked.{frame_for}
use Rattle.tk_report.specs.Entries.{write_at}
use Rattle.tk_privacy.specs.Privacy.{Pairs, normal_for, shown_read}
use Rattle.tk_privacy.specs.Counts.{all_but}
use Rattle.tk_privacy.proofs.Offers.{write-seen, read-seen, others-same}
use Rattle.tk_hostile.specs.Attack.{Adversary, Acting, Attacked, Keys, Move, Writes, Reads, Seen}
use Rattle.tk_hostile.specs.Attack.{Wrote, Asked, keys_of, seen_more, unattacked, ask_of, after_ask}
use Rattle.tk_hostile.specs.Attack.{after_write, is_due, moved, attacked, under_attack, seen_by, attack_normal}
use Rattle.tk_hostile.proofs.Attacks.{cond-same, IsDue, due-from, asks, pair-kept}

-- ---- what a tape shows

-- in how many turns each client wrote and asked, and what was seen
pub record Trace : Type 0 where
  pub written : ℕ → ℕ
  pub asked : ℕ → ℕ
  pub seen : Seen

abbrev trace_of : Attacked → Trace
trace_of x =
    record {
      written = λ c. (x.clients c).written;
      asked = λ c. (x.clients c).asked;
      seen = x.seen;
    }

abbrev one_more : ℕ → (ℕ → ℕ) → ℕ → ℕ
one_more c counts d = cond (d == c) (counts c + 1) (counts d)

abbrev shown_write : Shape → List ℕ → ℕ → ℕ → WriteFrame
shown_write shape v g c = dummy g c (cell_write shape (write_cell shape v g c))

abbrev shown_frame : Shape → ℕ → List ℕ → ℕ → ℕ → ℕ → ℕ → ReadFrame
shown_frame shape h v g c e j = record (shown_read shape [] h v j g c) { epoch = e }

abbrev then_wrote : Shape → List ℕ → ℕ → Trace → Trace
then_wrote shape v c x =
    record {
      written = one_more c x.written;
      asked = x.asked;
      seen = seen_more x.seen (Wrote (shown_write shape v (x.written c) c));
    }

abbrev then_asked : Shape → ℕ → Adversary → List ℕ → ℕ → Trace → Trace
then_asked shape h adversary v c x =
    let frame = shown_frame shape h v (x.asked c) c (adversary.epoch x.seen) in
    record {
      written = x.written;
      asked = one_more c x.asked;
      seen = seen_more x.seen (Asked (map frame (all_but shape h)));
    }

unfoldable pub shown_moved : Shape → ℕ → Adversary → List ℕ → Trace → Move → Trace
shown_moved shape h adversary v x (Writes c) =
    cond (is_due shape (x.written c) c) (then_wrote shape v c x) x
shown_moved shape h adversary v x (Reads c) =
    cond (is_due shape (x.asked c) c) (then_asked shape h adversary v c x) x

unfoldable pub shown : Shape → ℕ → Adversary → Keys → List ℕ → ℕ → Trace
shown shape h adversary keys v zero =
    record { written = λ c. 0; asked = λ c. 0; seen = record { keys = keys; sights = [] } }
shown shape h adversary keys v (suc k) =
    let x = shown shape h adversary keys v k in
    shown_moved shape h adversary v x (adversary.next x.seen)

-- ---- a move

trace-cond : (t : Bool) (a b : Attacked) → trace_of (cond t a b) ≡ cond t (trace_of a) (trace_of b)
trace-cond true a b = refl
trace-cond false a b = refl

module _ (clients : ℕ → Acting) (c : ℕ) (is : Acting) where
  same-count : (count : Acting → ℕ) → count is ≡ count (clients c) → (d : ℕ) →
      count (cond (d == c) is (clients d)) ≡ count (clients d)
  same-count count same d =
      elim (d == c) as (λ t. d == c ≡ t → count (cond t is (clients d)) ≡ count (clients d)) [
        | true ↦ λ e. same ∙ ap (λ k. count (clients k)) (sym (eqb-true d c e))
        | false ↦ λ e. refl
      ] refl

  more-count : (count : Acting → ℕ) (n : ℕ) → count is ≡ n → (d : ℕ) →
      count (cond (d == c) is (clients d)) ≡ cond (d == c) n (count (clients d))
  more-count count n same d =
      elim (d == c) as (λ t. count (cond t is (clients d)) ≡ cond t n (count (clients d))) [
        | true ↦ same
        | false ↦ refl
      ]

module _ (S : Script) (h : ℕ) (adversary : Adversary) (n : ℕ) (u : List ℕ)
    (whole : length u ≡ tape_len S.shape) (low : 1 ≤ h) (high : h ≤ S.shape.servers) where
  pairs : Pairs
  pairs = (under_attack S (drawn u) h adversary n).pairs

  v : List ℕ
  v = normal_for S h pairs u

  module _ (c : ℕ) (x : Attacked) where
    trace-wrote : IsDue S.shape (x.clients c).written c →
        trace_of (after_write c (write_at S (words_of S.shape (drawn u)) (x.clients c).written c) x)
        ≡ then_wrote S.shape v c (trace_of x)
    unfolding after_write v
    trace-wrote due =
        let g = (x.clients c).written in
        let is : Acting = record (x.clients c) { written = g + 1 } in
        let write = write-seen S h pairs u whole g c due.turn due.client in
        λ i. record {
          written = λ d. more-count x.clients c is (λ a. a.written) (g + 1) refl d i;
          asked = λ d. same-count x.clients c is (λ a. a.asked) refl d i;
          seen = seen_more x.seen (Wrote (write i));
        }

    -- the buckets of a read are those of the whole run
    trace-asked : IsDue S.shape (x.clients c).asked c →
        let ask = ask_of S (words_of S.shape (drawn u)) adversary c x in
        pairs (x.clients c).asked c ≡ ask.pair →
        trace_of (asks S (words_of S.shape (drawn u)) h adversary (frame_for S.shape (drawn u)) x c)
        ≡ then_asked S.shape h adversary v c (trace_of x)
    unfolding after_ask ask_of v
    trace-asked due kept =
        let g = (x.clients c).asked in
        let ask = ask_of S (words_of S.shape (drawn u)) adversary c x in
        let frame = frame_for S.shape (drawn u) g c ask.epoch in
        let is : Acting = record {
          written = (x.clients c).written;
          asked = g + 1;
          reader = ask.reader;
          target = ask.target;
          hidden = frame ask.pair h;
        } in
        let reads : map (frame ask.pair) (all_but S.shape h)
        ≡ map (shown_frame S.shape h v g c ask.epoch) (all_but S.shape h) =
        others-same (frame ask.pair) (shown_frame S.shape h v g c ask.epoch) S.shape h
        (λ j j_low j_high differ.
        ap (λ (pair : ℕ × ℕ). frame pair j) (sym kept)
        ∙ read-seen S h pairs u whole [] j low high j_low j_high differ g c ask.epoch due.turn
        due.client)
        in
        λ i. record {
          written = λ d. same-count x.clients c is (λ a. a.written) refl d i;
          asked = λ d. more-count x.clients c is (λ a. a.asked) (g + 1) refl d i;
          seen = seen_more x.seen (Asked (reads i));
        }

  moved-shown : (k : ℕ) (move : Move) → suc k ≤ n →
      let x = under_attack S (drawn u) h adversary k in
      adversary.next x.seen ≡ move →
      trace_of (moved S (words_of S.shape (drawn u)) h adversary (frame_for S.shape (drawn u)) x move)
      ≡ shown_moved S.shape h adversary v (trace_of x) move
  unfolding moved shown_moved pairs
  moved-shown k (Writes c) less is =
      let x = under_attack S (drawn u) h adversary k in
      let g = (x.clients c).written in
      let after = after_write c (write_at S (words_of S.shape (drawn u)) g c) x in
      trace-cond (is_due S.shape g c) after x
      ∙ cond-same (is_due S.shape g c) (trace_of after) (then_wrote S.shape v c (trace_of x))
      (trace_of x) (λ e. trace-wrote c x (due-from S.shape g c e))
  moved-shown k (Reads c) less is =
      let x = under_attack S (drawn u) h adversary k in
      let g = (x.clients c).asked in
      let frames = frame_for S.shape (drawn u) in
      let after = asks S (words_of S.shape (drawn u)) h adversary frames x c in
      trace-cond (is_due S.shape g c) after x
      ∙ cond-same (is_due S.shape g c) (trace_of after)
      (then_asked S.shape h adversary v c (trace_of x)) (trace_of x)
      (λ e. trace-asked c x (due-from S.shape g c e)
      (pair-kept S (words_of S.shape (drawn u)) h adversary frames k n c less is e))

  traces-are : (k : ℕ) → k ≤ n →
      trace_of (under_attack S (drawn u) h adversary k)
      ≡ shown S.shape h adversary (keys_of S.shape (words_of S.shape (drawn u)) adversary.holds) v k
  unfolding attacked unattacked shown
  traces-are zero less = refl
  traces-are (suc k) less =
      let x = under_attack S (drawn u) h adversary k in
      moved-shown k (adversary.next x.seen) less refl
      ∙ ap (λ (y : Trace). shown_moved S.shape h adversary v y (adversary.next y.seen))
      (traces-are k (omega (arith, less)))

  pub seen-is : seen_by S (drawn u) h adversary n
      ≡ (shown S.shape h adversary (keys_of S.shape (words_of S.shape (drawn u)) adversary.holds)
      (attack_normal S h adversary n u) n).seen
  unfolding attack_normal v pairs
  seen-is = ap (λ (x : Trace). x.seen) (traces-are n (omega arith))
