-- A server tells no refusal where it tells what the serial run has it tell.
use Rattle.tk_meeting.proofs.Terms.{◌≡◌, ℕ, List, map, ◌+◌, ◌/◌, ◌==◌, cond, ◌*◌, Bool, true, false, ◌∙◌, refl, ap}
use Rattle.tk_meeting.proofs.Terms.{zero, suc, drop, ◌%◌, range_with_len, list_any, ◌||◌, WordBook, Script, reply_told}
use Rattle.tk_meeting.proofs.Terms.{epoch_bytes, is_refusal}
use Rattle.tk_meeting.proofs.Canonical.{reply_in, epoch_in, stream}
use Rattle.tk_meeting.proofs.Course.{stream_len}
use Rattle.tk_meeting.proofs.servers.Places.{frame_at, stream-places}

-- a test that none of a function's values passes
none-of : {X : Type 0} (p : X → Bool) (f : ℕ → X) → ((i : ℕ) → p (f i) ≡ false) → (d a n : ℕ) →
    list_any p (drop d (map f (range_with_len a n))) ≡ false
none-of p f none zero a zero = refl
none-of p f none (suc d) a zero = refl
none-of p f none zero a (suc n) =
    ap (λ (b : Bool). b || list_any p (map f (range_with_len (a + 1) n))) (none a)
    ∙ none-of p f none zero (a + 1) n
none-of p f none (suc d) a (suc n) = none-of p f none d (a + 1) n

pub reply-quiet : (S : Script) (b : WordBook) (c j g : ℕ) → is_refusal (reply_in S b c j g) ≡ false
unfolding reply_told
reply-quiet S b c j g = refl

pub epoch-quiet : (S : Script) (b : WordBook) (e : ℕ) → is_refusal (epoch_in S b e) ≡ false
unfolding epoch_bytes
epoch-quiet S b e = refl

frame-quiet : (S : Script) (b : WordBook) (c j place : ℕ) → is_refusal (frame_at S b c j place) ≡ false
unfolding frame_at
frame-quiet S b c j place =
    let ticks = S.shape.ticks in
    let phase = place / (ticks + 1) in
    let tick = place % (ticks + 1) in
    elim (tick == ticks) as (λ (last : Bool).
    is_refusal (cond last (epoch_in S b (phase + 1)) (reply_in S b c j (phase * ticks + tick))) ≡ false) [
      | true ↦ epoch-quiet S b (phase + 1)
      | false ↦ reply-quiet S b c j (phase * ticks + tick)
    ]

pub quiet-stream : (S : Script) (b : WordBook) (c j n k d : ℕ) →
    list_any is_refusal (drop d (stream S b c j n k)) ≡ false
quiet-stream S b c j n k d =
    ap (λ (xs : List (List ℕ)). list_any is_refusal (drop d xs)) (stream-places S b c j n k)
    ∙ none-of is_refusal (frame_at S b c j) (frame-quiet S b c j) d 0 (stream_len S.shape n k)
