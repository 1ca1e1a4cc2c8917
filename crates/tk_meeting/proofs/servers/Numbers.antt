-- What a server tells a client, in numbers: how many frames there are, which comes next, and that more only
-- come at the end.
use Rattle.tk_meeting.proofs.Terms.{◌≡◌, ℕ, ◌≤◌, ◌<◌, min, List, ◌∷◌, length, map, ◌+◌, ◌/◌, ◌++◌, ◌*◌, ◌∙◌, ap, sym}
use Rattle.tk_meeting.proofs.Terms.{arith, drop, take-append-drop, mul-le-mul_right, div-mul-le_self, drop_more}
use Rattle.tk_meeting.proofs.Terms.{length-map-range_with_len, get_or-map-range_with_len, take-map-range_with_len}
use Rattle.tk_meeting.proofs.Terms.{range_with_len, Shape, WordBook, Script, phase-past, turns_read}
use Rattle.tk_meeting.proofs.Canonical.{reply_in, epoch_in, stream}
use Rattle.tk_meeting.proofs.Course.{stream_len}
use Rattle.tk_meeting.proofs.servers.Places.{frame_at, reply-at, epoch-at, stream-places}

-- a turn is in no later phase than a turn that isn't before it
pub phases-ordered : (t g h : ℕ) → 0 < t → g ≤ h → g / t ≤ h / t
phases-ordered t g h some low =
    let whole : g / t * t ≤ g = div-mul-le_self g t in
    phase-past t (g / t) h some (omega (arith, whole, low))

-- what comes next of what a function gives for the first numbers
next-of : {X : Type 0} (f : ℕ → X) (n i : ℕ) (x : X) → i < n → f i ≡ x →
    drop i (map f (range_with_len 0 n)) ≡ x ∷ drop (i + 1) (map f (range_with_len 0 n))
next-of {X} f n i x low is =
    drop_more (map f (range_with_len 0 n)) i x (omega (arith, low, length-map-range_with_len f 0 n))
    ∙ ap (λ (y : X). y ∷ drop (i + 1) (map f (range_with_len 0 n)))
    (get_or-map-range_with_len f 0 n i i x low (omega arith) ∙ is)

-- ---- lengths

module _ (shape : Shape) where
  abbrev ticks : ℕ
  ticks = shape.ticks

  some : 0 < ticks
  some = let low = shape.in_range.ticks_low in omega (arith, low)

  -- more are told where more epochs are there and more reads came
  pub length-grows : (n more k later : ℕ) → n ≤ more → k ≤ later →
      stream_len shape n k ≤ stream_len shape more later
  length-grows n more k later epochs turns =
      let reads : (n + 1) * ticks ≤ (more + 1) * ticks =
      mul-le-mul_right {m = n + 1} {n = more + 1} ticks (omega (arith, epochs))
      in
      let m = min k (turns_read shape n) in
      let p = min later (turns_read shape more) in
      let ordered : m ≤ p = omega (arith, reads, turns) in
      let phases : m / ticks ≤ p / ticks = phases-ordered ticks m p some ordered in
      omega (arith, ordered, phases, epochs)

-- ---- frames

module _ (S : Script) (b : WordBook) (c j : ℕ) where
  pub stream-length : (n k : ℕ) → length (stream S b c j n k) ≡ stream_len S.shape n k
  stream-length n k =
      ap length (stream-places S b c j n k)
      ∙ length-map-range_with_len (frame_at S b c j) 0 (stream_len S.shape n k)

  next-frame : (n k place : ℕ) (frame : List ℕ) → place < stream_len S.shape n k →
      frame_at S b c j place ≡ frame →
      drop place (stream S b c j n k) ≡ frame ∷ drop (place + 1) (stream S b c j n k)
  next-frame n k place frame low is =
      ap (drop place) (stream-places S b c j n k)
      ∙ next-of (frame_at S b c j) (stream_len S.shape n k) place frame low is
      ∙ ap (λ (xs : List (List ℕ)). frame ∷ drop (place + 1) xs) (sym (stream-places S b c j n k))

  -- behind r replies and the epochs of the phases that are over the next frame is a reply
  pub next-reply : (n k r e : ℕ) → e ≡ r / S.shape.ticks → r + e < stream_len S.shape n k →
      drop (r + e) (stream S b c j n k) ≡ reply_in S b c j r ∷ drop (r + e + 1) (stream S b c j n k)
  next-reply n k r e is low =
      next-frame n k (r + e) (reply_in S b c j r) low
      (ap (λ i. frame_at S b c j (r + i)) is ∙ reply-at S b c j r)

  -- and behind the replies of a phase it is the epoch that the phase makes
  pub next-epoch : (n k r e : ℕ) → r ≡ (e + 1) * S.shape.ticks → r + e < stream_len S.shape n k →
      drop (r + e) (stream S b c j n k) ≡ epoch_in S b (e + 1) ∷ drop (r + e + 1) (stream S b c j n k)
  next-epoch n k r e is low =
      next-frame n k (r + e) (epoch_in S b (e + 1)) low
      (ap (λ i. frame_at S b c j (i + e)) is ∙ epoch-at S b c j e)

  -- more only come at the end
  pub stream-grows : (n more k later : ℕ) → n ≤ more → k ≤ later →
      (rest : List (List ℕ)) × (stream S b c j more later ≡ stream S b c j n k ++ rest)
  stream-grows n more k later epochs turns =
      let f = frame_at S b c j in
      let short = stream_len S.shape n k in
      let long = stream_len S.shape more later in
      let all = map f (range_with_len 0 long) in
      let within : short ≤ long = length-grows S.shape n more k later epochs turns in (
        drop short all,
        stream-places S b c j more later ∙ sym (take-append-drop short all)
            ∙ ap (λ (xs : List (List ℕ)). xs ++ drop short all)
            (take-map-range_with_len f 0 long short within ∙ sym (stream-places S b c j n k)),
      )
