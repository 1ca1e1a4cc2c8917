-- Where each frame stands of those that a server tells a client: in each phase first the replies to its
-- reads, and then the epoch that the phase makes.
use Rattle.tk_meeting.proofs.Terms.{◌≡◌, ℕ, ◌≤◌, ◌<◌, min, List, [], ◌∷◌, map, flat_map, ◌+◌, ◌/◌, ◌==◌, cond, ◌++◌}
use Rattle.tk_meeting.proofs.Terms.{◌*◌, ◌∙◌, refl, ap, sym, zero, suc, arith, inl, inr, ◌%◌, eq-eqb, append_assoc, ap₂}
use Rattle.tk_meeting.proofs.Terms.{ne_eqb, mod-lt, add-one, mul-suc, zero-div, cases_eq, cases_lt, cond-true}
use Rattle.tk_meeting.proofs.Terms.{cond-false, map-range_with_len_more, div-add-mod', div-mul-add, mod-mul-add}
use Rattle.tk_meeting.proofs.Terms.{range_with_len, WordBook, phase_of, Script, frame_with, flat_map-next, read_at}
use Rattle.tk_meeting.proofs.Terms.{closing-last, phases-stay, phase-before, one_more, phases-step, closing-none}
use Rattle.tk_meeting.proofs.Terms.{closing-some, turns_read, closing_told}
use Rattle.tk_meeting.proofs.Canonical.{whole, read_from, reply_in, epoch_in, told_in_turn, stream}
use Rattle.tk_meeting.proofs.Course.{stream_len}

-- the frame in this place
unfoldable pub frame_at : Script → WordBook → ℕ → ℕ → ℕ → List ℕ
frame_at S b c j place =
    let ticks = S.shape.ticks in
    let phase = place / (ticks + 1) in
    let tick = place % (ticks + 1) in
    cond (tick == ticks) (epoch_in S b (phase + 1)) (reply_in S b c j (phase * ticks + tick))

-- phases of one more
longer : (q t : ℕ) → q * (t + 1) ≡ q * t + q
longer q t = omega (arith, mul-suc q t, ap (λ k. q * k) (add-one t))

-- a read is of its turn
pub read-turn : (S : Script) (b : WordBook) (c j g : ℕ) → (read_from S b c j g).turn ≡ g
unfolding read_at frame_with
read-turn S b c j g = refl

pub read-client : (S : Script) (b : WordBook) (c j g : ℕ) → (read_from S b c j g).client ≡ c
unfolding read_at frame_with
read-client S b c j g = refl

-- numbers one after the other, and one and two more
one-more : {X : Type 0} (f : ℕ → X) (n m : ℕ) (x : X) → m ≡ n + 1 → f n ≡ x →
    map f (range_with_len 0 n) ++ x ∷ [] ≡ map f (range_with_len 0 m)
one-more {X} f n m x next is =
    ap (λ (y : X). map f (range_with_len 0 n) ++ y ∷ []) (sym is)
    ∙ sym (map-range_with_len_more f 0 n n (omega arith))
    ∙ ap (λ k. map f (range_with_len 0 k)) (sym next)

two-more : {X : Type 0} (f : ℕ → X) (n m : ℕ) (x y : X) → m ≡ n + 2 → f n ≡ x → f (n + 1) ≡ y →
    map f (range_with_len 0 n) ++ x ∷ y ∷ [] ≡ map f (range_with_len 0 m)
two-more {X} f n m x y next first second =
    sym (append_assoc (map f (range_with_len 0 n)) (x ∷ []) (y ∷ []))
    ∙ ap (λ (xs : List X). xs ++ y ∷ []) (one-more f n (n + 1) x refl first)
    ∙ one-more f (n + 1) m y (omega (arith, next)) second

module _ (S : Script) (b : WordBook) (c j : ℕ) where
  abbrev ticks : ℕ
  ticks = S.shape.ticks

  some : 0 < ticks
  some = let low = S.shape.in_range.ticks_low in omega (arith, low)

  abbrev at_place : ℕ → ℕ → List ℕ
  at_place phase tick =
      cond (tick == ticks) (epoch_in S b (phase + 1)) (reply_in S b c j (phase * ticks + tick))

  place-is : (place phase tick : ℕ) → place ≡ phase * (ticks + 1) + tick → tick < ticks + 1 →
      frame_at S b c j place ≡ at_place phase tick
  unfolding frame_at
  place-is place phase tick is low =
      ap₂ at_place (ap (λ n. n / (ticks + 1)) is ∙ div-mul-add phase (ticks + 1) tick low)
      (ap (λ n. n % (ticks + 1)) is ∙ mod-mul-add phase (ticks + 1) tick low)

  -- the reply to the read of a turn stands behind those of the turns before and the epochs of the phases
  -- that are over
  pub reply-at : (g : ℕ) → frame_at S b c j (g + g / ticks) ≡ reply_in S b c j g
  reply-at g =
      let q = g / ticks in
      let r = g % ticks in
      let whole_is : q * ticks + r ≡ g = div-add-mod' g ticks in
      let low : r < ticks = mod-lt g some in
      place-is (g + q) q r (omega (arith, whole_is, longer q ticks)) (omega (arith, low))
      ∙ cond-false (r == ticks) (epoch_in S b (q + 1)) (reply_in S b c j (q * ticks + r))
      (ne_eqb r ticks (λ e. omega (arith, low, e)))
      ∙ ap (reply_in S b c j) whole_is

  -- and an epoch behind the replies of its phase
  pub epoch-at : (e : ℕ) → frame_at S b c j ((e + 1) * ticks + e) ≡ epoch_in S b (e + 1)
  epoch-at e =
      place-is ((e + 1) * ticks + e) e ticks (omega (arith, one_more e ticks, longer e ticks)) (omega arith)
      ∙ cond-true (ticks == ticks) (epoch_in S b (e + 1)) (reply_in S b c j (e * ticks + ticks))
      (eq-eqb ticks ticks refl)

  -- how many frames the first turns have, where epoch n is the newest
  abbrev count : ℕ → ℕ → ℕ
  count n turns = turns + min (turns / ticks) n

  turn-is : (n g : ℕ) (xs : List (List ℕ)) → closing_told S.shape (whole S b) n g ≡ xs →
      told_in_turn S b c j n g ≡ reply_in S b c j g ∷ xs
  turn-is n g xs is =
      ap (λ (ys : List (List ℕ)). reply_in S b c j g ∷ ys)
      (ap (closing_told S.shape (whole S b) n) (read-turn S b c j g) ∙ is)

  -- a turn brings its reply, and where it closes a phase whose epoch is there this epoch too
  turn-brings : (n g : ℕ) → g < turns_read S.shape n →
      map (frame_at S b c j) (range_with_len 0 (count n g)) ++ told_in_turn S b c j n g
      ≡ map (frame_at S b c j) (range_with_len 0 (count n (g + 1)))
  turn-brings n g there =
      let f = frame_at S b c j in
      let front = map f (range_with_len 0 (count n g)) in
      let phase : g / ticks < n + 1 = phase-before ticks (n + 1) g some there in
      let here : count n g ≡ g + g / ticks = omega (arith, phase) in
      let reply : f (count n g) ≡ reply_in S b c j g = ap f here ∙ reply-at g in
      elim (cases_eq ((g + 1) % ticks) 0) [
        | inl closes ↦
            let next : (g + 1) / ticks ≡ g / ticks + 1 = phases-step ticks g some closes in
            elim (cases_lt n (phase_of S.shape g)) [
              | inl ahead ↦
                  ap (λ (xs : List (List ℕ)). front ++ xs)
                  (turn-is n g [] (closing-none S.shape (whole S b) n g (λ _. ahead)))
                  ∙ one-more f (count n g) (count n (g + 1)) (reply_in S b c j g)
                  (omega (arith, next, ahead, phase)) reply
              | inr over ↦
                  let last = closing-last ticks g some closes in
                  let epoch : f (count n g + 1) ≡ epoch_in S b (phase_of S.shape g) =
                  ap f (omega (arith, here, last)) ∙ epoch-at (g / ticks)
                  in
                  ap (λ (xs : List (List ℕ)). front ++ xs)
                  (turn-is n g (epoch_in S b (phase_of S.shape g) ∷ [])
                  (closing-some S.shape (whole S b) n g closes over))
                  ∙ two-more f (count n g) (count n (g + 1)) (reply_in S b c j g)
                  (epoch_in S b (phase_of S.shape g)) (omega (arith, next, over, here)) reply epoch
            ]
        | inr open_still ↦
            let next : (g + 1) / ticks ≡ g / ticks = phases-stay ticks g some open_still in
            ap (λ (xs : List (List ℕ)). front ++ xs)
            (turn-is n g []
            (closing-none S.shape (whole S b) n g (λ closes. absurd (open_still closes))))
            ∙ one-more f (count n g) (count n (g + 1)) (reply_in S b c j g)
            (omega (arith, next)) reply
      ]

  turns-bring : (n turns : ℕ) → turns ≤ turns_read S.shape n →
      flat_map (told_in_turn S b c j n) (range_with_len 0 turns)
      ≡ map (frame_at S b c j) (range_with_len 0 (count n turns))
  turns-bring n zero within =
      ap (λ k. map (frame_at S b c j) (range_with_len 0 k)) (none (zero / ticks) (zero-div ticks))
    where
      none : (k : ℕ) → k ≡ 0 → 0 ≡ 0 + min k n
      none k is = omega (arith, is)
  turns-bring n (suc turns) within =
      ap (λ k. flat_map (told_in_turn S b c j n) (range_with_len 0 k)) (sym (add-one turns))
      ∙ flat_map-next (told_in_turn S b c j n) turns
      ∙ ap (λ (xs : List (List ℕ)). xs ++ told_in_turn S b c j n turns)
      (turns-bring n turns (omega (arith, within)))
      ∙ turn-brings n turns (omega (arith, within))
      ∙ ap (λ k. map (frame_at S b c j) (range_with_len 0 (count n k))) (add-one turns)

  -- what a server tells a client is the frames of the first places
  pub stream-places : (n k : ℕ) →
      stream S b c j n k ≡ map (frame_at S b c j) (range_with_len 0 (stream_len S.shape n k))
  unfolding stream
  stream-places n k =
      turns-bring n (min k (turns_read S.shape n)) (omega arith)
