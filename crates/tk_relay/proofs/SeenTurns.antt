-- What servers see of a run whose reads are relayed, turn after turn, and what taps gain of it.
use Rattle.std.proofs.Common.{◌≡◌, refl, ap, ap₂, sym, subst, ◌∙◌, arith, ℕ, zero, suc, ◌+◌, ◌-◌, ◌<◌, ◌≤◌, ◌==◌, true, false, cond}
use Rattle.std.proofs.Common.{List, [], ◌∷◌, ◌++◌, length, map, drop, flat_map, append_assoc, append-nil, zero-add, Option}
use Rattle.std.specs.Prelude.{slice_index_or}
use Rattle.std.specs.List.{range_with_len}
use Rattle.std.proofs.lemmas.Grind.{flat_map-append}
use Rattle.std.proofs.lemmas.List.Folds.{flat_map-map}
use Rattle.std.proofs.lemmas.List.FromFn.{get_or-map-range_with_len}
use Rattle.tk_shape.specs.Lengths.{turn_count}
use Rattle.tk_schedule.specs.declared.history.History.{History}
use Rattle.tk_script.specs.declared.script.Script.{Script}
use Rattle.tk_words.specs.Words.{WordBook, words_of}
use Rattle.tk_frames.specs.Spelling.{placed_frame}
use Rattle.tk_io.specs.Tapped.{GainsFront, TapsGain, TapsGainFronts}
use Rattle.tk_io.proofs.Offers.{gained-nothing, taps-same, taps-twice, front-of_first, front-of_second}
use Rattle.tk_report.specs.Entries.{write_at, entries_at}
use Rattle.tk_report.specs.Exchange.{turn_frames, frames_before, bytes_of}
use Rattle.tk_report.proofs.Offers.{flat_map-next, flat_map-flat_map}
use Rattle.tk_relay.specs.declared.part.Part.{Part}
use Rattle.tk_relay.specs.declared.relayed_read.RelayedRead.{RelayedRead}
use Rattle.tk_relay.specs.Parts.{part_frame, masked_reply_frame, blank_part}
use Rattle.tk_relay.specs.Reads.{read_seen, sight_seen, part_of, reply_of}
use Rattle.tk_relay.specs.Relayed.{relayed_read, relayed_turn, relayed_exchange, part_read, reply_read}
use Rattle.tk_relay.specs.Relayed.{sight_read, sight_frames, part_frames}
use Rattle.tk_relay.specs.Running.{IsRelayed, AreRelayed}
use Rattle.tk_relay.specs.Sights.{sight}
use Rattle.tk_relay.proofs.RelayedReads.{part-at}

-- ---- lists

-- what elements give, and what their places give
flat_map-places : {X : Type 0} (f : X → List ℕ) (h : ℕ → List ℕ) (k : ℕ) (xs : List X) →
    ((i : ℕ) (d : X) → i < length xs → f (slice_index_or xs i d) ≡ h (k + i)) →
    flat_map f xs ≡ flat_map h (range_with_len k (length xs))
flat_map-places f h k [] each = refl
flat_map-places f h k (x ∷ xs) each =
    ap₂ (λ (front back : List ℕ). front ++ back)
    (each 0 x (omega arith) ∙ ap h (omega arith))
    (flat_map-places f h (k + 1) xs (λ i d low. each (suc i) d (omega (arith, low)) ∙ ap h (omega arith)))

-- ---- a read

module _ {S : Script} {b : WordBook} {seeds : List (List ℕ)} {H : History} {g c : ℕ}
    {r : RelayedRead} (is : IsRelayed S b seeds H g S.shape.servers c r) where
  reply-at : (j : ℕ) → 1 ≤ j → j ≤ S.shape.servers → reply_of r j ≡ reply_read S b seeds H g c j
  reply-at j low high =
      ap (λ (ps : List Part). slice_index_or ps (j - 1) blank_part) is.replies
      ∙ get_or-map-range_with_len (reply_read S b seeds H g c) 1 S.shape.servers (j - 1) j blank_part
      (omega (arith, low, high)) (omega (arith, low))

  -- what server 1 sees
  first-seen : r.bundle ++ flat_map masked_reply_frame (drop 1 r.replies.items)
      ≡ bytes_of (sight_frames (sight_read S b seeds H g c))
  unfolding sight reply_read part_read
  first-seen =
      let several = S.shape.in_range.servers_low in
      let reply = reply_read S b seeds H g c in
      let others = range_with_len 2 (S.shape.servers - 1) in
      let more : S.shape.servers ≡ suc (S.shape.servers - 1) = omega (arith, several) in
      let behind : drop 1 r.replies.items ≡ map reply others =
      ap (drop 1) (is.replies ∙ ap (λ n. map reply (range_with_len 1 n)) more)
      in
      ap₂ (λ (front back : List ℕ). front ++ back) is.bundle
      (ap (flat_map masked_reply_frame) behind
      ∙ flat_map-map masked_reply_frame reply others
      ∙ sym (flat_map-map (λ y. y) (λ j. masked_reply_frame (reply j)) others))

  -- what each server sees
  pub seen-read : (j : ℕ) → 1 ≤ j → j ≤ S.shape.servers →
      read_seen j r ≡ bytes_of (relayed_read S b seeds H j g c)
  unfolding relayed_read
  seen-read j low high =
      elim (j == 1) as (λ q.
      cond q (r.bundle ++ flat_map masked_reply_frame (drop 1 r.replies.items))
      (part_frame (part_of r j) ++ masked_reply_frame (reply_of r j))
      ≡ bytes_of (cond q (sight_frames (sight_read S b seeds H g c))
      (part_frames (part_read S b seeds H g c j) (reply_read S b seeds H g c j)))) [
        | true ↦ first-seen
        | false ↦
            ap₂ (λ (p q : Part). part_frame p ++ masked_reply_frame q) (part-at is j low high)
            (reply-at j low high)
            ∙ ap (λ (xs : List ℕ). part_frame (part_read S b seeds H g c j) ++ xs)
            (sym (append-nil (masked_reply_frame (reply_read S b seeds H g c j))))
      ]

-- ---- a turn

pub seen-turn : (S : Script) (b : WordBook) (seeds : List (List ℕ)) (H : History) (g j : ℕ)
    (entries : List ℕ) (reads : List RelayedRead) → 1 ≤ j → j ≤ S.shape.servers →
    AreRelayed S b seeds H g S.shape.servers reads →
    entries ≡ flat_map placed_frame (entries_at (write_at S (words_of S.shape b)) H g) →
    sight_seen entries reads j ≡ relayed_turn S b seeds H g j
unfolding relayed_turn
seen-turn S b seeds H g j entries reads low high are is =
    let placed = entries_at (write_at S (words_of S.shape b)) H g in
    let clients = range_with_len 0 S.shape.clients in
    let read = λ (c : ℕ). relayed_read S b seeds H j g c in
    let each : flat_map (read_seen j) reads ≡ flat_map (λ c. bytes_of (read c)) clients =
    flat_map-places (read_seen j) (λ c. bytes_of (read c)) 0 reads
    (λ i d within. seen-read (are.each i d within) j low high ∙ ap (λ c. bytes_of (read c)) (omega arith))
    ∙ ap (λ n. flat_map (λ c. bytes_of (read c)) (range_with_len 0 n)) are.counted
    in
    ap₂ (λ (front back : List ℕ). front ++ back)
    (is ∙ sym (flat_map-map (λ y. y) placed_frame placed))
    (each ∙ sym (flat_map-flat_map (λ y. y) read clients))
    ∙ sym (flat_map-append (λ f. f) (map placed_frame placed) (flat_map read clients))

-- ---- turn after turn

module _ (S : Script) (b : WordBook) (seeds : List (List ℕ)) (H : History) where
  -- what a server sees before turn g
  unfoldable pub seen_before : ℕ → ℕ → List ℕ
  seen_before g j =
      bytes_of
      (frames_before S.shape H (write_at S (words_of S.shape b)) (relayed_read S b seeds H j) g)

  seen_before-next : (g j : ℕ) →
      seen_before (g + 1) j ≡ seen_before g j ++ relayed_turn S b seeds H g j
  unfolding seen_before frames_before relayed_turn
  seen_before-next g j =
      let frames = turn_frames S.shape H (write_at S (words_of S.shape b)) (relayed_read S b seeds H j) in
      ap bytes_of (flat_map-next frames g)
      ∙ flat_map-append (λ f. f) (flat_map frames (range_with_len 0 g)) (frames g)

  -- at the end that is what it sees of the whole run
  seen_before-all : (j : ℕ) →
      seen_before (turn_count S.shape) j ≡ bytes_of (relayed_exchange S b seeds H j)
  unfolding seen_before
  seen_before-all j = refl

  -- before the first turn the taps gained what was seen before it: nothing
  pub taps-first : (tap : ℕ → Option (List ℕ)) → TapsGain S.shape.servers (seen_before 0) tap tap
  unfolding seen_before frames_before
  taps-first tap j low high = sym (gained-nothing (tap j))

  -- the taps gain what is seen before the next turn
  pub taps-next : (g : ℕ) (old now new : ℕ → Option (List ℕ)) →
      TapsGain S.shape.servers (seen_before g) old now →
      TapsGain S.shape.servers (relayed_turn S b seeds H g) now new →
      TapsGain S.shape.servers (seen_before (g + 1)) old new
  taps-next g old now new before turn =
      taps-same S.shape.servers (λ j. seen_before g j ++ relayed_turn S b seeds H g j)
      (seen_before (g + 1)) old new
      (λ j low high. sym (seen_before-next g j))
      (taps-twice S.shape.servers (seen_before g) (relayed_turn S b seeds H g) old now new before turn)

  -- at the end they gained all
  pub taps-all : (g : ℕ) (old new : ℕ → Option (List ℕ)) → g ≡ turn_count S.shape →
      TapsGain S.shape.servers (seen_before g) old new →
      TapsGain S.shape.servers (λ (j : ℕ). bytes_of (relayed_exchange S b seeds H j)) old new
  taps-all g old new all gain =
      taps-same S.shape.servers (seen_before g)
      (λ (j : ℕ). bytes_of (relayed_exchange S b seeds H j)) old new
      (λ j low high. ap (λ (n : ℕ). seen_before n j) all ∙ seen_before-all j) gain

  -- what is seen before a turn is a front of all
  seen_before-rest : (j g k : ℕ) →
      (rest : List ℕ) × (seen_before (k + g) j ≡ seen_before g j ++ rest)
  seen_before-rest j g zero =
      ([], ap (λ n. seen_before n j) (zero-add g) ∙ sym (append-nil (seen_before g j)))
  seen_before-rest j g (suc k) =
      let less = seen_before-rest j g k in
      let more : suc k + g ≡ k + g + 1 = omega arith in
      let here = relayed_turn S b seeds H (k + g) j in (
        less.0 ++ here,
        ap (λ n. seen_before n j) more ∙ seen_before-next (k + g) j
            ∙ ap (λ (xs : List ℕ). xs ++ here) less.1
            ∙ append_assoc (seen_before g j) less.0 here,
      )

  -- a turn of which the taps gain fronts leaves them with fronts of all
  pub fronts-next : (g : ℕ) (old now new : ℕ → Option (List ℕ)) → g < turn_count S.shape →
      TapsGain S.shape.servers (seen_before g) old now →
      TapsGainFronts S.shape.servers (relayed_turn S b seeds H g) now new →
      TapsGainFronts S.shape.servers (λ (j : ℕ). bytes_of (relayed_exchange S b seeds H j)) old new
  fronts-next g old now new within before turn j low high =
      let n = turn_count S.shape in
      let rest = seen_before-rest j (g + 1) (n - (g + 1)) in
      let whole : n - (g + 1) + (g + 1) ≡ n = omega (arith, within) in
      let all : bytes_of (relayed_exchange S b seeds H j)
      ≡ (seen_before g j ++ relayed_turn S b seeds H g j) ++ rest.0 =
      sym (seen_before-all j)
      ∙ sym (ap (λ (m : ℕ). seen_before m j) whole) ∙ rest.1
      ∙ ap (λ (xs : List ℕ). xs ++ rest.0) (seen_before-next g j)
      in
      let front =
      front-of_second (old j) (now j) (new j) (seen_before g j) (relayed_turn S b seeds H g j)
      (before j low high) (turn j low high)
      in
      subst (GainsFront (old j) (new j)) (sym all)
      (front-of_first (old j) (new j) (seen_before g j ++ relayed_turn S b seeds H g j) rest.0 front)
