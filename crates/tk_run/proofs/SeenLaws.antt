-- What servers see, turn after turn, and what taps gain of it.
use Rattle.std.proofs.Common.{◌≡◌, refl, ap, ap₂, sym, subst, ◌∙◌, arith, ℕ, zero, suc, ◌+◌, ◌-◌, ◌<◌, ◌≤◌, List, []}
use Rattle.std.proofs.Common.{◌++◌, map, flat_map, append_assoc, append-nil, zero-add, Option}
use Rattle.std.specs.List.{range_with_len}
use Rattle.std.proofs.lemmas.Grind.{flat_map-append}
use Rattle.std.proofs.lemmas.List.Folds.{flat_map-map}
use Rattle.tk_shape.specs.Lengths.{turn_count}
use Rattle.tk_schedule.specs.declared.history.History.{History}
use Rattle.tk_script.specs.declared.script.Script.{Script}
use Rattle.tk_words.specs.Words.{WordBook, words_of}
use Rattle.tk_frames.specs.Spelling.{placed_frame}
use Rattle.tk_io.specs.Content.{gained}
use Rattle.tk_report.specs.Entries.{write_at, entries_at}
use Rattle.tk_report.specs.Exchange.{turn_frames, frames_before, bytes_of}
use Rattle.tk_report.proofs.Offers.{flat_map-next, flat_map-flat_map}
use Rattle.tk_io.specs.Tapped.{GainsFront, TapsGain, TapsGainFronts}
use Rattle.tk_io.proofs.Offers.{gained-nothing, taps-same, taps-twice, front-of_first, front-of_second, fronts-of_all}
use Rattle.tk_run.specs.Turns.{entries_seen, turn_bytes, bytes_before}

-- what each server's reads give: the frames of each turn's and client's read
abbrev pub Reads : Type 0
Reads = ℕ → ℕ → ℕ → List (List ℕ)

-- the frames that a server sees of a run
abbrev pub all_frames : Script → WordBook → History → Reads → ℕ → List (List ℕ)
all_frames S b H reads j =
    frames_before S.shape H (write_at S (words_of S.shape b)) (reads j) (turn_count S.shape)

module _ (S : Script) (b : WordBook) (H : History) (reads : Reads) where
  abbrev saw_in : ℕ → ℕ → List ℕ
  saw_in g j = turn_bytes S b H (reads j) g

  abbrev saw_before : ℕ → ℕ → List ℕ
  saw_before g j = bytes_before S b H (reads j) g

  -- ---- what servers see

  seen-first : (j : ℕ) → saw_before 0 j ≡ []
  unfolding bytes_before frames_before
  seen-first j = refl

  seen-next : (g j : ℕ) → saw_before (g + 1) j ≡ saw_before g j ++ saw_in g j
  unfolding bytes_before frames_before turn_bytes
  seen-next g j =
      let frames = turn_frames S.shape H (write_at S (words_of S.shape b)) (reads j) in
      ap bytes_of (flat_map-next frames g)
      ∙ flat_map-append (λ f. f) (flat_map frames (range_with_len 0 g)) (frames g)

  -- at the end that is all
  seen-all : (j : ℕ) → saw_before (turn_count S.shape) j ≡ bytes_of (all_frames S b H reads j)
  unfolding bytes_before
  seen-all j = refl

  -- ---- a turn

  -- a turn's entries are seen first, and then the reads of all clients
  pub turn-parts : (g j : ℕ) →
      entries_seen S (words_of S.shape b) H g j
      ++ flat_map (λ c. bytes_of (reads j g c)) (range_with_len 0 S.shape.clients)
      ≡ saw_in g j
  unfolding turn_bytes
  turn-parts g j =
      let w = words_of S.shape b in
      let placed = entries_at (write_at S w) H g in
      let clients = range_with_len 0 S.shape.clients in
      ap₂ (λ (front back : List ℕ). front ++ back)
      (sym (flat_map-map (λ y. y) placed_frame placed))
      (sym (flat_map-flat_map (λ y. y) (reads j g) clients))
      ∙ sym (flat_map-append (λ f. f) (map placed_frame placed) (flat_map (reads j g) clients))

  -- ---- taps

  -- before the first turn the taps gained what was seen before it: nothing
  pub taps-first : (tap : ℕ → Option (List ℕ)) → TapsGain S.shape.servers (saw_before 0) tap tap
  taps-first tap j low high =
      sym (gained-nothing (tap j)) ∙ ap (gained (tap j)) (sym (seen-first j))

  -- the taps gain what is seen before the next turn
  pub taps-next : (g : ℕ) (old now new : ℕ → Option (List ℕ)) →
      TapsGain S.shape.servers (saw_before g) old now →
      TapsGain S.shape.servers (saw_in g) now new →
      TapsGain S.shape.servers (saw_before (g + 1)) old new
  taps-next g old now new before turn =
      taps-same S.shape.servers
      (λ j. saw_before g j ++ saw_in g j) (saw_before (g + 1)) old new
      (λ j low high. sym (seen-next g j))
      (taps-twice S.shape.servers (saw_before g) (saw_in g) old now new before turn)

  -- at the end they gained all
  pub taps-all : (g : ℕ) (old new : ℕ → Option (List ℕ)) →
      g ≡ turn_count S.shape → TapsGain S.shape.servers (saw_before g) old new →
      TapsGain S.shape.servers (λ (j : ℕ). bytes_of (all_frames S b H reads j)) old new
  taps-all g old new all gain =
      taps-same S.shape.servers (saw_before g) (λ (j : ℕ). bytes_of (all_frames S b H reads j)) old new
      (λ j low high. ap (λ (n : ℕ). saw_before n j) all ∙ seen-all j) gain

  -- what is seen before a turn is a front of all
  seen-rest : (j g k : ℕ) → (rest : List ℕ) × (saw_before (k + g) j ≡ saw_before g j ++ rest)
  seen-rest j g zero =
      ([], ap (λ n. saw_before n j) (zero-add g) ∙ sym (append-nil (saw_before g j)))
  seen-rest j g (suc k) =
      let less = seen-rest j g k in
      let more : suc k + g ≡ k + g + 1 = omega arith in
      let here = saw_in (k + g) j in (
        less.0 ++ here,
        ap (λ n. saw_before n j) more ∙ seen-next (k + g) j
            ∙ ap (λ (xs : List ℕ). xs ++ here) less.1
            ∙ append_assoc (saw_before g j) less.0 here,
      )

  -- what they gained of the turns so far is a front of all
  pub fronts-before : (g : ℕ) (old new : ℕ → Option (List ℕ)) → g ≤ turn_count S.shape →
      TapsGain S.shape.servers (saw_before g) old new →
      TapsGainFronts S.shape.servers (λ (j : ℕ). bytes_of (all_frames S b H reads j)) old new
  fronts-before g old new within before j low high =
      let n = turn_count S.shape in
      let rest = seen-rest j g (n - g) in
      let there : n - g + g ≡ n = omega (arith, within) in
      let all : bytes_of (all_frames S b H reads j) ≡ saw_before g j ++ rest.0 =
      sym (seen-all j) ∙ sym (ap (λ (m : ℕ). saw_before m j) there) ∙ rest.1
      in
      subst (GainsFront (old j) (new j)) (sym all)
      (front-of_first (old j) (new j) (saw_before g j) rest.0
      (fronts-of_all S.shape.servers (saw_before g) old new before j low high))

  -- a turn of which the taps gain fronts leaves them with fronts of all
  pub fronts-next : (g : ℕ) (old now new : ℕ → Option (List ℕ)) → g < turn_count S.shape →
      TapsGain S.shape.servers (saw_before g) old now →
      TapsGainFronts S.shape.servers (saw_in g) now new →
      TapsGainFronts S.shape.servers (λ (j : ℕ). bytes_of (all_frames S b H reads j)) old new
  fronts-next g old now new within before turn j low high =
      let n = turn_count S.shape in
      let rest = seen-rest j (g + 1) (n - (g + 1)) in
      let there : n - (g + 1) + (g + 1) ≡ n = omega (arith, within) in
      let all : bytes_of (all_frames S b H reads j) ≡ (saw_before g j ++ saw_in g j) ++ rest.0 =
      sym (seen-all j)
      ∙ sym (ap (λ (m : ℕ). saw_before m j) there) ∙ rest.1
      ∙ ap (λ (xs : List ℕ). xs ++ rest.0) (seen-next g j)
      in
      let front =
      front-of_second (old j) (now j) (new j) (saw_before g j) (saw_in g j)
      (before j low high) (turn j low high)
      in
      subst (GainsFront (old j) (new j)) (sym all)
      (front-of_first (old j) (new j) (saw_before g j ++ saw_in g j) rest.0 front)
