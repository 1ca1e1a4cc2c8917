-- The reads that a server sees of a run, turn after turn.
use Rattle.std.proofs.Common.{◌≡◌, refl, ap, ap₂, sym, subst, ◌∙◌, arith}
use Rattle.std.proofs.Common.{ℕ, zero, suc, ◌+◌, ◌*◌, ◌<◌, ◌≤◌, List, [], ◌∷◌, ◌++◌, length, map, flat_map}
use Rattle.std.proofs.Common.{length-append, suc-mul, zero-mul, zero-add}
use Rattle.std.specs.Prelude.{slice_index_or}
use Rattle.std.specs.List.{range_with_len}
use Rattle.std.proofs.lemmas.List.{get_or_append_left, get_or-append-add}
use Rattle.std.proofs.lemmas.List.FromFn.{length-map-range_with_len, get_or-map-range_with_len}
use Rattle.tk_shape.specs.declared.shape.Shape.{Shape}
use Rattle.tk_shape.specs.Lengths.{turn_count}
use Rattle.tk_schedule.specs.declared.history.History.{History}
use Rattle.tk_schedule.specs.Schedule.{epoch_at}
use Rattle.tk_words.specs.Words.{WordBook, drawn, IsBook}
use Rattle.tk_frames.specs.declared.read_frame.ReadFrame.{ReadFrame}
use Rattle.tk_client.specs.Framing.{AreAllTold}
use Rattle.tk_client.proofs.Offers.{frame-told}
use Rattle.tk_report.proofs.Offers.{flat_map-next}
use Rattle.tk_report.specs.Exchange.{blank_read}
use Rattle.tk_privacy.specs.Privacy.{Pairs, read_for}
use Rattle.tk_privacy.specs.Hiding.{read_in}
use Rattle.tk_privacy.specs.Reads.{reads_at, reads_before, all_reads}
use Rattle.tk_privacy.specs.Steps.{AreLastReads}

-- ---- rows of one length

-- a row for each number, of which each has so many elements
abbrev row : {X : Type 0} → ℕ → (ℕ → ℕ → X) → ℕ → List X
row width at k = map (at k) (range_with_len 0 width)

length-rows : {X : Type 0} (width : ℕ) (at : ℕ → ℕ → X) (a n : ℕ) →
    length (flat_map (row width at) (range_with_len a n)) ≡ n * width
length-rows width at a zero = sym (zero-mul width)
length-rows width at a (suc n) =
    length-append (row width at a) (flat_map (row width at) (range_with_len (a + 1) n))
    ∙ ap₂ (λ x y. x + y) (length-map-range_with_len (at a) 0 width)
    (length-rows width at (a + 1) n)
    ∙ omega (arith, suc-mul n width)

-- the element at a column of a row
in-rows : {X : Type 0} (width : ℕ) (at : ℕ → ℕ → X) (a n i c : ℕ) (d : X) → i < n → c < width →
    slice_index_or (flat_map (row width at) (range_with_len a n)) (i * width + c) d ≡ at (a + i) c
in-rows width at a zero i c d within low = absurd (omega (arith, within))
in-rows width at a (suc n) zero c d within low =
    let front = row width at a in
    let rest = flat_map (row width at) (range_with_len (a + 1) n) in
    let counted = length-map-range_with_len (at a) 0 width in
    let here : zero * width + c ≡ c = omega (arith, zero-mul width) in
    let this : a ≡ a + 0 = omega arith in
    ap (λ k. slice_index_or (front ++ rest) k d) here
    ∙ get_or_append_left front rest d c (omega (arith, low, counted))
    ∙ get_or-map-range_with_len (at a) 0 width c c d low (zero-add c)
    ∙ ap (λ k. at k c) this
in-rows width at a (suc n) (suc i) c d within low =
    let front = row width at a in
    let rest = flat_map (row width at) (range_with_len (a + 1) n) in
    let counted = length-map-range_with_len (at a) 0 width in
    let here : suc i * width + c ≡ length front + (i * width + c) =
    omega (arith, suc-mul i width, counted)
    in
    let there : a + 1 + i ≡ a + suc i = omega arith in
    ap (λ k. slice_index_or (front ++ rest) k d) here
    ∙ get_or-append-add front rest (i * width + c) d
    ∙ in-rows width at (a + 1) n i c d (omega (arith, within)) low
    ∙ ap (λ k. at k c) there

-- ---- the reads of a run that reads these buckets

module _ (shape : Shape) (b : WordBook) (H : History) (pairs : Pairs) (j : ℕ) where
  length-all_reads : length (all_reads shape b H pairs j) ≡ turn_count shape * shape.clients
  unfolding reads_before
  length-all_reads =
      length-rows shape.clients (λ g c. read_for shape b H (pairs g c) g c j) 0 (turn_count shape)

  -- each at the place of its turn and client
  pub read-in : (g c : ℕ) → g < turn_count shape → c < shape.clients →
      read_in shape (all_reads shape b H pairs j) g c ≡ read_for shape b H (pairs g c) g c j
  unfolding reads_before
  read-in g c within low =
      in-rows shape.clients (λ k d. read_for shape b H (pairs k d) k d j) 0 (turn_count shape) g c
      blank_read within low
      ∙ ap (λ k. read_for shape b H (pairs k c) k c j) (zero-add g)

  pub reads-counted : (reads : List ReadFrame) → reads ≡ all_reads shape b H pairs j →
      length reads ≡ turn_count shape * shape.clients
  reads-counted reads are = ap length are ∙ length-all_reads

  pub reads-none : [] ≡ reads_before shape b H pairs j 0
  unfolding reads_before
  reads-none = refl

  pub reads-next : (g : ℕ) →
      reads_before shape b H pairs j (g + 1)
      ≡ reads_before shape b H pairs j g ++ reads_at shape b H pairs j g
  unfolding reads_before
  reads-next g = flat_map-next (reads_at shape b H pairs j) g

-- over a tape those of the last server are the last reads
pub are-last_reads : (shape : Shape) (H : History) (pairs : Pairs) (u : List ℕ)
    (reads : List ReadFrame) → reads ≡ all_reads shape (drawn u) H pairs shape.servers →
    AreLastReads shape H pairs u reads
are-last_reads shape H pairs u reads are g c within low =
    ap (λ (xs : List ReadFrame). read_in shape xs g c) are
    ∙ read-in shape (drawn u) H pairs shape.servers g c within low

-- ---- vectors that seeds alone tell

each-append : (xs ys : List ReadFrame) → AreAllTold xs → AreAllTold ys → AreAllTold (xs ++ ys)
each-append [] ys h k = k
each-append (x ∷ xs) ys h k = (h.0, each-append xs ys h.1 k)

module _ (shape : Shape) (b : WordBook) (H : History) (pairs : Pairs) (j : ℕ)
    (served : IsBook shape b) (low : 1 ≤ j) (high : j ≤ shape.servers) where
  turn-told : (g : ℕ) → g < turn_count shape → (a n : ℕ) → a + n ≤ shape.clients →
      AreAllTold (map (λ c. read_for shape b H (pairs g c) g c j) (range_with_len a n))
  turn-told g turn a zero within = tt
  turn-told g turn a (suc n) within = (
    frame-told shape b g a (epoch_at H g a) (pairs g a) served turn (omega (arith, within)) j low
        high,
    turn-told g turn (a + 1) n (omega (arith, within)),
  )

  turns-told : (a n : ℕ) → a + n ≤ turn_count shape →
      AreAllTold (flat_map (reads_at shape b H pairs j) (range_with_len a n))
  turns-told a zero within = tt
  turns-told a (suc n) within =
      each-append (reads_at shape b H pairs j a)
      (flat_map (reads_at shape b H pairs j) (range_with_len (a + 1) n))
      (turn-told a (omega (arith, within)) 0 shape.clients (omega arith))
      (turns-told (a + 1) n (omega (arith, within)))

  all-told : AreAllTold (all_reads shape b H pairs j)
  unfolding reads_before
  all-told = turns-told 0 (turn_count shape) (omega arith)

  -- in the reads that a server sees they are what the seeds expand to
  pub reads-told : (reads : List ReadFrame) → reads ≡ all_reads shape b H pairs j → AreAllTold reads
  reads-told reads are = subst AreAllTold (sym are) all-told
