-- What a client is told, when more is taken.
use Rattle.std.proofs.Common.{◌≡◌, ℕ, ◌+◌, ◌/◌, ◌%◌, ◌<◌, ◌≤◌, refl, ap, ap₂, sym, ◌∙◌, arith, inl, inr, subst}
use Rattle.std.proofs.Common.{List, [], ◌∷◌, ◌++◌, length, get_or, take, drop, flat_map, map, Bool, true, false, cond}
use Rattle.std.proofs.Common.{append-nil, take-add, eq-eqb, ◌-◌, ◌⊎◌, append_assoc, length-append}
use Rattle.std.specs.Prelude.{slice_index_or, nat_le, ◌&&◌}
use Rattle.std.proofs.lemmas.Grind.{flat_map-append}
use Rattle.std.proofs.lemmas.Bool.{cases_lt, cases_eq, le-leb, eqb-true}
use Rattle.std.proofs.lemmas.Bool.Decides.{leb_tells}
use Rattle.std.proofs.lemmas.List.{take_all, take_more, take-append-le, get_or-take, get_or-drop, length-take}
use Rattle.std.proofs.lemmas.List.{length-drop}
use Rattle.std.proofs.lemmas.List.Concat.{flat_map_single}
use Rattle.tk_shape.specs.declared.shape.Shape.{Shape}
use Rattle.tk_schedule.specs.Schedule.{is_closing, phase_of}
use Rattle.tk_frames.specs.declared.read_frame.ReadFrame.{ReadFrame}
use Rattle.tk_frames.specs.declared.entry.Placed.{Placed}
use Rattle.tk_frames.specs.Order.{before}
use Rattle.tk_frames.specs.Spelling.{reply_frame}
use Rattle.tk_table.specs.Replies.{reply_to}
use Rattle.tk_report.specs.Exchange.{blank_read}
use Rattle.tk_replica.specs.Epochs.{filter_of}
use Rattle.tk_packets.specs.Frames.{epoch_frame, marks_len}
use Rattle.tk_packets.specs.Marks.{mark_bytes}
use Rattle.tk_schedule.proofs.Offers.{one_more}
use Rattle.tk_serve.specs.Seats.{IsReadDue}
use Rattle.tk_serve.specs.Told.{reply_told, epoch_bytes, closing_told, told_of, turns_read, told_in, brought}
use Rattle.tk_serve.proofs.Lists.{flat_map-each}
use Rattle.tk_serve.proofs.Phases.{phase-before, phase-past, phase-closed, last-closes, last-phase}

-- ---- what is told over entries that begin with others

-- the epochs up to n are those of fewer entries
pub record SameUpTo (n : ℕ) (E F : List Placed) : Type 0 where
  pub each : (e : ℕ) → e ≤ n → before F e ≡ before E e

pub reply-same : (shape : Shape) (n : ℕ) (E F : List Placed) (r : ReadFrame) → SameUpTo n E F → r.epoch ≤ n →
    reply_told shape F r ≡ reply_told shape E r
unfolding reply_told
reply-same shape n E F r same low = ap (λ R. reply_frame (reply_to shape R r)) (same.each r.epoch low)

pub epoch-same : (shape : Shape) (n : ℕ) (E F : List Placed) (e : ℕ) → SameUpTo n E F → e ≤ n →
    epoch_bytes shape F e ≡ epoch_bytes shape E e
unfolding epoch_bytes
epoch-same shape n E F e same low =
    ap (λ R. epoch_frame (record { epoch = e; marks = mark_bytes (marks_len shape) (filter_of shape R) }))
    (same.each e low)

-- ---- the end of a phase

-- nothing is told where the turn doesn't close its phase, or the phase isn't over
pub closing-none : (shape : Shape) (E : List Placed) (n g : ℕ) →
    ((g + 1) % shape.ticks ≡ 0 → n < phase_of shape g) → closing_told shape E n g ≡ []
closing-none shape E n g never =
    ap (λ b. cond b (epoch_bytes shape E (phase_of shape g) ∷ []) []) (test (is_closing shape g) refl)
  where
    test : (b : Bool) → is_closing shape g ≡ b → (is_closing shape g && nat_le (phase_of shape g) n) ≡ false
    test true closes = elim (leb_tells (phase_of shape g) n) [
      | inl over ↦ absurd (omega (arith, over.1, never (eqb-true _ _ closes)))
      | inr ahead ↦ ap₂ (λ a b. a && b) closes ahead.0
    ]
    test false open_still = ap (λ b. b && nat_le (phase_of shape g) n) open_still

pub closing-some : (shape : Shape) (E : List Placed) (n g : ℕ) → (g + 1) % shape.ticks ≡ 0 → phase_of shape g ≤ n →
    closing_told shape E n g ≡ epoch_bytes shape E (phase_of shape g) ∷ []
closing-some shape E n g closes over =
    ap (λ b. cond b (epoch_bytes shape E (phase_of shape g) ∷ []) [])
    (ap₂ (λ a b. a && b) (eq-eqb _ _ closes) (le-leb _ _ over))

-- a turn of a phase that was over before is told the same
closing-same : (shape : Shape) (n m : ℕ) (E F : List Placed) (g : ℕ) → SameUpTo n E F → n ≤ m →
    ((g + 1) % shape.ticks ≡ 0 → (phase_of shape g ≤ n) ⊎ (m < phase_of shape g)) →
    closing_told shape F m g ≡ closing_told shape E n g
closing-same shape n m E F g same more when =
    elim (cases_eq ((g + 1) % shape.ticks) 0) [
      | inl closes ↦ elim (when closes) [
        | inl over ↦
            closing-some shape F m g closes (omega (arith, over, more))
            ∙ ap (λ bytes. bytes ∷ []) (epoch-same shape n E F (phase_of shape g) same over)
            ∙ sym (closing-some shape E n g closes over)
        | inr ahead ↦
            closing-none shape F m g (λ _. ahead)
            ∙ sym (closing-none shape E n g (λ _. omega (arith, ahead, more)))
      ]
      | inr open_still ↦
          closing-none shape F m g (λ closes. absurd (open_still closes))
          ∙ sym (closing-none shape E n g (λ closes. absurd (open_still closes)))
    ]

-- ---- all reads of a client

-- each read is of its turn, over the epoch before its phase's
abbrev pub AreReadsOf : Shape → ℕ → List ReadFrame → Type 0
AreReadsOf shape c reads =
    (i : ℕ) (d : ReadFrame) → i < length reads → IsReadDue shape c i (slice_index_or reads i d)

told-same_at : (shape : Shape) (n m : ℕ) (E F : List Placed) (c g : ℕ) (r : ReadFrame) → SameUpTo n E F → n ≤ m →
    IsReadDue shape c g r → g < turns_read shape n →
    ((g + 1) % shape.ticks ≡ 0 → (phase_of shape g ≤ n) ⊎ (m < phase_of shape g)) →
    told_of shape F m r ≡ told_of shape E n r
told-same_at shape n m E F c g r same more is low when =
    let some = shape.in_range.ticks_low in
    let phase : g / shape.ticks < n + 1 = phase-before shape.ticks (n + 1) g some low in
    let over = is.over in
    ap₂ (λ (a : List ℕ) (b : List (List ℕ)). a ∷ b)
    (reply-same shape n E F r same (omega (arith, over, phase)))
    (ap (closing_told shape F m) is.at ∙ closing-same shape n m E F g same more when
    ∙ sym (ap (closing_told shape E n) is.at))

-- the first k reads are told the same
told-same : (shape : Shape) (n m : ℕ) (E F : List Placed) (c : ℕ) (reads : List ReadFrame) (k : ℕ) →
    SameUpTo n E F → n ≤ m → AreReadsOf shape c reads → k ≤ turns_read shape n →
    ((g : ℕ) → g < k → (g + 1) % shape.ticks ≡ 0 → (phase_of shape g ≤ n) ⊎ (m < phase_of shape g)) →
    flat_map (told_of shape F m) (take k reads) ≡ flat_map (told_of shape E n) (take k reads)
told-same shape n m E F c reads k same more are within when =
    flat_map-each (told_of shape F m) (told_of shape E n) (take k reads) blank_read (λ i low.
    let counted = length-take k reads in
    let front : i < k = omega (arith, low, counted) in
    let there : i < length reads = omega (arith, low, counted) in
    subst (λ r. told_of shape F m r ≡ told_of shape E n r) (sym (get_or-take k reads i blank_read front))
    (told-same_at shape n m E F c i (slice_index_or reads i blank_read) same more (are i blank_read there)
    (omega (arith, front, within)) (when i front)))

-- over entries with the same epochs nothing more is told
pub told_in-same : (shape : Shape) (n : ℕ) (E F : List Placed) (c : ℕ) (reads : List ReadFrame) →
    SameUpTo n E F → AreReadsOf shape c reads → told_in shape F n reads ≡ told_in shape E n reads
unfolding told_in
told_in-same shape n E F c reads same are =
    told-same shape n n E F c reads (turns_read shape n) same (omega arith) are (omega arith)
    (λ g low closes. elim (cases_lt n (phase_of shape g)) [
      | inl ahead ↦ inr ahead
      | inr over ↦ inl over
    ])

-- ---- one more epoch

-- the reads over it are answered, and no later epoch is told
waited-answered : (shape : Shape) (n : ℕ) (F : List Placed) (c : ℕ) (reads : List ReadFrame) →
    AreReadsOf shape c reads →
    flat_map (told_of shape F (n + 1)) (take shape.ticks (drop (turns_read shape n) reads))
    ≡ map (reply_told shape F) (take shape.ticks (drop (turns_read shape n) reads))
waited-answered shape n F c reads are =
    let k = turns_read shape n in
    let waited = take shape.ticks (drop k reads) in
    flat_map-each (told_of shape F (n + 1)) (λ r. reply_told shape F r ∷ []) waited blank_read (λ i low.
    let some = shape.in_range.ticks_low in
    let counted = length-take shape.ticks (drop k reads) in
    let behind = length-drop k reads in
    let there : k + i < length reads = omega (arith, low, counted, behind) in
    let front : i < shape.ticks = omega (arith, low, counted) in
    let r = slice_index_or reads (k + i) blank_read in
    let at : get_or waited i blank_read ≡ r =
    get_or-take shape.ticks (drop k reads) i blank_read front ∙ get_or-drop k reads i blank_read
    in
    let is = are (k + i) blank_read there in
    let past : n + 1 ≤ (k + i) / shape.ticks = phase-past shape.ticks (n + 1) (k + i) some (omega arith) in
    subst (λ x. told_of shape F (n + 1) x ≡ reply_told shape F x ∷ []) (sym at)
    (ap (λ xs. reply_told shape F r ∷ xs)
    (ap (closing_told shape F (n + 1)) is.at
    ∙ closing-none shape F (n + 1) (k + i) (λ _. omega (arith, past)))))
    ∙ flat_map_single (reply_told shape F) waited

-- the reads before them are told the same, and the last of a phase the epoch besides
read-brought : (shape : Shape) (n : ℕ) (E F : List Placed) (c : ℕ) (reads : List ReadFrame) → SameUpTo n E F →
    AreReadsOf shape c reads →
    flat_map (told_of shape F (n + 1)) (take (turns_read shape n) reads)
    ≡ flat_map (told_of shape E n) (take (turns_read shape n) reads)
    ++ cond (nat_le (turns_read shape n) (length reads)) (epoch_bytes shape F (n + 1) ∷ []) []
read-brought shape n E F c reads same are =
    let k = turns_read shape n in
    let some = shape.in_range.ticks_low in
    let before_last = λ (g : ℕ) (low : g + 1 < k) (closes : (g + 1) % shape.ticks ≡ 0).
    phase-closed shape.ticks n g some closes low
    in
    elim (leb_tells k (length reads)) [
      | inl there ↦
          let low : 0 < k = omega (arith, one_more n shape.ticks, some) in
          let j = k - 1 in
          let next : j + 1 ≡ k = omega (arith, low) in
          let within : j < length reads = omega (arith, next, there.1) in
          let r = slice_index_or reads j blank_read in
          let is = are j blank_read within in
          let split : take k reads ≡ take j reads ++ r ∷ [] =
          ap (λ i. take i reads) (sym next) ∙ take_more reads j blank_read within
          in
          let closes : (j + 1) % shape.ticks ≡ 0 = last-closes shape.ticks n j some next in
          let phase : phase_of shape j ≡ n + 1 = ap (λ q. q + 1) (last-phase shape.ticks n j some next) in
          let over = is.over in
          let reply : reply_told shape F r ≡ reply_told shape E r =
          reply-same shape n E F r same (omega (arith, over, phase))
          in
          let told : told_of shape F (n + 1) r ≡ reply_told shape E r ∷ epoch_bytes shape F (n + 1) ∷ [] =
          ap₂ (λ (a : List ℕ) (b : List (List ℕ)). a ∷ b) reply
          (ap (closing_told shape F (n + 1)) is.at
          ∙ closing-some shape F (n + 1) j closes (omega (arith, phase))
          ∙ ap (λ e. epoch_bytes shape F e ∷ []) phase)
          in
          let was : told_of shape E n r ≡ reply_told shape E r ∷ [] =
          ap (λ xs. reply_told shape E r ∷ xs)
          (ap (closing_told shape E n) is.at
          ∙ closing-none shape E n j (λ _. omega (arith, phase)))
          in
          let front : flat_map (told_of shape F (n + 1)) (take j reads) ≡ flat_map (told_of shape E n) (take j reads) =
          told-same shape n (n + 1) E F c reads j same (omega arith) are (omega (arith, next))
          (λ g low closes. inl (before_last g (omega (arith, low, next)) closes))
          in
          let f = told_of shape F (n + 1) in
          let h = told_of shape E n in
          let X = flat_map h (take j reads) in
          ap (flat_map f) split ∙ flat_map-append f (take j reads) (r ∷ [])
          ∙ ap₂ (λ (a b : List (List ℕ)). a ++ b) front (append-nil (f r) ∙ told)
          ∙ sym (append_assoc X (reply_told shape E r ∷ []) (epoch_bytes shape F (n + 1) ∷ []))
          ∙ ap (λ xs. (X ++ xs) ++ (epoch_bytes shape F (n + 1) ∷ [])) (sym (append-nil (h r) ∙ was))
          ∙ ap (λ xs. xs ++ (epoch_bytes shape F (n + 1) ∷ []))
          (sym (ap (flat_map h) split ∙ flat_map-append h (take j reads) (r ∷ [])))
          ∙ ap (λ b. flat_map h (take k reads) ++ cond b (epoch_bytes shape F (n + 1) ∷ []) []) (sym there.0)
      | inr short ↦
          let all : take k reads ≡ take (length reads) reads =
          take_all k reads (omega (arith, short.1)) ∙ sym (take_all (length reads) reads (omega arith))
          in
          ap (flat_map (told_of shape F (n + 1))) all
          ∙ told-same shape n (n + 1) E F c reads (length reads) same (omega arith) are (omega (arith, short.1))
          (λ g low closes. inl (before_last g (omega (arith, low, short.1)) closes))
          ∙ ap (flat_map (told_of shape E n)) (sym all)
          ∙ sym (append-nil (flat_map (told_of shape E n) (take k reads)))
          ∙ ap (λ b. flat_map (told_of shape E n) (take k reads) ++ cond b (epoch_bytes shape F (n + 1) ∷ []) [])
          (sym short.0)
    ]

pub told_in-brought : (shape : Shape) (n : ℕ) (E F : List Placed) (c : ℕ) (reads : List ReadFrame) →
    SameUpTo n E F → AreReadsOf shape c reads →
    told_in shape F (n + 1) reads ≡ told_in shape E n reads ++ brought shape F (n + 1) reads
unfolding told_in
told_in-brought shape n E F c reads same are =
    let k = turns_read shape n in
    let f = told_of shape F (n + 1) in
    let waited = take shape.ticks (drop k reads) in
    ap (λ i. flat_map f (take i reads)) (one_more (n + 1) shape.ticks)
    ∙ ap (flat_map f) (take-add k shape.ticks reads)
    ∙ flat_map-append f (take k reads) waited
    ∙ ap₂ (λ (a b : List (List ℕ)). a ++ b) (read-brought shape n E F c reads same are)
    (waited-answered shape n F c reads are)
    ∙ append_assoc (flat_map (told_of shape E n) (take k reads))
    (cond (nat_le k (length reads)) (epoch_bytes shape F (n + 1) ∷ []) [])
    (map (reply_told shape F) waited)

-- ---- one more read

-- one whose epoch is there
pub told_in-more : (shape : Shape) (E : List Placed) (n : ℕ) (reads : List ReadFrame) (r : ReadFrame) →
    length reads < turns_read shape n →
    told_in shape E n (reads ++ r ∷ []) ≡ told_in shape E n reads ++ told_of shape E n r
unfolding told_in
told_in-more shape E n reads r low =
    let k = turns_read shape n in
    let f = told_of shape E n in
    let all : take k (reads ++ r ∷ []) ≡ reads ++ r ∷ [] =
    take_all k (reads ++ r ∷ []) (omega (arith, length-append reads (r ∷ []), low))
    in
    ap (flat_map f) all ∙ flat_map-append f reads (r ∷ [])
    ∙ ap₂ (λ (a b : List (List ℕ)). a ++ b)
    (ap (flat_map f) (sym (take_all k reads (omega (arith, low))))) (append-nil (f r))

-- one that waits
pub told_in-waits : (shape : Shape) (E : List Placed) (n : ℕ) (reads : List ReadFrame) (r : ReadFrame) →
    turns_read shape n ≤ length reads → told_in shape E n (reads ++ r ∷ []) ≡ told_in shape E n reads
unfolding told_in
told_in-waits shape E n reads r past =
    ap (flat_map (told_of shape E n)) (take-append-le (turns_read shape n) reads (r ∷ []) past)
