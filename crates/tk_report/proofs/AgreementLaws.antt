-- The reads and the views of histories that are alike.
use Rattle.std.proofs.Common.{◌≡◌, refl, ap, ap₂, ◌∙◌, arith, inl, inr, ℕ, zero, suc, ◌+◌, ◌<◌, ◌≤◌}
use Rattle.std.proofs.Common.{List, [], ◌∷◌, ◌++◌, length, map, Option}
use Rattle.std.specs.Prelude.{slice_index, slice_index_or, flat_map}
use Rattle.std.specs.List.{range_with_len}
use Rattle.std.proofs.lemmas.Bool.{cases_lt}
use Rattle.std.proofs.lemmas.List.{get_or_past}
use Rattle.tk_shape.specs.Lengths.{turn_count}
use Rattle.tk_schedule.specs.declared.history.History.{History}
use Rattle.tk_schedule.specs.Schedule.{IsLegal, phases_over, epoch_at, blank_turn}
use Rattle.tk_schedule.proofs.Offers.{none_made}
use Rattle.tk_script.specs.declared.script.Script.{Script}
use Rattle.tk_words.specs.Words.{WordBook, BookWords, words_of}
use Rattle.tk_frames.specs.declared.read_frame.ReadFrame.{ReadFrame}
use Rattle.tk_frames.specs.Spelling.{placed_frame, read_frame}
use Rattle.tk_frames.specs.Order.{Record, before}
use Rattle.tk_client.specs.declared.target.Target.{Target}
use Rattle.tk_client.specs.Reader.{Reader, target, at_epoch, after_read}
use Rattle.tk_client.specs.Asked.{pair_for, frame_for}
use Rattle.tk_table.specs.Shown.{is_shown}
use Rattle.tk_report.specs.Entries.{write_at, entries}
use Rattle.tk_report.specs.Report.{read_over, answered, reader_before, target_at}
use Rattle.tk_report.specs.Exchange.{read_pair, read_at, with_reply, read_seen, read_answered}
use Rattle.tk_report.specs.Exchange.{turn_frames, frames_before}
use Rattle.tk_report.specs.Agreement.{SameOrders, SameEpochs, MarkedSoFar}
use Rattle.tk_report.specs.Agreement.{AlikeReadsAgree, AlikeFramesAgree, ReadersAgree}
use Rattle.tk_report.specs.Agreement.{AlikeAfterTurn, AlikeWhereOpen, AlikeWhereOld}
use Rattle.tk_report.specs.Agreement.{AlikeViewsAgree, EpochsMade, FrontsAgree}
use Rattle.tk_schedule.specs.declared.history.TurnOrder.{TurnOrder}
use Rattle.tk_report.proofs.MarkedLaws.{turn_entries-agree, before-over, before-agree}

pub marked-so_far : MarkedSoFar
marked-so_far S w H n e legal within made =
    before-over S.shape (write_at S w) H n (turn_count S.shape) e legal within (omega arith) made

-- ---- epochs

-- no client reads ahead of its turn
pub epoch-made : EpochsMade
epoch-made shape H g c legal within =
    let turn = legal.each_turn g within in
    elim (cases_lt c shape.clients) [
      | inl client ↦ turn.none_ahead c client
      | inr past ↦
          let none : epoch_at H g c ≡ 0 =
          get_or_past (slice_index_or H g blank_turn).epochs c 0 (omega (arith, turn.readers, past))
          in
          omega (arith, none)
    ]

same-fewer : (H K : History) (g n : ℕ) → g ≤ n → SameOrders H K n → SameOrders H K g
same-fewer H K g n less same k low = same k (omega (arith, less, low))

epochs-fewer : (H K : History) (c g n : ℕ) → g ≤ n → SameEpochs H K c n → SameEpochs H K c g
epochs-fewer H K c g n less same k low = same k (omega (arith, less, low))

pub alike-after_turn : AlikeAfterTurn
alike-after_turn shape H K c g legal within orders epochs =
    record {
      behind = omega arith;
      within = omega (arith, within);
      orders = orders;
      epochs = epochs;
      made = epoch-made shape H g c legal within;
    }

pub alike-where_old : AlikeWhereOld
alike-where_old shape H K c g within old orders epochs =
    record {
      behind = omega arith;
      within = omega (arith, within);
      orders = orders;
      epochs = epochs;
      made = old;
    }

pub alike-where_open : AlikeWhereOpen
alike-where_open shape H K c g legal within stays orders epochs =
    let made = epoch-made shape H g c legal within in
    let none = none_made shape g stays in
    alike-where_old shape H K c g within (omega (arith, made, none)) orders epochs

-- ---- a read

pub over-agree : (S : Script) (w : BookWords) (H K : History) (c g n : ℕ) → IsLegal S.shape H →
    n ≤ turn_count S.shape → SameOrders H K n → epoch_at H g c ≡ epoch_at K g c →
    epoch_at H g c ≤ phases_over S.shape n → read_over S w H g c ≡ read_over S w K g c
over-agree S w H K c g n legal within orders epoch made =
    before-agree S.shape (write_at S w) H K n (turn_count S.shape) (epoch_at H g c) legal within
    (omega arith) made orders
    ∙ ap (before (entries S w K)) epoch

-- the target of a reader that reads epoch e, which is over these writes
abbrev target_over : Script → BookWords → ℕ → List Record → Reader → Option Target
target_over S w e R r =
    target S.shape (λ log s. is_shown S.shape R (w.hits log s)) (at_epoch e r)

-- and the reader after that read
abbrev step_over : Script → BookWords → ℕ → List Record → Reader → Reader
step_over S w e R r =
    let t = target_over S w e R r in
    after_read S.shape (at_epoch e r) t (answered S.shape w R t)

pub readers-agree : ReadersAgree
unfolding reader_before
readers-agree S w H K c zero legal within orders epochs = refl
readers-agree S w H K c (suc g) legal within orders epochs =
    let epoch = epochs g (omega arith) in
    let next : g + 1 ≤ suc g = omega arith in
    let low : g < turn_count S.shape = omega (arith, within) in
    let over = over-agree S w H K c g (g + 1) legal (omega (arith, within))
    (same-fewer H K (g + 1) (suc g) next orders) epoch (epoch-made S.shape H g c legal low)
    in
    let reader = readers-agree S w H K c g legal (omega (arith, within))
    (same-fewer H K g (suc g) (omega arith) orders)
    (epochs-fewer H K c g (suc g) (omega arith) epochs)
    in
    λ i. step_over S w (epoch i) (over i) (reader i)

pub reads-agree : AlikeReadsAgree
unfolding read_pair
reads-agree S w H K c g n legal alike =
    let behind = alike.behind in
    let inside = alike.within in
    let epoch : epoch_at H g c ≡ epoch_at K g c = alike.epochs g (omega arith) in
    let over : read_over S w H g c ≡ read_over S w K g c =
    over-agree S w H K c g n legal alike.within alike.orders epoch alike.made
    in
    let reader : reader_before S w H c g ≡ reader_before S w K c g =
    readers-agree S w H K c g legal (omega (arith, behind, inside))
    (same-fewer H K g n alike.behind alike.orders)
    (epochs-fewer H K c g (g + 1) (omega arith) alike.epochs)
    in
    let aim : target_at S w H g c ≡ target_at S w K g c =
    λ i. target_over S w (epoch i) (over i) (reader i)
    in
    record {
      over = over;
      reader = reader;
      target = aim;
      pair = ap (pair_for w g c) aim;
      answer = ap₂ (λ (R : List Record) (t : Option Target). answered S.shape w R t) over aim;
    }

-- ---- the frames of a read

pub frames-agree : AlikeFramesAgree
unfolding read_at
frames-agree S b H K c g n j legal alike =
    let w = words_of S.shape b in
    let epoch : epoch_at H g c ≡ epoch_at K g c = alike.epochs g (omega arith) in
    let reads = reads-agree S w H K c g n legal alike in
    let read : read_at S b H g c j ≡ read_at S b K g c j =
    ap₂ (λ (e : ℕ) (pair : ℕ × ℕ). frame_for S.shape b g c e pair j) epoch reads.pair
    in
    record {
      read = read;
      seen = ap (λ (r : ReadFrame). read_frame r ∷ []) read;
      answered = ap₂ (λ (R : List Record) (r : ReadFrame). with_reply S.shape R r) reads.over read;
    }

-- ---- the turns before a turn

pub flat_map-agree : {A : Type 0} (f h : ℕ → List A) (a n : ℕ) →
    ((k : ℕ) → a ≤ k → k < a + n → f k ≡ h k) →
    flat_map f (range_with_len a n) ≡ flat_map h (range_with_len a n)
flat_map-agree f h a zero same = refl
flat_map-agree {A} f h a (suc n) same =
    ap₂ (λ (x y : List A). x ++ y) (same a (omega arith) (omega arith))
    (flat_map-agree f h (a + 1) n (λ k low high. same k (omega (arith, low)) (omega (arith, high))))

-- what is seen of them, where reads show the same
pub turns-agree : (S : Script) (b : WordBook) (H K : History) (g : ℕ)
    (reads others : ℕ → ℕ → List (List ℕ)) → SameOrders H K g →
    ((k c : ℕ) → k < g → c < S.shape.clients → reads k c ≡ others k c) →
    frames_before S.shape H (write_at S (words_of S.shape b)) reads g
    ≡ frames_before S.shape K (write_at S (words_of S.shape b)) others g
unfolding frames_before
turns-agree S b H K g reads others orders same =
    let write = write_at S (words_of S.shape b) in
    flat_map-agree (turn_frames S.shape H write reads) (turn_frames S.shape K write others) 0 g
    (λ k low high.
    ap₂ (λ (x y : List (List ℕ)). x ++ y)
    (ap (map placed_frame)
    (turn_entries-agree write H K k (same-fewer H K (k + 1) g (omega (arith, high)) orders)))
    (flat_map-agree (reads k) (others k) 0 S.shape.clients
    (λ c _ client. same k c (omega (arith, high)) (omega (arith, client)))))

pub views-agree : AlikeViewsAgree
views-agree S b H K j g legal within orders epochs =
    let frames = λ (k c : ℕ) (low : k < g) (client : c < S.shape.clients).
    frames-agree S b H K c k (k + 1) j legal
    (alike-after_turn S.shape H K c k legal (omega (arith, low, within))
    (same-fewer H K (k + 1) g (omega (arith, low)) orders)
    (epochs-fewer H K c (k + 1) g (omega (arith, low)) (epochs c client)))
    in
    record {
      seen = turns-agree S b H K g (read_seen S b H j) (read_seen S b K j) orders
          (λ k c low client. (frames k c low client).seen);
      answered = turns-agree S b H K g (read_answered S b H j) (read_answered S b K j) orders
          (λ k c low client. (frames k c low client).answered);
    }

-- ---- fronts

turn-front : (front more others : History) (k : ℕ) → k < length front →
    slice_index_or (front ++ more) k blank_turn ≡ slice_index_or (front ++ others) k blank_turn
turn-front [] more others k low = absurd (omega (arith, low))
turn-front (x ∷ front) more others zero low = refl
turn-front (x ∷ front) more others (suc k) low =
    turn-front front more others k (omega (arith, low))

pub fronts-agree : FrontsAgree
fronts-agree front more others n within = (
  λ k low.
      ap (λ (t : TurnOrder). t.order) (turn-front front more others k (omega (arith, low, within))),
  λ c k low.
      ap (λ (t : TurnOrder). slice_index t.epochs c)
      (turn-front front more others k (omega (arith, low, within))),
)
