-- The marks that servers tell of an epoch show what the writes before its mark do.
use Rattle.std.proofs.Common.{[], ◌≡◌, refl, sym, ap, ◌∙◌, subst, arith, ℕ, zero, suc, ◌+◌, ◌-◌, ◌*◌, ◌%◌, ◌≤◌}
use Rattle.std.proofs.Common.{◌<◌, Bool, false, List, ◌∷◌, map, cond, length, drop, mod-lt, Option}
use Rattle.std.proofs.Common.{Some, None, inl, inr}
use Rattle.std.specs.Prelude.{replicate, slice_index_or, All, ◌==◌, option_map}
use Rattle.std.specs.List.{range_with_len, AllByRecursion, list_any}
use Rattle.std.proofs.lemmas.List.FromFn.{length-map-range_with_len, get_or-map-range_with_len}
use Rattle.std.proofs.lemmas.List.Elements.{All-from_recursion}
use Rattle.std.proofs.lemmas.Bool.{cases_lt}
use Rattle.tk_shape.specs.declared.shape.Shape.{Shape}
use Rattle.tk_shape.specs.Lengths.{turn_count}
use Rattle.tk_script.specs.declared.script.Script.{Script}
use Rattle.tk_script.specs.Sent.{sent}
use Rattle.tk_words.specs.Words.{WordBook, words_of, keyed, drawn, hits_of, fresh_write}
use Rattle.tk_frames.specs.Order.{Record, before}
use Rattle.tk_bloom.specs.Filters.{positions_of, marks_of, all_marked}
use Rattle.tk_bloom.proofs.Showing.{all_marked-marks_of}
use Rattle.tk_table.specs.Shown.{pushes_of, is_shown}
use Rattle.tk_replica.specs.Epochs.{filter_of as filter_told}
use Rattle.tk_packets.specs.Frames.{marks_len}
use Rattle.tk_packets.specs.Marks.{mark_at, bits_from, mark_byte, mark_bytes}
use Rattle.tk_packets.proofs.Offers.{read_again}
use Rattle.tk_client.specs.declared.waiting.Waiting.{Waiting}
use Rattle.tk_client.specs.Writes.{write_of}
use Rattle.tk_report.specs.Entries.{write_at}
use Rattle.tk_report.specs.Queues.{waiting_of}
use Rattle.tk_report.proofs.Offers.{turns-own, before-front, each-front, each-append}
use Rattle.tk_member.specs.Epochs.{filter_of, marks_at, no_marks, least_of, told_by}
use Rattle.std.proofs.Math.Seq.{drop-nil}
use Rattle.tk_meeting.proofs.Canonical.{serial, whole, marks_in, telling_of}
use Rattle.tk_meeting.proofs.Pace.{Pace, known_by}
use Rattle.tk_meeting.proofs.members.Members.{tellings_at, all-same-range}

-- ---- the positions of a write are those of the filter

abbrev AreLow : ℕ → List ℕ → Type 0
AreLow bits hits = AllByRecursion (λ h. h < bits) hits

rests-low : (bits : ℕ) (f : ℕ → ℕ) (is : List ℕ) → 0 < bits → AreLow bits (map (λ i. f i % bits) is)
rests-low bits f [] low = tt
rests-low bits f (i ∷ is) low = (mod-lt (f i) {m = bits} low, rests-low bits f is low)

some-bits : (shape : Shape) → 0 < shape.filter_bits
some-bits shape = omega (arith, shape.in_range.filter_low)

hits-low : (shape : Shape) (b : WordBook) (log s : ℕ) → AreLow shape.filter_bits (hits_of shape b log s)
unfolding hits_of
hits-low shape (keyed handles seeds) log s = rests-low shape.filter_bits _ _ (some-bits shape)
hits-low shape (drawn tape) log s = rests-low shape.filter_bits _ _ (some-bits shape)

fresh-low : (shape : Shape) (b : WordBook) (g c : ℕ) →
    AreLow shape.filter_bits (fresh_write shape b g c).hits
unfolding fresh_write
fresh-low shape (keyed handles seeds) g c = rests-low shape.filter_bits _ _ (some-bits shape)
fresh-low shape (drawn tape) g c = rests-low shape.filter_bits _ _ (some-bits shape)

write-low : (shape : Shape) (b : WordBook) (g c : ℕ) (o : Option Waiting) →
    AreLow shape.filter_bits (write_of (words_of shape b) g c o).hits
write-low shape b g c None = fresh-low shape b g c
write-low shape b g c (Some y) = hits-low shape b y.log y.number

written-low : (S : Script) (b : WordBook) (g c : ℕ) →
    AreLow S.shape.filter_bits (write_at S (words_of S.shape b) g c).hits
unfolding write_at
written-low S b g c = write-low S.shape b g c (option_map waiting_of (sent S g c))

-- and so of all writes before a mark
abbrev HasLow : Shape → Record → Type 0
HasLow shape r = AreLow shape.filter_bits r.write.hits

drop-each : {X : Type 0} (P : X → Type 0) (n : ℕ) (xs : List X) → AllByRecursion P xs →
    AllByRecursion P (drop n xs)
drop-each P zero xs all = all
drop-each P (suc n) [] all = tt
drop-each P (suc n) (x ∷ xs) all = drop-each P n xs all.1

before-low : (S : Script) (b : WordBook) (e : ℕ) →
    AllByRecursion (HasLow S.shape) (before (whole S b) e)
before-low S b e =
    let front = before-front (whole S b) e in
    let each =
    turns-own (HasLow S.shape) (write_at S (words_of S.shape b)) (serial S) (turn_count S.shape)
    (λ g q c low. written-low S b g c)
    in
    each-front (HasLow S.shape) (before (whole S b) e) front.0
    (subst (AllByRecursion (HasLow S.shape)) front.1 each)

pushes-low : (shape : Shape) (R : List Record) → AllByRecursion (HasLow shape) R →
    AreLow shape.filter_bits (positions_of (map (λ (r : Record). r.write.hits) R))
pushes-low shape [] all = tt
pushes-low shape (r ∷ R) all =
    each-append (λ h. h < shape.filter_bits) r.write.hits
    (positions_of (map (λ (x : Record). x.write.hits) R)) all.0
    (pushes-low shape R all.1)

positions-low : (S : Script) (b : WordBook) (e : ℕ) →
    All (λ h. h < S.shape.filter_bits) (positions_of (pushes_of S.shape (before (whole S b) e)))
positions-low S b e =
    let R = before (whole S b) e in
    let n = length R - S.shape.retained in
    All-from_recursion (λ h. h < S.shape.filter_bits) (positions_of (pushes_of S.shape R))
    (pushes-low S.shape (drop n R) (drop-each (HasLow S.shape) n R (before-low S b e)))

-- ---- what the marks show

-- the marks of an epoch, as a member reads them
pub marks-read : (S : Script) (b : WordBook) (e : ℕ) →
    filter_of S.shape (marks_in S b e) ≡ filter_told S.shape (before (whole S b) e)
marks-read S b e =
    let positions = positions_of (pushes_of S.shape (before (whole S b) e)) in
    read_again S.shape (filter_told S.shape (before (whole S b) e))
    (length-map-range_with_len (λ h. list_any (λ k. h == k) positions) 0 S.shape.filter_bits)

pub marks-show : (S : Script) (b : WordBook) (e : ℕ) (hits : List ℕ) →
    all_marked (filter_of S.shape (marks_in S b e)) hits
    ≡ is_shown S.shape (before (whole S b) e) hits
marks-show S b e hits =
    ap (λ marks. all_marked marks hits) (marks-read S b e)
    ∙ all_marked-marks_of S.shape.filter_bits
    (positions_of (pushes_of S.shape (before (whole S b) e))) (positions-low S b e) hits

-- ---- before any epoch

-- no mark is set in these
record IsBlank (marks : List Bool) : Type 0 where
  pub unset : (p : ℕ) → slice_index_or marks p false ≡ false

none-at : (n p : ℕ) → slice_index_or (replicate n false) p false ≡ false
none-at zero zero = refl
none-at zero (suc p) = refl
none-at (suc n) zero = refl
none-at (suc n) (suc p) = none-at n p

unset-bits : (count : ℕ) (marks : List Bool) (p : ℕ) → IsBlank marks → bits_from count marks p ≡ 0
unfolding bits_from
unset-bits zero marks p blank = refl
unset-bits (suc count) marks p blank =
    let here : mark_at marks p ≡ 0 = ap (λ b. cond b 1 0) (blank.unset p) in
    let rest = unset-bits count marks (p + 1) blank in
    omega (arith, here, rest)

unset-bytes : (count : ℕ) (marks : List Bool) → IsBlank marks →
    mark_bytes count marks ≡ replicate count 0
unfolding mark_bytes
unset-bytes count marks blank =
    all-same-range (mark_byte marks) 0 (λ i. unset-bits 8 marks (8 * i) blank) 0 count

none-before : (S : Script) (b : WordBook) → before (whole S b) 0 ≡ []
unfolding before
none-before S b = refl

blank-first : (shape : Shape) → IsBlank (filter_told shape [])
blank-first shape =
    let bits = shape.filter_bits in
    let none : pushes_of shape [] ≡ [] =
    ap (map (λ (r : Record). r.write.hits)) (drop-nil (0 - shape.retained))
    in
    let marks : filter_told shape [] ≡ replicate bits false =
    ap (λ pushes. marks_of bits (positions_of pushes)) none
    ∙ all-same-range (λ (h : ℕ). false) false (λ h. refl) 0 bits
    in
    record {
      unset = λ p. ap (λ (ms : List Bool). slice_index_or ms p false) marks ∙ none-at bits p;
    }

-- the marks of epoch 0 are none
pub marks-first : (S : Script) (b : WordBook) → no_marks S.shape ≡ marks_in S b 0
marks-first S b =
    sym (ap (λ R. mark_bytes (marks_len S.shape) (filter_told S.shape R)) (none-before S b)
    ∙ unset-bytes (marks_len S.shape) (filter_told S.shape []) (blank-first S.shape))

-- ---- the marks of an epoch that is known

pub least-below : (top : ℕ) (f : ℕ → ℕ) (a n j : ℕ) → a ≤ j → j < a + n →
    least_of top (map f (range_with_len a n)) ≤ f j
least-below top f a zero j low high = absurd (omega (arith, low, high))
least-below top f a (suc n) j low high =
    elim (cases_lt a j) [
      | inl above ↦
          let rest = least-below top f (a + 1) n j (omega (arith, above)) (omega (arith, high)) in
          omega (arith, rest)
      | inr at ↦ let same : f a ≡ f j = ap f (omega (arith, low, at)) in omega (arith, same)
    ]

pub telling-at : (S : Script) (b : WordBook) (p : Pace) (j : ℕ) → 1 ≤ j → j ≤ S.shape.servers →
    told_by (tellings_at S b p) j ≡ telling_of S b (p.epochs j)
telling-at S b p j low high =
    get_or-map-range_with_len (λ k. telling_of S b (p.epochs k)) 1 S.shape.servers (j - 1) j []
    (omega (arith, low, high)) (omega (arith, low))

pub known-marks : (S : Script) (b : WordBook) (p : Pace) (e : ℕ) → e ≤ known_by S.shape p →
    marks_at S.shape (tellings_at S b p) e ≡ marks_in S b e
known-marks S b p zero known = marks-first S b
known-marks S b p (suc e) known =
    let servers = S.shape.in_range.servers_low in
    let below = least-below S.shape.phases p.epochs 1 S.shape.servers 1 (omega arith) (omega (arith, servers)) in
    ap (λ (t : List (List ℕ)). slice_index_or t e []) (telling-at S b p 1 (omega arith) (omega (arith, servers)))
    ∙ get_or-map-range_with_len (marks_in S b) 1 (p.epochs 1) e (suc e) [] (omega (arith, known, below))
    (omega arith)
