-- What becomes of a member when a server tells one epoch more.
use Rattle.std.proofs.Common.{[], ◌≡◌, ◌≢◌, refl, sym, ap, ap₂, ◌∙◌, arith, ℕ, zero, suc, ◌+◌, ◌-◌, ◌≤◌, ◌<◌}
use Rattle.std.proofs.Common.{List, ◌∷◌, ◌++◌, length, map, true, cond, Some, inl, inr}
use Rattle.std.specs.Prelude.{nat_lt, ◌==◌, ◌&&◌, slice_set, slice_index, Result, Ok, Err}
use Rattle.std.specs.Option.{option_or}
use Rattle.std.specs.List.{range_with_len}
use Rattle.std.proofs.lemmas.Bool.{cases_lt, lt-ltb, eq-eqb, and_from}
use Rattle.std.proofs.lemmas.Nat.{from_be_bytes-to_be_bytes_4}
use Rattle.std.proofs.lemmas.List.FromFn.{length-map-range_with_len, get_or-map-range_with_len, map-range_with_len_more}
use Rattle.std.proofs.lemmas.Option.{slice_get-get_or, slice_get_past}
use Rattle.std.proofs.lemmas.Slice.Eq.{bytes_eq-Decides}
use Rattle.tk_script.specs.declared.script.Script.{Script}
use Rattle.tk_words.specs.Words.{WordBook}
use Rattle.tk_frames.specs.Fields.{number_at}
use Rattle.tk_frames.specs.Lists.{first_some}
use Rattle.tk_frames.specs.Order.{before}
use Rattle.tk_packets.specs.Frames.{marks_len}
use Rattle.tk_packets.specs.Marks.{mark_byte, mark_bytes}
use Rattle.tk_replica.specs.Epochs.{filter_of as filter_told}
use Rattle.tk_serve.specs.Told.{epoch_bytes}
use Rattle.tk_member.specs.declared.fault.Fault.{Fault}
use Rattle.tk_member.specs.declared.fault.Fault.TheVariants.{Peer, Differ}
use Rattle.tk_member.specs.Epochs.{ToldMarks, agrees, told_behind, is_epoch_frame, with_epoch}
use Rattle.tk_member.specs.Members.{MemberState}
use Rattle.tk_member.specs.Steps.{served, told_epoch}
use Rattle.tk_meeting.specs.Meeting.{changed, Saying}
use Rattle.tk_meeting.proofs.Canonical.{whole, epoch_in, marks_in, telling_of}
use Rattle.tk_meeting.proofs.Pace.{Pace, epoch_came}
use Rattle.tk_meeting.proofs.Standing.{IsAt, Readies}
use Rattle.tk_meeting.proofs.members.Members.{member_at, at-is, is-at, tellings_at}
use Rattle.tk_meeting.proofs.members.Marks.{telling-at}
use Rattle.tk_meeting.proofs.members.Asking.{length-telling}
use Rattle.tk_meeting.proofs.servers.Bumps.{changed-same, changed-other}

-- ---- lists by number, where one is changed

above-same : {X : Type 0} (f g : ℕ → X) (j a n : ℕ) → j < a → ((k : ℕ) → k ≢ j → g k ≡ f k) →
    map f (range_with_len a n) ≡ map g (range_with_len a n)
above-same f g j a zero low other = refl
above-same f g j a (suc n) low other =
    ap₂ (λ x xs. x ∷ xs) (sym (other a (λ e. omega (arith, low, e))))
    (above-same f g j (a + 1) n (omega (arith, low)) other)

pub set-one : {X : Type 0} (f g : ℕ → X) (j : ℕ) (v : X) (a n : ℕ) → a ≤ j → j < a + n → g j ≡ v →
    ((k : ℕ) → k ≢ j → g k ≡ f k) →
    slice_set (map f (range_with_len a n)) (j - a) v ≡ map g (range_with_len a n)
set-one f g j v a zero low high here other = absurd (omega (arith, low, high))
set-one f g j v a (suc n) low high here other =
    let xs = map f (range_with_len (a + 1) n) in
    elim (cases_lt a j) [
      | inl above ↦
          let next : j - a ≡ suc (j - (a + 1)) = omega (arith, above) in
          ap (λ i. slice_set (f a ∷ xs) i v) next
          ∙ ap₂ (λ y ys. y ∷ ys) (sym (other a (λ e. omega (arith, above, e))))
          (set-one f g j v (a + 1) n (omega (arith, above)) (omega (arith, high)) here other)
      | inr at ↦
          let first : j - a ≡ 0 = omega (arith, low, at) in
          let same : j ≡ a = omega (arith, low, at) in
          ap (λ i. slice_set (f a ∷ xs) i v) first
          ∙ ap₂ (λ y ys. y ∷ ys) (sym here ∙ ap g same)
          (above-same f g j (a + 1) n (omega (arith, same)) other)
    ]

-- ---- what is told of an epoch

module _ (S : Script) (b : WordBook) (p : Pace) where
  -- no server that told the epoch behind n tells it otherwise
  all-agree : (n : ℕ) (js : List ℕ) →
      agrees (first_some (told_behind n) (map (λ j. telling_of S b (p.epochs j)) js)) (marks_in S b (n + 1))
      ≡ true
  all-agree n [] = refl
  all-agree n (j ∷ js) =
      let marks = marks_in S b (n + 1) in
      let telling = telling_of S b (p.epochs j) in
      let long : length telling ≡ p.epochs j = length-telling S b (p.epochs j) in
      let rest = first_some (told_behind n) (map (λ i. telling_of S b (p.epochs i)) js) in
      elim (cases_lt n (p.epochs j)) [
        | inl there ↦
            ap (λ o. agrees (option_or o rest) marks)
            (slice_get-get_or telling n marks (omega (arith, there, long))
            ∙ ap Some (get_or-map-range_with_len (marks_in S b) 1 (p.epochs j) n (n + 1) marks there
            (omega arith)))
            ∙ (bytes_eq-Decides marks marks).1 refl
        | inr past ↦
            ap (λ o. agrees (option_or o rest) marks)
            (slice_get_past telling n (omega (arith, past, long)))
            ∙ all-agree n js
      ]

  -- what servers told, with one epoch more of server j
  more-told : (j : ℕ) → 1 ≤ j → j ≤ S.shape.servers → let n = p.epochs j in
      slice_set (tellings_at S b p) (j - 1) (telling_of S b n ++ marks_in S b (n + 1) ∷ [])
      ≡ tellings_at S b (epoch_came j p)
  more-told j low high =
      let n = p.epochs j in
      let next : telling_of S b (n + 1) ≡ telling_of S b n ++ marks_in S b (n + 1) ∷ [] =
      map-range_with_len_more (marks_in S b) 1 n (n + 1) (omega arith)
      in
      set-one (λ k. telling_of S b (p.epochs k)) (λ k. telling_of S b (changed j (n + 1) p.epochs k)) j
      (telling_of S b n ++ marks_in S b (n + 1) ∷ []) 1 S.shape.servers low (omega (arith, high))
      (ap (telling_of S b) (changed-same j (n + 1) p.epochs) ∙ next)
      (λ k ne. ap (telling_of S b) (changed-other j k (n + 1) p.epochs ne))

length-marks : (S : Script) (b : WordBook) (e : ℕ) → length (marks_in S b e) ≡ marks_len S.shape
unfolding mark_bytes
length-marks S b e =
    length-map-range_with_len (mark_byte (filter_told S.shape (before (whole S b) e))) 0
    (marks_len S.shape)

-- it is the frame of its epoch
is-frame : (S : Script) (b : WordBook) (e : ℕ) → e ≤ S.shape.phases →
    is_epoch_frame S.shape e (epoch_in S b e) ≡ true
unfolding epoch_bytes
is-frame S b e low =
    let long = length-marks S b e in
    let frame = epoch_in S b e in
    let whole_len : (length frame == 6 + marks_len S.shape) ≡ true =
    eq-eqb (length frame) (6 + marks_len S.shape) (omega (arith, long))
    in
    let named : (number_at 2 frame == e) ≡ true =
    eq-eqb (number_at 2 frame) e
    (from_be_bytes-to_be_bytes_4 e (omega (arith, low, S.shape.in_range.phases_high)))
    in
    and_from (length frame == 6 + marks_len S.shape && slice_index frame 1 == 1)
    (number_at 2 frame == e)
    (and_from (length frame == 6 + marks_len S.shape) (slice_index frame 1 == 1) whole_len refl) named

-- the member takes it
with-epoch : (S : Script) (b : WordBook) (p : Pace) (j : ℕ) → 1 ≤ j → j ≤ S.shape.servers →
    p.epochs j < S.shape.phases →
    with_epoch S.shape (tellings_at S b p) j (epoch_in S b (p.epochs j + 1))
    ≡ Ok (tellings_at S b (epoch_came j p))
unfolding epoch_bytes
with-epoch S b p j low high more =
    let told = tellings_at S b p in
    let n = p.epochs j in
    let frame = epoch_in S b (n + 1) in
    let marks = marks_in S b (n + 1) in
    let taken : ToldMarks → Result (List ToldMarks) Fault =
    λ before. Ok (slice_set told (j - 1) (before ++ marks ∷ []))
    in
    let body : ToldMarks → ℕ → Result (List ToldMarks) Fault =
    λ before k. cond (nat_lt k S.shape.phases && is_epoch_frame S.shape (k + 1) frame)
    (cond (agrees (first_some (told_behind k) told) marks) (taken before) (Err Differ)) (Err Peer)
    in
    let fits : (nat_lt n S.shape.phases && is_epoch_frame S.shape (n + 1) frame) ≡ true =
    and_from (nat_lt n S.shape.phases) (is_epoch_frame S.shape (n + 1) frame)
    (lt-ltb n S.shape.phases more) (is-frame S b (n + 1) (omega (arith, more)))
    in
    ap (λ (t : ToldMarks). body t (length t)) (telling-at S b p j low high)
    ∙ ap (body (telling_of S b n)) (length-telling S b n)
    ∙ ap (λ x. cond x (cond (agrees (first_some (told_behind n) told) marks)
    (taken (telling_of S b n)) (Err Differ)) (Err Peer)) fits
    ∙ ap (λ x. cond x (taken (telling_of S b n)) (Err Differ))
    (all-agree S b p n (range_with_len 1 S.shape.servers))
    ∙ ap Ok (more-told S b p j low high)

served-epoch : (S : Script) (b : WordBook) (m : MemberState) (j e : ℕ) →
    served b m j (epoch_in S b e)
    ≡ told_epoch b m (with_epoch m.client.shape m.told j (epoch_in S b e))
unfolding epoch_bytes
served-epoch S b m j e = refl

pub epoch-readies : {S : Script} {b : WordBook} {c : ℕ} {p : Pace} {saids : List Saying}
    {m : MemberState} → IsAt S b c p saids m → (j : ℕ) → 1 ≤ j → j ≤ S.shape.servers →
    p.epochs j < S.shape.phases →
    Readies S b c (epoch_came j p) saids [] (served b m j (epoch_in S b (p.epochs j + 1)))
epoch-readies {S} {b} {c} {p} {saids} {m} at j low high more =
    let frame = epoch_in S b (p.epochs j + 1) in
    let here = member_at S b c p saids in
    record {
      member = member_at S b c (epoch_came j p) saids;
      told = [];
      is =
          ap (λ (x : MemberState). served b x j frame) (at-is at)
          ∙ served-epoch S b here j (p.epochs j + 1)
          ∙ ap (told_epoch b here) (with-epoch S b p j low high more);
      at = is-at S b c (epoch_came j p) saids;
      to_host = tt;
      host = refl;
    }
