-- A record that is retained is shown, and its text is what is looked up.
use Rattle.std.proofs.Common.{◌≡◌, refl, ap, ap₂, sym, ◌∙◌, subst, arith, inl, inr, eq-eqb}
use Rattle.std.proofs.Common.{ℕ, zero, suc, ◌+◌, ◌-◌, true, false, cond, ◌&&◌, ◌==◌}
use Rattle.std.proofs.Common.{List, [], ◌∷◌, length, drop, Option, Some, None, eqb-true, ◌||◌}
use Rattle.std.specs.List.{AllByRecursion}
use Rattle.std.specs.Option.{option_or, option_map}
use Rattle.std.proofs.lemmas.Bool.{both_ways}
use Rattle.tk_shape.specs.declared.shape.Shape.{Shape}
use Rattle.tk_shape.specs.Lengths.{turn_count}
use Rattle.tk_schedule.specs.declared.history.History.{History}
use Rattle.tk_script.specs.declared.script.Script.{Script}
use Rattle.tk_script.specs.Sent.{Sending, sent}
use Rattle.tk_words.specs.Words.{BookWords, sealed, opened}
use Rattle.tk_words.specs.Opening.{IsNumber, OpensSealed}
use Rattle.tk_frames.specs.declared.write_frame.WriteFrame.{WriteFrame}
use Rattle.tk_frames.specs.declared.entry.Placed.{Placed}
use Rattle.tk_frames.specs.Order.{Record, is_mark_of, records, up_to_mark, before}
use Rattle.tk_frames.specs.Lists.{first_some, IsIn}
use Rattle.tk_table.specs.Ordered.{AscendFrom}
use Rattle.tk_table.specs.Table.{window, has_position, retained}
use Rattle.tk_table.proofs.Offers.{ascend-above, retained-in_window, retained-each}
use Rattle.tk_frames.proofs.Offers.{in_from_contains, contains_from_in, all-at, each-in, in_map}
use Rattle.tk_bloom.proofs.Offers.{is_shown-positions_of}
use Rattle.tk_table.specs.Shown.{pushes_of, is_shown}
use Rattle.tk_client.specs.Writes.{write_of}
use Rattle.tk_report.specs.Queues.{waiting_of}
use Rattle.tk_report.specs.Entries.{write_at, entries}
use Rattle.tk_report.proofs.RecordLaws.{ArePlacedFrom, ascend-entry}
use Rattle.tk_report.specs.PassingOver.{IsRecordOf, IsNotRetained, RecordsAreShown}
use Rattle.tk_frames.specs.Slots.{text_in}
use Rattle.tk_report.specs.Report.{lookup}
use Rattle.tk_report.proofs.WrittenLaws.{entries-placed}
use Rattle.tk_script.proofs.Offers.{sent-sealable}

-- ---- the records before a mark are in order

up_to_mark-ascend : (e p : ℕ) (E : List Placed) → ArePlacedFrom p E →
    AscendFrom p (records (up_to_mark e E))
up_to_mark-ascend e p [] are = tt
up_to_mark-ascend e p (x ∷ E) are =
    let later = up_to_mark-ascend e (p + 1) E are.1 in
    elim (is_mark_of e x) as (λ b. AscendFrom p (records (cond b [] (x ∷ up_to_mark e E)))) [
      | true ↦ tt
      | false ↦ ascend-entry p x.position x.entry (records (up_to_mark e E)) are.0 later
    ]

before-ascend : (S : Script) (w : BookWords) (H : History) (e : ℕ) →
    AscendFrom 1 (before (entries S w H) e)
unfolding before
before-ascend S w H zero = tt
before-ascend S w H (suc e) =
    up_to_mark-ascend (suc e) 1 (entries S w H)
    (entries-placed (write_at S w) H (turn_count S.shape))

-- ---- what is retained is in the window

-- two records of one position are the same
one_position : (p : ℕ) (R : List Record) (r q : Record) → AscendFrom p R → IsIn R r → IsIn R q →
    r.position ≡ q.position → r ≡ q
one_position p [] r q ascend there also same = absurd there
one_position p (k ∷ R) r q ascend (inl a) (inl b) same = sym a ∙ b
one_position p (k ∷ R) r q ascend (inl a) (inr also) same =
    let above = ascend-above (k.position + 1) R q ascend.1 also in
    absurd (omega (arith, above, same, ap (λ (x : Record). x.position) a))
one_position p (k ∷ R) r q ascend (inr there) (inl b) same =
    let above = ascend-above (k.position + 1) R r ascend.1 there in
    absurd (omega (arith, above, same, ap (λ (x : Record). x.position) b))
one_position p (k ∷ R) r q ascend (inr there) (inr also) same =
    one_position (k.position + 1) R r q ascend.1 there also same

pub each-own : {X : Type 0} (xs all : List X) → ((x : X) → IsIn xs x → IsIn all x) →
    AllByRecursion (IsIn all) xs
each-own [] all within = tt
each-own (x ∷ xs) all within =
    (within x (inl refl), each-own xs all (λ y there. within y (inr there)))

-- what is retained is among the records
pub retained-own : (shape : Shape) (R : List Record) (r : Record) → IsIn (retained shape R) r →
    IsIn R r
retained-own shape R r there =
    each-in (IsIn R) (retained shape R) r
    (retained-each (IsIn R) shape R (each-own R R (λ x h. h))) there

-- one of the records has this position
record HasPosition (R : List Record) (position : ℕ) : Type 0 where
  found : Record
  there : IsIn R found
  same : position ≡ found.position

position-found : (R : List Record) (position : ℕ) → has_position R position ≡ true →
    HasPosition R position
position-found [] position has = absurd (cc has)
position-found (r ∷ R) position has =
    elim (position == r.position)
    as (λ b. (position == r.position) ≡ b → (b || has_position R position) ≡ true →
    HasPosition (r ∷ R) position) [
      | true ↦ λ e _.
          record { found = r; there = inl refl; same = eqb-true position r.position e }
      | false ↦ λ _ later. let behind = position-found R position later in
          record { found = behind.found; there = inr behind.there; same = behind.same }
    ] refl has

in_drop : {X : Type 0} (n : ℕ) (xs : List X) (x : X) → IsIn (drop n xs) x → IsIn xs x
in_drop zero xs x there = there
in_drop (suc n) [] x there = there
in_drop (suc n) (y ∷ xs) x there = inr (in_drop n xs x there)

-- of records in order, what is retained is in the window
retained-inside : (shape : Shape) (R : List Record) (r : Record) → AscendFrom 1 R →
    IsIn (retained shape R) r → IsIn (window shape R) r
retained-inside shape R r ascend there =
    let has = all-at (λ (q : Record). has_position (window shape R) q.position)
    (retained shape R) r (retained-in_window shape R) there
    in
    let here = position-found (window shape R) r.position has in
    let own = in_drop (length R - shape.retained) R here.found here.there in
    let same = one_position 1 R here.found r ascend own (retained-own shape R r there)
    (sym here.same)
    in
    subst (IsIn (window shape R)) same here.there

-- ---- what is in the window is shown

window-shown : (shape : Shape) (R : List Record) (r : Record) → IsIn (window shape R) r →
    is_shown shape R r.write.hits ≡ true
window-shown shape R r there =
    let hits = λ (q : Record). q.write.hits in
    is_shown-positions_of (pushes_of shape R) r.write.hits
    (contains_from_in (pushes_of shape R) r.write.hits (in_map hits (window shape R) r there))

-- ---- the record of a number

-- it is what was written for what was sent
pub record-write : (S : Script) (w : BookWords) (g c : ℕ) (y : Sending) (r : Record) →
    sent S g c ≡ Some y → r.write ≡ write_at S w g c →
    r.write ≡ write_of w g c (Some (waiting_of y))
unfolding write_at
record-write S w g c y r sends written =
    written ∙ ap (λ (o : Option Sending). write_of w g c (option_map waiting_of o)) sends

record-hits : (S : Script) (w : BookWords) (log s : ℕ) (r : Record) → IsRecordOf S w log s r →
    r.write.hits ≡ w.hits log s
record-hits S w log s r known =
    let sends = known.sends in
    let write = record-write S w known.turn known.client known.sending r sends known.written in
    ap (λ (x : WriteFrame). x.hits) write ∙ ap₂ w.hits known.of_log known.of_number

-- so a number whose record is in the window is shown
pub records-shown : RecordsAreShown
records-shown S w R log s r there known =
    sym (ap (is_shown S.shape R) (record-hits S w log s r known))
    ∙ window-shown S.shape R r (in_from_contains (window S.shape R) r there)

-- what isn't shown isn't retained
pub not_shown-not_retained : (S : Script) (w : BookWords) (H : History) (e log s : ℕ) →
    is_shown S.shape (before (entries S w H) e) (w.hits log s) ≡ false →
    IsNotRetained S w (before (entries S w H) e) log s
not_shown-not_retained S w H e log s hidden r there known =
    let R = before (entries S w H) e in
    let kept = in_from_contains (retained S.shape R) r there in
    let inside = retained-inside S.shape R r (before-ascend S w H e) kept in
    let shown = window-shown S.shape R r inside in
    let same = ap (is_shown S.shape R) (record-hits S w log s r known) in
    both_ways (is_shown S.shape R (w.hits log s)) hidden (sym same ∙ shown)

-- ---- what is looked up

pub none-each : {X Y : Type 0} (f : X → Option Y) (xs : List X) (x : X) → first_some f xs ≡ None →
    IsIn xs x → f x ≡ None
none-each f [] x none there = absurd there
none-each {X} {Y} f (z ∷ xs) x none there =
    elim (f z) as (λ o. f z ≡ o → option_or o (first_some f xs) ≡ None → f x ≡ None) [
      | None ↦ λ here later. elim there [
        | inl e ↦ ap f (sym e) ∙ here
        | inr behind ↦ none-each f xs x later behind
      ]
      | Some y ↦ λ _ some. absurd (cc some)
    ] refl none

pub record-gives : (S : Script) (w : BookWords) (log s : ℕ) (r : Record) → OpensSealed S.shape w →
    IsNumber S.shape log s → (known : IsRecordOf S w log s r) →
    text_in (w.pair log s) (opened w log s) r ≡ Some known.sending.text
record-gives S w log s r opens number known =
    let y = known.sending in
    let write = record-write S w known.turn known.client y r known.sends known.written in
    let pair = ap₂ w.pair known.of_log known.of_number in
    let first : r.write.first ≡ (w.pair log s).0 = ap (λ (x : WriteFrame). x.first) write
    ∙ ap (λ (p : ℕ × ℕ). p.0) pair
    in
    let second : r.write.second ≡ (w.pair log s).1 = ap (λ (x : WriteFrame). x.second) write
    ∙ ap (λ (p : ℕ × ℕ). p.1) pair
    in
    let block : r.write.block ≡ sealed w log s y.text = ap (λ (x : WriteFrame). x.block) write
    ∙ ap₂ (λ (l n : ℕ). sealed w l n y.text) known.of_log known.of_number
    in
    let fine = sent-sealable S known.turn known.client y known.sends in
    ap₂ (λ a b. cond (a && b) (opened w log s r.write.block) None)
    (eq-eqb r.write.first (w.pair log s).0 first) (eq-eqb r.write.second (w.pair log s).1 second)
    ∙ ap (opened w log s) block
    ∙ opens log s y.text number fine.allowed fine.fits

-- where nothing is looked up, nothing is retained
pub not_found-not_retained : (S : Script) (w : BookWords) (R : List Record) (log s : ℕ) →
    OpensSealed S.shape w → IsNumber S.shape log s → lookup S.shape w R log s ≡ None →
    IsNotRetained S w R log s
unfolding lookup
not_found-not_retained S w R log s opens number none r there known =
    let kept = in_from_contains (retained S.shape R) r there in
    let gives_none =
    none-each (text_in (w.pair log s) (opened w log s)) (retained S.shape R) r none kept
    in
    some_none known.sending.text
    (sym (record-gives S w log s r opens number known) ∙ gives_none)
  where
    some_none : (text : List ℕ) → Some text ≡ None → ⊥
    some_none text e = absurd (cc e)
