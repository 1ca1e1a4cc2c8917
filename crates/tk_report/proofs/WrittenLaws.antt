-- The writes of a run: what each is, and where it stands.
use Rattle.std.proofs.Common.{◌≡◌, refl, ap, ap₂, sym, ◌∙◌, subst, arith, true, false, cond}
use Rattle.std.proofs.Common.{ℕ, zero, suc, ◌+◌, ◌<◌, zero-add, count_by}
use Rattle.std.proofs.Common.{List, [], ◌∷◌, ◌++◌, length, Option, Some, None}
use Rattle.std.specs.List.{AllByRecursion}
use Rattle.std.specs.Option.{option_map}
use Rattle.std.proofs.Math.Nat.{mod-lt}
use Rattle.tk_shape.specs.declared.shape.Shape.{Shape}
use Rattle.tk_shape.specs.Lengths.{turn_count}
use Rattle.tk_schedule.specs.declared.item.Item.{Item}
use Rattle.tk_schedule.specs.declared.item.Item.TheVariants.{Client, Publish}
use Rattle.tk_schedule.specs.declared.history.History.{History}
use Rattle.tk_schedule.specs.Schedule.{order_at}
use Rattle.tk_script.specs.declared.script.Script.{Script}
use Rattle.tk_script.specs.Sent.{sent}
use Rattle.tk_script.proofs.Offers.{each-append}
use Rattle.tk_words.specs.Words.{WordBook, BookWords, keyed, drawn, words_of, pair_of, fresh_write}
use Rattle.tk_frames.specs.declared.write_frame.WriteFrame.{WriteFrame}
use Rattle.tk_frames.specs.declared.entry.Placed.{Placed}
use Rattle.tk_frames.specs.Order.{Record, is_mark_entry, is_mark_of, records, up_to_mark, before}
use Rattle.tk_table.specs.Ordered.{HasBuckets, AreOrdered}
use Rattle.tk_frames.specs.Lists.{IsIn}
use Rattle.tk_frames.proofs.Offers.{in_from_contains, in_front, each-in, records-append}
use Rattle.tk_client.specs.declared.waiting.Waiting.{Waiting}
use Rattle.tk_client.specs.Writes.{write_of}
use Rattle.tk_report.specs.Queues.{waiting_of}
use Rattle.tk_report.specs.Entries.{write_at, placed_from, placed_after, entries_before, entries}
use Rattle.tk_report.proofs.RecordLaws.{ArePlacedFrom, records-ascend, ordered-front}
use Rattle.tk_report.specs.Delivered.{IsWritten, EachIsWritten, EpochsOrdered}

-- ---- what each write is

pub write_at-client : (S : Script) (w : BookWords) (g c : ℕ) → (write_at S w g c).client ≡ c
unfolding write_at
write_at-client S w g c =
    elim (sent S g c) as (λ o. (write_of w g c (option_map waiting_of o)).client ≡ c)
    [ None ↦ refl | Some y ↦ refl ]

pub write_at-turn : (S : Script) (w : BookWords) (g c : ℕ) → (write_at S w g c).turn ≡ g
unfolding write_at
write_at-turn S w g c =
    elim (sent S g c) as (λ o. (write_of w g c (option_map waiting_of o)).turn ≡ g)
    [ None ↦ refl | Some y ↦ refl ]

turn-own : (P : Record → Type 0) (write : ℕ → WriteFrame) (p e : ℕ) (items : List Item) →
    ((q c : ℕ) → P (record { position = q; write = write c })) →
    AllByRecursion P (records (placed_from write p e items))
unfolding placed_from
turn-own P write p e [] own = tt
turn-own P write p e (Client c ∷ items) own = (own p c, turn-own P write (p + 1) e items own)
turn-own P write p e (Publish ∷ items) own = turn-own P write (p + 1) (e + 1) items own

-- what each client's write of each turn has, each record has
pub turns-own : (P : Record → Type 0) (write : ℕ → ℕ → WriteFrame) (H : History) (n : ℕ) →
    ((g q c : ℕ) → g < n → P (record { position = q; write = write g c })) →
    AllByRecursion P (records (entries_before write H n))
unfolding entries_before
turns-own P write H zero own = tt
turns-own P write H (suc g) own =
    let E = entries_before write H g in
    let turn = placed_after (write g) E (order_at H g) in
    subst (AllByRecursion P) (sym (records-append E turn))
    (each-append P (records E) (records turn)
    (turns-own P write H g (λ k q c low. own k q c (omega (arith, low))))
    (turn-own P (write g) (length E + 1) (count_by is_mark_entry E + 1) (order_at H g)
    (λ q c. own g q c (omega arith))))

pub each-is_written : EachIsWritten
each-is_written S w H r there =
    each-in (IsWritten S w) (records (entries S w H)) r
    (turns-own (IsWritten S w) (write_at S w) H (turn_count S.shape)
    (λ g q c low.
    record {
      in_run = omega (arith, low, write_at-turn S w g c);
      written = ap₂ (write_at S w) (sym (write_at-turn S w g c)) (sym (write_at-client S w g c));
    }))
    (in_from_contains (records (entries S w H)) r there)

-- ---- its buckets

abbrev pub IsLow : Shape → ℕ → ℕ → Type 0
IsLow shape first second = (first < shape.buckets) × (second < shape.buckets)

pub some_buckets : (shape : Shape) → 0 < shape.buckets
some_buckets shape = let low = shape.in_range.buckets_low in omega (arith, low)

pub pair-low : (shape : Shape) (b : WordBook) (log s : ℕ) →
    IsLow shape (pair_of shape b log s).0 (pair_of shape b log s).1
unfolding pair_of
pair-low shape (keyed handles seeds) log s =
    (mod-lt _ (some_buckets shape), mod-lt _ (some_buckets shape))
pair-low shape (drawn tape) log s =
    (mod-lt _ (some_buckets shape), mod-lt _ (some_buckets shape))

fresh-low : (shape : Shape) (b : WordBook) (g c : ℕ) →
    IsLow shape (fresh_write shape b g c).first (fresh_write shape b g c).second
unfolding fresh_write
fresh-low shape (keyed handles seeds) g c =
    (mod-lt _ (some_buckets shape), mod-lt _ (some_buckets shape))
fresh-low shape (drawn tape) g c =
    (mod-lt _ (some_buckets shape), mod-lt _ (some_buckets shape))

write-low : (shape : Shape) (b : WordBook) (g c : ℕ) (o : Option Waiting) →
    IsLow shape (write_of (words_of shape b) g c o).first (write_of (words_of shape b) g c o).second
write-low shape b g c None = fresh-low shape b g c
write-low shape b g c (Some y) = pair-low shape b y.log y.number

write_at-buckets : (S : Script) (b : WordBook) (g q c : ℕ) →
    HasBuckets S.shape (record { position = q; write = write_at S (words_of S.shape b) g c })
unfolding write_at
write_at-buckets S b g q c =
    let low = write-low S.shape b g c (option_map waiting_of (sent S g c)) in
    record { first = low.0; second = low.1 }

-- ---- its position

placed_from-placed : (write : ℕ → WriteFrame) (p e : ℕ) (items : List Item) →
    ArePlacedFrom p (placed_from write p e items)
unfolding placed_from
placed_from-placed write p e [] = tt
placed_from-placed write p e (Client c ∷ items) =
    (refl, placed_from-placed write (p + 1) e items)
placed_from-placed write p e (Publish ∷ items) =
    (refl, placed_from-placed write (p + 1) (e + 1) items)

placed-behind : (p : ℕ) (E F : List Placed) → ArePlacedFrom p E → ArePlacedFrom (length E + p) F →
    ArePlacedFrom p (E ++ F)
placed-behind p [] F first behind = subst (λ n. ArePlacedFrom n F) (zero-add p) behind
placed-behind p (x ∷ E) F first behind =
    let at : length (x ∷ E) + p ≡ length E + (p + 1) = omega arith in
    (first.0, placed-behind (p + 1) E F first.1 (subst (λ n. ArePlacedFrom n F) at behind))

pub entries-placed : (write : ℕ → ℕ → WriteFrame) (H : History) (g : ℕ) →
    ArePlacedFrom 1 (entries_before write H g)
unfolding entries_before
entries-placed write H zero = tt
entries-placed write H (suc g) =
    let E = entries_before write H g in
    let marks = count_by is_mark_entry E + 1 in
    placed-behind 1 E (placed_after (write g) E (order_at H g)) (entries-placed write H g)
    (placed_from-placed (write g) (length E + 1) marks (order_at H g))

-- ---- the writes before a mark

up_to_mark-front : (e : ℕ) (E : List Placed) →
    (rest : List Placed) × (E ≡ up_to_mark e E ++ rest)
up_to_mark-front e [] = ([], refl)
up_to_mark-front e (p ∷ E) =
    let later = up_to_mark-front e E in
    elim (is_mark_of e p)
    as (λ b. (rest : List Placed) × (p ∷ E ≡ cond b [] (p ∷ up_to_mark e E) ++ rest)) [
      | true ↦ (p ∷ E, refl)
      | false ↦ (later.0, ap (λ ps. p ∷ ps) later.1)
    ]

-- they are the front of all
pub before-front : (E : List Placed) (e : ℕ) →
    (rest : List Record) × (records E ≡ before E e ++ rest)
unfolding before
before-front E zero = (records E, refl)
before-front E (suc e) =
    let front = up_to_mark-front (suc e) E in (
      records front.0,
      ap records front.1 ∙ records-append (up_to_mark (suc e) E) front.0,
    )

pub before-own : (E : List Placed) (e : ℕ) (r : Record) → IsIn (before E e) r → IsIn (records E) r
before-own E e r there =
    let front = before-front E e in
    subst (λ R. IsIn R r) (sym front.1) (in_front (before E e) front.0 r there)

pub epochs-ordered : EpochsOrdered
epochs-ordered S b H e =
    let w = words_of S.shape b in
    let E = entries S w H in
    let front = before-front E e in
    let all : AreOrdered S.shape (records E) = record {
      ascend = records-ascend 1 E (entries-placed (write_at S w) H (turn_count S.shape));
      within = turns-own (HasBuckets S.shape) (write_at S w) H (turn_count S.shape)
          (λ g q c _. write_at-buckets S b g q c);
    }
    in
    ordered-front S.shape (before E e) front.0 (subst (AreOrdered S.shape) front.1 all)
