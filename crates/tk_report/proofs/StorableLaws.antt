-- The writes of a legal history can be stored.
use Rattle.std.proofs.Common.{◌≡◌, refl, sym, subst, arith, ℕ, zero, suc, ◌+◌, ◌-◌, ◌*◌, ◌<◌, ◌≤◌, true, false, nat_lt}
use Rattle.std.proofs.Common.{List, [], ◌∷◌, length, count_by, length-append, length-drop, Some, None}
use Rattle.std.specs.Prelude.{if◌then◌else◌}
use Rattle.std.specs.List.{AllByRecursion, list_all, cons_option}
use Rattle.std.specs.Option.{option_map}
use Rattle.std.proofs.lemmas.List.{length-take-le}
use Rattle.sha2.proofs.Facts256.{length-sha256}
use Rattle.tk_shape.specs.declared.shape.Shape.{Shape}
use Rattle.tk_shape.specs.Lengths.{turn_count, cell_len}
use Rattle.tk_schedule.specs.declared.item.Item.{Item}
use Rattle.tk_schedule.specs.declared.item.Item.TheVariants.{Client, Publish}
use Rattle.tk_schedule.specs.declared.history.History.{History}
use Rattle.tk_schedule.specs.Schedule.{order_at, is_within, is_closing, marks_due, IsLegal}
use Rattle.tk_schedule.proofs.Offers.{turn_within}
use Rattle.tk_script.specs.declared.script.Script.{Script}
use Rattle.tk_script.specs.Sent.{sent}
use Rattle.std.proofs.lemmas.Bool.{ltb-true, and_parts as parts}
use Rattle.tk_handle.specs.declared.handle.Handle.{Handle}
use Rattle.tk_handle.proofs.Offers.{length-key_bytes}
use Rattle.tk_kernel.specs.Xor.{xor_bytes}
use Rattle.tk_kernel.proofs.Offers.{length-xor_bytes}
use Rattle.tk_seal.specs.Seal.{plain, hmac, keyed_tag}
use Rattle.tk_seal.proofs.Offers.{length-plain}
use Rattle.tk_words.specs.Words.{WordBook, keyed, drawn, IsBook, words_of, pad_of, tag_of, fresh_write}
use Rattle.tk_words.specs.Words.{write_cell, keyed_cell, write_part, cell_block, sealed, handle_at}
use Rattle.tk_words.specs.CellLaws.{place_within, length-write_part, length-piece, length-keyed_cell}
use Rattle.tk_words.specs.Opening.{IsNumber}
use Rattle.tk_words.specs.OpeningLaws.{length-pad_of}
use Rattle.tk_frames.proofs.Offers.{turn_count_small, each-both, records-append}
use Rattle.tk_frames.specs.declared.write_frame.WriteFrame.{WriteFrame}
use Rattle.tk_frames.specs.declared.entry.Placed.{Placed}
use Rattle.tk_frames.specs.declared.entry.Entry.{Entry}
use Rattle.tk_frames.specs.declared.entry.Entry.TheVariants.{Write, Mark}
use Rattle.tk_frames.specs.Order.{Record, record_at, is_mark_entry, records, before}
use Rattle.tk_table.specs.Laws.{IsStorable}
use Rattle.tk_client.specs.Writes.{write_of}
use Rattle.tk_report.specs.Queues.{waiting_of}
use Rattle.tk_report.proofs.TurnEntries.{length-placed_from}
use Rattle.tk_report.specs.Entries.{write_at, placed_from, placed_after, entries_before, entries}
use Rattle.tk_report.proofs.RecordLaws.{ArePlacedFrom}
use Rattle.tk_report.proofs.EachLaws.{each-weaker, each-front}
use Rattle.tk_script.proofs.Offers.{sent-sealable, each-append, sent-is}
use Rattle.tk_report.specs.Delivered.{EpochsStorable}
use Rattle.tk_report.proofs.WrittenLaws.{entries-placed, before-front}

-- ---- the block of a write

length-write_cell : (shape : Shape) (tape : List ℕ) (g c : ℕ) → IsBook shape (drawn tape) →
    g < turn_count shape → c < shape.clients → length (write_cell shape tape g c) ≡ cell_len shape
length-write_cell shape tape g c whole in_run client =
    length-piece (cell_len shape) (g * shape.clients + c) (write_part shape tape)
    (rw (length-write_part shape tape whole)
    (place_within g c (turn_count shape) shape.clients (cell_len shape) in_run client))

length-cell_block : (shape : Shape) (cell : List ℕ) → length cell ≡ cell_len shape →
    length (cell_block shape cell) ≡ shape.block
length-cell_block shape cell long = omega (arith, length-drop (8 + 4 * shape.hits) cell, long)

length-fresh : (shape : Shape) (b : WordBook) (g c : ℕ) → IsBook shape b → g < turn_count shape →
    c < shape.clients → length (fresh_write shape b g c).block ≡ shape.block
unfolding fresh_write
length-fresh shape (keyed handles seeds) g c served in_run client =
    length-key_bytes _ _ 16 shape.block
length-fresh shape (drawn tape) g c served in_run client =
    length-cell_block shape (write_cell shape tape g c)
    (length-write_cell shape tape g c served in_run client)

length-hmac : (key message : List ℕ) → length (hmac key message) ≡ 32
unfolding hmac
length-hmac key message = length-sha256 _

length-keyed_tag : (h : Handle) (s : ℕ) (masked : List ℕ) → length (keyed_tag h s masked) ≡ 16
length-keyed_tag h s masked = length-take-le 16 (hmac _ _) (rw length-hmac (omega arith))

length-tag : (shape : Shape) (b : WordBook) (log s : ℕ) (masked : List ℕ) → IsBook shape b →
    IsNumber shape log s → length (tag_of shape b log s masked) ≡ 16
unfolding tag_of
length-tag shape (keyed handles seeds) log s masked served number =
    length-keyed_tag (handle_at handles log) s masked
length-tag shape (drawn tape) log s masked served number =
    let cell = keyed_cell shape tape log s in
    let long = length-keyed_cell shape tape log s served number.log_in number.number_in in
    let block = length-cell_block shape cell long in
    let low = shape.in_range.block_low in
    omega (arith, length-drop (shape.block - 16) (cell_block shape cell), block, low)

length-sealed : (shape : Shape) (b : WordBook) (log s : ℕ) (text : List ℕ) → IsBook shape b →
    IsNumber shape log s → length text + 18 ≤ shape.block →
    length (sealed (words_of shape b) log s text) ≡ shape.block
length-sealed shape b log s text served number fits =
    let pad = pad_of shape b log s in
    let form = plain (length pad) text in
    let long = length-pad_of shape b log s served number in
    let room : length text + 2 ≤ length pad = omega (arith, fits, long) in
    let masked = xor_bytes pad form in
    let same = length-xor_bytes pad form (sym (length-plain (length pad) text room)) in
    let low = shape.in_range.block_low in
    omega (
      arith,
      length-append masked (tag_of shape b log s masked),
      length-tag shape b log s masked served number,
      same,
      long,
      low,
    )

pub length-written : (S : Script) (b : WordBook) (g c : ℕ) → IsBook S.shape b →
    g < turn_count S.shape → c < S.shape.clients →
    length (write_at S (words_of S.shape b) g c).block ≡ S.shape.block
unfolding write_at
length-written S b g c served in_run client =
    elim (sent S g c)
    as (λ o. sent S g c ≡ o →
    length (write_of (words_of S.shape b) g c (option_map waiting_of o)).block ≡ S.shape.block) [
      | None ↦ λ _. length-fresh S.shape b g c served in_run client
      | Some y ↦ λ sends. length-sealed S.shape b y.log y.number y.text served
          (record {
            log_in = (sent-is S g c y sends).log_in;
            number_in = (sent-is S g c y sends).number_in;
          }) (sent-sealable S g c y sends).fits
    ] refl

-- ---- the clients of a legal history

turn-within : (P : Record → Type 0) (write : ℕ → WriteFrame) (p e n : ℕ) (items : List Item) →
    list_all (is_within n) items ≡ true →
    ((q c : ℕ) → c < n → P (record { position = q; write = write c })) →
    AllByRecursion P (records (placed_from write p e items))
unfolding placed_from
turn-within P write p e n [] within own = tt
turn-within P write p e n (Client c ∷ items) within own =
    let both = parts (nat_lt c n) (list_all (is_within n) items) within in
    (own p c (ltb-true c n both.0), turn-within P write (p + 1) e n items both.1 own)
turn-within P write p e n (Publish ∷ items) within own =
    turn-within P write (p + 1) (e + 1) n items within own

-- what each client's write of each turn has, each record has
turns-within : (P : Record → Type 0) (shape : Shape) (write : ℕ → ℕ → WriteFrame) (H : History)
    (n : ℕ) → IsLegal shape H → n ≤ turn_count shape →
    ((g q c : ℕ) → g < n → c < shape.clients → P (record { position = q; write = write g c })) →
    AllByRecursion P (records (entries_before write H n))
unfolding entries_before
turns-within P shape write H zero legal inside own = tt
turns-within P shape write H (suc g) legal inside own =
    let E = entries_before write H g in
    let turn = placed_after (write g) E (order_at H g) in
    let low : g < turn_count shape = omega (arith, inside) in
    subst (AllByRecursion P) (sym (records-append E turn))
    (each-append P (records E) (records turn)
    (turns-within P shape write H g legal (omega (arith, inside))
    (λ k q c l client. own k q c (omega (arith, l)) client))
    (turn-within P (write g) (length E + 1) (count_by is_mark_entry E + 1) shape.clients
    (order_at H g) (turn_within shape g _ (legal.each_turn g low))
    (λ q c client. own g q c (omega arith) client)))

-- ---- positions

positions-low : (p : ℕ) (E : List Placed) → ArePlacedFrom p E →
    AllByRecursion (λ (r : Record). r.position < p + length E) (records E)
positions-low p [] are = tt
positions-low p (x ∷ E) are =
    let later = each-weaker (λ (r : Record). r.position < p + 1 + length E)
    (λ (r : Record). r.position < p + length (x ∷ E)) (records E) (λ r h. omega (arith, h))
    (positions-low (p + 1) E are.1)
    in
    one x.position x.entry (records E) are.0 later
  where
    one : (position : ℕ) (entry : Entry) (R : List Record) → position ≡ p →
        AllByRecursion (λ (r : Record). r.position < p + length (x ∷ E)) R →
        AllByRecursion (λ (r : Record). r.position < p + length (x ∷ E))
        (cons_option (record_at position entry) R)
    one position (Write w) R here later = (omega (arith, here), later)
    one position (Mark e) R here later = later

pub one-mark : (shape : Shape) (g : ℕ) → marks_due shape g ≤ 1
one-mark shape g =
    elim (is_closing shape g) as (λ b. (if b then 1 else 0) ≤ 1) [
      | true ↦ omega arith
      | false ↦ omega arith
    ]

-- a turn has at most 65 entries
pub entries-few : (shape : Shape) (write : ℕ → ℕ → WriteFrame) (H : History) (g : ℕ) →
    IsLegal shape H → g ≤ turn_count shape → length (entries_before write H g) ≤ 65 * g
unfolding entries_before
entries-few shape write H zero legal within = omega arith
entries-few shape write H (suc g) legal within =
    let E = entries_before write H g in
    let before = entries-few shape write H g legal (omega (arith, within)) in
    let turn = legal.each_turn g (omega (arith, within)) in
    let clients = shape.in_range.clients_high in
    omega (
      arith,
      length-append E (placed_after (write g) E (order_at H g)),
      length-placed_from (write g) (length E + 1) (count_by is_mark_entry E + 1) (order_at H g),
      turn.counted,
      one-mark shape g,
      before,
      clients,
    )

-- ---- storable

abbrev IsLowAt : ℕ → Record → Type 0
IsLowAt n r = r.position < n

abbrev HasBlock : Shape → Record → Type 0
HasBlock shape r = length r.write.block ≡ shape.block

pub epochs-storable : EpochsStorable
epochs-storable S b H e served legal =
    let shape = S.shape in
    let write = write_at S (words_of shape b) in
    let E = entries S (words_of shape b) H in
    let n = 1 + length E in
    let low = positions-low 1 E (entries-placed write H (turn_count shape)) in
    let blocks = turns-within (HasBlock shape) shape write H (turn_count shape) legal (omega arith)
    (λ g q c in_run client. length-written S b g c served in_run client)
    in
    let few = entries-few shape write H (turn_count shape) legal (omega arith) in
    let turns = turn_count_small shape in
    let all = each-weaker (λ (r : Record). IsLowAt n r × HasBlock shape r) (IsStorable shape)
    (records E)
    (λ r h. record { position = omega (arith, h.0, few, turns); block = h.1 })
    (each-both (IsLowAt n) (HasBlock shape) (records E) low blocks)
    in
    let front = before-front E e in
    each-front (IsStorable shape) (before E e) front.0
    (subst (AllByRecursion (IsStorable shape)) front.1 all)
