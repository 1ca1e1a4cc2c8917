-- The lines of a report's history, and what they tell.
use Rattle.std.proofs.Common.{◌≡◌, refl, ap, ap₂, sym, ◌∙◌, subst, arith}
use Rattle.std.proofs.Common.{ℕ, suc, ◌+◌, ◌<◌, ◌≤◌, ◌^◌, Bool, true, false, cond}
use Rattle.std.proofs.Common.{List, [], ◌∷◌, ◌++◌, length, map, codes, decimal, append_assoc, append-nil, Some}
use Rattle.std.specs.Str.{bytes_eq}
use Rattle.std.specs.Prelude.{flat_map, slice_index, slice_index_or, nat_lt}
use Rattle.std.specs.List.{AllByRecursion, list_all, range_with_len}
use Rattle.std.proofs.Math.Nat.{div-le_self, mod-lt}
use Rattle.tk_frames.proofs.Offers.{turn_count_small}
use Rattle.tk_shape.specs.declared.shape.Shape.{Shape}
use Rattle.tk_shape.specs.Lengths.{turn_count}
use Rattle.tk_schedule.specs.declared.item.Item.{Item}
use Rattle.tk_schedule.specs.declared.item.Item.TheVariants.{Client, Publish}
use Rattle.tk_schedule.specs.declared.raw.RawKind.{RawKind}
use Rattle.tk_schedule.specs.declared.raw.RawKind.TheVariants.{Order, Reads, End}
use Rattle.tk_schedule.specs.declared.history.TurnOrder.{TurnOrder}
use Rattle.tk_schedule.specs.declared.history.History.{History}
use Rattle.tk_schedule.specs.Raw.{is_end, is_none_left, ends_once, kinds}
use Rattle.tk_schedule.specs.Schedule.{phase_of, tick_of, is_closing, phases_over, order_at, epoch_at}
use Rattle.tk_schedule.specs.Schedule.{blank_turn, is_within, IsTurn, IsLegal}
use Rattle.tk_schedule.specs.Due.{bad_line}
use Rattle.tk_schedule.specs.Told as told
use Rattle.tk_schedule.specs.Told.{Tells}
use Rattle.tk_schedule.proofs.Offers.{turn_within}
use Rattle.tk_script.specs.Grammar.{Line, lines_of, item_word, IsItem, IsNumber}
use Rattle.tk_script.proofs.Offers.{feed_by_test, each-append, no_lines, lines_of-line}
use Rattle.std.proofs.lemmas.Bool.{ltb-true, and_parts as parts}
use Rattle.tk_report.specs.Report.{line, turn_lines, history_lines}
use Rattle.tk_report.specs.ReportLines.{no_line, kind_said, stops, raw_from, bad_report_line}
use Rattle.tk_report.specs.Shown.{ShowsHistory}
use Rattle.tk_report.proofs.LineCuts.{IsField}
use Rattle.tk_report.proofs.OneHistoryLaws.{turn_of, IsSmall, is-small, order_fields, order-fields}
use Rattle.tk_report.proofs.OneHistoryLaws.{reads_fields, reads-fields}
use Rattle.tk_report.proofs.TextLines.{first-whole, stop-first, first-stops}
use Rattle.tk_report.proofs.KindLaws.{kind_text, IsOwn, own-order, own-reads, said-no_end}

-- ---- an end stands after all

pub ends-once : (n : ℕ) (ls : List Line) → ends_once (raw_from n ls) ≡ true
unfolding raw_from
ends-once n [] = refl
ends-once n (l ∷ ls) =
    elim (stops l)
    as (λ b. ends_once (cond b (record { line = n; kind = End } ∷ [])
    (record { line = n; kind = kind_said l } ∷ raw_from (n + 1) ls)) ≡ true) [
      | true ↦ refl
      | false ↦
          ap (λ b. cond b (is_none_left (raw_from (n + 1) ls)) (ends_once (raw_from (n + 1) ls)))
          (said-no_end l)
          ∙ ends-once (n + 1) ls
    ]

-- ---- lines that say these kinds

abbrev pub kind_line : RawKind → List ℕ
kind_line k = kind_text k ++ 0x0A ∷ []

abbrev pub kind_lines : List RawKind → List ℕ
kind_lines ks = flat_map kind_line ks

-- a text that these lines are the front of, and after them one that stops
pub record Fronts (ks : List RawKind) (text : List ℕ) : Type 0 where
  pub rest : List ℕ
  pub whole : text ≡ kind_lines ks ++ rest
  pub stop : stops rest ≡ true

abbrev Kinds : Type 0
Kinds = List RawKind

heads : (a b : RawKind) (p q : Kinds) → a ∷ p ≡ b ∷ q → a ≡ b
heads a b p q e = cc e

tails : (a b : RawKind) (p q : Kinds) → a ∷ p ≡ b ∷ q → p ≡ q
tails a b p q e = cc e

pub raw-told : (n : ℕ) (text : List ℕ) (ls : List Line) (ks : Kinds) → lines_of text ≡ ls →
    AllByRecursion IsOwn ks → kinds (raw_from n ls) ≡ ks ++ End ∷ [] → Fronts ks text
unfolding raw_from
raw-told n text [] [] lines own e = absurd (cc e)
raw-told n text [] (k ∷ ks) lines own e =
    absurd (own.0.some (heads no_line k (End ∷ []) (ks ++ End ∷ []) e))
raw-told n text (l ∷ ls) [] lines own e =
    elim (stops l)
    as (λ b. stops l ≡ b →
    kinds (cond b (record { line = n; kind = End } ∷ [])
    (record { line = n; kind = kind_said l } ∷ raw_from (n + 1) ls)) ≡ End ∷ [] →
    Fronts [] text) [
      | true ↦ λ stop _.
          record { rest = text; whole = refl; stop = first-stops text l ls lines stop }
      | false ↦ λ _ same.
          let is : kind_said l ≡ End =
          heads (kind_said l) End (kinds (raw_from (n + 1) ls)) [] same
          in
          absurd (no-end (is_end (kind_said l)) (said-no_end l) (ap is_end is))
    ] refl e
  where
    no-end : (b : Bool) → b ≡ false → b ≡ true → ⊥
    no-end b is_not is = cc (is_not, is)
raw-told n text (l ∷ ls) (k ∷ ks) lines own e =
    elim (stops l)
    as (λ b. kinds (cond b (record { line = n; kind = End } ∷ [])
    (record { line = n; kind = kind_said l } ∷ raw_from (n + 1) ls)) ≡ k ∷ (ks ++ End ∷ []) →
    Fronts (k ∷ ks) text) [
      | true ↦ λ same. absurd (own.0.no_end (heads End k [] (ks ++ End ∷ []) same))
      | false ↦ λ same.
          let is = heads (kind_said l) k (kinds (raw_from (n + 1) ls)) (ks ++ End ∷ []) same in
          let later = tails (kind_said l) k (kinds (raw_from (n + 1) ls)) (ks ++ End ∷ []) same in
          behind n text l ls k ks (λ rest at e. raw-told (n + 1) rest ls ks at own.1 e) lines own
          (own.0.told l is) later
    ] e
  where
    behind : (n : ℕ) (text l : List ℕ) (ls : List Line) (k : RawKind) (ks : Kinds) →
        ((rest : List ℕ) → lines_of rest ≡ ls → kinds (raw_from (n + 1) ls) ≡ ks ++ End ∷ [] →
        Fronts ks rest) →
        lines_of text ≡ l ∷ ls → AllByRecursion IsOwn (k ∷ ks) → l ≡ kind_text k →
        kinds (raw_from (n + 1) ls) ≡ ks ++ End ∷ [] → Fronts (k ∷ ks) text
    behind n text l [] k [] told lines own is later = absurd (cc later)
    behind n text l [] k (j ∷ ks) told lines own is later =
        absurd (own.1.0.some (heads no_line j (End ∷ []) (ks ++ End ∷ []) later))
    behind n text l (m ∷ ms) k ks told lines own is later =
        let cut = (first-whole text l (m ∷ ms) lines).cut m ms refl in
        let rest = told cut.0 cut.2 later in
        record {
          rest = rest.rest;
          whole = cut.1 ∙ ap₂ (λ (x y : List ℕ). x ++ 0x0A ∷ y) is rest.whole
              ∙ sym (append_assoc (kind_text k) (0x0A ∷ []) (kind_lines ks ++ rest.rest))
              ∙ sym (append_assoc (kind_line k) (kind_lines ks) rest.rest);
          stop = rest.stop;
        }

pub text-raw : (n : ℕ) (ks : Kinds) (rest : List ℕ) → AllByRecursion IsOwn ks →
    stops rest ≡ true →
    kinds (raw_from n (lines_of (kind_lines ks ++ rest))) ≡ ks ++ End ∷ []
unfolding raw_from
text-raw n [] rest own stop =
    let first = stop-first rest stop in
    ap (λ (ls : List Line). kinds (raw_from n ls)) first.lines
    ∙ ap (λ b. kinds (cond b (record { line = n; kind = End } ∷ [])
    (record { line = n; kind = kind_said first.line } ∷ raw_from (n + 1) first.behind))) first.stop
text-raw n (k ∷ ks) rest own stop =
    let behind = kind_lines ks ++ rest in
    let text : kind_lines (k ∷ ks) ++ rest ≡ kind_text k ++ 0x0A ∷ behind =
    append_assoc (kind_line k) (kind_lines ks) rest ∙ append_assoc (kind_text k) (0x0A ∷ []) behind
    in
    ap (λ (t : List ℕ). kinds (raw_from n (lines_of t))) text
    ∙ ap (λ (ls : List Line). kinds (raw_from n ls))
    (lines_of-line (kind_text k) behind own.0.no_feed)
    ∙ ap (λ b. kinds (cond b (record { line = n; kind = End } ∷ [])
    (record { line = n; kind = kind_said (kind_text k) } ∷ raw_from (n + 1) (lines_of behind))))
    own.0.goes_on
    ∙ ap₂ (λ (j : RawKind) (js : Kinds). j ∷ js) own.0.said
    (text-raw (n + 1) ks rest own.1 stop)

-- ---- the lines of a turn

items-short : (n : ℕ) (items : List Item) → n ≤ 64 → list_all (is_within n) items ≡ true →
    AllByRecursion IsItem items
items-short n [] small within = tt
items-short n (Client c ∷ items) small within =
    let both = parts (nat_lt c n) (list_all (is_within n) items) within in
    let low = ltb-true c n both.0 in
    (omega (arith, low, small), items-short n items small both.1)
items-short n (Publish ∷ items) small within = (tt, items-short n items small within)

abbrev epoch_of : List ℕ → ℕ → List ℕ
epoch_of epochs c = decimal (slice_index epochs c)

-- the epochs of all clients are the list of them
epochs-listed : (front epochs : List ℕ) (a : ℕ) → a ≡ length front →
    map (epoch_of (front ++ epochs)) (range_with_len a (length epochs)) ≡ map decimal epochs
epochs-listed front [] a at = refl
epochs-listed front (e ∷ epochs) a at =
    ap₂ (λ (x : List ℕ) (xs : List (List ℕ)). x ∷ xs)
    (ap decimal (ap (slice_index (front ++ e ∷ epochs)) at ∙ index-behind front e epochs))
    (ap (λ (all : List ℕ). map (epoch_of all) (range_with_len (a + 1) (length epochs)))
    (sym (append_assoc front (e ∷ []) epochs))
    ∙ epochs-listed (front ++ e ∷ []) epochs (a + 1) (omega (arith, at, length-push front e)))
  where
    index-behind : (front : List ℕ) (e : ℕ) (epochs : List ℕ) →
        slice_index (front ++ e ∷ epochs) (length front) ≡ e
    index-behind [] e epochs = refl
    index-behind (x ∷ front) e epochs = index-behind front e epochs

    length-push : (front : List ℕ) (e : ℕ) → length (front ++ e ∷ []) ≡ length front + 1
    length-push [] e = refl
    length-push (x ∷ front) e = ap suc (length-push front e) ∙ omega arith

epochs-short : (epochs : List ℕ) (limit : ℕ) → limit < 2 ^ 32 →
    ((c : ℕ) → c < length epochs → slice_index epochs c ≤ limit) → AllByRecursion IsNumber epochs
epochs-short [] limit small low = tt
epochs-short (e ∷ epochs) limit small low = (
  omega (arith, low 0 (omega arith), small),
  epochs-short epochs limit small (λ c within. low (suc c) (omega (arith, within))),
)

-- what the numbers of a turn have in common
record IsShort (shape : Shape) (g : ℕ) : Type 0 where
  phase : phase_of shape g < 2 ^ 32
  tick : tick_of shape g < 2 ^ 32
  over : phases_over shape (g + 1) < 2 ^ 32

order-own : (shape : Shape) (H : History) (g : ℕ) → IsShort shape g → IsSmall shape g →
    IsTurn shape g (turn_of H g) →
    IsOwn (Order (phase_of shape g) (tick_of shape g) (order_at H g))
order-own shape H g short small legal =
    by (order_at H g) refl
  where
    by : (items : List Item) → order_at H g ≡ items →
        IsOwn (Order (phase_of shape g) (tick_of shape g) (order_at H g))
    by [] none =
        let counted = legal.counted in
        let clients = shape.in_range.clients_low in
        absurd (omega (arith, counted, clients, ap length none))
    by (x ∷ items) is =
        let within = turn_within shape g (turn_of H g) legal in
        subst (λ (xs : List Item). IsOwn (Order (phase_of shape g) (tick_of shape g) xs)) (sym is)
        (own-order (phase_of shape g) (tick_of shape g) x items (omega arith) short.phase short.tick
        (subst (AllByRecursion IsItem) is
        (items-short shape.clients (order_at H g) shape.in_range.clients_high within))
        (subst (λ (xs : List Item). AllByRecursion IsField
        (codes "order" ∷ decimal (phase_of shape g) ∷ decimal
        (tick_of shape g) ∷ map item_word xs))
        is (order-fields shape H g small legal)))

-- the epochs of a turn as they are told
epochs-told : (shape : Shape) (H : History) (g : ℕ) → IsTurn shape g (turn_of H g) →
    map (λ c. decimal (epoch_at H g c)) (range_with_len 0 shape.clients)
    ≡ map decimal (turn_of H g).epochs
epochs-told shape H g legal =
    ap (λ (n : ℕ). map (epoch_of (turn_of H g).epochs) (range_with_len 0 n)) (sym legal.readers)
    ∙ epochs-listed [] (turn_of H g).epochs 0 refl

reads-own : (shape : Shape) (H : History) (g : ℕ) → IsShort shape g → IsSmall shape g →
    IsTurn shape g (turn_of H g) →
    IsOwn (Reads (phase_of shape g) (tick_of shape g) (turn_of H g).epochs)
reads-own shape H g short small legal =
    by (turn_of H g).epochs refl
  where
    by : (epochs : List ℕ) → (turn_of H g).epochs ≡ epochs →
        IsOwn (Reads (phase_of shape g) (tick_of shape g) (turn_of H g).epochs)
    by [] none =
        let readers = legal.readers in
        let clients = shape.in_range.clients_low in
        absurd (omega (arith, readers, clients, ap length none))
    by (e ∷ epochs) is =
        let words = epochs-short (turn_of H g).epochs (phases_over shape (g + 1)) short.over
        (λ c within. legal.none_ahead c (omega (arith, within, legal.readers)))
        in
        subst (λ (xs : List ℕ). IsOwn (Reads (phase_of shape g) (tick_of shape g) xs)) (sym is)
        (own-reads (phase_of shape g) (tick_of shape g) e epochs short.phase short.tick
        (subst (AllByRecursion IsNumber) is words)
        (subst (λ (xs : List (List ℕ)). AllByRecursion IsField
        (codes "reads" ∷ decimal (phase_of shape g) ∷ decimal (tick_of shape g) ∷ xs))
        (epochs-told shape H g legal ∙ ap (map decimal) is)
        (reads-fields shape H g small legal)))

is-short : (shape : Shape) (g : ℕ) → g < turn_count shape → IsShort shape g
is-short shape g low =
    let few = turn_count_small shape in
    let phase = div-le_self g shape.ticks in
    let tick = mod-lt g shape.in_range.ticks_low in
    let ticks = shape.in_range.ticks_high in
    let over = div-le_self (g + 1) shape.ticks in
    record {
      phase = omega (arith, few, low, phase);
      tick = omega (arith, tick, ticks);
      over = omega (arith, few, low, over);
    }

turn-own : (shape : Shape) (H : History) (g : ℕ) → g < turn_count shape →
    IsTurn shape g (turn_of H g) → AllByRecursion IsOwn (told.turn_lines shape g (turn_of H g))
turn-own shape H g low legal =
    let short = is-short shape g low in
    let small = is-small shape g low in (
      order-own shape H g short small legal,
      elim (is_closing shape g)
          as (λ b. AllByRecursion IsOwn
          (cond b (Reads (phase_of shape g) (tick_of shape g) (turn_of H g).epochs ∷ []) [])) [
            | true ↦ (reads-own shape H g short small legal, tt)
            | false ↦ tt
          ],
    )

turn-text : (shape : Shape) (H : History) (g : ℕ) → IsTurn shape g (turn_of H g) →
    kind_lines (told.turn_lines shape g (turn_of H g)) ≡ turn_lines shape H g
turn-text shape H g legal =
    let order = line (codes "order" ∷ order_fields shape H g) in
    ap (λ (x : List ℕ). order ++ x)
    (elim (is_closing shape g)
    as (λ b. kind_lines
    (cond b (Reads (phase_of shape g) (tick_of shape g) (turn_of H g).epochs ∷ []) [])
    ≡ cond b (line (codes "reads" ∷ reads_fields shape H g)) []) [
      | true ↦ append-nil (kind_line
          (Reads (phase_of shape g) (tick_of shape g) (turn_of H g).epochs))
          ∙ ap (λ (xs : List (List ℕ)).
          line (codes "reads" ∷ decimal (phase_of shape g) ∷ decimal (tick_of shape g) ∷ xs))
          (sym (epochs-told shape H g legal))
      | false ↦ refl
    ])

-- ---- the lines of all turns

lines-append : (xs ys : Kinds) → kind_lines (xs ++ ys) ≡ kind_lines xs ++ kind_lines ys
lines-append [] ys = refl
lines-append (x ∷ xs) ys =
    ap (λ (t : List ℕ). kind_line x ++ t) (lines-append xs ys)
    ∙ sym (append_assoc (kind_line x) (kind_lines xs) (kind_lines ys))

-- these are the turns from turn g on
abbrev AreFrom : History → ℕ → List TurnOrder → Type 0
AreFrom H g turns =
    (i : ℕ) → i < length turns → slice_index_or turns i blank_turn ≡ turn_of H (g + i)

next-from : (H : History) (g : ℕ) (turn : TurnOrder) (turns : List TurnOrder) →
    AreFrom H g (turn ∷ turns) → AreFrom H (g + 1) turns
next-from H g turn turns are i within =
    let at : g + suc i ≡ g + 1 + i = omega arith in
    are (suc i) (omega (arith, within)) ∙ ap (turn_of H) at

first-from : (H : History) (g : ℕ) (turn : TurnOrder) (turns : List TurnOrder) →
    AreFrom H g (turn ∷ turns) → turn ≡ turn_of H g
first-from H g turn turns are =
    let at : g + 0 ≡ g = omega arith in
    are 0 (omega arith) ∙ ap (turn_of H) at

turns-own : (shape : Shape) (H : History) (g : ℕ) (turns : List TurnOrder) → IsLegal shape H →
    g + length turns ≤ turn_count shape → AreFrom H g turns →
    AllByRecursion IsOwn (told.lines_from shape g turns)
turns-own shape H g [] legal within are = tt
turns-own shape H g (turn ∷ turns) legal within are =
    let low : g < turn_count shape = omega (arith, within) in
    each-append IsOwn (told.turn_lines shape g turn) (told.lines_from shape (g + 1) turns)
    (subst (λ (t : TurnOrder). AllByRecursion IsOwn (told.turn_lines shape g t))
    (sym (first-from H g turn turns are)) (turn-own shape H g low (legal.each_turn g low)))
    (turns-own shape H (g + 1) turns legal (omega (arith, within)) (next-from H g turn turns are))

turns-text : (shape : Shape) (H : History) (g : ℕ) (turns : List TurnOrder) → IsLegal shape H →
    g + length turns ≤ turn_count shape → AreFrom H g turns →
    kind_lines (told.lines_from shape g turns)
    ≡ flat_map (turn_lines shape H) (range_with_len g (length turns))
turns-text shape H g [] legal within are = refl
turns-text shape H g (turn ∷ turns) legal within are =
    let low : g < turn_count shape = omega (arith, within) in
    lines-append (told.turn_lines shape g turn) (told.lines_from shape (g + 1) turns)
    ∙ ap₂ (λ (x y : List ℕ). x ++ y)
    (ap (λ (t : TurnOrder). kind_lines (told.turn_lines shape g t)) (first-from H g turn turns are)
    ∙ turn-text shape H g (legal.each_turn g low))
    (turns-text shape H (g + 1) turns legal (omega (arith, within)) (next-from H g turn turns are))

own-turns : (H : History) → AreFrom H 0 H
own-turns H i within =
    let at : i ≡ 0 + i = omega arith in
    ap (turn_of H) at

pub history-own : (shape : Shape) (H : History) → IsLegal shape H →
    AllByRecursion IsOwn (told.lines_from shape 0 H)
history-own shape H legal =
    turns-own shape H 0 H legal (omega (arith, legal.turns_counted)) (own-turns H)

pub history-text : (shape : Shape) (H : History) → IsLegal shape H →
    kind_lines (told.lines_from shape 0 H) ≡ history_lines shape H
unfolding history_lines
history-text shape H legal =
    turns-text shape H 0 H legal (omega (arith, legal.turns_counted)) (own-turns H)
    ∙ ap (λ (n : ℕ). flat_map (turn_lines shape H) (range_with_len 0 n)) legal.turns_counted

-- ---- reports

abbrev report_head : List ℕ
report_head = line (codes "report" ∷ [])

rest-some : (front rest : List ℕ) → stops rest ≡ true → front ++ rest ≡ [] → ⊥
rest-some [] [] stop e = absurd (cc stop)
rest-some [] (x ∷ rest) stop e = cc e
rest-some (x ∷ front) rest stop e = cc e

no-stop : (ks : Kinds) (text : List ℕ) → Fronts ks text → text ≡ [] → ⊥
no-stop ks text fronts none =
    rest-some (kind_lines ks) fronts.rest fronts.stop (sym fronts.whole ∙ none)

shown-by : (shape : Shape) (bytes text : List ℕ) (H : History) (ls : List Line) →
    lines_of text ≡ ls → lines_of bytes ≡ codes "report" ∷ lines_of text →
    told.Tells shape (raw_from 2 (lines_of text)) H → Fronts (told.lines_from shape 0 H) text →
    ShowsHistory shape bytes H
shown-by shape bytes text H [] none is tells fronts =
    absurd (no-stop (told.lines_from shape 0 H) text fronts (no_lines text none))
shown-by shape bytes text H (l ∷ ls) some is tells fronts =
    let all = is ∙ ap (λ (ms : List Line). codes "report" ∷ ms) some in
    let cut = (first-whole bytes (codes "report") (l ∷ ls) all).cut l ls refl in
    let again = raw-told 2 cut.0 (lines_of cut.0) (told.lines_from shape 0 H) refl
    (history-own shape H tells.legal)
    (ap (λ (ms : List Line). kinds (raw_from 2 ms)) (cut.2 ∙ sym some) ∙ tells.lines)
    in
    record {
      legal = tells.legal;
      rest = again.rest;
      front = cut.1
          ∙ ap (λ (t : List ℕ). codes "report" ++ 0x0A ∷ t)
          (again.whole ∙ ap (λ (t : List ℕ). t ++ again.rest) (history-text shape H tells.legal))
          ∙ sym (append_assoc report_head (history_lines shape H) again.rest);
      stops = again.stop;
    }

-- a report whose lines tell a history shows it
pub shown-told : (shape : Shape) (bytes : List ℕ) (first : Line) (text : List ℕ) (H : History) →
    lines_of bytes ≡ first ∷ lines_of text → first ≡ codes "report" →
    told.Tells shape (raw_from 2 (lines_of text)) H → ShowsHistory shape bytes H
shown-told shape bytes first text H lines report tells =
    let fronts = raw-told 2 text (lines_of text) (told.lines_from shape 0 H) refl
    (history-own shape H tells.legal) tells.lines
    in
    shown-by shape bytes text H (lines_of text) refl
    (lines ∙ ap (λ (l : Line). l ∷ lines_of text) report) tells fronts

-- and the lines of a report that shows a history tell it
pub told-shown : (shape : Shape) (bytes : List ℕ) (H : History) → ShowsHistory shape bytes H →
    (text : List ℕ) × (lines_of bytes ≡ codes "report" ∷ lines_of text)
    × told.Tells shape (raw_from 2 (lines_of text)) H
told-shown shape bytes H shows =
    let ks = told.lines_from shape 0 H in
    let text = kind_lines ks ++ shows.rest in
    let whole : bytes ≡ codes "report" ++ 0x0A ∷ text =
    shows.front ∙ append_assoc report_head (history_lines shape H) shows.rest
    ∙ ap (λ (t : List ℕ). codes "report" ++ 0x0A ∷ (t ++ shows.rest))
    (sym (history-text shape H shows.legal))
    in (
      text,
      ap lines_of whole
          ∙ lines_of-line (codes "report") text (feed_by_test (codes "report") refl),
      record {
        legal = shows.legal;
        lines = text-raw 2 ks shows.rest (history-own shape H shows.legal) shows.stops;
      },
    )

-- ---- lines, one by one

-- the first line, whether it stops or not
pub stop-end : (n : ℕ) (l : Line) (ls : List Line) → stops l ≡ true →
    raw_from n (l ∷ ls) ≡ record { line = n; kind = End } ∷ []
unfolding raw_from
stop-end n l ls stop =
    ap (λ b. cond b (record { line = n; kind = End } ∷ [])
    (record { line = n; kind = kind_said l } ∷ raw_from (n + 1) ls)) stop

pub goes-on : (n : ℕ) (l : Line) (ls : List Line) → stops l ≡ false →
    raw_from n (l ∷ ls) ≡ record { line = n; kind = kind_said l } ∷ raw_from (n + 1) ls
unfolding raw_from
goes-on n l ls stop =
    ap (λ b. cond b (record { line = n; kind = End } ∷ [])
    (record { line = n; kind = kind_said l } ∷ raw_from (n + 1) ls)) stop

pub no-more : (n : ℕ) →
    raw_from n [] ≡ record { line = n; kind = no_line } ∷ record { line = n; kind = End } ∷ []
unfolding raw_from
no-more n = refl

-- ---- the first bad line

pub bad-none : (shape : Shape) → bad_report_line shape [] ≡ Some 1
unfolding bad_report_line
bad-none shape = refl

pub bad-first : (shape : Shape) (l : Line) (ls : List Line) →
    bytes_eq l (codes "report") ≡ false → bad_report_line shape (l ∷ ls) ≡ Some 1
unfolding bad_report_line
bad-first shape l ls other =
    ap (λ b. cond b (bad_line shape (raw_from 2 ls)) (Some 1)) other

pub bad-behind : (shape : Shape) (l : Line) (ls : List Line) →
    bytes_eq l (codes "report") ≡ true → bad_report_line shape (l ∷ ls)
    ≡ bad_line shape (raw_from 2 ls)
unfolding bad_report_line
bad-behind shape l ls same =
    ap (λ b. cond b (bad_line shape (raw_from 2 ls)) (Some 1)) same

-- a text that shows a history has lines, and the first is a report's
pub shows-first : (shape : Shape) (bytes : List ℕ) (H : History) (first : Line) (ls : List Line) →
    ShowsHistory shape bytes H → lines_of bytes ≡ first ∷ ls →
    (first ≡ codes "report") × told.Tells shape (raw_from 2 ls) H
shows-first shape bytes H first ls shows lines =
    let it = told-shown shape bytes H shows in
    let both : codes "report" ∷ lines_of it.0 ≡ first ∷ ls = sym it.1 ∙ lines in (
      line-first first (codes "report") ls (lines_of it.0) both,
      subst (λ (ms : List Line). Tells shape (raw_from 2 ms) H)
          (line-rest (codes "report") first (lines_of it.0) ls both) it.2,
    )
  where
    line-first : (a b : Line) (p q : List Line) → b ∷ q ≡ a ∷ p → a ≡ b
    line-first a b p q e = cc e

    line-rest : (a b : Line) (p q : List Line) → a ∷ p ≡ b ∷ q → p ≡ q
    line-rest a b p q e = cc e

pub shows-some : (shape : Shape) (bytes : List ℕ) (H : History) → ShowsHistory shape bytes H →
    lines_of bytes ≡ [] → ⊥
shows-some shape bytes H shows none =
    let it = told-shown shape bytes H shows in
    not-none (codes "report") (lines_of it.0) (sym it.1 ∙ none)
  where
    not-none : (a : Line) (p : List Line) → a ∷ p ≡ [] → ⊥
    not-none a p e = cc e
