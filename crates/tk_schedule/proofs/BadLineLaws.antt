-- What the first bad line of lines is, and what lines without one tell.
use Rattle.std.proofs.Common.{◌≡◌, ℕ, ◌+◌, List, [], ◌∷◌, ◌++◌, true, sym, ap, ◌∙◌, append-nil, Option, Some, None, flat_map}
use Rattle.std.specs.List.{range_with_len}
use Rattle.tk_shape.specs.declared.shape.Shape.{Shape}
use Rattle.tk_shape.specs.Lengths.{turn_count}
use Rattle.tk_schedule.specs.declared.raw.RawLine.{RawLine}
use Rattle.tk_schedule.specs.declared.raw.RawKind.{RawKind}
use Rattle.tk_schedule.specs.declared.history.TurnOrder.{TurnOrder}
use Rattle.tk_schedule.specs.declared.error.HistoryError.{HistoryError}
use Rattle.tk_schedule.specs.declared.error.HistoryError.TheVariants.{Line, Memory}
use Rattle.std.specs.Prelude.{Err}
use Rattle.std.proofs.lemmas.Bool.{false_from_ne_true}
use Rattle.tk_schedule.specs.Raw.{ends_once, kinds}
use Rattle.tk_schedule.specs.Schedule.{IsLegal}
use Rattle.tk_schedule.specs.Due.{Due, turn_due, first_bad, bad_line}
use Rattle.tk_schedule.specs.Told.{lines_due, Tells, Begins, IsFirstBad, Gives, Names}
use Rattle.tk_schedule.specs.Laws.{TellsOne, EndsWhereTold, TellsSerial, NoneBad, FirstBad}
use Rattle.tk_schedule.proofs.ScheduleLaws.{serial-IsLegal}
use Rattle.tk_schedule.proofs.LineLaws.{due_from}
use Rattle.tk_schedule.proofs.DueLaws.{are_due, due_front, due_none, none_due, bad_stops, stops_bad}
use Rattle.tk_schedule.proofs.ToldLaws.{legal_all, all_legal, dues, dues-is, lines_are_due, extend, one_told, end_once, end_once-kinds, lines_end_once, none_left}

pub tells_one : TellsOne
tells_one shape raw G H g h =
    one_told shape 0 G H (legal_all shape G g.legal) (legal_all shape H h.legal)
    (sym g.lines ∙ h.lines)

pub ends_where_told : EndsWhereTold
ends_where_told shape raw H told =
    sym (end_once-kinds raw) ∙ ap end_once told.lines ∙ lines_end_once shape 0 H

pub tells_serial : TellsSerial
tells_serial shape raw lines = record { legal = serial-IsLegal shape; lines = lines }

-- all lines of a legal history are due
legal_due : (shape : Shape) (H : List TurnOrder) → IsLegal shape H
    → are_due shape (due_from shape 0 (turn_count shape)) (lines_due shape H) ≡ true
legal_due shape H legal =
    ap (λ (ds : List Due). are_due shape ds (lines_due shape H))
    (sym (dues-is shape 0 (turn_count shape)))
    ∙ ap (λ (n : ℕ). are_due shape (dues shape 0 n) (lines_due shape H)) (sym legal.turns_counted)
    ∙ lines_are_due shape 0 H (legal_all shape H legal)

begins_due : (shape : Shape) (raw : List RawLine) → Begins shape raw →
    are_due shape (due_from shape 0 (turn_count shape)) (kinds raw) ≡ true
begins_due shape raw b =
    due_front shape (due_from shape 0 (turn_count shape)) (kinds raw) b.rest
    (ap (are_due shape (due_from shape 0 (turn_count shape))) b.lines
    ∙ legal_due shape b.history b.legal)

due_begins : (shape : Shape) (raw : List RawLine) →
    are_due shape (due_from shape 0 (turn_count shape)) (kinds raw) ≡ true → Begins shape raw
due_begins shape raw due =
    let e = extend shape 0 (turn_count shape) (kinds raw)
    (ap (λ (ds : List Due). are_due shape ds (kinds raw)) (dues-is shape 0 (turn_count shape))
    ∙ due) in
    record {
      history = e.turns;
      legal = all_legal shape e.turns e.counted e.legal;
      rest = e.rest;
      lines = e.lines;
    }

-- where no line is bad, the lines tell a history
none_tells : (shape : Shape) (raw : List RawLine) → ends_once raw ≡ true → bad_line shape raw ≡ None
    → (H : List TurnOrder) × Tells shape raw H
unfolding bad_line
none_tells shape raw ends none =
    let b = due_begins shape raw (none_due shape
    (flat_map (turn_due shape) (range_with_len 0 (turn_count shape))) raw ends none) in
    let left = none_left (kinds raw) b.rest (end_once-kinds raw ∙ ends)
    (ap end_once b.lines ∙ lines_end_once shape 0 b.history) in (
      b.history,
      record {
        legal = b.legal;
        lines = sym (append-nil (kinds raw)) ∙ ap (λ (r : List RawKind). kinds raw ++ r) (sym left)
            ∙ b.lines;
      },
    )

pub tells_none : (shape : Shape) (raw : List RawLine) (H : List TurnOrder) → Tells shape raw H →
    bad_line shape raw ≡ None
unfolding bad_line
tells_none shape raw H told =
    due_none shape (due_from shape 0 (turn_count shape)) raw
    (ap (are_due shape (due_from shape 0 (turn_count shape))) told.lines
    ∙ legal_due shape H told.legal)

pub none_bad : NoneBad
none_bad shape raw ends = (
  λ e. none_tells shape raw ends e,
  λ (H, told). tells_none shape raw H
      told,
)

bad_first : (shape : Shape) (raw : List RawLine) (at : ℕ) → bad_line shape raw ≡ Some at →
    IsFirstBad shape raw at
unfolding bad_line
bad_first shape raw at e =
    let s = bad_stops shape (due_from shape 0 (turn_count shape)) raw at e in
    record {
      before = s.before;
      bad = s.bad;
      behind = s.behind;
      whole = s.whole;
      number = s.number;
      due = due_begins shape s.before s.due;
      undue = λ b. let d = begins_due shape (s.before ++ s.bad ∷ []) b in let u = s.undue in
          cc (d, u);
    }

first_is : (shape : Shape) (raw : List RawLine) (at : ℕ) → ends_once raw ≡ true →
    IsFirstBad shape raw at → bad_line shape raw ≡ Some at
unfolding bad_line
first_is shape raw at ends f =
    let due = due_from shape 0 (turn_count shape) in
    ap (first_bad shape due) f.whole
    ∙ stops_bad shape (flat_map (turn_due shape) (range_with_len 0 (turn_count shape))) f.before
    f.bad f.behind
    (ap ends_once (sym f.whole) ∙ ends) (begins_due shape f.before f.due)
    (false_from_ne_true (are_due shape due (kinds (f.before ++ f.bad ∷ [])))
    (λ e. f.undue (due_begins shape (f.before ++ f.bad ∷ []) e)))
    ∙ ap Some f.number

pub first_bad_line : FirstBad
first_bad_line shape raw at ends = (bad_first shape raw at, first_is shape raw at ends)

-- an error where no line is bad is that memory ran out
pub only_memory : {X Y : Type 0} (left : X → Option ℕ) (e : HistoryError) (bad : Option ℕ)
    (P : Y → Type 0)
    → bad ≡ None → Names left (Err e) bad → Gives (Err e) P
only_memory left (Line at) bad P none named = absurd (cc (none, named))
only_memory left Memory bad P none named = tt
