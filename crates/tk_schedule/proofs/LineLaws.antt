-- The lines of turns, the lines due, and the end of lines that were read.
use Rattle.std.proofs.Common.{◌≡◌, ℕ, suc, ◌+◌, ◌-◌, ◌<◌, List, [], ◌∷◌, ◌++◌, length, sym, ap, ◌∙◌, arith, append_assoc, append-nil, add-zero, get_or, below_more, subst, Err, Option, flat_map}
use Rattle.std.specs.List.{range_with_len}
use Rattle.std.proofs.lemmas.List.{get_or_append_left, get_or_at}
use Rattle.std.proofs.lemmas.List.Concat.{flat_map-cons}
use Rattle.tk_shape.specs.declared.shape.Shape.{Shape}
use Rattle.tk_shape.specs.Lengths.{turn_count}
use Rattle.tk_schedule.specs.declared.raw.RawLine.{RawLine}
use Rattle.tk_schedule.specs.declared.raw.RawKind.{RawKind}
use Rattle.tk_schedule.specs.declared.history.TurnOrder.{TurnOrder}
use Rattle.tk_schedule.specs.declared.error.HistoryError.{HistoryError}
use Rattle.tk_schedule.specs.declared.error.HistoryError.TheVariants.{Line, Memory}
use Rattle.tk_schedule.specs.Due.{Due, the_end, turn_due, first_bad, bad_line}
use Rattle.tk_schedule.specs.Schedule.{IsTurn, blank_turn}
use Rattle.tk_schedule.specs.Told.{turn_lines, lines_from, Names}

pub lines_from-push : (shape : Shape) (g : ℕ) (turns : List TurnOrder) (turn : TurnOrder)
    → lines_from shape g (turns ++ turn ∷ []) ≡ lines_from shape g turns ++ turn_lines shape
    (g + length turns) turn
lines_from-push shape g [] turn =
    append-nil (turn_lines shape g turn) ∙ ap (λ (k : ℕ). turn_lines shape k turn)
    (sym (add-zero g))
lines_from-push shape g (t ∷ ts) turn =
    let behind : g + 1 + length ts ≡ g + suc (length ts) = omega arith in
    ap (λ (r : List RawKind). turn_lines shape g t ++ r) (lines_from-push shape (g + 1) ts turn)
    ∙ sym (append_assoc (turn_lines shape g t) (lines_from shape (g + 1) ts)
    (turn_lines shape (g + 1 + length ts) turn))
    ∙ ap (λ (k : ℕ). lines_from shape g (t ∷ ts) ++ turn_lines shape k turn) behind

-- one more turn
pub legal-push : (shape : Shape) (turns : List TurnOrder) (turn : TurnOrder) (n : ℕ) →
    length turns ≡ n
    → ((k : ℕ) → k < n → IsTurn shape k (get_or turns k blank_turn)) → IsTurn shape n turn
    → (k : ℕ) → k < n + 1 → IsTurn shape k (get_or (turns ++ turn ∷ []) k blank_turn)
legal-push shape turns turn n counted legal here =
    below_more (λ k. IsTurn shape k (get_or (turns ++ turn ∷ []) k blank_turn)) n
    (λ k l.
    let old : k < length turns = omega arith in
    subst (IsTurn shape k) (sym (get_or_append_left turns (turn ∷ []) blank_turn k old))
    (legal k l))
    (subst (IsTurn shape n) (sym (get_or_at turns turn [] blank_turn n counted)) here)

-- a turn's lines in front of those after it
pub told-push : (shape : Shape) (raw : List RawKind) (turns : List TurnOrder) (turn : TurnOrder)
    (n : ℕ) (lines behind : List RawKind)
    → length turns ≡ n → raw ≡ lines_from shape 0 turns ++ lines →
    lines ≡ turn_lines shape n turn ++ behind
    → raw ≡ lines_from shape 0 (turns ++ turn ∷ []) ++ behind
told-push shape raw turns turn n lines behind counted told here =
    let place : n ≡ 0 + length turns = omega arith in
    told ∙ ap (λ (ks : List RawKind). lines_from shape 0 turns ++ ks) here
    ∙ sym (append_assoc (lines_from shape 0 turns) (turn_lines shape n turn) behind)
    ∙ ap (λ (k : ℕ). (lines_from shape 0 turns ++ turn_lines shape k turn) ++ behind) place
    ∙ ap (λ (ks : List RawKind). ks ++ behind) (sym (lines_from-push shape 0 turns turn))

-- the lines due from turn g on, in so many turns
abbrev pub due_from : Shape → ℕ → ℕ → List Due
due_from shape g n = flat_map (turn_due shape) (range_with_len g n) ++ the_end ∷ []

pub due_from-suc : (shape : Shape) (g n : ℕ) →
    due_from shape g (suc n) ≡ turn_due shape g ++ due_from shape (g + 1) n
due_from-suc shape g n =
    ap (λ (ds : List Due). ds ++ the_end ∷ [])
    (flat_map-cons (turn_due shape) g (range_with_len (g + 1) n))
    ∙ append_assoc (turn_due shape g) (flat_map (turn_due shape) (range_with_len (g + 1) n))
    (the_end ∷ [])

pub due_from-step : (shape : Shape) (g n : ℕ) → g < n →
    due_from shape g (n - g) ≡ turn_due shape g ++ due_from shape (g + 1) (n - (g + 1))
due_from-step shape g n l =
    let more : n - g ≡ suc (n - (g + 1)) = omega arith in
    ap (due_from shape g) more ∙ due_from-suc shape g (n - (g + 1))

pub bad_line-is : (shape : Shape) (raw : List RawLine)
    → bad_line shape raw ≡ first_bad shape (due_from shape 0 (turn_count shape - 0)) raw
unfolding bad_line
bad_line-is shape raw =
    let all : turn_count shape ≡ turn_count shape - 0 = omega arith in
    ap (λ (n : ℕ). first_bad shape (due_from shape 0 n) raw) all

-- an error names the bad line, whatever names it where there is none
pub names_err : {X Y : Type 0} (f : X → Option ℕ) (g : Y → Option ℕ) (e : HistoryError)
    (a b : Option ℕ)
    → a ≡ b → Names f (Err e) b → Names g (Err e) a
names_err f g (Line at) a b p h = p ∙ h
names_err f g Memory a b p h = tt
