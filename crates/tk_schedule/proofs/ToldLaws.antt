-- Lines that are due in turn are those with which a legal history begins, and all its lines tell it
-- alone.
use Rattle.std.proofs.Common.{◌≡◌, ℕ, zero, suc, ◌+◌, ◌<◌, List, [], ◌∷◌, ◌++◌, length, replicate, Bool, true, false, cond, refl, sym, ap, subst, ◌∙◌, arith, append_assoc, add-zero, zero-add, get_or}
use Rattle.std.specs.Prelude.{◌&&◌}
use Rattle.std.proofs.lemmas.Bool.{and_parts}
use Rattle.tk_shape.specs.declared.shape.Shape.{Shape}
use Rattle.tk_shape.specs.Lengths.{turn_count}
use Rattle.tk_schedule.specs.declared.item.Item.{Item}
use Rattle.tk_schedule.specs.declared.raw.RawLine.{RawLine}
use Rattle.tk_schedule.specs.declared.raw.RawKind.{RawKind}
use Rattle.tk_schedule.specs.declared.raw.RawKind.TheVariants.{Order, Reads, End}
use Rattle.tk_schedule.specs.declared.history.TurnOrder.{TurnOrder}
use Rattle.tk_schedule.specs.Raw.{is_end, is_none_left, ends_once, kinds}
use Rattle.tk_schedule.specs.Schedule.{phase_of, tick_of, phases_over, is_closing, blank_turn, IsTurn, IsLegal, serial_turn}
use Rattle.tk_schedule.specs.Due.{Due, order_of, epochs_of, the_end, turn_due, is_order, is_due}
use Rattle.tk_schedule.specs.Told.{turn_lines, lines_from}
use Rattle.tk_schedule.proofs.ScheduleLaws.{serial_turn-IsTurn}
use Rattle.tk_schedule.proofs.TurnLaws.{legal_turn, legal_order, legal_epochs, newest_are_epochs, epochs_of_open}
use Rattle.tk_schedule.proofs.LineLaws.{due_from, due_from-suc}
use Rattle.tk_schedule.proofs.DueLaws.{order_line, reads_line, end_line, order_is_due, epochs_are_due, are_due}

-- ---- turns from g on

abbrev pub AllLegal : Shape → ℕ → List TurnOrder → Type 0
AllLegal shape g [] = Unit {0}
AllLegal shape g (turn ∷ turns) = IsTurn shape g turn × AllLegal shape (g + 1) turns

all_from : (shape : Shape) (g : ℕ) (turns : List TurnOrder)
    → ((k : ℕ) → k < length turns → IsTurn shape (g + k) (get_or turns k blank_turn)) →
    AllLegal shape g turns
all_from shape g [] h = tt
all_from shape g (turn ∷ turns) h = (
  subst (λ (k : ℕ). IsTurn shape k turn) (add-zero g) (h 0 (omega arith)),
  all_from shape (g + 1) turns (λ k l.
      let next : g + suc k ≡ g + 1 + k = omega arith in
      subst (λ (j : ℕ). IsTurn shape j (get_or turns k blank_turn)) next (h (suc k) (omega arith))),
)

all_at : (shape : Shape) (g : ℕ) (turns : List TurnOrder) → AllLegal shape g turns
    → (k : ℕ) → k < length turns → IsTurn shape (g + k) (get_or turns k blank_turn)
all_at shape g [] h k l = absurd (omega arith)
all_at shape g (turn ∷ turns) h zero l = subst (λ (k : ℕ). IsTurn shape k turn) (sym (add-zero g))
    h.0
all_at shape g (turn ∷ turns) h (suc k) l =
    let next : g + 1 + k ≡ g + suc k = omega arith in
    let low : k < length turns = omega arith in
    subst (λ (j : ℕ). IsTurn shape j (get_or turns k blank_turn)) next
    (all_at shape (g + 1) turns h.1 k low)

pub legal_all : (shape : Shape) (H : List TurnOrder) → IsLegal shape H → AllLegal shape 0 H
legal_all shape H legal = all_from shape 0 H (λ k l.
    let low : k < turn_count shape = omega (arith, legal.turns_counted) in
    subst (λ (j : ℕ). IsTurn shape j (get_or H k blank_turn)) (sym (zero-add k))
    (legal.each_turn k low))

pub all_legal : (shape : Shape) (H : List TurnOrder) → length H ≡ turn_count shape →
    AllLegal shape 0 H → IsLegal shape H
all_legal shape H counted all = record {
  turns_counted = counted;
  each_turn = λ k l.
      let low : k < length H = omega (arith, counted) in
      subst (λ (j : ℕ). IsTurn shape j (get_or H k blank_turn)) (zero-add k)
      (all_at shape 0 H all k low);
}

-- the lines of a first turn stand in front of the others
pub lines_more : (shape : Shape) (g : ℕ) (turn : TurnOrder) (turns : List TurnOrder)
    → lines_from shape g (turn ∷ turns) ++ End ∷ []
    ≡ turn_lines shape g turn ++ (lines_from shape (g + 1) turns ++ End ∷ [])
lines_more shape g turn turns =
    append_assoc (turn_lines shape g turn) (lines_from shape (g + 1) turns) (End ∷ [])

-- ---- a legal history's lines are due

due_at : (shape : Shape) (g : ℕ) (turn : TurnOrder) (ds : List Due) (ks : List RawKind) →
    IsTurn shape g turn → (b : Bool)
    → are_due shape (order_of g ∷ (cond b (epochs_of g ∷ []) [] ++ ds))
    (Order (phase_of shape g) (tick_of shape g)
    turn.order ∷ (cond b (Reads (phase_of shape g) (tick_of shape g) turn.epochs ∷ []) [] ++ ks))
    ≡ are_due shape ds ks
due_at shape g turn ds ks legal true =
    ap (λ (b : Bool). b && (is_due shape (epochs_of g)
    (Reads (phase_of shape g) (tick_of shape g) turn.epochs) && are_due shape ds ks))
    (order_is_due shape g turn.order (legal_order shape g turn legal))
    ∙ ap (λ (b : Bool). b && are_due shape ds ks)
    (epochs_are_due shape g turn.epochs (legal_epochs shape g turn legal))
due_at shape g turn ds ks legal false =
    ap (λ (b : Bool). b && are_due shape ds ks)
    (order_is_due shape g turn.order (legal_order shape g turn legal))

-- the lines due from turn g on, one turn after the other
abbrev pub dues : Shape → ℕ → ℕ → List Due
dues shape g zero = the_end ∷ []
dues shape g (suc n) = turn_due shape g ++ dues shape (g + 1) n

pub dues-is : (shape : Shape) (g n : ℕ) → dues shape g n ≡ due_from shape g n
dues-is shape g zero = refl
dues-is shape g (suc n) =
    ap (λ (ds : List Due). turn_due shape g ++ ds) (dues-is shape (g + 1) n)
    ∙ sym (due_from-suc shape g n)

pub lines_are_due : (shape : Shape) (g : ℕ) (turns : List TurnOrder) → AllLegal shape g turns
    → are_due shape (dues shape g (length turns)) (lines_from shape g turns ++ End ∷ []) ≡ true
lines_are_due shape g [] all = refl
lines_are_due shape g (turn ∷ turns) all =
    ap (are_due shape (dues shape g (length (turn ∷ turns)))) (lines_more shape g turn turns)
    ∙ due_at shape g turn (dues shape (g + 1) (length turns))
    (lines_from shape (g + 1) turns ++ End ∷ []) all.0 (is_closing shape g)
    ∙ lines_are_due shape (g + 1) turns all.1

-- ---- lines that are due begin a legal history

pub record Extends (shape : Shape) (g n : ℕ) (ks : List RawKind) : Type 0 where
  pub turns : List TurnOrder
  pub counted : length turns ≡ n
  pub legal : AllLegal shape g turns
  pub rest : List RawKind
  pub lines : ks ++ rest ≡ lines_from shape g turns ++ End ∷ []

-- a legal turn in front
extend_turn : (shape : Shape) (g n : ℕ) (turn : TurnOrder) (ks : List RawKind) → IsTurn shape g turn
    → Extends shape (g + 1) n ks → Extends shape g (suc n) (turn_lines shape g turn ++ ks)
extend_turn shape g n turn ks legal e = record {
  turns = turn ∷ e.turns;
  counted = omega (arith, e.counted);
  legal = (legal, e.legal);
  rest = e.rest;
  lines = append_assoc (turn_lines shape g turn) ks e.rest
      ∙ ap (λ (xs : List RawKind). turn_lines shape g turn ++ xs) e.lines
      ∙ sym (lines_more shape g turn e.turns);
}

-- fewer lines
extend_front : (shape : Shape) (g n : ℕ) (ks more : List RawKind) → Extends shape g n (ks ++ more) →
    Extends shape g n ks
extend_front shape g n ks more e = record {
  turns = e.turns;
  counted = e.counted;
  legal = e.legal;
  rest = more ++ e.rest;
  lines = sym (append_assoc ks more e.rest) ∙ e.lines;
}

-- none
extend_none : (shape : Shape) (g n : ℕ) → Extends shape g n []
extend_none shape g zero =
    record { turns = []; counted = refl; legal = tt; rest = End ∷ []; lines = refl }
extend_none shape g (suc n) =
    extend_front shape g (suc n) [] (turn_lines shape g (serial_turn shape g) ++ [])
    (extend_turn shape g n (serial_turn shape g) [] (serial_turn-IsTurn shape g)
    (extend_none shape (g + 1) n))

-- the lines of a turn, by whether it closes
turn_lines-at : (shape : Shape) (g : ℕ) (turn : TurnOrder) (b : Bool) → is_closing shape g ≡ b
    → turn_lines shape g turn
    ≡ Order (phase_of shape g) (tick_of shape g) turn.order ∷ cond b
    (Reads (phase_of shape g) (tick_of shape g) turn.epochs ∷ []) []
turn_lines-at shape g turn b e =
    ap (λ (x : Bool). Order (phase_of shape g) (tick_of shape g) turn.order
    ∷ cond x (Reads (phase_of shape g) (tick_of shape g) turn.epochs ∷ []) []) e

-- by what stands after the order of a turn: nothing, or its epochs where it closes
extend_behind : (shape : Shape) (g n : ℕ) (items : List Item) → is_order shape g items ≡ true →
    (b : Bool) → is_closing shape g ≡ b
    → ((ks : List RawKind) → are_due shape (dues shape (g + 1) n) ks ≡ true →
    Extends shape (g + 1) n ks)
    → (ks : List RawKind) → are_due shape (cond b (epochs_of g ∷ []) [] ++ dues shape (g + 1) n)
    ks ≡ true
    → Extends shape g (suc n) (Order (phase_of shape g) (tick_of shape g) items ∷ ks)
extend_behind shape g n items ordered false e others ks due =
    let newest = replicate shape.clients (phases_over shape g) in
    let turn : TurnOrder = record { order = items; epochs = newest } in
    let legal = legal_turn shape g turn ordered (newest_are_epochs shape g) in
    subst (Extends shape g (suc n)) (ap (λ (xs : List RawKind). xs ++ ks)
    (turn_lines-at shape g turn false e))
    (extend_turn shape g n turn ks legal (others ks due))
extend_behind shape g n items ordered true e others [] due =
    let newest = replicate shape.clients (phases_over shape g) in
    let turn : TurnOrder = record { order = items; epochs = newest } in
    let legal = legal_turn shape g turn ordered (newest_are_epochs shape g) in
    extend_front shape g (suc n) (Order (phase_of shape g) (tick_of shape g) items ∷ [])
    (Reads (phase_of shape g) (tick_of shape g) turn.epochs ∷ [])
    (subst (Extends shape g (suc n)) (ap (λ (xs : List RawKind). xs ++ [])
    (turn_lines-at shape g turn true e))
    (extend_turn shape g n turn [] legal (others [] refl)))
extend_behind shape g n items ordered true e others (k ∷ ks) due =
    let rest = are_due shape (dues shape (g + 1) n) ks in
    let two = and_parts (is_due shape (epochs_of g) k) rest due in
    let reads = reads_line shape g k two.0 in
    let turn : TurnOrder = record { order = items; epochs = reads.epochs } in
    let legal = legal_turn shape g turn ordered reads.read in
    subst (Extends shape g (suc n))
    (ap (λ (xs : List RawKind). xs ++ ks) (turn_lines-at shape g turn true e)
    ∙ ap (λ (x : RawKind). Order (phase_of shape g) (tick_of shape g) items ∷ x ∷ ks)
    (sym reads.kind_is))
    (extend_turn shape g n turn ks legal (others ks two.1))

pub extend : (shape : Shape) (g n : ℕ) (ks : List RawKind) →
    are_due shape (dues shape g n) ks ≡ true → Extends shape g n ks
extend shape g zero [] due = extend_none shape g zero
extend shape g zero (k ∷ []) due =
    let two = and_parts (is_due shape the_end k) true due in
    record {
      turns = [];
      counted = refl;
      legal = tt;
      rest = [];
      lines = ap (λ (x : RawKind). x ∷ []) (end_line shape k two.0);
    }
extend shape g zero (k ∷ m ∷ ks) due =
    let two = and_parts (is_due shape the_end k) false due in
    let never = two.1 in
    absurd (cc (never))
extend shape g (suc n) [] due = extend_none shape g (suc n)
extend shape g (suc n) (k ∷ ks) due =
    let two = and_parts (is_due shape (order_of g) k)
    (are_due shape (cond (is_closing shape g) (epochs_of g ∷ []) [] ++ dues shape (g + 1) n) ks)
    due in
    let line = order_line shape g k two.0 in
    subst (λ (x : RawKind). Extends shape g (suc n) (x ∷ ks)) (sym line.kind_is)
    (extend_behind shape g n line.items line.ordered (is_closing shape g) refl
    (λ xs. extend shape (g + 1) n xs) ks two.1)

-- ---- lines tell one history

same_first : (b : Bool) (p t : ℕ) (a c : List Item) (d e : List ℕ) (x y : List RawKind)
    → Order p t a ∷ (cond b (Reads p t d ∷ []) [] ++ x) ≡ Order p t
    c ∷ (cond b (Reads p t e ∷ []) [] ++ y)
    → (a ≡ c) × (x ≡ y) × (b ≡ true → d ≡ e)
same_first true p t a c d e x y h = (cc, cc, λ _. cc)
same_first false p t a c d e x y h = (cc, cc, λ f. absurd (cc (f)))

-- the lines of a legal turn tell its epochs: of an open one there are none to tell
pub same_epochs : (shape : Shape) (g : ℕ) (a b : TurnOrder) → IsTurn shape g a → IsTurn shape g b
    → (is_closing shape g ≡ true → a.epochs ≡ b.epochs) → a.epochs ≡ b.epochs
same_epochs shape g a b la lb same =
    elim (is_closing shape g) as (λ c. is_closing shape g ≡ c → a.epochs ≡ b.epochs) [
      | true ↦ λ e. same e
      | false ↦ λ e. epochs_of_open shape g a e la ∙ sym (epochs_of_open shape g b e lb)
    ] refl

pub same_turn : (a b : TurnOrder) → a.order ≡ b.order → a.epochs ≡ b.epochs → a ≡ b
same_turn a b p q = λ i. record { order = p i; epochs = q i }

pub one_told : (shape : Shape) (g : ℕ) (es fs : List TurnOrder) → AllLegal shape g es →
    AllLegal shape g fs
    → lines_from shape g es ++ End ∷ [] ≡ lines_from shape g fs ++ End ∷ [] → es ≡ fs
one_told shape g [] [] la lb e = refl
one_told shape g [] (b ∷ fs) la lb e = absurd (cc (e))
one_told shape g (a ∷ es) [] la lb e = absurd (cc (e))
one_told shape g (a ∷ es) (b ∷ fs) la lb e =
    let three = same_first (is_closing shape g) (phase_of shape g) (tick_of shape g) a.order b.order
    a.epochs b.epochs
    (lines_from shape (g + 1) es ++ End ∷ []) (lines_from shape (g + 1) fs ++ End ∷ [])
    (sym (lines_more shape g a es) ∙ e ∙ lines_more shape g b fs) in
    let first = same_turn a b three.0 (same_epochs shape g a b la.0 lb.0 three.2) in
    let others = one_told shape (g + 1) es fs la.1 lb.1 three.1 in
    cc (first, others)

-- ---- a legal history's lines end once

abbrev pub no_more : List RawKind → Bool
no_more [] = true
no_more (k ∷ ks) = false

abbrev pub end_once : List RawKind → Bool
end_once [] = false
end_once (k ∷ ks) = cond (is_end k) (no_more ks) (end_once ks)

no_more-kinds : (raw : List RawLine) → no_more (kinds raw) ≡ is_none_left raw
no_more-kinds [] = refl
no_more-kinds (l ∷ ls) = refl

pub end_once-kinds : (raw : List RawLine) → end_once (kinds raw) ≡ ends_once raw
end_once-kinds [] = refl
end_once-kinds (l ∷ ls) =
    ap (λ (b : Bool). cond (is_end l.kind) b (end_once (kinds ls))) (no_more-kinds ls)
    ∙ ap (λ (b : Bool). cond (is_end l.kind) (is_none_left ls) b) (end_once-kinds ls)

end_behind : (b : Bool) (p t : ℕ) (epochs : List ℕ) (ks : List RawKind) →
    end_once (cond b (Reads p t epochs ∷ []) [] ++ ks) ≡ end_once ks
end_behind true p t epochs ks = refl
end_behind false p t epochs ks = refl

pub lines_end_once : (shape : Shape) (g : ℕ) (turns : List TurnOrder) →
    end_once (lines_from shape g turns ++ End ∷ []) ≡ true
lines_end_once shape g [] = refl
lines_end_once shape g (turn ∷ turns) =
    ap end_once (lines_more shape g turn turns)
    ∙ end_behind (is_closing shape g) (phase_of shape g) (tick_of shape g) turn.epochs
    (lines_from shape (g + 1) turns ++ End ∷ [])
    ∙ lines_end_once shape (g + 1) turns

-- so nothing is left of them after lines that end
pub none_left : (ks rest : List RawKind) → end_once ks ≡ true → end_once (ks ++ rest) ≡ true →
    rest ≡ []
none_left [] rest a b = absurd (cc (a))
none_left (Order p t items ∷ ks) rest a b = none_left ks rest a b
none_left (Reads p t epochs ∷ ks) rest a b = none_left ks rest a b
none_left (End ∷ []) [] a b = refl
none_left (End ∷ []) (k ∷ ks) a b = absurd (cc (b))
none_left (End ∷ k ∷ ks) rest a b = absurd (cc (a))
