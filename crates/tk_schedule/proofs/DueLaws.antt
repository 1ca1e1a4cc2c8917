-- Lines that are due in turn, and the first that isn't.
use Rattle.std.proofs.Common.{◌≡◌, ℕ, ◌+◌, List, [], ◌∷◌, ◌++◌, Bool, true, false, refl, sym, ap, ◌∙◌, Some, None, eqb-true, eq-eqb}
use Rattle.std.specs.Prelude.{◌&&◌, cond, not, ◌==◌}
use Rattle.std.specs.List.{list_all}
use Rattle.std.proofs.lemmas.Bool.{and_parts, and_from}
use Rattle.tk_shape.specs.declared.shape.Shape.{Shape}
use Rattle.tk_schedule.specs.declared.item.Item.{Item}
use Rattle.tk_schedule.specs.declared.raw.RawLine.{RawLine}
use Rattle.tk_schedule.specs.declared.raw.RawKind.{RawKind}
use Rattle.tk_schedule.specs.declared.raw.RawKind.TheVariants.{Order, Reads, End}
use Rattle.tk_schedule.specs.Raw.{is_end, is_none_left, ends_once, kinds}
use Rattle.tk_schedule.specs.Schedule.{phase_of, tick_of}
use Rattle.tk_schedule.specs.Due.{Due, order_of, epochs_of, the_end, is_turn_of, is_order, are_epochs, is_due, first_bad}

-- ---- one line

pub record IsOrderLine (shape : Shape) (g : ℕ) (kind : RawKind) : Type 0 where
  pub items : List Item
  pub kind_is : kind ≡ Order (phase_of shape g) (tick_of shape g) items
  pub ordered : is_order shape g items ≡ true

pub record IsReadsLine (shape : Shape) (g : ℕ) (kind : RawKind) : Type 0 where
  pub epochs : List ℕ
  pub kind_is : kind ≡ Reads (phase_of shape g) (tick_of shape g) epochs
  pub read : are_epochs shape g epochs ≡ true

pub order_line : (shape : Shape) (g : ℕ) (kind : RawKind) → is_due shape (order_of g) kind ≡ true →
    IsOrderLine shape g kind
order_line shape g (Order phase tick items) e =
    let two = and_parts (is_turn_of shape g phase tick) (is_order shape g items) e in
    let when = and_parts (phase == phase_of shape g) (tick == tick_of shape g) two.0 in
    let p : phase ≡ phase_of shape g = eqb-true phase (phase_of shape g) when.0 in
    let t : tick ≡ tick_of shape g = eqb-true tick (tick_of shape g) when.1 in
    record { items = items; kind_is = cc (p, t); ordered = two.1 }
order_line shape g (Reads phase tick epochs) e = absurd (cc)
order_line shape g End e = absurd (cc)

pub reads_line : (shape : Shape) (g : ℕ) (kind : RawKind) → is_due shape (epochs_of g) kind ≡ true →
    IsReadsLine shape g kind
reads_line shape g (Order phase tick items) e = absurd (cc)
reads_line shape g (Reads phase tick epochs) e =
    let two = and_parts (is_turn_of shape g phase tick) (are_epochs shape g epochs) e in
    let when = and_parts (phase == phase_of shape g) (tick == tick_of shape g) two.0 in
    let p : phase ≡ phase_of shape g = eqb-true phase (phase_of shape g) when.0 in
    let t : tick ≡ tick_of shape g = eqb-true tick (tick_of shape g) when.1 in
    record { epochs = epochs; kind_is = cc (p, t); read = two.1 }
reads_line shape g End e = absurd (cc)

pub end_line : (shape : Shape) (kind : RawKind) → is_due shape the_end kind ≡ true → kind ≡ End
end_line shape (Order phase tick items) e = absurd (cc)
end_line shape (Reads phase tick epochs) e = absurd (cc)
end_line shape End e = refl

turn_is : (shape : Shape) (g : ℕ) → is_turn_of shape g (phase_of shape g) (tick_of shape g) ≡ true
turn_is shape g =
    and_from (phase_of shape g == phase_of shape g) (tick_of shape g == tick_of shape g)
    (eq-eqb (phase_of shape g) (phase_of shape g) refl)
    (eq-eqb (tick_of shape g) (tick_of shape g) refl)

pub order_is_due : (shape : Shape) (g : ℕ) (items : List Item) → is_order shape g items ≡ true
    → is_due shape (order_of g) (Order (phase_of shape g) (tick_of shape g) items) ≡ true
order_is_due shape g items e =
    and_from (is_turn_of shape g (phase_of shape g) (tick_of shape g)) (is_order shape g items)
    (turn_is shape g) e

pub epochs_are_due : (shape : Shape) (g : ℕ) (epochs : List ℕ) → are_epochs shape g epochs ≡ true
    → is_due shape (epochs_of g) (Reads (phase_of shape g) (tick_of shape g) epochs) ≡ true
epochs_are_due shape g epochs e =
    and_from (is_turn_of shape g (phase_of shape g) (tick_of shape g)) (are_epochs shape g epochs)
    (turn_is shape g) e

-- ---- several

-- each line is the one due, and there are no more
abbrev pub are_due : Shape → List Due → List RawKind → Bool
are_due shape ds [] = true
are_due shape [] (k ∷ ks) = false
are_due shape (d ∷ ds) (k ∷ ks) = is_due shape d k && are_due shape ds ks

-- so is a front of them
pub due_front : (shape : Shape) (ds : List Due) (ks rest : List RawKind) →
    are_due shape ds (ks ++ rest) ≡ true → are_due shape ds ks ≡ true
due_front shape ds [] rest e = refl
due_front shape [] (k ∷ ks) rest e = absurd (cc)
due_front shape (d ∷ ds) (k ∷ ks) rest e =
    let two = and_parts (is_due shape d k) (are_due shape ds (ks ++ rest)) e in
    and_from (is_due shape d k) (are_due shape ds ks) two.0 (due_front shape ds ks rest two.1)

-- then none is bad
pub due_none : (shape : Shape) (ds : List Due) (ls : List RawLine) →
    are_due shape ds (kinds ls) ≡ true → first_bad shape ds ls ≡ None
due_none shape [] ls e = refl
due_none shape (d ∷ ds) [] e = refl
due_none shape (d ∷ ds) (l ∷ ls) e =
    let two = and_parts (is_due shape d l.kind) (are_due shape ds (kinds ls)) e in
    ap (λ (b : Bool). cond b (first_bad shape ds ls) (Some l.line)) two.0
    ∙ due_none shape ds ls two.1

-- ---- lines that end

-- nothing stands after an End, and what ends after a line isn't one
pub none_behind : (kind : RawKind) (line : ℕ) (ls : List RawLine) → kind ≡ End →
    ends_once (record { line = line; kind = kind } ∷ ls) ≡ true → ls ≡ []
none_behind (Order phase tick items) line ls e ends = absurd (cc)
none_behind (Reads phase tick epochs) line ls e ends = absurd (cc)
none_behind End line [] e ends = refl
none_behind End line (l ∷ ls) e ends = absurd (cc)

pub ends_behind : (kind : RawKind) (line : ℕ) (l : RawLine) (ls : List RawLine)
    → ends_once (record { line = line; kind = kind } ∷ l ∷ ls) ≡ true → ends_once (l ∷ ls) ≡ true
ends_behind (Order phase tick items) line l ls ends = ends
ends_behind (Reads phase tick epochs) line l ls ends = ends
ends_behind End line l ls ends = absurd (cc)

not_end : (b : Bool) → not b ≡ true → b ≡ false
not_end true e = absurd (cc)
not_end false e = refl

-- an End after lines of which none is one
pub end_behind_told : (raw : List RawLine) (line : ℕ) →
    list_all (λ l. not (is_end l.kind)) raw ≡ true
    → ends_once (raw ++ record { line = line; kind = End } ∷ []) ≡ true
end_behind_told [] line e = refl
end_behind_told (l ∷ ls) line e =
    let two = and_parts (not (is_end l.kind)) (list_all (λ m. not (is_end m.kind)) ls) e in
    let behind : List RawLine = ls ++ record { line = line; kind = End } ∷ [] in
    ap (λ (b : Bool). cond b (is_none_left behind) (ends_once behind))
    (not_end (is_end l.kind) two.0)
    ∙ end_behind_told ls line two.1

-- a line that isn't due is bad
pub undue_bad : (shape : Shape) (d : Due) (ds : List Due) (l : RawLine) (ls : List RawLine) →
    is_due shape d l.kind ≡ false
    → first_bad shape (d ∷ ds) (l ∷ ls) ≡ Some l.line
undue_bad shape d ds l ls e = ap (λ (b : Bool). cond b (first_bad shape ds ls) (Some l.line)) e

pub due_bad : (shape : Shape) (d : Due) (ds : List Due) (l : RawLine) (ls : List RawLine) →
    is_due shape d l.kind ≡ true
    → first_bad shape (d ∷ ds) (l ∷ ls) ≡ first_bad shape ds ls
due_bad shape d ds l ls e = ap (λ (b : Bool). cond b (first_bad shape ds ls) (Some l.line)) e

not_undue : (shape : Shape) (d : Due) (ds : List Due) (l : RawLine) (ls : List RawLine) →
    first_bad shape (d ∷ ds) (l ∷ ls) ≡ None
    → is_due shape d l.kind ≡ true
not_undue shape d ds l ls e =
    elim (is_due shape d l.kind) as (λ b. is_due shape d l.kind ≡ b → b ≡ true) [
      | true ↦ λ p. refl
      | false ↦ λ p. let some = undue_bad shape d ds l ls p in absurd (cc (some, e))
    ] refl

-- where none is bad, each is the one due
pub none_due : (shape : Shape) (ds : List Due) (ls : List RawLine) → ends_once ls ≡ true
    → first_bad shape (ds ++ the_end ∷ []) ls ≡ None →
    are_due shape (ds ++ the_end ∷ []) (kinds ls) ≡ true
none_due shape [] [] ends e = refl
none_due shape [] (l ∷ ls) ends e =
    let p = not_undue shape the_end [] l ls e in
    let last = none_behind l.kind l.line ls (end_line shape l.kind p) ends in
    and_from (is_due shape the_end l.kind) (are_due shape [] (kinds ls)) p
    (ap (λ (xs : List RawLine). are_due shape [] (kinds xs)) last)
none_due shape (d ∷ ds) [] ends e = refl
none_due shape (d ∷ ds) (l ∷ []) ends e =
    let p = not_undue shape d (ds ++ the_end ∷ []) l [] e in
    and_from (is_due shape d l.kind) true p refl
none_due shape (d ∷ ds) (l ∷ m ∷ ls) ends e =
    let p = not_undue shape d (ds ++ the_end ∷ []) l (m ∷ ls) e in
    let left = sym (due_bad shape d (ds ++ the_end ∷ []) l (m ∷ ls) p) ∙ e in
    and_from (is_due shape d l.kind) (are_due shape (ds ++ the_end ∷ []) (kinds (m ∷ ls))) p
    (none_due shape ds (m ∷ ls) (ends_behind l.kind l.line m ls ends) left)

-- ---- the first bad line

-- the lines before the first bad one, and those after it
pub record Stops (shape : Shape) (ds : List Due) (ls : List RawLine) (at : ℕ) : Type 0 where
  pub before : List RawLine
  pub bad : RawLine
  pub behind : List RawLine
  pub whole : ls ≡ before ++ bad ∷ behind
  pub number : bad.line ≡ at
  pub due : are_due shape ds (kinds before) ≡ true
  pub undue : are_due shape ds (kinds (before ++ bad ∷ [])) ≡ false

-- a line in front of those that stop
stops_more : (shape : Shape) (d : Due) (ds : List Due) (l : RawLine) (ls : List RawLine) (at : ℕ) →
    is_due shape d l.kind ≡ true
    → Stops shape ds ls at → Stops shape (d ∷ ds) (l ∷ ls) at
stops_more shape d ds l ls at p s = record {
  before = l ∷ s.before;
  bad = s.bad;
  behind = s.behind;
  whole = ap (λ (xs : List RawLine). l ∷ xs) s.whole;
  number = s.number;
  due = and_from (is_due shape d l.kind) (are_due shape ds (kinds s.before)) p s.due;
  undue = ap (λ (b : Bool). b && are_due shape ds (kinds (s.before ++ s.bad ∷ []))) p ∙ s.undue;
}

stops_here : (shape : Shape) (d : Due) (ds : List Due) (l : RawLine) (ls : List RawLine) (at : ℕ) →
    is_due shape d l.kind ≡ false
    → l.line ≡ at → Stops shape (d ∷ ds) (l ∷ ls) at
stops_here shape d ds l ls at p n = record {
  before = [];
  bad = l;
  behind = ls;
  whole = refl;
  number = n;
  due = refl;
  undue = ap (λ (b : Bool). b && true) p;
}

pub bad_stops : (shape : Shape) (ds : List Due) (ls : List RawLine) (at : ℕ) →
    first_bad shape ds ls ≡ Some at → Stops shape ds ls at
bad_stops shape [] ls at e = absurd (cc)
bad_stops shape (d ∷ ds) [] at e = absurd (cc)
bad_stops shape (d ∷ ds) (l ∷ ls) at e =
    elim (is_due shape d l.kind) as (λ b. is_due shape d l.kind ≡ b →
    Stops shape (d ∷ ds) (l ∷ ls) at) [
      | true ↦ λ p. stops_more shape d ds l ls at p
          (bad_stops shape ds ls at (sym (due_bad shape d ds l ls p) ∙ e))
      | false ↦ λ p. let some = undue_bad shape d ds l ls p in
          stops_here shape d ds l ls at p (cc (some, e))
    ] refl

-- no line stands after an End
not_behind : (kind : RawKind) (line : ℕ) (ls behind : List RawLine) (bad : RawLine) → kind ≡ End
    → ends_once (record { line = line; kind = kind } ∷ (ls ++ bad ∷ behind)) ≡ true → ⊥
not_behind kind line [] behind bad e ends = let none = none_behind kind line (bad ∷ behind) e
    ends in cc (none)
not_behind kind line (l ∷ ls) behind bad e ends = let none = none_behind kind line
    (l ∷ (ls ++ bad ∷ behind)) e ends in cc (none)

ends_rest : (kind : RawKind) (line : ℕ) (ls behind : List RawLine) (bad : RawLine)
    → ends_once (record { line = line; kind = kind } ∷ (ls ++ bad ∷ behind)) ≡ true →
    ends_once (ls ++ bad ∷ behind) ≡ true
ends_rest kind line [] behind bad ends = ends_behind kind line bad behind ends
ends_rest kind line (l ∷ ls) behind bad ends = ends_behind kind line l (ls ++ bad ∷ behind) ends

undue_alone : (a : Bool) → (a && true) ≡ false → a ≡ false
undue_alone true e = e
undue_alone false e = refl

-- lines of which a front is due and no longer one have the line after that front for their bad one
pub stops_bad : (shape : Shape) (ds : List Due) (before : List RawLine) (bad : RawLine)
    (behind : List RawLine)
    → ends_once (before ++ bad ∷ behind) ≡ true →
    are_due shape (ds ++ the_end ∷ []) (kinds before) ≡ true
    → are_due shape (ds ++ the_end ∷ []) (kinds (before ++ bad ∷ [])) ≡ false
    → first_bad shape (ds ++ the_end ∷ []) (before ++ bad ∷ behind) ≡ Some bad.line
stops_bad shape [] [] bad behind ends due undue =
    undue_bad shape the_end [] bad behind (undue_alone (is_due shape the_end bad.kind) undue)
stops_bad shape (d ∷ ds) [] bad behind ends due undue =
    undue_bad shape d (ds ++ the_end ∷ []) bad behind (undue_alone (is_due shape d bad.kind) undue)
stops_bad shape [] (l ∷ ls) bad behind ends due undue =
    let two = and_parts (is_due shape the_end l.kind) (are_due shape [] (kinds ls)) due in
    absurd (not_behind l.kind l.line ls behind bad (end_line shape l.kind two.0) ends)
stops_bad shape (d ∷ ds) (l ∷ ls) bad behind ends due undue =
    let rest = are_due shape (ds ++ the_end ∷ []) (kinds ls) in
    let two = and_parts (is_due shape d l.kind) rest due in
    due_bad shape d (ds ++ the_end ∷ []) l (ls ++ bad ∷ behind) two.0
    ∙ stops_bad shape ds ls bad behind (ends_rest l.kind l.line ls behind bad ends) two.1
    (sym (ap (λ (b : Bool). b && are_due shape (ds ++ the_end ∷ []) (kinds (ls ++ bad ∷ []))) two.0)
    ∙ undue)
