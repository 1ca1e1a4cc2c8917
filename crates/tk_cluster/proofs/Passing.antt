-- What each call does to a pass.
use Rattle.std.proofs.Common.{◌≡◌, inl, inr, ⊎_elim, ℕ, zero, suc, ◌+◌, ◌<◌, ◌≤◌, refl, ap}
use Rattle.std.proofs.Common.{sym, ◌∙◌, subst, arith, length-append}
use Rattle.std.proofs.Common.{List, [], ◌∷◌, ◌++◌, length, Some, slice_get, Result, Ok, Err, OnErr}
use Rattle.std.specs.Arc.{arc_value}
use Rattle.std.specs.declared.sync.Arc.{Arc}
use Rattle.std.specs.declared.alloc.Global.{Global}
use mathlib.Core.List.{IsPrefix}
use Rattle.tk_shape.specs.declared.shape.Shape.{Shape}
use Rattle.tk_frames.specs.declared.entry.Placed.{Placed}
use Rattle.tk_order.specs.Legality.{of}
use Rattle.tk_order.specs.Seats.{Seated, own_in, Meets}
use Rattle.tk_order.specs.Seats as seats
use Rattle.tk_board.specs.Boards.{Known, AllFit, IsLast, GoesOn}
use Rattle.tk_board.specs.Boards as boards
use Rattle.tk_cluster.specs.declared.set.EpochSet.{EpochSet}
use Rattle.tk_cluster.specs.Passes.{Passing, Reading, IsPass, Pins, Knows, Learns, ReadsOnly}
use Rattle.tk_lists.proofs.Offers.{prefix_whole, prefix_length, prefix_get, last-got}

pub on_err : {V E : Type 0} {P : Type 0} (r : Result V E) → P → OnErr r P
on_err (Ok v) h = tt
on_err (Err e) h = h

-- ---- the sets of a list, by number

abbrev pub Numbered : List EpochSet → Type 0
Numbered sets = AllFit (λ k (set : EpochSet). set.number ≡ k) sets

get_inside : {A : Type 0} (xs : List A) (k : ℕ) (x : A) → slice_get xs k ≡ Some x → k < length xs
get_inside [] k x h = absurd cc
get_inside (y ∷ xs) zero x h = omega arith
get_inside (y ∷ xs) (suc k) x h = omega (arith, get_inside xs k x h)

pub last_at : (sets : List EpochSet) (set : EpochSet) → Numbered sets → IsLast sets set →
    slice_get sets set.number ≡ Some set
last_at sets set fit last =
    let at : slice_get sets (length last.0) ≡ Some set =
    subst (λ (ys : List EpochSet). slice_get ys (length last.0) ≡ Some set) (sym last.1)
    (last-got last.0 set) in
    let number : set.number ≡ length last.0 = fit (length last.0) set at in
    subst (λ k. slice_get sets k ≡ Some set) (sym number) at

pub last_counts : (sets : List EpochSet) (set : EpochSet) → Numbered sets → IsLast sets set →
    length sets ≡ set.number + 1
last_counts sets set fit last =
    let at : slice_get sets (length last.0) ≡ Some set =
    subst (λ (ys : List EpochSet). slice_get ys (length last.0) ≡ Some set) (sym last.1)
    (last-got last.0 set) in
    let number : set.number ≡ length last.0 = fit (length last.0) set at in
    omega (arith, number, ap length last.1, length-append last.0 (set ∷ []))

-- ---- pin and learn

abbrev pub reading : Known EpochSet → EpochSet → List ℕ → Reading
reading reader held pinned =
    record { board = reader.board; shown = reader.list; known = held.number; pinned = pinned }

abbrev pub passing : ℕ → List Placed → Reading → Passing
passing client seen reads = record { client = client; seen = seen; reads = reads }

pub reads_on : (step : Reading → Reading → Type 0) (client : ℕ) (seen : List Placed)
    (a b : Reading) → step a b → ReadsOnly step (passing client seen a) (passing client seen b)
reads_on step client seen a b h = record { client = refl; seen = refl; reads = h }

module _ (shape : Shape) (seat : Seated) (client : ℕ) (old new : Known EpochSet)
    (held : Arc EpochSet Global) (is : IsPass shape seat client old held) where
  abbrev set : EpochSet
  set = arc_value held

  -- it knows more sets
  pub still : IsPrefix old.list new.list → IsPass shape seat client new held
  still more = record {
    number = is.number;
    inside = is.inside;
    set = prefix_get old.list new.list set.number set more is.set;
  }

  -- it holds the last of the sets that it knows
  pub renewed : (newest : Arc EpochSet Global) → Numbered new.list →
      IsLast new.list (arc_value newest) → IsPass shape seat client new newest
  renewed newest fit last = record {
    number = is.number;
    inside = is.inside;
    set = last_at new.list (arc_value newest) fit last;
  }

  pub knows : (pinned pinned' : List ℕ) → GoesOn old new → pinned' ≡ pinned →
      Knows (reading old set pinned) (reading new set pinned')
  knows pinned pinned' on same =
      record { board = on.board; shown = on.list; known = refl; pinned = same }

  pub pins_held : (most : ℕ) (answer : EpochSet) (pinned pinned' : List ℕ) → GoesOn old new →
      set.number ≤ most → answer ≡ set → pinned' ≡ pinned ++ set.number ∷ [] →
      Pins (reading old set pinned) most answer (reading new set pinned')
  pins_held most answer pinned pinned' on small same pins = record {
    board = on.board;
    shown = on.list;
    least = omega arith;
    greatest = small;
    shows = prefix_get old.list new.list set.number set on.list is.set ∙ ap Some (sym same);
    number = ap (λ (x : EpochSet). x.number) same;
    pinned = pins;
  }

  pub pins_newest : (most : ℕ) (newest answer : EpochSet) (pinned pinned' : List ℕ) →
      GoesOn old new → Numbered new.list → IsLast new.list newest → newest.number ≤ most →
      answer ≡ newest → pinned' ≡ pinned ++ newest.number ∷ [] →
      Pins (reading old set pinned) most answer (reading new newest pinned')
  pins_newest most newest answer pinned pinned' on fit last small same pins = record {
    board = on.board;
    shown = on.list;
    least = omega (
      arith,
      get_inside old.list set.number set is.set,
      prefix_length old.list new.list on.list,
      last_counts new.list newest fit last,
    );
    greatest = small;
    shows = last_at new.list newest fit last ∙ ap Some (sym same);
    number = ap (λ (x : EpochSet). x.number) same;
    pinned = pins;
  }

  -- what it was told of is no newer than what it holds
  pub learns_old : (told : Known EpochSet) (newest : EpochSet) (pinned : List ℕ) →
      boards.Learns old told new → Numbered told.list → IsLast told.list newest →
      newest.number ≤ set.number → Learns (reading old set pinned) told (reading new set pinned)
  learns_old told newest pinned on fit last less = record {
    board = on.board;
    shown = on.list.mine;
    hears = on.list.theirs;
    one = on.list.one;
    least = omega arith;
    last = omega (arith, last_counts told.list newest fit last, less);
    known = inl refl;
    pinned = refl;
  }

  -- and where it is newer it is held
  pub learns_new : (told : Known EpochSet) (newest : EpochSet) (pinned : List ℕ) →
      boards.Learns old told new → Numbered told.list → IsLast told.list newest →
      set.number < newest.number →
      Learns (reading old set pinned) told (reading new newest pinned)
  learns_new told newest pinned on fit last more = record {
    board = on.board;
    shown = on.list.mine;
    hears = on.list.theirs;
    one = on.list.one;
    least = omega (arith, more);
    last = omega (arith, last_counts told.list newest fit last);
    known = inr (omega (arith, last_counts told.list newest fit last));
    pinned = refl;
  }

  pub holds_told : (told : Known EpochSet) (newest : Arc EpochSet Global) →
      boards.Learns old told new → Numbered told.list → IsLast told.list (arc_value newest) →
      IsPass shape seat client new newest
  holds_told told newest on fit last = record {
    number = is.number;
    inside = is.inside;
    set = prefix_get told.list new.list (arc_value newest).number (arc_value newest)
        on.list.theirs (last_at told.list (arc_value newest) fit last);
  }

-- ---- meet

-- the longer list, where a note is of one that begins with the seat's
pub meets_all : (s t note : Seated) → IsPrefix s.seen note.seen → Meets s note t →
    t.seen ≡ note.seen
meets_all s t note more h =
    ⊎_elim
    (λ same.
    let back : IsPrefix note.seen s.seen =
    subst (λ (xs : List Placed). IsPrefix note.seen xs) same h.theirs in
    same ∙ prefix_whole s.seen note.seen more (prefix_length note.seen s.seen back))
    (λ is. is)
    h.one

pub meets_own : (s t : Seated) (n : ℕ) → s.number ≡ Some n → t.number ≡ s.number →
    seats.own t ≡ seats.own s → of n t.seen ≡ of n s.seen
meets_own s t n is number same =
    sym (ap (λ m. own_in m t.seen) (number ∙ is)) ∙ (same ∙ ap (λ m. own_in m s.seen) is)
