-- One turn more of a run.
use Rattle.std.proofs.Common.{◌≡◌, ℕ, suc, ◌+◌, ◌*◌, ◌<◌, Bool, true, false, List, [], ◌∷◌, ◌++◌, length, count_by}
use Rattle.std.proofs.Common.{refl, ap, sym, ◌∙◌, subst, arith, length-append}
use Rattle.std.specs.Prelude.{slice_index_or, MatchBool}
use mathlib.Core.List.{IsPrefix}
use Rattle.tk_shape.specs.declared.shape.Shape.{Shape}
use Rattle.tk_frames.specs.declared.write_frame.WriteFrame.{WriteFrame}
use Rattle.tk_frames.specs.InOrder.{mark_count, IsOrder}
use Rattle.tk_frames.proofs.Offers.{order-rest}
use Rattle.tk_schedule.specs.declared.history.TurnOrder.{TurnOrder}
use Rattle.tk_schedule.specs.Schedule.{IsTurn, is_closing, phases_over, marks_due, is_of, is_mark}
use Rattle.tk_schedule.proofs.Offers.{one_if}
use Rattle.tk_order.specs.Legality.{of, IsLegal}
use Rattle.tk_order.proofs.Offers.{of-append, prefix_trans}
use Rattle.tk_report.proofs.Offers.{phases-next}
use Rattle.tk_report.specs.Entries.{placed_from, entries_before}
use Rattle.tk_cluster.specs.declared.set.EpochSet.{EpochSet}
use Rattle.tk_cluster.specs.Passes.{Passing, MeetsAt}
use Rattle.tk_cluster.specs.Tellings.{Telling, marks, Published}
use Rattle.tk_cluster.specs.Clusters.{Each, HaveMet}
use Rattle.tk_cluster.specs.Sets.{StandsAtMark, AreShown}
use Rattle.tk_run.specs.declared.pinned_write.PinnedWrite.{PinnedWrite}
use Rattle.tk_run.specs.Ran.{ActsOn, EachBy, AllLearn, HasTurned, turn_of, set_on, Ran}
use Rattle.tk_run.proofs.TurnItems.{length_items, count_clients, count_marks}
use Rattle.tk_run.proofs.Brought.{Brings, one_counted, brings_counted, brings_entries, brings_order}
use Rattle.tk_run.proofs.Steps.{all_closing, all_open}
use Rattle.tk_run.proofs.PassesNext.{Step, same_length, numbers_counted, numbers_bounded, places_next, passes_next}
use Rattle.tk_run.proofs.PassesNext.{all_stand}
use Rattle.tk_run.proofs.TurnNumbers.{turns_more, entries_more, entries_counted}

-- what all passes and the publisher have seen of a turn
pub record Comes (shape : Shape) (K : List TurnOrder) (p q : Telling) (shown : List EpochSet)
    : Type 0 where
  pub begins : IsPrefix p.seen q.seen
  pub legal : IsLegal shape q.seen
  pub marked : length (marks q) ≡ phases_over shape (length K + 1)
  pub board : q.board ≡ p.board
  pub shown_is : q.shown ≡ shown
  pub long : length q.shown ≡ phases_over shape (length K + 1) + 1

-- a turn, of which it is known what it did to each pass
pub record Passed (shape : Shape) (write : ℕ → ℕ → WriteFrame) (K : List TurnOrder)
    (p q : Telling) (xs : List Passing) (ds : List PinnedWrite) (zs : List Passing) : Type 0 where
  pub shown : List EpochSet
  pub steps : EachBy (Step shape write K p q shown) xs ds zs
  pub comes : Comes shape K p q shown

module _ {shape : Shape} {write : ℕ → ℕ → WriteFrame} {K : List TurnOrder} {p q : Telling}
    {xs : List Passing} {ds : List PinnedWrite} {zs : List Passing} (ran : Ran shape write K xs p) where
  -- it closes a phase, or doesn't
  passed_by : (b : Bool) → is_closing shape (length K) ≡ b → (acted : List Passing)
      (told : Telling) (learned : List Passing) →
      EachBy (ActsOn (write (length K)) (phases_over shape (length K + 1))) xs ds acted →
      MatchBool b (Published shape p told) (told ≡ p) →
      MatchBool b (AllLearn told acted learned) (learned ≡ acted) → HaveMet shape learned told zs q →
      Passed shape write K p q xs ds zs
  passed_by true is acted told learned acts tells learns met =
      let g = length K in
      let most = phases_over shape (g + 1) in
      let due : marks_due shape g ≡ 1 = ap one_if is in
      let next = phases-next shape g in
      let long : length told.shown ≡ most + 1 =
      ap length tells.shown
      ∙ (length-append p.shown (tells.set ∷ []) ∙ omega (arith, ran.shown, next, due))
      in
      record {
        shown = told.shown;
        steps = all_closing (write g) most q.seen told p.shown xs ds acted learned zs long acts
            learns met.passes;
        comes = record {
          begins = prefix_trans p.seen told.seen q.seen tells.seen met.begins;
          legal = met.legal;
          marked = ap length met.marks
              ∙ (tells.marks ∙ omega (arith, ran.shown, next, due));
          board = met.board ∙ tells.board;
          shown_is = met.shown;
          long = ap length met.shown ∙ long;
        };
      }
  passed_by false is acted told learned acts tells learns met =
      let g = length K in
      let most = phases_over shape (g + 1) in
      let due : marks_due shape g ≡ 0 = ap one_if is in
      let next : most ≡ phases_over shape g = phases-next shape g ∙ omega (arith, due) in
      let meets : Each (MeetsAt q.seen) acted zs =
      subst (λ ys. Each (MeetsAt q.seen) ys zs) learns met.passes
      in
      record {
        shown = p.shown;
        steps = all_open (write g) most q.seen shape K p 0 p.shown xs ds acted zs
            (omega (arith, next)) ran.passes acts meets;
        comes = record {
          begins = subst (λ (x : Telling). IsPrefix x.seen q.seen) tells met.begins;
          legal = met.legal;
          marked = ap length met.marks ∙ (ap (λ (x : Telling). length (marks x)) tells
              ∙ (ran.marked ∙ sym next));
          board = met.board ∙ ap (λ (x : Telling). x.board) tells;
          shown_is = met.shown ∙ ap (λ (x : Telling). x.shown) tells;
          long = ap length (met.shown ∙ ap (λ (x : Telling). x.shown) tells)
              ∙ (ran.shown ∙ ap (λ k. k + 1) (sym next));
        };
      }

  pub passed : HasTurned shape (write (length K)) (length K) xs p ds zs q →
      Passed shape write K p q xs ds zs
  passed t =
      passed_by (is_closing shape (length K)) refl t.acted t.told t.learned t.acts t.tells t.learns
      t.met

  -- what it puts after the entries so far
  pub passed_brings : (t : Passed shape write K p q xs ds zs) →
      Brings shape (write (length K)) (length K) p.seen t.comes.begins.0 ds
  passed_brings t =
      let E = p.seen in
      let T = t.comes.begins.0 in
      let whole : E ++ T ≡ q.seen = t.comes.begins.1 in
      let all = same_length shape write K p q t.shown xs ds zs t.steps in
      let none : of 0 E ++ of 0 T ≡ of 0 q.seen = sym (of-append 0 E T) ∙ ap (of 0) whole in
      record {
        order = order-rest shape E T (subst (IsOrder shape) (sym whole) t.comes.legal.order);
        counted = all.0 ∙ ran.clients;
        places = places_next shape write K p q t.shown T whole 0 xs ds zs t.steps ran.passes;
        marked = omega (
          arith,
          length-append (of 0 E) (of 0 T),
          ap length none,
          ran.marked,
          t.comes.marked,
          phases-next shape (length K),
        );
      }

-- how many entries there are so far
pub ran_counted : {shape : Shape} {write : ℕ → ℕ → WriteFrame} {K : List TurnOrder} {p : Telling}
    {xs : List Passing} → Ran shape write K xs p →
    length p.seen ≡ length K * shape.clients + phases_over shape (length K)
ran_counted {shape} {write} {K} ran =
    ap length ran.order ∙ entries_counted write shape K (length K) ran.turns

module _ {shape : Shape} {write : ℕ → ℕ → WriteFrame} {K : List TurnOrder} {p q : Telling}
    {xs : List Passing} {ds : List PinnedWrite} {zs : List Passing}
    (own_write : (g c : ℕ) → (write g c).client ≡ c) (ran : Ran shape write K xs p)
    (t : Passed shape write K p q xs ds zs) where
  abbrev came : TurnOrder
  came = turn_of shape (length K) (length p.seen) ds

  pub came_legal : IsTurn shape (length K) came
  came_legal =
      let g = length K in
      let E = p.seen in
      let T = t.comes.begins.0 in
      let brings = passed_brings ran t in
      let built = brings_order (own_write g) brings in
      let bounds = numbers_bounded shape write K p q t.shown 0 xs ds zs t.steps ran.passes in
      record {
        counted = ap length built
            ∙ (length_items T ∙ brings_counted (own_write g) brings);
        each_once = λ c low. ap (count_by (is_of c)) built ∙ (count_clients c T
            ∙ one_counted (own_write g) brings c low);
        marks = ap (count_by is_mark) built ∙ (count_marks T ∙ brings.marked);
        readers = numbers_counted shape write K p q t.shown ds ∙ brings.counted;
        newest_before = λ c low. (bounds c (omega (arith, low, ran.clients))).0;
        none_ahead = λ c low. (bounds c (omega (arith, low, ran.clients))).1;
      }

  came_entries : q.seen ≡ entries_before write (K ++ came ∷ []) (suc (length K))
  came_entries =
      let g = length K in
      let E = p.seen in
      let T = t.comes.begins.0 in
      let brings = passed_brings ran t in
      let built = brings_order (own_write g) brings in
      let all : E ++ placed_from (write g) (length E + 1) (mark_count E + 1) came.order ≡ q.seen =
      ap (λ items. E ++ placed_from (write g) (length E + 1) (mark_count E + 1) items) built
      ∙ (ap (λ ys. E ++ ys) (brings_entries (own_write g) brings)
      ∙ t.comes.begins.1)
      in
      sym all ∙ sym (entries_more write K came E ran.order)

  pub ran_next : Ran shape write (K ++ came ∷ []) zs q
  ran_next =
      let n : length (K ++ came ∷ []) ≡ length K + 1 = length-append K (came ∷ []) in
      let next : suc (length K) ≡ length (K ++ came ∷ []) = omega (arith, n) in
      record {
        turns = λ k low. turns_more (IsTurn shape) K came ran.turns came_legal k
            (subst (λ m. k < m) n low);
        order = came_entries ∙ ap (entries_before write (K ++ came ∷ [])) next;
        marked = t.comes.marked ∙ ap (phases_over shape) (sym n);
        shown = t.comes.long ∙ ap (λ m. phases_over shape m + 1) (sym n);
        clients = (same_length shape write K p q t.shown xs ds zs t.steps).1 ∙ ran.clients;
        passes = passes_next shape write K p q t.shown came t.comes.board t.comes.shown_is 0 [] xs
            ds zs t.steps ran.passes refl refl;
      }

  -- the sets that were pinned stand for the entries before their marks
  pub sets_stand : AreShown shape q.shown q.seen → (c : ℕ) (d : PinnedWrite) → c < length ds →
      StandsAtMark shape q.seen (set_on (slice_index_or ds c d)).number (set_on (slice_index_or ds c d))
  sets_stand shows =
      all_stand shape write K p q t.shown (K ++ came ∷ []) shows t.comes.long 0 xs ds zs t.steps
      ran_next.passes
