-- What entries leave, when there are none, when one more comes, and for a read.
use Rattle.std.proofs.Common.{◌≡◌, ℕ, ◌+◌, ◌-◌, ◌<◌, ◌≤◌, ap, sym, ◌∙◌, subst, arith, List, [], ◌∷◌, ◌++◌, length}
use Rattle.std.specs.List.{AllByRecursion}
use Rattle.tk_shape.specs.declared.shape.Shape.{Shape}
use Rattle.tk_shape.specs.Lengths.{width}
use Rattle.tk_bloom.specs.Filters.{positions_of, is_shown as are_shown}
use Rattle.tk_bloom.specs.Windows.{Kept as KeptPushes}
use Rattle.tk_frames.specs.declared.write_frame.WriteFrame.{WriteFrame}
use Rattle.tk_frames.specs.declared.entry.Placed.{Placed}
use Rattle.tk_frames.specs.declared.entry.Entry.TheVariants.{Write, Mark}
use Rattle.tk_frames.specs.InOrder.{mark_count, HasNumber, IsNext, IsOrder}
use Rattle.tk_frames.specs.Order.{Record, records, before}
use Rattle.tk_frames.specs.Ranges.{IsEntry, IsWrite}
use Rattle.tk_frames.proofs.Offers.{before-none, record_of, records-write, records-mark}
use Rattle.tk_frames.proofs.Offers.{marks-write, marks-mark, before-more, before-mark}
use Rattle.tk_table.specs.Shown.{pushes_of, pushed, window_with}
use Rattle.tk_table.specs.Stands.{Kept, TableStandsFor}
use Rattle.tk_table.specs.Table.{layout, blocks_of}
use Rattle.tk_table.proofs.Offers.{pushes-more, pushes-none}
use Rattle.tk_schedule.specs.declared.history.History.{History}
use Rattle.tk_script.specs.declared.script.Script.{Script}
use Rattle.tk_words.specs.Words.{BookWords}
use Rattle.tk_report.specs.Entries.{entries_before}
use Rattle.tk_report.specs.Turns.{placed_before}
use Rattle.tk_report.specs.declared.count.Count.{Count}
use Rattle.tk_report.specs.declared.ledger.Ledger.{Ledger}
use Rattle.tk_report.specs.declared.marked.Marked.{Marked}
use Rattle.tk_report.specs.Counts.{HasCounted}
use Rattle.tk_report.specs.Ledgers.{IsTakenOf, IsLeftBy, Keeps}

-- ---- what is left for a read

-- by the same writes
left-same : (shape : Shape) (R S : List Record) (m : Marked) → R ≡ S → IsLeftBy shape R m →
    IsLeftBy shape S m
left-same shape R S m same is = subst (λ (rs : List Record). IsLeftBy shape rs m) same is

-- what was taken of the table and the window of these writes
taken-left : (shape : Shape) (R : List Record) (t : Kept) (w : KeptPushes) (m : Marked) →
    t.shape ≡ shape → TableStandsFor t R → w ≡ window_with shape (pushes_of shape R) →
    IsTakenOf t w m → IsLeftBy shape R m
taken-left shape R t w m same table window taken =
    record {
      blocks = taken.blocks ∙ ap blocks_of table.slots ∙ ap (λ sh. blocks_of (layout sh R)) same;
      counted = taken.counted ∙ ap (λ (sh : Shape). sh.buckets) same;
      wide = taken.wide ∙ ap width same;
      shows = λ hits.
          taken.shows hits ∙ ap (λ (k : KeptPushes). are_shown (positions_of k.pushes) hits) window;
    }

-- what was left before a mark that stands is left when one more entry comes
left-more : (shape : Shape) (E : List Placed) (p : Placed) (e : ℕ) (m : Marked) →
    IsOrder shape E → e ≤ mark_count E → IsLeftBy shape (before E e) m →
    IsLeftBy shape (before (E ++ p ∷ []) e) m
left-more shape E p e m order within is =
    left-same shape (before E e) (before (E ++ p ∷ []) e) m
    (sym (before-more shape E (p ∷ []) e order within)) is

-- ---- no entries

pub keeps-none : (shape : Shape) (l : Ledger) → HasCounted shape [] l.count →
    l.window ≡ window_with shape [] → l.last ≡ 0 → IsTakenOf l.count.table l.window l.newest →
    IsTakenOf l.count.table l.window l.older → Keeps shape [] l
keeps-none shape l count window last newest older =
    let empty = window ∙ ap (window_with shape) (sym (pushes-none shape)) in
    let first : (e : ℕ) (m : Marked) → e ≡ 0 → IsTakenOf l.count.table l.window m →
    IsLeftBy shape (before [] e) m =
    λ e m zero taken.
    left-same shape [] (before [] e) m
    (sym (before-none []) ∙ ap (before []) (sym zero))
    (taken-left shape [] l.count.table l.window m count.same count.table empty taken)
    in
    record {
      count = count;
      window = empty;
      last = last;
      newest = first l.last l.newest last newest;
      older = first (l.last - 1) l.older (omega (arith, last)) older;
    }

-- ---- one more entry, which is counted

-- the filter positions of a write are those of a push
pub hits-counted : (shape : Shape) (E : List Placed) (l : Ledger) (p : Placed) (w : WriteFrame) →
    Keeps shape E l → IsNext shape E p → p.entry ≡ Write w → length w.hits ≡ l.window.hits
hits-counted shape E l p w is next at =
    let in_range : IsWrite shape w = subst (IsEntry shape) at next.in_range.entry in
    in_range.hits_counted ∙ sym (ap (λ (k : KeptPushes). k.hits) is.window)

pub hits-in_range : (shape : Shape) (E : List Placed) (l : Ledger) (p : Placed) (w : WriteFrame) →
    Keeps shape E l → IsNext shape E p → p.entry ≡ Write w →
    AllByRecursion (λ h. h < l.window.bits) w.hits
hits-in_range shape E l p w is next at =
    let in_range : IsWrite shape w = subst (IsEntry shape) at next.in_range.entry in
    subst (λ (n : ℕ). AllByRecursion (λ h. h < n) w.hits)
    (sym (ap (λ (k : KeptPushes). k.bits) is.window)) in_range.hits

pub keeps-write : (shape : Shape) (E : List Placed) (l : Ledger) (c : Count) (k : KeptPushes)
    (p : Placed) (w : WriteFrame) → Keeps shape E l → HasCounted shape (E ++ p ∷ []) c →
    p.entry ≡ Write w → k ≡ pushed l.window w.hits →
    Keeps shape (E ++ p ∷ []) (record l { count = c; window = k })
keeps-write shape E l c k p w is count at push =
    let order = is.count.order in
    let last = is.last in
    record {
      count = count;
      window =
          push ∙ ap (λ (k : KeptPushes). pushed k w.hits) is.window
          ∙ ap (window_with shape) (pushes-more shape (records E) (record_of p w)
          ∙ ap (pushes_of shape) (sym (records-write E p w at)));
      last = last ∙ sym (marks-write E p w at);
      newest = left-more shape E p l.last l.newest order (omega (arith, last)) is.newest;
      older = left-more shape E p (l.last - 1) l.older order (omega (arith, last)) is.older;
    }

pub keeps-mark : (shape : Shape) (E : List Placed) (l : Ledger) (c : Count) (p : Placed) (n : ℕ)
    (m : Marked) → Keeps shape E l → IsNext shape E p → HasCounted shape (E ++ p ∷ []) c →
    p.entry ≡ Mark n → IsTakenOf c.table l.window m →
    Keeps shape (E ++ p ∷ []) (record l { count = c; last = n; newest = m; older = l.newest })
keeps-mark shape E l c p n m is next count at taken =
    let order = is.count.order in
    let last = is.last in
    let none = records-mark E p n at in
    let new : n ≡ mark_count E + 1 = subst (HasNumber (mark_count E + 1)) at next.number in
    let before_it : l.last ≡ n - 1 = omega (arith, last, new) in
    let window = is.window ∙ ap (λ rs. window_with shape (pushes_of shape rs)) (sym none) in
    record {
      count = count;
      window = window;
      last = new ∙ sym (marks-mark E p n at);
      newest =
          left-same shape (records (E ++ p ∷ [])) (before (E ++ p ∷ []) n) m
          (none ∙ sym (before-mark shape E p n order at new))
          (taken-left shape (records (E ++ p ∷ [])) c.table l.window m count.same count.table window
          taken);
      older =
          subst (λ (e : ℕ). IsLeftBy shape (before (E ++ p ∷ []) e) l.newest) before_it
          (left-more shape E p l.last l.newest order (omega (arith, last)) is.newest);
    }

-- ---- the first turn

pub keeps-first : (S : Script) (w : BookWords) (H : History) (l : Ledger) → Keeps S.shape [] l →
    Keeps S.shape (placed_before S w H 0) l
unfolding entries_before
keeps-first S w H l is = is
