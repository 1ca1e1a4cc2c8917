-- The entries of a turn, one after the other.
use Rattle.std.proofs.Common.{◌≡◌, refl, ap, sym, ◌∙◌, arith, ℕ, ◌+◌, ◌<◌, ◌≤◌, List, [], ◌∷◌, ◌++◌, append_assoc}
use Rattle.std.proofs.Common.{append-nil, count_by, cond}
use Rattle.std.proofs.lemmas.List.Sums.{sum_by-cons}
use Rattle.std.specs.Prelude.{flat_map}
use Rattle.tk_schedule.specs.declared.item.Item.{Item}
use Rattle.tk_schedule.specs.declared.item.Item.TheVariants.{Client, Publish}
use Rattle.tk_schedule.specs.Schedule.{is_mark}
use Rattle.tk_frames.specs.declared.write_frame.WriteFrame.{WriteFrame}
use Rattle.tk_frames.specs.declared.entry.Placed.{Placed}
use Rattle.tk_frames.specs.declared.entry.Entry.{Entry}
use Rattle.tk_frames.specs.declared.entry.Entry.TheVariants.{Write, Mark}
use Rattle.tk_frames.specs.Spelling.{placed_frame}
use Rattle.tk_report.specs.Entries.{placed_from}
use Rattle.tk_report.specs.Turns.{entry_due}

-- an entry at a position
abbrev pub at_place : ℕ → Entry → Placed
at_place p e = record { position = p; entry = e }

-- These bytes and the entries of the items that are left are the whole. At most one of them is a mark, and it is the
-- mark of this phase.
pub record SeenTo (write : ℕ → WriteFrame) (phase p : ℕ) (items : List Item) (bytes whole : List ℕ) : Type 0 where
  pub due : ℕ
  pub few : count_by is_mark items ≤ 1
  pub mark : 0 < count_by is_mark items → due ≡ phase
  pub rest : bytes ++ flat_map placed_frame (placed_from write p due items) ≡ whole

-- nothing is seen yet
pub seen-none : (write : ℕ → WriteFrame) (phase p : ℕ) (items : List Item) → count_by is_mark items ≤ 1 →
    SeenTo write phase p items [] (flat_map placed_frame (placed_from write p phase items))
seen-none write phase p items few = record { due = phase; few = few; mark = λ some. refl; rest = refl }

-- one item more is seen
pub seen-next : (write : ℕ → WriteFrame) (phase p : ℕ) (x : Item) (items : List Item) (bytes more whole : List ℕ) →
    more ≡ bytes ++ placed_frame (at_place p (entry_due write phase x)) →
    SeenTo write phase p (x ∷ items) bytes whole → SeenTo write phase (p + 1) items more whole
unfolding placed_from
seen-next write phase p (Client c) items bytes more whole is seen =
    let counted = sum_by-cons (λ y. cond (is_mark y) 1 0) (Client c) items in
    let behind = flat_map placed_frame (placed_from write (p + 1) seen.due items) in
    let few = seen.few in
    record {
      due = seen.due;
      few = omega (arith, few, counted);
      mark = λ some. seen.mark (omega (arith, some, counted));
      rest =
          ap (λ front. front ++ behind) is
          ∙ append_assoc bytes (placed_frame (at_place p (Write (write c)))) behind ∙ seen.rest;
    }
seen-next write phase p Publish items bytes more whole is seen =
    let counted = sum_by-cons (λ y. cond (is_mark y) 1 0) Publish items in
    let behind = flat_map placed_frame (placed_from write (p + 1) (seen.due + 1) items) in
    let few = seen.few in
    let due : seen.due ≡ phase = seen.mark (omega (arith, counted)) in
    record {
      due = seen.due + 1;
      few = omega (arith, few, counted);
      mark = λ some. absurd (omega (arith, some, few, counted));
      rest =
          ap (λ front. front ++ behind) is
          ∙ append_assoc bytes (placed_frame (at_place p (Mark phase))) behind
          ∙ ap (λ e. bytes ++ (placed_frame (at_place p (Mark e)) ++ behind)) (sym due) ∙ seen.rest;
    }

-- all are seen
pub seen-all : (write : ℕ → WriteFrame) (phase p : ℕ) (bytes whole : List ℕ) → SeenTo write phase p [] bytes whole →
    bytes ≡ whole
unfolding placed_from
seen-all write phase p bytes whole seen = sym (append-nil bytes) ∙ seen.rest
