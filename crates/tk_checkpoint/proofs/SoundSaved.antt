-- The checkpoint of entries that end with a mark is sound.
use Rattle.std.proofs.Common.{◌≡◌, List, ◌++◌, ap, ◌∙◌, map}
use Rattle.std.specs.Prelude.{None}
use Rattle.tk_shape.specs.declared.shape.Shape.{Shape}
use Rattle.tk_frames.specs.declared.entry.Placed.{Placed}
use Rattle.tk_frames.specs.Order.{records}
use Rattle.tk_frames.specs.InOrder.{IsOrder}
use Rattle.tk_table.specs.Table.{window, layout}
use Rattle.tk_table.specs.Stands.{position_of}
use Rattle.tk_table.specs.Restoring.{table_spelled}
use Rattle.tk_table.proofs.Offers.{order-writes}
use Rattle.tk_checkpoint.specs.Saved.{Saved, saved}
use Rattle.tk_checkpoint.specs.Reading.{table_part, positions_in, slots_in, saved_in}
use Rattle.tk_checkpoint.specs.Sound.{first_refusal, head_checks, window_checks, slot_checks, slot_checks_of}
use Rattle.tk_checkpoint.specs.Laws.{SavedIsSound}
use Rattle.tk_checkpoint.proofs.Passing.{passed-append}
use Rattle.tk_checkpoint.proofs.ReadBack.{saved-reads_back}
use Rattle.tk_checkpoint.proofs.SoundHead.{head-passed}
use Rattle.tk_checkpoint.proofs.SoundWindow.{window-passed}
use Rattle.tk_checkpoint.proofs.SoundSlots.{slots-passed}

module _ (shape : Shape) (E : List Placed) (order : IsOrder shape E) where
  positions-read : positions_in shape (saved shape E) ≡ map position_of (window shape (records E))
  unfolding saved_in
  positions-read = ap (λ (s : Saved). s.positions) (saved-reads_back shape E order)

  table-read : table_spelled shape (table_part shape (saved shape E)) ≡ layout shape (records E)
  unfolding saved_in
  table-read = ap (λ (s : Saved). s.slots) (saved-reads_back shape E order)

  all-slots-passed : first_refusal (slot_checks shape (saved shape E)) ≡ None
  all-slots-passed =
      let bytes = saved shape E in
      ap (λ ps. first_refusal (slot_checks_of shape ps (slots_in shape bytes))) positions-read
      ∙ slots-passed shape (records E) (order-writes shape E order) (table_part shape bytes) table-read

pub saved-is_sound : SavedIsSound
saved-is_sound shape E order ends =
    let bytes = saved shape E in
    passed-append (head_checks shape bytes ++ window_checks shape bytes) (slot_checks shape bytes)
    (passed-append (head_checks shape bytes) (window_checks shape bytes)
    (head-passed shape E order ends) (window-passed shape E order ends))
    (all-slots-passed shape E order)
