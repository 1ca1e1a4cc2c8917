-- The bytes have one entry, in bucket 5.
use Rattle.std.proofs.Common.{refl, inl, inr, [], ◌∷◌, ◌++◌, replicate, arith}
use Rattle.tk_table.specs.Table.{Slot}
use Rattle.tk_table.proofs.Offers.{one_slot_is_sound}
use Rattle.tk_table_tests.proofs.table_tests.restored.Goals as goal

-- write 1, of the buckets 2 and 5
entry : Slot
entry = record { position = 1; first = 2; second = 5; block = replicate 23 0 ++ 9 ∷ [] }

pub restore-table-requires-clause-sound : goal.restore-table-requires-clause-sound
unfolding entry
restore-table-requires-clause-sound c =
    let is = c.in_ok-shape.ensures in
    one_slot_is_sound c.in_ok-shape.shape 8 24 (1 ∷ 2 ∷ []) _ 5 2 entry
    (record { buckets_are = is.buckets; depth_is = is.depth; block_is = is.block }) refl (record {
      position = omega arith;
      named = inl refl;
      first = omega arith;
      second = omega arith;
      own = inr refl;
    })
