-- The bytes have one entry, in bucket 2.
use Rattle.std.proofs.Common.{refl, inl, [], ◌∷◌, ◌++◌, replicate, arith}
use Rattle.tk_table.specs.Table.{Slot}
use Rattle.tk_table.proofs.Offers.{one_slot_is_sound}
use Rattle.tk_replica_tests.proofs.restored_tests.marked_table.Goals as goal

-- write 1, of bucket 2 twice
entry : Slot
entry = record { position = 1; first = 2; second = 2; block = replicate 23 0 ++ 1 ∷ [] }

pub restore-table-requires-clause-sound : goal.restore-table-requires-clause-sound
unfolding entry
restore-table-requires-clause-sound c =
    let is = c.requires in
    one_slot_is_sound c.args.shape.now 8 24 (1 ∷ 2 ∷ []) _ 2 5 entry
    (record { buckets_are = is.buckets; depth_is = is.depth; block_is = is.block }) refl (record {
      position = omega arith;
      named = inl refl;
      first = omega arith;
      second = omega arith;
      own = inl refl;
    })
