-- The definitions, computed on a small shape.
use Rattle.std.proofs.Common.{◌≡◌, List, [], ◌∷◌, length, drop, take, replicate, refl, arith}
use Rattle.std.specs.Prelude.{Some, None, slice_set, IsTrue}
use Rattle.std.specs.Int.{is_power_of_two}
use Rattle.tk_shape.specs.declared.shape.Shape.{Shape}
use Rattle.tk_frames.specs.declared.entry.Placed.{Placed}
use Rattle.tk_frames.specs.declared.entry.Entry.TheVariants.{Write, Mark}
use Rattle.tk_table.specs.Table.{layout_on, layout_with}
use Rattle.tk_checkpoint.specs.declared.error.RestoreError.TheVariants as refusal
use Rattle.tk_place.specs.Place.{search_end, levels_from}
use Rattle.tk_table.proofs.Computing.{computing}
use Rattle.tk_checkpoint.specs.Saved.{spelling, saved}
use Rattle.tk_frames.specs.Fields.{numbers}
use Rattle.tk_checkpoint.specs.Reading.{positions_from}
use Rattle.tk_checkpoint.specs.Sound.{first_refusal, restore_checks, window_checks_from}

eight : IsTrue (is_power_of_two 8)
unfolding computing
eight = refl

sixty_four : IsTrue (is_power_of_two 64)
unfolding computing
sixty_four = refl

abbrev X1 : Shape
X1 =
    record {
      format = 1;
      servers = 2;
      buckets = 8;
      depth = 4;
      retained = 4;
      block = 24;
      filter_bits = 64;
      hits = 1;
      ahead = 0;
      clients = 2;
      phases = 2;
      ticks = 1;
      logs = 1;
      in_range = record {
        format_low = omega arith;
        format_high = omega arith;
        servers_low = omega arith;
        servers_high = omega arith;
        buckets_power = eight;
        buckets_low = omega arith;
        buckets_high = omega arith;
        buckets_of_format = omega arith;
        depth_low = omega arith;
        depth_high = omega arith;
        retained_low = omega arith;
        retained_high = omega arith;
        block_low = omega arith;
        block_high = omega arith;
        filter_power = sixty_four;
        filter_low = omega arith;
        filter_high = omega arith;
        hits_low = omega arith;
        hits_high = omega arith;
        ahead_high = omega arith;
        clients_low = omega arith;
        clients_high = omega arith;
        phases_low = omega arith;
        phases_high = omega arith;
        ticks_low = omega arith;
        ticks_high = omega arith;
        logs_low = omega arith;
        logs_high = omega arith;
        schedule = omega arith;
        table = omega arith;
        work = omega arith;
      };
    }

fresh_len : length (saved X1 []) ≡ 1353
unfolding spelling layout_on
fresh_len = refl

fresh_zeros : drop 57 (saved X1 []) ≡ replicate 1296 0
unfolding spelling layout_on
fresh_zeros = refl

abbrev three : List Placed
three =
    record { position = 1; entry = Write (record { client = 0; turn = 0; first = 1; second = 1; hits = 49 ∷ []; block = replicate 24 49 }) }
    ∷ record { position = 2; entry = Write (record { client = 1; turn = 0; first = 2; second = 2; hits = 18 ∷ []; block = replicate 24 18 }) }
    ∷ record { position = 3; entry = Mark 1 }
    ∷ []

three_len : length (saved X1 three) ≡ 1377
unfolding computing search_end levels_from spelling layout_on layout_with
three_len = refl

three_sound : first_refusal (restore_checks X1 (saved X1 three)) ≡ None
unfolding computing search_end levels_from spelling layout_on layout_with positions_from window_checks_from numbers
three_sound = refl

without_last : first_refusal (restore_checks X1 (take 1376 (saved X1 three))) ≡ Some (refusal.Length 1377 1376)
unfolding computing search_end levels_from spelling layout_on layout_with positions_from window_checks_from numbers
without_last = refl

last_byte : first_refusal (restore_checks X1 (slice_set (saved X1 three) 1376 1)) ≡ Some (refusal.Slot 7 3)
unfolding computing search_end levels_from spelling layout_on layout_with positions_from window_checks_from numbers
last_byte = refl
