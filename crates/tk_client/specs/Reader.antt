-- What a reader reads: the target of each read, and what the reader knows after it.
use Rattle.std.specs.Prelude.{ℕ, ◌+◌, ◌-◌, ◌%◌, ◌==◌, nat_lt, Bool, ◌&&◌, cond, List, [], ◌∷◌, ◌++◌}
use Rattle.std.specs.Prelude.{length, map, filter, find, replicate, slice_index_or, slice_set}
use Rattle.std.specs.Prelude.{Option, Some, None, option_map}
use Rattle.std.specs.List.{range_with_len}
use Rattle.tk_shape.specs.declared.shape.Shape.{Shape}
use Rattle.tk_client.specs.declared.got.Got.{Got}
use Rattle.tk_client.specs.declared.got.Got.TheVariants.{Absent, Text}
pub use Rattle.tk_client.specs.declared.target.Target.{Target}
use Rattle.tk_frames.specs.Lists.{first_some}
use Rattle.tk_shape.specs.Lengths.{turn_count}

-- a log that is followed: what its numbers gave so far, one for each number below the next, and how
-- many numbers from the next one on were asked for in vain in this epoch
pub record Follow : Type 0 where
  pub log : ℕ
  pub got : List Got
  pub tried : ℕ

-- the number that comes next
abbrev pub next_of : Follow → ℕ
next_of f = length f.got

-- the logs that are followed, the place among them where the next search begins, and the last epoch
-- read
pub record Reader : Type 0 where
  pub follows : List Follow
  pub cursor : ℕ
  pub last : ℕ

abbrev pub new_follow : ℕ → Follow
new_follow log = record { log = log; got = []; tried = 0 }

abbrev pub new_reader : List ℕ → Reader
new_reader logs = record { follows = map new_follow logs; cursor = 0; last = 0 }

abbrev pub untried : Follow → Follow
untried f = record f { tried = 0 }

-- a new epoch may show what the last one did not
abbrev pub at_epoch : ℕ → Reader → Reader
at_epoch e r =
    cond (e == r.last) r
    (record { follows = map untried r.follows; cursor = r.cursor; last = e })

-- how far ahead the number wanted of a log is: the least that is shown and not tried yet; without
-- reading ahead the next one
abbrev pub wanted : Shape → (ℕ → ℕ → Bool) → Follow → Option ℕ
wanted shape shown f =
    cond (shape.ahead == 0)
    (cond (nat_lt (next_of f) (turn_count shape)) (Some 0) None)
    (find (λ j. nat_lt (next_of f + j) (turn_count shape) && shown f.log (next_of f + j))
    (range_with_len f.tried (shape.ahead - f.tried)))

-- the log at a place of these
abbrev pub follow_in : List Follow → ℕ → Follow
follow_in follows i = slice_index_or follows i (new_follow 0)

abbrev pub follow_at : Reader → ℕ → Follow
follow_at r i = follow_in r.follows i

-- the number of a log that is so far ahead of the next one
abbrev pub number_ahead : ℕ → Follow → ℕ → Target
number_ahead place f j =
    record { place = place; log = f.log; number = next_of f + j; ahead = j }

-- the number that is wanted of the log at a place of these, if one is
abbrev pub target_in : Shape → (ℕ → ℕ → Bool) → List Follow → ℕ → Option Target
target_in shape shown follows i =
    option_map (number_ahead i (follow_in follows i)) (wanted shape shown (follow_in follows i))

-- the places from the cursor on, and then those before it
abbrev pub places_from_cursor : Reader → List ℕ
places_from_cursor r =
    range_with_len r.cursor (length r.follows - r.cursor) ++ range_with_len 0 r.cursor

-- The first log, cyclically from the cursor, of which a number is wanted; none for a dummy read.
-- The reader is the one at the read's epoch, and shown says which numbers of which logs its filter
-- shows.
unfoldable pub target : Shape → (ℕ → ℕ → Bool) → Reader → Option Target
target shape shown r = first_some (target_in shape shown r.follows) (places_from_cursor r)

-- a log after a read of the number that is j ahead: found, it and those before it are settled
abbrev pub follow_after : Shape → ℕ → Option (List ℕ) → Follow → Follow
follow_after shape j (Some text) f =
    record { log = f.log; got = f.got ++ replicate j Absent ++ Text text ∷ []; tried = 0 }
follow_after shape j None f = cond (shape.ahead == 0) f (record f { tried = j + 1 })

-- the reader after a read and its answer; a dummy's answer is dropped
unfoldable pub after_read : Shape → Reader → Option Target → Option (List ℕ) → Reader
after_read shape r None answer = r
after_read shape r (Some t) answer =
    record r {
      follows = slice_set r.follows t.place
          (follow_after shape t.ahead answer (follow_at r t.place));
      cursor = (t.place + 1) % length r.follows;
    }

abbrev pub first_got : List Follow → List Got
first_got [] = []
first_got (f ∷ fs) = f.got

-- what a log gave to one who follows these; nothing where it isn't among them
abbrev pub got_in : List Follow → ℕ → List Got
got_in follows log = first_got (filter (λ f. f.log == log) follows)
