-- The blocks so far lie behind what was there.
use Rattle.std.proofs.Common.{◌≡◌, ◌+◌, ◌-◌, ◌*◌, ◌≤◌, ◌++◌, length, take, vec_len, vec_capacity}
use Rattle.std.specs.List.{concat}
use Rattle.tk_checkpoint.proofs.append.put_blocks.Given as goal

abbrev pub invariant-loop-done : goal.invariant-loop-done
invariant-loop-done g l =
    let blocks = g.B.Blocks.blocks l.blocks in
    record {
      within : l.done ≤ length blocks;
      items : l.out.items ≡ l.fn.out.items ++ concat (take l.done blocks);
      len : vec_len l.out ≡ vec_len l.fn.out + l.done * g.B.Blocks.width l.blocks;
      capacity : vec_capacity l.fn.out ≤ vec_capacity l.out;
    }

abbrev pub decreases-loop-done : goal.decreases-loop-done
decreases-loop-done g l = l.count - l.done
