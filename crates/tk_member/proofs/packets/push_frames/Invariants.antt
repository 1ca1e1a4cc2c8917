-- What was sent so far, and what is left to be sent.
use Rattle.std.proofs.Common.{◌≡◌, ◌++◌, ◌+◌, drop}
use Rattle.tk_member.specs.Acting.{packets_from}
use Rattle.tk_member.proofs.packets.push_frames.Given as goal

abbrev pub invariant-frames : goal.invariant-frames
invariant-frames l =
    record {
      peer : l.peer ≡ l.frame-index + 1;
      sent : l.out.items ++ packets_from l.peer (drop l.frame-index l.frames)
          ≡ l.fn.out.items ++ packets_from 1 l.frames;
    }
