-- The numbers so far lie behind what was there.
use Rattle.std.proofs.Common.{◌≡◌, ◌+◌, ◌*◌, ◌≤◌, ◌++◌, take, vec_len, vec_capacity}
use Rattle.std.specs.List.{flat_map}
use Rattle.tk_frames.specs.Spelling.{be32}
use Rattle.tk_checkpoint.proofs.append.put_words.Given as goal

abbrev pub invariant-loop-word : goal.invariant-loop-word
invariant-loop-word l =
    record {
      items : l.out.items ≡ l.initial.out.items ++ flat_map be32 (take l.word-index l.words);
      len : vec_len l.out ≡ vec_len l.initial.out + 4 * l.word-index;
      capacity : vec_capacity l.initial.out ≤ vec_capacity l.out;
    }
