-- Eight bytes are the spellings of two numbers.
use Rattle.std.proofs.Common.{◌++◌, ap, ◌∙◌, arith}
use Rattle.tk_frames.specs.Spelling.{be32}
use Rattle.tk_frames.specs.Fields.{number_at}
use Rattle.tk_packets.proofs.Heads.{head-joined}
use Rattle.tk_packets.proofs.next.two_numbers.Goals as goal

pub returns-clause-spelled : goal.returns-clause-spelled
returns-clause-spelled c =
    let bytes = c.args.bytes.now in
    ap (λ n. be32 n ++ be32 c.u32_at-2.result) c.u32_at.ensures
    ∙ ap (λ n. be32 (number_at 0 bytes) ++ be32 n) c.u32_at-2.ensures
    ∙ head-joined bytes (λ i. omega (arith, c.type_inv.bytes i)) c.requires
