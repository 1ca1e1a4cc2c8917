use Rattle.std.proofs.Common.{ap, ◌∙◌, List, ℕ, length}
use Rattle.tk_kernel.specs.Xor.{xor_bytes}
use Rattle.tk_seal.specs.Seal.{plain}
use Rattle.tk_kernel.proofs.Offers.{xor_bytes_comm}
use Rattle.tk_seal.proofs.masking.mask.Goals as goal

pub returns : goal.returns
returns c =
    let pad = c.args.pad.now in
    let text = c.args.text.now in
    c.xor_into.ensures ∙ ap (λ (xs : List ℕ). xor_bytes xs pad) c.plain.ensures ∙ ap (λ n. xor_bytes (plain n text) pad) c.requires.room
    ∙ xor_bytes_comm (plain (length pad) text) pad
