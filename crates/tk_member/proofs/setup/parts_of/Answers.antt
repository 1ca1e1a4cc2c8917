-- The first four bytes are the number's spelling.
use Rattle.std.proofs.Common.{◌∙◌, ◌++◌, ap, arith, ℕ, List, drop}
use Rattle.std.proofs.lemmas.List.{take_rest}
use Rattle.tk_frames.specs.Spelling.{be32}
use Rattle.tk_member.proofs.SetUpLaws.{front-joined}
use Rattle.tk_member.proofs.setup.parts_of.Goals as goal

pub returns-clause-whole : goal.returns-clause-whole
returns-clause-whole c =
    let bytes = c.args.bytes.now in
    ap (λ (text : List ℕ). be32 c.u32_at.result ++ text) (take_rest bytes 4)
    ∙ ap (λ (n : ℕ). be32 n ++ drop 4 bytes) c.u32_at.ensures
    ∙ front-joined bytes (λ i. omega (arith, c.type_inv.bytes i)) c.requires
