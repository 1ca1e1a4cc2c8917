-- The bytes of a handle are those that its arrays hold.
use Rattle.std.proofs.Common.{subst, rules}
use Rattle.hex.specs.Hex.{IsBytes}
use Rattle.tk_script.proofs.key_text.push_handle.Goals as goal

pub returns-clause-has : goal.returns-clause-has
returns-clause-has c =
    let are : IsBytes c.to_bytes.result = search rules in
    record { is = search rules; bytes = subst IsBytes c.to_bytes.ensures are }
