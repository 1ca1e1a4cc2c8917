use Rattle.std.proofs.Common.{rules, ◌++◌, ap, ◌∙◌, replicate}
use Rattle.tk_handle.proofs.Joined.{four_parts}
use Rattle.tk_handle.proofs.handle.Handle.to_bytes.Goals as goal

pub returns : goal.returns
returns c =
    let h = c.args.self.now in
    four_parts (replicate 104 0) c.put.new.bytes c.put-2.new.bytes c.put-3.new.bytes c.put-4.new.bytes c.to_be_bytes.result h.seed1 h.seed2 h.key
    (search rules) (search rules) (search rules) (search rules) (search rules) c.put.ensures c.put-2.ensures c.put-3.ensures c.put-4.ensures
    ∙ ap (λ p. p ++ h.seed1 ++ h.seed2 ++ h.key) c.to_be_bytes.ensures
