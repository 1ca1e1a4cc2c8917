-- What was left is the front that was copied and the rest.
use Rattle.std.proofs.Common.{ap, sym, ◌∙◌, Some, rules}
use Rattle.tk_io.specs.InMemory.{SourceState}
use Rattle.tk_io.proofs.Pieces.{front_copied}
use Rattle.tk_io.proofs.memory_source.MemSourceSource.take.Goals as goal

pub returns-clause-bytes : goal.returns-clause-bytes
returns-clause-bytes c =
    let was = ap (λ (s : SourceState). s.left) (sym c.self.view_is) in
    ap Some (was ∙ front_copied c.self.inside.bytes.items c.copy_from_slice.new.self _ c.self.inside.at c.min-n.result (search rules) (search rules))
