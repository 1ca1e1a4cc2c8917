use Rattle.std.proofs.lemmas.Nat.{and_mask}
use Rattle.tk_bucket.proofs.cut.Cut.place_in.Goals as goal

pub returns-clause-bucket : goal.returns-clause-bucket
returns-clause-bucket c = rw c.args.self.power (and_mask c.args.at.bucket c.args.self.shift)
