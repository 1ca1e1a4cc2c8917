-- The first server has counted those of what it holds.
use Rattle.std.proofs.Common.{◌∙◌, ap}
use Rattle.tk_run.specs.declared.server.Server.{Server}
use Rattle.tk_run.proofs.TakingLaws.{first-displaced}
use Rattle.tk_run.proofs.servers.Servers.displaced.Goals as goal

pub returns : goal.returns
returns c = λ shape Es seen are.
    ap (λ (s : Server). s.displaced) c.index.ensures
    ∙ first-displaced shape Es seen c.args.self.now.list.items c.index.result.now are
