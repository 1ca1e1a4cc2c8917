-- The clients of a run between two turns, as those who write.
use Rattle.std.specs.Prelude.{◌≡◌, ℕ}
use Rattle.tk_script.specs.declared.script.Script.{Script}
use Rattle.tk_client.specs.Reader.{Reader}
use Rattle.tk_report.specs.Clients.{AreKnowing}
use Rattle.tk_report.specs.Queues.{said_before}
use Rattle.tk_report.specs.declared.group.Group.{Group}

-- they are so before turn g, where this is what each client knows
pub record IsGroup (S : Script) (knows : ℕ → Reader) (g : ℕ) (group : Group) : Type 0 where
  pub said : group.said ≡ said_before S g
  pub clients : AreKnowing S knows g group.clients.items

-- whatever each knows
pub record IsSomeGroup (S : Script) (g : ℕ) (group : Group) : Type 0 where
  pub knows : ℕ → Reader
  pub is : IsGroup S knows g group
