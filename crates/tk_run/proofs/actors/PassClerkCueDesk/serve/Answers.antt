-- The pass ordered what its desk's frame spells, and pinned a set.
use Rattle.std.proofs.Common.{refl, subst, List, ℕ}
use Rattle.tk_cluster.specs.Passes.{WroteBytes}
use Rattle.tk_run.proofs.actors.PassClerkCueDesk.serve.Goals as goal

pub returns : goal.returns
returns g c good =
    record {
      frame = refl;
      deed = record { position = c.in-Ok.position; set = c.in-Ok-pin.set };
      lies = refl;
      mid = c.write.new.pass;
      wrote = subst (λ (bytes : List ℕ). WroteBytes g.B.Naming.shape bytes c.args.self.now
          c.write.new.pass)
          c.as_slice.ensures.value c.in-Ok.ensures.wrote;
      position = c.in-Ok.ensures.last;
      pins = c.in-Ok-pin.ensures.ok;
    }
