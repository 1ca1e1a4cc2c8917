-- No replica has applied anything.
use Rattle.std.proofs.Common.{◌≡◌, ◌∙◌, ◌+◌, ap, ap₂, arith, List, [], ◌∷◌, ℕ, length, length-append}
use Rattle.tk_frames.specs.declared.entry.Placed.{Placed}
use Rattle.tk_core.proofs.Worlds.{new-push, applied-opened}
use Rattle.tk_core.proofs.world.World.open.Goals as goal

pub loop-preserved : goal.loop-preserved
loop-preserved c =
    let rs = c.loop.replicas.items in
    let new = c.in_ok-open.field-0 in
    let pushed = c.in_ok-push.ensures.items in
    let so_far = c.loop.invariant in
    let counted = so_far.counted in
    let long : length c.push.new.self.items ≡ length rs + 1 =
    ap length pushed ∙ length-append rs (new ∷ [])
    in
    record {
      counted = omega (arith, long, counted);
      new =
          new-push c.args.shape.now rs c.push.new.self.items new pushed
          (record { stands = c.in_ok-open.ensures.stands; floor = c.in_ok-open.ensures.floor })
          so_far.new;
    }

pub returns-clause-machine : goal.returns-clause-machine
returns-clause-machine c =
    let so_far = c.loop.invariant in
    let counted : length c.loop.replicas.items ≡ c.args.shape.now.servers =
    omega (arith, so_far.counted)
    in
    ap₂ (λ (o : List Placed) (ns : List ℕ). record {
      order = o;
      applied = ns;
      shown =
          0;
    }) c.new.ensures.items
    (applied-opened c.args.shape.now c.loop.replicas.items c.args.shape.now.servers counted
    so_far.new)
