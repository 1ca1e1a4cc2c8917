-- All passes are there when the cluster opens and when it is closed.
use Rattle.std.proofs.Common.{◌≡◌, ◌++◌, ◌∙◌, sym, ap, subst, arith, length, take, drop}
use Rattle.std.proofs.Math.Seq.{take-append_seam}
use Rattle.tk_cluster.specs.Closings.{AllOnce}
use Rattle.tk_cluster.proofs.Offers.{opened_once}
use Rattle.tk_cluster_tests.proofs.thread_tests.two_phases.Goals as goal

pub phases-notes-requires-after_bounds : goal.phases-notes-requires-after_bounds
phases-notes-requires-after_bounds g c κs within =
    subst (AllOnce g.B.Naming.shape c.in-Ok.publisher.board) (sym c.as_mut_slice.ensures.value)
    (opened_once g.B.Naming.shape c.in-Ok.publisher c.in-Ok.passes.items c.in-Ok.ensures)

pub closed-requires : goal.closed-requires
closed-requires g c =
    let xs = c.in-Ok.passes.items in
    let zs = c.phases-notes.new.passes in
    let long : length zs ≡ c.in-Ok.passes.len =
    omega (arith, c.phases-notes.auto.passes, ap length c.as_mut_slice.ensures.value, c.in-Ok.passes.ok.0)
    in
    let all : take c.in-Ok.passes.len (zs ++ drop (length zs) xs) ≡ zs =
    ap (λ n. take n (zs ++ drop (length zs) xs)) (sym long)
    ∙ take-append_seam zs (drop (length zs) xs) in
    subst (AllOnce g.B.Naming.shape c.phases-notes.new.herald.publisher.board) (sym all) c.phases-notes.ensures
