-- A run begins with its first block.
use Rattle.std.proofs.Common.{◌∙◌, sym, subst}
use Rattle.tk_answer.specs.Runs.{IsRun}
use Rattle.tk_bucket.specs.Bytes.{BlockList}
use Rattle.tk_kernel.specs.Pieces.{AllSized}
use Rattle.tk_core.proofs.Steps.{run-first}
use Rattle.tk_core.proofs.world.block.Goals as goal

pub returns : goal.returns
returns c =
    let blocks = c.args.epoch.now.blocks.blocks in
    let width = c.width-width.result in
    let run = c.run.result.now in
    let sized : AllSized width blocks =
    subst (λ (b : BlockList). AllSized width b.blocks) c.blocks-2.ensures
    (subst (λ n. AllSized n c.blocks-2.result.now.blocks)
    (sym c.width-width.ensures.width) c.width-width.ensures.each)
    in
    let is_run : IsRun blocks c.args.i run =
    subst (λ (b : BlockList). IsRun b.blocks c.args.i run) c.blocks-3.ensures c.run.ensures
    in
    c.in_ok-from_slice.ensures
    ∙ run-first width c.args.i blocks run sized c.requires is_run
