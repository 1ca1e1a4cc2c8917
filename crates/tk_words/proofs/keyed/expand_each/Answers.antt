-- What the next seed expands to comes after what those before it did.
use Rattle.std.proofs.Common.{◌≡◌, ◌+◌, ◌-◌, ◌*◌, ◌++◌, ◌∙◌, length, take, drop, ap, sym, subst}
use Rattle.std.specs.List.{flat_map}
use Rattle.tk_kernel.specs.Pieces.{pieces}
use Rattle.tk_handle.specs.Handle.{expanded}
use Rattle.tk_handle.proofs.Offers.{length-key_bytes}
use Rattle.tk_words.proofs.Written.{part_written, pieces_left}
use Rattle.tk_words.proofs.keyed.expand_each.Goals as goal

pub seeds-preserved : goal.seeds-preserved
seeds-preserved c =
    let size = c.args.size in
    let i = c.seeds.i in
    let count = c.args.count in
    let rest = c.seeds.rest.now in
    let low = c.seeds-test.true in
    let seed = c.split_at.result.0.now in
    let part = expanded size seed in
    let long : length part ≡ size = length-key_bytes seed 0 0 size in
    let room : length c.seeds.out ≡ count * size = c.seeds.auto.out ∙ c.requires.room in
    let written = c.expand.ensures ∙ ap (λ n. take (i * size) c.seeds.out ++ part ++ drop (i * size + n) c.seeds.out) (sym long) in (
      pieces_left 32 i count (length rest) (length c.split_at.result.1.now) low c.seeds.invariant.0 c.split_at.ensures.back_len,
      subst (λ xs. take ((i + 1) * size) c.expand.new.out ++ flat_map (expanded size) (pieces 32 (count - (i + 1)) xs)
          ≡ flat_map (expanded size) (pieces 32 count c.args.seeds.now)) (sym c.split_at.ensures.back)
          (part_written (expanded size) size 32 i count c.seeds.out c.expand.new.out part rest _ low room written
          (ap (expanded size) c.split_at.ensures.front) long c.seeds.invariant.1),
    )
