use Rattle.std.proofs.Common.{◌≡◌, ◌∙◌, length, take, slice_index_or, ap, arith}
use Rattle.std.proofs.lemmas.List.{get_or-take}
use Rattle.tk_kernel.specs.Stripes.{chosen_of_eights}
use Rattle.tk_kernel.specs.Words.{bytes_of}
use Rattle.tk_kernel.specs.Xor.{xor_bytes}
use Rattle.tk_kernel.proofs.Passed.{begun, all_columns}
use Rattle.tk_kernel.proofs.columns.add_pass.Goals as goal

pub returns-clause-each : goal.returns-clause-each
returns-clause-each c =
    let size = c.args.pass.now.size in
    let bytes = c.args.pass.now.bytes in
    let blocks = c.args.pass.now.blocks.now in
    let start = c.args.sums.now in
    let all = c.words_of-room.result in
    let words = take (length start) all in
    let of_64 = c.add_stripes-done.ensures.front start c.requires.sized (begun size bytes blocks words start) in
    let of_32 = c.add_stripes-done-2.ensures.front start c.requires.sized of_64 in
    let of_16 = c.add_stripes-done-3.ensures.front start c.requires.sized of_32 in
    let of_8 = c.add_stripes-done-4.ensures.front start c.requires.sized of_16 in
    let of_1 = c.add_stripes.ensures.front start c.requires.sized of_8 in
    let last : c.add_stripes.result ≡ size = omega (arith, c.add_stripes.ensures.within, c.add_stripes.ensures.last) in
    λ k d e less.
    all_columns size c.add_stripes.result bytes blocks words start c.add_stripes.new.sums c.requires.blocks c.requires.sized last of_1 k d less
    ∙ ap (λ bits. xor_bytes (slice_index_or start k d).items (chosen_of_eights size bytes blocks bits))
    (ap (bytes_of bytes) (get_or-take (length start) all k 0 less) ∙ c.words_of-room.ensures k e (omega (arith, c.requires.same)))
