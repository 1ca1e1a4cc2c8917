-- What is shown is a tape of either shape, and so is the tape over which the other shows it.
use Rattle.std.proofs.Common.{◌∙◌, ap, length}
use Rattle.tk_shape.specs.Lengths.{tape_len}
use Rattle.tk_privacy.proofs.PrivacyLaws.{length-normal, length-unnormal}
use Rattle.tk_privacy.proofs.mirrored_tape.mirror.Goals as goal

pub unnormal-requires-clause-whole : goal.unnormal-requires-clause-whole
unnormal-requires-clause-whole c =
    let A = c.args.a.now in
    let same = c.in_ok-check_mirror.ensures.one_shape in
    let tape = ap length c.as_bytes.ensures ∙ c.requires.whole in
    ap length (c.as_slice.ensures.value ∙ c.in_ok-shown.ensures)
    ∙ length-normal A c.args.history.now c.args.hidden c.as_bytes.result.now tape
    ∙ ap tape_len same

pub tape_of-requires : goal.tape_of-requires
tape_of-requires c =
    let A = c.args.a.now in
    let H = c.args.history.now in
    let h = c.args.hidden in
    let same = c.in_ok-check_mirror.ensures.one_shape in
    let tape = ap length c.as_bytes.ensures ∙ c.requires.whole in
    let shown = ap length (c.as_slice.ensures.value ∙ c.in_ok-shown.ensures)
    ∙ length-normal A H h c.as_bytes.result.now tape ∙ ap tape_len same in
    ap length c.in_ok-mirrored.ensures
    ∙ length-unnormal c.args.b.now H h c.in_ok-check_mirror.ensures.low c.as_slice.result.now shown
