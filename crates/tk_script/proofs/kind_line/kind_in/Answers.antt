-- The line is one of the two words, where it may stand, and a drawn tape fits.
use Rattle.std.proofs.Common.{◌≡◌, ◌∙◌, ◌<◌, ◌≤◌, true, false, sym, rules}
use Rattle.tk_shape.specs.Lengths.{tape_len}
use Rattle.tk_script.specs.Reading.{named}
use Rattle.tk_script.proofs.CauseLaws.{read_kind-keyed, read_kind-drawn, read_kind-long, read_kind-form}
use Rattle.tk_script.proofs.kind_line.kind_in.Goals as goal

pub returns-then-is_keyed : goal.returns-then-is_keyed
returns-then-is_keyed c =
    let is : c.is_keyed.result ≡ true = search rules in
    sym (read_kind-keyed c.args.kinds (named c.args.shape.now) c.args.line.now
    (sym c.is_keyed.ensures ∙ is))

pub returns-then-not-is_drawn : goal.returns-then-not-is_drawn
returns-then-not-is_drawn c =
    let keyed : c.is_keyed.result ≡ false = search rules in
    let drawn : c.is_drawn.result ≡ false = search rules in
    sym (read_kind-form c.args.kinds (named c.args.shape.now) c.args.line.now
    (sym c.is_drawn.ensures ∙ drawn) (sym c.is_keyed.ensures ∙ keyed))

pub returns-then-value-gt-MOST_TAPE : goal.returns-then-value-gt-MOST_TAPE
returns-then-value-gt-MOST_TAPE c =
    let drawn : c.is_drawn.result ≡ true = search rules in
    let value : c.tape_len-value.result ≡ tape_len c.args.shape.now = search rules in
    let long : 2097152 < c.tape_len-value.result = search rules in
    sym (read_kind-long c.args.kinds c.args.shape.now c.args.line.now c.tape_len-value.result
    (sym c.is_drawn.ensures ∙ drawn) value long)

pub returns : goal.returns
returns c =
    let drawn : c.is_drawn.result ≡ true = search rules in
    let value : c.tape_len-value.result ≡ tape_len c.args.shape.now = search rules in
    let short : c.tape_len-value.result ≤ 2097152 = search rules in
    sym (read_kind-drawn c.args.kinds c.args.shape.now c.args.line.now c.tape_len-value.result
    (sym c.is_drawn.ensures ∙ drawn) value short)
