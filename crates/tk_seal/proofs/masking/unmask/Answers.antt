use Rattle.std.proofs.Common.{◌≡◌, length, rules}
use Rattle.tk_seal.proofs.PlainForms.{text_in_zeros}
use Rattle.tk_seal.proofs.masking.unmask.Goals as goal

pub returns-clause-padded : goal.returns-clause-padded
returns-clause-padded c =
    let len : length c.copy_from_slice-2.new.self ≡ c.in-Some.len = search rules in
    text_in_zeros c.copy_from_slice-2.new.self c.fill.new.self c.in-Some.len (length c.args.out.now) len (search rules) (c.fill.ensures.after (λ y e. e))
