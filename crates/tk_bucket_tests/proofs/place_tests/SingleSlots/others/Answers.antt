use Rattle.std.proofs.Common.{◌<◌, length, arith}
use Rattle.std.proofs.lemmas.List.{length-map}
use Rattle.tk_bucket_tests.proofs.Singles.{single, row_of_single}
use Rattle.tk_bucket_tests.proofs.place_tests.SingleSlots.others.Goals as goal

pub returns : goal.returns
returns c =
    let xs = c.args.self.now.others in
    let within : c.args.bucket < length xs = omega (arith, c.requires.within, length-map xs single) in
    row_of_single xs c.args.bucket _ within (omega arith) c.requires.full
