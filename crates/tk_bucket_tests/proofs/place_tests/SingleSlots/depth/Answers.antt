use Rattle.std.proofs.Common.{◌≡◌, length, rules}
use Rattle.tk_bucket_tests.proofs.Singles.{table_of_singles}
use Rattle.tk_bucket_tests.proofs.place_tests.SingleSlots.depth.Goals as goal

pub returns-clause-table : goal.returns-clause-table
returns-clause-table c =
    let long : length c.args.self.now.others ≡ 8 = search rules in
    table_of_singles c.args.self.now.others long
