-- The texts of earlier turns stand first.
use Rattle.std.proofs.Common.{ltb, ltb-true, rules}
use Rattle.std.proofs.lemmas.Bool.{ltb-false}
use Rattle.std.proofs.lemmas.List.Sorted.{IsPartitionPoint-from_clause, IsPartitionedBy-ltb}
use Rattle.tk_script.specs.Sent.{Sending}
use Rattle.tk_report.proofs.sendings.first_from.Goals as goal

pub returns : goal.returns
returns c =
    let parted =
    IsPartitionedBy-ltb (λ (y : Sending). y.turn) c.args.sent.now c.args.turn c.requires
    in
    let point = IsPartitionPoint-from_clause (λ (y : Sending). ltb y.turn c.args.turn)
    c.args.sent.now _ c.partition_point.ensures.partitioned parted (λ a r q k. search rules)
    in (
      λ k d low high. ltb-true _ c.args.turn (point.0 k d low high),
      λ k d low high. ltb-false _ c.args.turn (point.1 k d low high),
    )
