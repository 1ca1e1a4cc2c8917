-- What holds of a member before it has written or asked.
use Rattle.std.proofs.Common.{◌∙◌, ap, sym, arith, List, ℕ, length}
use Rattle.std.specs.Prelude.{Option, None}
use Rattle.std.specs.Option.{is_some}
use Rattle.std.proofs.lemmas.List.{length-replicate}
use Rattle.tk_shape.specs.declared.shape.Shape.{Shape}
use Rattle.tk_client.specs.declared.open_read.OpenRead.{OpenRead}
use Rattle.tk_member.specs.Keeping.{EpochsState}
use Rattle.tk_member.proofs.PacingLaws.{paced-first}
use Rattle.tk_member.proofs.member.Member.open.Goals as goal

pub invariant_of-result : goal.invariant_of-result
invariant_of-result c =
    let shape = c.shape.result.now in
    record {
      one_shape = ap (λ (e : EpochsState). e.shape) c.in_ok-epochs.ensures ∙ c.shape.ensures;
      open_is = sym (ap (λ (r : Option OpenRead). is_some r) c.requires.closed);
      paced = paced-first c.args.client c.requires;
      written_in = omega arith;
      asked_in = omega arith;
      ticks_in = omega arith;
      ahead_in = omega arith;
      replies_counted =
          ap (λ (rs : List (Option (List ℕ))). length rs) c.in_ok-replies.ensures
          ∙ length-replicate shape.servers None
          ∙ ap (λ (s : Shape). s.servers) c.shape.ensures;
    }
