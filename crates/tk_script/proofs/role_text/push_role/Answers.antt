-- The word, the writer, the followers and the end are the line.
use Rattle.tk_script.proofs.TextOfLaws.{role_text}
use Rattle.tk_script.proofs.role_text.push_role.Goals as goal

pub returns : goal.returns
returns c = record {
  ok =
      role_text c.args.role.now.writer c.args.role.now.followers c.as_slice.result.now
      c.args.out.now.items c.as_slice.ensures c.in_ok-extend_from_slice.ensures.items
      c.in_ok-push_field.ensures.ok c.in_ok-push_fields.ensures.ok c.in_ok-push.ensures.items;
}
