-- The lines of the seeds stand after those of the handles.
use Rattle.tk_script.proofs.TextOfLaws.{keys_text}
use Rattle.tk_script.proofs.key_text.push_keys.Goals as goal

pub returns-clause-ok : goal.returns-clause-ok
returns-clause-ok c =
    keys_text c.args.keys.now c.in-Some.keys c.as_slice.result.now c.as_slice-2.result.now
    c.args.out.now.items c.in-Some.is c.as_slice.ensures c.as_slice-2.ensures
    c.in_ok-push_handles.ensures.ok c.in_ok-push_seeds.ensures.ok
