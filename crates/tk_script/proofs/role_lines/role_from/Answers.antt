-- The writer and the followers are in range, and the followers ascend.
use Rattle.std.proofs.Common.{◌≡◌, ◌∙◌, ◌-◌, length, take, drop, get_or, Some, None, true, false, ap, sym, rules}
use Rattle.std.proofs.lemmas.List.{take_rest}
use Rattle.tk_script.specs.Reading.{named, first_from}
use Rattle.tk_script.specs.SoundScript.{is_ascending}
use Rattle.tk_script.proofs.CauseLaws.{read_clients-none, read_clients-number, read_clients-order, read_clients-role, one_in_front}
use Rattle.tk_script.proofs.RoleLaws.{ok_role}
use Rattle.tk_script.proofs.role_lines.role_from.Goals as goal

pub returns-in_default : goal.returns-in_default
returns-in_default c =
    sym (read_clients-none (named c.args.shape.now) c.args.numbers.now c.in_default.len_below)

pub returns-in-Some : goal.returns-in-Some
returns-in-Some c =
    let first : first_from c.args.shape.now.clients c.args.numbers.now ≡ Some c.in-Some.value.now =
    search rules in
    sym (read_clients-number (named c.args.shape.now) c.args.numbers.now c.in-Some.value.now first)

pub returns-then-not-ascends : goal.returns-then-not-ascends
returns-then-not-ascends c =
    let ns = c.args.numbers.now in
    let none : first_from c.args.shape.now.clients ns ≡ None = search rules in
    let seen : is_ascending (take (length ns - 1) (drop 1 ns)) ≡ false = search rules in
    let falls = ap is_ascending (sym (take_rest ns 1)) ∙ seen in
    sym (read_clients-order (named c.args.shape.now) ns (get_or ns 0 0) (drop 1 ns)
    (one_in_front ns c.in-len1-up.len_at_least) none falls)

pub returns : goal.returns
returns c =
    let ns = c.args.numbers.now in
    let none : first_from c.args.shape.now.clients ns ≡ None = search rules in
    let seen : is_ascending (take (length ns - 1) (drop 1 ns)) ≡ true = search rules in
    let ascends = ap is_ascending (sym (take_rest ns 1)) ∙ seen in
    ap (ok_role (get_or ns 0 0)) (c.in_ok-from_slice.ensures ∙ take_rest ns 1)
    ∙ sym (read_clients-role (named c.args.shape.now) ns (get_or ns 0 0) (drop 1 ns)
    (one_in_front ns c.in-len1-up.len_at_least) none ascends)
