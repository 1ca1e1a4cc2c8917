-- The digits are those of the handle's bytes.
use Rattle.std.proofs.Common.{◌≡◌, ◌∙◌, Ok, ap, subst, sym, length, codes, refl, rules}
use Rattle.std.specs.Prelude.{IfSome}
use Rattle.hex.specs.Hex.{decode_of, IsBytes}
use Rattle.hex.proofs.HexLemmas.{decode_of-ok}
use Rattle.tk_script.specs.Grammar.{IsHandle}
use Rattle.tk_script.specs.Reading.{seen_as, handle_in, read_handle}
use Rattle.tk_script.proofs.CauseLaws.{lacks_by_test}
use Rattle.tk_script.proofs.HexLaws.{read_bytes-form, read_bytes-taken, some_taken, none_taken}
use Rattle.tk_script.proofs.KeyLaws.{the_handle}
use Rattle.tk_script.proofs.key_lines.handle_of.Goals as goal

pub returns-in_err-digits : goal.returns-in_err-digits
returns-in_err-digits c =
    none_taken c.from_residual.result (read_handle c.args.line.now) (search rules)
    (ap (seen_as handle_in) (read_bytes-form (codes "handle") c.args.line.now 104
    (λ bytes t. c.in_err-digits.ensures.only t.digits t.spelled)))

pub returns-in_err-bytes : goal.returns-in_err-bytes
returns-in_err-bytes c =
    none_taken c.from_residual-in_err-bytes.result (read_handle c.args.line.now) (search rules)
    (ap (seen_as handle_in) (read_bytes-form (codes "handle") c.args.line.now 104 (λ bytes t.
    let digits = c.in_ok-digits.ensures.only t.digits t.spelled in
    absurd (cc (c.in_err-bytes.ensures.only bytes (ap decode_of digits ∙ t.decoded) t.counted)))))

pub returns : goal.returns
returns c =
    let seen : c.as_slice.result.now ≡ c.in_ok-bytes.bytes = search rules in
    let sound : IfSome c.from_bytes.result IsHandle = search rules in
    let are = (decode_of-ok c.in_ok-digits.digits.now c.in_ok-bytes.bytes
    c.in_ok-bytes.ensures.found).3 in
    let said = read_bytes-taken (codes "handle") c.args.line.now c.in_ok-digits.digits.now
    c.in_ok-bytes.bytes 104 (lacks_by_test (codes "handle") refl) c.in_ok-digits.ensures.found
    c.in_ok-bytes.ensures.found c.in_ok-bytes.ensures.counted in
    let handle = the_handle c.from_bytes.result c.as_slice.result.now
    (c.from_bytes.ensures.whole.1 (ap length seen ∙ c.in_ok-bytes.ensures.counted)) sound
    c.from_bytes.ensures.found (subst IsBytes (sym seen) are) in
    some_taken c.from_bytes.result (handle_in c.as_slice.result.now) (read_handle c.args.line.now)
    handle (ap (seen_as handle_in) said ∙ ap (λ bytes. Ok (handle_in bytes)) (sym seen))
