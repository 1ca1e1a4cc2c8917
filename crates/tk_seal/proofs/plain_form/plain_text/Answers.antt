use Rattle.std.proofs.Common.{◌≡◌, ◌∙◌, ◌+◌, ◌*◌, ℕ, List, take, drop, get_or, IsTrue, arith, replicate, length, sym, subst, ap}
use Rattle.std.proofs.Math.Facts.{Fits-lt-pow}
use Rattle.std.proofs.lemmas.List.{take_rest}
use Rattle.tk_seal.specs.Texts.{is_allowed}
use Rattle.tk_seal.proofs.PlainForms.{is_form}
use Rattle.tk_seal.proofs.plain_form.plain_text.Goals as goal

pub returns-clause-text : goal.returns-clause-text
returns-clause-text c =
    let bytes = c.args.bytes.now in
    let len : c.from-len.result ≡ get_or bytes 0 0 * 256 + get_or bytes 1 0 = c.from-len.ensures ∙ c.from_be_bytes.ensures in
    let text : c.split_at.result.0.now ≡ take c.from-len.result (drop 2 bytes) = c.split_at.ensures.front ∙ ap (take c.from-len.result) (take_rest bytes 2) in
    let zeros : c.split_at.result.1.now ≡ drop c.from-len.result (drop 2 bytes) = c.split_at.ensures.back ∙ ap (drop c.from-len.result) (take_rest bytes 2) in
    is_form bytes c.from-len.result (λ i. Fits-lt-pow (c.type_inv.bytes i)) len (omega arith)
    (subst (λ xs. IsTrue (is_allowed xs)) text (c.allowed.ensures.none.0 (sym c.if-is_some.ensures)))
    (subst (λ (xs : List ℕ). xs ≡ replicate (length xs) 0) zeros (c.is_zeros.ensures.0 c.if-not-is_zeros.false))
