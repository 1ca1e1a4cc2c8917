-- What goes into an object, and comes out of one, in two steps.
use Rattle.std.proofs.Common.{◌≡◌, List, [], ℕ, ◌+◌, ◌-◌, ◌++◌, length, take, drop, Option, Some, None, refl, ap, sym, ◌∙◌, append_assoc, append-nil, take-add}
use Rattle.std.proofs.lemmas.List.{take_rest}
use Rattle.tk_io.specs.Content.{before_taking, gained}

pub before_taking-append : (a b : List ℕ) (rest : Option (List ℕ)) → before_taking (a ++ b) rest ≡ before_taking a (before_taking b rest)
before_taking-append a b None = refl
before_taking-append a b (Some rest) = ap Some (append_assoc a b rest)

pub before_taking-nothing : (left : Option (List ℕ)) → before_taking [] left ≡ left
before_taking-nothing None = refl
before_taking-nothing (Some rest) = refl

pub gained-twice : (held : Option (List ℕ)) (a b : List ℕ) → gained (gained held a) b ≡ gained held (a ++ b)
gained-twice None a b = refl
gained-twice (Some held) a b = ap Some (append_assoc held a b)

pub gained-nothing : (held : Option (List ℕ)) → gained held [] ≡ held
gained-nothing None = refl
gained-nothing (Some held) = ap Some (append-nil held)

-- two takings in a row
pub taken_more : (old middle new : Option (List ℕ)) (first second : List ℕ) → old ≡ before_taking first middle →
    middle ≡ before_taking second new → old ≡ before_taking (first ++ second) new
taken_more old middle new first second e f = e ∙ ap (before_taking first) f ∙ sym (before_taking-append first second new)

-- the next front of what is left of the bytes goes in
pub gained_more : (old middle new : Option (List ℕ)) (bytes : List ℕ) (done n : ℕ) → middle ≡ gained old (take done bytes) →
    new ≡ gained middle (take n (take (length bytes - done) (drop done bytes))) → new ≡ gained old (take (done + n) bytes)
gained_more old middle new bytes done n e f =
    f ∙ ap (λ xs. gained middle (take n xs)) (take_rest bytes done) ∙ ap (λ o. gained o (take n (drop done bytes))) e
    ∙ gained-twice old (take done bytes) (take n (drop done bytes)) ∙ ap (gained old) (sym (take-add done n bytes))
