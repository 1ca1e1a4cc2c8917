-- A form that isn't refused, with objects that don't fail, ends with Done or Memory.
use Rattle.std.proofs.Common.{◌≡◌, ◌∙◌, ◌⊎◌, ◌++◌, ◌≤◌, refl, ap, sym, subst, inl, inr}
use Rattle.std.proofs.Common.{ℕ, List, [], length, Option, Some, length-append, append-nil, arith}
use Rattle.std.specs.Prelude.{None}
use Rattle.tk_io.specs.Content.{TakesUpTo, before_taking, emptied}
use Rattle.tk_script.specs.Grammar.{Spells}
use Rattle.tk_script.specs.Laws.{SpellsOne}
use Rattle.tk_cli.specs.Limits.{input_limit}
use Rattle.tk_cli.specs.declared.request.Request.{Request}
use Rattle.tk_cli.specs.declared.request.Request.TheVariants as request
use Rattle.tk_cli.specs.declared.status.Status.{Status}
use Rattle.tk_cli.specs.declared.status.Status.TheVariants as status
use Rattle.tk_cli.specs.declared.ended.Ended.{Ended}
use Rattle.tk_cli.specs.Puts.{PutsSome}
use Rattle.tk_cli.specs.Inputs.{TakesAll, IsRefusedWith, form_of, refusal_of}
use Rattle.tk_cli.specs.Outside.{Outside}
use Rattle.tk_cli.specs.Endings.{EndsWith}
use Rattle.tk_cli.specs.Completeness.{NoFault, HasAccepted, Completes}

-- ---- what was taken of what was left

some-same : (a b : List ℕ) → Some a ≡ Some b → a ≡ b
some-same a b is = cc

-- all that was left is what was taken
all-taken : (bytes taken : List ℕ) (left left' : Option (List ℕ)) → left ≡ Some bytes →
    TakesAll taken left left' → taken ≡ bytes
all-taken bytes taken left left' is all =
    let gone : left' ≡ Some [] = all.emptied ∙ ap emptied is in
    let same : Some (taken ++ []) ≡ Some bytes =
    sym (ap (before_taking taken) gone) ∙ sym all.taken ∙ is in
    sym (append-nil taken) ∙ some-same (taken ++ []) bytes same

-- no more is taken than was left
short-taken : (bytes taken : List ℕ) (left left' : Option (List ℕ)) → left ≡ Some bytes →
    left ≡ before_taking taken left' → length taken ≤ length bytes
short-taken bytes taken left None is takes = absurd (none-some (sym takes ∙ is))
  where
    none-some : (let n : Option (List ℕ) = None in n ≡ Some bytes) → ⊥
    none-some e = cc
short-taken bytes taken left (Some rest) is takes =
    let same = ap length (some-same (taken ++ rest) bytes (sym takes ∙ is)) in
    omega (arith, same, length-append taken rest)

-- ---- by the status

refused-not : (one : SpellsOne) (r : Request) (s : Status) (old new : Outside) →
    IsRefusedWith r s old.left new.left → HasAccepted r old → ⊥
refused-not one r s old new refused has =
    let same = all-taken has.bytes refused.read.bytes old.left new.left has.left refused.read.all in
    let spelled = subst (λ b. Spells (form_of r) b refused.input) same refused.read.spelled in
    let input = one (form_of r) has.bytes refused.input has.input spelled has.spelled in
    none-some (sym has.accepted ∙ sym (ap (refusal_of r) input) ∙ refused.refused)
  where
    none-some : (let n : Option Status = None in n ≡ Some s) → ⊥
    none-some e = cc

reading : (one : SpellsOne) (s : Status) (r : Request) (e : Ended) (old new : Outside) →
    EndsWith s r e old new → HasAccepted r old → NoFault old new →
    ((taken : List ℕ) × TakesUpTo input_limit old.left new.left (s ≡ status.TooLong) taken) →
    (s ≡ status.Done) ⊎ (s ≡ status.Memory)
reading one status.Done r e old new how has none taken = inl refl
reading one status.Memory r e old new how has none taken = inr refl
reading one status.Usage r e old new how has none taken = absurd how.0
reading one (status.Script line c) r e old new how has none taken =
    let refuses = how.0 in
    let same = all-taken has.bytes refuses.bytes old.left new.left has.left refuses.all in
    absurd (refuses.none has.input
    (subst (λ b. Spells (form_of r) b has.input) (sym same) has.spelled))
reading one status.Read r e old new how has none taken = absurd (none.source how.0)
reading one status.Write r e old new (handed, inl fails) has none taken =
    absurd (none.sink fails.rose)
reading one status.Write r e old new (handed, inr fails) has none taken =
    absurd (none.taps fails.rose)
reading one status.TooLong r e old new how has none taken =
    let short = short-taken has.bytes taken.0 old.left new.left has.left taken.1.bytes in
    let long = taken.1.exactly.0 refl in
    absurd (omega (arith, short, long, has.within))
reading one s r e old new how has none taken = absurd (refused-not one r s old new how.0 has)

writing : (Is : List ℕ → Type 0) (s : Status) (old new : Outside) →
    PutsSome Is s old.held new.held old.sink_faults new.sink_faults → NoFault old new →
    (s ≡ status.Done) ⊎ (s ≡ status.Memory)
writing Is status.Done old new puts none = inl refl
writing Is status.Memory old new puts none = inr refl
writing Is status.Write old new puts none = absurd (none.sink puts.2.rose)
writing Is _ old new puts none = absurd puts.2

pub completes : SpellsOne → Completes
completes one (request.Handle id root) e old new ends may none =
    writing _ e.status old new ends.how.1 none
completes one (request.Make n) e old new ends may none =
    writing _ e.status old new ends.how.1 none
completes one (request.Tally n) e old new ends may none =
    writing _ e.status old new ends.how.1 none
completes one request.Nothing e old new ends may none = absurd may
completes one r e old new ends may none =
    reading one e.status r e old new ends.how may none ends.taken
