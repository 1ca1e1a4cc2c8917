-- What is written to a sink.
use Rattle.std.specs.Prelude.{◌≡◌, ℕ, List, take, Option}
use Rattle.tk_io.specs.Content.{Rose, gained}
use Rattle.tk_cli.specs.declared.status.Status.{Status}
use Rattle.tk_cli.specs.declared.status.Status.TheVariants.{Done, Memory, Write}

-- a front of a text was put into a sink, which failed
pub record PutsFront (text : List ℕ) (held held' : Option (List ℕ)) (faults faults' : ℕ)
    : Type 0 where
  pub front : ℕ
  pub written : held' ≡ gained held (take front text)
  pub rose : Rose faults faults'

-- nothing was put into it
pub record PutsNothing (held held' : Option (List ℕ)) (faults faults' : ℕ) : Type 0 where
  pub same : held' ≡ held
  pub none : faults' ≡ faults

-- How putting a text into a sink ends, over what it held and holds now, and its count of faults
-- before and now: all is put; or a front, and the count rose; or nothing, because memory ran out.
abbrev pub PutsText : Status → List ℕ → (held held' : Option (List ℕ)) → (faults faults' : ℕ) → Type 0
PutsText Done text held held' faults faults' = held' ≡ gained held text
PutsText Write text held held' faults faults' = PutsFront text held held' faults faults'
PutsText Memory text held held' faults faults' = PutsNothing held held' faults faults'
PutsText _ text held held' faults faults' = ⊥

-- How putting some text of a kind ends; if memory runs out there may be none.
abbrev pub PutsSome :
    (List ℕ → Type 0) → Status → (held held' : Option (List ℕ)) → (faults faults' : ℕ) → Type 0
PutsSome Is Memory held held' faults faults' = PutsNothing held held' faults faults'
PutsSome Is s held held' faults faults' =
    (text : List ℕ) × Is text × PutsText s text held held' faults faults'
