-- What the words ask for.
use Rattle.std.specs.Prelude.{◌≡◌, ℕ, ◌≤◌, ◌<◌, ◌^◌, ◌⊎◌, List, [], ◌∷◌, length, codes, decimal, Ok}
use Rattle.hex.specs.Hex.{decode_of}
use Rattle.tk_cli.specs.declared.request.Request.{Request}
use Rattle.tk_cli.specs.declared.request.Request.TheVariants as request

abbrev pub Words : Type 0
Words = List (List ℕ)

-- the report of a serial run
abbrev pub AsksSerial : Words → Type 0
AsksSerial (word ∷ []) = word ≡ codes "serial"
AsksSerial _ = ⊥

-- the same report, of a run whose reads go by way of one server
abbrev pub AsksRelay : Words → Type 0
AsksRelay (word ∷ []) = word ≡ codes "relay"
AsksRelay _ = ⊥

-- the script in format 2
abbrev pub AsksLift : Words → Type 0
AsksLift (word ∷ []) = word ≡ codes "lift"
AsksLift _ = ⊥

-- the plain decimal of a number of 32 bits, and of one of 64
abbrev pub IsSmall : ℕ → List ℕ → Type 0
IsSmall n text = (n < 2 ^ 32) × (text ≡ decimal n)

abbrev pub IsNumeral : ℕ → List ℕ → Type 0
IsNumeral n text = (n < 2 ^ 64) × (text ≡ decimal n)

-- the report of a run with threads, by 1 to 64 workers over 1 to 64 shards; what isn't named is one
abbrev pub IsCrew : ℕ → List ℕ → Type 0
IsCrew n text = ((1 ≤ n) × (n ≤ 64)) × (text ≡ decimal n)

abbrev pub AsksRun : Words → (workers shards : ℕ) → Type 0
AsksRun (word ∷ []) workers shards = (word ≡ codes "run") × (workers ≡ 1) × (shards ≡ 1)
AsksRun (word ∷ number ∷ []) workers shards =
    (word ≡ codes "run") × IsCrew workers number × (shards ≡ 1)
AsksRun (word ∷ number ∷ more ∷ []) workers shards =
    (word ≡ codes "run") × IsCrew workers number × IsCrew shards more
AsksRun _ workers shards = ⊥

-- the report of a serial run whose servers begin anew at an epoch
abbrev pub AsksResume : Words → (epoch : ℕ) → Type 0
AsksResume (word ∷ number ∷ []) epoch = (word ≡ codes "resume") × IsSmall epoch number
AsksResume _ epoch = ⊥

-- what a server sees
abbrev pub AsksView : Words → (server : ℕ) → Type 0
AsksView (word ∷ number ∷ []) server = (word ≡ codes "view") × IsSmall server number
AsksView _ server = ⊥

-- the tape over which another script shows the same to all servers but one
abbrev pub AsksMirror : Words → (hidden : ℕ) → Type 0
AsksMirror (word ∷ number ∷ []) hidden = (word ≡ codes "mirror") × IsSmall hidden number
AsksMirror _ hidden = ⊥

-- the same tape where all servers but the hidden one reply as they please
abbrev pub AsksWrong : Words → (hidden : ℕ) → Type 0
AsksWrong (word ∷ number ∷ []) hidden = (word ≡ codes "wrong") × IsSmall hidden number
AsksWrong _ hidden = ⊥

-- the script that is made from a number
abbrev pub AsksMake : Words → ℕ → Type 0
AsksMake (word ∷ number ∷ []) n = (word ≡ codes "make") × IsNumeral n number
AsksMake _ n = ⊥

-- what comes of its serial run
abbrev pub AsksTally : Words → ℕ → Type 0
AsksTally (word ∷ number ∷ []) n = (word ≡ codes "tally") × IsNumeral n number
AsksTally _ n = ⊥

-- 64 hexadecimal digits, in either case, for the 32 bytes of a root
abbrev pub SpellsRoot : List ℕ → List ℕ → Type 0
SpellsRoot digits root = (length digits ≡ 64) × (decode_of digits ≡ Ok root)

-- the handle of a log: an id of 64 bits in plain decimal, and a root
abbrev pub AsksHandle : Words → (id : ℕ) → (root : List ℕ) → Type 0
AsksHandle (word ∷ number ∷ digits ∷ []) id root =
    (word ≡ codes "handle") × IsNumeral id number × SpellsRoot digits root
AsksHandle _ id root = ⊥

-- a run by some workers over some shards, one that begins anew at some epoch, the view of some server, some
-- mirrored tape, also under wrong replies, the handle of some log, some script that is made, and what comes of
-- it
abbrev pub AsksSomeRun : Words → Type 0
AsksSomeRun words = (workers : ℕ) × (shards : ℕ) × AsksRun words workers shards

abbrev pub AsksSomeResume : Words → Type 0
AsksSomeResume words = (epoch : ℕ) × AsksResume words epoch

abbrev pub AsksSomeView : Words → Type 0
AsksSomeView words = (server : ℕ) × AsksView words server

abbrev pub AsksSomeMirror : Words → Type 0
AsksSomeMirror words = (hidden : ℕ) × AsksMirror words hidden

abbrev pub AsksSomeWrong : Words → Type 0
AsksSomeWrong words = (hidden : ℕ) × AsksWrong words hidden

abbrev pub AsksSomeHandle : Words → Type 0
AsksSomeHandle words = (id : ℕ) × (root : List ℕ) × AsksHandle words id root

abbrev pub AsksSomeMake : Words → Type 0
AsksSomeMake words = (n : ℕ) × AsksMake words n

abbrev pub AsksSomeTally : Words → Type 0
AsksSomeTally words = (n : ℕ) × AsksTally words n

-- none of the forms
abbrev pub AsksNothing : Words → Type 0
AsksNothing words =
    ¬ (AsksSerial words ⊎ AsksSomeRun words ⊎ AsksSomeView words ⊎ AsksSomeMirror words
    ⊎ AsksSomeHandle words ⊎ AsksSomeMake words ⊎ AsksSomeTally words ⊎ AsksLift words
    ⊎ AsksSomeWrong words ⊎ AsksRelay words ⊎ AsksSomeResume words)

abbrev pub Asks : Words → Request → Type 0
Asks words request.Serial = AsksSerial words
Asks words request.Relay = AsksRelay words
Asks words (request.Resume epoch) = AsksResume words epoch
Asks words (request.Run workers shards) = AsksRun words workers shards
Asks words (request.View server) = AsksView words server
Asks words (request.Mirror hidden) = AsksMirror words hidden
Asks words (request.Wrong hidden) = AsksWrong words hidden
Asks words (request.Handle id root) = AsksHandle words id root
Asks words (request.Make n) = AsksMake words n
Asks words (request.Tally n) = AsksTally words n
Asks words request.Lift = AsksLift words
Asks words request.Nothing = AsksNothing words
