-- What is kept of a run while its servers begin anew, and what each is given back.
use Rattle.std.specs.Prelude.{◌≡◌, ◌↔◌, ℕ, ◌+◌, ◌<◌, ◌≤◌, ◌==◌, nat_le, Bool, false, cond, List, [], ◌∷◌, ◌++◌}
use Rattle.std.specs.Prelude.{length, drop, slice_index_or, ◌⊎◌, Option, Some, None}
use Rattle.tk_shape.specs.declared.shape.Shape.{Shape}
use Rattle.tk_shape.specs.Lengths.{turn_count}
use Rattle.tk_schedule.specs.declared.history.History.{History}
use Rattle.tk_script.specs.declared.script.Script.{Script}
use Rattle.tk_words.specs.Words.{WordBook, BookWords, words_of}
use Rattle.tk_frames.specs.declared.entry.Placed.{Placed}
use Rattle.tk_frames.specs.InOrder.{IsOrder, mark_count}
use Rattle.tk_replica.specs.Restoring.{EndsWithMark}
use Rattle.tk_checkpoint.specs.Saved.{saved, saved_of}
use Rattle.tk_checkpoint.specs.Reading.{saved_in, applied_in, last_in}
use Rattle.tk_checkpoint.specs.Sound.{IsSound}
use Rattle.tk_report.specs.Anew.{anew}
use Rattle.tk_report.specs.Clients.{AreClients}
use Rattle.tk_report.specs.Displaced.{displaced_in}
use Rattle.tk_report.specs.Serving.{Serving}
use Rattle.tk_report.specs.Turns.{placed_before}
use Rattle.tk_run.specs.declared.ended.Ended.{Ended}
use Rattle.tk_run.specs.declared.server.Server.{Server}
use Rattle.tk_run.specs.Under.{client_under}

-- ---- what is kept

-- whether this turn is due
abbrev pub is_due : Option ℕ → ℕ → Bool
is_due None turn = false
is_due (Some due) turn = due == turn

-- the turn that is due; where none is, one behind the end
abbrev pub turn_due : Script → Option ℕ → ℕ
turn_due S None = turn_count S.shape + 1
turn_due S (Some due) = due

-- what is kept up to a turn, where at gives the checkpoint before each
abbrev pub kept_up_to : Option ℕ → (ℕ → List ℕ) → ℕ → List (List ℕ)
kept_up_to None at turn = []
kept_up_to (Some due) at turn = cond (nat_le due turn) (at due ∷ []) []

-- the checkpoint of all entries of the turns before one
abbrev pub saved_before : Script → WordBook → History → ℕ → List ℕ
saved_before S b H g = saved S.shape (placed_before S (words_of S.shape b) H g)

-- ---- what is given back

-- entries in order, with a mark at the end or none, of which as many are displaced as of E
pub record StandIn (shape : Shape) (E F : List Placed) : Type 0 where
  pub order : IsOrder shape F
  pub ends : EndsWithMark F
  pub displaced : displaced_in shape F ≡ displaced_in shape E

-- A server that had E is given the checkpoint of F: of E itself, or of others that stand in for it.
pub record IsGiven (shape : Shape) (E : List Placed) (bytes : List ℕ) (F : List Placed) : Type 0
  where
    pub saved : bytes ≡ saved shape F
    pub stands : (F ≡ E) ⊎ StandIn shape E F

abbrev pub AreGiven : Shape → List Placed → (ℕ → List ℕ) → (ℕ → List Placed) → Type 0
AreGiven shape E gives given =
    (j : ℕ) → 1 ≤ j → j ≤ shape.servers → IsGiven shape E (gives j) (given j)

-- Once the checkpoint before the turn that is due was kept, what each server is given is the checkpoint
-- of these entries.
abbrev pub BeginFrom : Script → WordBook → History → ℕ → List (List ℕ) → List (List ℕ)
    → (ℕ → List ℕ) → (ℕ → List Placed) → Type 0
BeginFrom S b H due old new gives given =
    due ≤ turn_count S.shape → new ≡ old ++ saved_before S b H due ∷ [] →
    AreGiven S.shape (placed_before S (words_of S.shape b) H due) gives given

-- A server that had E accepts bytes that pass all checks, with as many entries and as many marks.
pub record IsAccepted (shape : Shape) (E : List Placed) (bytes : List ℕ) : Type 0 where
  pub sound : IsSound shape bytes
  pub applied : applied_in bytes ≡ length E
  pub last : last_in bytes ≡ mark_count E

-- It accepts the checkpoint of entries in order, none or with a mark at the end, exactly where these are as many as E,
-- with as many marks.
abbrev pub CheckpointsAccepted : Type 0
CheckpointsAccepted =
    (shape : Shape) (E F : List Placed) → IsOrder shape F → EndsWithMark F →
    IsAccepted shape E (saved shape F) ↔ ((length F ≡ length E) × (mark_count F ≡ mark_count E))

-- each accepts what it is given
abbrev pub AreAccepted : Shape → List Placed → (ℕ → List ℕ) → Type 0
AreAccepted shape E gives = (j : ℕ) → 1 ≤ j → j ≤ shape.servers → IsAccepted shape E (gives j)

-- one of them doesn't
pub record OneRefuses (shape : Shape) (E : List Placed) (gives : ℕ → List ℕ) : Type 0 where
  pub server : ℕ
  pub low : 1 ≤ server
  pub high : server ≤ shape.servers
  pub refuses : ¬ IsAccepted shape E (gives server)

-- A keeper kept the checkpoint of these entries, behind what it first kept, which each that had them
-- accepts, and then one doesn't what it gives.
abbrev pub KeptAndRefused : {K : Type 0} → Shape → List Placed → List (List ℕ)
    → (K → List (List ℕ)) → (K → ℕ → List ℕ) → K → Type 0
KeptAndRefused shape E first kept gives keeper =
    (kept keeper ≡ first ++ saved shape E ∷ []) × IsAccepted shape E (saved shape E)
    × OneRefuses shape E (gives keeper)

-- The checkpoint before the turn that is due was kept, which each accepts, and then one of them doesn't.
pub record HasRefused (S : Script) (b : WordBook) (H : History) (due : ℕ) (old new : List (List ℕ))
    (gives : ℕ → List ℕ) : Type 0 where
  pub due_in : due ≤ turn_count S.shape
  pub kept : new ≡ old ++ saved_before S b H due ∷ []
  pub own : IsAccepted S.shape (placed_before S (words_of S.shape b) H due) (saved_before S b H due)
  pub one : OneRefuses S.shape (placed_before S (words_of S.shape b) H due) gives

-- If it was kept, each did.
abbrev pub HaveAccepted : Script → WordBook → History → ℕ → List (List ℕ) → List (List ℕ)
    → (ℕ → List ℕ) → Type 0
HaveAccepted S b H due old new gives =
    due ≤ turn_count S.shape → new ≡ old ++ saved_before S b H due ∷ [] →
    AreAccepted S.shape (placed_before S (words_of S.shape b) H due) gives

-- A server has what these bytes have, and no epoch from before them.
pub record HasBegunAnew (shape : Shape) (bytes : List ℕ) (s : Server) : Type 0 where
  pub same : s.state.shape ≡ shape
  pub parts : saved_of s.state ≡ saved_in shape bytes
  pub floor : s.state.floor ≡ s.state.last

-- so each has, of the bytes that it is given
abbrev pub HaveBegunAnew : Shape → (ℕ → List ℕ) → List Server → Type 0
HaveBegunAnew shape gives servers =
    (i : ℕ) (d : Server) → i < length servers →
    HasBegunAnew shape (gives (i + 1)) (slice_index_or servers i d)

-- ---- the run

-- the run whose servers begin anew, each from what it is given
abbrev pub begun_anew : Script → WordBook → History → ℕ → (ℕ → List Placed) → Serving
begun_anew S b H due given = anew S (words_of S.shape b) H due given

-- the entries that server j holds before turn g: from the turn that is due on those that it was given,
-- and behind them those that came since
abbrev pub held_now :
    Script → BookWords → History → ℕ → (ℕ → List Placed) → ℕ → ℕ → List Placed
held_now S w H due given g j =
    let all = placed_before S w H g in
    cond (nat_le due g) (given j ++ drop (length (placed_before S w H due)) all) all

-- The clients at the end are those of a run under a serving, and what the first server counted are
-- the displaced writes of these entries.
pub record IsEndUnder (S : Script) (b : WordBook) (H : History) (V : Serving) (E : List Placed)
    (end : Ended) : Type 0 where
  pub clients : AreClients S.shape.clients (client_under S b H V (turn_count S.shape)) end.clients.items
  pub displaced : end.displaced ≡ displaced_in S.shape E
