-- The reads by which the hidden server's vectors are regained.
use Rattle.std.proofs.Common.{◌≡◌, ◌∙◌, ap, ℕ, ◌≤◌, List, length}
use Rattle.tk_shape.specs.Lengths.{tape_len}
use Rattle.tk_schedule.specs.declared.history.History.{History}
use Rattle.tk_script.specs.declared.script.Script.{Script}
use Rattle.tk_words.specs.Words.{drawn, words_of}
use Rattle.tk_frames.specs.declared.read_frame.ReadFrame.{ReadFrame}
use Rattle.tk_privacy.specs.Privacy.{read_for}
use Rattle.tk_privacy.specs.Steps.{AreLastReads}
use Rattle.tk_hostile.specs.Choice.{Choice}
use Rattle.tk_hostile.specs.Wrong.{pair_asking, asks, pair_regained}
use Rattle.tk_hostile.proofs.Regained.{pairs-last}

-- these are the last reads over a tape of a run whose hidden server replies to the last server's
-- frames
abbrev pub AreLastAsked : Script → History → ℕ → Choice → List ℕ → List ReadFrame → Type 0
AreLastAsked S H h F r reads =
    let ask = asks S.shape (drawn r) H S.shape.servers in
    AreLastReads S.shape H (pair_asking S (words_of S.shape (drawn r)) H h F ask) r reads

-- they are those of the buckets that are found read by read
pub reads-regained : (S : Script) (H : History) (h : ℕ) → h ≤ S.shape.servers → (F : Choice)
    (r : List ℕ) → length r ≡ tape_len S.shape → (reads : List ReadFrame) →
    AreLastAsked S H h F r reads → AreLastReads S.shape H (pair_regained S H h F r) r reads
reads-regained S H h high F r whole reads are g c turn client =
    are g c turn client
    ∙ ap (λ (pair : ℕ × ℕ). read_for S.shape (drawn r) H pair g c S.shape.servers)
    (pairs-last S H h high F r whole g c turn client)
