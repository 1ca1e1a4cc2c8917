-- The words that a client's own book has are those of the group's book, where the client uses them.
use Rattle.tk_meeting.proofs.Terms.{◌≡◌, ℕ, ◌<◌, List, Option, Some, None, ap, ap₂, sealed_with, opened_with, WordBook}
use Rattle.tk_meeting.proofs.Terms.{words_of, opened, BookWords, sealed, Script, dummy, write_of, Waiting, AgreesForClient}
use Rattle.tk_meeting.proofs.Terms.{Uses}

-- a log that a client uses
pub record IsUsed (S : Script) (c log : ℕ) : Type 0 where
  pub low : log < S.shape.logs
  pub uses : Uses S c log

-- a text that waits, if one does, is of such a log
abbrev pub IsOwnTextOrNone : Script → ℕ → Option Waiting → Type 0
IsOwnTextOrNone S c None = Unit {0}
IsOwnTextOrNone S c (Some y) = IsUsed S c y.log

module _ (S : Script) (b own : WordBook) (c : ℕ) (keys : AgreesForClient S b c own) where
  abbrev pub w : BookWords
  w = words_of S.shape b

  abbrev pub v : BookWords
  v = words_of S.shape own

  pub pair-same : (log s : ℕ) → IsUsed S c log → v.pair log s ≡ w.pair log s
  pair-same log s used = keys.pairs log s used.low used.uses

  pub hits-same : (log s : ℕ) → IsUsed S c log → v.hits log s ≡ w.hits log s
  hits-same log s used = keys.hits log s used.low used.uses

  tag-same : (log s : ℕ) → IsUsed S c log → v.tag log s ≡ w.tag log s
  tag-same log s used = λ i masked. keys.tags log s masked used.low used.uses i

  pub sealed-same : (log s : ℕ) (text : List ℕ) → IsUsed S c log →
      sealed v log s text ≡ sealed w log s text
  sealed-same log s text used =
      ap₂ (λ (pad : List ℕ) (tag : List ℕ → List ℕ). sealed_with pad tag text)
      (keys.pads log s used.low used.uses) (tag-same log s used)

  pub opened-same : (log s : ℕ) → IsUsed S c log → opened v log s ≡ opened w log s
  unfolding opened
  opened-same log s used =
      λ i block. opened_with (keys.pads log s used.low used.uses i) (tag-same log s used i) block

  pub write-same : (g : ℕ) (first : Option Waiting) → IsOwnTextOrNone S c first →
      write_of v g c first ≡ write_of w g c first
  write-same g None own = ap (dummy g c) (keys.writes g)
  write-same g (Some y) own =
      λ i. record {
        client = c;
        turn = g;
        first = (pair-same y.log y.number own i).0;
        second = (pair-same y.log y.number own i).1;
        hits = hits-same y.log y.number own i;
        block = sealed-same y.log y.number y.text own i;
      }
