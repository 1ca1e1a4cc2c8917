-- A read over the epoch of a turn's mark gives what its definition says.
use Rattle.std.proofs.Common.{◌≡◌, ◌∙◌, ℕ, ◌+◌, Bool, List, ap, map}
use Rattle.tk_words.specs.Words.{WordBook, words_of}
use Rattle.tk_frames.specs.declared.entry.Placed.{Placed}
use Rattle.tk_frames.specs.Order.{before}
use Rattle.tk_frames.specs.Spelling.{read_frame}
use Rattle.tk_replica.specs.Epochs.{filter_of}
use Rattle.tk_replica.specs.Replies.{reply_bytes}
use Rattle.tk_client.specs.Asked.{asked}
use Rattle.tk_client.specs.Client.{ClientState, target_over, opened, after_replies}
use Rattle.embed.specs.Turns.{after_read}

-- where a filter is that of the epoch, the read is opened and asked by it, and its replies are
-- those of servers that have the entries
pub read-is : (b : WordBook) (g : ℕ) (E : List Placed) (s mid new : ClientState)
    (marks : List Bool) (frames replies : List (List ℕ)) →
    marks ≡ filter_of s.shape (before E (g + 1)) →
    mid ≡ opened g (g + 1) (target_over (words_of s.shape b) marks (g + 1) s) s →
    frames ≡ map read_frame
    (asked s.shape b g s.number (g + 1) (target_over (words_of s.shape b) marks (g + 1) s)) →
    replies ≡ map (reply_bytes s.shape E) frames →
    new ≡ after_replies (words_of mid.shape b) replies mid → new ≡ after_read b g E s
unfolding after_read
read-is b g E s mid new marks frames replies shown is_open asks said taken =
    let w = words_of s.shape b in
    let target = λ (m : List Bool). target_over w m (g + 1) s in
    taken
    ∙ ap (λ (c : ClientState). after_replies (words_of c.shape b) replies c) is_open
    ∙ ap (λ (rs : List (List ℕ)). after_replies w rs (opened g (g + 1) (target marks) s))
    (said ∙ ap (map (reply_bytes s.shape E)) asks)
    ∙ ap (λ (m : List Bool). after_replies w
    (map (reply_bytes s.shape E) (map read_frame (asked s.shape b g s.number (g + 1) (target m))))
    (opened g (g + 1) (target m) s)) shown
