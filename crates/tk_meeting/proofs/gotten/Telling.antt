-- If a client told its host what the first turns give, it told of each log a front of what the log gives to
-- it in the whole run; and if it told what all turns give, all of that.
use Rattle.tk_meeting.proofs.Terms.{◌≡◌, ℕ, ◌≤◌, ◌<◌, List, [], ◌∷◌, ◌==◌, Bool, true, false, filter, ◌∙◌, refl, ap}
use Rattle.tk_meeting.proofs.Terms.{◌&&◌, turn_count, WordBook, words_of, number_at, Script, got_in, reader_before}
use Rattle.tk_meeting.proofs.Terms.{got_of, PacketView, news_from, tells_read, news_before, tells_of, HasToldOf}
use Rattle.tk_meeting.proofs.Terms.{Meeting}
use Rattle.tk_meeting.proofs.Canonical.{serial}
use Rattle.tk_meeting.proofs.gotten.Growing.{readers-grow}
use Rattle.tk_meeting.proofs.gotten.ByLog.{told-logs}

-- what passes one test and another passes the one
filter-next : {X : Type 0} (p q : X → Bool) (x : X) (xs : List X) (t : Bool) → p x ≡ t →
    filter (λ y. p y && q y) xs ≡ filter (λ y. p y && q y) (filter p xs) →
    filter (λ y. p y && q y) (x ∷ xs) ≡ filter (λ y. p y && q y) (filter p (x ∷ xs))
filter-next p q x xs true e later = rw (e, e, later) refl
filter-next p q x xs false e later = rw e later

filter-both : {X : Type 0} (p q : X → Bool) (xs : List X) →
    filter (λ x. p x && q x) xs ≡ filter (λ x. p x && q x) (filter p xs)
filter-both p q [] = refl
filter-both p q (x ∷ xs) = filter-next p q x xs (p x) refl (filter-both p q xs)

-- what tells of a log, of what was told
told-read : (S : Script) (b : WordBook) (c log turns : ℕ) (told : List PacketView) → log < S.shape.logs →
    filter tells_read told ≡ news_before S b c turns →
    filter (tells_of log) told
    ≡ news_from log 0 (got_in (reader_before S (words_of S.shape b) (serial S) c turns).follows log)
told-read S b c log turns told low e =
    filter-both tells_read (λ (p : PacketView). number_at 1 p.bytes == log) told
    ∙ ap (filter (tells_of log)) e ∙ told-logs S b c log turns low

pub told-of : (S : Script) (b : WordBook) (m : Meeting) (c log turns : ℕ) → log < S.shape.logs →
    turns ≤ turn_count S.shape → filter tells_read (m.told c) ≡ news_before S b c turns →
    HasToldOf S b m c log
told-of S b m c log turns low within e =
    let w = words_of S.shape b in
    let more = readers-grow S w (serial S) c log turns within in
    record {
      got = got_in (reader_before S w (serial S) c turns).follows log;
      rest = more.rest;
      front = more.is;
      told = told-read S b c log turns (m.told c) low e;
    }

pub told-whole : (S : Script) (b : WordBook) (m : Meeting) (c log : ℕ) → log < S.shape.logs →
    filter tells_read (m.told c) ≡ news_before S b c (turn_count S.shape) →
    filter (tells_of log) (m.told c) ≡ news_from log 0 (got_of S (words_of S.shape b) (serial S) c log)
told-whole S b m c log low e = told-read S b c log (turn_count S.shape) (m.told c) low e
