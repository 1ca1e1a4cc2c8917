-- A run under attack, computed. The adversary has one client ask twice. What epoch the second read is over
-- depends on what the first was seen to ask; and a server replies with a forged slot to the group that
-- talks, which it knows by what it saw, and with zeros to the one that doesn't. It holds the key of a
-- log on which both groups say the same.
use Rattle.std.specs.Prelude.{◌≡◌, ℕ, ◌==◌, ◌&&◌, Bool, true, false, cond, List, [], ◌∷◌, ◌++◌, length}
use Rattle.std.specs.Prelude.{replicate, codes, slice_index, slice_index_or, Option, Some, None, option_map}
use Rattle.std.proofs.Common.{refl, sym, subst, lit≤}
use Rattle.std.proofs.lemmas.Bool.{eqb-true}
use Rattle.tk_shape.specs.declared.shape.Shape.{Shape}
use Rattle.tk_shape.specs.Limits.{numbers_in}
use Rattle.tk_shape.proofs.Offers.{shape_of}
use Rattle.tk_script.specs.declared.script.Script.{Script}
use Rattle.tk_script.specs.declared.role.Role.{Role}
use Rattle.tk_script.specs.declared.say.Say.{Say}
use Rattle.tk_script.specs.SoundScript.{IsScript}
use Rattle.tk_script.specs.Sent.{sent_as}
use Rattle.tk_words.specs.Words.{drawn}
use Rattle.tk_frames.specs.declared.read_frame.ReadFrame.{ReadFrame}
use Rattle.tk_client.specs.declared.got.Got.{Got}
use Rattle.tk_client.specs.declared.got.Got.TheVariants.{Text}
use Rattle.tk_client.specs.Reader.{got_in}
use Rattle.tk_hostile.specs.Given.{zero_sums}
use Rattle.tk_hostile.specs.Attack.{Adversary, Move, Writes, Reads, SeenAct, Wrote, Asked, KeyWords}
use Rattle.tk_hostile.specs.Attack.{under_attack, seen_by, attack_mirror}
use Rattle.tk_hostile.specs.Laws.{AreTargets}
use Rattle.tk_hostile.proofs.examples.Replied.{slot}
use Rattle.tk_hostile.proofs.Computing.{computing}

-- ---- two groups, in which client 0 writes log 0 for client 1, and client 1 log 1 for client 0

-- three servers, two clients and two turns
abbrev pub shape : Shape
unfolding computing
shape = shape_of (numbers_in 1 (3 ∷ 8 ∷ 4 ∷ 4 ∷ 24 ∷ 64 ∷ 1 ∷ 0 ∷ 2 ∷ 1 ∷ 2 ∷ 2 ∷ [])) refl refl

abbrev pub roles : List Role
roles = record { writer = 0; followers = 1 ∷ [] } ∷ record { writer = 1; followers = 0 ∷ [] } ∷ []

abbrev pub known : List Say
known = record { phase = 1; tick = 1; log = 1; text = codes "ho" } ∷ []

abbrev pub said : List Say
said = record { phase = 1; tick = 1; log = 0; text = codes "hi" } ∷ known

pub talking_sound : IsScript shape None roles said
unfolding computing
talking_sound =
    record {
      keys_counted = refl;
      tape_fits = refl;
      roles_counted = refl;
      roles_sound = refl;
      says_sound = refl;
      says_ordered = refl;
    }

abbrev pub talking : Script
talking =
    record { shape = shape; keys = None; roles = roles; says = said; sound = talking_sound }

pub silent_sound : IsScript shape None roles known
unfolding computing
silent_sound =
    record {
      keys_counted = refl;
      tape_fits = refl;
      roles_counted = refl;
      roles_sound = refl;
      says_sound = refl;
      says_ordered = refl;
    }

-- nothing is said on log 0
abbrev pub silent : Script
silent = record { shape = shape; keys = None; roles = roles; says = known; sound = silent_sound }

abbrev pub tape : List ℕ
tape =
    replicate 72 21 ++ replicate 72 18
    ++ replicate 12 33 ++ (replicate 8 0 ++ (160 ∷ 11 ∷ 192 ∷ 13 ∷ []))
    ++ replicate 12 34 ++ (replicate 8 0 ++ (5 ∷ 6 ∷ 7 ∷ 9 ∷ []))
    ++ replicate 36 49 ++ replicate 36 50 ++ replicate 36 51 ++ replicate 36 52

-- ---- the adversary

abbrev pub moves : List Move
moves = Writes 0 ∷ Writes 1 ∷ Reads 1 ∷ Reads 1 ∷ []

-- whether it saw first what client 0 writes where it says its text over that tape
abbrev pub lies_to : List SeenAct → Bool
lies_to [] = false
lies_to (Wrote write ∷ xs) = slice_index write.block 0 == 49
lies_to (Asked reads ∷ xs) = false

-- the first byte of the first vector that was seen last
abbrev pub first_byte : List ReadFrame → ℕ
first_byte [] = 0
first_byte (r ∷ rs) = slice_index r.first 0

abbrev pub last_byte : List SeenAct → ℕ
last_byte [] = 0
last_byte (Wrote write ∷ []) = 0
last_byte (Asked reads ∷ []) = first_byte reads
last_byte (x ∷ (y ∷ xs)) = last_byte (y ∷ xs)

abbrev pub adversary : Adversary
adversary =
    record {
      holds = λ log. log == 1;
      next = λ seen. slice_index_or moves (length seen.sights) (Writes 0);
      sums = λ seen hidden r j. cond (lies_to seen.sights && j == 2)
          (record { first = slot ++ replicate 120 0; second = replicate 160 0 })
          (zero_sums shape);
      epoch = λ seen. last_byte seen.sights;
      shows = λ seen hits. true;
    }

-- ---- what comes of it

abbrev pub sights : Script → List ℕ → List SeenAct
sights S u = (seen_by S (drawn u) 1 adversary 4).sights

-- what log 0 gave to client 1
abbrev pub gave : Script → List ℕ → List Got
gave S u = got_in ((under_attack S (drawn u) 1 adversary 4).clients 1).reader.follows 0

abbrev pub mirrored : List ℕ
mirrored = attack_mirror talking silent 1 adversary 4 tape

-- it lies to the group that talks, and over the same tape not to the silent one
pub lied : lies_to (sights talking tape) ≡ true
unfolding computing
lied = refl

pub lie_taken : gave talking tape ≡ Text (codes "hi") ∷ []
unfolding computing
lie_taken = refl

pub not_lied : lies_to (sights silent tape) ≡ false
unfolding computing
not_lied = refl

-- over the mirrored tape it sees of the silent one what it saw of the other, so that it lies to it too;
-- there the lie doesn't open
pub same_sights : sights silent mirrored ≡ sights talking tape
unfolding computing
same_sights = refl

pub lie_not_taken : gave silent mirrored ≡ []
unfolding computing
lie_not_taken = refl

pub back : attack_mirror silent talking 1 adversary 4 mirrored ≡ tape
unfolding computing
back = refl

-- all four moves were seen, and the second read is over an epoch that the first one decided
pub four_seen : length (sights talking tape) ≡ 4
unfolding computing
four_seen = refl

abbrev pub epoch_of : List ReadFrame → ℕ
epoch_of [] = 0
epoch_of (r ∷ rs) = r.epoch

abbrev pub last_epoch : List SeenAct → ℕ
last_epoch [] = 0
last_epoch (Wrote write ∷ []) = 0
last_epoch (Asked reads ∷ []) = epoch_of reads
last_epoch (x ∷ (y ∷ xs)) = last_epoch (y ∷ xs)

pub epoch_chosen : last_epoch (sights talking tape) ≡ 11
unfolding computing
epoch_chosen = refl

-- the hidden server gets other vectors
abbrev pub hidden_first : Script → List ℕ → List ℕ
hidden_first S u = ((under_attack S (drawn u) 1 adversary 4).clients 1).hidden.first

pub hidden_talking : hidden_first talking tape ≡ 5 ∷ []
unfolding computing
hidden_talking = refl

pub hidden_silent : hidden_first silent mirrored ≡ 33 ∷ []
unfolding computing
hidden_silent = refl

-- ---- keys

-- the key of log 1 tells the two buckets of its number 0; of log 0 no key is told
abbrev pub pair_told : Option KeyWords → Option (ℕ × ℕ)
pair_told key = option_map (λ k. k.pair) key

pub key_held : pair_told ((seen_by talking (drawn tape) 1 adversary 4).keys 1 0) ≡ Some (3, 3)
unfolding computing
key_held = refl

pub key_not_held : pair_told ((seen_by talking (drawn tape) 1 adversary 4).keys 0 0) ≡ None
unfolding computing
key_not_held = refl

-- ---- the premises of the laws are met

pub sent_alike : (s : ℕ) → sent_as talking 1 s ≡ sent_as silent 1 s
unfolding computing
sent_alike s = refl

pub premises : AreTargets talking silent 1 adversary
unfolding computing
premises =
    record {
      one_shape = refl;
      hidden_low = lit≤ tt;
      hidden_high = lit≤ tt;
      one_writer = λ log held low. refl;
      sent_alike = λ log s held low number.
          subst (λ l. sent_as talking l s ≡ sent_as silent l s) (sym (eqb-true log 1 held)) (sent_alike s);
    }
