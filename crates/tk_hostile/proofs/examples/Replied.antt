-- A run under wrong replies, computed.
use Rattle.std.specs.Prelude.{◌≡◌, ℕ, List, [], ◌∷◌, ◌++◌, replicate, codes}
use Rattle.std.proofs.Common.{refl}
use Rattle.tk_schedule.specs.declared.history.History.{History}
use Rattle.tk_schedule.specs.Schedule.{serial_history}
use Rattle.tk_words.specs.Words.{drawn}
use Rattle.tk_client.specs.declared.got.Got.TheVariants.{Text}
use Rattle.tk_client.specs.Reader.{got_in}
use Rattle.tk_privacy.proofs.Offers.{one_shape, speaking, silent, tape, mirrored}
use Rattle.tk_hostile.specs.Choice.{Choice}
use Rattle.tk_hostile.specs.Given.{none_chosen, with_sums}
use Rattle.tk_hostile.specs.Wrong.{wrong_view, wrong_logs, wrong_mirror}
use Rattle.tk_hostile.proofs.Computing.{computing}

abbrev pub history : History
history = serial_history one_shape

-- no sums are set
abbrev pub none : Choice
none = none_chosen one_shape

pub with_none : wrong_mirror speaking silent history 1 none tape ≡ mirrored
unfolding computing
with_none = refl

pub back_with_none : wrong_mirror silent speaking history 1 none mirrored ≡ tape
unfolding computing
back_with_none = refl

-- a server gives client 1 a slot that opens
abbrev pub slot : List ℕ
slot =
    replicate 7 0 ++ (9 ∷ [])
    ++ (0 ∷ 0 ∷ 0 ∷ 1 ∷ 0 ∷ 0 ∷ 0 ∷ 1 ∷ [])
    ++ (49 ∷ 51 ∷ 89 ∷ 88 ∷ 49 ∷ 49 ∷ 49 ∷ 49 ∷ [])
    ++ replicate 16 49

abbrev pub one : Choice
one = with_sums 0 1 2 (record { first = slot ++ replicate 120 0; second = replicate 160 0 }) none

-- it reads a text that nobody has sent
pub text_unsent : got_in (wrong_logs silent (drawn tape) history 1 one 1) 0
    ≡ Text (codes "hi") ∷ []
unfolding computing
text_unsent = refl

pub nothing_without : got_in (wrong_logs silent (drawn tape) history 1 none 1) 0 ≡ []
unfolding computing
nothing_without = refl

-- the change of words is undone all the same, and another server sees the same
pub back_with_one : wrong_mirror silent speaking history 1 one
    (wrong_mirror speaking silent history 1 one tape) ≡ tape
unfolding computing
back_with_one = refl

pub same_view_2 : wrong_view speaking (drawn tape) history 1 one 2
    ≡ wrong_view silent (drawn (wrong_mirror speaking silent history 1 one tape)) history 1 one 2
unfolding computing
same_view_2 = refl
