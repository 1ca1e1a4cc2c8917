-- Whatever is said in a group apart, there is a script that has it.
use Rattle.std.specs.Prelude.{◌≡◌, ℕ, List}
use Rattle.tk_script.specs.declared.script.Script.{Script}
use Rattle.tk_words.specs.Words.{WordBook}
use Rattle.tk_meeting.specs.Events.{Event, met}
use Rattle.tk_meeting.specs.Laws.{HasWhatWasSaid}
use Rattle.tk_meeting.specs.Lying.{Deed, Hidden, HoldsBlocks, lied}

-- a script of the same group that has what was said
pub record HasScript (S : Script) (books : ℕ → WordBook) (events : List Event) : Type 0 where
  pub script : Script
  pub same_shape : script.shape ≡ S.shape
  pub same_keys : script.keys ≡ S.keys
  pub same_roles : script.roles ≡ S.roles
  pub tells : HasWhatWasSaid script (met script books events)

-- Whatever happens in a group, there is such a script.
abbrev pub MeetingsHaveScripts : Type 0
MeetingsHaveScripts =
    (S : Script) (books : ℕ → WordBook) (events : List Event) → HasScript S books events

-- ---- where servers lie

-- a script of the same group that has what was said, whatever words its clients have
pub record HasLiedScript (S : Script) (h : Hidden) (deeds : List Deed) : Type 0 where
  pub script : Script
  pub same_shape : script.shape ≡ S.shape
  pub same_keys : script.keys ≡ S.keys
  pub same_roles : script.roles ≡ S.roles
  pub tells : (b : WordBook) → HasWhatWasSaid script (lied script h b deeds)

-- Whatever is done to a group whose servers lie, there is such a script.
abbrev pub LiedHaveScripts : Type 0
LiedHaveScripts =
    (S : Script) (h : Hidden) (deeds : List Deed) → HoldsBlocks S.shape h → HasLiedScript S h deeds
