-- What the laws of paces and of members come to, gathered.
use Rattle.tk_meeting.proofs.Terms.{List, ◌++◌, Shape, WordBook, IsBook, Script, Event, met, HasWhatWasSaid}
use Rattle.tk_meeting.proofs.Course.{course_of}
use Rattle.tk_meeting.proofs.members.Idle.{first-idle, acted-idle}
use Rattle.tk_meeting.proofs.members.Paces.{pace-first, pace-ticked, pace-ahead, pace-replied, pace-epoch, pace-acted}
use Rattle.tk_meeting.proofs.members.Members.{first-at}
use Rattle.tk_meeting.proofs.members.Acting.{acts-go}
use Rattle.tk_meeting.proofs.members.Epochs.{epoch-readies}
use Rattle.tk_meeting.proofs.members.Replies.{reply-readies}
use Rattle.tk_meeting.proofs.courses.Balanced.{ArePaces, IsBalanced}
use Rattle.tk_meeting.proofs.courses.Poised.{AreMembers}
use Rattle.tk_meeting.proofs.courses.Reaching.{all-balanced}
use Rattle.tk_meeting.proofs.courses.Keeps.{Keeps}
use Rattle.tk_meeting.proofs.courses.Serial.{keeps-all}
use Rattle.tk_meeting.proofs.courses.Serially.{IsSerialWhole, serial-whole}

pub paces-are : (shape : Shape) → ArePaces shape
paces-are shape =
    record {
      first = pace-first shape;
      first_idle = first-idle shape;
      ticks = pace-ticked shape;
      goes_ahead = pace-ahead shape;
      reply = λ j p low high is opens new. pace-replied shape j p is opens;
      epoch = pace-epoch shape;
      acts = pace-acted shape;
      acts_idle = acted-idle shape;
    }

pub members-are : (S : Script) (b : WordBook) → IsBook S.shape b → AreMembers S b
members-are S b book =
    record {
      first = λ c low. first-at S b c;
      acts_go = λ c p saids m told low is at foretold to_host.
          acts-go S b c p saids m told low is foretold at to_host;
      reply = λ c j p saids m low one most is at opens new. reply-readies book low is at j one most opens new;
      epoch = λ c j p saids m low one most is at more. epoch-readies at j one most more;
    }

-- every course is balanced
pub course-balanced : (shape : Shape) (events : List Event) → IsBalanced shape (course_of shape events)
course-balanced shape events = all-balanced shape (paces-are shape) events

-- a meeting has what its course says
pub meeting-keeps : (S : Script) (b : WordBook) → IsBook S.shape b → (events more : List Event) →
    HasWhatWasSaid S (met S (λ c. b) (events ++ more)) → Keeps S b (course_of S.shape events) (met S (λ c. b) events)
meeting-keeps S b book = keeps-all S b book (paces-are S.shape) (members-are S b book)

-- and is serial
pub meeting-serial : (S : Script) (b : WordBook) → IsBook S.shape b → (events more : List Event) →
    HasWhatWasSaid S (met S (λ c. b) (events ++ more)) → IsSerialWhole S b (met S (λ c. b) events)
meeting-serial S b book = serial-whole S b book (paces-are S.shape) (members-are S b book)
