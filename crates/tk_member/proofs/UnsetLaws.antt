-- How a member ends that no packet set up.
use Rattle.std.proofs.Common.{◌≡◌, sym, ◌∙◌, subst, ◌≤◌, ◌⊎◌, length, inl, inr}
use Rattle.std.specs.Prelude.{Err}
use Rattle.tk_io.specs.Content.{before_taking}
use Rattle.tk_words.specs.Words.{WordBook}
use Rattle.tk_packets.specs.Packets.{PacketView, packet_bytes}
use Rattle.tk_packets.proofs.Offers.{takes-packet}
use Rattle.tk_member.specs.declared.fault.Fault.{Fault}
use Rattle.tk_member.specs.declared.fault.Fault.TheVariants.{Memory, Setup}
use Rattle.tk_member.specs.Members.{MemberState}
use Rattle.tk_member.specs.SetUp.{IsSetUp}
use Rattle.tk_member.specs.Courses.{Told, most_first, EndsUnset}

-- it sets no member up
pub unset-refused : (T : Type 0) (e : Fault) (first : PacketView) (left rest : Told) →
    left ≡ before_taking (packet_bytes first) rest → length first.bytes ≤ most_first →
    (e ≡ Memory) ⊎ (e ≡ Setup) →
    ((b : WordBook) (m : MemberState) → IsSetUp first b m → e ≡ Memory) →
    EndsUnset {T = T} (Err e) left rest
unset-refused T e first left rest comes few either only =
    elim either [
      | inl memory ↦
          subst (λ (f : Fault). EndsUnset {T = T} (Err f) left rest) (sym memory)
          (takes-packet most_first first left rest comes few)
      | inr setup ↦
          subst (λ (f : Fault). EndsUnset {T = T} (Err f) left rest) (sym setup) (record {
            first = first;
            comes = comes;
            short = few;
            other = λ b m is. let other : Setup ≡ Memory = sym setup ∙ only b m is in cc;
          })
    ]
