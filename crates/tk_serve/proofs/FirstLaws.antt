-- A run from its first packet on.
use Rattle.std.proofs.Common.{◌≡◌, ℕ, ◌≤◌, inl, inr, ap, sym, ◌∙◌, subst, arith, Some}
use Rattle.tk_io.specs.Content.{Rose, before_taking}
use Rattle.tk_shape.specs.declared.shape.Shape.{Shape}
use Rattle.tk_packets.specs.Packets.{PacketView, packet_bytes}
use Rattle.tk_packets.specs.Lines.{Gone, after_taking}
use Rattle.tk_serve.specs.declared.server.Server.{Server}
use Rattle.tk_serve.specs.Seats.{empty_seats}
use Rattle.tk_serve.specs.Setup.{setup}
use Rattle.tk_serve.specs.Stands.{HasApplied}
use Rattle.tk_serve.specs.Courses.{Told, SetUpThen, after_setup}

-- The first packet set a server up.
module _ (shape : Shape) (first : PacketView) (s : Server) (left middle : Told) (gone now : Gone)
    (is : first ≡ setup shape) (comes : left ≡ before_taking (packet_bytes first) middle)
    (took : now ≡ after_taking (Some first) gone) (stands : HasApplied shape (empty_seats shape) s) where
  pub set-up-then : (Ran : Shape → Told → Gone → Type 0) → Ran s.shape middle now →
      SetUpThen (λ sh m. Ran sh m (after_setup sh gone)) left
  set-up-then Ran ran =
      let own : first ≡ setup s.shape = is ∙ ap setup (sym stands.same) in
      record {
        shape = s.shape;
        middle = middle;
        set_up = record { taken = comes ∙ ap (λ p. before_taking (packet_bytes p) middle) own };
        ran = subst (Ran s.shape middle) (took ∙ ap (λ p. after_taking (Some p) gone) own) ran;
      }

-- a failure after others
pub rose-after : (before now after : ℕ) → before ≤ now → Rose now after → Rose before after
rose-after before now after low (inl more) = inl (omega (arith, low, more))
rose-after before now after low (inr full) = inr full
