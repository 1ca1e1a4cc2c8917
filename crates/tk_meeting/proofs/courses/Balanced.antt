-- What holds of every course: the packets of each client are at a server or on their way to it, and no more
-- frames of a server came than it told, in their order.
use Rattle.tk_meeting.proofs.Terms.{◌≡◌, ℕ, ◌≤◌, ◌<◌, List, ◌+◌, ◌/◌, cond, ◌++◌, ◌*◌, true, false, ◌∙◌, refl, ap, sym}
use Rattle.tk_meeting.proofs.Terms.{arith, ◌⊎◌, inl, inr, Shape}
use Rattle.tk_meeting.proofs.Pace.{Pace, Kind, first_pace, acted, IsPace, IsIdle, ticked, sent_ahead, reply_came}
use Rattle.tk_meeting.proofs.Pace.{epoch_came}
use Rattle.tk_meeting.proofs.Course.{Course, first_course, newest_by, replies_of, came_of, stream_len, goes_on}
use Rattle.tk_meeting.proofs.courses.Picks.{at-place}
use Rattle.tk_meeting.proofs.courses.Lengths.{over_first}
use Rattle.tk_meeting.proofs.courses.Acting.{wrote_in, asked_in, wrote_in-append, asked_in-append, IsActed, acted-is}

-- what a client sent to server j and took from it
pub record IsLinked (shape : Shape) (c : ℕ) (p : Pace) (j : ℕ) (writes : ℕ → ℕ) (reads : ℕ)
    (kinds : List Kind) : Type 0 where
  pub wrote : writes c + wrote_in kinds ≡ p.written
  pub asked : reads + asked_in kinds ≡ p.asked
  pub came : came_of p j ≤ stream_len shape (newest_by shape writes) reads
  -- a reply is next, or the epoch behind the last one
  pub ordered : (p.epochs j ≡ replies_of p j / shape.ticks)
      ⊎ (replies_of p j ≡ (p.epochs j + 1) * shape.ticks)

-- a client that is about to act
pub record IsReady (shape : Shape) (c : ℕ) (p : Pace) (writes reads : ℕ → ℕ → ℕ)
    (kinds : ℕ → List Kind) : Type 0 where
  pub pace : IsPace shape p
  pub links : (j : ℕ) → 1 ≤ j → j ≤ shape.servers →
      IsLinked shape c p j (writes j) (reads j c) (kinds j)

-- one that has acted
pub record IsBalancedAt (shape : Shape) (c : ℕ) (p : Pace) (writes reads : ℕ → ℕ → ℕ)
    (kinds : ℕ → List Kind) : Type 0 where
  pub ready : IsReady shape c p writes reads kinds
  pub idle : IsIdle shape p

pub record IsBalanced (shape : Shape) (q : Course) : Type 0 where
  pub each : (c : ℕ) → c < shape.clients →
      IsBalancedAt shape c (q.paces c) q.writes q.reads (q.up c)

-- what holds of paces (`Gathered` has that it does)
pub record ArePaces (shape : Shape) : Type 0 where
  pub first : IsPace shape first_pace
  pub first_idle : IsIdle shape first_pace
  pub ticks : (p : Pace) → IsPace shape p → IsPace shape (ticked shape p)
  pub goes_ahead : (turns : ℕ) (p : Pace) → IsPace shape p → IsPace shape (sent_ahead shape turns p)
  pub reply : (j : ℕ) (p : Pace) → 1 ≤ j → j ≤ shape.servers → IsPace shape p → p.is_open ≡ true →
      p.replied j ≡ false → IsPace shape (reply_came shape j p)
  pub epoch : (j : ℕ) (p : Pace) → IsPace shape p → p.epochs j < shape.phases →
      IsPace shape (epoch_came j p)
  pub acts : (p : Pace) → IsPace shape p → IsPace shape (acted shape p).pace
  pub acts_idle : (p : Pace) → IsPace shape p → IsIdle shape (acted shape p).pace

module _ (shape : Shape) (paces : ArePaces shape) where
  -- ---- the start

  pub first-balanced : IsBalanced shape first_course
  first-balanced =
      record {
        each = λ c low. record {
          ready =
              record {
                pace = paces.first;
                links = λ j low high. record {
                  wrote = refl;
                  asked = refl;
                  came = omega arith;
                  ordered = inl (sym (over_first shape));
                };
              };
          idle = paces.first_idle;
        };
      }

  -- ---- a client that goes on

  -- one to which the same came from a server
  pub linked-by : (c : ℕ) (p q : Pace) (j : ℕ) (writes : ℕ → ℕ) (reads : ℕ) (kinds more : List Kind) →
      writes c + wrote_in more ≡ q.written → reads + asked_in more ≡ q.asked → replies_of q j ≡ replies_of p j →
      q.epochs j ≡ p.epochs j → IsLinked shape c p j writes reads kinds → IsLinked shape c q j writes reads more
  linked-by c p q j writes reads kinds more wrote asked replies told l =
      record {
        wrote = wrote;
        asked = asked;
        came = omega (arith, l.came, replies, told);
        ordered = elim l.ordered [
          | inl e ↦ inl (told ∙ e ∙ ap (λ r. r / shape.ticks) (sym replies))
          | inr e ↦ inr (replies ∙ e ∙ ap (λ n. (n + 1) * shape.ticks) (sym told))
        ];
      }

  -- a client that acts sends what it counts
  acted-linked : (c : ℕ) (p q : Pace) (j : ℕ) (writes : ℕ → ℕ) (reads : ℕ) (kinds more : List Kind) →
      IsActed p more q → IsLinked shape c p j writes reads kinds →
      IsLinked shape c q j writes reads (kinds ++ more)
  acted-linked c p q j writes reads kinds more a l =
      linked-by c p q j writes reads kinds (kinds ++ more)
      (omega (arith, l.wrote, a.written, wrote_in-append kinds more))
      (omega (arith, l.asked, a.asked, asked_in-append kinds more))
      (λ i. a.settled_is i + cond (a.replied i j) 1 0) (λ i. a.epochs i j) l

  pub acted-balanced : (c : ℕ) (p : Pace) (writes reads : ℕ → ℕ → ℕ) (kinds : ℕ → List Kind) →
      IsReady shape c p writes reads kinds →
      IsBalancedAt shape c (acted shape p).pace writes reads (λ j. kinds j ++ (acted shape p).kinds)
  acted-balanced c p writes reads kinds r =
      record {
        ready =
            record {
              pace = paces.acts p r.pace;
              links = λ j low high.
                  acted-linked c p (acted shape p).pace j (writes j) (reads j c) (kinds j)
                  (acted shape p).kinds (acted-is shape p) (r.links j low high);
            };
        idle = paces.acts_idle p r.pace;
      }

  pub goes_on-balanced : (q : Course) (c : ℕ) (p : Pace) → IsBalanced shape q →
      IsReady shape c p q.writes q.reads (q.up c) → IsBalanced shape (goes_on shape q c p)
  goes_on-balanced q c p h r =
      let next = acted shape p in
      record {
        each = λ d low.
            at-place (λ x k.
            IsBalancedAt shape x (cond k next.pace (q.paces x)) q.writes q.reads
            (cond k (λ j. q.up c j ++ next.kinds) (q.up x))) c d
            (acted-balanced c p q.writes q.reads (q.up c) r) (λ other. h.each d low);
      }

  -- ---- what its host says

  pub ticked-ready : (c : ℕ) (p : Pace) (writes reads : ℕ → ℕ → ℕ) (kinds : ℕ → List Kind) →
      IsReady shape c p writes reads kinds → IsReady shape c (ticked shape p) writes reads kinds
  ticked-ready c p writes reads kinds r =
      record {
        pace = paces.ticks p r.pace;
        links = λ j low high.
            let l = r.links j low high in
            linked-by c p (ticked shape p) j (writes j) (reads j c) (kinds j) (kinds j) l.wrote l.asked refl refl l;
      }

  pub ahead-ready : (c turns : ℕ) (p : Pace) (writes reads : ℕ → ℕ → ℕ) (kinds : ℕ → List Kind) →
      IsReady shape c p writes reads kinds →
      IsReady shape c (sent_ahead shape turns p) writes reads kinds
  ahead-ready c turns p writes reads kinds r =
      record {
        pace = paces.goes_ahead turns p r.pace;
        links = λ j low high.
            let l = r.links j low high in
            linked-by c p (sent_ahead shape turns p) j (writes j) (reads j c) (kinds j) (kinds j) l.wrote l.asked refl
            refl l;
      }
