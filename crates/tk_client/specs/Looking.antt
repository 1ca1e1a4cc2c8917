-- What a read gives whose two buckets are at hand, and one who follows logs so.
use Rattle.std.specs.Prelude.{ℕ, Bool, List, [], slice_index_or, Option, Some, None}
use Rattle.tk_shape.specs.declared.shape.Shape.{Shape}
use Rattle.tk_words.specs.Words.{BookWords, opened}
use Rattle.tk_frames.specs.Slots.{text_from}
use Rattle.tk_client.specs.Reader.{Reader, Target, new_reader, at_epoch, target, after_read}
use Rattle.tk_client.specs.Asked.{shown_by}

-- what a target's number gives in its two of these buckets; nothing where there is no target
abbrev pub text_for : Shape → BookWords → List (List ℕ) → Option Target → Option (List ℕ)
text_for shape w blocks None = None
text_for shape w blocks (Some t) =
    let pair = w.pair t.log t.number in
    text_from shape pair (opened w t.log t.number) (slice_index_or blocks pair.0 [])
    (slice_index_or blocks pair.1 [])

-- one who follows logs, and what it knows as a reader
pub record FollowerState : Type 0 where
  pub shape : Shape
  pub reader : Reader

-- one who follows these logs and knows nothing
abbrev pub new_follower : Shape → List ℕ → FollowerState
new_follower shape follows = record { shape = shape; reader = new_reader follows }

-- what a read over an epoch whose filter has these marks is for
abbrev pub looked_for : BookWords → List Bool → ℕ → FollowerState → Option Target
looked_for w marks e s = target s.shape (shown_by marks w) (at_epoch e s.reader)

-- after a read over an epoch with these buckets, whose filter has these marks
abbrev pub after_look : BookWords → List Bool → List (List ℕ) → ℕ → FollowerState → FollowerState
after_look w marks blocks e s =
    let now = at_epoch e s.reader in
    let t = target s.shape (shown_by marks w) now in
    record s { reader = after_read s.shape now t (text_for s.shape w blocks t) }
