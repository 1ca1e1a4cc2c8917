-- What a client writes in a turn.
use Rattle.std.specs.Prelude.{ℕ, Option, Some, None}
use Rattle.tk_frames.specs.declared.write_frame.WriteFrame.{WriteFrame}
use Rattle.tk_words.specs.Words.{BookWords, FreshWrite, sealed}
use Rattle.tk_client.specs.declared.waiting.Waiting.{Waiting}

-- a fresh write as a frame
abbrev pub dummy : ℕ → ℕ → FreshWrite → WriteFrame
dummy g c w =
    record {
      client = c;
      turn = g;
      first = w.first;
      second = w.second;
      hits = w.hits;
      block = w.block;
    }

-- what a client writes in a turn: the text that waits first, sealed, or a fresh write of its book,
-- which has the same size
abbrev pub write_of : BookWords → ℕ → ℕ → Option Waiting → WriteFrame
write_of w g c None = dummy g c (w.fresh_write g c)
write_of w g c (Some y) =
    record {
      client = c;
      turn = g;
      first = (w.pair y.log y.number).0;
      second = (w.pair y.log y.number).1;
      hits = w.hits y.log y.number;
      block = sealed w y.log y.number y.text;
    }
