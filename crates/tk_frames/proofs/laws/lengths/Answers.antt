use Rattle.tk_frames.proofs.Frames.{length-write_frame, length-reply_frame}
use Rattle.tk_frames.proofs.ReadLaws.{length-read_frame}
use Rattle.tk_frames.proofs.PlacedFrames.{length-record_frame}
use Rattle.tk_frames.proofs.laws.lengths.Goals as goal

pub returns-clause-writes : goal.returns-clause-writes
returns-clause-writes c = length-write_frame

pub returns-clause-records : goal.returns-clause-records
returns-clause-records c = length-record_frame

pub returns-clause-reads : goal.returns-clause-reads
returns-clause-reads c = length-read_frame

pub returns-clause-replies : goal.returns-clause-replies
returns-clause-replies c = length-reply_frame
