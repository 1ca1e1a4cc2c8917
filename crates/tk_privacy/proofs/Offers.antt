-- What the proofs of other crates may cite.

-- a tape changed for given buckets, and the change undone: each undoes the other
pub use Rattle.tk_privacy.proofs.Changes.{normal-IsTape, unnormal-normal, normal-unnormal}
pub use Rattle.tk_privacy.proofs.Changes.{regained-IsTape, length-unnormal}
pub use Rattle.tk_privacy.proofs.Changes.{words-regained, reads-regained, words-undone, reads-undone}
-- only the buckets of the run matter
pub use Rattle.tk_privacy.proofs.Changes.{same-normal_for, same-unnormal_for, sent_len}
-- what is seen of a run that reads given buckets
pub use Rattle.tk_privacy.proofs.Seen.{view-is, write-seen, read-seen, same-placed}
-- what the hidden server gets of a read cell that is changed back
pub use Rattle.tk_privacy.proofs.ReadCells.{both, GetsLastOfBoth, pieces-hidden, AreShown, pieces-shown}
pub use Rattle.tk_privacy.proofs.SameWords.{length-read_cell}
-- what the filter of what lies open to a read shows
pub use Rattle.tk_privacy.proofs.AskingLaws.{Shows, filter-shows}
-- the reads of a run, and the frames that are seen with them
pub use Rattle.tk_privacy.proofs.ReadsLaws.{reads-none, reads-next, reads-counted, are-last_reads, reads-told}
pub use Rattle.tk_privacy.proofs.EnteringLaws.{frames-seen}
-- two worked scripts with a tape and its mirror, and what a computation of them unfolds
unfoldable pub use Rattle.tk_privacy.proofs.Computing.{computing}
pub use Rattle.tk_privacy.proofs.examples.Mirrored.{shape as one_shape, script_a as speaking}
pub use Rattle.tk_privacy.proofs.examples.Mirrored.{script_b as silent, tape, t1 as mirrored}
-- the cells of a tape, and those of the tape of what is shown
pub use Rattle.tk_privacy.proofs.Tapes.{IsTape}
pub use Rattle.tk_privacy.proofs.Masks.{cell_write-masked, map-range_same}
pub use Rattle.tk_privacy.proofs.PrivacyLaws.{length-mirror, same-normal}
-- what is seen over as many tapes
pub use Rattle.tk_privacy.proofs.CountLaws.{others-same, turned, at-tape, mirror-undone}
pub use Rattle.tk_privacy.proofs.ByteCells.{bytes-normal_for, bytes-unnormal_for}

-- what a function gives for each of some numbers
