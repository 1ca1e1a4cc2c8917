-- What the proofs of other crates may cite.

-- a text that is said is in range, and may be sealed
pub use Rattle.tk_script.proofs.SoundLaws.{IsSaid, is_say-IsSaid, says-AreSaid}
-- lists that are the same part by part
pub use Rattle.tk_script.proofs.ListLaws.{cons_both, same_first, same_rest}
-- plain decimal is digits alone
pub use Rattle.tk_script.proofs.NumberLaws.{AreDigits, all_digits}
-- what has no space is one part of a line
pub use Rattle.tk_script.proofs.PartLaws.{split_field, one_field}
pub use Rattle.tk_script.proofs.CauseLaws.{lacks_by_test}
-- what a turn's line says is no end
pub use Rattle.tk_script.proofs.TurnsSoFar.{turn-no_end}
-- which line says a turn
pub use Rattle.tk_script.proofs.TurnLaws.{IsTurnLine, turn_is, turn_whole}
-- a text of no lines is empty, and its first line ends at a line feed
pub use Rattle.tk_script.proofs.LineLaws.{no_lines, lines_of-other}
-- what has no line feed, and what each element of two lists has
pub use Rattle.tk_script.proofs.FeedLaws.{LacksFeed, feed_by_test, feed_by_index, fields_lack}
pub use Rattle.tk_script.proofs.FeedLaws.{lines_of-line, each-append}
-- the texts of a client when more are said
pub use Rattle.tk_script.proofs.SendingLaws.{free_after, free_after-append, of_log, of_log-cons, of_log-append, sending_behind, sendings_from-append, behind, sendings-append, sent-late, number-le-turn}
-- what is sent is in range, may be sealed, and is found by its number
pub use Rattle.tk_script.proofs.SentLaws.{sent-is, sent-sealable, sent-once, sent-found, sent_as-is, turns-behind}
-- the input of a text has the tape that its words want, and its words fit its shape
pub use Rattle.tk_script.proofs.BookLaws.{spelled-HasTape, spelled-IsWholeTape, spelled-IsBook}
-- the replies of an input are in range
pub use Rattle.tk_script.proofs.ReplyLaws.{zip-replies}
-- what a script in format 2 is
pub use Rattle.tk_script.proofs.LiftLaws.{lifted-is}
