-- What the proofs of other crates may cite.

-- entries
pub use Rattle.tk_report.proofs.TurnEntries.{length-placed_from, marks-placed_from}
pub use Rattle.tk_report.proofs.TurnEntries.{placed_from-append, placed_after-append}
pub use Rattle.tk_report.proofs.EpochLaws.{phases-next, marks-before}
pub use Rattle.tk_report.proofs.WrittenLaws.{write_at-client, write_at-turn, turns-own, entries-placed}
pub use Rattle.tk_report.proofs.WrittenLaws.{pair-low, each-is_written, before-front, before-own, some_buckets}
pub use Rattle.tk_report.proofs.WrittenLaws.{epochs-ordered}
pub use Rattle.tk_report.proofs.RecordLaws.{ordered-front}
pub use Rattle.tk_report.proofs.MarkedLaws.{entries-agree, turn_entries-agree, before-standing}
pub use Rattle.tk_report.proofs.MarkedLaws.{before-made, before-over, before-agree, phases-marked}
pub use Rattle.tk_report.proofs.StorableLaws.{one-mark, length-written, epochs-storable}
-- what is said in each turn
pub use Rattle.tk_report.proofs.SayOrder.{now-below, other-above, none-earlier, all-now}
pub use Rattle.tk_report.proofs.SayOrder.{said-rises, said-within, said-none}
-- what waits
pub use Rattle.tk_report.proofs.QueueLaws.{queue_is_sent, numbers_are_in_range, unsent_waits, queues-send}
-- reads, and what servers see
pub use Rattle.tk_report.proofs.AgreementLaws.{epoch-made, readers-agree, reads-agree, frames-agree}
pub use Rattle.tk_report.proofs.AgreementLaws.{views-agree, alike-after_turn, alike-where_open}
pub use Rattle.tk_report.proofs.AgreementLaws.{alike-where_old, fronts-agree, flat_map-agree, turns-agree}
pub use Rattle.tk_report.proofs.LaidOutLaws.{layout-gives-lookup, bytes-give-lookup}
-- the reads of a run, and what is taken of their replies
pub use Rattle.tk_report.proofs.SoundReads.{AreMade, all-made, epoch-most, blocks-whole, text-taken, asked-read_at}
pub use Rattle.tk_report.proofs.SoundReads.{IsSound, all-sound}
-- runs whose servers reply what they will
pub use Rattle.tk_report.proofs.ServingLaws.{honest-readers, honest-exchange, honest-report}
pub use Rattle.tk_report.proofs.AnewLaws.{alike-runs, anew-readers, anew-from-own, more-entries}
-- the end of a run, and its report
pub use Rattle.tk_report.proofs.LeavingLaws.{ends-leave, ends-text, writing-logs, reader-logs}
pub use Rattle.tk_report.proofs.LeavingLaws.{followers-in, got-ended, reports-agree}
-- the logs that a client writes and follows stay
pub use Rattle.tk_report.proofs.LeavingLaws.{written_logs, one_more-log, one_more-logs, unwritten-logs, after-log}
pub use Rattle.tk_report.proofs.SaidLaws.{ends-unsent, ends-count_said}
pub use Rattle.tk_report.proofs.ShowsLaws.{reports-show}
pub use Rattle.tk_report.proofs.OneHistoryLaws.{shows-one}
-- what the entries up to the end of a turn leave
pub use Rattle.tk_report.proofs.LedgerLaws.{keeps-first}
-- clients and entries within a turn
pub use Rattle.tk_report.proofs.WritingLaws.{after-none, after-next, after-item, after-all, client-below}
pub use Rattle.tk_report.proofs.ComingLaws.{IsDue, item-due, in-none, in-past, turn-done}
pub use Rattle.tk_report.proofs.ListTests.{list_all-at}
-- what clients know before a run, and in it
pub use Rattle.tk_report.proofs.ClientsLaws.{clients-first, clients-know, group-first, followers-first}
-- lists that are changed from the first element on
pub use Rattle.tk_report.proofs.Splits.{IsSplit, split-none, split-next, split-all}
pub use Rattle.tk_lists.proofs.Offers.{length-next, numbers-more as range-next}
pub use Rattle.tk_report.proofs.ReadingLaws.{before-next}
-- how many writes of an order are displaced: none of no entries, and there is room for one more
pub use Rattle.tk_report.proofs.DisplacedLaws.{none-displaced}
pub use Rattle.tk_report.proofs.OrderCounts.{next-few, displaced-most}
-- numbers, one after the other, and those that pass a test
pub use Rattle.tk_report.proofs.ClientsLaws.{flat_map-next, passes-next, fails-next, passing-below}
-- what functions give of lists
pub use Rattle.tk_report.proofs.Lists.{map-map, map_same, map-range, each-made, flat_map-flat_map}
-- what each client sends, listed, and who writes a log
pub use Rattle.tk_report.proofs.SendingsLaws.{sent_of, sent_each, finds}
pub use Rattle.tk_report.proofs.ListingLaws.{writer-of, none-late}
-- what is retained, and the record that gives a text
pub use Rattle.tk_report.proofs.RetainedLaws.{retained-own, record-gives}
pub use Rattle.tk_report.proofs.DeliveredLaws.{Gives, first_some-gives}
-- what a reader passes over, which number it wants, and what its log gives then
pub use Rattle.tk_report.proofs.PassingOverLaws.{honest-passing_over, IsWanted, IsTargetOf, target-is, shown_over}
pub use Rattle.tk_report.proofs.PassingOverLaws.{get-front, get-behind, absent_then, settled}
-- what holds of each element of a list
pub use Rattle.tk_report.proofs.EachLaws.{each-weaker, each-front, each-behind}
pub use Rattle.tk_script.proofs.Offers.{each-append}
