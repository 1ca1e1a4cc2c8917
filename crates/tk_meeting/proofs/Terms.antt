-- The words of the standard library, of the crates below and of this crate's specs in which its proofs speak.
pub use Rattle.std.proofs.Common.{◌≡◌, ℕ, ◌≤◌, ◌<◌, min, List, [], ◌∷◌, length, map, flat_map, ◌+◌, ◌/◌, ◌==◌, cond}
pub use Rattle.std.proofs.Common.{◌++◌, ◌-◌, ◌*◌, Bool, true, false, replicate, filter, Option, Some, None, Result, Ok}
pub use Rattle.std.proofs.Common.{◌∙◌, refl, ap, sym, zero, suc, arith, subst, append-nil, drop, eqb-true, ltb-true}
pub use Rattle.std.proofs.Common.{◌⊎◌, inl, inr, lt-ltb, le-leb, ◌%◌, eq-eqb, le_trans, append_assoc, ap₂}
pub use Rattle.std.proofs.Common.{length-append, ne_eqb, take, ◌^◌, ◌≢◌, slice_get, slice_index_or, slice_set, Err}
pub use Rattle.std.proofs.Common.{mod-lt, get_or, add-one, take-append-drop, set, get_or-set_same, get_or-set_other}
pub use Rattle.std.proofs.Common.{length-set, IsTrue, count_by, ⊎_elim}
pub use Rattle.std.proofs.Math.ListN.{drop_of_length-le}
pub use Rattle.std.proofs.Math.Nat.{mul-div_left, mul-le-mul_right, div-eq_of_eq-mul_left, zero-mul, div-mul-le_self}
pub use Rattle.std.proofs.Math.Nat.{div-lt_iff_lt-mul, mul-suc, zero-div}
pub use Rattle.std.proofs.Math.Seq.{drop-nil, take-append_seam, drop-append_seam}
pub use Rattle.std.proofs.lemmas.Bool.{eqb-false, ltb-false, and_parts, cases_eq, cases_lt, and_from, both_ways}
pub use Rattle.std.proofs.lemmas.Bool.{leb-true, true≢false, le-ltb, false≢true, and_cases, cond-true, cond-false}
pub use Rattle.std.proofs.lemmas.List.{length-drop, drop-append-le, map-append, length-map, length-replicate}
pub use Rattle.std.proofs.lemmas.List.{ext_get_or, drop_more, get_or-replicate, get_or-map, take_all}
pub use Rattle.std.proofs.lemmas.List.Elements.{filter-append, All-from_recursion}
pub use Rattle.std.proofs.lemmas.List.Folds.{list_all-append, flat_map-map}
pub use Rattle.std.proofs.lemmas.List.FromFn.{length-map-range_with_len, get_or-map-range_with_len}
pub use Rattle.std.proofs.lemmas.List.FromFn.{map-range_with_len_more, take-map-range_with_len, fill_by_all}
pub use Rattle.std.proofs.lemmas.Nat.{from_be_bytes-to_be_bytes_4, mod_below, div-add-mod', le-div, div-mul-add}
pub use Rattle.std.proofs.lemmas.Nat.{mod-mul-add}
pub use Rattle.std.proofs.lemmas.Option.{slice_get_within, slice_get-get_or, slice_get_past, none-some}
pub use Rattle.std.specs.List.{range_with_len, list_all, AllByRecursion, list_any}
pub use Rattle.std.specs.Option.{is_none, is_some, option_or}
pub use Rattle.std.specs.Prelude.{nat_lt, ◌&&◌, nat_le, not, codes, ⊤, option_map, slice_index, ◌||◌, All, find}
pub use Rattle.std.specs.Simd.Lanes.{fold_l}
unfoldable pub use Rattle.tk_kernel.specs.Chosen.{chosen_sum}
pub use Rattle.tk_shape.specs.Lengths.{turn_count, tape_len, width, reply_len, write_len, vector_len, seed_len}
pub use Rattle.tk_shape.specs.declared.shape.Shape.{Shape}
pub use Rattle.tk_bits.proofs.Offers.{length-chosen_sum}
pub use Rattle.tk_bits.specs.Shares.{shares}
pub use Rattle.tk_seal.specs.Seal.{keyed_pad, keyed_tag, sealed_with, opened_with}
pub use Rattle.tk_words.specs.Words.{WordBook, words_of, IsBook, drawn, BookWords, shows_vectors, cell_write}
pub use Rattle.tk_words.specs.Words.{write_cell, read_cell, for_each, cell_pieces, piece_seed, piece_vector, keyed}
pub use Rattle.tk_words.specs.Words.{BothBuckets, keyed_write, keyed_for_both, sealed, FreshWrite}
unfoldable pub use Rattle.tk_words.specs.Words.{opened, fresh_seeds, fresh_vectors, hits_of, fresh_write, pair_of}
unfoldable pub use Rattle.tk_words.specs.Words.{pad_of, tag_of, fresh_pair}
pub use Rattle.tk_bloom.specs.Filters.{all_marked, positions_of, marks_of}
pub use Rattle.tk_frames.proofs.Offers.{contains_from_in, length-write_frame, length-read_frame, asked_passes}
pub use Rattle.tk_frames.proofs.Offers.{write_passes, write-again, read_passes, read-again}
pub use Rattle.tk_frames.specs.Faults.{read_len_of, first_fault, kind_check, version_check, client_check, turn_check}
pub use Rattle.tk_frames.specs.Faults.{check_on, reply_checks}
pub use Rattle.tk_frames.specs.Fields.{number_at, write_in, read_in, write_in as write_spelled}
unfoldable pub use Rattle.tk_frames.specs.Fields.{numbers}
pub use Rattle.tk_frames.specs.Lists.{first_some}
pub use Rattle.tk_frames.specs.Order.{records, Record, is_mark_entry}
unfoldable pub use Rattle.tk_frames.specs.Order.{before}
pub use Rattle.tk_frames.specs.Ranges.{IsRead, IsReply, IsWrite, AreSeeds}
pub use Rattle.tk_frames.specs.Slots.{text_in, text_from}
pub use Rattle.tk_frames.specs.Spelling.{write_frame, read_frame, be32, read_kind, reply_frame}
pub use Rattle.tk_frames.specs.declared.entry.Placed.{Placed}
pub use Rattle.tk_frames.specs.declared.read_frame.ReadFrame.{ReadFrame}
pub use Rattle.tk_frames.specs.declared.reply_frame.ReplyFrame.{ReplyFrame}
pub use Rattle.tk_frames.specs.declared.seeds.Seeds.TheVariants.{Plain, Seeded, Shown}
pub use Rattle.tk_frames.specs.declared.write_frame.WriteFrame.{WriteFrame}
pub use Rattle.tk_table.specs.Replies.{reply_to}
pub use Rattle.tk_table.specs.Shown.{is_shown, pushes_of}
pub use Rattle.tk_table.specs.Table.{layout_with, layout_on, retained, layout, blocks_of}
pub use Rattle.tk_replica.specs.Epochs.{filter_of as filter_told}
pub use Rattle.tk_counts.proofs.Offers.{shown-as_often, AreBytes}
pub use Rattle.tk_schedule.proofs.Offers.{one_if, serial-IsLegal, turn_within}
pub use Rattle.tk_schedule.specs.Schedule.{phases_over, epoch_at, is_closing, phase_of, serial_turn, blank_turn}
pub use Rattle.tk_schedule.specs.Schedule.{tick_of, IsLegal, order_at}
unfoldable pub use Rattle.tk_schedule.specs.Schedule.{serial_history}
pub use Rattle.tk_schedule.specs.declared.history.History.{History}
pub use Rattle.tk_script.specs.Sent.{unsent_count, sent, writer_of}
pub use Rattle.tk_script.specs.declared.script.Script.{Script}
pub use Rattle.tk_client.proofs.Offers.{frames_in-spelled, asked-in_range, pair-in_range, fresh-whole, length-asked}
pub use Rattle.tk_client.specs.Asked.{seeds_told, pair_for, frame_for, asked, AreWhole, shown_by}
unfoldable pub use Rattle.tk_client.specs.Asked.{frame_with}
pub use Rattle.tk_client.specs.Client.{new_client, target_over, refusal_in, reader_after, ClientState, after_replies}
pub use Rattle.tk_client.specs.Reader.{Reader, got_in, Follow, next_of, new_follow, untried, at_epoch, follow_at}
pub use Rattle.tk_client.specs.Reader.{follow_after, first_got, follow_in, wanted, number_ahead, target_in}
pub use Rattle.tk_client.specs.Reader.{places_from_cursor}
unfoldable pub use Rattle.tk_client.specs.Reader.{after_read, target}
pub use Rattle.tk_client.specs.Replies.{answer_in, frames_in, first_joined, second_joined, refusal, first_unread}
pub use Rattle.tk_client.specs.Replies.{first_other, other_name, other_number}
pub use Rattle.tk_client.specs.Saying.{fault_of, text_fault, is_written}
pub use Rattle.tk_client.specs.Writes.{dummy, write_of}
pub use Rattle.tk_client.specs.Writing.{Writing, with_text, count_of, first_waiting, after_write, one_more_of}
pub use Rattle.tk_client.specs.Writing.{unwritten}
pub use Rattle.tk_client.specs.declared.got.Got.{Got}
pub use Rattle.tk_client.specs.declared.got.Got.TheVariants.{Absent, Text}
pub use Rattle.tk_client.specs.declared.open_read.OpenRead.{OpenRead}
pub use Rattle.tk_client.specs.declared.say_error.SayError.{SayError}
pub use Rattle.tk_client.specs.declared.say_error.SayError.TheVariants.{NotWriter}
pub use Rattle.tk_client.specs.declared.take_error.TakeError.{TakeError}
pub use Rattle.tk_client.specs.declared.target.Target.{Target}
pub use Rattle.tk_client.specs.declared.waiting.Waiting.{Waiting}
pub use Rattle.tk_client.specs.declared.written.Written.{Written}
pub use Rattle.tk_report.proofs.Offers.{flat_map-next, queues-send, retained-own, record-gives, first_some-gives}
pub use Rattle.tk_report.proofs.Offers.{before-own, get-front, honest-passing_over, target-is, shown_over, get-behind}
pub use Rattle.tk_report.proofs.Offers.{absent_then, after-log, epochs-ordered, epochs-storable, blocks-whole}
pub use Rattle.tk_report.proofs.Offers.{flat_map-agree, map-map, before-next, epoch-most, map_same, text-taken}
pub use Rattle.tk_report.proofs.Offers.{asked-read_at, turns-own, before-front, each-front, each-append, each-weaker}
pub use Rattle.tk_report.proofs.Offers.{one_more-log, each-behind, one_more-logs, unwritten-logs, write_at-client}
pub use Rattle.tk_report.proofs.Offers.{write_at-turn, pair-low, length-written, some_buckets, before-over}
pub use Rattle.tk_report.proofs.examples.OrdinaryRun.{script, tape}
pub use Rattle.tk_report.specs.Entries.{entries, placed_after}
unfoldable pub use Rattle.tk_report.specs.Entries.{write_at, entries_before}
pub use Rattle.tk_report.specs.Exchange.{read_pair, frames_before, view}
unfoldable pub use Rattle.tk_report.specs.Exchange.{read_at}
pub use Rattle.tk_report.specs.Queues.{waiting_of, writes_of, says_in, writing_said, turn_said}
unfoldable pub use Rattle.tk_report.specs.Queues.{writing_before, with_says}
pub use Rattle.tk_report.specs.Report.{target_at, logs, got_of, read_over, follows_of, target_for, answer_for, answered}
pub use Rattle.tk_report.specs.Report.{is_follower}
unfoldable pub use Rattle.tk_report.specs.Report.{reader_before, lookup}
pub use Rattle.tk_privacy.proofs.Offers.{map-range_same, length-mirror, same-normal, write-seen, read-seen, same-placed}
pub use Rattle.tk_privacy.specs.Counts.{count_tapes}
pub use Rattle.tk_privacy.specs.Privacy.{mirror, pairs_read, Pairs, shown_read_cell, normal_for, regained, unnormal_for}
unfoldable pub use Rattle.tk_privacy.specs.Privacy.{shown_read, normal}
pub use Rattle.tk_packets.proofs.Offers.{read_again, passed-twice}
pub use Rattle.tk_packets.specs.Frames.{marks_len}
pub use Rattle.tk_packets.specs.Lines.{Passing, taken, Took, Gone, passed, after_taking, Put, exchanges}
pub use Rattle.tk_packets.specs.Marks.{mark_byte, mark_at}
unfoldable pub use Rattle.tk_packets.specs.Marks.{bits_from, mark_bytes}
pub use Rattle.tk_packets.specs.Packets.{PacketView, packet}
pub use Rattle.tk_serve.proofs.Offers.{phase-past, least-top, least-above, closing-last, phases-stay, phase-before}
pub use Rattle.tk_serve.proofs.Offers.{after-is, empty-counted, flat_map-one, told-stays, least-below, one_more}
pub use Rattle.tk_serve.proofs.Offers.{phases-step, closing-none, closing-some, SameUpTo, reply-same, epoch-same}
pub use Rattle.tk_serve.proofs.Offers.{write-placed, read-placed_by, told_step, step-none}
pub use Rattle.tk_serve.specs.Courses.{seats_next, answers_next}
pub use Rattle.tk_serve.specs.Refusals.{write_refusal, read_refusal, refusal_of, unless, write_misplaced}
pub use Rattle.tk_serve.specs.Refusals.{read_misplaced, is_read_kind, due_of}
unfoldable pub use Rattle.tk_serve.specs.Refusals.{refusal_by}
pub use Rattle.tk_serve.specs.Seats.{Seat, seat_of, least, taken_write, empty_seat, seat_with_write, seat_with_read}
pub use Rattle.tk_serve.specs.Seats.{with_write, with_read, blank_write, placed, newest}
unfoldable pub use Rattle.tk_serve.specs.Seats.{empty_seats, turns_written}
pub use Rattle.tk_serve.specs.Steps.{SeatsAndPackets, seats_after, step_on, step_by, IsOfClient, packets_to, packets_gained}
unfoldable pub use Rattle.tk_serve.specs.Steps.{gain, all_gained, with_frame}
pub use Rattle.tk_serve.specs.Told.{told_of, turns_read, epoch_told, closing_told, told}
unfoldable pub use Rattle.tk_serve.specs.Told.{reply_told, epoch_bytes, told_in}
pub use Rattle.tk_serve.specs.declared.refusal.Refusal.{Refusal}
pub use Rattle.tk_member.specs.Acting.{ActedMember, behind, packets_from, may_ask, asks, asks_if_due, unmoved, epoch_due}
pub use Rattle.tk_member.specs.Acting.{goes_ahead, goes_by_ticks, ahead_due, ticks_due, followed_by, write_packets}
pub use Rattle.tk_member.specs.Acting.{after_turn, turns_known}
unfoldable pub use Rattle.tk_member.specs.Acting.{acts, wrote}
pub use Rattle.tk_member.specs.Courses.{behind_if, after_packet, stood_by, member_next, sends_next, Told, IsCourse}
pub use Rattle.tk_member.specs.Courses.{EndsBetween, EndsAt, EndsWriting, EndsFor, Ends, sent_by}
unfoldable pub use Rattle.tk_member.specs.Courses.{after_packets, exchanged}
pub use Rattle.tk_member.specs.Epochs.{least_of, known, filter_of, marks_at, ToldMarks, with_epoch, epochs_in, Marks}
pub use Rattle.tk_member.specs.Epochs.{agrees, told_behind, is_epoch_frame, no_marks, told_by}
pub use Rattle.tk_member.specs.Members.{MemberState, is_over, new_member, known_to, no_replies}
pub use Rattle.tk_member.specs.News.{news, to_host, news_from, got_packet, news_of, refused_packet}
pub use Rattle.tk_member.specs.Steps.{tells_and_acts, served, heard, settled, counted_up, said, all_of, after_settling}
pub use Rattle.tk_member.specs.Steps.{settled_by, with_reply, replied, told_epoch, settled as settles, told_after}
unfoldable pub use Rattle.tk_member.specs.Steps.{step}
pub use Rattle.tk_member.specs.Words.{word_in}
pub use Rattle.tk_member.specs.declared.fault.Fault.{Fault}
pub use Rattle.tk_member.specs.declared.fault.Fault.TheVariants.{Peer, Older, Refused, Differ, Memory, Read, Write, Cut}
pub use Rattle.tk_member.specs.declared.fault.Fault.TheVariants.{Long, Setup}
pub use Rattle.tk_member.specs.declared.word.HostWord.{HostWord}
pub use Rattle.tk_member.specs.declared.word.HostWord.TheVariants.{Say, Tick, Ahead, Has}
pub use Rattle.tk_meeting.specs.Adaptive.{sight, LiarsAsOften, JointSight, Liars, with_text_of, Play, PlayAlike}
pub use Rattle.tk_meeting.specs.Adaptive.{LiarsPlayAlike}
unfoldable pub use Rattle.tk_meeting.specs.Adaptive.{play, retold}
pub use Rattle.tk_meeting.specs.Events.{Event, Said, Ticked, WentAhead, Greeted, Up, Down, is_client, is_server}
pub use Rattle.tk_meeting.specs.Events.{comes_down, met, client_does, unless_ended, hears, noted, say_fault}
pub use Rattle.tk_meeting.specs.Events.{greeting_of, comes_up, taken_of}
unfoldable pub use Rattle.tk_meeting.specs.Events.{happens, after_events}
pub use Rattle.tk_meeting.specs.Hidden.{LooksAlike, outline, SeesAlike, IsSizedAlike, ActsAlike, MeetingsLookAlike}
pub use Rattle.tk_meeting.specs.Hidden.{unsaid}
pub use Rattle.tk_meeting.specs.Laws.{sayings, tells_read, news_before, HasWhatWasSaid, HasFront, HasTold, HasNoFaults, IsAllHanded}
pub use Rattle.tk_meeting.specs.Laws.{is_refusal, HasToldAll, IsSerial, MeetingsAreSerial, tells_of, HasToldOf}
pub use Rattle.tk_meeting.specs.Laws.{saying_of}
pub use Rattle.tk_meeting.specs.Lying.{Deed, Ticks, Claims, Sends, Answers, Hidden, lied, Says, GoesAhead, doer}
pub use Rattle.tk_meeting.specs.Lying.{deed_shown, member_does, said_more, said_after, went_on, DoAlike, StandAlike}
pub use Rattle.tk_meeting.specs.Lying.{HoldsBlocks, pair_open, answer_to, frame_open}
unfoldable pub use Rattle.tk_meeting.specs.Lying.{does, after_deeds}
pub use Rattle.tk_meeting.specs.Matched.{pair_noted, no_pairs, pairs_of, pairs_noted, shown_tape, MatchedOneToOne}
pub use Rattle.tk_meeting.specs.Matched.{AreGroups, AreMatched, LiarsSeeAlike}
unfoldable pub use Rattle.tk_meeting.specs.Matched.{pairs_from}
pub use Rattle.tk_meeting.specs.Meeting.{Saying, changed, for_peer, frames_for, Meeting, member_went, opening}
pub use Rattle.tk_meeting.specs.Meeting.{server_went}
pub use Rattle.tk_meeting.specs.OwnBooks.{HaveKeys, AgreesForClient, OwnKeysServe, Uses}
pub use Rattle.tk_meeting.specs.Programs.{first_member, ActsAsMember, ActsAsServer, HasActed, MembersAct, Doing}
pub use Rattle.tk_meeting.specs.Programs.{OfClient, OfServer, of_client, of_server, taken_in, put_in, IsFront, IsNextFrame}
pub use Rattle.tk_meeting.specs.Programs.{IsFrameUp, IsFrameDown, IsHonest, MayHappen, ArePrograms, StandAsPrograms, IsSomeMeeting}
pub use Rattle.tk_meeting.specs.Programs.{ProgramsMeet, state_after, ServersAct, seats_from, member_after}
pub use Rattle.tk_meeting.specs.Restarts.{MembersPutAgain, Greets, IsGreeting, MembersGoOn, ServersStandAgain, ComesOf}
pub use Rattle.tk_meeting.specs.Restarts.{ServersTellAgain}
pub use Rattle.tk_meeting.specs.Scripts.{LiedHaveScripts, MeetingsHaveScripts}
pub use Rattle.tk_meeting.specs.Shown.{stand, Stand, Face, face, read_shown, Sent, Replied, frame_shown, word_shown}
pub use Rattle.tk_meeting.specs.Shown.{outcome, Came, packet_shown, stand_after, MembersActAlike, OfHost}
