-- How the endings of a session and of the store's side are printed.
use Rattle.std.specs.Prelude.{ℕ, List, [], ◌++◌, codes, Option, Some, None}
use Rattle.std.specs.Fmt.{decimal, signed_decimal}
use Rattle.watch_rewrite.specs.declared.event.EventFlaw.{EventFlaw}
use Rattle.watch_rewrite.specs.declared.event.EventFlaw.TheVariants as events
use Rattle.entry_session.specs.declared.ending.Ending.{Ending}
use Rattle.entry_session.specs.declared.ending.Ending.TheVariants as endings
use Rattle.store_side.specs.declared.ending.StoreEnding.{StoreEnding}
use Rattle.store_side.specs.declared.ending.StoreEnding.TheVariants as overs
use Rattle.audit_board.specs.Fields.{field}
use Rattle.replay_cli.specs.Reasons.{refusal_text}

-- what is wrong with an event
abbrev pub event_flaw_text : EventFlaw → List ℕ
event_flaw_text (events.Kind kind) = field (codes "bad-event kind ") (signed_decimal kind)
event_flaw_text (events.State state) = field (codes "bad-event state ") (signed_decimal state)
event_flaw_text events.Path = field (codes "bad-event path") []

-- want of memory is never printed: it has a status
abbrev pub ending_text : Ending → List ℕ
ending_text endings.Closed = field (codes "closed") []
ending_text (endings.ClientMalformed refusal) = refusal_text (codes "client-malformed ") refusal
ending_text (endings.ClientTooLong length) = field (codes "client-too-long ") (signed_decimal length)
ending_text (endings.StoreMalformed refusal) = refusal_text (codes "store-malformed ") refusal
ending_text (endings.StoreTooLong length) = field (codes "store-too-long ") (signed_decimal length)
ending_text (endings.WrongXid expected got) = field (codes "wrong-xid expected ") (signed_decimal expected) ++ field (codes " got ") (signed_decimal got)
ending_text (endings.NothingOpen xid) = field (codes "nothing-open ") (signed_decimal xid)
ending_text (endings.BadEvent flaw) = event_flaw_text flaw
ending_text (endings.QueueFull weight) = field (codes "queue-full ") (decimal weight)
ending_text endings.IvSpent = field (codes "iv-spent") []
ending_text endings.ClientEnd = field (codes "client-end") []
ending_text endings.StoreEnd = field (codes "store-end") []
ending_text endings.ClientFault = field (codes "client-fault") []
ending_text endings.StoreFault = field (codes "store-fault") []
ending_text endings.Turns = field (codes "turns") []
ending_text endings.Memory = field (codes "memory") []

abbrev pub session_text : Option Ending → List ℕ
session_text None = field (codes "open") []
session_text (Some ending) = ending_text ending

-- why the store's side of a connection is over; want of memory and of numbers is never printed
abbrev pub over_text : StoreEnding → List ℕ
over_text (overs.Malformed refusal) = refusal_text (codes "malformed ") refusal
over_text (overs.TooLong length) = field (codes "too-long ") (signed_decimal length)
over_text (overs.AheadOfUs seen last) = field (codes "ahead ") (signed_decimal seen) ++ field (codes " ") (signed_decimal last)
over_text (overs.Expired session) = field (codes "expired ") (signed_decimal session)
over_text (overs.Moved session) = field (codes "moved ") (signed_decimal session)
over_text overs.SessionClosed = field (codes "session-closed") []
over_text overs.Lost = field (codes "lost") []
over_text overs.JournalFull = field (codes "journal-full") []
over_text (overs.AnswerTooLong length) = field (codes "answer-too-long ") (decimal length)
over_text overs.NumbersUsed = field (codes "numbers-used") []
over_text overs.Memory = field (codes "memory") []

abbrev pub store_text : Option StoreEnding → List ℕ
store_text None = field (codes "open") []
store_text (Some ending) = over_text ending
