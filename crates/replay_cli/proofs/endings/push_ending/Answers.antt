use Rattle.std.proofs.Common.{refl, append_assoc, rules, w32}
use Rattle.std.specs.Int.RustNames.{FitsSigned}
use Rattle.std.proofs.lemmas.Int.{to_z-of_z}
use Rattle.replay_cli.proofs.endings.push_ending.Goals as goal

pub returns-in_ok-push_refusal-in-ClientMalformed : goal.returns-in_ok-push_refusal-in-ClientMalformed
returns-in_ok-push_refusal-in-ClientMalformed c = rw (c.in-ClientMalformed.is, c.in_ok-push_refusal-in-ClientMalformed.ensures) refl

pub returns-in_ok-push_int-in-ClientTooLong : goal.returns-in_ok-push_int-in-ClientTooLong
returns-in_ok-push_int-in-ClientTooLong c =
    let length : FitsSigned w32 c.in-ClientTooLong.length = search rules in
    rw (c.in-ClientTooLong.is, c.in_ok-push_int-in-ClientTooLong.ensures) (simp to_z-of_z)

pub returns-in_ok-push_refusal-in-StoreMalformed : goal.returns-in_ok-push_refusal-in-StoreMalformed
returns-in_ok-push_refusal-in-StoreMalformed c = rw (c.in-StoreMalformed.is, c.in_ok-push_refusal-in-StoreMalformed.ensures) refl

pub returns-in_ok-push_int-in-StoreTooLong : goal.returns-in_ok-push_int-in-StoreTooLong
returns-in_ok-push_int-in-StoreTooLong c =
    let length : FitsSigned w32 c.in-StoreTooLong.length = search rules in
    rw (c.in-StoreTooLong.is, c.in_ok-push_int-in-StoreTooLong.ensures) (simp to_z-of_z)

pub returns-in_ok-push_int-in-WrongXid-2 : goal.returns-in_ok-push_int-in-WrongXid-2
returns-in_ok-push_int-in-WrongXid-2 c =
    let expected : FitsSigned w32 c.in-WrongXid.expected = search rules in
    let got : FitsSigned w32 c.in-WrongXid.got = search rules in
    rw (c.in-WrongXid.is, c.in_ok-push_int-in-WrongXid-2.ensures, c.in_ok-push_int-in-WrongXid.ensures) (simp (to_z-of_z, append_assoc))

pub returns-in_ok-push_int-in-NothingOpen : goal.returns-in_ok-push_int-in-NothingOpen
returns-in_ok-push_int-in-NothingOpen c =
    let xid : FitsSigned w32 c.in-NothingOpen.xid = search rules in
    rw (c.in-NothingOpen.is, c.in_ok-push_int-in-NothingOpen.ensures) (simp to_z-of_z)

pub returns-in_ok-push_count-in-QueueFull : goal.returns-in_ok-push_count-in-QueueFull
returns-in_ok-push_count-in-QueueFull c = rw (c.in-QueueFull.is, c.in_ok-push_count-in-QueueFull.ensures) refl

pub returns-in_ok-push_event_flaw-in-BadEvent : goal.returns-in_ok-push_event_flaw-in-BadEvent
returns-in_ok-push_event_flaw-in-BadEvent c = rw (c.in-BadEvent.is, c.in_ok-push_event_flaw-in-BadEvent.ensures) refl

pub returns-in_ok-push_field-in-Memory : goal.returns-in_ok-push_field-in-Memory
returns-in_ok-push_field-in-Memory c = rw (c.in-Memory.is, c.in_ok-push_field-in-Memory.ensures) refl
