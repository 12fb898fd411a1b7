use Rattle.replay_cli.proofs.EventLemmas.{no_hostile_event, client_event, store_event}
use Rattle.replay_cli.proofs.hostile_script.event_of.Goals as goal

pub returns-in-Some-2-clause-found : goal.returns-in-Some-2-clause-found
returns-in-Some-2-clause-found c = client_event _ _ (rw c.in-Some-2.is at c.in_ok-bytes.ensures.found)

pub returns-in-Some-3-clause-found : goal.returns-in-Some-3-clause-found
returns-in-Some-3-clause-found c = store_event _ _ (rw c.in-Some-3.is at c.in_ok-bytes-2.ensures.found)

pub returns-clause-none : goal.returns-clause-none
returns-clause-none c =
    let client = rw c.in_default-2.is at c.in_ok-bytes.ensures.none in
    let store = rw c.in_default-3.is at c.in_ok-bytes-2.ensures.none in
    no_hostile_event _ client store c.in_default.ensures.none
