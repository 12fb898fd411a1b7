use Rattle.replay_cli.proofs.EventLemmas.{no_event, none_so}
use Rattle.replay_cli.proofs.script.event_of.Goals as goal

pub returns-clause-none : goal.returns-clause-none
returns-clause-none c =
    let send = rw c.in_default.is at c.in_ok-event.ensures.none in
    none_so _ _ _ (λ time. no_event _ _ send c.in_default-word_of.ensures.none c.in_default-up_of.ensures.none c.in_default-down_of.ensures.none c.in_default-cut_of.ensures.none time) c.time_of.ensures.none
