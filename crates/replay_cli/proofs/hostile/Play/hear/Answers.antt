use Rattle.std.proofs.Common.{refl, sym, ap, ◌∙◌}
use Rattle.entry_session.specs.Runs.{IsGivenEnding}
use Rattle.replay_cli.specs.declared.hostile_script.HostileEvent.TheVariants.{Client, Store}
use Rattle.replay_cli.proofs.PlayLemmas.{heard_as, client_end_heard, store_end_heard}
use Rattle.replay_cli.proofs.hostile.Play.hear.Goals as goal

pub end-requires : goal.end-requires
unfolding IsGivenEnding
end-requires c = tt

pub end-requires-in-StoreEnd : goal.end-requires-in-StoreEnd
unfolding IsGivenEnding
end-requires-in-StoreEnd c = tt

pub returns-in-Client : goal.returns-in-Client
returns-in-Client c = heard_as c.hear_client.result _ _ _ _ (c.in-Client.is ∙ ap Client (sym c.as_slice.ensures)) c.hear_client.ensures

pub returns-in-Store : goal.returns-in-Store
returns-in-Store c = heard_as c.hear_store.result _ _ _ _ (c.in-Store.is ∙ ap Store (sym c.as_slice-in-Store.ensures)) c.hear_store.ensures

pub returns-in-ClientEnd : goal.returns-in-ClientEnd
returns-in-ClientEnd c = rw c.in-ClientEnd.is (client_end_heard _ _ (record {
  leads = c.end.ensures.ends;
  over = λ e is. (c.end.ensures.ended e is).1;
  same = c.end.ensures.same;
  up = refl;
  down = refl;
  findings = refl;
}))

pub returns-in-StoreEnd : goal.returns-in-StoreEnd
returns-in-StoreEnd c = rw c.in-StoreEnd.is (store_end_heard _ _ (record {
  leads = c.end-in-StoreEnd.ensures.ends;
  over = λ e is. (c.end-in-StoreEnd.ensures.ended e is).1;
  same = c.end-in-StoreEnd.ensures.same;
  up = refl;
  down = refl;
  findings = refl;
}))
