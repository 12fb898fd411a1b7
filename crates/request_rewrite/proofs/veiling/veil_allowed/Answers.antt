use Rattle.request_rewrite.proofs.Whole.{watches_of, no_iv_turned, one_iv_turned, create_iv, create2_iv, content_iv, ping_none, close_none}
use Rattle.request_rewrite.proofs.veiling.veil_allowed.Goals as goal

pub returns-in-Create : goal.returns-in-Create
returns-in-Create c = one_iv_turned _ _ _ _ _ _ c.in-Create.is (create_iv _ _) c.ahead.ensures c.veil_create.ensures

pub returns-in-Create2 : goal.returns-in-Create2
returns-in-Create2 c = one_iv_turned _ _ _ _ _ _ c.in-Create2.is (create2_iv _ _) c.ahead-in-Create2.ensures c.veil_create2.ensures

pub returns-in-SetContent : goal.returns-in-SetContent
returns-in-SetContent c = one_iv_turned _ _ _ _ _ _ c.in-SetContent.is (content_iv _ _) c.ahead-in-SetContent.ensures c.veil_set_content.ensures

pub returns-in-Ping : goal.returns-in-Ping
returns-in-Ping c = no_iv_turned _ _ _ _ _ _ c.in-Ping.is ping_none (c.veil_ping.ensures _)

pub returns-in-Close : goal.returns-in-Close
returns-in-Close c = no_iv_turned _ _ _ _ _ _ c.in-Close.is close_none (c.veil_close.ensures _)

pub veil_watches-requires-clause-legal : goal.veil_watches-requires-clause-legal
veil_watches-requires-clause-legal c = watches_of _ _ c.in-SetWatches.is c.requires.allowed
