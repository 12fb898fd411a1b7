-- What the entries of an order are to the machine.
use Rattle.std.specs.Prelude.{◌≡◌, ℕ, ℤ, List}
use Rattle.zk_messages.specs.declared.request.Request.{Request}
use Rattle.tree_state.specs.Commands.{Command, IsCommand}
use Rattle.tree_state.specs.Step.{Act, connects, asks as asking, loses, expires}
use Rattle.store_side.specs.Zips.{Zips}
use Rattle.store_side.specs.declared.entry.Entry.{Entry}
use Rattle.store_side.specs.declared.entry.Entry.TheVariants.{Connect, Take, Lost, Expire}

-- the request asks this on a connection, at this time
pub record IsAsked (c : ℕ) (xid : ℤ) (request : Request) (now : ℤ) (act : Act) : Type 0 where
  pub command : Command
  pub is_command : IsCommand request command
  pub is : act ≡ asking c xid command now

-- a connect request with what it was given; what a request asks; the loss of a connection; the end of a session
unfoldable pub IsAct : Entry → Act → Type 0
IsAct (Connect c asked session timeout password zxid now) act = act ≡ connects c asked (record { session = session; timeout = timeout; password = password }) now
IsAct (Take c xid request zxid now) act = IsAsked c xid request now act
IsAct (Lost c) act = act ≡ loses c
IsAct (Expire session zxid now) act = act ≡ expires session now

-- entry by entry
abbrev pub AreActs : List Entry → List Act → Type 0
AreActs order acts = Zips IsAct order acts
