-- Laws of commands and of names.
use Rattle.std.specs.Prelude.{◌≡◌, ℤ, Option}
use Rattle.zk_path.specs.Numbers.{IsPlainName}
use Rattle.zk_messages.specs.Refuses.{Refuses}
use Rattle.zk_messages.specs.declared.request.Request.{Request}
use Rattle.tree_state.specs.Commands.{Command, IsCommand}
use Rattle.tree_state.specs.Plain.{plain}
use Rattle.tree_state.specs.Trees.{IsNaming}

-- a request that is refused, or is not, is one command
pub record IsOneCommand (r : Request) : Type 0 where
  pub some : (outcome : Option ℤ) → Refuses r outcome → (command : Command) × IsCommand r command
  pub one : (a b : Command) → IsCommand r a → IsCommand r b → a ≡ b

-- the numberer of plain names gives the plain ones
abbrev pub HasPlainNames : Type 0
HasPlainNames = IsNaming IsPlainName plain
