-- A server at its start.
use Rattle.std.proofs.Common.{◌≡◌, ℕ, List, [], refl, inl, arith}
use Rattle.std.proofs.lemmas.List.Elements.{All-nil}
use Rattle.tree_state.specs.declared.held.Held.{Held}
use Rattle.tree_state.specs.Changes.{Naming}
use Rattle.tree_state.specs.State.{start_at}
use Rattle.store_side.specs.declared.entry.Entry.{Entry}
use Rattle.store_side.specs.Zips.{Zips}
use Rattle.store_side.specs.Messages.{Messages}
use Rattle.store_side.specs.Out.{out, outputs, to_connection}
use Rattle.store_side.specs.Orders.{ConnectsOnce, FitsOutput, HasNoConnect, LegalFrom}
use Rattle.store_side.specs.Owed.{reserves}
use Rattle.store_side.specs.Past.{after_all, state_of}
use Rattle.store_side.specs.Follows.{IsSound}
use Rattle.tree_server.specs.declared.books.Books.{Books}
use Rattle.tree_server.specs.declared.lines.Lines.{Lines}
use Rattle.tree_server.specs.Connections.{AreLines}
use Rattle.tree_server.specs.Machines.{Stands, fresh}
use Rattle.tree_server.specs.Servers.{ServerStands}

-- nothing was admitted, taken or told
sound_fresh : (naming : Naming) (key : List ℕ) (limit : ℕ) → IsSound (fresh naming key limit)
unfolding state_of after_all Zips LegalFrom ConnectsOnce HasNoConnect Messages outputs to_connection reserves start_at
sound_fresh naming key limit = record {
  follows = record {
    legal = record { are_acts = tt; steps = tt; once = tt; answers_fit = All-nil FitsOutput };
    shown = λ c. tt;
    spelled = λ c. refl;
    goes_on = λ c on. inl tt;
  };
  within = omega arith;
  untouched = λ c apart. record { no_connect = tt; told = refl; pulled = refl; waiting = refl; rest = refl; goes_on = refl };
}

plain_fresh : (naming : Naming) (key : List ℕ) (limit c : ℕ) → (fresh naming key limit).told c ≡ out naming [] c
unfolding outputs to_connection
plain_fresh naming key limit c = refl

pub server_fresh : (named : List ℕ → ℕ → List ℕ → Type 0) (keeps : List Entry → Type 0) (room : ℕ) (held : Held) (books : Books)
    (lines : Lines) (naming : Naming) (key : List ℕ) (limit : ℕ)
    → Stands named keeps room held books (fresh naming key limit) → AreLines lines (fresh naming key limit)
    → ServerStands named keeps room held books lines (fresh naming key limit)
server_fresh named keeps room held books lines naming key limit machine are =
    record { both = record { machine = machine; lines_are = are }; sound = sound_fresh naming key limit; plain = plain_fresh naming key limit }
