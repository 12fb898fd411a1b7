-- Which messages answer, and when their answers come.
use Rattle.std.proofs.Common.{◌≡◌, ◌<◌, ℕ, suc, List, [], ◌∷◌, ◌++◌, length}
use Rattle.tree_state.specs.declared.message.Message.{Message}
use Rattle.tree_state.specs.declared.message.Message.TheVariants as messages
use Rattle.entry_session.specs.Heard.{Heard, from_client, from_store, bad_client, bad_store, given, client_frames, store_frames}

-- an event answers nothing
unfoldable pub answers : List Message → ℕ
answers [] = 0
answers (messages.Event e ∷ ms) = answers ms
answers (messages.Reply r ∷ ms) = suc (answers ms)
answers (messages.Connected r ∷ ms) = suc (answers ms)

unfoldable pub IsAnswer : Message → Type 0
IsAnswer (messages.Event e) = ⊥
IsAnswer m = Unit {0}

-- each answer of the store came after the frame that it answers
unfoldable pub AnswersBehind : List Message → List Heard → Type 0
AnswersBehind told [] = Unit {0}
AnswersBehind told (from_store body ∷ hs) = ((done left : List Message) (m : Message) → told ≡ done ++ m ∷ left → length done ≡ length (store_frames hs) → IsAnswer m → answers done < length (client_frames hs)) × AnswersBehind told hs
AnswersBehind told (from_client body ∷ hs) = AnswersBehind told hs
AnswersBehind told (bad_client z ∷ hs) = AnswersBehind told hs
AnswersBehind told (bad_store z ∷ hs) = AnswersBehind told hs
AnswersBehind told (given e ∷ hs) = AnswersBehind told hs
