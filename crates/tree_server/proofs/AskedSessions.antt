-- What a request of a connection does to the sessions.
use Rattle.std.proofs.Common.{◌≡◌, ◌≢◌, ◌⊎◌, ℕ, ℤ, List, Option, Some, refl, ap, ◌∙◌, subst, inl, inr}
use Rattle.zk_messages.specs.Refuses.{Refuses}
use Rattle.zk_messages.specs.declared.request.Request.{Request}
use Rattle.zk_messages.specs.declared.request.Request.TheVariants as requests
use Rattle.tree_state.specs.Changes.{Naming}
use Rattle.tree_state.specs.State.{State, Session, session_of, change_session, heard_at, without_session}
use Rattle.tree_state.specs.Commands.{Command, Asks, IsCommand, close}
use Rattle.tree_state.specs.Step.{asks as asking, step}
use Rattle.tree_state.proofs.Serving.{asks_close}
use Rattle.tree_server.specs.Times.{sessions_after, sessions_asked, sessions_of}
use Rattle.tree_server.proofs.SessionsAfter.{sessions_step}

-- ---- which request closes its session

pub closes_or : (r : Request) → (r ≡ requests.Close) ⊎ (r ≢ requests.Close)
closes_or requests.Close = inl refl
closes_or r = inr (λ e. cc)

asks_closing : (r : Request) → Asks r close → r ≡ requests.Close
unfolding Asks
asks_closing requests.Close h = refl
asks_closing r h = absurd h

pub not_closing : (r : Request) (command : Command) → IsCommand r command → r ≢ requests.Close → command ≢ close
unfolding IsCommand
not_closing r command (inl k) n e = let f = k.2 in cc
not_closing r command (inr k) n e = n (asks_closing r (subst (Asks r) e k.1))

allowed : (code : ℤ) → Refuses requests.Close (Some code) → ⊥
unfolding Refuses
allowed code h = cc

pub closing : (r : Request) (command : Command) → IsCommand r command → r ≡ requests.Close → command ≡ close
unfolding IsCommand
closing r command (inl k) e = absurd (allowed k.0 (subst (λ (q : Request). Refuses q (Some k.0)) e k.1))
closing r command (inr k) e = asks_close command (subst (λ (q : Request). Asks q command) e k.1)

-- ---- the sessions after it

heard : (k : ℤ) (command : Command) (now : ℤ) (xs : List Session) → command ≢ close
    → sessions_asked k command now xs ≡ change_session k (heard_at now) xs
unfolding sessions_asked
heard k close now xs n = absurd (n refl)
heard k command now xs n = refl

after : (naming : Naming) (s : State) (c : ℕ) (k xid now : ℤ) (command : Command) → session_of c s.sessions ≡ Some k
    → (step naming s (asking c xid command now)).state.sessions ≡ sessions_asked k command now s.sessions
unfolding sessions_after sessions_of
after naming s c k xid now command e =
    sessions_step naming s (asking c xid command now) ∙ ap (λ (o : Option ℤ). sessions_of o command now s.sessions) e

-- the session is heard
pub heard_sessions : (naming : Naming) (s : State) (c : ℕ) (k xid now : ℤ) (command : Command) → session_of c s.sessions ≡ Some k
    → command ≢ close
    → (step naming s (asking c xid command now)).state.sessions ≡ change_session k (heard_at now) s.sessions
heard_sessions naming s c k xid now command e n = after naming s c k xid now command e ∙ heard k command now s.sessions n

-- or ends
pub closed_sessions : (naming : Naming) (s : State) (c : ℕ) (k xid now : ℤ) (command : Command) → session_of c s.sessions ≡ Some k
    → command ≡ close
    → (step naming s (asking c xid command now)).state.sessions ≡ without_session k s.sessions
unfolding sessions_asked
closed_sessions naming s c k xid now command e is =
    after naming s c k xid now command e ∙ ap (λ (x : Command). sessions_asked k x now s.sessions) is
