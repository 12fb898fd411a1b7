-- What a connect request is given, read off a map of sessions.
use Rattle.std.proofs.Common.{◌≡◌, ℕ, ℤ, pos, Bool, true, false, cond, List, Option, Some, None, int_cmp, int_eq, refl, sym, ap, ap₂, ◌∙◌, inl, inr, FitsSigned, w32, to_z, of_z}
use Rattle.std.specs.BTreeMap.{get}
use Rattle.std.specs.Cmp.{signed_Decides}
use Rattle.std.specs.Int.{int_max, int_min}
use Rattle.std.specs.Option.{option_map}
use Rattle.std.proofs.lemmas.Bool.{cases_Bool}
use Rattle.std.proofs.lemmas.Int.{to_z-of_z}
use Rattle.zk_records.specs.declared.connect.ConnectRequest.{ConnectRequest}
use Rattle.tree_state.specs.declared.session.Given.{Given}
use Rattle.tree_state.specs.declared.session.Session as code
use Rattle.tree_state.specs.declared.session.Sessions.{Sessions}
use Rattle.tree_state.specs.State.{Session, session_at}
use Rattle.tree_state.specs.Step.{clamped, given_to, given_live, is_password_of, no_session}
use Rattle.tree_state.specs.Sessions.{Keeps, Owning, session_at_key}
use Rattle.tree_state.proofs.SessionLists.{same_number}
use Rattle.tree_state.proofs.SessionMaps.{at_key}

pub clamped_so : (asked r : ℤ) → FitsSigned w32 asked → FitsSigned w32 r → r ≡ int_max (pos 4000) (int_min (to_z w32 (of_z w32 asked)) (pos 40000)) → to_z w32 (of_z w32 r) ≡ clamped asked
unfolding clamped
clamped_so asked r f g h = to_z-of_z w32 r g ∙ h ∙ ap (λ (z : ℤ). int_max (pos 4000) (int_min z (pos 40000))) (to_z-of_z w32 asked f)

pub given_of : (a b c d : ℤ) (password : List ℕ) → a ≡ b → c ≡ d
    → ◌≡◌ {A = Given} (record { session = a; timeout = c; password = password }) (record { session = b; timeout = d; password = password })
given_of a b c d password h k = ap₂ {C = Given} (λ (y z : ℤ). record { session = y; timeout = z; password = password }) h k

is_zero : (asked : ConnectRequest) → asked.session ≡ pos 0 → int_eq asked.session (pos 0) ≡ true
is_zero asked h = (signed_Decides asked.session (pos 0)).1 h

not_zero : (asked : ConnectRequest) → (asked.session ≡ pos 0 → ⊥) → int_eq asked.session (pos 0) ≡ false
not_zero asked h = elim (cases_Bool (int_eq asked.session (pos 0))) [ inl zero ↦ absurd (h (same_number asked.session (pos 0) zero)) | inr other ↦ other ]

pub given_fresh : (xs : List Session) (asked : ConnectRequest) (fresh : ℤ) (password : List ℕ) → asked.session ≡ pos 0
    → given_to xs asked fresh password ≡ record { session = fresh; timeout = clamped asked.timeout; password = password }
unfolding given_to
given_fresh xs asked fresh password h = rw (is_zero asked h) refl

given_at : (t : Sessions) (xs : List Session) (owned : Owning) (asked : ConnectRequest) (fresh : ℤ) (password : List ℕ) (o : Option code.Session)
    → (asked.session ≡ pos 0 → ⊥) → o ≡ get int_cmp t.live asked.session → Keeps t xs owned
    → given_to xs asked fresh password ≡ given_live asked (option_map (λ (v : code.Session). session_at_key (asked.session, v)) o)
unfolding given_to
given_at t xs owned asked fresh password o h k keeps =
    let s : session_at asked.session xs ≡ option_map (λ (v : code.Session). session_at_key (asked.session, v)) o =
    ap (session_at asked.session) (sym keeps.sessions) ∙ at_key asked.session t.live.entries ∙ ap (option_map (λ (v : code.Session). session_at_key (asked.session, v))) (sym k) in
    rw (not_zero asked h) (ap (given_live asked) s)

pub given_known : (t : Sessions) (xs : List Session) (owned : Owning) (asked : ConnectRequest) (fresh : ℤ) (password : List ℕ) (v : code.Session)
    → (asked.session ≡ pos 0 → ⊥) → Some v ≡ get int_cmp t.live asked.session
    → ((session : ℤ) → true ≡ is_password_of asked.password (session_at_key (session, v))) → Keeps t xs owned
    → given_to xs asked fresh password ≡ record { session = asked.session; timeout = clamped asked.timeout; password = v.password }
unfolding given_live session_at_key
given_known t xs owned asked fresh password v h k p keeps =
    given_at t xs owned asked fresh password (Some v) h k keeps
    ∙ ap (λ (b : Bool). cond b (record { session = asked.session; timeout = clamped asked.timeout; password = v.password }) no_session) (sym (p asked.session))

pub given_wrong : (t : Sessions) (xs : List Session) (owned : Owning) (asked : ConnectRequest) (fresh : ℤ) (password : List ℕ) (v : code.Session)
    → (asked.session ≡ pos 0 → ⊥) → Some v ≡ get int_cmp t.live asked.session
    → ((session : ℤ) → false ≡ is_password_of asked.password (session_at_key (session, v))) → Keeps t xs owned
    → given_to xs asked fresh password ≡ no_session
unfolding given_live session_at_key
given_wrong t xs owned asked fresh password v h k p keeps =
    given_at t xs owned asked fresh password (Some v) h k keeps
    ∙ ap (λ (b : Bool). cond b (record { session = asked.session; timeout = clamped asked.timeout; password = v.password }) no_session) (sym (p asked.session))

pub given_unknown : (t : Sessions) (xs : List Session) (owned : Owning) (asked : ConnectRequest) (fresh : ℤ) (password : List ℕ)
    → (asked.session ≡ pos 0 → ⊥) → None ≡ get int_cmp t.live asked.session → Keeps t xs owned
    → given_to xs asked fresh password ≡ no_session
unfolding given_live
given_unknown t xs owned asked fresh password h k keeps = given_at t xs owned asked fresh password None h k keeps
