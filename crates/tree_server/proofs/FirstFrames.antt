-- The first frame of a connection, as it is read.
use Rattle.std.proofs.Common.{◌≡◌, ◌⊎◌, ℕ, ℤ, ◌<ℤ◌, ◌≤ℤ◌, true, false, List, Option, sym, subst, inl, inr, arith}
use Rattle.std.proofs.lemmas.Int.{ints}
use Rattle.std.specs.Int.Signed.{lt_z}
use Rattle.jute_core.specs.declared.cursor.Refusal.{Refusal}
use Rattle.zk_records.specs.Connect.{SpellsConnect, RefusedConnect}
use Rattle.zk_records.specs.declared.connect.ConnectRequest.{ConnectRequest}
use Rattle.tree_state.specs.declared.held.Held.{Held}
use Rattle.tree_state.specs.declared.message.Output.{Output}
use Rattle.tree_state.specs.State.{State}
use Rattle.tree_state.specs.Trees.{Means}
use Rattle.store_side.specs.declared.ending.StoreEnding.{StoreEnding}
use Rattle.store_side.specs.declared.ending.StoreEnding.TheVariants as endings
use Rattle.store_side.specs.Calls.{IsRefused, no_connect, ahead}
use Rattle.store_side.specs.Orders.{HasNoConnect}
use Rattle.store_side.specs.Past.{Past, state_of}
use Rattle.tree_server.specs.declared.taking.Move.{Move}
use Rattle.tree_server.specs.Machines.{Took, NotTaken}

-- it is no connect request
pub not_read : (past : Past) (c : ℕ) (now : ℤ) (body : List ℕ) (e : StoreEnding) → HasNoConnect c past.order
    → (e ≡ endings.Memory) ⊎ ((refusal : Refusal) × (e ≡ endings.Malformed refusal) × RefusedConnect body refusal.place refusal.reason)
    → NotTaken past c now body e
not_read past c now body e none (inl memory) = inl memory
not_read past c now body e none (inr why) = inr (subst (IsRefused past c now body) (sym why.1) (no_connect why.0 none why.2))

below : (a b : ℤ) → lt_z a b ≡ true → a <ℤ b
below a b h = grind (arith, ints)

pub not_below : (a b : ℤ) → lt_z a b ≡ false → b ≤ℤ a
not_below a b h = grind (arith, ints)

-- its client has seen more
pub is_ahead : (held : Held) (past : Past) (c : ℕ) (now : ℤ) (body : List ℕ) (asked : ConnectRequest) (last : ℤ)
    → Means held (state_of past)
    → ((s : State) → Means held s → last ≡ s.last) → HasNoConnect c past.order → SpellsConnect asked body → lt_z last asked.seen ≡ true
    → NotTaken past c now body (endings.AheadOfUs asked.seen last)
is_ahead held past c now body asked last means reads none spelled test =
    let e = reads (state_of past) means in
    inr (subst (λ (z : ℤ). IsRefused past c now body (endings.AheadOfUs asked.seen z)) (sym e)
    (ahead asked none spelled (subst (λ (z : ℤ). z <ℤ asked.seen) e (below last asked.seen test))))

pub seen_within : (held : Held) (past : Past) (asked : ConnectRequest) (last : ℤ) → Means held (state_of past)
    → ((s : State) → Means held s → last ≡ s.last) → lt_z last asked.seen ≡ false → asked.seen ≤ℤ (state_of past).last
seen_within held past asked last means reads test =
    subst (λ (z : ℤ). asked.seen ≤ℤ z) (reads (state_of past) means) (not_below last asked.seen test)

-- what is offered is on the connection, at the time
pub took_on : (past : Past) (c d : ℕ) (now at : ℤ) (body : List ℕ) (sent : List Output) (moved : Option Move)
    (ending : Option StoreEnding) (S : Past → Type 0) → d ≡ c → at ≡ now
    → (new : Past) × Took past d at body sent moved ending new × S new → (new : Past) × Took past c now body sent moved ending new × S new
took_on past c d now at body sent moved ending S e f h = (
  h.0,
  subst (λ (x : ℕ). Took past x now body sent moved ending h.0) e
      (subst (λ (z : ℤ). Took past d z body sent moved ending h.0) f h.1),
  h.2,
)

pub not_on : (past : Past) (c d : ℕ) (now at : ℤ) (body : List ℕ) (e : StoreEnding) (S : Type 0) → d ≡ c → at ≡ now
    → NotTaken past d at body e × S → NotTaken past c now body e × S
not_on past c d now at body e S f g h =
    (subst (λ (x : ℕ). NotTaken past x now body e) f (subst (λ (z : ℤ). NotTaken past d z body e) g h.0), h.1)
