-- What was heard of one side leaves what was heard of the other.
use Rattle.std.proofs.Common.{◌≡◌, ◌⊎◌, ◌≤◌, ℕ, ℤ, List, [], ◌∷◌, ◌++◌, Option, Some, None, inl, inr, length, refl, sym, ap, subst, ◌∙◌}
use Rattle.std.specs.Prelude.{IfSome}
use Rattle.zk_frame.specs.Framing.{IsTooLong}
use Rattle.entry_session.specs.Heard.{Heard, from_client, from_store, bad_client, bad_store, given, client_frames, store_frames, bad_of_client, bad_of_store}
use Rattle.entry_session.specs.Calls.{AreOfClient, AreOfStore}
use Rattle.entry_session.specs.Sides.{IsSide, EndsAtClient, EndsAtStore, bytes_of}
use Rattle.entry_session.specs.declared.ending.Ending.{Ending}
use Rattle.session_law.specs.Law.{AreBehind}

-- ---- frames

pub client_leaves : (more hs : List Heard) → AreOfClient more → store_frames (more ++ hs) ≡ store_frames hs
unfolding AreOfClient store_frames
client_leaves [] hs h = refl
client_leaves (from_client body ∷ more) hs h = client_leaves more hs h
client_leaves (bad_client z ∷ more) hs h = client_leaves more hs h
client_leaves (from_store body ∷ more) hs h = absurd h
client_leaves (bad_store z ∷ more) hs h = absurd h
client_leaves (given e ∷ more) hs h = absurd h

pub store_leaves : (more hs : List Heard) → AreOfStore more → client_frames (more ++ hs) ≡ client_frames hs
unfolding AreOfStore client_frames
store_leaves [] hs h = refl
store_leaves (from_store body ∷ more) hs h = store_leaves more hs h
store_leaves (bad_store z ∷ more) hs h = store_leaves more hs h
store_leaves (from_client body ∷ more) hs h = absurd h
store_leaves (bad_client z ∷ more) hs h = absurd h
store_leaves (given e ∷ more) hs h = absurd h

-- ---- lengths that were refused

-- it is the same, or none any more
abbrev pub SameOrNone : Option ℤ → Option ℤ → Type 0
SameOrNone old new = (new ≡ old) ⊎ (new ≡ None)

pub client_forgets : (more hs : List Heard) → AreOfClient more → SameOrNone (bad_of_store hs) (bad_of_store (more ++ hs))
unfolding AreOfClient bad_of_store
client_forgets [] hs h = inl refl
client_forgets (from_client body ∷ more) hs h = inr refl
client_forgets (bad_client z ∷ more) hs h = inr refl
client_forgets (from_store body ∷ more) hs h = absurd h
client_forgets (bad_store z ∷ more) hs h = absurd h
client_forgets (given e ∷ more) hs h = absurd h

pub store_forgets : (more hs : List Heard) → AreOfStore more → SameOrNone (bad_of_client hs) (bad_of_client (more ++ hs))
unfolding AreOfStore bad_of_client
store_forgets [] hs h = inl refl
store_forgets (from_store body ∷ more) hs h = inr refl
store_forgets (bad_store z ∷ more) hs h = inr refl
store_forgets (from_client body ∷ more) hs h = absurd h
store_forgets (bad_client z ∷ more) hs h = absurd h
store_forgets (given e ∷ more) hs h = absurd h

-- ---- sides

-- a session that went on had not ended at a frame of a side
pub not_at_client : (o : Option Ending) (hs : List Heard) → o ≡ None → EndsAtClient o hs → ⊥
unfolding EndsAtClient
not_at_client None hs e h = h
not_at_client (Some x) hs e h = absurd cc

pub not_at_store : (o : Option Ending) (hs : List Heard) → o ≡ None → EndsAtStore o hs → ⊥
unfolding EndsAtStore
not_at_store None hs e h = h
not_at_store (Some x) hs e h = absurd cc

still_named : (limit : ℕ) (rest : List ℕ) (old new : Option ℤ) → SameOrNone old new → IfSome old (λ z. IsTooLong limit rest z)
    → IfSome new (λ z. IsTooLong limit rest z)
still_named limit rest old new (inl e) h = subst (λ (o : Option ℤ). IfSome o (λ z. IsTooLong limit rest z)) (sym e) h
still_named limit rest old new (inr e) h = subst (λ (o : Option ℤ). IfSome o (λ z. IsTooLong limit rest z)) (sym e) tt

-- a side of which nothing was heard, where the session went on, is as it was, however it ends now
pub side_stays : (limit : ℕ) (old new : List (List ℕ)) (bad now : Option ℤ) (ended ends : Type 0) (bytes : List ℕ) → new ≡ old → SameOrNone bad now
    → (ended → ⊥) → IsSide limit old bad ended bytes → IsSide limit new now ends bytes
side_stays limit old new bad now ended ends bytes same forgets on h = record {
  rest = h.rest;
  whole = h.whole ∙ ap (λ (l : List (List ℕ)). bytes_of l ++ h.rest) (sym same);
  named = still_named limit h.rest bad now forgets h.named;
  partial = λ out. h.partial on;
  within = λ out. h.within on;
}

-- ---- what was taken before

pub behind_client : (counts : List ℕ) (more hs : List Heard) → AreOfClient more → AreBehind counts hs → AreBehind counts (more ++ hs)
unfolding AreOfClient AreBehind
behind_client counts [] hs h b = b
behind_client counts (from_client body ∷ more) hs h b = behind_client counts more hs h b
behind_client counts (bad_client z ∷ more) hs h b = behind_client counts more hs h b
behind_client counts (from_store body ∷ more) hs h b = absurd h
behind_client counts (bad_store z ∷ more) hs h b = absurd h
behind_client counts (given e ∷ more) hs h b = absurd h

-- where every count is of frames that came already, so it is with all that comes now
pub behind_store : (counts : List ℕ) (more hs : List Heard) → AreOfStore more
    → ((done left : List ℕ) (n : ℕ) → counts ≡ done ++ n ∷ left → n ≤ length (client_frames hs)) → AreBehind counts hs → AreBehind counts (more ++ hs)
unfolding AreOfStore AreBehind
behind_store counts [] hs h all b = b
behind_store counts (from_store body ∷ more) hs h all b = (
  (λ done left n e same. subst (λ (l : List (List ℕ)). n ≤ length l) (sym (store_leaves more hs h)) (all done left n e)),
  behind_store counts more hs h all b,
)
behind_store counts (bad_store z ∷ more) hs h all b = behind_store counts more hs h all b
behind_store counts (from_client body ∷ more) hs h all b = absurd h
behind_store counts (bad_client z ∷ more) hs h all b = absurd h
behind_store counts (given e ∷ more) hs h all b = absurd h
