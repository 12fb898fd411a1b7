-- One side of a session that hears more: its frames, its bad length, and its bytes.
use Rattle.std.proofs.Common.{◌≡◌, ℕ, ℤ, List, [], ◌∷◌, ◌++◌, append-nil, append_assoc, Option, Some, None, refl, sym, ap, subst, ◌∙◌}
use Rattle.std.specs.Prelude.{IfSome}
use Rattle.std.proofs.lemmas.Grind.{flat_map-append}
use Rattle.jute_core.specs.Frames.{frame}
use Rattle.payload_seal.specs.declared.keys.EntryKeys.{EntryKeys}
use Rattle.zk_frame.specs.Framing.{IsTooLong}
use Rattle.entry_session.specs.Heard.{Heard, from_client, from_store, bad_client, bad_store, given, client_frames, store_frames, bad_of_client, bad_of_store}
use Rattle.entry_session.specs.Stands.{Stand}
use Rattle.entry_session.specs.Runs.{Ran, TurnOf}
use Rattle.entry_session.specs.Calls.{AreOfClient, AreOfStore}
use Rattle.entry_session.specs.Sides.{IsSide, EndsAtClient, EndsAtStore, bytes_of}
use Rattle.entry_session.specs.declared.ending.Ending.{Ending}
use Rattle.entry_session.proofs.Turns.{goes, some_none}

-- ---- frames

grown : (some bodies front : List (List ℕ)) (body : List ℕ) → some ≡ front ++ bodies → some ++ body ∷ [] ≡ front ++ (bodies ++ body ∷ [])
grown some bodies front body e = ap (λ (l : List (List ℕ)). l ++ body ∷ []) e ∙ append_assoc front bodies (body ∷ [])

pub client_frames_more : (more hs : List Heard) → client_frames (more ++ hs) ≡ client_frames hs ++ client_frames more
unfolding client_frames
client_frames_more [] hs = sym (append-nil (client_frames hs))
client_frames_more (from_client body ∷ more) hs = grown (client_frames (more ++ hs)) (client_frames more) (client_frames hs) body (client_frames_more more hs)
client_frames_more (from_store body ∷ more) hs = client_frames_more more hs
client_frames_more (bad_client z ∷ more) hs = client_frames_more more hs
client_frames_more (bad_store z ∷ more) hs = client_frames_more more hs
client_frames_more (given e ∷ more) hs = client_frames_more more hs

pub store_frames_more : (more hs : List Heard) → store_frames (more ++ hs) ≡ store_frames hs ++ store_frames more
unfolding store_frames
store_frames_more [] hs = sym (append-nil (store_frames hs))
store_frames_more (from_store body ∷ more) hs = grown (store_frames (more ++ hs)) (store_frames more) (store_frames hs) body (store_frames_more more hs)
store_frames_more (from_client body ∷ more) hs = store_frames_more more hs
store_frames_more (bad_client z ∷ more) hs = store_frames_more more hs
store_frames_more (bad_store z ∷ more) hs = store_frames_more more hs
store_frames_more (given e ∷ more) hs = store_frames_more more hs

-- what is of one side has no frame of the other

pub none_of_store : (more : List Heard) → AreOfClient more → store_frames more ≡ []
unfolding AreOfClient store_frames
none_of_store [] h = refl
none_of_store (from_client body ∷ more) h = none_of_store more h
none_of_store (bad_client z ∷ more) h = none_of_store more h
none_of_store (from_store body ∷ more) h = absurd h
none_of_store (bad_store z ∷ more) h = absurd h
none_of_store (given e ∷ more) h = absurd h

pub none_of_client : (more : List Heard) → AreOfStore more → client_frames more ≡ []
unfolding AreOfStore client_frames
none_of_client [] h = refl
none_of_client (from_store body ∷ more) h = none_of_client more h
none_of_client (bad_store z ∷ more) h = none_of_client more h
none_of_client (from_client body ∷ more) h = absurd h
none_of_client (bad_client z ∷ more) h = absurd h
none_of_client (given e ∷ more) h = absurd h

pub store_kept : (more hs : List Heard) → AreOfClient more → store_frames (more ++ hs) ≡ store_frames hs
store_kept more hs h = store_frames_more more hs ∙ ap (λ (l : List (List ℕ)). store_frames hs ++ l) (none_of_store more h) ∙ append-nil (store_frames hs)

pub client_kept : (more hs : List Heard) → AreOfStore more → client_frames (more ++ hs) ≡ client_frames hs
client_kept more hs h = client_frames_more more hs ∙ ap (λ (l : List (List ℕ)). client_frames hs ++ l) (none_of_client more h) ∙ append-nil (client_frames hs)

-- ---- bad lengths and endings

-- a session that goes on heard no bad length

none_bad_client : (k : EntryKeys) (boot c : ℕ) (hs : List Heard) (s : Stand) → Ran k boot c hs s → s.ending ≡ None → bad_of_client hs ≡ None
unfolding Ran TurnOf bad_of_client
none_bad_client k boot c [] s ran on = refl
none_bad_client k boot c (bad_client z ∷ hs) s (old, ran, t) on = absurd (some_none _ (sym (ap (λ (x : Stand). x.ending) (goes k boot c old (bad_client z) s t).turn.1) ∙ on))
none_bad_client k boot c (from_client body ∷ hs) s ran on = refl
none_bad_client k boot c (from_store body ∷ hs) s ran on = refl
none_bad_client k boot c (bad_store z ∷ hs) s ran on = refl
none_bad_client k boot c (given e ∷ hs) s ran on = refl

none_bad_store : (k : EntryKeys) (boot c : ℕ) (hs : List Heard) (s : Stand) → Ran k boot c hs s → s.ending ≡ None → bad_of_store hs ≡ None
unfolding Ran TurnOf bad_of_store
none_bad_store k boot c [] s ran on = refl
none_bad_store k boot c (bad_store z ∷ hs) s (old, ran, t) on = absurd (some_none _ (sym (ap (λ (x : Stand). x.ending) (goes k boot c old (bad_store z) s t).turn.1) ∙ on))
none_bad_store k boot c (from_store body ∷ hs) s ran on = refl
none_bad_store k boot c (from_client body ∷ hs) s ran on = refl
none_bad_store k boot c (bad_client z ∷ hs) s ran on = refl
none_bad_store k boot c (given e ∷ hs) s ran on = refl

-- so the bad length is that of what it heard since

pub bad_client_more : (k : EntryKeys) (boot c : ℕ) (more hs : List Heard) (s : Stand) → Ran k boot c hs s → s.ending ≡ None → bad_of_client (more ++ hs) ≡ bad_of_client more
unfolding bad_of_client
bad_client_more k boot c [] hs s ran on = none_bad_client k boot c hs s ran on
bad_client_more k boot c (bad_client z ∷ more) hs s ran on = refl
bad_client_more k boot c (from_client body ∷ more) hs s ran on = refl
bad_client_more k boot c (from_store body ∷ more) hs s ran on = refl
bad_client_more k boot c (bad_store z ∷ more) hs s ran on = refl
bad_client_more k boot c (given e ∷ more) hs s ran on = refl

pub bad_store_more : (k : EntryKeys) (boot c : ℕ) (more hs : List Heard) (s : Stand) → Ran k boot c hs s → s.ending ≡ None → bad_of_store (more ++ hs) ≡ bad_of_store more
unfolding bad_of_store
bad_store_more k boot c [] hs s ran on = none_bad_store k boot c hs s ran on
bad_store_more k boot c (bad_store z ∷ more) hs s ran on = refl
bad_store_more k boot c (from_store body ∷ more) hs s ran on = refl
bad_store_more k boot c (from_client body ∷ more) hs s ran on = refl
bad_store_more k boot c (bad_client z ∷ more) hs s ran on = refl
bad_store_more k boot c (given e ∷ more) hs s ran on = refl

pub ends_client_more : (o : Option Ending) (more hs : List Heard) → EndsAtClient o more → EndsAtClient o (more ++ hs)
unfolding EndsAtClient
ends_client_more None more hs h = absurd h
ends_client_more (Some e) [] hs h = absurd h
ends_client_more (Some e) (from_client body ∷ more) hs h = h
ends_client_more (Some e) (bad_client z ∷ more) hs h = h
ends_client_more (Some e) (from_store body ∷ more) hs h = absurd h
ends_client_more (Some e) (bad_store z ∷ more) hs h = absurd h
ends_client_more (Some e) (given f ∷ more) hs h = absurd h

pub ends_store_more : (o : Option Ending) (more hs : List Heard) → EndsAtStore o more → EndsAtStore o (more ++ hs)
unfolding EndsAtStore
ends_store_more None more hs h = absurd h
ends_store_more (Some e) [] hs h = absurd h
ends_store_more (Some e) (from_store body ∷ more) hs h = h
ends_store_more (Some e) (bad_store z ∷ more) hs h = h
ends_store_more (Some e) (from_client body ∷ more) hs h = absurd h
ends_store_more (Some e) (bad_client z ∷ more) hs h = absurd h
ends_store_more (Some e) (given f ∷ more) hs h = absurd h

-- ---- bytes

pub bytes_more : (all front more : List (List ℕ)) → all ≡ front ++ more → bytes_of all ≡ bytes_of front ++ bytes_of more
bytes_more all front more e = ap bytes_of e ∙ flat_map-append frame front more

-- a part of a frame was left, and what came behind it is more frames and a rest
pub joins : (bytes rest piece left : List ℕ) (all front more : List (List ℕ)) → bytes ≡ bytes_of front ++ rest → all ≡ front ++ more
    → rest ++ piece ≡ bytes_of more ++ left → bytes ++ piece ≡ bytes_of all ++ left
joins bytes rest piece left all front more cut frames next =
    ap (λ (l : List ℕ). l ++ piece) cut ∙ append_assoc (bytes_of front) rest piece ∙ ap (λ (l : List ℕ). bytes_of front ++ l) next
    ∙ sym (append_assoc (bytes_of front) (bytes_of more) left) ∙ sym (ap (λ (l : List ℕ). l ++ left) (bytes_more all front more frames))

-- the side of all that was heard
pub side_more : (limit : ℕ) (all front more : List (List ℕ)) (bad_all bad : Option ℤ) (ended ends : Type 0) (bytes rest piece : List ℕ) → bytes ≡ bytes_of front ++ rest
    → all ≡ front ++ more → bad_all ≡ bad → (ended → ends) → IsSide limit more bad ended (rest ++ piece) → IsSide limit all bad_all ends (bytes ++ piece)
side_more limit all front more bad_all bad ended ends bytes rest piece cut frames same over h = record {
  rest = h.rest;
  whole = joins bytes rest piece h.rest all front more cut frames h.whole;
  named = subst (λ (o : Option ℤ). IfSome o (λ z. IsTooLong limit h.rest z)) (sym same) h.named;
  partial = λ out. h.partial (λ e. out (over e));
  within = λ out. h.within (λ e. out (over e));
}
