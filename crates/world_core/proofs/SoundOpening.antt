-- A world is sound before anything was done.
use Rattle.std.proofs.Common.{◌≡◌, ◌<◌, ℕ, ℤ, List, [], ◌∷◌, ◌++◌, length, true, false, refl, sym, ap, subst, ◌∙◌, arith, length-append}
use Rattle.std.specs.Prelude.{All}
use Rattle.std.proofs.lemmas.List.Elements.{All-nil}
use Rattle.path_seal.specs.Sealed.{AreKeys}
use Rattle.jute_core.specs.Frames.{FitsFrame, Stream}
use Rattle.jute_core.specs.Jute.{IsInt}
use Rattle.payload_seal.specs.declared.keys.EntryKeys.{EntryKeys}
use Rattle.zk_frame.specs.Framing.{IsTooLong}
use Rattle.zk_messages.specs.Sent.{Items, Sent, client_limit}
use Rattle.counter_enclave.specs.Enclave.{IsSealedName}
use Rattle.tree_state.specs.State.{start}
use Rattle.tree_state.specs.Trees.{IsNaming}
use Rattle.store_side.specs.Past.{Past, is_over}
use Rattle.store_side.specs.Follows.{IsAdmitted, IsSound, IsUntouched}
use Rattle.store_side.specs.Fill.{items_in}
use Rattle.store_side.specs.declared.entry.Entry.{Entry}
use Rattle.entry_session.specs.Heard.{client_frames, store_frames, bad_of_client, bad_of_store}
use Rattle.entry_session.specs.Runs.{Ran, store_limit}
use Rattle.entry_session.specs.Sides.{IsSide, EndsAtClient, EndsAtStore}
use Rattle.entry_session.specs.Stands.{fresh}
use Rattle.entry_session.specs.Veiled.{SpellsItems}
use Rattle.session_law.specs.Law.{IsJoined, AreBehind, taken_at}
use Rattle.session_law.proofs.Pieces.{frame_filled}
use Rattle.world_core.specs.Moments.{IsSoundAt, IsSoundMoment, connection_of, fresh_link, opening}
use Rattle.world_core.specs.Standing.{IsNew}
use Rattle.world_core.proofs.Streams.{rest_of_none}

int_size : (z : ℤ) (prefix : List ℕ) → IsInt z prefix → length prefix ≡ 4
int_size z prefix h = ap length h.1

-- no length is named where there is nothing
not_named : (limit : ℕ) (z : ℤ) → IsTooLong limit [] z → ⊥
not_named limit z h = omega (arith, ap length h.begins, length-append h.prefix h.more, int_size z h.prefix h.named)

client_of_none : IsSide client_limit (client_frames []) (bad_of_client []) (EndsAtClient fresh.ending []) []
unfolding client_frames bad_of_client
client_of_none = record { rest = []; whole = refl; named = tt; partial = λ on. rest_of_none; within = λ on. not_named client_limit }

store_of_none : IsSide store_limit (store_frames []) (bad_of_store []) (EndsAtStore fresh.ending []) []
unfolding store_frames bad_of_store
store_of_none = record { rest = []; whole = refl; named = tt; partial = λ on. rest_of_none; within = λ on. not_named store_limit }

nothing_sent : Sent [] []
unfolding Items
nothing_sent = record { rest = []; spelled = refl; ended = λ item more h. frame_filled h.body more (sym h.cut) }

no_items : (c : ℕ) (es : List Entry) → es ≡ [] → SpellsItems true (items_in c es) []
unfolding items_in SpellsItems
no_items c [] e = tt
no_items c (e ∷ es) not = absurd cc

fresh_joined : (k : EntryKeys) (boot c : ℕ) (past : Past) → past.pulled c ≡ [] → past.order ≡ []
    → IsJoined k boot c past (connection_of fresh_link) [] [] []
unfolding Ran
fresh_joined k boot c past pulled order = record {
  ran = refl;
  is_sent = nothing_sent;
  came = [];
  piped = refl;
  client_side = client_of_none;
  store_side = subst (IsSide store_limit (store_frames []) (bad_of_store []) (EndsAtStore fresh.ending [])) (sym pulled) store_of_none;
  up = refl;
  bodies = [];
  more = [];
  partial = [];
  stream = record { whole = refl; each = All-nil FitsFrame; partial = rest_of_none };
  spelled = no_items c past.order order;
  none_left = λ on. refl;
}

none_behind : (counts : List ℕ) → AreBehind counts []
unfolding AreBehind
none_behind counts = tt

fresh_at : (k : EntryKeys) (boot c : ℕ) (past : Past) → past.order ≡ [] → IsUntouched past c → IsSoundAt k boot (opening past) c
unfolding fresh_joined
fresh_at k boot c past order u = record {
  items = [];
  joined = fresh_joined k boot c past u.pulled order;
  behind = none_behind (taken_at past.naming start c 0 past.acts);
  rest = λ on. u.rest;
  cut = λ cut none. absurd cc;
}

pub sound_opening : (k : EntryKeys) (boot : ℕ) (past : Past) → AreKeys k.names → 0 < length k.payloads → IsNaming (IsSealedName k.names) past.naming → IsSound past → IsNew past
    → IsSoundMoment k boot (opening past)
sound_opening k boot past keys some names sound new = record {
  keys = keys;
  some = some;
  names = names;
  past = sound;
  each = λ c. fresh_at k boot c past new.order (sound.untouched c (λ at. omega (arith, at.from, at.below, new.admitted)));
  untouched = λ c out. refl;
}
