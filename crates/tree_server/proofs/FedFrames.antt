-- Frames of a connection that are taken one after another, and how a feed of them ends.
use Rattle.std.proofs.Common.{◌≡◌, ◌≢◌, ◌⊎◌, ℕ, ℤ, ◌≤◌, All, Bool, true, List, [], ◌∷◌, ◌++◌, length, drop, Option, Some, None, Ok, Err, refl, sym, ap, subst, ◌∙◌, arith, append_assoc, inl, inr}
use Rattle.std.specs.List.{flat_map}
use Rattle.std.proofs.lemmas.List.Elements.{All-append, All-cons, All-nil, All-weaker}
use Rattle.jute_core.specs.Frames.{frame, FitsFrame, IsRest}
use Rattle.zk_frame.specs.Framing.{Framing, IsTooLong}
use Rattle.zk_records.specs.declared.connect.ConnectRequest.{ConnectRequest}
use Rattle.tree_state.specs.State.{State}
use Rattle.store_side.specs.declared.entry.Entry.{Entry}
use Rattle.store_side.specs.declared.entry.Entry.TheVariants.{Connect, Take, Lost, Expire}
use Rattle.store_side.specs.declared.ending.StoreEnding.{StoreEnding}
use Rattle.store_side.specs.declared.ending.StoreEnding.TheVariants as endings
use Rattle.store_side.specs.Acts.{AreActs}
use Rattle.store_side.specs.Fitting.{frame_limit}
use Rattle.store_side.specs.Orders.{ConnectsOnce, HasNoConnect}
use Rattle.store_side.specs.Past.{Past, Later, state_of}
use Rattle.store_side.specs.Follows.{IsSound}
use Rattle.store_side.specs.Calls.{AreFrames, AreRequests, Fed, IsMoved, IsRefused, no_connect, no_request, ahead, full, too_much, owed_after, Stops, all_taken, at_last, at_length, at_frame, wants as no_memory, ending_after, lost_first, rest_of, with_at}
use Rattle.store_side.proofs.Appended.{no_connect-back, no_connect-front}
use Rattle.store_side.proofs.SoundCalls.{at_own, at_other}
use Rattle.tree_server.specs.Connections.{IsPart, with_ending, with_rest}
use Rattle.tree_server.specs.Servers.{Gained, TookOne, Reaches, CutsFrame, taken, refused, wants, wants_first, EndsAt, by_frame, by_length, for_memory}
use Rattle.tree_server.proofs.Cutting.{bytes_more, cut_frame}
use Rattle.tree_server.proofs.Gains.{HoldsNone, gained_none, gained_more, ending_after_more, taken_some}

-- ---- the next frame

-- a connect that is behind others is the first of its connection
once_before : (c : ℕ) (es : List Entry) (asked : ConnectRequest) (session timeout : ℤ) (password : List ℕ) (zxid at : ℤ) (fs : List Entry)
    → ConnectsOnce (es ++ Connect c asked session timeout password zxid at ∷ fs) → HasNoConnect c es
unfolding ConnectsOnce HasNoConnect
once_before c [] asked session timeout password zxid at fs h = tt
once_before c (Connect d a s t p z n ∷ es) asked session timeout password zxid at fs h =
    (λ e. (no_connect-back d es (Connect c asked session timeout password zxid at ∷ fs) h.0).0 (sym e), once_before c es asked session timeout password zxid at fs h.1)
once_before c (Take d x r z n ∷ es) asked session timeout password zxid at fs h = once_before c es asked session timeout password zxid at fs h
once_before c (Lost d ∷ es) asked session timeout password zxid at fs h = once_before c es asked session timeout password zxid at fs h
once_before c (Expire s z n ∷ es) asked session timeout password zxid at fs h = once_before c es asked session timeout password zxid at fs h

-- a connection that has connected sends requests
pub only_requests : (c : ℕ) (now : ℤ) (s : State) (order : List Entry) (moved : Option ℕ) (frames : List Entry) (bodies : List (List ℕ)) → (HasNoConnect c order → ⊥)
    → ConnectsOnce (order ++ (lost_first moved ++ frames)) → AreFrames c now frames bodies → frames ≢ [] → IsMoved s moved frames → (moved ≡ None) × AreRequests c now frames bodies
unfolding AreFrames AreRequests IsMoved lost_first HasNoConnect
only_requests c now s order moved [] bodies connected once spelled some moves = absurd (some refl)
only_requests c now s order moved (Connect d asked session timeout password zxid at ∷ es) [] connected once spelled some moves = absurd spelled
only_requests c now s order None (Connect d asked session timeout password zxid at ∷ es) (b ∷ bs) connected once spelled some moves =
    absurd (connected (subst (λ (x : ℕ). HasNoConnect x order) spelled.0 (once_before d order asked session timeout password zxid at es once)))
only_requests c now s order (Some x) (Connect d asked session timeout password zxid at ∷ es) (b ∷ bs) connected once spelled some moves =
    absurd (connected (subst (λ (y : ℕ). HasNoConnect y order) spelled.0
    (no_connect-front d order (Lost x ∷ []) (once_before d (order ++ Lost x ∷ []) asked session timeout password zxid at es (subst ConnectsOnce (sym (append_assoc order (Lost x ∷ []) (Connect d asked session timeout password zxid at ∷ es))) once)))))
only_requests c now s order None (Take d xid r zxid at ∷ es) bodies connected once spelled some moves = (refl, spelled)
only_requests c now s order (Some x) (Take d xid r zxid at ∷ es) bodies connected once spelled some moves = absurd moves
only_requests c now s order moved (Lost d ∷ es) bodies connected once spelled some moves = absurd spelled
only_requests c now s order moved (Expire session zxid at ∷ es) bodies connected once spelled some moves = absurd spelled

-- ---- frames that are not too long

abbrev IsShortBody : List ℕ → Type 0
IsShortBody b = length b ≤ frame_limit

short_more : (bodies : List (List ℕ)) (body : List ℕ) → All IsShortBody bodies → length body ≤ frame_limit → All IsShortBody (bodies ++ body ∷ [])
short_more bodies body h k = All-append IsShortBody bodies (body ∷ []) h (All-cons IsShortBody body [] k (All-nil IsShortBody))

short_fits : (body : List ℕ) → IsShortBody body → FitsFrame body
short_fits body h = omega (arith, h)

all_fit : (bodies : List (List ℕ)) → All IsShortBody bodies → All FitsFrame bodies
all_fit bodies h = All-weaker IsShortBody FitsFrame short_fits bodies h

-- ---- so far

none_after : ending_after [] ≡ None
unfolding ending_after
none_after = refl

-- no frame was taken yet
pub reaches_none : (c : ℕ) (now : ℤ) (past : Past) (bytes : List ℕ) (written : Bool) → past.endings c ≡ None → HoldsNone past → Reaches c now past (record past { written = written }) bytes bytes
reaches_none c now past bytes written on holds =
    let g = gained_none c now past on holds in
    record {
      moved = None;
      frames = [];
      bodies = [];
      gained = record {
        later = record {
          naming = refl;
          key = refl;
          limit = refl;
          admitted = g.later.admitted;
          entries = g.later.entries;
          order = g.later.order;
          more_acts = g.later.more_acts;
          acts = g.later.acts;
          more_told = g.later.more_told;
          told = g.later.told;
          more_pulled = g.later.more_pulled;
          pulled = g.later.pulled;
          more_bytes = g.later.more_bytes;
          bytes = g.later.bytes;
          endings = g.later.endings;
        };
        admitted = refl;
        pulled = λ d. refl;
        entries = g.entries;
        spelled = g.spelled;
        moves = g.moves;
        within = g.within;
        tells = g.tells;
        others = g.others;
        rests = g.rests;
        goes_on = on;
        rest = refl;
      };
      none = none_after;
      connected = inl refl;
      short = All-nil IsShortBody;
      cut = refl;
    }

has_before : (frames : List Entry) (P : Type 0) → (frames ≡ []) ⊎ P → frames ≢ [] → P
has_before frames P (inl e) some = absurd (some e)
has_before frames P (inr h) some = h

-- what a further frame adds stands behind the entries so far
once_behind : (c : ℕ) (now : ℤ) (mid new : Past) (moved : Option ℕ) (frames : List Entry) (bodies : List (List ℕ)) → Gained c now mid new moved frames bodies → ConnectsOnce new.order → ConnectsOnce (mid.order ++ (lost_first moved ++ frames))
once_behind c now mid new moved frames bodies g once = subst ConnectsOnce (g.later.order ∙ ap (λ (es : List Entry). mid.order ++ es) g.entries) once

-- one frame more of the same connection
pub gained_one : (c : ℕ) (now : ℤ) (old mid new : Past) (bytes left body : List ℕ) (moved : Option ℕ) (frames : List Entry) (r : Reaches c now old mid bytes left)
    → AreActs old.order old.acts → AreActs mid.order mid.acts → ConnectsOnce new.order → Gained c now mid new moved frames (body ∷ [])
    → (one : Option ℕ) × Gained c now old new one (r.frames ++ frames) (r.bodies ++ body ∷ [])
gained_one c now old mid new bytes left body moved frames r a b once g =
    gained_more a b r.gained g (λ some. only_requests c now (state_of mid) mid.order moved frames (body ∷ []) (has_before r.frames (HasNoConnect c mid.order → ⊥) r.connected some)
    (once_behind c now mid new moved frames (body ∷ []) g once) g.spelled (taken_some c now frames body g.spelled) g.moves)

cut_more : (bytes left body more : List ℕ) (bodies : List (List ℕ)) → bytes ≡ flat_map frame bodies ++ left → left ≡ frame body ++ more → bytes ≡ flat_map frame (bodies ++ body ∷ []) ++ more
cut_more bytes left body more bodies cut begins = cut ∙ ap (λ (x : List ℕ). flat_map frame bodies ++ x) begins ∙ bytes_more bodies body more

pub reaches_more : (c : ℕ) (now : ℤ) (old mid new : Past) (bytes : List ℕ) (f g : Framing) (rest : List ℕ) (count : ℕ) (body : List ℕ) → f.limit ≡ frame_limit
    → AreActs old.order old.acts → AreActs mid.order mid.acts → ConnectsOnce new.order → CutsFrame f g rest count body → Reaches c now old mid bytes (f.held ++ rest) → TookOne c now body mid new
    → Reaches c now old new bytes (g.held ++ drop count rest)
reaches_more c now old mid new bytes f g rest count body limit a b once cuts r t =
    let one = gained_one c now old mid new bytes (f.held ++ rest) body t.moved t.frames r a b once t.gained in
    record {
      moved = one.0;
      frames = r.frames ++ t.frames;
      bodies = r.bodies ++ body ∷ [];
      gained = one.1;
      none = ending_after_more r.frames t.frames (taken_some c now t.frames body t.gained.spelled) ∙ t.none;
      connected = inr t.connected;
      short = short_more r.bodies body r.short (subst (λ (n : ℕ). length body ≤ n) limit cuts.short);
      cut = cut_more bytes (f.held ++ rest) body (g.held ++ drop count rest) r.bodies r.cut (cut_frame f g rest count body cuts);
    }

-- ---- all whole frames were taken

own_rest : (o : Option StoreEnding) (rest : List ℕ) → o ≡ None → rest ≡ rest_of o rest
unfolding rest_of
own_rest None rest e = refl
own_rest (Some x) rest e = absurd cc

pub fed_all : (c : ℕ) (now : ℤ) (piece : List ℕ) (old mid : Past) (rest : List ℕ) → Reaches c now old mid (old.rests c ++ piece) rest → IsPart rest → IsSound (with_rest c rest mid) → mid.written ≡ true
    → Fed c now piece old (with_rest c rest mid) (Ok record {})
fed_all c now piece old mid rest r part sound written = record {
  later = record {
    naming = r.gained.later.naming;
    key = r.gained.later.key;
    limit = r.gained.later.limit;
    admitted = r.gained.later.admitted;
    entries = r.gained.later.entries;
    order = r.gained.later.order;
    more_acts = r.gained.later.more_acts;
    acts = r.gained.later.acts;
    more_told = r.gained.later.more_told;
    told = r.gained.later.told;
    more_pulled = r.gained.later.more_pulled;
    pulled = r.gained.later.pulled;
    more_bytes = r.gained.later.more_bytes;
    bytes = r.gained.later.bytes;
    endings = r.gained.later.endings;
  };
  sound = λ before. sound;
  admitted = r.gained.admitted;
  pulled = r.gained.pulled;
  moved = r.moved;
  frames = r.frames;
  entries = r.gained.entries;
  bodies = r.bodies;
  short = r.short;
  spelled = r.gained.spelled;
  moves = r.gained.moves;
  within = λ before. r.gained.within;
  stops = all_taken
      (record { whole = r.cut ∙ ap (λ (x : List ℕ). flat_map frame r.bodies ++ x) (sym (at_own c rest mid.rests)); each = all_fit r.bodies r.short; partial = subst IsRest (sym (at_own c rest mid.rests)) part.partial })
      (λ z h. part.within z (subst (λ (x : List ℕ). IsTooLong frame_limit x z) (at_own c rest mid.rests) h))
      r.none;
  ending = r.gained.goes_on;
  others = r.gained.others;
  rest = own_rest (mid.endings c) (with_at c rest mid.rests c) r.gained.goes_on;
  rests = λ d other. at_other c d rest mid.rests other ∙ r.gained.rests d other;
  written = λ answer. written;
}

-- ---- the connection is over

over_after : (c : ℕ) (e : StoreEnding) (old new : Past) → old.endings c ≡ None → Later old new → (d : ℕ) (x : StoreEnding) → old.endings d ≡ Some x → with_at c (Some e) new.endings d ≡ Some x
over_after c e old new on later d x h = at_other c d (Some e) new.endings (λ same. not_both (old.endings d) x h (ap old.endings same ∙ on)) ∙ later.endings d x h
  where
    none_some : (y : StoreEnding) → None ≡ Some y → ⊥
    none_some y f = cc

    not_both : (o : Option StoreEnding) (y : StoreEnding) → o ≡ Some y → o ≡ None → ⊥
    not_both o y f g = none_some y (sym g ∙ f)

no_rest : (o : Option StoreEnding) (e : StoreEnding) (rest : List ℕ) → o ≡ Some e → rest ≡ [] → rest ≡ rest_of o rest
unfolding rest_of
no_rest None e rest f g = absurd cc
no_rest (Some x) e rest f g = g

fed_over : (c : ℕ) (now : ℤ) (piece : List ℕ) (old new : Past) (e : StoreEnding) (moved : Option ℕ) (frames : List Entry) (bodies : List (List ℕ)) → old.endings c ≡ None
    → Gained c now old new moved frames bodies → All IsShortBody bodies → Stops (with_ending c e new) c now frames bodies (old.rests c ++ piece) (Err e) → IsSound (with_ending c e new) → ((e ≡ endings.Memory → ⊥) → new.written ≡ true)
    → Fed c now piece old (with_ending c e new) (Err e)
fed_over c now piece old new e moved frames bodies on g short stops sound written = record {
  later = record {
    naming = g.later.naming;
    key = g.later.key;
    limit = g.later.limit;
    admitted = g.later.admitted;
    entries = g.later.entries;
    order = g.later.order;
    more_acts = g.later.more_acts;
    acts = g.later.acts;
    more_told = g.later.more_told;
    told = g.later.told;
    more_pulled = g.later.more_pulled;
    pulled = g.later.pulled;
    more_bytes = g.later.more_bytes;
    bytes = g.later.bytes;
    endings = over_after c e old new on g.later;
  };
  sound = λ before. sound;
  admitted = g.admitted;
  pulled = g.pulled;
  moved = moved;
  frames = frames;
  entries = g.entries;
  bodies = bodies;
  short = short;
  spelled = g.spelled;
  moves = g.moves;
  within = λ before. g.within;
  stops = stops;
  ending = at_own c (Some e) new.endings;
  others = λ d other. at_other c d (Some e) new.endings other ∙ g.others d other;
  rest = no_rest (with_at c (Some e) new.endings c) e (with_at c [] new.rests c) (at_own c (Some e) new.endings) (at_own c [] new.rests);
  rests = λ d other. at_other c d [] new.rests other ∙ g.rests d other ∙ ap (λ (o : Option StoreEnding). rest_of o (old.rests d)) (sym (at_other c d (Some e) new.endings other));
  written = λ answer. written (λ m. answer (ap Err m));
}

-- a frame is refused for the same reason where the connection is over
refused_over : (c d : ℕ) (x : StoreEnding) (now : ℤ) (body : List ℕ) (past : Past) (e : StoreEnding) → IsRefused past c now body e → IsRefused (with_ending d x past) c now body e
unfolding state_of owed_after
refused_over c d x now body past e (no_connect refusal h k) = no_connect refusal h k
refused_over c d x now body past e (no_request refusal h k) = no_request refusal h k
refused_over c d x now body past e (ahead asked h k l) = ahead asked h k l
refused_over c d x now body past e (full entries acts h k) = full entries acts (record {
  moved = h.moved;
  frames = h.frames;
  entries_are = h.entries_are;
  spelled = h.spelled;
  moves = h.moves;
  are_acts = h.are_acts;
  legal = h.legal;
}) k
refused_over c d x now body past e (too_much size h k) = too_much size h (record {
  xid = k.xid;
  request = k.request;
  command = k.command;
  spelled = k.spelled;
  is_command = k.is_command;
  long = k.long;
  size_is = k.size_is;
  room = k.room;
})

-- and so a feed ends
pub fed_ends : (c : ℕ) (now : ℤ) (piece : List ℕ) (old mid new : Past) (left : List ℕ) (e : StoreEnding) → old.endings c ≡ None → AreActs old.order old.acts → AreActs mid.order mid.acts
    → Reaches c now old mid (old.rests c ++ piece) left → EndsAt c now mid left new e → ConnectsOnce new.order → IsSound (with_ending c e new) → Fed c now piece old (with_ending c e new) (Err e)
fed_ends c now piece old mid new left e on a b r (by_frame n x body more begins short (taken y m moved frames g fin written)) once sound =
    let one = gained_one c now old mid new (old.rests c ++ piece) left body moved frames r a b once g in
    fed_over c now piece old new e one.0 (r.frames ++ frames) (r.bodies ++ body ∷ []) on one.1 (short_more r.bodies body r.short short)
    (at_last e more (cut_more (old.rests c ++ piece) left body more r.bodies r.cut begins) (ending_after_more r.frames frames (taken_some c now frames body g.spelled) ∙ fin)) sound (λ not_memory. written)
fed_ends c now piece old mid new left e on a b r (by_frame n x body more begins short (refused y h written)) once sound =
    fed_over c now piece old mid e r.moved r.frames r.bodies on r.gained r.short
    (at_frame e body more (r.cut ∙ ap (λ (x : List ℕ). flat_map frame r.bodies ++ x) begins ∙ sym (append_assoc (flat_map frame r.bodies) (frame body) more)) short r.none (refused_over c c e now body mid e h)) sound (λ not_memory. written)
fed_ends c now piece old mid new left e on a b r (by_frame n x body more begins short (wants m moved frames g)) once sound =
    let one = gained_one c now old mid new (old.rests c ++ piece) left body moved frames r a b once g in
    fed_over c now piece old new endings.Memory one.0 (r.frames ++ frames) (r.bodies ++ body ∷ []) on one.1 (short_more r.bodies body r.short short)
    (no_memory more (cut_more (old.rests c ++ piece) left body more r.bodies r.cut begins)) sound (λ not_memory. absurd (not_memory refl))
fed_ends c now piece old mid new left e on a b r (by_frame n x body more begins short wants_first) once sound =
    fed_over c now piece old mid endings.Memory r.moved r.frames r.bodies on r.gained r.short (no_memory left r.cut) sound (λ not_memory. absurd (not_memory refl))
fed_ends c now piece old mid new left e on a b r (by_length z h written) once sound =
    fed_over c now piece old mid (endings.TooLong z) r.moved r.frames r.bodies on r.gained r.short (at_length z left r.cut h r.none) sound (λ not_memory. written)
fed_ends c now piece old mid new left e on a b r for_memory once sound =
    fed_over c now piece old mid endings.Memory r.moved r.frames r.bodies on r.gained r.short (no_memory left r.cut) sound (λ not_memory. absurd (not_memory refl))
