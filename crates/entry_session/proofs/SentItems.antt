-- What a session kept of what its client sent: the first of the items that its bytes spell, and all of them while it goes on.
use Rattle.std.proofs.Common.{◌≡◌, ℕ, ◌≤◌, Bool, true, false, cond, List, [], ◌∷◌, ◌++◌, Option, Some, None, length, refl, sym, ap, subst, ◌∙◌, arith, append_assoc, append-nil}
use Rattle.jute_core.specs.Frames.{frame, FitsFrame, IsRest}
use Rattle.jute_core.proofs.OneStream.{one_frame}
use Rattle.payload_seal.specs.declared.keys.EntryKeys.{EntryKeys}
use Rattle.zk_messages.specs.Items.{IsItem}
use Rattle.zk_messages.specs.Sent.{client_limit, is_first, BeginsWith, Items, IsEnd}
use Rattle.zk_messages.specs.declared.request.Item.{Item}
use Rattle.entry_session.specs.ClientTurns.{ClientTurn, malformed_frame, full_queue, spent_ivs, handed_up}
use Rattle.entry_session.specs.Heard.{Heard, from_client, from_store, bad_client, bad_store, given, client_frames}
use Rattle.entry_session.specs.Laws.{TakesWhatWasSent}
use Rattle.entry_session.specs.Runs.{TurnOf, Ran}
use Rattle.entry_session.specs.Sides.{bytes_of, EndsAtClient}
use Rattle.entry_session.specs.declared.ending.Ending.{Ending}
use Rattle.entry_session.specs.Stands.{Stand, fresh}
use Rattle.entry_session.specs.Veiled.{SpellsItems}
use Rattle.entry_session.proofs.HandedUp.{spells_one}
use Rattle.entry_session.proofs.OneItem.{one_item}
use Rattle.entry_session.proofs.Turns.{SameUp, goes, end_up, store_up}

-- each is within the limit of a client
unfoldable pub AreWithin : List (List ℕ) → Type 0
AreWithin [] = Unit {0}
AreWithin (b ∷ bs) = (length b ≤ client_limit) × AreWithin bs

one_within : (bs : List (List ℕ)) (b : List ℕ) → AreWithin bs → length b ≤ client_limit → AreWithin (bs ++ b ∷ [])
unfolding AreWithin
one_within [] b h l = (l, tt)
one_within (x ∷ bs) b h l = (h.0, one_within bs b h.1 l)

pub record IsSent (hs : List Heard) (s : Stand) : Type 0 where
  pub bodies : List (List ℕ)
  pub rest : List (List ℕ)
  pub front : client_frames hs ≡ bodies ++ rest
  pub spelled : SpellsItems true s.items bodies
  pub within : AreWithin bodies
  pub all : (EndsAtClient s.ending hs → ⊥) → rest ≡ []

not_at_client : (ending : Option Ending) (hs : List Heard) → ending ≡ None → EndsAtClient ending hs → ⊥
unfolding EndsAtClient
not_at_client None hs e h = h
not_at_client (Some a) hs e h = absurd cc

first_kind : (is : List Item) (i : Item) (b : List ℕ) → IsItem (is_first is) i b → IsItem (cond (is_first is) true false) i b
first_kind [] i b h = h
first_kind (x ∷ is) i b h = h

-- a frame behind the items
behind : (hs : List Heard) (old : Stand) (body : List ℕ) (h : IsSent hs old) → client_frames hs ++ body ∷ [] ≡ h.bodies ++ (h.rest ++ body ∷ [])
behind hs old body h = ap (λ l. l ++ body ∷ []) h.front ∙ append_assoc h.bodies h.rest (body ∷ [])

-- one frame of the client more
client_sent : (k : EntryKeys) (boot c : ℕ) (hs : List Heard) (old : Stand) (body : List ℕ) (new : Stand) → length body ≤ client_limit → old.ending ≡ None → IsSent hs old → ClientTurn k boot c old body new → IsSent (from_client body ∷ hs) new
unfolding client_frames EndsAtClient
client_sent k boot c hs old body new l going h (malformed_frame refusal f) = record { bodies = h.bodies; rest = h.rest ++ body ∷ []; front = behind hs old body h; spelled = h.spelled; within = h.within; all = λ goes_on. absurd (goes_on tt) }
client_sent k boot c hs old body new l going h (full_queue i f g) = record { bodies = h.bodies; rest = h.rest ++ body ∷ []; front = behind hs old body h; spelled = h.spelled; within = h.within; all = λ goes_on. absurd (goes_on tt) }
client_sent k boot c hs old body new l going h (spent_ivs i n f g p m) = record { bodies = h.bodies; rest = h.rest ++ body ∷ []; front = behind hs old body h; spelled = h.spelled; within = h.within; all = λ goes_on. absurd (goes_on tt) }
client_sent k boot c hs old body new l going h (handed_up i v n out f g p m q o) = record {
  bodies = h.bodies ++ body ∷ [];
  rest = [];
  front = ap (λ l. l ++ body ∷ []) (h.front ∙ ap (λ l. h.bodies ++ l) (h.all (not_at_client old.ending hs going)) ∙ append-nil h.bodies) ∙ sym (append-nil (h.bodies ++ body ∷ []));
  spelled = spells_one true old.items h.bodies i body h.spelled (first_kind old.items i body f);
  within = one_within h.bodies body h.within l;
  all = λ goes_on. refl;
}

-- a turn that is none of the client's
other_sent : (hs : List Heard) (h : Heard) (old new : Stand) → client_frames (h ∷ hs) ≡ client_frames hs → SameUp old new → old.ending ≡ None → IsSent hs old → IsSent (h ∷ hs) new
other_sent hs h old new same up going x = record {
  bodies = x.bodies;
  rest = x.rest;
  front = same ∙ x.front;
  spelled = subst (λ (l : List Item). SpellsItems true l x.bodies) (sym up.items_are) x.spelled;
  within = x.within;
  all = λ goes_on. x.all (not_at_client old.ending hs going);
}

turn_sent : (k : EntryKeys) (boot c : ℕ) (hs : List Heard) (old : Stand) (h : Heard) (new : Stand) → old.ending ≡ None → TurnOf k boot c old h new → IsSent hs old → IsSent (h ∷ hs) new
unfolding TurnOf client_frames
turn_sent k boot c hs old (from_client body) new i t x = client_sent k boot c hs old body new t.0 i x t.1
turn_sent k boot c hs old (from_store body) new i t x = other_sent hs (from_store body) old new refl (store_up k c old body new old.items old.answered t.1) i x
turn_sent k boot c hs old (bad_client z) new i t x = other_sent hs (bad_client z) old new refl (end_up old new _ t.1) i x
turn_sent k boot c hs old (bad_store z) new i t x = other_sent hs (bad_store z) old new refl (end_up old new _ t.1) i x
turn_sent k boot c hs old (given e) new i t x = other_sent hs (given e) old new refl (end_up old new e t.1) i x

fresh_sent : IsSent [] fresh
unfolding client_frames SpellsItems AreWithin
fresh_sent = record { bodies = []; rest = []; front = refl; spelled = tt; within = tt; all = λ e. refl }

-- the items kept are those of the first frames heard
pub items_sent : (k : EntryKeys) (boot c : ℕ) (hs : List Heard) (s : Stand) → Ran k boot c hs s → IsSent hs s
unfolding Ran
items_sent k boot c [] s e = subst (IsSent []) (sym e) fresh_sent
items_sent k boot c (h ∷ hs) s (old, ran, t) = let g = goes k boot c old h s t in turn_sent k boot c hs old h s g.going g.turn (items_sent k boot c hs old ran)

-- ---- the items that bytes spell

pub bytes_append : (a b : List (List ℕ)) (rest : List ℕ) → bytes_of (a ++ b) ++ rest ≡ bytes_of a ++ (bytes_of b ++ rest)
bytes_append [] b rest = refl
bytes_append (x ∷ a) b rest = append_assoc (frame x) (bytes_of (a ++ b)) rest ∙ ap (λ l. frame x ++ l) (bytes_append a b rest) ∙ sym (append_assoc (frame x) (bytes_of a) (bytes_of b ++ rest))

-- the kind of what comes after these
kind_after : Bool → List Item → Bool
kind_after first items = cond (is_first items) first false

still_ended : (is : List Item) (rest : List ℕ) → IsEnd false rest → IsEnd (kind_after false is) rest
unfolding kind_after
still_ended [] rest h = h
still_ended (i ∷ is) rest h = h

fits : (b : List ℕ) → length b ≤ client_limit → FitsFrame b
fits b l = omega (arith, l)

-- the items of these bytes, of which the first frames are of these
record Behind (first : Bool) (is all : List Item) (tail : List ℕ) : Type 0 where
  more : List Item
  kind : Bool
  front : all ≡ is ++ more
  rest : List ℕ
  spelled : Items kind more rest tail

begins_here : (first : Bool) (i : Item) (b tail bytes : List ℕ) → length b ≤ client_limit → IsItem first i b → bytes ≡ frame b ++ tail → BeginsWith first i tail bytes
begins_here first i b tail bytes l h e = record { body = b; short = l; spelled = h; cut = e }

front_of : (first : Bool) (is all : List Item) (bodies : List (List ℕ)) (tail rest bytes : List ℕ) → SpellsItems first is bodies → AreWithin bodies → Items first all rest bytes → IsEnd (kind_after first all) rest → bytes ≡ bytes_of bodies ++ tail → Behind first is all tail
unfolding SpellsItems AreWithin Items kind_after
front_of first [] all [] tail rest bytes h l s end e = record { more = all; kind = first; front = refl; rest = rest; spelled = subst (λ (x : List ℕ). Items first all rest x) e s }
front_of first [] all (b ∷ bodies) tail rest bytes h l s end e = absurd h
front_of first (i ∷ is) all [] tail rest bytes h l s end e = absurd h
front_of first (i ∷ is) [] (b ∷ bodies) tail rest bytes h l s end e =
    absurd (end i (bytes_of bodies ++ tail) (begins_here first i b (bytes_of bodies ++ tail) rest l.0 h.0 (sym s ∙ e ∙ append_assoc (frame b) (bytes_of bodies) tail)))
front_of first (i ∷ is) (j ∷ all) (b ∷ bodies) tail rest bytes h l (left, begins, others) end e =
    let both = one_frame begins.body b left (bytes_of bodies ++ tail) (fits begins.body begins.short) (fits b l.0) (sym begins.cut ∙ e ∙ append_assoc (frame b) (bytes_of bodies) tail) in
    let one = one_item first j i b (subst (IsItem first j) both.0 begins.spelled) h.0 in
    let r = front_of false is all bodies tail rest left h.1 l.1 others (still_ended all rest end) both.1 in
    record { more = r.more; kind = r.kind; front = (λ x. one x ∷ r.front x); rest = r.rest; spelled = r.spelled }

-- a rest that begins with no whole frame spells no item
none_there : (kind : Bool) (more : List Item) (rest tail : List ℕ) → IsRest tail → Items kind more rest tail → more ≡ []
unfolding Items
none_there kind [] rest tail partial h = refl
none_there kind (i ∷ more) rest tail partial (left, begins, others) = absurd (partial begins.body left (fits begins.body begins.short) begins.cut)

ends_alike : (items : List Item) (rest : List ℕ) → IsEnd (is_first items) rest → IsEnd (kind_after true items) rest
unfolding kind_after
ends_alike [] rest h = h
ends_alike (i ∷ items) rest h = h

nothing_after : (rest : List (List ℕ)) (partial under_way : List ℕ) → rest ≡ [] → under_way ≡ [] → bytes_of rest ++ (partial ++ under_way) ≡ partial
nothing_after rest partial under_way e f = ap (λ l. bytes_of l ++ (partial ++ under_way)) e ∙ ap (λ l. partial ++ l) f ∙ append-nil partial

pub takes_what_was_sent : TakesWhatWasSent
takes_what_was_sent k boot c hs s taken under_way items ran side sent =
    let x = items_sent k boot c hs s ran in
    let cut : taken ++ under_way ≡ bytes_of x.bodies ++ (bytes_of x.rest ++ (side.rest ++ under_way)) =
    ap (λ l. l ++ under_way) (side.whole ∙ ap (λ l. bytes_of l ++ side.rest) x.front) ∙ append_assoc (bytes_of (x.bodies ++ x.rest)) side.rest under_way ∙ bytes_append x.bodies x.rest (side.rest ++ under_way) in
    let b = front_of true s.items items x.bodies (bytes_of x.rest ++ (side.rest ++ under_way)) sent.rest (taken ++ under_way) x.spelled x.within sent.spelled (ends_alike items sent.rest sent.ended) cut in
    record {
      more = b.more;
      first = b.front;
      all = λ going none.
          let tail = nothing_after x.rest side.rest under_way (x.all going) none in
          let no_more = none_there b.kind b.more b.rest side.rest (side.partial going) (subst (λ (l : List ℕ). Items b.kind b.more b.rest l) tail b.spelled) in
          sym (b.front ∙ ap (λ l. s.items ++ l) no_more ∙ append-nil s.items);
    }
