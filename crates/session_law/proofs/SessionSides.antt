-- The store's frames that a session heard, beside the messages that the store's bytes spell.
use Rattle.std.proofs.Common.{◌≡◌, ◌⊎◌, ℕ, ℤ, pos, ◌<◌, ◌≤◌, ◌<ℤ◌, ◌^◌, List, [], ◌∷◌, ◌++◌, Option, Some, IfSome, inl, inr, length, refl, sym, ap, subst, ◌∙◌, arith, length-append, append_assoc, append-nil}
use Rattle.std.proofs.lemmas.Int.{ints}
use Rattle.std.specs.Int.{w32}
use Rattle.std.specs.Int.RustNames.{FitsSigned}
use Rattle.jute_core.specs.Frames.{frame, FitsFrame, IsRest}
use Rattle.jute_core.specs.Jute.{IsInt, int_bytes}
use Rattle.jute_core.proofs.OneSpelling.{ints_apart}
use Rattle.payload_seal.specs.declared.keys.EntryKeys.{EntryKeys}
use Rattle.zk_frame.specs.Framing.{IsTooLong}
use Rattle.tree_state.specs.declared.message.Message.{Message}
use Rattle.store_side.specs.Messages.{Messages}
use Rattle.entry_session.specs.Heard.{Heard, from_client, from_store, bad_client, bad_store, given, store_frames}
use Rattle.entry_session.specs.Runs.{store_limit, TurnOf, Ran}
use Rattle.entry_session.specs.Sides.{bytes_of, IsSide}
use Rattle.entry_session.specs.Stands.{Stand}
use Rattle.entry_session.proofs.Turns.{goes}
use Rattle.session_law.proofs.Words.{SpellsFront, AreWhole}
use Rattle.session_law.proofs.Pieces.{spells_front, cut_messages}

-- ---- the frames that a session hears are whole

one_whole : (bs : List (List ℕ)) (b : List ℕ) → AreWhole bs → length b ≤ store_limit → AreWhole (bs ++ b ∷ [])
unfolding AreWhole
one_whole [] b h l = (omega (arith, l), tt)
one_whole (x ∷ bs) b h l = (h.0, one_whole bs b h.1 l)

turn_whole : (k : EntryKeys) (boot c : ℕ) (hs : List Heard) (old : Stand) (h : Heard) (new : Stand) → TurnOf k boot c old h new → AreWhole (store_frames hs) → AreWhole (store_frames (h ∷ hs))
unfolding TurnOf store_frames
turn_whole k boot c hs old (from_client body) new t w = w
turn_whole k boot c hs old (from_store body) new t w = one_whole (store_frames hs) body w t.0
turn_whole k boot c hs old (bad_client z) new t w = w
turn_whole k boot c hs old (bad_store z) new t w = w
turn_whole k boot c hs old (given e) new t w = w

pub whole_frames : (k : EntryKeys) (boot c : ℕ) (hs : List Heard) (s : Stand) → Ran k boot c hs s → AreWhole (store_frames hs)
unfolding Ran AreWhole store_frames
whole_frames k boot c [] s ran = tt
whole_frames k boot c (h ∷ hs) s (old, ran, t) = turn_whole k boot c hs old h s (goes k boot c old h s t).turn (whole_frames k boot c hs old ran)

-- ---- the length of a frame that was refused

int_size : (z : ℤ) (prefix : List ℕ) → IsInt z prefix → length prefix ≡ 4
int_size z prefix h = ap length h.1

not_empty : (z : ℤ) (prefix more : List ℕ) → IsInt z prefix → [] ≡ prefix ++ more → ⊥
not_empty z prefix more h e = omega (arith, ap length e, length-append prefix more, int_size z prefix h)

fits_length : (n : ℕ) → n < 2 ^ 31 → FitsSigned w32 (pos n)
fits_length n h = omega (arith, ints)

-- it is that of a message, and so not negative
named_length : (z : ℤ) (prefix more body after : List ℕ) → IsInt z prefix → FitsFrame body → prefix ++ more ≡ frame body ++ after → z ≡ pos (length body)
unfolding frame
named_length z prefix more body after h fits e =
    (ints_apart z (pos (length body)) more (body ++ after) h.0 (fits_length (length body) fits) (sym (ap (λ l. l ++ more) h.1) ∙ e ∙ append_assoc (int_bytes (pos (length body))) body after)).0

above : (z : ℤ) (n limit : ℕ) → z ≡ pos n → (z <ℤ pos 0) ⊎ (pos limit <ℤ z) → pos limit <ℤ z
above z n limit e (inl l) = absurd (omega (arith, ints, e, l))
above z n limit e (inr l) = l

refused_length : (left : List Message) (rest waiting : List ℕ) (z : ℤ) → Messages left (rest ++ waiting) → IsTooLong store_limit rest z → pos store_limit <ℤ z
unfolding Messages
refused_length [] rest waiting z h long = absurd (not_empty z long.prefix (long.more ++ waiting) long.named (sym h ∙ ap (λ l. l ++ waiting) long.begins ∙ append_assoc long.prefix long.more waiting))
refused_length (m ∷ left) rest waiting z (body, more, spelled, fits, cut, others) long =
    above z (length body) store_limit (named_length z long.prefix (long.more ++ waiting) body more long.named fits (sym (append_assoc long.prefix long.more waiting) ∙ sym (ap (λ l. l ++ waiting) long.begins) ∙ cut)) long.beyond

-- a part of a frame is no message
no_message : (left : List Message) (rest : List ℕ) → Messages left rest → IsRest rest → left ≡ []
unfolding Messages
no_message [] rest h partial = refl
no_message (m ∷ left) rest (body, more, spelled, fits, cut, others) partial = absurd (partial body more fits cut)

-- ---- one side, beside the bytes that were pulled and those that wait

behind_pulled : (bodies : List (List ℕ)) (bad : Option ℤ) (ended_here : Type 0) (pulled waiting : List ℕ) (side : IsSide store_limit bodies bad ended_here pulled) → pulled ++ waiting ≡ bytes_of bodies ++ (side.rest ++ waiting)
behind_pulled bodies bad ended_here pulled waiting side = ap (λ l. l ++ waiting) side.whole ∙ append_assoc (bytes_of bodies) side.rest waiting

pub front_spelled : (told : List Message) (bodies : List (List ℕ)) (bad : Option ℤ) (ended_here : Type 0) (pulled waiting : List ℕ) → AreWhole bodies → Messages told (pulled ++ waiting) → IsSide store_limit bodies bad ended_here pulled → SpellsFront told bodies
front_spelled told bodies bad ended_here pulled waiting w h side = spells_front told bodies (pulled ++ waiting) (side.rest ++ waiting) w h (behind_pulled bodies bad ended_here pulled waiting side)

-- where the session goes on and nothing waits, it heard all messages
pub all_heard : (told : List Message) (bodies : List (List ℕ)) (bad : Option ℤ) (ended_here : Type 0) (pulled waiting : List ℕ) → AreWhole bodies → Messages told (pulled ++ waiting) → IsSide store_limit bodies bad ended_here pulled → (ended_here → ⊥) → waiting ≡ [] → length told ≡ length bodies
all_heard told bodies bad ended_here pulled waiting w h side going none =
    let x = cut_messages told bodies (pulled ++ waiting) (side.rest ++ waiting) w h (behind_pulled bodies bad ended_here pulled waiting side) in
    let nothing : side.rest ++ waiting ≡ side.rest = ap (λ l. side.rest ++ l) none ∙ append-nil side.rest in
    let no_more = no_message x.left side.rest (subst (Messages x.left) nothing x.after) (side.partial going) in
    ap length (x.cut ∙ ap (λ l. x.done ++ l) no_more ∙ append-nil x.done) ∙ x.count

-- a length that was refused is above the limit
pub honest_length : (told : List Message) (bodies : List (List ℕ)) (bad : Option ℤ) (ended_here : Type 0) (pulled waiting : List ℕ) → AreWhole bodies → Messages told (pulled ++ waiting) → IsSide store_limit bodies bad ended_here pulled → (z : ℤ) → bad ≡ Some z → pos store_limit <ℤ z
honest_length told bodies bad ended_here pulled waiting w h side z e =
    let x = cut_messages told bodies (pulled ++ waiting) (side.rest ++ waiting) w h (behind_pulled bodies bad ended_here pulled waiting side) in
    refused_length x.left side.rest waiting z x.after (subst (λ (v : Option ℤ). IfSome v (λ y. IsTooLong store_limit side.rest y)) e side.named)
