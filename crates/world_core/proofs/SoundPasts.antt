-- A connection stays sound where the store goes on and nothing of it is taken.
use Rattle.std.proofs.Common.{◌≡◌, ◌≤◌, ℕ, ◌+◌, Bool, true, false, List, [], ◌∷◌, ◌++◌, length, Option, Some, None, refl, sym, ap, subst, ◌∙◌, arith, append_assoc, length-append}
use Rattle.std.specs.Prelude.{map, is_some}
use Rattle.std.proofs.lemmas.List.{length-map}
use Rattle.payload_seal.specs.declared.keys.EntryKeys.{EntryKeys}
use Rattle.zk_messages.specs.declared.request.Item.{Item}
use Rattle.tree_state.specs.declared.message.Message.{Message}
use Rattle.tree_state.specs.Changes.{Naming}
use Rattle.tree_state.specs.State.{State, start}
use Rattle.tree_state.specs.Step.{Act, step}
use Rattle.store_side.specs.Past.{Past, Later, is_over}
use Rattle.store_side.specs.Follows.{IsSound, ShowsMessage}
use Rattle.store_side.specs.Out.{to_connection, outputs, out}
use Rattle.store_side.specs.Fill.{items_in}
use Rattle.store_side.specs.declared.ending.StoreEnding.{StoreEnding}
use Rattle.store_side.proofs.Appended.{to_connection-append}
use Rattle.store_side.proofs.Zipping.{length_zips}
use Rattle.entry_session.specs.Heard.{Heard, store_frames, bad_of_store}
use Rattle.entry_session.specs.Runs.{store_limit}
use Rattle.entry_session.specs.Sides.{IsSide, EndsAtStore, bytes_of}
use Rattle.entry_session.specs.Veiled.{SpellsItems}
use Rattle.session_law.specs.Law.{IsJoined, AreBehind, taken_at, sent_by}
use Rattle.session_law.proofs.GoingOn.{stays_behind}
use Rattle.session_law.proofs.Pieces.{cut_messages}
use Rattle.session_law.proofs.SessionSides.{whole_frames}
use Rattle.world_core.specs.Moments.{Link, Moment, IsSoundAt, connection_of}
use Rattle.world_core.proofs.SoundSpots.{IsSoundLink}

-- ---- counts

-- what is counted at acts stays where more acts follow
pub counts_more : (naming : Naming) (s : State) (c n : ℕ) (acts more : List Act) → (others : List ℕ) × (taken_at naming s c n (acts ++ more) ≡ taken_at naming s c n acts ++ others)
unfolding taken_at
counts_more naming s c n [] more = (taken_at naming s c n more, refl)
counts_more naming s c n (f ∷ fs) more =
    let first = map (λ (m : Message). n + sent_by c f) (to_connection c (step naming s f).outputs) in
    let w = counts_more naming (step naming s f).state c (n + sent_by c f) fs more in
    (w.0, ap (λ (l : List ℕ). first ++ l) w.1 ∙ sym (append_assoc first (taken_at naming (step naming s f).state c (n + sent_by c f) fs) w.0))

-- there is a count for each message
pub count_each : (naming : Naming) (s : State) (c n : ℕ) (acts : List Act) → length (taken_at naming s c n acts) ≡ length (to_connection c (outputs naming s acts))
unfolding taken_at outputs to_connection
count_each naming s c n [] = refl
count_each naming s c n (f ∷ fs) =
    let sent = to_connection c (step naming s f).outputs in
    let t = (step naming s f).state in
    let m = n + sent_by c f in
    let h = count_each naming t c m fs in
    let first = length-map sent (λ (x : Message). m) in
    let parts = ap length (to_connection-append c (step naming s f).outputs (outputs naming t fs)) in
    omega (arith, h, first, parts, length-append (map (λ (x : Message). m) sent) (taken_at naming t c m fs), length-append sent (to_connection c (outputs naming t fs)))

-- ---- what was heard of the store is no more than what it told

heard_within : (k : EntryKeys) (boot c : ℕ) (p : Past) (l : Link) → IsSound p → IsSoundLink k boot p l c
    → length (store_frames l.heard) ≤ length (taken_at p.naming start c 0 p.acts)
heard_within k boot c p l sound h =
    let side = h.joined.store_side in
    let whole = whole_frames k boot c l.heard l.stand h.joined.ran in
    let cut = cut_messages (p.told c) (store_frames l.heard) (p.pulled c ++ p.waiting c) (side.rest ++ p.waiting c) whole (sound.follows.spelled c)
    (ap (λ (b : List ℕ). b ++ p.waiting c) side.whole ∙ append_assoc (bytes_of (store_frames l.heard)) side.rest (p.waiting c)) in
    let told = length_zips ShowsMessage (out p.naming p.acts c) (p.told c) (sound.follows.shown c) in
    omega (arith, cut.count, ap length cut.cut, length-append cut.done cut.left, told, count_each p.naming start c 0 p.acts)

pub behind_later : (k : EntryKeys) (boot c : ℕ) (old new : Past) (l : Link) → IsSound old → Later old new → IsSoundLink k boot old l c
    → AreBehind (taken_at new.naming start c 0 new.acts) l.heard
behind_later k boot c old new l sound later h =
    let more = counts_more old.naming start c 0 old.acts later.more_acts in
    let same : taken_at new.naming start c 0 new.acts ≡ taken_at old.naming start c 0 old.acts ++ more.0
    = (λ i. taken_at (later.naming i) start c 0 (later.acts i)) ∙ more.1 in
    subst (λ (counts : List ℕ). AreBehind counts l.heard) (sym same)
    (stays_behind (taken_at old.naming start c 0 old.acts) more.0 l.heard (heard_within k boot c old l sound h) h.behind)

-- ---- a connection whose side is not over was not over before

not_over : (o n : Option StoreEnding) → ((e : StoreEnding) → o ≡ Some e → n ≡ Some e) → is_some n ≡ false → is_some o ≡ false
not_over None n stays none = refl
not_over (Some e) n stays none = absurd (let over : is_some n ≡ true = ap is_some (stays e refl) in cc)

pub going_before : (old new : Past) (c : ℕ) → Later old new → is_over new c ≡ false → is_over old c ≡ false
going_before old new c later none = not_over (old.endings c) (new.endings c) (later.endings c) none

-- ---- the connection

pub joined_later : (k : EntryKeys) (boot c : ℕ) (old new : Past) (l : Link) (items : List Item) → Later old new → new.pulled c ≡ old.pulled c
    → items_in c new.order ≡ items_in c old.order
    → IsJoined k boot c old (connection_of l) items l.under_way l.unfed → IsJoined k boot c new (connection_of l) items l.under_way l.unfed
joined_later k boot c old new l items later pulled entries j = record {
  ran = j.ran;
  is_sent = j.is_sent;
  came = j.came;
  piped = j.piped;
  client_side = j.client_side;
  store_side = subst (IsSide store_limit (store_frames l.heard) (bad_of_store l.heard) (EndsAtStore l.stand.ending l.heard)) (sym pulled) j.store_side;
  up = j.up;
  bodies = j.bodies;
  more = j.more;
  partial = j.partial;
  stream = j.stream;
  spelled = subst (λ (is : List Item). SpellsItems true is j.bodies) (sym entries) j.spelled;
  none_left = λ none. j.none_left (going_before old new c later none);
}

pub sound_later : (k : EntryKeys) (boot c : ℕ) (old new : Past) (l : Link) → IsSound old → Later old new → new.pulled c ≡ old.pulled c
    → items_in c new.order ≡ items_in c old.order → (is_over new c ≡ false → new.rests c ≡ old.rests c)
    → IsSoundLink k boot old l c → IsSoundLink k boot new l c
unfolding joined_later
sound_later k boot c old new l sound later pulled entries rest h = record {
  items = h.items;
  joined = joined_later k boot c old new l h.items later pulled entries h.joined;
  behind = behind_later k boot c old new l sound later h;
  rest = λ none. rest none ∙ h.rest (going_before old new c later none);
  cut = h.cut;
}
