-- What was taken of a connection, frame after frame.
use Rattle.std.proofs.Common.{◌≡◌, ◌≢◌, ◌⊎◌, ℕ, ℤ, ◌+◌, List, [], ◌∷◌, ◌++◌, length, Option, Some, None, refl, sym, ap, ap₂, ◌∙◌, subst, inl, inr, append-nil, append_assoc, length-append, arith}
use Rattle.std.specs.Option.{option_and_then, option_map_or, option_or}
use Rattle.tree_state.specs.State.{State, start}
use Rattle.tree_state.specs.Step.{Act}
use Rattle.store_side.specs.declared.entry.Entry.{Entry}
use Rattle.store_side.specs.declared.entry.Entry.TheVariants.{Connect, Take, Lost, Expire}
use Rattle.store_side.specs.declared.ending.StoreEnding.{StoreEnding}
use Rattle.store_side.specs.Acts.{AreActs, IsAct}
use Rattle.store_side.specs.Out.{outputs, to_connection}
use Rattle.store_side.specs.Past.{Past, Later, after_all, state_of}
use Rattle.store_side.specs.Calls.{AreFrames, AreRequests, IsMoved, StaysWithin, ended_by_move, ending_after, lost_first, rest_of}
use Rattle.store_side.proofs.Appended.{outputs-append, to_connection-append}
use Rattle.store_side.proofs.Within.{within_none, within-append}
use Rattle.store_side.proofs.Zipping.{length_zips}
use Rattle.tree_server.specs.declared.lines.Line.{Line}
use Rattle.tree_server.specs.declared.lines.Lines.{Lines}
use Rattle.tree_server.specs.declared.lines.Standing.{Standing}
use Rattle.tree_server.specs.declared.lines.Standing.TheVariants.{Open, Over}
use Rattle.tree_server.specs.Connections.{AreLines, ending_at, ending_of, held_by, line_at, rest_at}
use Rattle.tree_server.specs.Servers.{Gained}
use Rattle.tree_server.proofs.LostConnections.{state_more}

-- ---- a later past

pub later_same : (past : Past) → Later past past
later_same past = record {
  naming = refl;
  key = refl;
  limit = refl;
  admitted = omega arith;
  entries = [];
  order = sym (append-nil past.order);
  more_acts = [];
  acts = sym (append-nil past.acts);
  more_told = λ c. [];
  told = λ c. sym (append-nil (past.told c));
  more_pulled = λ c. [];
  pulled = λ c. sym (append-nil (past.pulled c));
  more_bytes = λ c. [];
  bytes = λ c. sym (append-nil (past.pulled c ++ past.waiting c));
  endings = λ c e h. h;
}

-- what stands behind what stood behind
behind_both : {A : Type 0} (xs ys zs us vs : List A) → ys ≡ xs ++ us → zs ≡ ys ++ vs → zs ≡ xs ++ (us ++ vs)
behind_both xs ys zs us vs first next = next ∙ ap (λ l. l ++ vs) first ∙ append_assoc xs us vs

pub later_more : {a b c : Past} → Later a b → Later b c → Later a c
later_more {a} {b} {c} h k = record {
  naming = k.naming ∙ h.naming;
  key = k.key ∙ h.key;
  limit = k.limit ∙ h.limit;
  admitted = (let first = h.admitted in let next = k.admitted in omega arith);
  entries = h.entries ++ k.entries;
  order = behind_both a.order b.order c.order h.entries k.entries h.order k.order;
  more_acts = h.more_acts ++ k.more_acts;
  acts = behind_both a.acts b.acts c.acts h.more_acts k.more_acts h.acts k.acts;
  more_told = λ d. h.more_told d ++ k.more_told d;
  told = λ d. behind_both (a.told d) (b.told d) (c.told d) (h.more_told d) (k.more_told d) (h.told d) (k.told d);
  more_pulled = λ d. h.more_pulled d ++ k.more_pulled d;
  pulled = λ d. behind_both (a.pulled d) (b.pulled d) (c.pulled d) (h.more_pulled d) (k.more_pulled d) (h.pulled d) (k.pulled d);
  more_bytes = λ d. h.more_bytes d ++ k.more_bytes d;
  bytes = λ d.
      behind_both (a.pulled d ++ a.waiting d) (b.pulled d ++ b.waiting d) (c.pulled d ++ c.waiting d) (h.more_bytes d) (k.more_bytes d)
      (h.bytes d) (k.bytes d);
  endings = λ d e over. k.endings d e (h.endings d e over);
}

-- ---- what is held of a connection that is over

-- nothing is held of one that is over
abbrev pub HoldsNone : Past → Type 0
HoldsNone past = (d : ℕ) → past.rests d ≡ rest_of (past.endings d) (past.rests d)

over_standing : (x : Standing) → held_by x ≡ rest_of (ending_of x) (held_by x)
unfolding held_by ending_of rest_of
over_standing (Open framer) = refl
over_standing (Over e) = refl

over_none : (o : Option Line)
    → option_map_or (λ (l : Line). held_by l.standing) o []
    ≡ rest_of (option_and_then (λ (l : Line). ending_of l.standing) o) (option_map_or (λ (l : Line). held_by l.standing) o [])
unfolding rest_of
over_none None = refl
over_none (Some l) = over_standing l.standing

-- so it is where lines keep what is held
pub lines_hold : (ls : Lines) (past : Past) → AreLines ls past → HoldsNone past
unfolding rest_at ending_at
lines_hold ls past lines d =
    lines.rests d ∙ over_none (line_at ls.lines.items d) ∙ sym (ap₂ rest_of (lines.endings d) (lines.rests d))

-- what is held at last, of a connection that may be over between
rest_on : (o p : Option StoreEnding) (first mid last : List ℕ) → ((e : StoreEnding) → o ≡ Some e → p ≡ Some e)
    → mid ≡ rest_of o first → last ≡ rest_of p mid → last ≡ rest_of p first
unfolding rest_of
rest_on None p first mid last still h k = k ∙ ap (rest_of p) h
rest_on (Some e) p first mid last still h k =
    let over = still e refl in
    k ∙ ap (λ (q : Option StoreEnding). rest_of q mid) over ∙ sym (ap (λ (q : Option StoreEnding). rest_of q first) over)

-- ---- no frames, and more frames

or_none : (o : Option StoreEnding) → option_or o None ≡ o
or_none None = refl
or_none (Some e) = refl

none_moved : (frames : List Entry) (d : ℕ) → ended_by_move None frames d ≡ None
unfolding ended_by_move
none_moved frames d = refl

none_lost : lost_first None ≡ []
unfolding lost_first
none_lost = refl

no_frames_move : (s : State) (moved : Option ℕ) → IsMoved s moved [] → moved ≡ None
unfolding IsMoved
no_frames_move s None h = refl
no_frames_move s (Some d) h = absurd h

no_frames_spelled : (c : ℕ) (now : ℤ) (bodies : List (List ℕ)) → AreFrames c now [] bodies → bodies ≡ []
unfolding AreFrames AreRequests
no_frames_spelled c now [] h = refl
no_frames_spelled c now (b ∷ bs) h = absurd h

no_frames : (c : ℕ) (now : ℤ) → AreFrames c now [] []
unfolding AreFrames AreRequests
no_frames c now = tt

stays_put : (s : State) (frames : List Entry) → IsMoved s None frames
unfolding IsMoved
stays_put s frames = tt

-- requests behind requests
requests_more : (c : ℕ) (now : ℤ) (es fs : List Entry) (bs ds : List (List ℕ)) → AreRequests c now es bs → AreRequests c now fs ds
    → AreRequests c now (es ++ fs) (bs ++ ds)
unfolding AreRequests
requests_more c now [] fs [] ds h k = k
requests_more c now [] fs (b ∷ bs) ds h k = absurd h
requests_more c now (e ∷ es) fs [] ds h k = absurd h
requests_more c now (Take d xid r zxid at ∷ es) fs (b ∷ bs) ds h k = (h.0, h.1, h.2, requests_more c now es fs bs ds h.3 k)
requests_more c now (Connect d asked session timeout password zxid at ∷ es) fs (b ∷ bs) ds h k = absurd h
requests_more c now (Lost d ∷ es) fs (b ∷ bs) ds h k = absurd h
requests_more c now (Expire session zxid at ∷ es) fs (b ∷ bs) ds h k = absurd h

-- and behind frames
frames_more : (c : ℕ) (now : ℤ) (es fs : List Entry) (bs ds : List (List ℕ)) → es ≢ [] → AreFrames c now es bs → AreRequests c now fs ds
    → AreFrames c now (es ++ fs) (bs ++ ds)
unfolding AreFrames
frames_more c now [] fs bs ds some h k = absurd (some refl)
frames_more c now (Connect d asked session timeout password zxid at ∷ es) fs [] ds some h k = absurd h
frames_more c now (Connect d asked session timeout password zxid at ∷ es) fs (b ∷ bs) ds some h k =
    (h.0, h.1, h.2, requests_more c now es fs bs ds h.3 k)
frames_more c now (Take d xid r zxid at ∷ es) fs bs ds some h k = requests_more c now (Take d xid r zxid at ∷ es) fs bs ds h k
frames_more c now (Lost d ∷ es) fs bs ds some h k = absurd h
frames_more c now (Expire session zxid at ∷ es) fs bs ds some h k = absurd h

-- what moves by the first frame
moves_more : (s : State) (moved : Option ℕ) (es fs : List Entry) → IsMoved s moved es → IsMoved s moved (es ++ fs)
unfolding IsMoved
moves_more s None es fs h = tt
moves_more s (Some d) [] fs h = absurd h
moves_more s (Some d) (Connect c asked session timeout password zxid now ∷ es) fs h = h
moves_more s (Some d) (Take c xid r zxid now ∷ es) fs h = h
moves_more s (Some d) (Lost c ∷ es) fs h = h
moves_more s (Some d) (Expire session zxid now ∷ es) fs h = h

ended_more : (s : State) (moved : Option ℕ) (es fs : List Entry) (d : ℕ) → IsMoved s moved es
    → ended_by_move moved es d ≡ ended_by_move moved (es ++ fs) d
unfolding IsMoved ended_by_move
ended_more s None es fs d h = refl
ended_more s (Some x) [] fs d h = absurd h
ended_more s (Some x) (Connect c asked session timeout password zxid now ∷ es) fs d h = refl
ended_more s (Some x) (Take c xid r zxid now ∷ es) fs d h = refl
ended_more s (Some x) (Lost c ∷ es) fs d h = refl
ended_more s (Some x) (Expire session zxid now ∷ es) fs d h = refl

-- the last one of several ends the connection, or does not
pub ending_after_more : (frames frames2 : List Entry) → frames2 ≢ [] → ending_after (frames ++ frames2) ≡ ending_after frames2
unfolding ending_after
ending_after_more [] frames2 some = refl
ending_after_more (e ∷ []) [] some = absurd (some refl)
ending_after_more (e ∷ []) (f ∷ fs) some = refl
ending_after_more (e ∷ f ∷ es) frames2 some = ending_after_more (f ∷ es) frames2 some

-- a frame is one
pub taken_some : (c : ℕ) (now : ℤ) (frames : List Entry) (body : List ℕ) → AreFrames c now frames (body ∷ []) → frames ≢ []
unfolding AreFrames AreRequests
taken_some c now [] body h = absurd h
taken_some c now (e ∷ es) body h = λ none. cc

-- ---- the state where no entry came

no_items : {A : Type 0} (xs : List A) → length xs ≡ 0 → xs ≡ []
no_items [] h = refl
no_items (x ∷ xs) h = absurd (omega (arith, h))

same_state : (old new : Past) (h : Later old new) → h.entries ≡ [] → AreActs old.order old.acts → AreActs new.order new.acts
    → state_of new ≡ state_of old
unfolding state_of
same_state old new h none before after =
    let a = length_zips IsAct old.order old.acts before in
    let b = length_zips IsAct new.order new.acts after in
    let order : length new.order ≡ length old.order =
    ap length (h.order ∙ ap (λ (l : List Entry). old.order ++ l) none ∙ append-nil old.order) in
    let acts : length new.acts ≡ length old.acts + length h.more_acts = ap length h.acts ∙ length-append old.acts h.more_acts in
    let more : h.more_acts ≡ [] = no_items h.more_acts (omega arith) in
    ap₂ (λ n (l : List Act). after_all n start l) h.naming (h.acts ∙ ap (λ (l : List Act). old.acts ++ l) more ∙ append-nil old.acts)

-- ---- frame after frame

nothing_sent : (past : Past) (d : ℕ) → [] ≡ to_connection d (outputs past.naming (state_of past) [])
unfolding outputs to_connection
nothing_sent past d = refl

-- nothing yet
pub gained_none : (c : ℕ) (now : ℤ) (past : Past) → past.endings c ≡ None → HoldsNone past → Gained c now past past None [] []
unfolding later_same
gained_none c now past goes_on holds = record {
  later = later_same past;
  admitted = refl;
  pulled = λ d. refl;
  entries = sym (ap (λ (l : List Entry). l ++ []) none_lost);
  spelled = no_frames c now;
  moves = stays_put (state_of past) [];
  within = within_none past.naming past.limit (length past.order) (state_of past);
  tells = nothing_sent past;
  others = λ d apart. sym (ap (option_or (past.endings d)) (none_moved [] d) ∙ or_none (past.endings d));
  rests = λ d apart. holds d;
  goes_on = goes_on;
  rest = refl;
}

-- so many entries there were between
count_mid : (old mid : Past) → AreActs old.order old.acts → AreActs mid.order mid.acts → (h : Later old mid)
    → length mid.order ≡ length old.order + length h.more_acts
count_mid old mid before between h =
    let a = length_zips IsAct old.order old.acts before in
    let b = length_zips IsAct mid.order mid.acts between in
    let n = ap length h.acts ∙ length-append old.acts h.more_acts in
    omega (arith, a, b, n)

module _ {c : ℕ} {now : ℤ} {old mid new : Past} {moved moved2 : Option ℕ} {frames frames2 : List Entry} {bodies more : List (List ℕ)} where
  rests_on : Gained c now old mid moved frames bodies → Gained c now mid new moved2 frames2 more
      → (d : ℕ) → (d ≡ c → ⊥) → new.rests d ≡ rest_of (new.endings d) (old.rests d)
  rests_on h k d apart =
      rest_on (mid.endings d) (new.endings d) (old.rests d) (mid.rests d) (new.rests d) (k.later.endings d)
      (h.rests d apart) (k.rests d apart)

  within_on : AreActs old.order old.acts → AreActs mid.order mid.acts
      → (h : Gained c now old mid moved frames bodies) (k : Gained c now mid new moved2 frames2 more)
      → StaysWithin old.naming old.limit (length old.order) (state_of old) (h.later.more_acts ++ k.later.more_acts)
  within_on before between h k =
      let count = count_mid old mid before between h.later in
      let state = state_more old mid h.later.more_acts h.later.naming h.later.acts in
      let same : StaysWithin mid.naming mid.limit (length mid.order) (state_of mid) k.later.more_acts
      ≡ StaysWithin old.naming old.limit (length old.order + length h.later.more_acts) (after_all old.naming (state_of old) h.later.more_acts) k.later.more_acts =
      (λ i. StaysWithin (h.later.naming i) (h.later.limit i) (count i) (state i) k.later.more_acts) in
      within-append old.naming old.limit (length old.order) (state_of old) h.later.more_acts k.later.more_acts h.within
      (subst (λ (T : Type 0). T) same k.within)

  tells_on : (h : Gained c now old mid moved frames bodies) (k : Gained c now mid new moved2 frames2 more) (d : ℕ)
      → h.later.more_told d ++ k.later.more_told d
      ≡ to_connection d (outputs old.naming (state_of old) (h.later.more_acts ++ k.later.more_acts))
  tells_on h k d =
      let state = state_more old mid h.later.more_acts h.later.naming h.later.acts in
      let front = outputs old.naming (state_of old) h.later.more_acts in
      let back = outputs old.naming (after_all old.naming (state_of old) h.later.more_acts) k.later.more_acts in
      (λ i. h.tells d i ++ k.tells d i)
      ∙ (λ i. to_connection d front ++ to_connection d (outputs (h.later.naming i) (state i) k.later.more_acts))
      ∙ sym (to_connection-append d front back)
      ∙ ap (to_connection d) (sym (outputs-append old.naming (state_of old) h.later.more_acts k.later.more_acts))

  -- the first that was taken
  pub gained_first : AreActs old.order old.acts → AreActs mid.order mid.acts → frames ≡ []
      → Gained c now old mid moved frames bodies → Gained c now mid new moved2 frames2 more
      → Gained c now old new moved2 (frames ++ frames2) (bodies ++ more)
  unfolding later_more
  gained_first before between none h k =
      let put : moved ≡ None = no_frames_move (state_of old) moved (subst (IsMoved (state_of old) moved) none h.moves) in
      let bare : bodies ≡ [] = no_frames_spelled c now bodies (subst (λ (l : List Entry). AreFrames c now l bodies) none h.spelled) in
      let quiet : h.later.entries ≡ [] = h.entries ∙ (λ i. lost_first (put i) ++ none i) ∙ ap (λ (l : List Entry). l ++ []) none_lost in
      let same = same_state old mid h.later quiet before between in
      let first : frames2 ≡ frames ++ frames2 = sym (ap (λ (l : List Entry). l ++ frames2) none) in
      record {
        later = later_more h.later k.later;
        admitted = k.admitted ∙ h.admitted;
        pulled = λ d. k.pulled d ∙ h.pulled d;
        entries =
            ap (λ (l : List Entry). l ++ k.later.entries) quiet ∙ k.entries ∙ ap (λ (l : List Entry). lost_first moved2 ++ l) first;
        spelled = rw (none, bare) k.spelled;
        moves = rw (none, sym same) k.moves;
        within = within_on before between h k;
        tells = tells_on h k;
        others = λ d apart.
            let still : mid.endings d ≡ old.endings d =
            h.others d apart ∙ ap (λ (o : Option ℕ). option_or (old.endings d) (ended_by_move o frames d)) put
            ∙ ap (option_or (old.endings d)) (none_moved frames d) ∙ or_none (old.endings d) in
            k.others d apart
            ∙ ap₂ (λ (o : Option StoreEnding) (l : List Entry). option_or o (ended_by_move moved2 l d)) still first;
        rests = rests_on h k;
        goes_on = k.goes_on;
        rest = k.rest ∙ h.rest;
      }

  -- a later one, which moves nothing
  pub gained_next : AreActs old.order old.acts → AreActs mid.order mid.acts → frames ≢ [] → moved2 ≡ None → AreRequests c now frames2 more
      → Gained c now old mid moved frames bodies → Gained c now mid new moved2 frames2 more
      → Gained c now old new moved (frames ++ frames2) (bodies ++ more)
  unfolding later_more
  gained_next before between some put requests h k = record {
    later = later_more h.later k.later;
    admitted = k.admitted ∙ h.admitted;
    pulled = λ d. k.pulled d ∙ h.pulled d;
    entries =
        let next : k.later.entries ≡ frames2 =
        k.entries ∙ ap (λ (o : Option ℕ). lost_first o ++ frames2) put ∙ ap (λ (l : List Entry). l ++ frames2) none_lost in
        (λ i. h.entries i ++ next i) ∙ append_assoc (lost_first moved) frames frames2;
    spelled = frames_more c now frames frames2 bodies more some h.spelled requests;
    moves = moves_more (state_of old) moved frames frames2 h.moves;
    within = within_on before between h k;
    tells = tells_on h k;
    others = λ d apart.
        k.others d apart ∙ ap (λ (o : Option ℕ). option_or (mid.endings d) (ended_by_move o frames2 d)) put
        ∙ ap (option_or (mid.endings d)) (none_moved frames2 d) ∙ or_none (mid.endings d) ∙ h.others d apart
        ∙ ap (option_or (old.endings d)) (ended_more (state_of old) moved frames frames2 d h.moves);
    rests = rests_on h k;
    goes_on = k.goes_on;
    rest = k.rest ∙ h.rest;
  }

none_or_some : (es : List Entry) → (es ≡ []) ⊎ (es ≢ [])
none_or_some [] = inl refl
none_or_some (e ∷ es) = inr (λ h. cc)

-- one more, be it the first or a later one
pub gained_more : {c : ℕ} {now : ℤ} {old mid new : Past} {moved moved2 : Option ℕ} {frames frames2 : List Entry}
    {bodies more : List (List ℕ)}
    → AreActs old.order old.acts → AreActs mid.order mid.acts
    → Gained c now old mid moved frames bodies → Gained c now mid new moved2 frames2 more
    → (frames ≢ [] → (moved2 ≡ None) × AreRequests c now frames2 more)
    → (one : Option ℕ) × Gained c now old new one (frames ++ frames2) (bodies ++ more)
gained_more {moved = moved} {moved2 = moved2} {frames = frames} before between h k later = elim (none_or_some frames) [
  | inl none ↦ (moved2, gained_first before between none h k)
  | inr some ↦ (moved, gained_next before between some (later some).0 (later some).1 h k)
]
