-- A session to which the store told nothing hands nothing down.
use Rattle.std.proofs.Common.{◌≡◌, ℕ, ℤ, pos, ◌<ℤ◌, List, [], ◌∷◌, ◌++◌, Some, refl, sym, subst}
use Rattle.payload_seal.specs.declared.keys.EntryKeys.{EntryKeys}
use Rattle.tree_state.specs.declared.message.Message.{Message}
use Rattle.store_side.specs.Messages.{Messages}
use Rattle.entry_session.specs.ClientTurns.{ClientTurn, malformed_frame, full_queue, spent_ivs, handed_up}
use Rattle.entry_session.specs.Heard.{Heard, from_client, from_store, bad_client, bad_store, given, store_frames, bad_of_store}
use Rattle.entry_session.specs.Runs.{store_limit, TurnOf, Ran}
use Rattle.entry_session.specs.Sides.{IsSide, EndsAtStore}
use Rattle.entry_session.specs.Stands.{Stand, fresh, ends}
use Rattle.entry_session.specs.declared.ending.Ending.{Ending}
use Rattle.entry_session.specs.declared.ending.Ending.TheVariants as endings
use Rattle.entry_session.proofs.Turns.{goes, some_none}
use Rattle.session_law.specs.Law.{IsHonestEnd}
use Rattle.session_law.proofs.Words.{SpellsFront}
use Rattle.session_law.proofs.SessionSides.{whole_frames, front_spelled, honest_length}
use Rattle.session_law.proofs.OneSession.{no_bad, given_honest, given_open}

-- nothing was handed down or found, and it was not closed
pub record Unheard (s : Stand) : Type 0 where
  pub down : s.down ≡ []
  pub none : s.findings ≡ []
  pub honest : IsHonestEnd s.ending
  pub not_closed : s.ending ≡ Some endings.Closed → ⊥

unheard_at : (s t : Stand) → t ≡ s → Unheard s → Unheard t
unheard_at s t e h = subst Unheard (sym e) h

some_same : (a b : Ending) → Some a ≡ Some b → a ≡ b
some_same a b e = cc

unheard_end : (s : Stand) (e : Ending) → IsHonestEnd (Some e) → (e ≡ endings.Closed → ⊥) → Unheard s → Unheard (ends s e)
unheard_end s e honest other h = record { down = h.down; none = h.none; honest = honest; not_closed = λ i. other (some_same e endings.Closed i) }

unheard_client : (k : EntryKeys) (boot c : ℕ) (old : Stand) (body : List ℕ) (new : Stand) → ClientTurn k boot c old body new → Unheard old → Unheard new
unfolding IsHonestEnd
unheard_client k boot c old body new (malformed_frame refusal f) h = unheard_end old (endings.ClientMalformed refusal) tt (λ e. absurd cc) h
unheard_client k boot c old body new (full_queue i f g) h = unheard_end old (endings.QueueFull _) tt (λ e. absurd cc) h
unheard_client k boot c old body new (spent_ivs i n f g p l) h = unheard_end old endings.IvSpent tt (λ e. absurd cc) h
unheard_client k boot c old body new (handed_up i v n out f g p l q o) h = record { down = h.down; none = h.none; honest = h.honest; not_closed = h.not_closed }

not_last : {A : Type 0} (xs : List A) (x : A) → xs ++ x ∷ [] ≡ [] → ⊥
not_last [] x e = absurd cc
not_last (y ∷ xs) x e = absurd cc

unheard_turn : (k : EntryKeys) (boot c : ℕ) (old : Stand) (h : Heard) (hs : List Heard) (new : Stand) → store_frames (h ∷ hs) ≡ [] → ((z : ℤ) → bad_of_store (h ∷ hs) ≡ Some z → pos store_limit <ℤ z) → TurnOf k boot c old h new → Unheard old → Unheard new
unfolding TurnOf store_frames bad_of_store IsHonestEnd
unheard_turn k boot c old (from_client body) hs new none long t x = unheard_client k boot c old body new t.1 x
unheard_turn k boot c old (from_store body) hs new none long t x = absurd (not_last (store_frames hs) body none)
unheard_turn k boot c old (bad_client z) hs new none long t x = unheard_at _ new t.1 (unheard_end old (endings.ClientTooLong z) tt (λ e. absurd cc) x)
unheard_turn k boot c old (bad_store z) hs new none long t x = unheard_at _ new t.1 (unheard_end old (endings.StoreTooLong z) (long z refl) (λ e. absurd cc) x)
unheard_turn k boot c old (given e) hs new none long t x = unheard_at _ new t.1 (unheard_end old e (given_honest e t.0) (given_open e t.0) x)

none_before : (h : Heard) (hs : List Heard) → store_frames (h ∷ hs) ≡ [] → store_frames hs ≡ []
unfolding store_frames
none_before (from_client body) hs e = e
none_before (from_store body) hs e = absurd (not_last (store_frames hs) body e)
none_before (bad_client z) hs e = e
none_before (bad_store z) hs e = e
none_before (given e) hs i = i

unheard_fresh : Unheard fresh
unfolding IsHonestEnd
unheard_fresh = record { down = refl; none = refl; honest = tt; not_closed = λ e. some_none endings.Closed (sym e) }

unheard_session : (k : EntryKeys) (boot c : ℕ) (hs : List Heard) (s : Stand) → store_frames hs ≡ [] → ((z : ℤ) → bad_of_store hs ≡ Some z → pos store_limit <ℤ z) → Ran k boot c hs s → Unheard s
unfolding Ran
unheard_session k boot c [] s none long e = unheard_at fresh s e unheard_fresh
unheard_session k boot c (h ∷ hs) s none long (old, ran, t) =
    let g = goes k boot c old h s t in
    unheard_turn k boot c old h hs s none long g.turn (unheard_session k boot c hs old (none_before h hs none) (λ z e. absurd (no_bad k boot c hs old z ran g.going e)) ran)

nothing_spelled : (bs : List (List ℕ)) → SpellsFront [] bs → bs ≡ []
unfolding SpellsFront
nothing_spelled [] h = refl
nothing_spelled (b ∷ bs) h = absurd h

-- from the bytes of the store's side
pub unheard : (k : EntryKeys) (boot c : ℕ) (told : List Message) (hs : List Heard) (s : Stand) (pulled waiting : List ℕ) → told ≡ [] → Ran k boot c hs s → Messages told (pulled ++ waiting) → IsSide store_limit (store_frames hs) (bad_of_store hs) (EndsAtStore s.ending hs) pulled → Unheard s
unheard k boot c told hs s pulled waiting is ran spelled side =
    let whole = whole_frames k boot c hs s ran in
    let front = front_spelled told (store_frames hs) (bad_of_store hs) (EndsAtStore s.ending hs) pulled waiting whole spelled side in
    unheard_session k boot c hs s (nothing_spelled (store_frames hs) (subst (λ (l : List Message). SpellsFront l (store_frames hs)) is front)) (honest_length told (store_frames hs) (bad_of_store hs) (EndsAtStore s.ending hs) pulled waiting whole spelled side) ran
