-- Frames and messages beside bytes: whole frames are cut from bytes in one way.
use Rattle.std.proofs.Common.{◌≡◌, ℕ, suc, List, [], ◌∷◌, ◌++◌, length, refl, sym, ap, subst, ◌∙◌, append_assoc}
use Rattle.std.specs.Prelude.{All}
use Rattle.std.proofs.lemmas.List.Elements.{All-head, All-tail}
use Rattle.jute_core.specs.Frames.{frame, FitsFrame, IsRest}
use Rattle.jute_core.proofs.OneStream.{one_frame}
use Rattle.tree_state.specs.declared.message.Message.{Message}
use Rattle.store_side.specs.Messages.{SpellsMessage, Messages}
use Rattle.store_side.proofs.Zipping.{Zips}
use Rattle.entry_session.specs.Sides.{bytes_of}
unfoldable pub use Rattle.session_law.proofs.Words.{AreWhole, SpellsFront}
use Rattle.store_side.proofs.OneBody.{one_body}

pub frame_filled : (b x : List ℕ) → frame b ++ x ≡ [] → ⊥
unfolding frame
frame_filled b x e = absurd cc

pub whole_of_all : (bs : List (List ℕ)) → All FitsFrame bs → AreWhole bs
unfolding AreWhole
whole_of_all [] h = tt
whole_of_all (b ∷ bs) h = (All-head FitsFrame b bs h, whole_of_all bs (All-tail FitsFrame b bs h))

pub whole_front : (xs bs : List (List ℕ)) → AreWhole (xs ++ bs) → AreWhole xs
unfolding AreWhole
whole_front [] bs h = tt
whole_front (x ∷ xs) bs h = (h.0, whole_front xs bs h.1)

pub whole_back : (xs bs : List (List ℕ)) → AreWhole (xs ++ bs) → AreWhole bs
unfolding AreWhole
whole_back [] bs h = h
whole_back (x ∷ xs) bs h = whole_back xs bs h.1

-- frames whose bytes begin with those of other frames begin with these
pub record BeginsWithFrames (up bs : List (List ℕ)) (z : List ℕ) : Type 0 where
  pub rest : List (List ℕ)
  pub cut : up ≡ bs ++ rest
  pub bytes : bytes_of rest ≡ z

pub cut_frames : (up bs : List (List ℕ)) (z : List ℕ) → AreWhole up → AreWhole bs → bytes_of up ≡ bytes_of bs ++ z → BeginsWithFrames up bs z
unfolding AreWhole
cut_frames up [] z w v e = record { rest = up; cut = refl; bytes = e }
cut_frames [] (b ∷ bs) z w v e = absurd (frame_filled b (bytes_of bs ++ z) (sym (append_assoc (frame b) (bytes_of bs) z) ∙ sym e))
cut_frames (u ∷ up) (b ∷ bs) z w v e =
    let both = one_frame u b (bytes_of up) (bytes_of bs ++ z) w.0 v.0 (e ∙ append_assoc (frame b) (bytes_of bs) z) in
    let more = cut_frames up bs z w.1 v.1 both.1 in
    record { rest = more.rest; cut = (λ i. both.0 i ∷ more.cut i); bytes = more.bytes }

-- a part of a frame is no whole frames
pub no_frames : (bs : List (List ℕ)) (z : List ℕ) → AreWhole bs → bytes_of bs ≡ z → IsRest z → bs ≡ []
unfolding AreWhole
no_frames [] z w e h = refl
no_frames (b ∷ bs) z w e h = absurd (h b (bytes_of bs) w.0 (sym e))

-- the messages that the first frames are, and those after them
pub record BeginsWithMessages (ms : List Message) (bs : List (List ℕ)) (z : List ℕ) : Type 0 where
  pub done : List Message
  pub left : List Message
  pub cut : ms ≡ done ++ left
  pub spelled : Zips SpellsMessage done bs
  pub count : length done ≡ length bs
  pub after : Messages left z

pub cut_messages : (ms : List Message) (bs : List (List ℕ)) (bytes z : List ℕ) → AreWhole bs → Messages ms bytes → bytes ≡ bytes_of bs ++ z → BeginsWithMessages ms bs z
unfolding Messages AreWhole Zips
cut_messages ms [] bytes z w h e = record { done = []; left = ms; cut = refl; spelled = tt; count = refl; after = subst (Messages ms) e h }
cut_messages [] (b ∷ bs) bytes z w h e = absurd (frame_filled b (bytes_of bs ++ z) (sym (append_assoc (frame b) (bytes_of bs) z) ∙ sym e ∙ h))
cut_messages (m ∷ ms) (b ∷ bs) bytes z w (body, more, spelled, fits, cut, others) e =
    let both = one_frame body b more (bytes_of bs ++ z) fits w.0 (sym cut ∙ e ∙ append_assoc (frame b) (bytes_of bs) z) in
    let x = cut_messages ms bs more z w.1 others both.1 in
    record {
      done = m ∷ x.done;
      left = x.left;
      cut = ap (λ (l : List Message). m ∷ l) x.cut;
      spelled = (subst (λ (y : List ℕ). SpellsMessage m y) both.0 spelled, x.spelled);
      count = ap suc x.count;
      after = x.after;
    }

pub spells_front : (ms : List Message) (bs : List (List ℕ)) (bytes rest : List ℕ) → AreWhole bs → Messages ms bytes → bytes ≡ bytes_of bs ++ rest → SpellsFront ms bs
unfolding SpellsFront Messages AreWhole
spells_front ms [] bytes rest w h e = tt
spells_front [] (b ∷ bs) bytes rest w h e = absurd (frame_filled b (bytes_of bs ++ rest) (sym (append_assoc (frame b) (bytes_of bs) rest) ∙ sym e ∙ h))
spells_front (m ∷ ms) (b ∷ bs) bytes rest w (body, more, spelled, fits, cut, others) e =
    let both = one_frame body b more (bytes_of bs ++ rest) fits w.0 (sym cut ∙ e ∙ append_assoc (frame b) (bytes_of bs) rest) in
    (subst (λ (x : List ℕ). SpellsMessage m x) both.0 spelled, spells_front ms bs more rest w.1 others both.1)

-- a part of a frame is no message
pub no_messages : (ms : List Message) (z : List ℕ) → Messages ms z → IsRest z → z ≡ []
unfolding Messages
no_messages [] z h r = h
no_messages (m ∷ ms) z (body, more, spelled, fits, cut, others) r = absurd (r body more fits cut)

pub messages_none : (ms : List Message) → Messages ms [] → ms ≡ []
unfolding Messages
messages_none [] h = refl
messages_none (m ∷ ms) (body, more, spelled, fits, cut, others) = absurd (frame_filled body more (sym cut))

pub messages_none_bytes : (ms : List Message) (z : List ℕ) → ms ≡ [] → Messages ms z → z ≡ []
unfolding Messages
messages_none_bytes [] z e h = h
messages_none_bytes (m ∷ ms) z e h = absurd cc

-- the bodies of the first messages are the first of their bytes
pub record Received (left : List Message) (bodies : List (List ℕ)) (bytes : List ℕ) : Type 0 where
  pub rest : List ℕ
  pub cut : bytes ≡ bytes_of bodies ++ rest
  pub after : Messages left rest

pub received : (done left : List Message) (bodies : List (List ℕ)) (bytes : List ℕ) → Zips SpellsMessage done bodies → Messages (done ++ left) bytes → Received left bodies bytes
unfolding Messages Zips
received [] left [] bytes h m = record { rest = bytes; cut = refl; after = m }
received [] left (b ∷ bs) bytes h m = absurd h
received (d ∷ done) left [] bytes h m = absurd h
received (d ∷ done) left (b ∷ bs) bytes h (body, more, spelled, fits, cut, others) =
    let x = received done left bs more h.1 others in
    record {
      rest = x.rest;
      cut = cut ∙ (λ i. frame (one_body d body b spelled h.0 i) ++ x.cut i) ∙ sym (append_assoc (frame b) (bytes_of bs) x.rest);
      after = x.after;
    }
