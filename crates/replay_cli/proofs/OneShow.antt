-- Bytes are shown in one way.
use Rattle.std.proofs.Common.{◌≡◌, ℕ, ℤ, ◌+◌, ◌≤◌, List, [], ◌∷◌, ◌++◌, length, Bool, true, false, refl, sym, ap, subst, ◌∙◌, arith, length-append}
use Rattle.std.specs.Prelude.{◌==◌}
use Rattle.jute_core.specs.Frames.{frame, FitsFrame}
use Rattle.jute_core.specs.declared.cursor.Reason.{Reason}
use Rattle.jute_core.specs.declared.cursor.Refusal.{Refusal}
use Rattle.jute_core.proofs.OneStream.{one_frame}
use Rattle.zk_frame.specs.Framing.{IsTooLong}
use Rattle.zk_frame.proofs.Prefixes.{frame_length, length_of_int, whole_not_long, one_too_long}
use Rattle.zk_records.proofs.OneConnect.{one_request as one_connect, request_or_refused as connect_or_refused, one_connect_refusal}
use Rattle.zk_messages.specs.Items.{IsItem}
use Rattle.zk_messages.specs.Sent.{client_limit, HasNoFrame}
use Rattle.zk_messages.specs.declared.request.Item.{Item}
use Rattle.zk_messages.specs.declared.request.Item.TheVariants.{Asks, Requests}
use Rattle.zk_messages.proofs.OneRequest.{one_request, request_or_refused}
use Rattle.zk_messages.proofs.OnePlace.{one_request_refusal}
use Rattle.replay_cli.specs.declared.show.Frame.{Frame}
use Rattle.replay_cli.specs.declared.show.Ending.{Ending}
use Rattle.replay_cli.specs.declared.show.Ending.TheVariants.{Finished, CutShort, Malformed, TooLong}
use Rattle.replay_cli.specs.Show.{IsFrame, IsCutShort, RefusedItem, IsMalformed, IsEnding, AreFrames, ending_text, frames_text, IsShown}

-- One body

one_item : (first : Bool) (a b : Item) (body : List ℕ) → IsItem first a body → IsItem first b body → a ≡ b
one_item true (Asks r) (Asks s) body p q = ap Asks (one_connect body r s p q)
one_item true (Asks r) (Requests y s) body p q = absurd q
one_item true (Requests x r) b body p q = absurd p
one_item false (Asks r) b body p q = absurd p
one_item false (Requests x r) (Asks s) body p q = absurd q
one_item false (Requests x r) (Requests y s) body p q = let e = one_request body x y r s p q in cc

item_or_refused : (first : Bool) (a : Item) (body : List ℕ) (place : ℕ) (reason : Reason) → IsItem first a body → RefusedItem first body place reason → ⊥
item_or_refused true (Asks r) body place reason p q = connect_or_refused body r place reason p q
item_or_refused true (Requests x r) body place reason p q = p
item_or_refused false (Asks r) body place reason p q = p
item_or_refused false (Requests x r) body place reason p q = request_or_refused body x r place reason p q

one_refusal_of : (first : Bool) (body : List ℕ) (p q : ℕ) (r s : Reason) → RefusedItem first body p r → RefusedItem first body q s → (p ≡ q) × (r ≡ s)
one_refusal_of true body p q r s h k = one_connect_refusal body p q r s h k
one_refusal_of false body p q r s h k = one_request_refusal body p q r s h k

-- A whole frame in front

no_frame : (bytes body more : List ℕ) → HasNoFrame bytes → length body ≤ client_limit → bytes ≡ frame body ++ more → ⊥
unfolding HasNoFrame
no_frame bytes body more none short cut = none body more short cut

within_fits : (body : List ℕ) → length body ≤ client_limit → FitsFrame body
within_fits body short = omega (arith, short)

-- nothing has none in front, nor an int
whole_some : (bytes body more : List ℕ) → bytes ≡ frame body ++ more → bytes ≡ [] → ⊥
whole_some bytes body more cut none = omega (arith, ap length (sym cut ∙ none), frame_length body, length-append (frame body) more)

long_some : (bytes : List ℕ) (size : ℤ) → IsTooLong client_limit bytes size → bytes ≡ [] → ⊥
long_some bytes size long none = omega (arith, ap length (sym long.begins ∙ none), length_of_int size long.prefix long.named, length-append long.prefix long.more)

whole_not_cut : (bytes body more : List ℕ) → length body ≤ client_limit → bytes ≡ frame body ++ more → IsCutShort bytes → ⊥
whole_not_cut bytes body more short cut part = no_frame bytes body more part.not_whole short cut

whole_not_too_long : (bytes body more : List ℕ) (size : ℤ) → length body ≤ client_limit → bytes ≡ frame body ++ more → IsTooLong client_limit bytes size → ⊥
whole_not_too_long bytes body more size short cut long =
    whole_not_long client_limit (frame body) body more size (record { fits = within_fits body short; within = short; same = refl }) (subst (λ (l : List ℕ). IsTooLong client_limit l size) cut long)

-- Frames and endings

one_whole : (bytes a b x y : List ℕ) → length a ≤ client_limit → length b ≤ client_limit → bytes ≡ frame a ++ x → bytes ≡ frame b ++ y → (a ≡ b) × (x ≡ y)
one_whole bytes a b x y p q e f = one_frame a b x y (within_fits a p) (within_fits b q) (sym e ∙ f)

-- a frame in front is no ending
frame_not_ending : (first : Bool) (f : Frame) (more bytes : List ℕ) (ending : Ending) → IsFrame first f more bytes → IsEnding first ending bytes → ⊥
frame_not_ending first f more bytes Finished is none = whole_some bytes is.begins.body more is.begins.cut none
frame_not_ending first f more bytes (CutShort count) is part = whole_not_cut bytes is.begins.body more is.begins.short is.begins.cut part.0
frame_not_ending first f more bytes (Malformed refusal) is bad =
    let same = one_whole bytes is.begins.body bad.body more bad.more is.begins.short bad.short is.begins.cut bad.cut in
    item_or_refused first f.item bad.body refusal.place refusal.reason (subst (IsItem first f.item) same.0 is.begins.spelled) bad.refused
frame_not_ending first f more bytes (TooLong size) is long = whole_not_too_long bytes is.begins.body more size is.begins.short is.begins.cut long

same_malformed : (first : Bool) (bytes : List ℕ) (r s : Refusal) → IsMalformed first bytes r.place r.reason → IsMalformed first bytes s.place s.reason → ending_text (Malformed r) ≡ ending_text (Malformed s)
same_malformed first bytes r s p q =
    let same = one_whole bytes p.body q.body p.more q.more p.short q.short p.cut q.cut in
    let e = one_refusal_of first q.body r.place s.place r.reason s.reason (subst (λ (b : List ℕ). RefusedItem first b r.place r.reason) same.0 p.refused) q.refused in
    rw (e.0, e.1) refl

-- bytes have one last line
one_ending : (first : Bool) (d e : Ending) (bytes : List ℕ) → IsEnding first d bytes → IsEnding first e bytes → ending_text d ≡ ending_text e
one_ending first Finished Finished bytes p q = refl
one_ending first Finished (CutShort count) bytes p q = absurd (q.0.some p)
one_ending first Finished (Malformed refusal) bytes p q = absurd (whole_some bytes q.body q.more q.cut p)
one_ending first Finished (TooLong size) bytes p q = absurd (long_some bytes size q p)
one_ending first (CutShort count) Finished bytes p q = absurd (p.0.some q)
one_ending first (CutShort count) (CutShort other) bytes p q = let e : count ≡ other = p.1 ∙ sym q.1 in rw e refl
one_ending first (CutShort count) (Malformed refusal) bytes p q = absurd (whole_not_cut bytes q.body q.more q.short q.cut p.0)
one_ending first (CutShort count) (TooLong size) bytes p q = absurd (p.0.within size q)
one_ending first (Malformed refusal) Finished bytes p q = absurd (whole_some bytes p.body p.more p.cut q)
one_ending first (Malformed refusal) (CutShort count) bytes p q = absurd (whole_not_cut bytes p.body p.more p.short p.cut q.0)
one_ending first (Malformed refusal) (Malformed other) bytes p q = same_malformed first bytes refusal other p q
one_ending first (Malformed refusal) (TooLong size) bytes p q = absurd (whole_not_too_long bytes p.body p.more size p.short p.cut q)
one_ending first (TooLong size) Finished bytes p q = absurd (long_some bytes size p q)
one_ending first (TooLong size) (CutShort count) bytes p q = absurd (q.0.within size p)
one_ending first (TooLong size) (Malformed refusal) bytes p q = absurd (whole_not_too_long bytes q.body q.more size q.short q.cut p)
one_ending first (TooLong size) (TooLong other) bytes p q = let e = one_too_long client_limit bytes size other p q in rw e refl

-- All of them

pub one_text : (fs gs : List Frame) (number place : ℕ) (d e : Ending) (bytes : List ℕ) → AreFrames number fs d bytes → AreFrames number gs e bytes → frames_text number place fs d ≡ frames_text number place gs e
unfolding AreFrames frames_text
one_text [] [] number place d e bytes p q = one_ending (number == 0) d e bytes p q
one_text [] (g ∷ gs) number place d e bytes p q = absurd (frame_not_ending (number == 0) g q.0 bytes d q.1 p)
one_text (f ∷ fs) [] number place d e bytes p q = absurd (frame_not_ending (number == 0) f p.0 bytes e p.1 q)
one_text (f ∷ fs) (g ∷ gs) number place d e bytes p q =
    let same = one_whole bytes p.1.begins.body q.1.begins.body p.0 q.0 p.1.begins.short q.1.begins.short p.1.begins.cut q.1.begins.cut in
    let size : f.size ≡ g.size = p.1.size_is ∙ ap length same.0 ∙ sym q.1.size_is in
    let item : f.item ≡ g.item = one_item (number == 0) f.item g.item q.1.begins.body (subst (IsItem (number == 0) f.item) same.0 p.1.begins.spelled) q.1.begins.spelled in
    let rest = one_text fs gs (number + 1) (place + 4 + g.size) d e q.0 (subst (AreFrames (number + 1) fs d) same.1 p.2) q.2 in
    rw (size, item, rest) refl

pub one_show : (bytes a b : List ℕ) → IsShown bytes a → IsShown bytes b → a ≡ b
one_show bytes a b p q = p.text_is ∙ one_text p.frames q.frames 0 0 p.ending q.ending bytes p.are q.are ∙ sym q.text_is
