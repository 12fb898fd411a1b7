-- What a connection that is joined to a store that follows comes to.
use Rattle.std.proofs.Common.{◌≡◌, ℕ, suc, Bool, true, false, List, [], ◌∷◌, ◌++◌, Option, Some, length, refl, sym, ap, subst, ◌∙◌, arith, append_assoc, append-nil}
use Rattle.payload_seal.specs.declared.keys.EntryKeys.{EntryKeys}
use Rattle.zk_messages.specs.declared.request.Item.{Item}
use Rattle.tree_state.specs.declared.message.Message.{Message}
use Rattle.tree_state.specs.State.{start}
use Rattle.tree_state.specs.Plain.{plain}
use Rattle.tree_state.specs.Step.{Act}
use Rattle.store_side.specs.Messages.{Messages}
use Rattle.store_side.specs.Out.{out}
use Rattle.store_side.specs.Past.{Past, is_over}
use Rattle.store_side.specs.declared.entry.Entry.{Entry}
use Rattle.store_side.proofs.Zipping.{Zips}
use Rattle.sealed_machine.specs.Runs.{all_asked}
use Rattle.entry_session.specs.Heard.{store_frames, bad_of_store}
use Rattle.entry_session.specs.Veiled.{SpellsItems}
use Rattle.entry_session.specs.declared.ending.Ending.TheVariants as endings
use Rattle.entry_session.proofs.HandedUp.{VeilsUpTo, whole_veiled}
use Rattle.entry_session.proofs.HandedDown.{hands_down}
use Rattle.entry_session.specs.Laws.{IsStopped}
use Rattle.entry_session.specs.Sides.{EndsAtStore}
use Rattle.entry_session.specs.declared.ending.Ending.{Ending}
use Rattle.store_side.specs.Fill.{items_in}
use Rattle.entry_session.specs.Runs.{IsGivenEnding}
use Rattle.session_law.specs.Law.{IsHonestEnd, Connection, IsJoined, IsServed, VeilsEntry, taken_at, AreBehind}
use Rattle.session_law.proofs.Filling.{same_number}
use Rattle.session_law.proofs.Closing.{Closing}
use Rattle.session_law.proofs.Ends.{closed_ends}
use Rattle.session_law.proofs.Pieces.{AreWhole, Received, received, no_frames, whole_back, messages_none_bytes}
use Rattle.session_law.proofs.SessionSides.{whole_frames, all_heard}
use Rattle.session_law.proofs.Told.{IsTold}
use Rattle.session_law.proofs.UpWhole.{up_whole}
use Rattle.session_law.proofs.Joined.{up_of, cut_of, taken_of, takes_of}

-- ---- lists

-- of two fronts of one list that are as long, each is the other
same_front : {A : Type 0} (xs ys as_ bs : List A) → xs ++ as_ ≡ ys ++ bs → length xs ≡ length ys → xs ≡ ys
same_front [] [] as_ bs e l = refl
same_front [] (y ∷ ys) as_ bs e l = absurd (omega (arith, l))
same_front (x ∷ xs) [] as_ bs e l = absurd (omega (arith, l))
same_front (x ∷ xs) (y ∷ ys) as_ bs e l = let more = same_front xs ys as_ bs (let t : xs ++ as_ ≡ ys ++ bs = cc in t) (omega (arith, l)) in cc

veiled_many : (k : EntryKeys) (boot c sealed end : ℕ) (is vs : List Item) → VeilsUpTo k boot c sealed is vs end → length vs ≡ length is
unfolding VeilsUpTo
veiled_many k boot c sealed end [] [] h = refl
veiled_many k boot c sealed end [] (v ∷ vs) h = absurd h
veiled_many k boot c sealed end (i ∷ is) [] h = absurd h
veiled_many k boot c sealed end (i ∷ is) (v ∷ vs) h = ap suc (veiled_many k boot c h.0 end is vs h.2)

spelled_many : (first : Bool) (vs : List Item) (bs : List (List ℕ)) → SpellsItems first vs bs → length vs ≡ length bs
unfolding SpellsItems
spelled_many first [] [] h = refl
spelled_many first [] (b ∷ bs) h = absurd h
spelled_many first (v ∷ vs) [] h = absurd h
spelled_many first (v ∷ vs) (b ∷ bs) h = ap suc (spelled_many false vs bs h.1)

-- ---- endings

-- an honest session stopped at no frame of the store
not_stopped : (ending : Option Ending) → IsHonestEnd ending → IsStopped ending → ⊥
unfolding IsHonestEnd IsStopped IsGivenEnding
not_stopped (Some (endings.StoreMalformed refusal)) h s = h
not_stopped (Some (endings.WrongXid expected got)) h s = h
not_stopped (Some (endings.NothingOpen xid)) h s = h
not_stopped (Some (endings.BadEvent flaw)) h s = h
not_stopped ending h s = s

-- ---- all that the store told

-- where nothing waits, and the session ended at no frame of the store, it heard all of it
heard_all : (k : EntryKeys) (boot c : ℕ) (past : Past) (x : Connection) (items : List Item) (under_way unfed : List ℕ) (j : IsJoined k boot c past x items under_way unfed) → Messages (past.told c) (past.pulled c ++ past.waiting c) → (EndsAtStore x.stand.ending x.heard → ⊥) → past.waiting c ≡ [] → length (past.told c) ≡ length (store_frames x.heard)
heard_all k boot c past x items under_way unfed j m going none =
    all_heard (past.told c) (store_frames x.heard) (bad_of_store x.heard) (EndsAtStore x.stand.ending x.heard) (past.pulled c) (past.waiting c) (whole_frames k boot c x.heard x.stand j.ran) m j.store_side going none

-- ---- all that was handed up

-- where all was fed and the store's side goes on, it took all of it
took_all : (k : EntryKeys) (boot c : ℕ) (past : Past) (x : Connection) (items : List Item) (under_way unfed : List ℕ) (j : IsJoined k boot c past x items under_way unfed) → unfed ≡ [] → is_over past c ≡ false → length (items_in c past.order) ≡ length x.stand.items
took_all k boot c past x items under_way unfed j fed over =
    let up = up_of k boot c past x items under_way unfed j in
    let cut = cut_of k boot c past x items under_way unfed j in
    let none : cut.rest ≡ [] = no_frames cut.rest j.partial (whole_back (j.bodies ++ j.more) cut.rest (subst AreWhole cut.cut (up_whole k boot c x.heard x.stand j.ran))) (cut.bytes ∙ (λ i. j.partial ++ fed i) ∙ append-nil j.partial) j.stream.partial in
    let all : x.stand.up ≡ j.bodies = cut.cut ∙ (λ i. (j.bodies ++ j.none_left over i) ++ none i) ∙ append-nil (j.bodies ++ []) ∙ append-nil j.bodies in
    spelled_many true (items_in c past.order) j.bodies j.spelled ∙ sym (ap length all) ∙ sym (spelled_many true up.veiled x.stand.up up.spelled) ∙ veiled_many k boot c 0 x.stand.sealed x.stand.items up.veiled up.each

-- ---- served

module _ (k : EntryKeys) (boot c : ℕ) (past : Past) (x : Connection) (items : List Item) (under_way unfed : List ℕ) (j : IsJoined k boot c past x items under_way unfed) (plain_order : List Entry) (acts : List Act)
    (veils : Zips (VeilsEntry k) plain_order past.order) (front : (more : List Item) × (x.stand.items ≡ items_in c plain_order ++ more))
    (spelled : Messages (past.told c) (past.pulled c ++ past.waiting c)) (told : IsTold k (all_asked c start acts) (out plain acts c) (past.told c) x.heard x.stand) (closing : Closing c start plain_order acts)
    (bytes : List ℕ) (plain_spelled : Messages (out plain acts c) bytes) (turn : AreBehind (taken_at plain start c 0 acts) x.heard) where
  abbrev down : Received told.left x.stand.down bytes
  down = received told.done told.left x.stand.down bytes told.down (subst (λ (l : List Message). Messages l bytes) told.front plain_spelled)

  nothing_left : told.left ≡ [] → down.rest ≡ []
  nothing_left e = messages_none_bytes told.left down.rest e down.after

  pub served : IsServed k boot c past plain_order acts x items under_way unfed
  served =
      let up = up_of k boot c past x items under_way unfed j in
      let taken = taken_of k boot c past x items under_way unfed j in
      let takes = takes_of k boot c past x items under_way unfed j in
      record {
        left = down.rest;
        received = subst (Messages (out plain acts c)) down.cut plain_spelled;
        in_turn = turn;
        one_for_one = (hands_down k boot c x.heard x.stand j.ran).others (not_stopped x.stand.ending told.honest);
        nothing_found = told.none;
        honest = told.honest;
        kept = record { more = takes.more; is = takes.first };
        veiled = up.veiled;
        each = whole_veiled k boot c 0 x.stand.sealed x.stand.items up.veiled up.each;
        as_many = veiled_many k boot c 0 x.stand.sealed x.stand.items up.veiled up.each;
        spelled = up.spelled;
        taken_up = record { more = taken.0; is = taken.1 };
        filled_with = record { more = front.0 ++ takes.more; is = takes.first ∙ ap (λ (l : List Item). l ++ takes.more) front.1 ∙ append_assoc (items_in c plain_order) front.0 takes.more };
        all_received = λ going none. nothing_left (told.all (heard_all k boot c past x items under_way unfed j spelled going none));
        all_handed_up = takes.all;
        all_taken = λ fed over.
            same_front (items_in c plain_order) x.stand.items front.0 [] (sym front.1 ∙ sym (append-nil x.stand.items)) (same_number k c plain_order past.order veils ∙ took_all k boot c past x items under_way unfed j fed over);
        closed = λ e.
            let l = told.closed e in
            let ends = closed_ends k c start plain_order acts l.before l.last l.open_ told.done told.left l.to_come closing l.closes l.asked told.front l.talks in
            (nothing_left ends.nothing_left, ends.ends);
      }
