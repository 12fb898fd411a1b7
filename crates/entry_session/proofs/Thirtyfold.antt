-- What a session hands up has at most 30 times the bytes of what its client sent.
use Rattle.std.proofs.Common.{◌≡◌, ℕ, zero, suc, ℤ, ◌≤◌, ◌*◌, Bool, true, false, List, [], ◌∷◌, ◌++◌, Some, None, length, refl, sym, ap, subst, ◌∙◌, arith, append_assoc, append-nil}
use Rattle.std.specs.Prelude.{All}
use Rattle.std.specs.List.{AllZip}
use Rattle.std.proofs.lemmas.List.Elements.{All-nil, All-push}
use Rattle.std.proofs.lemmas.Slice.Zip.{all_zipped_more}
use Rattle.jute_core.proofs.SameSpelling.{same_bytes}
use Rattle.payload_seal.specs.Ivs.{Ivs}
use Rattle.payload_seal.specs.declared.keys.EntryKeys.{EntryKeys}
use Rattle.request_rewrite.specs.Ivs.{ivs_from, iv_after}
use Rattle.request_rewrite.proofs.Growth.{grows_by_thirty}
use Rattle.zk_messages.specs.Items.{IsItem}
use Rattle.zk_messages.specs.Requests.{SpellsRequest}
use Rattle.zk_messages.specs.Sent.{is_first}
use Rattle.zk_messages.specs.declared.request.Item.{Item}
use Rattle.zk_messages.specs.declared.request.Item.TheVariants as items
use Rattle.entry_session.specs.ClientTurns.{VeilsItem, source_at, ClientTurn, malformed_frame, full_queue, spent_ivs, handed_up}
use Rattle.entry_session.specs.Heard.{Heard, from_client, from_store, bad_client, bad_store, given, client_frames}
use Rattle.entry_session.specs.Laws.{HandsUpThirtyfold}
use Rattle.entry_session.specs.Runs.{TurnOf, Ran}
use Rattle.entry_session.specs.Stands.{Stand}
use Rattle.entry_session.specs.declared.ending.Ending.{Ending}
use Rattle.entry_session.proofs.Turns.{SameUp, goes, some_none, end_up, store_up}

-- ---- the IVs of a source

pub ivs_of_twelve : (source : Ivs) (n : ℕ) → All (λ iv. length iv ≡ 12) (ivs_from source n)
unfolding ivs_from
ivs_of_twelve source zero = All-nil (λ iv. length iv ≡ 12)
ivs_of_twelve source (suc n) = All-push (λ iv. length iv ≡ 12) (ivs_from source n) (iv_after source n) (ivs_of_twelve source n) refl

-- ---- one item

abbrev AtMostThirtyfold : List ℕ → List ℕ → Type 0
AtMostThirtyfold body out = length out ≤ 30 * length body

item_grown : (k : EntryKeys) (source : Ivs) (n : ℕ) (first : Bool) (i v : Item) (body out : List ℕ) → IsItem first i body → VeilsItem k source n i v → IsItem first v out → AtMostThirtyfold body out
unfolding VeilsItem
item_grown k source n true (items.Asks asked) v body out f g h =
    let same = same_bytes _ _ out body (subst (λ (w : Item). IsItem true w out) g h) f in
    omega (arith, ap length same)
item_grown k source n true (items.Requests xid r) v body out f g h = absurd f
item_grown k source n false (items.Asks asked) v body out f g h = absurd f
item_grown k source n false (items.Requests xid r) (items.Asks asked) body out f g h = absurd g
item_grown k source n false (items.Requests xid r) (items.Requests x v) body out f g h =
    grows_by_thirty k (ivs_from source n) xid r v body out (ivs_of_twelve source n) g.1 f (subst (λ (z : ℤ). SpellsRequest z v out) g.0 h)

-- ---- what a session hands up

-- what was heard of the client, of which more was heard only where the session ended there
record Grown (hs : List Heard) (s : Stand) : Type 0 where
  heard : List (List ℕ)
  others : List (List ℕ)
  first : client_frames hs ≡ heard ++ others
  each : AllZip AtMostThirtyfold heard s.up
  all : s.ending ≡ None → others ≡ []

stopped : (e : Ending) {A : Type 0} → Some e ≡ None → A
stopped e h = absurd (some_none e h)

behind : (hs : List Heard) (heard others : List (List ℕ)) (body : List ℕ) → client_frames hs ≡ heard ++ others → client_frames hs ++ body ∷ [] ≡ heard ++ (others ++ body ∷ [])
behind hs heard others body e = ap (λ (l : List (List ℕ)). l ++ body ∷ []) e ∙ append_assoc heard others (body ∷ [])

-- a frame more of the client
client_grown : (k : EntryKeys) (boot c : ℕ) (hs : List Heard) (old : Stand) (body : List ℕ) (new : Stand) → old.ending ≡ None → Grown hs old → ClientTurn k boot c old body new → Grown (from_client body ∷ hs) new
unfolding client_frames
client_grown k boot c hs old body new going g (malformed_frame refusal f) = record { heard = g.heard; others = g.others ++ body ∷ []; first = behind hs g.heard g.others body g.first; each = g.each; all = stopped _ }
client_grown k boot c hs old body new going g (full_queue i f h) = record { heard = g.heard; others = g.others ++ body ∷ []; first = behind hs g.heard g.others body g.first; each = g.each; all = stopped _ }
client_grown k boot c hs old body new going g (spent_ivs i n f h p m) = record { heard = g.heard; others = g.others ++ body ∷ []; first = behind hs g.heard g.others body g.first; each = g.each; all = stopped _ }
client_grown k boot c hs old body new going g (handed_up i v n out f h p m q o) = record {
  heard = g.heard ++ body ∷ [];
  others = [];
  first = ap (λ (l : List (List ℕ)). l ++ body ∷ []) (g.first ∙ ap (λ (l : List (List ℕ)). g.heard ++ l) (g.all going) ∙ append-nil g.heard) ∙ sym (append-nil (g.heard ++ body ∷ []));
  each = all_zipped_more AtMostThirtyfold g.heard old.up body out g.each (item_grown k (source_at k boot c old.sealed) n (is_first old.items) i v body out f q o);
  all = λ e. refl;
}

-- what leaves what was handed up, and is no frame of the client
other_grown : (hs more : List Heard) (old new : Stand) → client_frames more ≡ client_frames hs → old.ending ≡ None → SameUp old new → Grown hs old → Grown more new
other_grown hs more old new same going up g = record {
  heard = g.heard;
  others = g.others;
  first = same ∙ g.first;
  each = subst (λ (l : List (List ℕ)). AllZip AtMostThirtyfold g.heard l) (sym up.up_is) g.each;
  all = λ e. g.all going;
}

turn_grown : (k : EntryKeys) (boot c : ℕ) (hs : List Heard) (old : Stand) (h : Heard) (new : Stand) → old.ending ≡ None → Grown hs old → TurnOf k boot c old h new → Grown (h ∷ hs) new
unfolding TurnOf client_frames
turn_grown k boot c hs old (from_client body) new going g t = client_grown k boot c hs old body new going g t.1
turn_grown k boot c hs old (from_store body) new going g t = other_grown hs (from_store body ∷ hs) old new refl going (store_up k c old body new old.items old.answered t.1) g
turn_grown k boot c hs old (bad_client z) new going g t = other_grown hs (bad_client z ∷ hs) old new refl going (end_up old new _ t.1) g
turn_grown k boot c hs old (bad_store z) new going g t = other_grown hs (bad_store z ∷ hs) old new refl going (end_up old new _ t.1) g
turn_grown k boot c hs old (given e) new going g t = other_grown hs (given e ∷ hs) old new refl going (end_up old new e t.1) g

grown : (k : EntryKeys) (boot c : ℕ) (hs : List Heard) (s : Stand) → Ran k boot c hs s → Grown hs s
unfolding Ran client_frames
grown k boot c [] s e = record { heard = []; others = []; first = refl; each = subst (λ (t : Stand). AllZip AtMostThirtyfold [] t.up) (sym e) tt; all = λ e. refl }
grown k boot c (h ∷ hs) s (old, ran, t) = let g = goes k boot c old h s t in turn_grown k boot c hs old h s g.going (grown k boot c hs old ran) g.turn

pub hands_up_thirtyfold : HandsUpThirtyfold
hands_up_thirtyfold k boot c hs s ran = let g = grown k boot c hs s ran in record { heard = g.heard; others = g.others; first = g.first; each = g.each }
