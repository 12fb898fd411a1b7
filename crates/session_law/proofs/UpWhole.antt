-- What is handed up are whole frames: a body of a client's frame becomes one of at most 30 times its bytes.
use Rattle.std.proofs.Common.{◌≡◌, ℕ, ℤ, ◌≤◌, ◌<◌, ◌^◌, ◌*◌, Bool, true, false, List, [], ◌∷◌, length, ap, subst, arith}
use Rattle.jute_core.specs.Frames.{FitsFrame}
use Rattle.payload_seal.specs.Ivs.{Ivs}
use Rattle.payload_seal.specs.declared.keys.EntryKeys.{EntryKeys}
use Rattle.zk_messages.specs.Items.{IsItem}
use Rattle.zk_messages.specs.Sent.{client_limit}
use Rattle.zk_messages.specs.declared.request.Item.{Item}
use Rattle.zk_messages.specs.declared.request.Item.TheVariants as items
use Rattle.zk_messages.specs.declared.request.Request.{Request}
use Rattle.zk_messages.specs.Requests.{SpellsRequest}
use Rattle.request_rewrite.specs.Ivs.{ivs_from}
use Rattle.request_rewrite.specs.Veil.{Veil}
use Rattle.request_rewrite.proofs.Growth.{grows_by_thirty}
use Rattle.entry_session.specs.ClientTurns.{VeilsItem}
use Rattle.entry_session.specs.Heard.{Heard}
use Rattle.entry_session.specs.Runs.{Ran}
use Rattle.entry_session.specs.Stands.{Stand}
use Rattle.entry_session.specs.Veiled.{SpellsItems}
use Rattle.entry_session.proofs.HandedUp.{VeilsUpTo, handed}
use Rattle.entry_session.proofs.OneItem.{one_body}
use Rattle.entry_session.proofs.SentItems.{AreWithin, items_sent}
use Rattle.session_law.proofs.Words.{AreWhole}
use Rattle.session_law.proofs.Filling.{ivs_twelve}

small_fits : (m n : ℕ) → m ≤ client_limit → n ≤ 30 * m → n < 2 ^ 31
small_fits m n h j = omega (arith, h, j)

request_fits : (k : EntryKeys) (s : Ivs) (n : ℕ) (xid number : ℤ) (r v : Request) (b u : List ℕ) → number ≡ xid → Veil k (ivs_from s n) r v → SpellsRequest xid r b → SpellsRequest number v u → length b ≤ client_limit → FitsFrame u
request_fits k s n xid number r v b u e h spelled out within =
    small_fits (length b) (length u) within (grows_by_thirty k (ivs_from s n) xid r v b u (ivs_twelve s n) h spelled (subst (λ (z : ℤ). SpellsRequest z v u) e out))

item_fits : (k : EntryKeys) (s : Ivs) (n : ℕ) (first : Bool) (i v : Item) (b u : List ℕ) → VeilsItem k s n i v → IsItem first i b → IsItem first v u → length b ≤ client_limit → FitsFrame u
unfolding VeilsItem
item_fits k s n first (items.Asks a) v b u h spelled out within = same_fits b u (one_body first (items.Asks a) b u spelled (subst (λ (x : Item). IsItem first x u) h out)) within
  where
    same_fits : (b u : List ℕ) → b ≡ u → length b ≤ client_limit → FitsFrame u
    same_fits b u e l = omega (arith, l, ap length e)
item_fits k s n true (items.Requests xid r) v b u h spelled out within = absurd spelled
item_fits k s n false (items.Requests xid r) (items.Asks a) b u h spelled out within = absurd h
item_fits k s n false (items.Requests xid r) (items.Requests number v) b u h spelled out within = request_fits k s n xid number r v b u h.0 h.1 spelled out within

all_fit : (k : EntryKeys) (boot c sealed end : ℕ) (first : Bool) (is vs : List Item) (bodies up : List (List ℕ)) → VeilsUpTo k boot c sealed is vs end → SpellsItems first is bodies → AreWithin bodies → SpellsItems first vs up → AreWhole up
unfolding VeilsUpTo SpellsItems AreWithin AreWhole
all_fit k boot c sealed end first [] [] bodies [] h i w o = tt
all_fit k boot c sealed end first [] [] bodies (u ∷ up) h i w o = absurd o
all_fit k boot c sealed end first [] (v ∷ vs) bodies up h i w o = absurd h
all_fit k boot c sealed end first (i ∷ is) [] bodies up h j w o = absurd h
all_fit k boot c sealed end first (i ∷ is) (v ∷ vs) [] up h j w o = absurd j
all_fit k boot c sealed end first (i ∷ is) (v ∷ vs) (b ∷ bodies) [] h j w o = absurd o
all_fit k boot c sealed end first (i ∷ is) (v ∷ vs) (b ∷ bodies) (u ∷ up) h j w o = (item_fits k _ h.1.count first i v b u h.1.veils j.0 o.0 w.0, all_fit k boot c h.0 end false is vs bodies up h.2 j.1 w.1 o.1)

pub up_whole : (k : EntryKeys) (boot c : ℕ) (hs : List Heard) (s : Stand) → Ran k boot c hs s → AreWhole s.up
up_whole k boot c hs s ran =
    let h = handed k boot c hs s ran in
    let x = items_sent k boot c hs s ran in
    all_fit k boot c 0 s.sealed true s.items h.veiled x.bodies s.up h.each x.spelled x.within h.spelled
