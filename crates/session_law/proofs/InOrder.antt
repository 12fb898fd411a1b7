-- What comes to one connection of a filled order begins with the answer to the connect request that was sent.
use Rattle.std.proofs.Common.{◌≡◌, ◌≢◌, ℕ, ℤ, negsuc, Bool, true, false, List, [], ◌∷◌, ◌++◌, sym, ap, subst, ◌∙◌}
use Rattle.payload_seal.specs.declared.keys.EntryKeys.{EntryKeys}
use Rattle.zk_records.specs.declared.connect.ConnectRequest.{ConnectRequest}
use Rattle.zk_records.specs.declared.connect.ConnectResponse.{ConnectResponse}
use Rattle.zk_messages.specs.Items.{IsItem}
use Rattle.zk_messages.specs.declared.request.Item.{Item}
use Rattle.zk_messages.specs.declared.request.Item.TheVariants as items
use Rattle.tree_state.specs.State.{start}
use Rattle.tree_state.specs.Step.{Act}
use Rattle.store_side.proofs.Zipping.{Zips}
use Rattle.sealed_machine.specs.Runs.{Question, all_asked}
use Rattle.entry_session.specs.StoreTurns.{IsOfForm}
use Rattle.session_law.proofs.Words.{AreAsked, IsBegun, IsOrderly, unheard, heard}
use Rattle.session_law.proofs.Orders.{Entry}
use Rattle.session_law.proofs.Filling.{SpellsItems, SealsItem, items_in}
use Rattle.session_law.proofs.Begun.{XidsFit, Phase, none_yet, begun}

-- ---- xids of what was sent

nothing_fits : XidsFit []
unfolding XidsFit
nothing_fits = tt

item_fits : (i : Item) (is : List Item) (b : List ℕ) (first : Bool) → IsItem first i b → XidsFit is → XidsFit (i ∷ is)
unfolding XidsFit
item_fits (items.Asks asked) is b first h x = x
item_fits (items.Requests xid r) is b true h x = absurd h
item_fits (items.Requests xid r) is b false h x = (h.may.0, x)

pub spelled_fit : (first : Bool) (vs : List Item) (bs : List (List ℕ)) → SpellsItems first vs bs → XidsFit vs
unfolding SpellsItems
spelled_fit first [] bs h = nothing_fits
spelled_fit first (v ∷ vs) [] h = absurd h
spelled_fit first (v ∷ vs) (b ∷ bs) h = item_fits v vs b first h.0 (spelled_fit false vs bs h.1)

pub sealed_fit : (k : EntryKeys) (is vs : List Item) → Zips (SealsItem k) is vs → XidsFit vs → XidsFit is
unfolding Zips SealsItem XidsFit
sealed_fit k [] vs h x = tt
sealed_fit k (i ∷ is) [] h x = absurd h
sealed_fit k (items.Asks a ∷ is) (items.Asks b ∷ vs) h x = sealed_fit k is vs h.1 x
sealed_fit k (items.Asks a ∷ is) (items.Requests xid r ∷ vs) h x = sealed_fit k is vs h.1 x.1
sealed_fit k (items.Requests xid r ∷ is) (items.Asks b ∷ vs) h x = absurd h.0
sealed_fit k (items.Requests xid r ∷ is) (items.Requests number v ∷ vs) h x = (subst (λ (z : ℤ). z ≢ negsuc 0) h.0.0 x.0, sealed_fit k is vs h.1 x.1)

pub front_fit : (is more : List Item) → XidsFit (is ++ more) → XidsFit is
unfolding XidsFit
front_fit [] more x = tt
front_fit (items.Asks a ∷ is) more x = front_fit is more x
front_fit (items.Requests xid r ∷ is) more x = (x.0, front_fit is more x.1)

-- ---- order

asked_more : (qs : List Question) (is more : List Item) → AreAsked qs is → AreAsked qs (is ++ more)
unfolding AreAsked
asked_more [] is more h = tt
asked_more (q ∷ qs) [] more h = absurd h
asked_more (q ∷ qs) (items.Asks a ∷ is) more h = absurd h
asked_more (q ∷ qs) (items.Requests xid r ∷ is) more h = (h.0, h.1, h.2, asked_more qs is more h.3)

begins_as : (r : ConnectResponse) (qs : List Question) (asked : ConnectRequest) (is more sent : List Item) → sent ≡ (items.Asks asked ∷ is) ++ more → IsOfForm asked r → AreAsked qs is → IsBegun r qs sent
unfolding IsBegun
begins_as r qs asked is more sent e f a = subst (IsBegun r qs) (sym e) (f, asked_more qs is more a)

pub orderly : (c : ℕ) (es : List Entry) (fs : List Act) (sent more : List Item) → sent ≡ items_in c es ++ more → Phase c start es fs → IsOrderly c fs sent
orderly c es fs sent more e (none_yet h) = unheard h
orderly c es fs sent more e (begun asked is r ms i form o q a) = heard r ms o q (begins_as r (all_asked c start fs) asked is more sent (e ∙ ap (λ (l : List Item). l ++ more) i) form a)
