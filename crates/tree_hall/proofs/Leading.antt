-- A history goes on by what a store did.
use Rattle.std.proofs.Common.{◌≡◌, ℕ, List, [], ◌∷◌, ◌++◌, sym, ap, ◌∙◌, subst, Some, Result}
use Rattle.store_side.specs.Past.{Past as Went}
use Rattle.store_side.specs.declared.ending.StoreEnding.{StoreEnding}
use Rattle.tree_hall.specs.declared.act.Act.{Act}
use Rattle.tree_hall.specs.declared.act.Answer.{Answer}
use Rattle.tree_hall.specs.declared.act.Call.{Call}
use Rattle.tree_hall.specs.declared.view.Item.{Item}
use Rattle.tree_hall.specs.declared.view.View.{View}
use Rattle.tree_hall.specs.declared.view.Desk.{Desk}
use Rattle.tree_hall.specs.Histories.{Allows, LeadsTo, Named, Knows, item}
use Rattle.tree_hall.specs.Turns.{Sat, HasStore, item_of}
use Rattle.tree_hall.proofs.Histories.{played-snoc}
use Rattle.tree_hall.proofs.Admitting.{knows}
use Rattle.tree_hall.proofs.Keeps.{desk_of}

leads_on : (opened stood stood' : Went → Type 0) (history : List Item) (by : ℕ) (act : Act) (result : Result Answer StoreEnding) → LeadsTo opened history stood → Named history act
    → ((past : Went) → stood past → Knows past act → (new : Went) × Allows past act result new × stood' new) → LeadsTo opened (history ++ item by act result ∷ []) stood'
leads_on opened stood stood' history by act result leads named performs past o =
    let l = leads past o in
    let n = performs l.0 l.2 (knows past l.0 history act l.1 named) in
    (n.0, played-snoc past history (item by act result) l.0 n.0 l.1 n.1, n.2)

module _ {S : Type 0} (stands : S → Went → Type 0) (opened : Went → Type 0) where
  -- the seat at m took the desk z out and laid d in its place, after the store did the act and told of connections
  pub leads_served : (m out back : Sat S) (z made d : Desk S) (acted : S) (act : Act) (result : Result Answer StoreEnding) → HasStore stands opened m
      → m.1 ≡ (0, Some z) ∷ [] → out.0 ≡ m.0 → back.0 ≡ out.0 → Named m.0.seen act
      → ((past : Went) → stands z.store past → Knows past act → (new : Went) × Allows past act result new × stands acted new)
      → ((past : Went) → stands acted past → stands made.store past) → made.call.value ≡ record { act = act; result = result } → d ≡ made
      → LeadsTo opened (back.0.seen ++ item_of back.0.number d ∷ []) (stands d.store)
  leads_served m out back z made d acted act result has taken lifted laid named performs heard call is =
      let same : has.0 ≡ z = ap (desk_of z) (sym has.1 ∙ taken) in
      let stood : LeadsTo opened m.0.seen (stands z.store) = subst (λ (y : Desk S). LeadsTo opened m.0.seen (stands y.store)) same has.2 in
      let on = leads_on opened (stands z.store) (stands made.store) m.0.seen m.0.number act result stood named
      (λ past s k. let n = performs past s k in (n.0, n.1, heard n.0 n.2)) in
      subst (λ (q : View × Desk S). LeadsTo opened (q.0.seen ++ item_of q.0.number q.1 ∷ []) (stands q.1.store)) (λ i. (sym (laid ∙ lifted) i, sym is i))
      (subst (λ (k : Call). LeadsTo opened (m.0.seen ++ record { by = m.0.number; call = k } ∷ []) (stands made.store)) (sym call) on)
