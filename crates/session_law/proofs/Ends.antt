-- Where a session was closed, nothing is left of what the plain machine sends it, and the order has a closeSession last.
use Rattle.std.proofs.Common.{◌≡◌, ◌⊎◌, ℕ, ℤ, List, [], ◌∷◌, ◌++◌, inl, inr, sym, ap, subst, ◌∙◌, append_assoc}
use Rattle.payload_seal.specs.declared.keys.EntryKeys.{EntryKeys}
use Rattle.request_queue.specs.declared.asked.Asked.TheVariants as asks
use Rattle.zk_messages.specs.declared.reply.Event.{Event}
use Rattle.zk_messages.specs.declared.reply.Reply.{Reply}
use Rattle.zk_messages.specs.declared.request.Item.{Item}
use Rattle.zk_messages.specs.declared.request.Item.TheVariants as items
use Rattle.zk_messages.specs.declared.request.Request.{Request}
use Rattle.zk_messages.specs.declared.request.Request.TheVariants as requests
use Rattle.tree_state.specs.declared.message.Message.{Message}
use Rattle.tree_state.specs.declared.message.Message.TheVariants as messages
use Rattle.tree_state.specs.State.{State}
use Rattle.tree_state.specs.Plain.{plain}
use Rattle.tree_state.specs.Step.{Act}
use Rattle.store_side.specs.Out.{outputs, to_connection}
use Rattle.sealed_machine.specs.Runs.{Question, Talks, silent, told_event, told_reply, told_session, all_asked}
use Rattle.store_side.specs.Fill.{EndsInClose}
use Rattle.session_law.proofs.Orders.{Entry}
use Rattle.session_law.proofs.Filling.{items_in}
use Rattle.session_law.proofs.Closing.{NoneCloses, Closing, stays_open, is_closed}

-- ---- lists

nothing_more : {A : Type 0} (x : A) (xs : List A) (y : A) (ys : List A) → [] ≡ xs ++ y ∷ ys → ⊥
nothing_more x [] y ys e = absurd cc
nothing_more x (z ∷ xs) y ys e = absurd cc

heads : {A : Type 0} (x y : A) (xs ys : List A) → x ∷ xs ≡ y ∷ ys → x ≡ y
heads x y xs ys e = cc

tails : {A : Type 0} (x y : A) (xs ys : List A) → x ∷ xs ≡ y ∷ ys → xs ≡ ys
tails x y xs ys e = cc

-- of a list that ends in an item, the back is empty or ends in it
back_of : {A : Type 0} (z : A) (xs ys zs : List A) → xs ++ ys ≡ zs ++ z ∷ [] → (ys ≡ []) ⊎ ((ws : List A) × (ys ≡ ws ++ z ∷ []))
back_of z [] ys zs e = inr (zs, e)
back_of z (x ∷ xs) ys [] e = inl (no_back x z xs ys e)
  where
    empty_back : {A : Type 0} (xs ys : List A) → xs ++ ys ≡ [] → ys ≡ []
    empty_back [] ys e = e
    empty_back (x ∷ xs) ys e = absurd cc

    no_back : {A : Type 0} (x z : A) (xs ys : List A) → x ∷ (xs ++ ys) ≡ z ∷ [] → ys ≡ []
    no_back x z xs ys e = empty_back xs ys (tails x z (xs ++ ys) [] e)
back_of z (x ∷ xs) ys (w ∷ zs) e = back_of z xs ys zs (tails x w (xs ++ ys) (zs ++ z ∷ []) e)

-- ---- questions

closes_none : (xs : List Question) (q : Question) (ys : List Question) → NoneCloses (xs ++ q ∷ ys) → q.asked ≡ asks.Close → ⊥
unfolding NoneCloses
closes_none [] q ys h e = h.0 e
closes_none (x ∷ xs) q ys h e = closes_none xs q ys h.1 e

-- where only the last closes, what closes is the last
last_closes : (qs : List Question) (q : Question) (xs : List Question) (l : Question) (ys : List Question) → qs ++ q ∷ [] ≡ xs ++ l ∷ ys → NoneCloses qs → l.asked ≡ asks.Close → ys ≡ []
unfolding NoneCloses
last_closes [] q [] l ys e n c = sym (tails q l [] ys e)
last_closes [] q (x ∷ xs) l ys e n c = absurd (nothing_more q xs l ys (tails q x [] (xs ++ l ∷ ys) e))
last_closes (p ∷ qs) q [] l ys e n c = absurd (n.0 (ap (λ (x : Question). x.asked) (heads p l (qs ++ q ∷ []) ys e) ∙ c))
last_closes (p ∷ qs) q (x ∷ xs) l ys e n c = last_closes qs q xs l ys (tails p x (qs ++ q ∷ []) (xs ++ l ∷ ys) e) n.1 c

-- where nothing is open, no reply is left
no_reply : (k : EntryKeys) (ms ns : List Message) (qs : List Question) (before : List Message) (r : Reply) → Talks k qs ms ns → qs ≡ [] → ms ≡ before ++ messages.Reply r ∷ [] → ⊥
no_reply k ms ns qs before r silent e f = nothing_more (messages.Reply r) before (messages.Reply r) [] f
no_reply k ms ns qs before r (told_reply q a b qs' ms' ns' x i t) e f = absurd cc
no_reply k ms ns qs [] r (told_event a b q ms' ns' i t) e f = absurd (other_event a r (heads (messages.Event a) (messages.Reply r) ms' [] f))
  where
    other_event : (a : Event) (r : Reply) → messages.Event a ≡ messages.Reply r → ⊥
    other_event a r e = absurd cc
no_reply k ms ns qs (b ∷ before) r (told_event a c q ms' ns' i t) e f = no_reply k ms' ns' q before r t e (tails (messages.Event a) b ms' (before ++ messages.Reply r ∷ []) f)
no_reply k ms ns qs [] r (told_session a q ms' ns' t) e f = absurd cc
no_reply k ms ns qs (b ∷ before) r (told_session a q ms' ns' t) e f = no_reply k ms' ns' q before r t e (tails (messages.Connected a) b ms' (before ++ messages.Reply r ∷ []) f)

-- ---- the end

pub record Ended (c : ℕ) (es : List Entry) (left : List Message) : Type 0 where
  pub nothing_left : left ≡ []
  pub ends : EndsInClose (items_in c es)

ends_in_close : (is : List Item) (xid : ℤ) → EndsInClose (is ++ items.Requests xid requests.Close ∷ [])
unfolding EndsInClose
ends_in_close [] xid = tt
ends_in_close (items.Asks a ∷ []) xid = tt
ends_in_close (items.Requests x r ∷ []) xid = go r
  where
    go : (r : Request) → EndsInClose (items.Requests x r ∷ items.Requests xid requests.Close ∷ [])
    go requests.Close = tt
    go r = tt
ends_in_close (items.Asks a ∷ j ∷ is) xid = ends_in_close (j ∷ is) xid
ends_in_close (items.Requests x r ∷ j ∷ is) xid = go r (ends_in_close (j ∷ is) xid)
  where
    go : (r : Request) → EndsInClose (j ∷ is ++ items.Requests xid requests.Close ∷ []) → EndsInClose (items.Requests x r ∷ j ∷ is ++ items.Requests xid requests.Close ∷ [])
    go requests.Close h = h
    go r h = h

pub closed_ends : (k : EntryKeys) (c : ℕ) (s : State) (es : List Entry) (fs : List Act) (before : List Question) (last : Question) (open_ : List Question) (done left ns : List Message) → Closing c s es fs → last.asked ≡ asks.Close → all_asked c s fs ≡ (before ++ last ∷ []) ++ open_ → to_connection c (outputs plain s fs) ≡ done ++ left → Talks k open_ left ns → Ended c es left
closed_ends k c s es fs before last open_ done left ns (stays_open h) closes a o t = absurd (closes_none before last open_ (subst NoneCloses (a ∙ append_assoc before (last ∷ []) open_) h) closes)
closed_ends k c s es fs before last open_ done left ns (is_closed qs q ms r is xid asked none i out it) closes a o t =
    let nothing_open : open_ ≡ [] = last_closes qs q before last open_ (sym asked ∙ a ∙ append_assoc before (last ∷ []) open_) none closes in
    record {
      nothing_left = elim (back_of (messages.Reply r) done left ms (sym o ∙ out)) [ inl e ↦ e | inr e ↦ absurd (no_reply k left ns open_ e.0 r t nothing_open e.1) ];
      ends = subst EndsInClose (sym it) (ends_in_close is xid);
    }
