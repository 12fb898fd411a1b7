-- The law: over a store that follows, every connection that is joined to it is served.
use Rattle.std.proofs.Common.{◌≡◌, ℕ, ℤ, true, List, ◌++◌, length, ap, subst, ◌∙◌, append_assoc, sym}
use Rattle.std.specs.Prelude.{◌<◌}
use Rattle.path_seal.specs.Sealed.{AreKeys}
use Rattle.payload_seal.specs.declared.keys.EntryKeys.{EntryKeys}
use Rattle.zk_messages.specs.Sent.{Sent}
use Rattle.zk_messages.specs.declared.request.Item.{Item}
use Rattle.counter_enclave.specs.Enclave.{IsSealedName}
use Rattle.tree_state.specs.State.{start}
use Rattle.tree_state.specs.Trees.{IsNaming}
use Rattle.tree_state.specs.Plain.{plain}
use Rattle.tree_state.specs.Changes.{Naming}
use Rattle.store_side.specs.Out.{out}
use Rattle.store_side.specs.Orders.{LegalFrom, ConnectsOnce}
use Rattle.store_side.specs.Past.{Past}
use Rattle.store_side.specs.Follows.{Follows}
use Rattle.sealed_machine.specs.Runs.{Talks, all_asked}
use Rattle.sealed_machine.proofs.SealedSteps.{start_sealed}
use Rattle.sealed_machine.proofs.Connections.{all_match, all_told}
use Rattle.store_side.proofs.NoTrace.{start_none}
use Rattle.entry_session.specs.Laws.{TakesFirst}
use Rattle.entry_session.specs.Sides.{bytes_of}
use Rattle.entry_session.specs.Veiled.{SpellsItems}
use Rattle.entry_session.proofs.HandedUp.{HandedUp, handed}
use Rattle.entry_session.proofs.SentItems.{takes_what_was_sent}
use Rattle.store_side.specs.Fill.{Fills, items_in}
use Rattle.session_law.specs.Law.{Connection, IsJoined, taken_at, AreBehind}
use Rattle.session_law.proofs.InTurn.{told_behind, same_taken}
use Rattle.session_law.proofs.Words.{IsOrderly}
use Rattle.session_law.proofs.Orders.{PlainActs, plain_acts, legal_filled, connects_once}
use Rattle.session_law.proofs.Filling.{Filled, fill_all, fills_more, taken_front, all_sealed}
use Rattle.session_law.proofs.Begun.{XidsFit, before}
use Rattle.session_law.proofs.InOrder.{spelled_fit, sealed_fit, front_fit, orderly}
use Rattle.session_law.proofs.Closing.{Closing, closing}
use Rattle.session_law.proofs.Pieces.{BeginsWithFrames, cut_frames, whole_of_all}
use Rattle.session_law.proofs.UpWhole.{up_whole}
use Rattle.session_law.proofs.Told.{IsTold, orderly_told}

-- ---- one connection

-- what was handed up begins with the frames that the store took
module _ (k : EntryKeys) (boot c : ℕ) (past : Past) (x : Connection) (items : List Item) (under_way unfed : List ℕ) (j : IsJoined k boot c past x items under_way unfed) where
  pub up_of : HandedUp k boot c x.stand
  up_of = handed k boot c x.heard x.stand j.ran

  pub cut_of : BeginsWithFrames x.stand.up (j.bodies ++ j.more) (j.partial ++ unfed)
  cut_of = cut_frames x.stand.up (j.bodies ++ j.more) (j.partial ++ unfed) (up_whole k boot c x.heard x.stand j.ran) (whole_of_all (j.bodies ++ j.more) j.stream.each)
      (j.up ∙ ap (λ (l : List ℕ). l ++ unfed) j.stream.whole ∙ append_assoc (bytes_of (j.bodies ++ j.more)) j.partial unfed)

  pub taken_of : (rest : List Item) × (up_of.veiled ≡ items_in c past.order ++ rest)
  taken_of = taken_front true (items_in c past.order) up_of.veiled j.bodies (j.more ++ cut_of.rest) j.spelled
      (subst (λ (l : List (List ℕ)). SpellsItems true up_of.veiled l) (cut_of.cut ∙ append_assoc j.bodies j.more cut_of.rest) up_of.spelled)

  pub takes_of : TakesFirst x.heard x.stand under_way items
  takes_of = takes_what_was_sent k boot c x.heard x.stand j.came under_way items j.ran j.client_side (subst (λ (b : List ℕ). Sent b items) j.piped j.is_sent)

-- ---- all connections

module _ (k : EntryKeys) (w : AreKeys k.names) (some : 0 < length k.payloads) (boot : ℕ) (naming : Naming) (names : IsNaming (IsSealedName k.names) naming) (passwords : ℤ → List ℕ) (past : Past) (x : ℕ → Connection) (items : ℕ → List Item) (under_way unfed : ℕ → List ℕ)
    (follows : Follows naming passwords past) (j : (c : ℕ) → IsJoined k boot c past (x c) (items c) (under_way c) (unfed c)) where
  pub filled : Filled k past.order (λ c. (x c).stand.items)
  filled = fill_all k past.order (λ c. (x c).stand.items) (λ c. (up_of k boot c past (x c) (items c) (under_way c) (unfed c) (j c)).veiled) (record {
    seals = λ c. all_sealed k boot c 0 (x c).stand.sealed (x c).stand.items _ some (up_of k boot c past (x c) (items c) (under_way c) (unfed c) (j c)).each;
    front = λ c. taken_of k boot c past (x c) (items c) (under_way c) (unfed c) (j c);
  })

  pub filled_acts : PlainActs k filled.plain_order past.acts
  filled_acts = plain_acts k w filled.plain_order past.order past.acts filled.veils follows.legal.are_acts

  pub filled_steps : LegalFrom plain passwords start filled.plain_order filled_acts.acts
  filled_steps = legal_filled k w naming names passwords filled.plain_order past.order filled_acts.acts past.acts start start filled.veils filled_acts.veil (start_sealed k) follows.legal.steps

  pub filled_once : ConnectsOnce filled.plain_order
  filled_once = connects_once k filled.plain_order past.order filled.veils follows.legal.once

  pub filled_fills : Fills past.order items filled.plain_order
  filled_fills = fills_more past.order (λ c. (x c).stand.items) items (λ c. (takes_of k boot c past (x c) (items c) (under_way c) (unfed c) (j c)).more) filled.plain_order filled.fills (λ c. (takes_of k boot c past (x c) (items c) (under_way c) (unfed c) (j c)).first)

  pub talks_of : (c : ℕ) → Talks k (all_asked c start filled_acts.acts) (out plain filled_acts.acts c) (past.told c)
  talks_of c = all_told k _ _ _ (past.told c) (all_match k w naming names c filled_acts.acts past.acts filled_acts.veil) (follows.shown c)

  pub orderly_of : (c : ℕ) → IsOrderly c filled_acts.acts (x c).stand.items
  orderly_of c =
      let up = up_of k boot c past (x c) (items c) (under_way c) (unfed c) (j c) in
      let front = filled.front c in
      let fits = sealed_fit k (x c).stand.items up.veiled (all_sealed k boot c 0 (x c).stand.sealed (x c).stand.items up.veiled some up.each) (spelled_fit true up.veiled (x c).stand.up up.spelled) in
      orderly c filled.plain_order filled_acts.acts (x c).stand.items front.0 front.1
      (before k w naming names passwords c filled.plain_order filled_acts.acts past.acts start start (start_none c) filled_once filled_acts.are filled_acts.veil filled_steps (start_sealed k)
      (front_fit (items_in c filled.plain_order) front.0 (subst XidsFit front.1 fits)))

  pub told_of : ((c : ℕ) → AreBehind (taken_at naming start c 0 past.acts) (x c).heard) → (c : ℕ) → IsTold k (all_asked c start filled_acts.acts) (out plain filled_acts.acts c) (past.told c) (x c).heard (x c).stand
  told_of b c =
      let behind = told_behind c naming passwords past.order past.acts start (past.told c) (x c).heard follows.legal.are_acts follows.legal.steps (follows.shown c) (b c) in
      orderly_told k boot c w filled_acts.acts (past.told c) (x c).heard (x c).stand (past.pulled c) (past.waiting c) (talks_of c) (j c).ran (follows.spelled c) (j c).store_side behind (orderly_of c)

  pub turn_of : ((c : ℕ) → AreBehind (taken_at naming start c 0 past.acts) (x c).heard) → (c : ℕ) → AreBehind (taken_at plain start c 0 filled_acts.acts) (x c).heard
  turn_of b c = subst (λ (l : List ℕ). AreBehind l (x c).heard) (sym (same_taken k w naming names c filled_acts.acts past.acts start start 0 filled_acts.veil (start_sealed k))) (b c)

  pub closing_of : (c : ℕ) → Closing c start filled.plain_order filled_acts.acts
  closing_of c = closing passwords c filled.plain_order filled_acts.acts start (start_none c) filled_once filled_acts.are filled_steps
