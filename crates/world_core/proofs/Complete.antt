-- Once drained, a connection whose session goes on has all of it.
use Rattle.std.proofs.Common.{◌≡◌, ◌∙◌, ℕ, List, [], ◌++◌, refl, sym, ap, subst, append-nil, Bool, true, false, Option, None, Some}
use Rattle.std.specs.Prelude.{is_some}
use Rattle.payload_seal.specs.declared.keys.EntryKeys.{EntryKeys}
use Rattle.tree_state.specs.Plain.{plain}
use Rattle.store_side.specs.Past.{is_over}
use Rattle.store_side.specs.Fill.{items_in}
use Rattle.store_side.specs.Messages.{Messages}
use Rattle.store_side.specs.Out.{out}
use Rattle.entry_session.specs.Heard.{Heard}
use Rattle.entry_session.specs.Sides.{EndsAtClient, EndsAtStore, bytes_of}
use Rattle.entry_session.specs.declared.ending.Ending.{Ending}
use Rattle.world_core.specs.Moments.{Moment}
use Rattle.world_core.specs.Steps.{IsAllDrained}
use Rattle.world_core.specs.Laws.{Holds, HasAll, HasAllOnceDrained}

-- what goes on did not end at a frame
not_at_client : (e : Option Ending) (hs : List Heard) → e ≡ None → EndsAtClient e hs → ⊥
unfolding EndsAtClient
not_at_client None hs is ends = ends
not_at_client (Some e) hs is ends = absurd cc

not_at_store : (e : Option Ending) (hs : List Heard) → e ≡ None → EndsAtStore e hs → ⊥
unfolding EndsAtStore
not_at_store None hs is ends = ends
not_at_store (Some e) hs is ends = absurd cc

pub has_all_once_drained : HasAllOnceDrained
has_all_once_drained k boot m h drained c going =
    let link = m.links c in
    let served = h.sessions.served c in
    let here = drained c going in
    let left = served.all_received (not_at_store link.stand.ending link.heard going) here.waiting in
    let up = served.all_handed_up (not_at_client link.stand.ending link.heard going) here.under_way in
    let taken = served.all_taken here.unfed (ap is_some here.goes_on) in
    record {
      received = subst (λ (l : List ℕ). Messages (out plain h.sessions.acts c) l)
          (ap (λ (l : List ℕ). bytes_of link.stand.down ++ l) left ∙ append-nil (bytes_of link.stand.down)) served.received;
      handed_up = up;
      taken = taken ∙ up;
    }
