-- What a client is told of each answer, in whatever order the store tells the names of a child list.
use Rattle.std.proofs.Common.{◌≡◌, ℕ, ℤ, Bool, true, false, List, [], ◌∷◌, Option, Some, None, length, map, inl, refl, sym, ap, subst}
use Rattle.zk_path.specs.Paths.{text_of}
use Rattle.path_seal.specs.Sealed.{AreKeys}
use Rattle.payload_seal.specs.declared.keys.EntryKeys.{EntryKeys}
use Rattle.request_queue.specs.declared.asked.Asked.{Asked}
use Rattle.request_queue.specs.declared.asked.Asked.TheVariants as asks
use Rattle.zk_records.specs.declared.stat.Stat.{Stat}
use Rattle.zk_messages.specs.Refuses.{open_acl}
use Rattle.zk_messages.specs.declared.reply.OpResult.{OpResult}
use Rattle.zk_messages.specs.declared.reply.OpResult.TheVariants as results
use Rattle.zk_messages.specs.Replies.{HasShape}
use Rattle.zk_messages.specs.declared.reply.Shape.{Shape}
use Rattle.zk_messages.specs.declared.reply.Shape.TheVariants as shapes
use Rattle.reply_rewrite.specs.Shapes.{shape_for}
use Rattle.zk_messages.specs.declared.reply.Outcome.{Outcome}
use Rattle.zk_messages.specs.declared.reply.Outcome.TheVariants as outcomes
use Rattle.reply_rewrite.specs.Admits.{AdmitsOutcome, AdmitsStored, IsRefused, IsPlain}
use Rattle.reply_rewrite.specs.Children.{IsPlainList}
use Rattle.reply_rewrite.specs.Results.{IsPlainResult}
use Rattle.reply_rewrite.specs.Stats.{IsPlainStat, IsPlainContent}
use Rattle.reply_rewrite.proofs.Told.{failure_told, plain_told}
use Rattle.tree_state.specs.Nodes.{Path, Node, children, child_names, in_order, stat_of}
use Rattle.tree_state.specs.State.{State}
use Rattle.tree_state.specs.Commands.{Change, create, delete, set_content, check, get_children}
use Rattle.tree_state.specs.Changes.{Effects}
use Rattle.tree_state.specs.Step.{outcome_of, names_with}
use Rattle.tree_state.proofs.ByteOrder.{Shuffles-in_order}
use Rattle.tree_state.proofs.Reorder.{joined}
unfoldable pub use Rattle.sealed_machine.specs.Veils.{IsBelow, VeilsCommand, change_asked, asked_of}
unfoldable pub use Rattle.store_side.specs.Follows.{Shows}
pub use Rattle.sealed_machine.specs.Opens.{IsOpenedTo, Opens}
use Rattle.sealed_machine.proofs.ChildLists.{plain_names, singles}
use Rattle.sealed_machine.proofs.SealedStates.{Seals, SealedNode, IsSealedState, children_zips, stats}
use Rattle.sealed_machine.proofs.SealedChanges.{op_asked, SealedEffects}
use Rattle.sealed_machine.proofs.SealedMultis.{all_failed, all_done}

-- an answer with no child list is told as it is
told_as : (k : EntryKeys) (asked : Asked) (a b : Outcome) → ((told : Outcome) → Shows b told → told ≡ b) → HasShape (shape_for asked) b → AdmitsOutcome k asked b a None → Opens k asked a b
told_as k asked a b one z h told s = subst (λ (o : Outcome). IsOpenedTo k asked o a) (sym (one told s)) (record { shaped = z; admitted = h })

-- what is told has the shape of what the machine answers
shows_shape : (shape : Shape) (a b : Outcome) → Shows a b → HasShape shape a → HasShape shape b
unfolding Shows
shows_shape shape (outcomes.Children (Some names)) b (list, e, order) h = subst (HasShape shape) (sym e) (same_list shape names list h)
  where
    same_list : (shape : Shape) (names list : List (List ℕ)) → HasShape shape (outcomes.Children (Some names)) → HasShape shape (outcomes.Children (Some list))
    same_list shapes.Children names list h = tt
    same_list shape names list h = absurd h
shows_shape shape (outcomes.Children2 (Some names) stat) b (list, e, order) h = subst (HasShape shape) (sym e) (same_list shape names list h)
  where
    same_list : (shape : Shape) (names list : List (List ℕ)) → HasShape shape (outcomes.Children2 (Some names) stat) → HasShape shape (outcomes.Children2 (Some list) stat)
    same_list shapes.Children2 names list h = tt
    same_list shape names list h = absurd h
shows_shape shape a b e h = subst (HasShape shape) (sym e) h

error_shown : (code : ℤ) (told : Outcome) → Shows (outcomes.Error code) told → told ≡ outcomes.Error code
unfolding Shows
error_shown code told h = h

-- an error is told as it is
pub error_opens : (k : EntryKeys) (asked : Asked) (code : ℤ) → (IsRefused asked → ⊥) → Opens k asked (outcomes.Error code) (outcomes.Error code)
error_opens k asked code f = told_as k asked (outcomes.Error code) (outcomes.Error code) (error_shown code) tt (failure_told k asked (outcomes.Error code) (outcomes.Error code) code f refl refl)

-- a command that is refused is answered so, whatever the store tells
pub refused_opens : (k : EntryKeys) (code : ℤ) (b : Outcome) → HasShape shapes.Stat b → Opens k (asks.Refused code) (outcomes.Error code) b
unfolding AdmitsOutcome
refused_opens k code b z told s = record { shaped = shows_shape shapes.Stat b told s z; admitted = (refl, refl) }

pub empty_opens : (k : EntryKeys) → Opens k asks.Empty outcomes.Empty outcomes.Empty
unfolding Shows IsPlain
empty_opens k = told_as k asks.Empty outcomes.Empty outcomes.Empty (λ told s. s) tt (plain_told k asks.Empty outcomes.Empty outcomes.Empty (λ f. f) (λ f. f) tt)

pub close_opens : (k : EntryKeys) → Opens k asks.Close outcomes.Empty outcomes.Empty
unfolding Shows IsPlain
close_opens k = told_as k asks.Close outcomes.Empty outcomes.Empty (λ told s. s) tt (plain_told k asks.Close outcomes.Empty outcomes.Empty (λ f. f) (λ f. f) tt)

pub stat_opens : (k : EntryKeys) (p : Path) (a b : Stat) → IsPlainStat p b a → Opens k (asks.StatOf p) (outcomes.Stat a) (outcomes.Stat b)
unfolding Shows IsPlain
stat_opens k p a b h = told_as k (asks.StatOf p) (outcomes.Stat a) (outcomes.Stat b) (λ told s. s) tt (plain_told k (asks.StatOf p) (outcomes.Stat b) (outcomes.Stat a) (λ f. f) (λ f. f) h)

pub content_opens : (k : EntryKeys) (p : Path) (d y : Option (List ℕ)) (a b : Stat) → IsPlainContent k.payloads p y b d a
    → Opens k (asks.Content p) (outcomes.Content d a) (outcomes.Content y b)
unfolding Shows IsPlain
content_opens k p d y a b h = told_as k (asks.Content p) (outcomes.Content d a) (outcomes.Content y b) (λ told s. s) tt (plain_told k (asks.Content p) (outcomes.Content y b) (outcomes.Content d a) (λ f. f) (λ f. f) h)

pub acl_opens : (k : EntryKeys) (p : Path) (a b : Stat) → IsPlainStat p b a → Opens k (asks.AclOf p) (outcomes.Acls (Some (open_acl ∷ [])) a) (outcomes.Acls (Some (open_acl ∷ [])) b)
unfolding Shows IsPlain
acl_opens k p a b h = told_as k (asks.AclOf p) (outcomes.Acls (Some (open_acl ∷ [])) a) (outcomes.Acls (Some (open_acl ∷ [])) b) (λ told s. s) tt
    (plain_told k (asks.AclOf p) (outcomes.Acls (Some (open_acl ∷ [])) b) (outcomes.Acls (Some (open_acl ∷ [])) a) (λ f. f) (λ f. f) (refl, refl, h))

pub sync_opens : (k : EntryKeys) (p q : Path) → Seals k.names p q → Opens k (asks.SyncOf p) (outcomes.Path (text_of p)) (outcomes.Path (text_of q))
unfolding Shows IsPlain
sync_opens k p q s = told_as k (asks.SyncOf p) (outcomes.Path (text_of p)) (outcomes.Path (text_of q)) (λ told s. s) tt
    (plain_told k (asks.SyncOf p) (outcomes.Path (text_of q)) (outcomes.Path (text_of p)) (λ f. f) (λ f. f) (record { opened = (s.legal, ap text_of (sym s.is)); spelled = refl }))

pub multi_opens : (k : EntryKeys) (cs : List Change) (a b : List OpResult) → IsPlain k (asks.Multi (map op_asked cs)) (outcomes.Multi b) (outcomes.Multi a)
    → Opens k (asks.Multi (map op_asked cs)) (outcomes.Multi a) (outcomes.Multi b)
unfolding Shows
multi_opens k cs a b h = told_as k (asks.Multi (map op_asked cs)) (outcomes.Multi a) (outcomes.Multi b) (λ told s. s) tt
    (plain_told k (asks.Multi (map op_asked cs)) (outcomes.Multi b) (outcomes.Multi a) (λ f. f) (λ f. f) h)

pub failed_plain : (k : EntryKeys) (cs : List Change) (codes : List ℤ) → length codes ≡ length cs
    → IsPlain k (asks.Multi (map op_asked cs)) (outcomes.Multi (map results.Error codes)) (outcomes.Multi (map results.Error codes))
unfolding IsPlain
failed_plain k cs codes e = all_failed k.names cs codes e

pub done_plain : (k : EntryKeys) (cs : List Change) (e f : Effects) → SealedEffects k cs e f → IsPlain k (asks.Multi (map op_asked cs)) (outcomes.Multi f.results) (outcomes.Multi e.results)
unfolding IsPlain
done_plain k cs e f h = all_done k.names (map op_asked cs) f.results e.results h.results

pub names_open : (k : EntryKeys) → AreKeys k.names → (p q : Path) (watch stat : Bool) (s t : State) (n m : Node) → Seals k.names p q → IsSealedState k s t → SealedNode k p n m
    → Opens k (asked_of (get_children p watch stat)) (names_with stat s.nodes p n) (names_with stat t.nodes q m)
unfolding Shows IsPlain IsPlainList AdmitsOutcome AdmitsStored asked_of names_with child_names
names_open k w p q watch false s t n m sp h x told (list, e, order) =
    subst (λ (o : Outcome). IsOpenedTo k (asks.Children p) o (outcomes.Children (Some (in_order (children p s.nodes))))) (sym e)
    (record {
      shaped = tt;
      admitted = inl (
        refl,
        plain_names k.names w p (children p s.nodes) (children q t.nodes) list (children_zips k w p q sp s.nodes t.nodes h.nodes)
            (joined (children q t.nodes) (in_order (children q t.nodes)) list (Shuffles-in_order (children q t.nodes)) order) (singles p s.nodes h.apart),
      );
    })
names_open k w p q watch true s t n m sp h x told (list, e, order) =
    subst (λ (o : Outcome). IsOpenedTo k (asks.Children2 p) o (outcomes.Children2 (Some (in_order (children p s.nodes))) (stat_of s.nodes p n))) (sym e)
    (record {
      shaped = tt;
      admitted = inl (
        refl,
        (
          plain_names k.names w p (children p s.nodes) (children q t.nodes) list (children_zips k w p q sp s.nodes t.nodes h.nodes)
              (joined (children q t.nodes) (in_order (children q t.nodes)) list (Shuffles-in_order (children q t.nodes)) order) (singles p s.nodes h.apart),
          stats k w p q n m sp x s.nodes t.nodes h.nodes,
        ),
      );
    })

-- ---- a change alone

pub single_opens : (k : EntryKeys) (c : Change) (b a : OpResult) → IsPlainResult k.names false (op_asked c) b a → Opens k (change_asked c) (outcome_of a) (outcome_of b)
unfolding IsPlainResult op_asked change_asked outcome_of Shows AdmitsOutcome AdmitsStored IsPlain
single_opens k (create p n d q e false) (results.Created b) (results.Created a) h = told_as k (asks.Create (n ∷ p) q) (outcomes.Path a) (outcomes.Path b) (λ told s. s) tt (inl (refl, h))
single_opens k (create p n d q e true) (results.Created2 b x) (results.Created2 a y) h = told_as k (asks.Create2 (n ∷ p) q) (outcomes.Created2 a y) (outcomes.Created2 b x) (λ told s. s) tt (inl (refl, h))
single_opens k (delete p v) results.Deleted results.Deleted h = told_as k asks.Empty outcomes.Empty outcomes.Empty (λ told s. s) tt (inl (refl, tt))
single_opens k (set_content p d v) (results.Changed b) (results.Changed a) h = told_as k (asks.StatOf p) (outcomes.Stat a) (outcomes.Stat b) (λ told s. s) tt (inl (refl, h))
single_opens k (check p v) results.Checked results.Checked h = told_as k asks.Empty outcomes.Empty outcomes.Empty (λ told s. s) tt (inl (refl, tt))
single_opens k c b a h = absurd h

pub change_not_refused : (c : Change) → IsRefused (change_asked c) → ⊥
unfolding change_asked
change_not_refused (create p n d q e false) h = h
change_not_refused (create p n d q e true) h = h
change_not_refused (delete p v) h = h
change_not_refused (set_content p d v) h = h
change_not_refused (check p v) h = h

pub children_not_refused : (p : Path) (watch stat : Bool) → IsRefused (asked_of (get_children p watch stat)) → ⊥
unfolding asked_of
children_not_refused p watch false h = h
children_not_refused p watch true h = h
