-- What changes do on both sides.
use Rattle.std.proofs.Common.{◌≡◌, ℕ, ℤ, pos, ◌+◌, Bool, true, false, List, [], ◌∷◌, ◌++◌, Option, Some, None, filter, refl, sym, ap, subst, ◌∙◌, arith}
use Rattle.std.proofs.lemmas.Int.{ints}
use Rattle.zk_path.specs.Paths.{IsPath, text_of}
use Rattle.zk_path.specs.Numbers.{ten_digits, IsStemOf}
use Rattle.zk_path.specs.WithDigits.{numbered_is_component}
use Rattle.zk_path.proofs.Numbered.{is_numbered}
use Rattle.path_seal.specs.Sealed.{AreKeys, SealName}
use Rattle.payload_seal.specs.declared.keys.EntryKeys.{EntryKeys}
use Rattle.reply_rewrite.specs.Names.{IsMadeFor}
use Rattle.reply_rewrite.specs.Results.{IsPlainResult}
use Rattle.watch_rewrite.specs.Events.{IsNodeKind}
use Rattle.counter_enclave.specs.Enclave.{IsSealedName}
use Rattle.tree_state.specs.declared.node.Numbers.{Numbers}
use Rattle.tree_state.specs.declared.node.Moment.{Moment}
use Rattle.zk_records.specs.declared.stat.Stat.{Stat}
use Rattle.reply_rewrite.specs.Stats.{IsPlainStat}
use Rattle.tree_state.specs.Nodes.{Path, Node, Place, above, find, is_there}
use Rattle.tree_state.specs.State.{State, on_data, on_children, told, left}
use Rattle.tree_state.specs.Trees.{IsNaming}
use Rattle.tree_state.specs.Plain.{plain}
use Rattle.tree_state.specs.Commands.{Change, create, delete, set_content, check}
use Rattle.tree_state.specs.Changes.{Trial, failed, done, need, refuse, Naming, Effect, event_to, events_to, is_at_last, is_other_version, has_owner, name_for, fresh_numbers, with_creation, with_deletion, with_content, creation_events, left_by_creation, creation_result, is_not_in, end_events, deletion_events, left_by_deletion, content_events, created, deleted, updated, perform, system_error, bad_arguments, no_node, bad_version, no_children_for_ephemerals, node_exists, not_empty}
use Rattle.tree_state.proofs.Found.{there_changed, apart_changed, apart_added, apart_removed}
unfoldable pub use Rattle.sealed_machine.specs.Veils.{IsLast, IsGiven, VeilsChange, op_asked}
pub use Rattle.sealed_machine.specs.Veils.{VeilsCreate}
unfoldable pub use Rattle.sealed_machine.specs.Opens.{OpensEvent}
pub use Rattle.sealed_machine.specs.Opens.{OpensOutput, SealedEffect, SealedEffects}
use Rattle.store_side.proofs.Zipping.{Zips, Both, zips_none, zips_append, both_some}
use Rattle.sealed_machine.proofs.SealedPaths.{above_seals, child_seals}
use Rattle.sealed_machine.proofs.SealedNames.{sealed_number}
use Rattle.sealed_machine.proofs.SealedStates.{Holds, Seals, SealsName, SealedNode, SealedPlace, IsSealedState, found, there, Keeps, change_zips, add_zips, remove_zips, have_children, stats, told_agree, left_zips}

-- ---- trials

unfoldable pub Alike : {E A B : Type 0} → (A → B → Type 0) → Trial E A → Trial E B → Type 0
Alike R (failed c) (failed d) = c ≡ d
Alike R (failed c) (done b) = ⊥
Alike R (done a) (failed d) = ⊥
Alike R (done a) (done b) = R a b

-- a thing that is needed is there on both sides, or on none
pub need_alike : {A A' B B' : Type 0} (Q : A → A' → Type 0) (R : B → B' → Type 0) (a : Option A) (a' : Option A') (code : ℤ) (f : A → Trial ℤ B) (f' : A' → Trial ℤ B')
    → Both Q a a' → ((x : A) (y : A') → Q x y → Alike R (f x) (f' y)) → Alike R (need a code f) (need a' code f')
unfolding need Alike Both
need_alike Q R None None code f f' h g = refl
need_alike Q R None (Some y) code f f' h g = absurd h
need_alike Q R (Some x) None code f f' h g = absurd h
need_alike Q R (Some x) (Some y) code f f' h g = g x y h

-- a change is refused on both sides, or on none
pub refuse_alike : {B B' : Type 0} (R : B → B' → Type 0) (b c : Bool) (code : ℤ) (r : Trial ℤ B) (r' : Trial ℤ B') → b ≡ c → (b ≡ false → Alike R r r')
    → Alike R (refuse b code r) (refuse c code r')
unfolding refuse Alike
refuse_alike R true true code r r' e h = refl
refuse_alike R true false code r r' e h = absurd cc
refuse_alike R false true code r r' e h = absurd cc
refuse_alike R false false code r r' e h = h refl

pub done_alike : (E : Type 0) {A B : Type 0} (R : A → B → Type 0) (a : A) (b : B) → R a b → Alike {E = E} R (done a) (done b)
unfolding Alike
done_alike E R a b h = h

-- ---- events

module _ (k : EntryKeys) (w : AreKeys k.names) where
  -- an event on both sides
  pub one_event : (kind : ℤ) (p q : Path) (c d : ℕ) → IsNodeKind kind → Seals k.names p q → c ≡ d → OpensOutput k.names (event_to kind p c) (event_to kind q d)
  unfolding event_to OpensEvent
  one_event kind p q c d is s e = record {
    connection = e;
    event = record { kind = is; state = refl; same_kind = refl; same_state = refl; path = p; opened = (s.legal, ap text_of (sym s.is)); spelled = refl };
  }

  same_events : (kind : ℤ) (p q : Path) → IsNodeKind kind → Seals k.names p q → (cs : List ℕ) → Zips (OpensOutput k.names) (events_to kind p cs) (events_to kind q cs)
  unfolding events_to Zips
  same_events kind p q is s [] = tt
  same_events kind p q is s (c ∷ cs) = (one_event kind p q c c is s refl, same_events kind p q is s cs)

  -- an event to each of some connections
  pub events_zip : (kind : ℤ) (p q : Path) (cs ds : List ℕ) → IsNodeKind kind → Seals k.names p q → cs ≡ ds → Zips (OpensOutput k.names) (events_to kind p cs) (events_to kind q ds)
  events_zip kind p q cs ds is s e = subst (λ (l : List ℕ). Zips (OpensOutput k.names) (events_to kind p cs) (events_to kind q l)) e (same_events kind p q is s cs)

  -- ---- nodes

  with_creation_keeps : (p : Path) (z : ℤ) → Keeps k w p (with_creation z) (with_creation z)
  unfolding with_creation Keeps
  with_creation_keeps p z n m h = record { content = h.content; numbers = (λ i. record (h.numbers i) { creations = (h.numbers i).creations + 1; pzxid = z }) }

  with_deletion_keeps : (p : Path) (z : ℤ) → Keeps k w p (with_deletion z) (with_deletion z)
  unfolding with_deletion Keeps
  with_deletion_keeps p z n m h = record { content = h.content; numbers = (λ i. record (h.numbers i) { deletions = (h.numbers i).deletions + 1; pzxid = z }) }

  with_content_keeps : (p : Path) (at : Moment) (d y : Option (List ℕ)) → Holds k.payloads p d y → Keeps k w p (with_content at d) (with_content at y)
  unfolding with_content Keeps
  with_content_keeps p at d y x n m h = record { content = x; numbers = (λ i. record (h.numbers i) { mzxid = at.zxid; mtime = at.time; version = (h.numbers i).version + 1 }) }

  with_content_at : (p : Path) (at : Moment) (d y : Option (List ℕ)) (b c : Node) → Holds k.payloads p d y → SealedNode k p b c → SealedNode k p (with_content at d b) (with_content at y c)
  unfolding Keeps
  with_content_at p at d y b c x h = with_content_keeps p at d y x b c h

  -- ---- changes that are done

  is_made : (n name : List ℕ) (p : Path) (sequential : Bool) → IsPath p → IsLast sequential n → IsGiven sequential n name → IsMadeFor (n ∷ p) sequential (name ∷ p)
  unfolding IsLast IsGiven
  is_made n name p false hp h g = (λ i. g i ∷ p)
  is_made n name p true hp h g = subst (λ (x : List ℕ). IsStemOf (x ∷ p) (n ∷ p)) (sym g.1) (is_numbered (n ∷ p) g.0 (h, hp)).1

  -- the Stat of a new node, beside the path that was asked for
  stat_of_new : (n m : List ℕ) (p : Path) (a b : Stat) → IsPlainStat (n ∷ p) a b → IsPlainStat (m ∷ p) a b
  stat_of_new n m p a b h = record { plain_length = h.plain_length; same_rest = h.same_rest }

  creation_plain : (p q : Path) (n m stem : List ℕ) (b c : Node) (d : Option (List ℕ)) (sequential ephemeral stat : Bool)
      → Seals k.names p q → Seals k.names (n ∷ p) (m ∷ q) → IsLast sequential stem → IsGiven sequential stem n → SealedNode k (n ∷ p) b c
      → (es fs : List Place) → Zips (SealedPlace k) es fs → IsPlainResult k.names false (op_asked (create p stem d sequential ephemeral stat)) (creation_result stat fs (m ∷ q) c) (creation_result stat es (n ∷ p) b)
  unfolding creation_result IsPlainResult op_asked
  creation_plain p q n m stem b c d sequential ephemeral false sp sc last is x es fs z =
      record { path = n ∷ p; opened = (sc.legal, ap text_of (sym sc.is)); made = is_made stem n p sequential sp.legal last is; spelled = refl }
  creation_plain p q n m stem b c d sequential ephemeral true sp sc last is x es fs z = (
    record { path = n ∷ p; opened = (sc.legal, ap text_of (sym sc.is)); made = is_made stem n p sequential sp.legal last is; spelled = refl },
    stat_of_new n stem p _ _ (stats k w (n ∷ p) (m ∷ q) b c sc x es fs z),
  )

  -- a node is made
  pub created_sealed : (at : Moment) (p q : Path) (n m stem : List ℕ) (b c : Node) (s t : State) (d : Option (List ℕ)) (sequential ephemeral stat : Bool)
      → Seals k.names p q → Seals k.names (n ∷ p) (m ∷ q) → IsLast sequential stem → IsGiven sequential stem n → SealedNode k (n ∷ p) b c → is_there s.nodes (n ∷ p) ≡ false → IsSealedState k s t
      → SealedEffect k (create p stem d sequential ephemeral stat) (created at p n b stat s) (created at q m c stat t)
  unfolding created left_by_creation creation_events
  created_sealed at p q n m stem b c s t d sequential ephemeral stat sp sc last is x free h = record {
    state = record {
      nodes = add_zips k w (n ∷ p) (m ∷ q) b c sc x _ _ (change_zips k w p q (with_creation at.zxid) (with_creation at.zxid) sp (with_creation_keeps p at.zxid) s.nodes t.nodes h.nodes);
      apart = apart_added (n ∷ p) b _ (there_changed p (n ∷ p) (with_creation at.zxid) s.nodes ∙ free) (apart_changed p (with_creation at.zxid) s.nodes h.apart);
      sessions = h.sessions;
      watches = left_zips k w on_children p q sp _ _ (left_zips k w on_data (n ∷ p) (m ∷ q) sc s.watches t.watches h.watches);
      greatest = h.greatest;
      last = refl;
    };
    result = creation_plain p q n m stem b c d sequential ephemeral stat sp sc last is x _ _
        (add_zips k w (n ∷ p) (m ∷ q) b c sc x _ _ (change_zips k w p q (with_creation at.zxid) (with_creation at.zxid) sp (with_creation_keeps p at.zxid) s.nodes t.nodes h.nodes));
    events = zips_append (OpensOutput k.names) _ _ _ _ (events_zip (pos 1) (n ∷ p) (m ∷ q) _ _ (omega (arith, ints), omega (arith, ints)) sc (told_agree k w on_data (n ∷ p) (m ∷ q) sc s.watches t.watches h.watches))
        (events_zip (pos 4) p q _ _ (omega (arith, ints), omega (arith, ints)) sp (told_agree k w on_children p q sp s.watches t.watches h.watches));
  }

  -- a node is removed
  pub deleted_sealed : (z v : ℤ) (p q : Path) (s t : State) → Seals k.names p q → IsSealedState k s t → SealedEffect k (delete p v) (deleted z p s) (deleted z q t)
  unfolding deleted left_by_deletion deletion_events end_events IsPlainResult op_asked
  deleted_sealed z v p q s t sp h =
      let up = above_seals k.names p q sp in
      let a = told_agree k w on_data p q sp s.watches t.watches h.watches in
      let b = told_agree k w on_children p q sp s.watches t.watches h.watches in
      let off = left_zips k w on_children p q sp s.watches t.watches h.watches in
      let c = told_agree k w on_children (above p) (above q) up (left on_children p s.watches) (left on_children q t.watches) off in
      record {
        state = record {
          nodes = remove_zips k w p q sp _ _ (change_zips k w (above p) (above q) (with_deletion z) (with_deletion z) up (with_deletion_keeps (above p) z) s.nodes t.nodes h.nodes);
          apart = apart_removed p _ (apart_changed (above p) (with_deletion z) s.nodes h.apart);
          sessions = h.sessions;
          watches = left_zips k w on_children (above p) (above q) up _ _ (left_zips k w on_children p q sp _ _ (left_zips k w on_data p q sp s.watches t.watches h.watches));
          greatest = h.greatest;
          last = refl;
        };
        result = tt;
        events = zips_append (OpensOutput k.names) _ _ _ _
            (zips_append (OpensOutput k.names) _ _ _ _ (events_zip (pos 2) p q _ _ (omega (arith, ints), omega (arith, ints)) sp a) (events_zip (pos 2) p q _ _ (omega (arith, ints), omega (arith, ints)) sp (let x : filter (is_not_in (told on_data p s.watches)) (told on_children p s.watches) ≡ filter (is_not_in (told on_data q t.watches)) (told on_children q t.watches) = cc in x)))
            (events_zip (pos 4) (above p) (above q) _ _ (omega (arith, ints), omega (arith, ints)) up c);
      }

  -- a content is written
  pub updated_sealed : (at : Moment) (v : ℤ) (p q : Path) (d y : Option (List ℕ)) (b c : Node) (s t : State) → Seals k.names p q → Holds k.payloads p d y
      → SealedNode k p b c → IsSealedState k s t
      → SealedEffect k (set_content p d v) (updated at p d b s) (updated at q y c t)
  unfolding updated content_events IsPlainResult op_asked
  updated_sealed at v p q d y b c s t sp hd x h = record {
    state = record {
      nodes = change_zips k w p q (with_content at d) (with_content at y) sp (with_content_keeps p at d y hd) s.nodes t.nodes h.nodes;
      apart = apart_changed p (with_content at d) s.nodes h.apart;
      sessions = h.sessions;
      watches = left_zips k w on_data p q sp s.watches t.watches h.watches;
      greatest = h.greatest;
      last = refl;
    };
    result = stats k w p q (with_content at d b) (with_content at y c) sp (with_content_at p at d y b c hd x) s.nodes t.nodes h.nodes;
    events = events_zip (pos 3) p q _ _ (omega (arith, ints), omega (arith, ints)) sp (told_agree k w on_data p q sp s.watches t.watches h.watches);
  }

  -- ---- the rows

  versions : (v u : ℤ) (p : Path) (b c : Node) → v ≡ u → SealedNode k p b c → is_other_version v b.numbers.version ≡ is_other_version u c.numbers.version
  versions v u p b c e x = let f = x.numbers in cc

  owners : (p : Path) (b c : Node) → SealedNode k p b c → has_owner b ≡ has_owner c
  unfolding has_owner
  owners p b c x = let f = x.numbers in cc

  -- the name on both sides
  unfoldable NameFor : Path → List ℕ → Bool → List ℕ → List ℕ → Type 0
  NameFor p n sequential name other = SealsName k.names p name other × IsGiven sequential n name

  names_for : (naming : Naming) → IsNaming (IsSealedName k.names) naming → (p q : Path) (n m : List ℕ) (d y : Option (List ℕ)) (sequential : Bool) (b c : Node)
      → VeilsCreate k p n d sequential q m y → SealedNode k p b c
      → Both (NameFor p n sequential) (name_for plain p n sequential b) (name_for naming q m sequential c)
  unfolding name_for NameFor IsGiven IsLast plain
  names_for naming names p q n m d y false b c r x = both_some (NameFor p n false) n m (record { legal = r.last; is = r.name }, refl)
  names_for naming names p q n m d y true b c r x =
      let i : ℕ = b.numbers.creations in
      let e : naming q m c.numbers.creations ≡ Some (SealName k.names p (n ++ ten_digits i)) =
      (λ j. naming (r.path.is j) (r.name j) ((sym x.numbers j).creations)) ∙ sealed_number k.names naming w names p n i r.path.legal r.last in
      subst (λ (o : Option (List ℕ)). Both (NameFor p n true) (Some (n ++ ten_digits i)) o) (sym e)
      (both_some (NameFor p n true) (n ++ ten_digits i) (SealName k.names p (n ++ ten_digits i)) (record { legal = numbered_is_component n i r.last; is = refl }, (i, refl)))

  fresh : (at : Moment) (p : Path) (d y : Option (List ℕ)) (e : Bool) → Holds k.payloads p d y
      → SealedNode k p (record { content = d; numbers = fresh_numbers at e }) (record { content = y; numbers = fresh_numbers at e })
  fresh at p d y e a = record { content = a; numbers = refl }

  named : (at : Moment) (s t : State) (p q : Path) (n m : List ℕ) (d y : Option (List ℕ)) (sequential ephemeral stat : Bool) → VeilsCreate k p n d sequential q m y → IsSealedState k s t
      → (name other : List ℕ) → NameFor p n sequential name other → Alike (SealedEffect k (create p n d sequential ephemeral stat))
      (refuse (is_there s.nodes (name ∷ p)) node_exists (done (created at p name (record { content = d; numbers = fresh_numbers at ephemeral }) stat s)))
      (refuse (is_there t.nodes (other ∷ q)) node_exists (done (created at q other (record { content = y; numbers = fresh_numbers at ephemeral }) stat t)))
  unfolding NameFor
  named at s t p q n m d y sequential ephemeral stat r h name other x =
      let R = SealedEffect k (create p n d sequential ephemeral stat) in
      let c = child_seals k.names p q name other r.path x.0 in
      refuse_alike R _ _ node_exists _ _ (there k w (name ∷ p) (other ∷ q) c s.nodes t.nodes h.nodes)
      (λ free. done_alike ℤ R _ _ (created_sealed at p q name other n _ _ s t d sequential ephemeral stat r.path c r.last x.1 (fresh at (name ∷ p) d y ephemeral (r.content name x.1)) free h))

  create_sealed : (naming : Naming) → IsNaming (IsSealedName k.names) naming
      → (at : Moment) (s t : State) (p q : Path) (n m : List ℕ) (d y : Option (List ℕ)) (sequential ephemeral stat : Bool) → VeilsCreate k p n d sequential q m y
      → IsSealedState k s t
      → Alike (SealedEffect k (create p n d sequential ephemeral stat)) (perform plain at s (create p n d sequential ephemeral stat)) (perform naming at t (create q m y sequential ephemeral stat))
  unfolding perform
  create_sealed naming names at s t p q n m d y sequential ephemeral stat r h =
      let R = SealedEffect k (create p n d sequential ephemeral stat) in
      need_alike (SealedNode k p) R (find s.nodes p) (find t.nodes q) no_node _ _ (found k w p q r.path s.nodes t.nodes h.nodes) λ b c x.
      refuse_alike R _ _ no_children_for_ephemerals _ _ (owners p b c x) (λ o.
      refuse_alike R _ _ system_error _ _ (ap (λ (z : Numbers). is_at_last z.creations) x.numbers) (λ l.
      need_alike (NameFor p n sequential) R (name_for plain p n sequential b) (name_for naming q m sequential c) bad_arguments _ _ (names_for naming names p q n m d y sequential b c r x) λ name other v.
      named at s t p q n m d y sequential ephemeral stat r h name other v))

  delete_sealed : (naming other : Naming) (at : Moment) (s t : State) (p q : Path) (v u : ℤ) → Seals k.names p q → v ≡ u → IsSealedState k s t
      → Alike (SealedEffect k (delete p v)) (perform naming at s (delete p v)) (perform other at t (delete q u))
  unfolding perform
  delete_sealed naming other at s t p q v u sp e h =
      let R = SealedEffect k (delete p v) in
      need_alike (SealedNode k p) R (find s.nodes p) (find t.nodes q) no_node _ _ (found k w p q sp s.nodes t.nodes h.nodes) λ b c x.
      refuse_alike R _ _ bad_version _ _ (versions v u p b c e x) (λ o.
      refuse_alike R _ _ not_empty _ _ (have_children k w p q sp s.nodes t.nodes h.nodes) (λ l.
      done_alike ℤ R _ _ (deleted_sealed at.zxid v p q s t sp h)))

  set_sealed : (naming other : Naming) (at : Moment) (s t : State) (p q : Path) (d y : Option (List ℕ)) (v u : ℤ) → Seals k.names p q → Holds k.payloads p d y → v ≡ u → IsSealedState k s t
      → Alike (SealedEffect k (set_content p d v)) (perform naming at s (set_content p d v)) (perform other at t (set_content q y u))
  unfolding perform
  set_sealed naming other at s t p q d y v u sp hd e h =
      let R = SealedEffect k (set_content p d v) in
      need_alike (SealedNode k p) R (find s.nodes p) (find t.nodes q) no_node _ _ (found k w p q sp s.nodes t.nodes h.nodes) λ b c x.
      refuse_alike R _ _ bad_version _ _ (versions v u p b c e x) (λ o.
      refuse_alike R _ _ system_error _ _ (ap (λ (z : Numbers). is_at_last z.version) x.numbers) (λ l.
      done_alike ℤ R _ _ (updated_sealed at v p q d y b c s t sp hd x h)))

  check_sealed : (naming other : Naming) (at : Moment) (s t : State) (p q : Path) (v u : ℤ) → Seals k.names p q → v ≡ u → IsSealedState k s t
      → Alike (SealedEffect k (check p v)) (perform naming at s (check p v)) (perform other at t (check q u))
  unfolding perform IsPlainResult op_asked
  check_sealed naming other at s t p q v u sp e h =
      let R = SealedEffect k (check p v) in
      need_alike (SealedNode k p) R (find s.nodes p) (find t.nodes q) no_node _ _ (found k w p q sp s.nodes t.nodes h.nodes) λ b c x.
      refuse_alike R _ _ bad_version _ _ (versions v u p b c e x) (λ o.
      done_alike ℤ R _ _ (record {
        state = record { nodes = h.nodes; apart = h.apart; sessions = h.sessions; watches = h.watches; greatest = h.greatest; last = refl };
        result = tt;
        events = zips_none (OpensOutput k.names);
      }))

  same_mode : (naming : Naming) (at : Moment) (t : State) (q : Path) (m : List ℕ) (y : Option (List ℕ)) (b c e f u v : Bool) (R : Effect → Effect → Type 0) (o : Trial ℤ Effect)
      → b ≡ c → e ≡ f → u ≡ v
      → Alike R o (perform naming at t (create q m y b e u)) → Alike R o (perform naming at t (create q m y c f v))
  same_mode naming at t q m y b c e f u v R o g h j x = subst (λ (z : Trial ℤ Effect). Alike R o z) (λ i. perform naming at t (create q m y (g i) (h i) (j i))) x

  -- a change and its sealed form
  pub perform_sealed : (naming : Naming) → IsNaming (IsSealedName k.names) naming → (at : Moment) (s t : State) (c d : Change) → VeilsChange k c d → IsSealedState k s t
      → Alike (SealedEffect k c) (perform plain at s c) (perform naming at t d)
  unfolding VeilsChange
  perform_sealed naming names at s t (create p n d sequential ephemeral stat) (create q m y numbered kept told_stat) r h =
      same_mode naming at t q m y sequential numbered ephemeral kept stat told_stat _ _ r.1 r.2 r.3 (create_sealed naming names at s t p q n m d y sequential ephemeral stat r.0 h)
  perform_sealed naming names at s t (create p n d sequential ephemeral stat) b r h = absurd r
  perform_sealed naming names at s t (delete p v) (delete q u) r h = delete_sealed plain naming at s t p q v u r.0 r.1 h
  perform_sealed naming names at s t (delete p v) b r h = absurd r
  perform_sealed naming names at s t (set_content p d v) (set_content q y u) r h = set_sealed plain naming at s t p q d y v u r.0 r.1 r.2 h
  perform_sealed naming names at s t (set_content p d v) b r h = absurd r
  perform_sealed naming names at s t (check p v) (check q u) r h = check_sealed plain naming at s t p q v u r.0 r.1 h
  perform_sealed naming names at s t (check p v) b r h = absurd r
