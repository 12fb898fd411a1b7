-- A sealed state, word by word: nodes, children, ephemerals, Stats, watches.
use Rattle.std.proofs.Common.{◌≡◌, ℕ, ℤ, pos, ◌+◌, Bool, true, false, List, [], ◌∷◌, Option, Some, None, length, refl, sym, ap, subst, arith, length-append}
use Rattle.std.proofs.lemmas.Int.{ints}
use Rattle.std.specs.Prelude.{◌==◌, ◌≤ℤ◌, ◌-ℤ◌, not, min, nat_le}
use Rattle.std.specs.Ordering.{int_eq}
use Rattle.std.specs.List.{list_any}
use Rattle.path_seal.specs.Sealed.{AreKeys}
use Rattle.payload_seal.specs.Payload.{Accepts, content_of}
use Rattle.payload_seal.specs.declared.keys.EntryKeys.{EntryKeys}
use Rattle.payload_seal.proofs.Parts.{opened_size, digest_size}
use Rattle.reply_rewrite.specs.Stats.{IsPlainLength, IsPlainStat}
use Rattle.tree_state.specs.declared.node.Numbers.{Numbers}
use Rattle.tree_state.specs.Nodes.{Path, Node, Place, same_path, find, is_there, changed_at, change, add, is_elsewhere, remove, name_of_child, children, has_children, path_if_owned, ephemerals, size_of, stat_of, greatest_int}
use Rattle.tree_state.specs.State.{Aspect, Watch, is_on, is_off, connection_if_on, told, left, is_of_other, left_of_others, after_lower, is_same_watch, watching, watching_if}
use Rattle.tree_state.proofs.SamePaths.{same_path-true}
unfoldable pub use Rattle.sealed_machine.specs.Seals.{Holds}
pub use Rattle.sealed_machine.specs.Seals.{Seals, SealsName, SealedNode, SealedPlace, SealedWatch, IsSealedState}
use Rattle.store_side.proofs.Zipping.{Zips, Both, zips_one, zips_append, zips_map, zips_filter, zips_filter_map, any_agree, length_zips, same_zips, both_cond, both_none, choose, ands_agree}
use Rattle.sealed_machine.proofs.SealedPaths.{seals_agree, under}

-- a payload has 61 bytes more than its content
same_size : (d : Option (List ℕ)) → length (content_of d) ≡ size_of d
unfolding size_of
same_size None = refl
same_size (Some c) = refl

pub accepted_size : (keys : List (List ℕ)) (payload : List ℕ) (p : Path) (d : Option (List ℕ)) → Accepts keys p payload d → length payload ≡ size_of d + 61
accepted_size keys payload p d a = omega (arith, opened_size a.opened, digest_size p a.sequential a.digest a.for_path, same_size d, length-append a.digest (content_of d))

module _ (k : EntryKeys) (w : AreKeys k.names) where
  node_at : (p r : Path) (n m : Node) → p ≡ r → SealedNode k p n m → SealedNode k r n m
  node_at p r n m e h = subst (λ (x : Path). SealedNode k x n m) e h

  -- a node is found on both sides, or on none
  pub found : (p q : Path) → Seals k.names p q → (es fs : List Place) → Zips (SealedPlace k) es fs → Both (SealedNode k p) (find es p) (find fs q)
  unfolding Zips find
  found p q s [] [] h = both_none (SealedNode k p)
  found p q s [] (f ∷ fs) h = absurd h
  found p q s (e ∷ es) [] h = absurd h
  found p q s (e ∷ es) (f ∷ fs) h =
      both_cond (SealedNode k p) (same_path e.path p) (same_path f.path q) e.node f.node (find es p) (find fs q) (seals_agree k.names w e.path p f.path q h.0.path s)
      (λ t. node_at e.path p e.node f.node (same_path-true e.path p t) h.0.node) (found p q s es fs h.1)

  -- so is it asked whether there is one
  pub there : (p q : Path) → Seals k.names p q → (es fs : List Place) → Zips (SealedPlace k) es fs → is_there es p ≡ is_there fs q
  unfolding Zips is_there
  there p q s [] [] h = refl
  there p q s [] (f ∷ fs) h = absurd h
  there p q s (e ∷ es) [] h = absurd h
  there p q s (e ∷ es) (f ∷ fs) h = let a = seals_agree k.names w e.path p f.path q h.0.path s in let b = there p q s es fs h.1 in cc

  -- what two functions do to the nodes of a path
  unfoldable pub Keeps : Path → (Node → Node) → (Node → Node) → Type 0
  Keeps p f g = (n m : Node) → SealedNode k p n m → SealedNode k p (f n) (g m)

  changed_place : (p q : Path) (f g : Node → Node) → Seals k.names p q → Keeps p f g → (d e : Place) → SealedPlace k d e → SealedPlace k (changed_at p f d) (changed_at q g e)
  unfolding changed_at Keeps
  changed_place p q f g s x d e h =
      choose (SealedPlace k) (same_path d.path p) (same_path e.path q) _ _ _ _ (seals_agree k.names w d.path p e.path q h.path s)
      (λ t. let v = same_path-true d.path p t in
      record { path = h.path; node = node_at p d.path (f d.node) (g e.node) (sym v) (x d.node e.node (node_at d.path p d.node e.node v h.node)) })
      (λ t. h)

  -- a node is changed on both sides
  pub change_zips : (p q : Path) (f g : Node → Node) → Seals k.names p q → Keeps p f g → (es fs : List Place) → Zips (SealedPlace k) es fs
      → Zips (SealedPlace k) (change p f es) (change q g fs)
  unfolding change
  change_zips p q f g s x es fs h = zips_map (SealedPlace k) (SealedPlace k) (changed_at p f) (changed_at q g) (changed_place p q f g s x) es fs h

  -- a node is added
  pub add_zips : (p q : Path) (n m : Node) → Seals k.names p q → SealedNode k p n m → (es fs : List Place) → Zips (SealedPlace k) es fs → Zips (SealedPlace k) (add p n es) (add q m fs)
  unfolding add
  add_zips p q n m s x es fs h = zips_append (SealedPlace k) es _ fs _ h (zips_one (SealedPlace k) _ _ (record { path = s; node = x }))

  elsewhere : (p q : Path) → Seals k.names p q → (d e : Place) → SealedPlace k d e → is_elsewhere p d ≡ is_elsewhere q e
  unfolding is_elsewhere
  elsewhere p q s d e h = ap not (seals_agree k.names w d.path p e.path q h.path s)

  -- a node is taken out
  pub remove_zips : (p q : Path) → Seals k.names p q → (es fs : List Place) → Zips (SealedPlace k) es fs → Zips (SealedPlace k) (remove p es) (remove q fs)
  unfolding remove
  remove_zips p q s es fs h = zips_filter (SealedPlace k) (is_elsewhere p) (is_elsewhere q) (elsewhere p q s) es fs h

  -- the names of the children are sealed, one by one
  pub children_zips : (p q : Path) → Seals k.names p q → (es fs : List Place) → Zips (SealedPlace k) es fs → Zips (SealsName k.names p) (children p es) (children q fs)
  unfolding children name_of_child
  children_zips p q s es fs h = zips_filter_map (SealedPlace k) (SealsName k.names p) (name_of_child p) (name_of_child q) (λ d e x. under k.names w p q d.path e.path s x.path) es fs h

  -- as many children
  pub children_count : (p q : Path) → Seals k.names p q → (es fs : List Place) → Zips (SealedPlace k) es fs → length (children p es) ≡ length (children q fs)
  children_count p q s es fs h = length_zips (SealsName k.names p) (children p es) (children q fs) (children_zips p q s es fs h)

  -- some children, or none
  pub have_children : (p q : Path) → Seals k.names p q → (es fs : List Place) → Zips (SealedPlace k) es fs → has_children p es ≡ has_children q fs
  unfolding has_children
  have_children p q s es fs h = ap (λ (x : ℕ). not (x == 0)) (children_count p q s es fs h)

  owned : (session : ℤ) (d e : Place) → SealedPlace k d e → Both (Seals k.names) (path_if_owned session d) (path_if_owned session e)
  unfolding path_if_owned
  owned session d e h = both_cond (Seals k.names) (int_eq d.node.numbers.owner session) (int_eq e.node.numbers.owner session) d.path e.path None None
      (ap (λ (n : Numbers). int_eq n.owner session) h.node.numbers) (λ t. h.path) (both_none (Seals k.names))

  -- the ephemeral nodes of a session, in the same order
  pub ephemerals_zip : (session : ℤ) (es fs : List Place) → Zips (SealedPlace k) es fs → Zips (Seals k.names) (ephemerals session es) (ephemerals session fs)
  unfolding ephemerals
  ephemerals_zip session es fs h = zips_filter_map (SealedPlace k) (Seals k.names) (path_if_owned session) (path_if_owned session) (owned session) es fs h

  -- ---- Stats

  longer : (x y : ℕ) → x ≡ y + 61 → (pos 61 ≤ℤ pos x) × (pos y ≡ pos x -ℤ pos 61)
  longer x y e = (omega (arith, ints, e), omega (arith, ints, e))

  -- the length that a store counts, and the plain one
  pub sizes : (p : Path) (d y : Option (List ℕ)) → Holds k.payloads p d y → IsPlainLength p (pos (size_of y)) (pos (size_of d))
  unfolding Holds size_of
  sizes [] d y h = (ap (λ (x : Option (List ℕ)). pos (size_of x)) h.1, ap (λ (x : Option (List ℕ)). pos (size_of x)) h.0)
  sizes (n ∷ p) d None h = absurd h
  sizes (n ∷ p) d (Some payload) h = longer (length payload) (size_of d) (accepted_size k.payloads payload (n ∷ p) d h)

  -- the Stat of a node on both sides
  pub stats : (p q : Path) (n m : Node) → Seals k.names p q → SealedNode k p n m → (es fs : List Place) → Zips (SealedPlace k) es fs → IsPlainStat p (stat_of fs q m) (stat_of es p n)
  unfolding stat_of
  stats p q n m s x es fs h =
      let e = x.numbers in
      let c = children_count p q s es fs h in
      record {
        plain_length = sizes p n.content m.content x.content;
        same_rest = (λ i. record {
          czxid = (e i).czxid;
          mzxid = (e i).mzxid;
          ctime = (e i).ctime;
          mtime = (e i).mtime;
          version = pos (e i).version;
          cversion = pos (min ((e i).creations + (e i).deletions) greatest_int);
          aversion = pos (e i).aversion;
          owner = (e i).owner;
          length = pos (size_of n.content);
          children = pos (c i);
          pzxid = (e i).pzxid;
        });
      }

  -- ---- watches

  on_agree : (a b : Aspect) (p q : Path) → a ≡ b → Seals k.names p q → (u v : Watch) → SealedWatch k.names u v → is_on a p u ≡ is_on b q v
  unfolding is_on
  on_agree a b p q e s u v h = let x = seals_agree k.names w u.path p v.path q h.path s in let y = h.aspect in cc

  if_on : (a : Aspect) (p q : Path) → Seals k.names p q → (u v : Watch) → SealedWatch k.names u v → Both (λ c d. c ≡ d) (connection_if_on a p u) (connection_if_on a q v)
  unfolding connection_if_on
  if_on a p q s u v h = both_cond (λ c d. c ≡ d) (is_on a p u) (is_on a q v) u.connection v.connection None None (on_agree a a p q refl s u v h) (λ t. h.connection) (both_none (λ c d. c ≡ d))

  -- the same connections are told of an event at a path
  pub told_agree : (a : Aspect) (p q : Path) → Seals k.names p q → (us vs : List Watch) → Zips (SealedWatch k.names) us vs → told a p us ≡ told a q vs
  unfolding told
  told_agree a p q s us vs h = same_zips _ _ (zips_filter_map (SealedWatch k.names) (λ c d. c ≡ d) (connection_if_on a p) (connection_if_on a q) (if_on a p q s) us vs h)

  off_agree : (a : Aspect) (p q : Path) → Seals k.names p q → (u v : Watch) → SealedWatch k.names u v → is_off a p u ≡ is_off a q v
  unfolding is_off
  off_agree a p q s u v h = ap not (on_agree a a p q refl s u v h)

  -- what is left of the watches after an event
  pub left_zips : (a : Aspect) (p q : Path) → Seals k.names p q → (us vs : List Watch) → Zips (SealedWatch k.names) us vs → Zips (SealedWatch k.names) (left a p us) (left a q vs)
  unfolding left
  left_zips a p q s us vs h = zips_filter (SealedWatch k.names) (is_off a p) (is_off a q) (off_agree a p q s) us vs h

  -- the watches of other connections
  pub others_zip : (c : ℕ) (us vs : List Watch) → Zips (SealedWatch k.names) us vs → Zips (SealedWatch k.names) (left_of_others c us) (left_of_others c vs)
  unfolding left_of_others is_of_other
  others_zip c us vs h = zips_filter (SealedWatch k.names) (is_of_other c) (is_of_other c) (λ u v x. ap (λ (d : ℕ). not (d == c)) x.connection) us vs h

  same_watch : (u v : Watch) → SealedWatch k.names u v → (x y : Watch) → SealedWatch k.names x y → is_same_watch u x ≡ is_same_watch v y
  unfolding is_same_watch
  same_watch u v h x y j =
      let a : (x.connection == u.connection) ≡ (y.connection == v.connection) = let a = h.connection in let b = j.connection in cc in
      ands_agree _ _ _ _ a (λ t. on_agree u.aspect v.aspect u.path v.path h.aspect h.path x y j)

  after_zips : (u v : Watch) → SealedWatch k.names u v → (us vs : List Watch) → Zips (SealedWatch k.names) us vs → Zips (SealedWatch k.names) (after_lower u us) (after_lower v vs)
  unfolding after_lower Zips
  after_zips u v h [] [] x = (h, tt)
  after_zips u v h [] (y ∷ ys) j = absurd j
  after_zips u v h (x ∷ xs) [] j = absurd j
  after_zips u v h (x ∷ xs) (y ∷ ys) j =
      choose (Zips (SealedWatch k.names)) (nat_le x.connection u.connection) (nat_le y.connection v.connection) _ _ _ _
      (let a = h.connection in let b = j.0.connection in cc)
      (λ t. (j.0, after_zips u v h xs ys j.1)) (λ t. (h, j))

  -- a watch is added
  pub watching_zips : (u v : Watch) → SealedWatch k.names u v → (us vs : List Watch) → Zips (SealedWatch k.names) us vs → Zips (SealedWatch k.names) (watching u us) (watching v vs)
  unfolding watching
  watching_zips u v h us vs j =
      choose (Zips (SealedWatch k.names)) (list_any (is_same_watch u) us) (list_any (is_same_watch v) vs) _ _ _ _
      (any_agree (SealedWatch k.names) (is_same_watch u) (is_same_watch v) (same_watch u v h) us vs j)
      (λ t. j) (λ t. after_zips u v h us vs j)

  -- a watch is added where it is asked for
  pub watching_if_zips : (b : Bool) (u v : Watch) → SealedWatch k.names u v → (us vs : List Watch) → Zips (SealedWatch k.names) us vs
      → Zips (SealedWatch k.names) (watching_if b u us) (watching_if b v vs)
  unfolding watching_if
  watching_if_zips true u v h us vs j = watching_zips u v h us vs j
  watching_if_zips false u v h us vs j = j
