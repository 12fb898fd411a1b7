-- A key that was put in and taken out again, and maps with the same entries.
use Rattle.std.proofs.Common.{◌≡◌, ℕ, Bool, true, false, cond, List, [], ◌∷◌, Option, Some, None, Ordering, Less, Equal, Greater, String, Global, string_bytes, string_cmp, is_eq, nat_cmp, map, option_map, refl, sym, ap, subst, ◌∙◌}
use Rattle.std.specs.Prelude.{All, is_some}
use Rattle.std.specs.Cmp.Lexicographic.{slice_cmp}
use Rattle.std.specs.Map.{lookup, remove_entry}
use Rattle.std.specs.BTreeMap.{insert_entry}
use Rattle.std.specs.Ordering.{match_ordering}
use Rattle.std.proofs.lemmas.Map.Text.{is_eq-slice_cmp}
use Rattle.std.proofs.lemmas.Slice.Eq.{bytes_eq-Decides}
use Rattle.zk_path.specs.Paths.{IsTextOf}
use Rattle.tree_state.specs.declared.node.Node as code
use Rattle.tree_state.specs.declared.places.Places.{Places}
use Rattle.tree_state.specs.Nodes.{Path, Place, is_there}
use Rattle.tree_state.specs.Places.{Entry, node_of, place_of, HasText, HasNames, Holds}
use Rattle.tree_state.proofs.Reorder.{Shuffles}
use Rattle.tree_state.proofs.Found.{there_found}
use Rattle.tree_state.proofs.Entries.{at_text, find_holds}

pub same_holds : (t u : Places) (es : List Place) → u.nodes.entries ≡ t.nodes.entries → Holds t es → Holds u es
same_holds t u es e h = record {
  places = subst (λ (l : List Entry). Shuffles (map place_of l) es) (sym e) h.places;
  apart = h.apart;
  texts = subst (All HasText) (sym e) h.texts;
  names = subst (All (HasNames es)) (sym e) h.names;
  rooted = h.rooted;
  steady = h.steady;
  short = h.short;
}

-- a node is there where its key is
pub there_by_key : (t : Places) (es : List Place) (text : List ℕ) (p : Path) → Holds t es → IsTextOf text p → is_there es p ≡ is_some (lookup (at_text text) t.nodes.entries)
there_by_key t es text p h k = there_found p es ∙ ap is_some (find_holds t es text p h k) ∙ mapped (lookup (at_text text) t.nodes.entries)
  where
    mapped : (o : Option code.Node) → is_some (option_map node_of o) ≡ is_some o
    mapped None = refl
    mapped (Some v) = refl

key_at_text : (text : List ℕ) (key : String Global) → string_bytes key ≡ text → at_text text key ≡ true
key_at_text text key e = is_eq-slice_cmp text (string_bytes key) ∙ (bytes_eq-Decides text (string_bytes key)).1 (sym e)

-- a key that is not there is put in and taken out
pub insert_undone : (es : List Entry) (text : List ℕ) (key : String Global) (v : code.Node) → string_bytes key ≡ text → is_some (lookup (at_text text) es) ≡ false
    → remove_entry (at_text text) (insert_entry string_cmp es key v) ≡ es
insert_undone [] text key v e absent = ap (λ (b : Bool). cond b [] ((key, v) ∷ [])) (key_at_text text key e)
insert_undone (x ∷ es) text key v e absent =
    by_first (at_text text x.0) refl absent (λ m. insert_undone es text key v e m)
  where
    by_order : (o : Ordering) → string_cmp key x.0 ≡ o → at_text text x.0 ≡ false → remove_entry (at_text text) (insert_entry string_cmp es key v) ≡ es
        → remove_entry (at_text text) (match_ordering o ((key, v) ∷ x ∷ es) ((x.0, v) ∷ es) (x ∷ insert_entry string_cmp es key v)) ≡ x ∷ es
    by_order Less i far ih = ap (λ (b : Bool). cond b (x ∷ es) ((key, v) ∷ remove_entry (at_text text) (x ∷ es))) (key_at_text text key e)
    by_order Equal i far ih =
        let same : at_text text x.0 ≡ true = subst (λ (l : List ℕ). is_eq (slice_cmp nat_cmp l (string_bytes x.0)) ≡ true) e (ap is_eq i) in
        absurd cc
    by_order Greater i far ih =
        ap (λ (b : Bool). cond b (insert_entry string_cmp es key v) (x ∷ remove_entry (at_text text) (insert_entry string_cmp es key v))) far ∙ ap (λ (l : List Entry). x ∷ l) ih

    by_first : (b : Bool) → at_text text x.0 ≡ b → is_some (cond b (Some x.1) (lookup (at_text text) es)) ≡ false
        → (is_some (lookup (at_text text) es) ≡ false → remove_entry (at_text text) (insert_entry string_cmp es key v) ≡ es)
        → remove_entry (at_text text) (insert_entry string_cmp (x ∷ es) key v) ≡ x ∷ es
    by_first true i none ih = absurd cc
    by_first false i none ih = by_order (string_cmp key x.0) refl i (ih none)
