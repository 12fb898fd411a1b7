-- The machine at its start.
use Rattle.std.proofs.Common.{◌≡◌, ◌<◌, ◌^◌, ℕ, pos, List, [], refl, sym, subst, arith}
use Rattle.std.proofs.lemmas.Int.{ints}
use Rattle.std.proofs.lemmas.List.Elements.{All-nil}
use Rattle.tree_state.specs.declared.held.Held.{Held}
use Rattle.tree_state.specs.Changes.{Naming}
use Rattle.tree_state.specs.State.{start_at}
use Rattle.tree_state.specs.Trees.{IsNaming, Means}
use Rattle.tree_state.proofs.SessionLists.{AreDistinct, none_live}
use Rattle.store_side.specs.declared.entry.Entry.{Entry}
use Rattle.store_side.specs.Zips.{Zips}
use Rattle.store_side.specs.Orders.{ConnectsOnce, LegalFrom}
use Rattle.store_side.specs.Owed.{reserves}
use Rattle.store_side.specs.Past.{after_all, state_of}
use Rattle.store_side.proofs.NoTrace.{start_none}
use Rattle.tree_server.specs.declared.books.Books.{Books}
use Rattle.tree_server.specs.Machines.{Stands, fresh}
use Rattle.tree_server.specs.Times.{AreDues, IsTimely}

abbrev first_books : List ℕ → ℕ → Books
first_books key limit = record { passwords = key; limit = limit; entries = 0; owed = 0; greatest = pos 0; dues = [] }

no_dues : AreDues [] []
no_dues d = ((λ h. absurd (omega (arith, h.1))), λ h. absurd (none_live d.session h.one h.live))

stands : (named : List ℕ → ℕ → List ℕ → Type 0) (keeps : List Entry → Type 0) (room : ℕ) (held : Held) (naming : Naming) (key : List ℕ)
    (limit : ℕ)
    → IsNaming named naming → Means held (start_at 0) → keeps [] → limit < 2 ^ 63
    → Stands named keeps room held (first_books key limit) (fresh naming key limit)
unfolding state_of after_all Zips LegalFrom ConnectsOnce reserves AreDistinct start_at
stands named keeps room held naming key limit nm m kept small = record {
  naming = nm;
  means = m;
  are_acts = tt;
  steps = tt;
  once = tt;
  quiet = λ c h. start_none c;
  kept = kept;
  roomy = omega arith;
  key = refl;
  limit = refl;
  small = small;
  counted = refl;
  owes = refl;
  within = omega arith;
  greatest = refl;
  given = record { from = omega (arith, ints); within = omega (arith, ints) };
  drawn = record { from = omega (arith, ints); within = omega (arith, ints) };
  dues = no_dues;
  timely = All-nil IsTimely;
  distinct = tt;
}

-- with the books of a store without sessions
pub stands_fresh : (named : List ℕ → ℕ → List ℕ → Type 0) (keeps : List Entry → Type 0) (room : ℕ) (held : Held) (books : Books)
    (naming : Naming) (key : List ℕ) (limit : ℕ)
    → books ≡ first_books key limit
    → IsNaming named naming → Means held (start_at 0) → keeps [] → limit < 2 ^ 63
    → Stands named keeps room held books (fresh naming key limit)
stands_fresh named keeps room held books naming key limit is nm m kept small =
    subst (λ (b : Books). Stands named keeps room held b (fresh naming key limit)) (sym is)
    (stands named keeps room held naming key limit nm m kept small)
