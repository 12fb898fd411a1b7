-- What stays while a store goes on.
use Rattle.std.proofs.Common.{◌≡◌, ◌<◌, List, [], ◌∷◌, ◌++◌, length, arith, length-append}
use Rattle.entry_session.specs.Heard.{from_client, from_store, bad_client, bad_store, given, store_frames}
use Rattle.session_law.specs.Law.{AreBehind}
use Rattle.session_law.specs.Laws.{StaysBehind}

-- an item of a longer list that stands within the shorter one
within : {A : Type 0} (xs more done left : List A) (m : A) → xs ++ more ≡ done ++ m ∷ left → length done < length xs → (others : List A) × (xs ≡ done ++ m ∷ others)
within [] more done left m e l = absurd (omega (arith, l))
within (x ∷ xs) more [] left m e l = (xs, (let first : x ≡ m = cc in λ i. first i ∷ xs))
within (x ∷ xs) more (d ∷ done) left m e l =
    let rest : xs ++ more ≡ done ++ m ∷ left = cc in
    let first : x ≡ d = cc in
    let w = within xs more done left m rest (omega (arith, l)) in
    (w.0, (λ i. first i ∷ w.1 i))

pub stays_behind : StaysBehind
unfolding AreBehind store_frames
stays_behind counts more [] l h = tt
stays_behind counts more (from_store body ∷ hs) l h = (
  (λ done left n e same.
      let w = within counts more done left n e (omega (arith, l, same, length-append (store_frames hs) (body ∷ []))) in
      h.0 done w.0 n w.1 same),
  stays_behind counts more hs (omega (arith, l, length-append (store_frames hs) (body ∷ []))) h.1,
)
stays_behind counts more (from_client body ∷ hs) l h = stays_behind counts more hs l h
stays_behind counts more (bad_client z ∷ hs) l h = stays_behind counts more hs l h
stays_behind counts more (bad_store z ∷ hs) l h = stays_behind counts more hs l h
stays_behind counts more (given e ∷ hs) l h = stays_behind counts more hs l h
