-- An event has one plain form or one flaw.
use Rattle.std.proofs.Common.{◌≡◌, ℤ, ℕ, List, refl, sym, ◌∙◌, ap}
use Rattle.zk_path.specs.Paths.{text_of}
use Rattle.path_seal.specs.Sealed.{Keys, AreKeys}
use Rattle.path_seal.proofs.Apart.{path_apart}
use Rattle.zk_messages.specs.declared.reply.Event.{Event}
use Rattle.watch_rewrite.specs.declared.event.EventFlaw.{EventFlaw}
use Rattle.watch_rewrite.specs.declared.event.EventFlaw.TheVariants.{Kind, State, Path}
use Rattle.watch_rewrite.specs.Events.{IsPlainEvent, IsFlawOf}
use Rattle.watch_rewrite.specs.Laws.{IsEventJudgedOnce}

-- an event by its fields
abbrev event_of : ℤ → ℤ → List ℕ → Event
event_of kind state path = record { kind = kind; state = state; path = path }

same_event : (a b : Event) → a.kind ≡ b.kind → a.state ≡ b.state → a.path ≡ b.path → a ≡ b
same_event a b e f g =
    ap (λ (z : ℤ). event_of z a.state a.path) e ∙ ap (λ (z : ℤ). event_of b.kind z a.path) f ∙ ap (event_of b.kind b.state) g

one_plain : (k : Keys) (event a b : Event) → AreKeys k → IsPlainEvent k event a → IsPlainEvent k event b → a ≡ b
one_plain k event a b keys x y =
    let path : x.path ≡ y.path = path_apart k x.path y.path keys.key_bytes x.opened.0 y.opened.0 (x.opened.1 ∙ sym y.opened.1) in
    same_event a b (x.same_kind ∙ sym y.same_kind) (x.same_state ∙ sym y.same_state) (x.spelled ∙ ap text_of path ∙ sym y.spelled)

one_flaw : (k : Keys) (event : Event) (f g : EventFlaw) → IsFlawOf k event f → IsFlawOf k event g → f ≡ g
one_flaw k event (Kind a) (Kind b) x y = ap Kind (x.0 ∙ sym y.0)
one_flaw k event (Kind a) (State b) x y = absurd (x.1 y.1)
one_flaw k event (Kind a) Path x y = absurd (x.1 y.0)
one_flaw k event (State a) (Kind b) x y = absurd (y.1 x.1)
one_flaw k event (State a) (State b) x y = ap State (x.0 ∙ sym y.0)
one_flaw k event (State a) Path x y = absurd (x.2 y.1)
one_flaw k event Path (Kind b) x y = absurd (y.1 x.0)
one_flaw k event Path (State b) x y = absurd (y.2 x.1)
one_flaw k event Path Path x y = refl

not_both : (k : Keys) (event a : Event) (f : EventFlaw) → IsPlainEvent k event a → IsFlawOf k event f → ⊥
not_both k event a (Kind b) x y = y.1 x.kind
not_both k event a (State b) x y = y.2 x.state
not_both k event a Path x y = y.2 x.path x.opened

pub judged_once : IsEventJudgedOnce
judged_once = record { one_plain = one_plain; one_flaw = one_flaw; not_both = not_both }
