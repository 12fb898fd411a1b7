-- Whatever bytes a client sends, they spell items: the first frame is cut off while it is one.
use Rattle.std.proofs.Common.{◌≡◌, ◌<◌, ◌≤◌, ℕ, zero, suc, pos, Bool, true, false, List, [], ◌∷◌, ◌++◌, length, refl, ap, subst, ◌∙◌, arith, length-append}
use Rattle.std.proofs.Math.Decide.{dec_le}
use Rattle.path_seal.proofs.Decided.{dec_both}
use Rattle.jute_core.specs.Frames.{frame}
use Rattle.jute_core.specs.Jute.{int_bytes}
use Rattle.zk_messages.specs.Items.{IsItem}
use Rattle.zk_messages.specs.Sent.{client_limit, BeginsWith, Items, is_first, IsEnd, Sent}
use Rattle.zk_messages.specs.declared.request.Item.{Item}
use Rattle.world_core.specs.Laws.{SpellItems}
use Rattle.world_core.proofs.Deciding.{dec_from, dec_same, Parts, dec_parts}
use Rattle.world_core.proofs.RequestDecided.{dec_item}

-- ---- the first frame

-- a length, and so many bytes that are an item
abbrev IsWhole : Bool → List ℕ → List ℕ → Type 0
IsWhole first x body = (x ≡ int_bytes (pos (length body))) × ((length body ≤ client_limit) × ((item : Item) × IsItem first item body))

-- which more bytes follow
abbrev IsFollowed : Bool → List ℕ → List ℕ → Type 0
IsFollowed first x more = Parts (IsWhole first) x

dec_followed : (first : Bool) (x more : List ℕ) → Dec (IsFollowed first x more)
dec_followed first x more =
    dec_parts (IsWhole first)
    (λ l body. dec_both (dec_same l (int_bytes (pos (length body)))) (dec_both (dec_le (length body) client_limit) (dec_item first body))) x

-- an item in the first frame
record Begins (first : Bool) (bytes : List ℕ) : Type 0 where
  item : Item
  more : List ℕ
  begins : BeginsWith first item more bytes

begins_of : (first : Bool) (bytes : List ℕ) → Parts (IsFollowed first) bytes → Begins first bytes
unfolding frame
begins_of first bytes h =
    let w = h.held in
    record {
      item = w.held.1.1.0;
      more = h.back;
      begins = record {
        body = w.back;
        short = w.held.1.0;
        spelled = w.held.1.1.1;
        cut = h.cut ∙ ap (λ (l : List ℕ). l ++ h.back) (w.cut ∙ ap (λ (l : List ℕ). l ++ w.back) w.held.0);
      };
    }

of_begins : (first : Bool) (bytes : List ℕ) → Begins first bytes → Parts (IsFollowed first) bytes
unfolding frame
of_begins first bytes h =
    let b = h.begins in
    record {
      front = frame b.body;
      back = h.more;
      held = record { front = int_bytes (pos (length b.body)); back = b.body; held = (refl, (b.short, (h.item, b.spelled))); cut = refl };
      cut = b.cut;
    }

dec_begins : (first : Bool) (bytes : List ℕ) → Dec (Begins first bytes)
dec_begins first bytes = dec_from (begins_of first bytes) (of_begins first bytes) (dec_parts (IsFollowed first) (dec_followed first) bytes)

fewer_after : (body more bytes : List ℕ) → bytes ≡ frame body ++ more → length more < length bytes
unfolding frame
fewer_after body more bytes e =
    let four : length (int_bytes (pos (length body))) ≡ 4 = refl in
    omega (arith, four, ap length e, length-append (frame body) more, length-append (int_bytes (pos (length body))) body)

-- ---- all of them

-- whether a frame after these items is the first one, where the one before them was to be
abbrev first_after : Bool → List Item → Bool
first_after first [] = first
first_after first (item ∷ items) = false

record Spelled (first : Bool) (bytes : List ℕ) : Type 0 where
  items : List Item
  rest : List ℕ
  spelled : Items first items rest bytes
  ended : IsEnd (first_after first items) rest

one_more : (first : Bool) (bytes : List ℕ) (h : Begins first bytes) → Spelled false h.more → Spelled first bytes
unfolding Items
one_more first bytes h s =
    let ended = subst (λ (b : Bool). IsEnd b s.rest) (none_first s.items) s.ended in
    record { items = h.item ∷ s.items; rest = s.rest; spelled = (h.more, h.begins, s.spelled); ended = ended }
  where
    none_first : (items : List Item) → first_after false items ≡ false
    none_first [] = refl
    none_first (item ∷ items) = refl

by_frame : (n : ℕ) (first : Bool) (bytes : List ℕ) → length bytes < suc n → ((more : List ℕ) → length more < n → Spelled false more)
    → Dec (Begins first bytes) → Spelled first bytes
unfolding Items
by_frame n first bytes few next (no none) =
    record { items = []; rest = bytes; spelled = refl; ended = λ item more h. none (record { item = item; more = more; begins = h }) }
by_frame n first bytes few next (yes h) =
    let fewer = fewer_after h.begins.body h.more bytes h.begins.cut in one_more first bytes h (next h.more (omega (arith, few, fewer)))

spelled_by : (n : ℕ) (first : Bool) (bytes : List ℕ) → length bytes < n → Spelled first bytes
spelled_by zero first bytes few = absurd (omega (arith, few))
spelled_by (suc n) first bytes few = by_frame n first bytes few (spelled_by n false) (dec_begins first bytes)

is_sent : (bytes : List ℕ) → Spelled true bytes → (items : List Item) × Sent bytes items
is_sent bytes s = (s.items, record { rest = s.rest; spelled = s.spelled; ended = subst (λ (b : Bool). IsEnd b s.rest) (same s.items) s.ended })
  where
    same : (items : List Item) → first_after true items ≡ is_first items
    same [] = refl
    same (item ∷ items) = refl

pub spell_items : SpellItems
spell_items bytes = is_sent bytes (spelled_by (suc (length bytes)) true bytes (omega arith))
