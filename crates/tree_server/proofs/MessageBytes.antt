-- The bytes of messages, one behind another.
use Rattle.std.proofs.Common.{◌≡◌, ℕ, List, [], ◌∷◌, ◌++◌, append_assoc, append-nil, refl, sym, ap, ◌∙◌, subst}
use Rattle.jute_core.specs.Frames.{frame, FitsFrame}
use Rattle.tree_state.specs.declared.message.Message.{Message}
use Rattle.store_side.specs.Messages.{SpellsMessage, Messages}
use Rattle.store_side.proofs.OneBody.{one_body}

pub messages_none : Messages [] []
unfolding Messages
messages_none = refl

pub no_bytes : (b : List ℕ) → Messages [] b → b ≡ []
unfolding Messages
no_bytes b h = h

pub messages_one : (m : Message) (body : List ℕ) → SpellsMessage m body → FitsFrame body → Messages (m ∷ []) (frame body)
unfolding Messages
messages_one m body s f = (body, [], s, f, sym (append-nil (frame body)), refl)

pub messages-append : (ms ns : List Message) (x y : List ℕ) → Messages ms x → Messages ns y → Messages (ms ++ ns) (x ++ y)
unfolding Messages
messages-append [] ns x y h k = subst (λ (b : List ℕ). Messages ns (b ++ y)) (sym h) k
messages-append (m ∷ ms) ns x y h k =
    (h.0, h.1 ++ y, h.2, h.3, ap (λ (b : List ℕ). b ++ y) h.4 ∙ append_assoc (frame h.0) h.1 y, messages-append ms ns h.1 y h.5 k)

-- what is left behind the bytes of the first ones
pub record Rest (ns : List Message) (front whole : List ℕ) : Type 0 where
  pub bytes : List ℕ
  pub cut : whole ≡ front ++ bytes
  pub spelled : Messages ns bytes

pub messages_rest : (ms ns : List Message) (x y : List ℕ) → Messages ms x → Messages (ms ++ ns) y → Rest ns x y
unfolding Messages
messages_rest [] ns x y h k = record { bytes = y; cut = ap (λ (b : List ℕ). b ++ y) (sym h); spelled = k }
messages_rest (m ∷ ms) ns x y h k =
    let r = messages_rest ms ns h.1 k.1 h.5 k.5 in
    let same : frame k.0 ≡ frame h.0 = ap frame (one_body m k.0 h.0 k.2 h.2) in
    record {
      bytes = r.bytes;
      cut = k.4 ∙ ap (λ (b : List ℕ). b ++ k.1) same ∙ ap (λ (b : List ℕ). frame h.0 ++ b) r.cut
          ∙ sym (append_assoc (frame h.0) h.1 r.bytes)
          ∙ ap (λ (b : List ℕ). b ++ r.bytes) (sym h.4);
      spelled = r.spelled;
    }

-- messages have one spelling
pub same_messages : (ms : List Message) (x y : List ℕ) → Messages ms x → Messages ms y → x ≡ y
same_messages ms x y h k =
    let r = messages_rest ms [] x y h (subst (λ (l : List Message). Messages l y) (sym (append-nil ms)) k) in
    sym (r.cut ∙ ap (λ (b : List ℕ). x ++ b) (no_bytes r.bytes r.spelled) ∙ append-nil x)
