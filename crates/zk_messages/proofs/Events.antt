-- Where the header of an event goes wrong.
use Rattle.std.proofs.Common.{◌≡◌, ℕ, pos, negsuc, ◌+◌, ◌<◌, List, [], ◌++◌, length, refl, inl, inr, ◌∙◌, ap, sym, subst, append_assoc, arith, length-append}
use Rattle.std.proofs.lemmas.List.{append-nil}
use Rattle.jute_core.specs.Jute.{Jute, Value, Spells, int, long}
use Rattle.jute_core.specs.Position.{Position, Passes}
use Rattle.jute_core.specs.Records.{Fails}
use Rattle.jute_core.specs.declared.cursor.Reason.{Reason}
use Rattle.jute_core.specs.declared.cursor.Reason.TheVariants.{Trailing}
use Rattle.jute_core.specs.declared.cursor.Refusal.{Refusal}
use Rattle.jute_core.specs.declared.not_read.NotRead.{NotRead}
use Rattle.jute_core.specs.declared.not_read.NotRead.TheVariants.{Refused, Memory}
use Rattle.zk_records.specs.Headers.{reply_header}
use Rattle.zk_messages.specs.Forms.{fields, RefusedForm, SpellsForm}
use Rattle.zk_messages.specs.Reading.{FailsAt, FailsBody}
use Rattle.zk_messages.specs.Replies.{IsWrong, IsRight, IsWrongBefore, IsWrongHeader, RefusedEvent, SpellsEvent, event_record, event_fields}
use Rattle.zk_messages.specs.declared.reply.Event.{Event}

abbrev Refusing : Type 1
Refusing = ℕ → List ℕ → ℕ → Reason → Type 0

-- something behind it is wrong
field_then_wrong : (t : Jute) (v : Value t) (B : Refusing) (a b : Position) (e : NotRead) → Passes a b t v → FailsAt b B e → FailsAt a (IsWrong t v B) e
field_then_wrong t v B a b (Refused r) p h = record { refused = inr (inr (p.bytes, b.left, p.spelled, p.cut, subst (λ (n : ℕ). B n b.left r.place r.reason) p.moved h.refused)) }
field_then_wrong t v B a b Memory p h = record { refused = tt }

abbrev Third : Refusing → Refusing
Third B = IsWrong int (pos 0) B

abbrev Second : Refusing → Refusing
Second B = IsWrong long (negsuc 0) (Third B)

whole : (B : Refusing) (a : Position) (e : NotRead) → FailsAt a (IsWrong int (negsuc 0) (Second B)) e → FailsAt a (IsWrongBefore B) e
unfolding IsWrongBefore
whole B a e h = h

-- what is wrong before anything is wrong before more
still_wrong : (t : Jute) (v : Value t) (B C : Refusing) (at : ℕ) (b : List ℕ) (place : ℕ) (reason : Reason) → ((n : ℕ) (l : List ℕ) → B n l place reason → C n l place reason) → IsWrong t v B at b place reason → IsWrong t v C at b place reason
still_wrong t v B C at b place reason f h = elim h [
  | inl stops ↦ inl stops
  | inr more ↦ elim more [
    | inl differs ↦ inr (inl differs)
    | inr behind ↦ inr (inr (behind.0, behind.1, behind.2, behind.3, f _ _ behind.4))
  ]
]

not_right : (t : Jute) (v : Value t) (B : Refusing) (a : Position) (e : NotRead) → FailsAt a (IsWrong t v IsRight) e → FailsAt a (IsWrong t v B) e
not_right t v B a (Refused r) h = record { refused = still_wrong t v IsRight B a.place a.left r.place r.reason (λ n l f. absurd f) h.refused }
not_right t v B a Memory h = record { refused = tt }

-- the exits of the reader of the header
pub xid_wrong : (a : Position) (e : NotRead) → FailsAt a (IsWrong int (negsuc 0) IsRight) e → FailsAt a IsWrongHeader e
xid_wrong a e h = whole IsRight a e (not_right int (negsuc 0) (Second IsRight) a e h)

pub zxid_wrong : (a b : Position) (e : NotRead) → Passes a b int (negsuc 0) → FailsAt b (IsWrong long (negsuc 0) IsRight) e → FailsAt a IsWrongHeader e
zxid_wrong a b e p h = whole IsRight a e (field_then_wrong int (negsuc 0) (Second IsRight) a b e p (not_right long (negsuc 0) (Third IsRight) b e h))

pub err_wrong : (a b c : Position) (e : NotRead) → Passes a b int (negsuc 0) → Passes b c long (negsuc 0) → FailsAt c (IsWrong int (pos 0) IsRight) e → FailsAt a IsWrongHeader e
err_wrong a b c e p q h = whole IsRight a e (field_then_wrong int (negsuc 0) (Second IsRight) a b e p (field_then_wrong long (negsuc 0) (Third IsRight) b c e q h))

-- what is wrong with the header is wrong with the event
abbrev NoEvent : Refusing
NoEvent = RefusedForm (fields event_record)

pub header_fails : (a : Position) (body : List ℕ) (e : NotRead) → a ≡ record { place = 0; left = body } → FailsAt a IsWrongHeader e → FailsBody body RefusedEvent e
unfolding IsWrongBefore
header_fails a body (Refused r) at h = record {
  refused =
      subst (λ (p : Position). IsWrong int (negsuc 0) (Second NoEvent) p.place p.left r.place r.reason) at
      (still_wrong int (negsuc 0) (Second IsRight) (Second NoEvent) a.place a.left r.place r.reason
      (λ n l. still_wrong long (negsuc 0) (Third IsRight) (Third NoEvent) n l r.place r.reason
      (λ m k. still_wrong int (pos 0) IsRight NoEvent m k r.place r.reason (λ i j f. absurd f)))
      h.refused);
}
header_fails a body Memory at h = record { refused = tt }

-- behind the header
behind_header : (B : Refusing) (a b : Position) (e : NotRead) → Passes a b reply_header (negsuc 0, (negsuc 0, pos 0)) → FailsAt b B e → FailsAt a (IsWrongBefore B) e
unfolding Spells
behind_header B a b e p h =
    let x = p.spelled.0 in
    let y = p.spelled.3.0 in
    let z = p.spelled.3.1 in
    let split = p.spelled.3.4 in
    let far : length p.bytes ≡ length x + (length y + length z) = omega (arith, ap length p.spelled.4, length-append x p.spelled.1, ap length split, length-append y z) in
    let m : Position = record { place = a.place + length x; left = y ++ (z ++ b.left) } in
    let n : Position = record { place = (a.place + length x) + length y; left = z ++ b.left } in
    let one : Passes a m int (negsuc 0) = record {
      bytes = x;
      spelled = p.spelled.2;
      cut = p.cut ∙ ap (λ (l : List ℕ). l ++ b.left) (p.spelled.4 ∙ ap (λ (l : List ℕ). x ++ l) split) ∙ append_assoc x (y ++ z) b.left ∙ ap (λ (l : List ℕ). x ++ l) (append_assoc y z b.left);
      moved = refl;
    } in
    let two : Passes m n long (negsuc 0) = record { bytes = y; spelled = p.spelled.3.2; cut = refl; moved = refl } in
    let three : Passes n b int (pos 0) = record { bytes = z; spelled = p.spelled.3.3; cut = refl; moved = omega (arith, p.moved, far) } in
    whole B a e (field_then_wrong int (negsuc 0) (Second B) a m e one (field_then_wrong long (negsuc 0) (Third B) m n e two (field_then_wrong int (pos 0) B n b e three h)))

of_body : (a : Position) (body : List ℕ) (e : NotRead) → a ≡ record { place = 0; left = body } → FailsAt a (IsWrongBefore (RefusedForm (fields event_record))) e → FailsBody body RefusedEvent e
of_body a body (Refused r) at h = record { refused = subst (λ (p : Position). IsWrongBefore (RefusedForm (fields event_record)) p.place p.left r.place r.reason) at h.refused }
of_body a body Memory at h = record { refused = tt }

record_fails : (b : Position) (e : NotRead) → Fails b event_record e → FailsAt b (RefusedForm (fields event_record)) e
unfolding RefusedForm
record_fails b (Refused r) h = record { refused = inl h.refused.refused }
record_fails b Memory h = record { refused = tt }

pub fields_fail : (a b : Position) (body : List ℕ) (e : NotRead) → a ≡ record { place = 0; left = body } → Passes a b reply_header (negsuc 0, (negsuc 0, pos 0)) → Fails b event_record e → FailsBody body RefusedEvent e
fields_fail a b body e at p h = of_body a body e at (behind_header _ a b e p (record_fails b e h))

followed : (b c : Position) (v : Event) (r : Refusal) → Passes b c event_record (event_fields v) → (0 < length c.left) × (r ≡ record { place = c.place; reason = Trailing }) → FailsAt b (RefusedForm (fields event_record)) (Refused r)
unfolding RefusedForm SpellsForm
followed b c v r p h = record {
  refused = inr (record {
    value = event_fields v;
    bytes = p.bytes;
    more = c.left;
    spelled = p.spelled;
    cut = p.cut;
    some = h.0;
    found = ap (λ (x : Refusal). x.place) h.1 ∙ p.moved;
    why = ap (λ (x : Refusal). x.reason) h.1;
  });
}

pub more_follows : (a b c : Position) (body : List ℕ) (v : Event) (r : Refusal) → a ≡ record { place = 0; left = body } → Passes a b reply_header (negsuc 0, (negsuc 0, pos 0)) → Passes b c event_record (event_fields v) → (0 < length c.left) × (r ≡ record { place = c.place; reason = Trailing }) → FailsBody body RefusedEvent (Refused r)
more_follows a b c body v r at p q h = of_body a body (Refused r) at (behind_header _ a b (Refused r) p (followed b c v r q h))

pub event_read : (a b c : Position) (body : List ℕ) (v : Event) → a ≡ record { place = 0; left = body } → Passes a b reply_header (negsuc 0, (negsuc 0, pos 0)) → Passes b c event_record (event_fields v) → c.left ≡ [] → SpellsEvent v body
unfolding Spells
event_read a b c body v at p q end = (
  p.bytes,
  q.bytes,
  p.spelled,
  q.spelled,
  ap (λ (x : Position). x.left) (sym at) ∙ p.cut ∙ ap (λ (l : List ℕ). p.bytes ++ l) (q.cut ∙ ap (λ (l : List ℕ). q.bytes ++ l) end ∙ append-nil q.bytes),
)

pub ruleset header_wrong = (xid_wrong, zxid_wrong, err_wrong)

pub ruleset event_wrong = (header_fails, fields_fail, more_follows, event_read)
