-- What is told and written, output by output.
use Rattle.std.proofs.Common.{◌≡◌, ℕ, ◌+◌, ◌-◌, ◌<◌, ◌≤◌, ◌^◌, min, List, [], ◌∷◌, ◌++◌, append-nil, append_assoc, add-one, length, length-append, get_or, set, drop, drop-cons, suc, Option, Some, None, Bool, cond, refl, sym, ap, ◌∙◌, subst, inl, inr, arith}
use Rattle.std.specs.Prelude.{Contains}
use Rattle.std.proofs.lemmas.Bool.{cases_eq, eq-eqb, ne_eqb}
use Rattle.std.proofs.Math.ListN.{drop_of_length-le}
use Rattle.std.proofs.lemmas.List.Elements.{All-contains, Contains-append_right}
use Rattle.std.proofs.lemmas.Option.{same_Some, none-some}
use Rattle.jute_core.specs.Frames.{frame}
use Rattle.tree_state.specs.declared.message.Output.{Output}
use Rattle.store_side.specs.Calls.{with_at}
use Rattle.store_side.specs.Fitting.{AllCanBeSent, CanBeSent}
use Rattle.store_side.specs.Messages.{SpellsMessage, Messages}
use Rattle.store_side.specs.Out.{to_connection}
use Rattle.store_side.proofs.Appended.{to_connection-append}
use Rattle.tree_server.proofs.MessageBytes.{messages_none, messages_one, messages-append}
use Rattle.tree_server.specs.declared.lines.Line.{Line}
use Rattle.tree_server.specs.declared.lines.Lines.{Lines}
use Rattle.tree_server.specs.Connections.{line_at, IsPlace, unwritten_in, AddsTold, TellsLine, Writes, WritesFirst, HoldsLine, Holds, HoldsRest}
use Rattle.tree_server.proofs.LineLists.{Sets, line_set, with_at_here, with_at_other}

-- ---- one output

none_to : (c : ℕ) → to_connection c [] ≡ []
unfolding to_connection
none_to c = refl

to_its_own : (o : Output) (c : ℕ) → c ≡ o.connection → to_connection c (o ∷ []) ≡ o.message ∷ []
unfolding to_connection
to_its_own o c e = ap (λ (b : Bool). cond b (o.message ∷ []) []) (eq-eqb o.connection c (sym e))

to_no_other : (o : Output) (c : ℕ) → (c ≡ o.connection → ⊥) → to_connection c (o ∷ []) ≡ []
unfolding to_connection
to_no_other o c h = ap (λ (b : Bool). cond b (o.message ∷ []) []) (ne_eqb o.connection c (λ e. h (sym e)))

-- the bytes of one output
bytes_of : Output → List ℕ → ℕ → List ℕ
bytes_of o b = with_at o.connection b (λ c. [])

one_spelled : (o : Output) (b : List ℕ) → Messages (o.message ∷ []) b → (c : ℕ) → Messages (to_connection c (o ∷ [])) (bytes_of o b c)
unfolding bytes_of
one_spelled o b h c = elim (cases_eq c o.connection) [
  | inl e ↦ subst (λ l. Messages l (bytes_of o b c)) (sym (to_its_own o c e))
      (subst (Messages (o.message ∷ [])) (sym (with_at_here o.connection b (λ c. []) c e)) h)
  | inr n ↦ subst (λ l. Messages l (bytes_of o b c)) (sym (to_no_other o c n))
      (subst (Messages []) (sym (with_at_other o.connection b (λ c. []) c n)) messages_none)
]

-- ---- a line that is told

tells_nothing : (o : Option Line) → TellsLine o o []
unfolding TellsLine
tells_nothing None = (refl, refl)
tells_nothing (Some l) = (l, refl, sym (append-nil l.waiting), refl, omega arith)

tells_then : (x y z : Option Line) (a b : List ℕ) → TellsLine x y a → TellsLine y z b → TellsLine x z (a ++ b)
unfolding TellsLine
tells_then None None z a b h k = (k.0, ap (λ (l : List ℕ). l ++ b) h.1 ∙ k.1)
tells_then None (Some m) z a b h k = absurd (none-some m (sym h.0))
tells_then (Some l) None z a b h k = absurd (none-some h.0 h.1)
tells_then (Some l) (Some m) z a b h k =
    let same : m ≡ h.0 = same_Some m h.0 h.1 in (
      k.0,
      k.1,
      k.2 ∙ ap (λ (x : Line). x.waiting ++ b) same ∙ ap (λ (l : List ℕ). l ++ b) h.2 ∙ append_assoc l.waiting a b,
      k.3 ∙ ap (λ (x : Line). x.standing) same ∙ h.3,
      omega (arith, k.4, ap (λ (x : Line). x.held) same, h.4, length-append a b),
    )

-- the line of the connection is told
told_line : (ls new : List Line) (o : Output) (l k m : Line) → Sets ls new o.connection l m → (adds : AddsTold l k o.message)
    → m ≡ record k { noted = m.noted }
    → (c : ℕ) → TellsLine (line_at ls c) (line_at new c) (bytes_of o (frame adds.adds.body) c)
unfolding TellsLine bytes_of
told_line ls new o l k m s adds e c = elim (cases_eq c o.connection) [
  | inl h ↦
      let b : List ℕ = frame adds.adds.body in
      let grown : m.waiting ≡ l.waiting ++ b = ap (λ (x : Line). x.waiting) e ∙ adds.adds.added in
      let tells : TellsLine (Some l) (Some m) b = (
        m,
        refl,
        grown,
        ap (λ (x : Line). x.standing) e ∙ adds.standing,
        omega (arith, ap (λ (x : Line). x.held) e, adds.held, ap length adds.adds.added, length-append l.waiting b),
      ) in
      subst (λ y. TellsLine (line_at ls c) (line_at new c) y) (sym (with_at_here o.connection b (λ d. []) c h))
      (subst (λ y. TellsLine y (line_at new c) b) (sym (ap (line_at ls) h ∙ s.was))
      (subst (λ y. TellsLine (Some l) y b) (sym (ap (line_at new) h ∙ s.now)) tells))
  | inr n ↦
      subst (λ y. TellsLine (line_at ls c) (line_at new c) y) (sym (with_at_other o.connection (frame adds.adds.body) (λ d. []) c n))
      (subst (λ y. TellsLine (line_at ls c) y []) (sym (s.others c n)) (tells_nothing (line_at ls c)))
]

pub told_one : (ls : List Line) (i : ℕ) (l k m : Line) (o : Output) → IsPlace o.connection i → length ls < 2 ^ 63 → i < length ls
    → l ≡ get_or ls i l
    → AddsTold l k o.message → m ≡ record k { noted = m.noted } → Writes ls (set ls i m) (o ∷ [])
told_one ls i l k m o p few within is adds e =
    let s = line_set ls o.connection i l m p few within is in
    record {
      size = s.size;
      bytes = bytes_of o (frame adds.adds.body);
      spelled = λ c x h. one_spelled o (frame adds.adds.body) (messages_one o.message adds.adds.body adds.adds.spelled adds.adds.fits) c;
      told = told_line ls (set ls i m) o l k m s adds e;
    }

-- one to no line is passed over
pub told_none : (ls : List Line) (o : Output) → line_at ls o.connection ≡ None → Writes ls ls (o ∷ [])
told_none ls o none = record {
  size = refl;
  bytes = λ c. [];
  spelled = λ c x h. subst (λ l. Messages l []) (sym (to_no_other o c
      (λ e. none-some x (sym none ∙ sym (ap (line_at ls) e) ∙ h)))) messages_none;
  told = λ c. tells_nothing (line_at ls c);
}

-- ---- several

writes_none : (ls : List Line) → Writes ls ls []
writes_none ls = record {
  size = refl;
  bytes = λ c. [];
  spelled = λ c x h. subst (λ l. Messages l []) (sym (none_to c)) messages_none;
  told = λ c. tells_nothing (line_at ls c);
}

-- a line that is told is there
line_told : (x y : Option Line) (b : List ℕ) (l : Line) → TellsLine x y b → x ≡ Some l → (m : Line) × (y ≡ Some m)
unfolding TellsLine
line_told None y b l h e = absurd (none-some l e)
line_told (Some k) y b l h e = (h.0, h.1)

writes_then : (a b d : List Line) (os us : List Output) → Writes a b os → Writes b d us → Writes a d (os ++ us)
writes_then a b d os us h k = record {
  size = k.size ∙ h.size;
  bytes = λ c. h.bytes c ++ k.bytes c;
  spelled = λ c l e.
      let m = line_told (line_at a c) (line_at b c) (h.bytes c) l (h.told c) e in
      subst (λ x. Messages x (h.bytes c ++ k.bytes c)) (sym (to_connection-append c os us))
      (messages-append (to_connection c os) (to_connection c us) (h.bytes c) (k.bytes c) (h.spelled c l e) (k.spelled c m.0 m.1));
  told = λ c. tells_then (line_at a c) (line_at b c) (line_at d c) (h.bytes c) (k.bytes c) (h.told c) (k.told c);
}

-- ---- from the first on

-- the output at a place of these, which are lent
pub record IsNextOf (us lent : List Output) (i : ℕ) (o : Output) : Type 0 where
  pub same : lent ≡ us
  pub within : i < length us
  pub is : o ≡ get_or lent i o

drop_next : (us lent : List Output) (i : ℕ) (o : Output) → IsNextOf us lent i o → drop i us ≡ o ∷ drop (i + 1) us
drop_next us lent i o n =
    let read : get_or us i o ≡ o = ap (λ (l : List Output). get_or l i o) (sym n.same) ∙ sym n.is in
    rw add-one (drop-cons us i o n.within ∙ ap (λ (x : Output). x ∷ drop (suc i) us) read)

drop_end : (us : List Output) (i : ℕ) → length us ≤ i → drop i us ≡ []
drop_end us i h = drop_of_length-le us h

pub write_none : (ls : Lines) → WritesFirst ls ls
write_none ls = record { outputs = []; cut = refl; writes = writes_none ls.lines.items }

unwritten_next : (b d : Lines) (lent : List Output) (o : Output) → IsNextOf b.unwritten lent b.written o → d.unwritten ≡ b.unwritten
    → d.written ≡ b.written + 1 → unwritten_in b ≡ o ∷ unwritten_in d
unwritten_next b d lent o g u w =
    drop_next b.unwritten lent b.written o g ∙ ap (λ (n : ℕ). o ∷ drop n b.unwritten) (sym w)
    ∙ ap (λ (os : List Output). o ∷ drop d.written os) (sym u)

pub write_more : (a b d : Lines) (lent : List Output) (o : Output) → WritesFirst a b → IsNextOf b.unwritten lent b.written o
    → Writes b.lines.items d.lines.items (o ∷ [])
    → d.unwritten ≡ b.unwritten → d.written ≡ b.written + 1 → WritesFirst a d
write_more a b d lent o h g k u w = record {
  outputs = h.outputs ++ o ∷ [];
  cut = h.cut ∙ ap (λ (os : List Output). h.outputs ++ os) (unwritten_next b d lent o g u w)
      ∙ sym (append_assoc h.outputs (o ∷ []) (unwritten_in d));
  writes = writes_then a.lines.items b.lines.items d.lines.items h.outputs (o ∷ []) h.writes k;
}

-- the next one could not be written
pub write_stop : (a b d : Lines) → WritesFirst a b → d.lines.items ≡ b.lines.items → d.unwritten ≡ b.unwritten → d.written ≡ b.written
    → WritesFirst a d
write_stop a b d h e u w = record {
  outputs = h.outputs;
  cut = h.cut ∙ ap (λ (os : List Output). h.outputs ++ os) (ap (λ (n : ℕ). drop n b.unwritten) (sym w) ∙ ap (drop d.written) (sym u));
  writes = subst (λ x. Writes a.lines.items x h.outputs) (sym e) h.writes;
}

pub some_unwritten : (b d : Lines) (lent : List Output) (o : Output) → IsNextOf b.unwritten lent b.written o → d.unwritten ≡ b.unwritten
    → d.written ≡ b.written → unwritten_in d ≡ [] → ⊥
some_unwritten b d lent o g u w e =
    let rest = drop_next b.unwritten lent b.written o g in
    let none : drop b.written b.unwritten ≡ [] = ap (λ (n : ℕ). drop n b.unwritten) (sym w) ∙ ap (drop d.written) (sym u) ∙ e in
    absurd cc

-- all is written, and let go
pub write_all : (a b d : Lines) → WritesFirst a b → length b.unwritten ≤ b.written → d.lines.items ≡ b.lines.items → unwritten_in d ≡ []
    → WritesFirst a d
write_all a b d h g e u = record {
  outputs = h.outputs;
  cut = h.cut ∙ ap (λ (os : List Output). h.outputs ++ os) (drop_end b.unwritten b.written g ∙ sym u);
  writes = subst (λ x. Writes a.lines.items x h.outputs) (sym e) h.writes;
}

-- ---- what is held back

holds_nothing : (o : Option Line) → HoldsLine o o []
unfolding HoldsLine
holds_nothing None = refl
holds_nothing (Some l) = (l, refl, refl, refl, omega arith)

holds_then : (x y z : Option Line) (a b : List ℕ) → HoldsLine x y a → HoldsLine y z b → HoldsLine x z (a ++ b)
unfolding HoldsLine
holds_then None None z a b h k = k
holds_then None (Some m) z a b h k = absurd (none-some m (sym h))
holds_then (Some l) None z a b h k = absurd (none-some h.0 h.1)
holds_then (Some l) (Some m) z a b h k =
    let same : m ≡ h.0 = same_Some m h.0 h.1 in (
      k.0,
      k.1,
      k.2 ∙ ap (λ (x : Line). x.waiting) same ∙ h.2,
      k.3 ∙ ap (λ (x : Line). x.standing) same ∙ h.3,
      omega (arith, k.4, ap (λ (x : Line). x.held) same, h.4, length-append a b),
    )

held_line : (ls new : List Line) (o : Output) (l k m : Line) (size : ℕ) (b : List ℕ) → Sets ls new o.connection l m
    → k ≡ record l { held = min (l.held + size) (2 ^ 64 - 1) } → m ≡ record k { noted = m.noted } → size ≡ length b
    → (c : ℕ) → HoldsLine (line_at ls c) (line_at new c) (bytes_of o b c)
unfolding HoldsLine bytes_of
held_line ls new o l k m size b s e f n c = elim (cases_eq c o.connection) [
  | inl h ↦
      let holds : HoldsLine (Some l) (Some m) b = (
        m,
        refl,
        ap (λ (x : Line). x.waiting) f ∙ ap (λ (x : Line). x.waiting) e,
        ap (λ (x : Line). x.standing) f ∙ ap (λ (x : Line). x.standing) e,
        omega (arith, ap (λ (x : Line). x.held) f, ap (λ (x : Line). x.held) e, n),
      ) in
      subst (λ y. HoldsLine (line_at ls c) (line_at new c) y) (sym (with_at_here o.connection b (λ d. []) c h))
      (subst (λ y. HoldsLine y (line_at new c) b) (sym (ap (line_at ls) h ∙ s.was))
      (subst (λ y. HoldsLine (Some l) y b) (sym (ap (line_at new) h ∙ s.now)) holds))
  | inr x ↦
      subst (λ y. HoldsLine (line_at ls c) (line_at new c) y) (sym (with_at_other o.connection b (λ d. []) c x))
      (subst (λ y. HoldsLine (line_at ls c) y []) (sym (s.others c x)) (holds_nothing (line_at ls c)))
]

pub held_one : (ls : List Line) (i : ℕ) (l k m : Line) (o : Output) (size : ℕ) → IsPlace o.connection i → length ls < 2 ^ 63 → i < length ls
    → l ≡ get_or ls i l
    → (CanBeSent o.message → (body : List ℕ) × SpellsMessage o.message body × (size ≡ length (frame body)))
    → k ≡ record l { held = min (l.held + size) (2 ^ 64 - 1) } → m ≡ record k { noted = m.noted }
    → CanBeSent o.message → Holds ls (set ls i m) (o ∷ [])
held_one ls i l k m o size p few within is counted e f can =
    let s = line_set ls o.connection i l m p few within is in
    let b = counted can in
    record {
      size = s.size;
      bytes = bytes_of o (frame b.0);
      spelled = one_spelled o (frame b.0) (messages_one o.message b.0 b.1 (can.fits b.0 b.1));
      told = held_line ls (set ls i m) o l k m size (frame b.0) s e f b.2;
    }

missing_line : (ls : List Line) (o : Output) (b : List ℕ) → line_at ls o.connection ≡ None → (c : ℕ)
    → HoldsLine (line_at ls c) (line_at ls c) (bytes_of o b c)
unfolding HoldsLine bytes_of
missing_line ls o b none c = elim (cases_eq c o.connection) [
  | inl h ↦ subst (λ y. HoldsLine y y (bytes_of o b c)) (sym (ap (line_at ls) h ∙ none)) refl
  | inr k ↦ subst (λ y. HoldsLine (line_at ls c) (line_at ls c) y) (sym (with_at_other o.connection b (λ d. []) c k))
      (holds_nothing (line_at ls c))
]

pub held_none : (ls : List Line) (o : Output) (size : ℕ) → line_at ls o.connection ≡ None
    → (CanBeSent o.message → (body : List ℕ) × SpellsMessage o.message body × (size ≡ length (frame body))) → CanBeSent o.message
    → Holds ls ls (o ∷ [])
held_none ls o size none counted can =
    let b = counted can in
    record {
      size = refl;
      bytes = bytes_of o (frame b.0);
      spelled = one_spelled o (frame b.0) (messages_one o.message b.0 b.1 (can.fits b.0 b.1));
      told = missing_line ls o (frame b.0) none;
    }

-- those before this place are counted so
pub record HoldsFirst (old new : Lines) (place : ℕ) : Type 0 where
  pub outputs : List Output
  pub cut : unwritten_in old ≡ outputs ++ drop place old.unwritten
  pub holds : Holds old.lines.items new.lines.items outputs

pub record HoldsTo (old new : Lines) (place : ℕ) : Type 0 where
  pub unwritten : new.unwritten ≡ old.unwritten
  pub written : new.written ≡ old.written
  pub first : AllCanBeSent (unwritten_in old) → HoldsFirst old new place

pub hold_none : (ls : Lines) → HoldsTo ls ls ls.written
hold_none ls = record {
  unwritten = refl;
  written = refl;
  first = λ all. record {
    outputs = [];
    cut = refl;
    holds = record {
      size = refl;
      bytes = λ c. [];
      spelled = λ c. subst (λ l. Messages l []) (sym (none_to c)) messages_none;
      told = λ c. holds_nothing (line_at ls.lines.items c);
    };
  };
}

holds_more : (a b d : List Line) (os us : List Output) → Holds a b os → Holds b d us → Holds a d (os ++ us)
holds_more a b d os us h k = record {
  size = k.size ∙ h.size;
  bytes = λ c. h.bytes c ++ k.bytes c;
  spelled = λ c. subst (λ x. Messages x (h.bytes c ++ k.bytes c)) (sym (to_connection-append c os us))
      (messages-append (to_connection c os) (to_connection c us) (h.bytes c) (k.bytes c) (h.spelled c) (k.spelled c));
  told = λ c. holds_then (line_at a c) (line_at b c) (line_at d c) (h.bytes c) (k.bytes c) (h.told c) (k.told c);
}

hold_next : (a b d : Lines) (lent : List Output) (o : Output) (place : ℕ) → HoldsTo a b place → IsNextOf b.unwritten lent place o
    → (CanBeSent o.message → Holds b.lines.items d.lines.items (o ∷ [])) → AllCanBeSent (unwritten_in a) → HoldsFirst a d (place + 1)
hold_next a b d lent o place h g k all =
    let f = h.first all in
    let rest : drop place a.unwritten ≡ o ∷ drop (place + 1) a.unwritten =
    subst (λ us. drop place us ≡ o ∷ drop (place + 1) us) h.unwritten (drop_next b.unwritten lent place o g) in
    let cut : unwritten_in a ≡ f.outputs ++ (o ∷ drop (place + 1) a.unwritten) = f.cut ∙ ap (λ (l : List Output). f.outputs ++ l) rest in
    let can : CanBeSent o.message = All-contains (λ x. CanBeSent x.message) (unwritten_in a) o all
    (subst (λ l. Contains l o) (sym cut) (Contains-append_right f.outputs (o ∷ drop (place + 1) a.unwritten) o (0, omega arith, refl))) in
    record {
      outputs = f.outputs ++ o ∷ [];
      cut = cut ∙ sym (append_assoc f.outputs (o ∷ []) (drop (place + 1) a.unwritten));
      holds = holds_more a.lines.items b.lines.items d.lines.items f.outputs (o ∷ []) f.holds (k can);
    }

pub hold_more : (a b d : Lines) (lent : List Output) (o : Output) (place : ℕ) → HoldsTo a b place → IsNextOf b.unwritten lent place o
    → (CanBeSent o.message → Holds b.lines.items d.lines.items (o ∷ [])) → d.unwritten ≡ b.unwritten → d.written ≡ b.written
    → HoldsTo a d (place + 1)
hold_more a b d lent o place h g k u w = record {
  unwritten = u ∙ h.unwritten;
  written = w ∙ h.written;
  first = hold_next a b d lent o place h g k;
}

pub hold_all : (a b : Lines) (place : ℕ) → HoldsTo a b place → length a.unwritten ≤ place → AllCanBeSent (unwritten_in a) → HoldsRest a b
hold_all a b place h over all =
    let f = h.first all in
    let whole : unwritten_in a ≡ f.outputs = f.cut ∙ ap (λ (l : List Output). f.outputs ++ l) (drop_end a.unwritten place over)
    ∙ append-nil f.outputs in
    record {
      unwritten = h.unwritten;
      written = h.written;
      holds = subst (λ l. Holds a.lines.items b.lines.items l) (sym whole) f.holds;
    }
