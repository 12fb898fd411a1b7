-- What was told and written says of a past.
use Rattle.std.proofs.Common.{◌≡◌, ℕ, ◌+◌, ◌-◌, ◌≤◌, List, [], ◌∷◌, ◌++◌, append-nil, append_assoc, length, length-append, drop, Result, Ok, Err, Option, Some, None, Bool, true, false, refl, sym, ap, ◌∙◌, subst, arith}
use Rattle.std.specs.Prelude.{OnOk, OnErr}
use Rattle.std.specs.Option.{option_map_or, option_and_then}
use Rattle.std.proofs.lemmas.Bool.{false≢true}
use Rattle.std.proofs.lemmas.List.{drop_at}
use Rattle.std.proofs.lemmas.List.Elements.{All-drop, All-same}
use Rattle.jute_core.specs.declared.held.Memory.{Memory}
use Rattle.std.proofs.lemmas.Option.{same_Some, none-some}
use Rattle.tree_state.specs.declared.message.Message.{Message}
use Rattle.tree_state.specs.declared.message.Output.{Output}
use Rattle.store_side.specs.Fitting.{AllCanBeSent, CanBeSent}
use Rattle.store_side.specs.Follows.{IsAdmitted}
use Rattle.store_side.specs.Messages.{Messages}
use Rattle.store_side.specs.Out.{to_connection}
use Rattle.store_side.specs.Past.{Past}
use Rattle.store_side.proofs.Appended.{to_connection-append}
use Rattle.tree_server.proofs.MessageBytes.{Rest, messages_none, messages-append, messages_rest, same_messages}
use Rattle.tree_server.specs.declared.lines.Line.{Line}
use Rattle.tree_server.specs.declared.lines.Lines.{Lines}
use Rattle.tree_server.specs.Connections.{line_at, ending_of, held_by, waiting_at, rest_at, ending_at, HoldsPart, AreLines, SpellEach, unwritten_in, TellsLine, WritesFirst, HoldsLine, HoldsRest, told_more}
use Rattle.tree_server.proofs.LineLists.{not_admitted}
use Rattle.tree_server.proofs.OneLine.{nothing_behind, all_waits}

-- ---- one line

-- bytes were written behind what waits, and nothing else changed
record Wrote (old new : List Line) (c : ℕ) (b : List ℕ) : Type 0 where
  pub waits : waiting_at new c ≡ waiting_at old c ++ b
  pub rests : rest_at new c ≡ rest_at old c
  pub ends : ending_at new c ≡ ending_at old c

wrote : (old new : List Line) (c : ℕ) (b : List ℕ) → TellsLine (line_at old c) (line_at new c) b → Wrote old new c b
unfolding waiting_at rest_at ending_at TellsLine
wrote old new c b h = go (line_at old c) (line_at new c) refl refl h
  where
    go : (x y : Option Line) → line_at old c ≡ x → line_at new c ≡ y → TellsLine x y b → Wrote old new c b
    go None y e f h = record {
      waits = ap (λ (o : Option Line). option_map_or (λ l. l.waiting) o []) (f ∙ h.0)
          ∙ sym (ap (λ (o : Option Line). option_map_or (λ l. l.waiting) o [] ++ b) e ∙ h.1);
      rests = ap (λ (o : Option Line). option_map_or (λ l. held_by l.standing) o []) (f ∙ h.0 ∙ sym e);
      ends = ap (λ (o : Option Line). option_and_then (λ l. ending_of l.standing) o) (f ∙ h.0 ∙ sym e);
    }
    go (Some l) y e f h = record {
      waits = ap (λ (o : Option Line). option_map_or (λ l. l.waiting) o []) (f ∙ h.1) ∙ h.2
          ∙ sym (ap (λ (o : Option Line). option_map_or (λ l. l.waiting) o [] ++ b) e);
      rests = ap (λ (o : Option Line). option_map_or (λ l. held_by l.standing) o []) (f ∙ h.1) ∙ ap held_by h.3
          ∙ sym (ap (λ (o : Option Line). option_map_or (λ l. held_by l.standing) o []) e);
      ends = ap (λ (o : Option Line). option_and_then (λ l. ending_of l.standing) o) (f ∙ h.1) ∙ ap ending_of h.3
          ∙ sym (ap (λ (o : Option Line). option_and_then (λ l. ending_of l.standing) o) e);
    }

-- the line that it was
record CameFrom (x : Option Line) (m : Line) (most : ℕ → ℕ) : Type 0 where
  pub line : Line
  pub was : x ≡ Some line
  pub standing : m.standing ≡ line.standing
  pub held : m.held ≤ most line.held

told_from : (x y : Option Line) (b : List ℕ) (m : Line) → TellsLine x y b → y ≡ Some m → CameFrom x m (λ n. n - length b)
unfolding TellsLine
told_from None y b m h e = absurd (none-some m (sym h.0 ∙ e))
told_from (Some l) y b m h e =
    let same : h.0 ≡ m = same_Some h.0 m (sym h.1 ∙ e) in
    record {
      line = l;
      was = refl;
      standing = sym (ap (λ (k : Line). k.standing) same) ∙ h.3;
      held =
          omega (arith, ap (λ (k : Line). k.held) same, h.4);
    }

held_from : (x y : Option Line) (b : List ℕ) (m : Line) → HoldsLine x y b → y ≡ Some m → CameFrom x m (λ n. n + length b)
unfolding HoldsLine
held_from None y b m h e = absurd (none-some m (sym h ∙ e))
held_from (Some l) y b m h e =
    let same : h.0 ≡ m = same_Some h.0 m (sym h.1 ∙ e) in
    record {
      line = l;
      was = refl;
      standing = sym (ap (λ (k : Line). k.standing) same) ∙ h.3;
      held =
          omega (arith, ap (λ (k : Line). k.held) same, h.4);
    }

-- more is counted as held back for a line, and nothing else changed
kept : (old new : List Line) (c : ℕ) (b : List ℕ) → HoldsLine (line_at old c) (line_at new c) b → Wrote old new c []
unfolding waiting_at rest_at ending_at HoldsLine
kept old new c b h = go (line_at old c) (line_at new c) refl refl h
  where
    go : (x y : Option Line) → line_at old c ≡ x → line_at new c ≡ y → HoldsLine x y b → Wrote old new c []
    go None y e f h = record {
      waits = ap (λ (o : Option Line). option_map_or (λ l. l.waiting) o []) (f ∙ h ∙ sym e)
          ∙ sym (append-nil (option_map_or (λ l. l.waiting) (line_at old c) []));
      rests = ap (λ (o : Option Line). option_map_or (λ l. held_by l.standing) o []) (f ∙ h ∙ sym e);
      ends = ap (λ (o : Option Line). option_and_then (λ l. ending_of l.standing) o) (f ∙ h ∙ sym e);
    }
    go (Some l) y e f h = record {
      waits = ap (λ (o : Option Line). option_map_or (λ l. l.waiting) o []) (f ∙ h.1) ∙ h.2 ∙ sym (append-nil l.waiting)
          ∙ sym (ap (λ (o : Option Line). option_map_or (λ l. l.waiting) o [] ++ []) e);
      rests = ap (λ (o : Option Line). option_map_or (λ l. held_by l.standing) o []) (f ∙ h.1) ∙ ap held_by h.3
          ∙ sym (ap (λ (o : Option Line). option_map_or (λ l. held_by l.standing) o []) e);
      ends = ap (λ (o : Option Line). option_and_then (λ l. ending_of l.standing) o) (f ∙ h.1) ∙ ap ending_of h.3
          ∙ sym (ap (λ (o : Option Line). option_and_then (λ l. ending_of l.standing) o) e);
    }

-- ---- what was written

both_none : (xs ys : List Message) → xs ++ ys ≡ [] → (xs ≡ []) × (ys ≡ [])
both_none [] ys h = (refl, h)
both_none (x ∷ xs) ys h = absurd cc

-- what goes to a connection, of what was unwritten
cut_to : (old new : Lines) (f : WritesFirst old new) (c : ℕ) → to_connection c
    (unwritten_in old) ≡ to_connection c f.outputs ++ to_connection c (unwritten_in new)
cut_to old new f c = ap (to_connection c) f.cut ∙ to_connection-append c f.outputs (unwritten_in new)

-- nothing unwritten goes to a number with no line
abbrev pub HasNoStray : Lines → Type 0
HasNoStray ls = (c : ℕ) → line_at ls.lines.items c ≡ None → to_connection c (unwritten_in ls) ≡ []

no_stray : (ls : Lines) (past : Past) → AreLines ls past → HasNoStray ls
no_stray ls past h c e = h.none c (not_admitted ls.lines.items past c h.admitted e)

written_bytes : (old new : Lines) → HasNoStray old → (f : WritesFirst old new) → (c : ℕ)
    → Messages (to_connection c f.outputs) (f.writes.bytes c)
unfolding TellsLine
written_bytes old new none f c = go (line_at old.lines.items c) refl (f.writes.told c)
  where
    go : (x : Option Line) → line_at old.lines.items c ≡ x → TellsLine x (line_at new.lines.items c) (f.writes.bytes c)
        → Messages (to_connection c f.outputs) (f.writes.bytes c)
    go (Some l) e t = f.writes.spelled c l e
    go None e t =
        let out = both_none (to_connection c f.outputs) (to_connection c (unwritten_in new)) (sym (cut_to old new f c) ∙ none c e) in
        subst (λ l. Messages l (f.writes.bytes c)) (sym out.0) (subst (Messages []) (sym t.1) messages_none)

left_behind : (old new : Lines) (past : Past) (h : AreLines old past) (f : WritesFirst old new) (c : ℕ)
    → Rest (to_connection c (unwritten_in new)) (f.writes.bytes c) (h.behind c)
left_behind old new past h f c =
    messages_rest (to_connection c f.outputs) (to_connection c (unwritten_in new)) (f.writes.bytes c) (h.behind c)
    (written_bytes old new (no_stray old past h) f c)
    (subst (λ l. Messages l (h.behind c)) (cut_to old new f c) (h.messages c))

pub flushed : (old new : Lines) (past : Past) (w : Bool) → AreLines old past → WritesFirst old new → (w ≡ true → unwritten_in new ≡ [])
    → AreLines new (record past { written = w })
flushed old new past w h f all =
    let rest = left_behind old new past h f in
    let one = λ (c : ℕ). wrote old.lines.items new.lines.items c (f.writes.bytes c) (f.writes.told c) in
    record {
      admitted = h.admitted ∙ sym f.writes.size;
      few = h.few;
      behind = λ c. (rest c).bytes;
      messages = λ c. (rest c).spelled;
      waiting = λ c. h.waiting c ∙ ap (λ (b : List ℕ). waiting_at old.lines.items c ++ b) (rest c).cut
          ∙ sym (append_assoc (waiting_at old.lines.items c) (f.writes.bytes c) (rest c).bytes)
          ∙ ap (λ (b : List ℕ). b ++ (rest c).bytes) (sym (one c).waits);
      none = λ c out. (both_none (to_connection c f.outputs) (to_connection c (unwritten_in new))
          (sym (cut_to old new f c) ∙ h.none c (λ a. out (record { from = a.from; below = a.below })))).1;
      written = all;
      rests = λ c. h.rests c ∙ sym (one c).rests;
      endings = λ c. h.endings c ∙ sym (one c).ends;
      parts = λ c m e.
          let l = told_from (line_at old.lines.items c) (line_at new.lines.items c) (f.writes.bytes c) m (f.writes.told c) e in
          subst HoldsPart (sym l.standing) (h.parts c l.line l.was);
      held = λ c m e.
          let l = told_from (line_at old.lines.items c) (line_at new.lines.items c) (f.writes.bytes c) m (f.writes.told c) e in
          omega (arith, l.held, h.held c l.line l.was, ap length (rest c).cut, length-append (f.writes.bytes c) (rest c).bytes);
    }

-- all was written
pub flush_done : (r : Result Unit Memory) (old new : Lines) → WritesFirst old new → OnOk r (unwritten_in new ≡ [])
    → OnOk r ((past : Past) → AreLines old past → AreLines new (record past { written = true }))
flush_done (Ok x) old new f all = λ past h. flushed old new past true h f (λ w. all)
flush_done (Err e) old new f all = tt

-- some was not
part_done : (old new : Lines) → WritesFirst old new → (unwritten_in new ≡ [] → ⊥) → (past : Past) → AreLines old past
    → (past.written ≡ false) × AreLines new past
part_done old new f some past h =
    let not_all : past.written ≡ true → ⊥ = λ w. some (no_outputs f.outputs (unwritten_in new) (sym f.cut ∙ h.written w)) in
    (is_false past.written not_all, flushed old new past past.written h f (λ w. absurd (not_all w)))
  where
    no_outputs : (os us : List Output) → os ++ us ≡ [] → us ≡ []
    no_outputs [] us e = e
    no_outputs (o ∷ os) us e = absurd cc

    is_false : (b : Bool) → (b ≡ true → ⊥) → b ≡ false
    is_false true h = absurd (h refl)
    is_false false h = refl

pub flush_part : (r : Result Unit Memory) (old new : Lines) → WritesFirst old new → OnErr r (unwritten_in new ≡ [] → ⊥)
    → OnErr r ((past : Past) → AreLines old past → (past.written ≡ false) × AreLines new past)
flush_part (Ok x) old new f some = tt
flush_part (Err e) old new f some = part_done old new f some

-- ---- what is sent

-- these outputs took the place of the written ones
pub record Places (old mid : Lines) (outputs : List Output) : Type 0 where
  pub lines : mid.lines.items ≡ old.lines.items
  pub unwritten : unwritten_in mid ≡ outputs

placed : (old mid : Lines) (past : Past) (outputs : List Output) (bytes : ℕ → List ℕ) → AreLines old past → past.written ≡ true
    → Places old mid outputs → SpellEach outputs bytes
    → ((c : ℕ) → (IsAdmitted past c → ⊥) → to_connection c outputs ≡ []) → AreLines mid (told_more outputs bytes false past)
unfolding told_more
placed old mid past outputs bytes h w p spelled none = record {
  admitted = h.admitted ∙ sym (ap length p.lines);
  few = h.few;
  behind = bytes;
  messages = λ c. subst (λ us. Messages (to_connection c us) (bytes c)) (sym p.unwritten) (spelled c);
  waiting = λ c. ap (λ (b : List ℕ). b ++ bytes c) (all_waits old past h (h.written w) c
      ∙ ap (λ (l : List Line). waiting_at l c) (sym p.lines));
  none = λ c out. ap (to_connection c) p.unwritten ∙ none c (λ a. out (record { from = a.from; below = a.below }));
  written = λ e. absurd (false≢true e);
  rests = λ c. h.rests c ∙ ap (λ (l : List Line). rest_at l c) (sym p.lines);
  endings = λ c. h.endings c ∙ ap (λ (l : List Line). ending_at l c) (sym p.lines);
  parts = λ c l e. h.parts c l (ap (λ (x : List Line). line_at x c) (sym p.lines) ∙ e);
  held = λ c l e. omega (
    arith,
    h.held c l (ap (λ (x : List Line). line_at x c) (sym p.lines) ∙ e),
    ap length
        (nothing_behind old past h (h.written w) c),
  );
}

-- what was told, and where the lines stand then
pub record Sent (new : Lines) (past : Past) (outputs : List Output) (w : Bool) : Type 0 where
  pub bytes : ℕ → List ℕ
  pub spelled : SpellEach outputs bytes
  pub lines : AreLines new (told_more outputs bytes w past)

sent : (old mid new : Lines) (past : Past) (outputs : List Output) (rest : ℕ → List ℕ) (w : Bool) → AreLines old past → past.written ≡ true
    → Places old mid outputs
    → WritesFirst mid new → SpellEach (unwritten_in new) rest → (w ≡ true → unwritten_in new ≡ [])
    → ((c : ℕ) → (IsAdmitted past c → ⊥) → to_connection c outputs ≡ [])
    → Sent new past outputs w
unfolding told_more
sent old mid new past outputs rest w h is p f spelled all none =
    let stray : HasNoStray mid = λ c e. ap (to_connection c) p.unwritten
    ∙ none c (not_admitted mid.lines.items past c (h.admitted ∙ sym (ap length p.lines)) e) in
    let front = written_bytes mid new stray f in
    let each : SpellEach outputs (λ c. f.writes.bytes c ++ rest c) = λ c.
    subst (λ l. Messages l (f.writes.bytes c ++ rest c)) (sym (cut_to mid new f c) ∙ ap (to_connection c) p.unwritten)
    (messages-append (to_connection c f.outputs) (to_connection c (unwritten_in new)) (f.writes.bytes c) (rest c) (front c) (spelled c)) in
    record {
      bytes = λ c. f.writes.bytes c ++ rest c;
      spelled = each;
      lines = flushed mid new (told_more outputs (λ c. f.writes.bytes c ++ rest c) false past) w
          (placed old mid past outputs (λ c. f.writes.bytes c ++ rest c) h is p each none) f all;
    }

none_to : (c : ℕ) → to_connection c [] ≡ []
unfolding to_connection
none_to c = refl

-- what `send` says of it
abbrev pub IsSent : Lines → Past → List Output → Bool → Type 0
IsSent new past outputs w = (bytes : ℕ → List ℕ) × SpellEach outputs bytes × AreLines new (told_more outputs bytes w past)

pub sent_all : (old mid new : Lines) (outputs : List Output) → WritesFirst mid new → Places old mid outputs → unwritten_in new ≡ []
    → (past : Past) → AreLines old past → past.written ≡ true → AllCanBeSent outputs
    → ((c : ℕ) → (IsAdmitted past c → ⊥) → to_connection c outputs ≡ []) → IsSent new past outputs true
sent_all old mid new outputs f p all past h is can none =
    let s = sent old mid new past outputs (λ c. []) true h is p f
    (λ c. subst (λ l. Messages l []) (sym (ap (to_connection c) all ∙ none_to c)) messages_none) (λ w. all) none in
    (s.bytes, s.spelled, s.lines)

-- no byte was counted as held back
none_held : (old mid new : Lines) (past : Past) (outputs : List Output) → AreLines old past → past.written ≡ true → Places old mid outputs
    → WritesFirst mid new
    → (c : ℕ) (m : Line) → line_at new.lines.items c ≡ Some m → m.held ≡ 0
none_held old mid new past outputs h is p f c m e =
    let l = told_from (line_at mid.lines.items c) (line_at new.lines.items c) (f.writes.bytes c) m (f.writes.told c) e in
    omega (
      arith,
      l.held,
      h.held c l.line (ap (λ (x : List Line). line_at x c) (sym p.lines) ∙ l.was),
      ap length
          (nothing_behind old past h (h.written is) c),
    )

counted : (new last : Lines) (past : Past) → ((c : ℕ) (m : Line) → line_at new.lines.items c ≡ Some m → m.held ≡ 0) → HoldsRest new last
    → AreLines new past → AreLines last past
counted new last past zero k h =
    let u : unwritten_in last ≡ unwritten_in new = cc (k.unwritten, k.written) in
    let one = λ (c : ℕ). kept new.lines.items last.lines.items c (k.holds.bytes c) (k.holds.told c) in
    record {
      admitted = h.admitted ∙ sym k.holds.size;
      few = h.few;
      behind = h.behind;
      messages = λ c. subst (λ us. Messages (to_connection c us) (h.behind c)) (sym u) (h.messages c);
      waiting = λ c. h.waiting c ∙ ap (λ (b : List ℕ). b ++ h.behind c) (sym ((one c).waits ∙ append-nil (waiting_at new.lines.items c)));
      none = λ c out. ap (to_connection c) u ∙ h.none c out;
      written = λ w. u ∙ h.written w;
      rests = λ c. h.rests c ∙ sym (one c).rests;
      endings = λ c. h.endings c ∙ sym (one c).ends;
      parts = λ c m e.
          let l = held_from (line_at new.lines.items c) (line_at last.lines.items c) (k.holds.bytes c) m (k.holds.told c) e in
          subst HoldsPart (sym l.standing) (h.parts c l.line l.was);
      held = λ c m e.
          let l = held_from (line_at new.lines.items c) (line_at last.lines.items c) (k.holds.bytes c) m (k.holds.told c) e in
          omega (
            arith,
            l.held,
            zero c l.line l.was,
            ap length (same_messages (to_connection c (unwritten_in new)) (k.holds.bytes c) (h.behind c) (k.holds.spelled c)
                (h.messages c)),
          );
    }

-- the rest of the outputs can be sent
rest_can : (os us all : List Output) → all ≡ os ++ us → AllCanBeSent all → AllCanBeSent us
rest_can os us all e h =
    let back : us ≡ drop (length os) all = sym (ap (drop (length os)) e ∙ drop_at os us (length os) refl) in
    All-same (λ o. CanBeSent o.message) us (drop (length os) all) back (All-drop (λ o. CanBeSent o.message) (length os) all h)

pub sent_part : (old mid new last : Lines) (outputs : List Output) → WritesFirst mid new → Places old mid outputs
    → (AllCanBeSent (unwritten_in new) → HoldsRest new last)
    → (past : Past) → AreLines old past → past.written ≡ true → AllCanBeSent outputs
    → ((c : ℕ) → (IsAdmitted past c → ⊥) → to_connection c outputs ≡ []) → IsSent last past outputs false
sent_part old mid new last outputs f p holds past h is can none =
    let k = holds (rest_can f.outputs (unwritten_in new) outputs (sym p.unwritten ∙ f.cut) can) in
    let s = sent old mid new past outputs k.holds.bytes false h is p f k.holds.spelled (λ w. absurd (false≢true w)) none in
    (s.bytes, s.spelled, counted new last (told_more outputs s.bytes false past) (none_held old mid new past outputs h is p f) k s.lines)
