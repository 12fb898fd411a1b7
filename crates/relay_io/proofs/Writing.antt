-- What a side took, over several writes.
use Rattle.std.proofs.Common.{◌≡◌, ◌⊎◌, inl, inr, ℕ, zero, suc, ◌+◌, ◌≤◌, List, [], ◌++◌, length, take, refl, sym, ap, subst, ◌∙◌, arith}
use Rattle.std.specs.Prelude.{Option, Some, None, IfSome, Result, Ok, Err}
use Rattle.std.proofs.Math.Seq.{take-append-add}
use Rattle.std.proofs.lemmas.List.{append_assoc, append-nil}
use Rattle.jute_core.specs.Faults.{Rose, HasCause, Takes, Wrote, WroteFront}
use Rattle.relay_io.specs.declared.duo.DuoEvent.{DuoEvent}
use Rattle.relay_io.specs.Sides.{Grew}

pub wrote_ok : {T E : Type 0} (before after : Option (List ℕ)) (piece : List ℕ) (r : Result T E) (x : T) → r ≡ Ok x → Takes before after piece r → Wrote before after piece
wrote_ok None after piece r x is h = tt
wrote_ok {T} {E} (Some b) after piece r x is h = subst (λ (r : Result T E). Takes (Some b) after piece r) is h

pub wrote_front : {T E : Type 0} (before after : Option (List ℕ)) (piece : List ℕ) (r : Result T E) (e : E) → r ≡ Err e → Takes before after piece r → WroteFront before after piece
wrote_front None after piece r e is h = tt
wrote_front {T} {E} (Some b) after piece r e is h = subst (λ (r : Result T E). Takes (Some b) after piece r) is h

pub rose_by : {T E : Type 0} (before now : ℕ) (r : Result T E) (e : E) → r ≡ Err e → HasCause before now r → Rose before now
rose_by {T} {E} before now r e is h = (subst (λ (r : Result T E). HasCause before now r) is h).failed

-- a write, whatever came of it: the whole piece, or a front of it and the count rose
pub wrote_either : {T E : Type 0} (before after : Option (List ℕ)) (piece : List ℕ) (faults now : ℕ) (r : Result T E) → Takes before after piece r → HasCause faults now r → Wrote before after piece ⊎ (Rose faults now × WroteFront before after piece)
wrote_either before after piece faults now (Ok x) h k = inl (wrote_ok before after piece (Ok x) x refl h)
wrote_either before after piece faults now (Err e) h k = inr (k.failed, wrote_front before after piece (Err e) e refl h)

-- a write of nothing writes nothing
take_none : (n : ℕ) → take {A = ℕ} n [] ≡ []
take_none zero = refl
take_none (suc n) = refl

pub wrote_none : {T E : Type 0} (before after : Option (List ℕ)) (r : Result T E) → Takes before after [] r → Wrote before after []
wrote_none None after r h = tt
wrote_none (Some b) after (Ok x) h = h
wrote_none (Some b) after (Err e) h = h.1 ∙ ap (λ (ys : List ℕ). Some (b ++ ys)) (take_none h.0)

pub wrote_nothing : (a : Option (List ℕ)) → Wrote a a []
wrote_nothing None = tt
wrote_nothing (Some b) = ap Some (sym (append-nil b))

-- a write behind another one
pub wrote_both : (a b c : Option (List ℕ)) (first more : List ℕ) → Wrote a b first → Wrote b c more → Wrote a c (first ++ more)
wrote_both None b c first more h k = tt
wrote_both (Some x) b c first more h k =
    let l : Wrote (Some (x ++ first)) c more = subst (λ (b : Option (List ℕ)). Wrote b c more) h k in
    l ∙ ap Some (append_assoc x first more)

pub front_behind : (a b c : Option (List ℕ)) (first more : List ℕ) → Wrote a b first → WroteFront b c more → WroteFront a c (first ++ more)
front_behind None b c first more h k = tt
front_behind (Some x) b c first more h k =
    let l : WroteFront (Some (x ++ first)) c more = subst (λ (b : Option (List ℕ)). WroteFront b c more) h k in
    (length first + l.0, l.1 ∙ ap Some (append_assoc x first (take l.0 more) ∙ ap (λ (ys : List ℕ). x ++ ys) (sym (take-append-add first more l.0))))

-- events behind others
pub grew_both : (a b c : Option (List DuoEvent)) (first more : List DuoEvent) → Grew a b first → Grew b c more → Grew a c (first ++ more)
grew_both None b c first more h k = tt
grew_both (Some x) b c first more h k =
    let l : Grew (Some (x ++ first)) c more = subst (λ (b : Option (List DuoEvent)). Grew b c more) h k in
    l ∙ ap Some (append_assoc x first more)

pub grew_none : (a b : Option (List DuoEvent)) → b ≡ a → Grew a b []
grew_none None b h = tt
grew_none (Some x) b h = h ∙ ap Some (sym (append-nil x))

-- a count that rose at the end, or at the beginning, rose
pub rose_later : (a b c : ℕ) → a ≤ b → Rose b c → Rose a c
rose_later a b c h r = grind arith
