-- How frames are cut from a piece of bytes.
use Rattle.std.proofs.Common.{◌≡◌, ◌↔◌, IsTrue, ℕ, ℤ, ◌+◌, ◌<◌, ◌≤◌, Bool, true, false, List, [], ◌∷◌, ◌++◌, length, take, drop, Result, Ok, Err, refl, sym, ap, subst, ◌∙◌, arith, append_assoc, append-nil, length-append}
use Rattle.std.specs.Prelude.{IfOk, OnOk, is_ok}
use Rattle.std.specs.List.{flat_map}
use Rattle.std.proofs.lemmas.Bool.{false≢true}
use Rattle.std.proofs.lemmas.Grind.{flat_map-append}
use Rattle.std.proofs.lemmas.List.{take-append-drop}
use Rattle.std.proofs.Math.Seq.{take-length}
use Rattle.jute_core.specs.Frames.{frame, IsRest}
use Rattle.zk_frame.specs.Framing.{Framing, IsWhole, IsTooLong, Feeds, Takes, Waits}
use Rattle.zk_frame.specs.declared.framer.FrameFault.{FrameFault}
use Rattle.zk_frame.specs.declared.framer.FrameFault.TheVariants as faults
use Rattle.zk_frame.proofs.Prefixes.{frame_length}
use Rattle.store_side.specs.declared.ending.StoreEnding.{StoreEnding}
use Rattle.tree_server.specs.Servers.{CutsFrame, KeepsPart, BeginsFrame}

-- ---- bytes
pub one_frame : (bodies : List (List ℕ)) (body : List ℕ) → flat_map frame bodies ++ frame body ≡ flat_map frame (bodies ++ body ∷ [])
one_frame bodies body = ap (λ (l : List ℕ). flat_map frame bodies ++ l) (sym (append-nil (frame body))) ∙ sym (flat_map-append frame bodies (body ∷ []))

pub bytes_more : (bodies : List (List ℕ)) (body more : List ℕ) → flat_map frame bodies ++ (frame body ++ more) ≡ flat_map frame (bodies ++ body ∷ []) ++ more
bytes_more bodies body more = sym (append_assoc (flat_map frame bodies) (frame body) more) ∙ ap (λ (l : List ℕ). l ++ more) (one_frame bodies body)

pub cut_frame : (f g : Framing) (rest : List ℕ) (count : ℕ) (body : List ℕ) → CutsFrame f g rest count body → f.held ++ rest ≡ frame body ++ (g.held ++ drop count rest)
cut_frame f g rest count body c =
    ap (λ (l : List ℕ). f.held ++ l) (sym (take-append-drop count rest)) ∙ sym (append_assoc f.held (take count rest) (drop count rest))
    ∙ ap (λ (l : List ℕ). l ++ drop count rest) c.whole ∙ ap (λ (x : Framing). frame body ++ (x.held ++ drop count rest)) (sym c.left)

-- each turn leaves less
pub cut_less : (f g : Framing) (rest : List ℕ) (count : ℕ) (body : List ℕ) → CutsFrame f g rest count body → length g.held + length (drop count rest) < length f.held + length rest
cut_less f g rest count body c =
    let e = ap length (cut_frame f g rest count body c) in
    let p = length-append f.held rest in
    let q = length-append (frame body) (g.held ++ drop count rest) in
    let r = length-append g.held (drop count rest) in
    let s = frame_length body in
    omega (arith, e, p, q, r, s)

-- ---- a frame
pub cut_short : (f g : Framing) (piece : List ℕ) (n : ℕ) (body : List ℕ) → Feeds f g piece n → IsWhole g.limit g.held body → f.held ++ take n piece ≡ frame body
cut_short f g piece n body d w = ap (λ (x : Framing). x.held) (sym d.added) ∙ w.same

pub same_limit : (f g : Framing) (piece : List ℕ) (n : ℕ) → Feeds f g piece n → g.limit ≡ f.limit
same_limit f g piece n d = ap (λ (x : Framing). x.limit) d.added

pub short_body : (f g : Framing) (piece : List ℕ) (n : ℕ) (body : List ℕ) → Feeds f g piece n → IsWhole g.limit g.held body → length body ≤ f.limit
short_body f g piece n body d w = subst (λ (m : ℕ). length body ≤ m) (same_limit f g piece n d) w.within

pub begins_frame : (f g : Framing) (piece : List ℕ) (n : ℕ) (body : List ℕ) → Feeds f g piece n → IsWhole g.limit g.held body → BeginsFrame f piece body
begins_frame f g piece n body d w = record {
  more = drop n piece;
  short = short_body f g piece n body d w;
  begins = ap (λ (l : List ℕ). f.held ++ l) (sym (take-append-drop n piece)) ∙ sym (append_assoc f.held (take n piece) (drop n piece)) ∙ ap (λ (l : List ℕ). l ++ drop n piece) (cut_short f g piece n body d w);
}

pub no_rest : (limit : ℕ) (held body : List ℕ) → IsWhole limit held body → IsRest held → ⊥
no_rest limit held body w rest = rest body [] w.fits (w.same ∙ sym (append-nil (frame body)))

pub drops : (f g h : Framing) (body : List ℕ) (ended : Bool) → g.limit ≡ f.limit → IsWhole g.limit g.held body → (IsTrue ended → (b : List ℕ) × Takes g h b) → (ended ≡ false → IsRest g.held) → h ≡ record { limit = f.limit; held = [] }
drops f g h body true same w took rest = (took refl).1.rest ∙ ap (λ (m : ℕ). record { limit = m; held = [] }) same
drops f g h body false same w took rest = absurd (no_rest g.limit g.held body w (rest refl))

pub cuts_frame : (f g h : Framing) (piece : List ℕ) (n : ℕ) (body : List ℕ) (ended : Bool) → Feeds f g piece n → IsWhole g.limit g.held body → (IsTrue ended → (b : List ℕ) × Takes g h b) → (ended ≡ false → IsRest g.held) → CutsFrame f h piece n body
cuts_frame f g h piece n body ended d w took rest = record {
  within = d.within;
  short = short_body f g piece n body d w;
  whole = cut_short f g piece n body d w;
  left = drops f g h body ended (same_limit f g piece n d) w took rest;
}

pub at_least : (n m : ℕ) → (n < m → ⊥) → m ≤ n
at_least n m h = omega (arith, h)

pub take_whole : (piece : List ℕ) (n : ℕ) → n ≤ length piece → length piece ≤ n → take n piece ≡ piece
take_whole piece n f g = let e : n ≡ length piece = omega (arith, f, g) in ap (λ (m : ℕ). take m piece) e ∙ take-length piece

pub taken_all : (g : Framing) (piece : List ℕ) (n : ℕ) → n ≤ length piece → (n < length piece → Waits g) → IsRest g.held → take n piece ≡ piece
taken_all g piece n within stops rest = take_whole piece n within (at_least n (length piece) (λ h. let w = stops h in no_rest g.limit g.held w.0 w.1 rest))

pub keeps_part : (f g : Framing) (piece : List ℕ) (n : ℕ) → Feeds f g piece n → ((z : ℤ) → IsTooLong f.limit (f.held ++ piece) z → ⊥) → IsRest g.held → KeepsPart f g piece
keeps_part f g piece n d within rest =
    let all = taken_all g piece n d.within d.stops rest in
    let kept = d.added ∙ ap (λ (l : List ℕ). record { limit = f.limit; held = f.held ++ l }) all in
    record { kept = kept; partial = rest; within = within }

pub less_left : (f g : Framing) (rest after : List ℕ) (count : ℕ) (body : List ℕ) → after ≡ drop count rest → CutsFrame f g rest count body → length g.held + length after < length f.held + length rest
less_left f g rest after count body e c = subst (λ (l : List ℕ). length g.held + length l < length f.held + length rest) (sym e) (cut_less f g rest count body c)

pub fed_limit : (fed : Result ℕ FrameFault) (f g : Framing) (piece : List ℕ) → IfOk fed (λ n. Feeds f g piece n) → ((z : ℤ) → fed ≡ Err (faults.TooLong z) → g ≡ record f { held = take 4 (f.held ++ piece) }) → (fed ≡ Err faults.Memory → g ≡ f) → g.limit ≡ f.limit
fed_limit (Ok n) f g piece taken long memory = same_limit f g piece n taken
fed_limit (Err (faults.TooLong z)) f g piece taken long memory = ap (λ (x : Framing). x.limit) (long z refl)
fed_limit (Err faults.Memory) f g piece taken long memory = ap (λ (x : Framing). x.limit) (memory refl)

pub not_fed : (n : ℕ) (e : FrameFault) → Ok n ≡ Err e → ⊥
not_fed n e h = cc

pub fed_open : (fed : Result ℕ FrameFault) (given : Result ℕ StoreEnding) (f : Framing) (piece : List ℕ) → is_ok given ≡ is_ok fed → ((z : ℤ) → (fed ≡ Err (faults.TooLong z)) ↔ IsTooLong f.limit (f.held ++ piece) z) → OnOk given ((z : ℤ) → IsTooLong f.limit (f.held ++ piece) z → ⊥)
fed_open (Ok n) (Ok m) f piece e long = λ z h. not_fed n (faults.TooLong z) ((long z).1 h)
fed_open (Err fault) (Ok m) f piece e long = absurd (false≢true (sym e))
fed_open fed (Err end) f piece e long = tt
