-- Paths and stems of requests, and what they are sealed to.
use Rattle.std.proofs.Common.{◌≡◌, ◌≤◌, ℕ, ℤ, Bool, true, false, List, [], ◌∷◌, length, refl, sym, ap, ◌∙◌, subst, arith, IsTrue, ◌↔◌}
use Rattle.std.proofs.lemmas.Bool.{false≢true}
use Rattle.zk_path.specs.Paths.{IsStem, IsNamed, IsPathText, IsStemText, IsTextOf, joined, text_of}
use Rattle.path_seal.specs.Sealed.{Keys, SealPath, SealStem, sealed}
use Rattle.watch_rewrite.specs.Watches.{SealsText}
use Rattle.zk_messages.specs.Refuses.{IsNameFor, IsSequential}
use Rattle.zk_messages.specs.Short.{IsShort}
use Rattle.request_rewrite.specs.Names.{IsNameOf, SealNameOf}
use Rattle.zk_messages.proofs.Allowed.{stem_for, path_for}

pub stem_text : (stem : List (List ℕ)) → IsStem stem → text_of stem ≡ joined stem
unfolding text_of
stem_text [] h = absurd h
stem_text (n ∷ p) h = refl

pub path_short : (text : List ℕ) (path : List (List ℕ)) → IsTextOf text path → IsShort text → length (text_of path) ≤ 268435456
path_short text path h short = omega (arith, short, ap length h.spelled)

named_length : (text : List ℕ) (sequential : Bool) (path : List (List ℕ)) → IsNamed sequential text path → length text ≡ length (text_of path)
unfolding IsNamed
named_length text true path h = ap length (h.1 ∙ sym (stem_text path h.0))
named_length text false path h = ap length h.spelled

pub name_short : (flags : ℤ) (text : List ℕ) (sequential : Bool) (path : List (List ℕ)) → IsNameOf flags text sequential path → IsShort text → length (text_of path) ≤ 268435456
unfolding IsNameOf
name_short flags text sequential path h short = omega (arith, short, named_length text sequential path h.1)

pub stem_sealed : (k : Keys) (stem : List (List ℕ)) → IsStem stem → SealPath k stem ≡ SealStem k stem
unfolding text_of sealed
stem_sealed k [] h = absurd h
stem_sealed k (n ∷ p) h = refl

named_sealed : (k : Keys) (text : List ℕ) (sequential : Bool) (path : List (List ℕ)) → IsNamed sequential text path → SealPath k path ≡ SealNameOf k sequential path
unfolding IsNamed SealNameOf
named_sealed k text true path h = stem_sealed k path h.0
named_sealed k text false path h = refl

pub name_sealed : (k : Keys) (flags : ℤ) (text veiled : List ℕ) (sequential : Bool) (path : List (List ℕ)) → IsNameOf flags text sequential path → veiled ≡ SealPath k path → veiled ≡ SealNameOf k sequential path
unfolding IsNameOf
name_sealed k flags text veiled sequential path h e = e ∙ named_sealed k text sequential path h.1

pub text_sealed : (k : Keys) (text veiled : List ℕ) (path : List (List ℕ)) → IsTextOf text path → veiled ≡ SealPath k path → SealsText k text veiled
text_sealed k text veiled path h e = record { path = path; named = h; is_sealed = e }

pub stem_named : (flags : ℤ) (text : List ℕ) (sequential : Bool) (path : List (List ℕ)) → (IsTrue sequential ↔ IsSequential flags) → sequential ≡ true → IsNamed true text path → IsNameOf flags text sequential path
unfolding IsNameOf
stem_named flags text sequential path is same h = (is, subst (λ (b : Bool). IsNamed b text path) (sym same) h)

plain_named : (text : List ℕ) (path : List (List ℕ)) → IsTextOf text path → IsNamed false text path
unfolding IsNamed
plain_named text path h = h

pub path_named : (flags : ℤ) (text : List ℕ) (sequential : Bool) (path : List (List ℕ)) → (IsTrue sequential ↔ IsSequential flags) → sequential ≡ false → IsTextOf text path → IsNameOf flags text sequential path
unfolding IsNameOf
path_named flags text sequential path is same h = (is, subst (λ (b : Bool). IsNamed b text path) (sym same) (plain_named text path h))

pub stem_legal : (flags : ℤ) (text : List ℕ) (sequential : Bool) → (IsTrue sequential ↔ IsSequential flags) → sequential ≡ true → IsNameFor flags text → IsStemText text
stem_legal flags text sequential is same h = stem_for flags text (is.0 same) h

pub path_legal : (flags : ℤ) (text : List ℕ) (sequential : Bool) → (IsTrue sequential ↔ IsSequential flags) → sequential ≡ false → IsNameFor flags text → IsPathText text
path_legal flags text sequential is same h = path_for flags text (λ other. false≢true (sym same ∙ is.1 other)) h

pub ruleset names = (path_short, name_short, name_sealed, text_sealed, stem_named, path_named, stem_legal, path_legal)
