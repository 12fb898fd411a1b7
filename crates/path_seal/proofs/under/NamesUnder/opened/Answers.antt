use Rattle.std.proofs.Common.{◌≡◌, ◌≢◌, ℕ, List, length, get_or, string_bytes, Bool, true, false, not, Ok, bytes_eq, refl, sym, ap, subst, ◌∙◌, arith}
use Rattle.std.specs.Str.{IsUtf8}
use Rattle.std.proofs.lemmas.Bool.{false≢true}
use Rattle.std.proofs.lemmas.Slice.Eq.{bytes_eq-Decides}
use Rattle.std.proofs.lemmas.List.Elements.{All-get_or, All-from_get_or}
use Rattle.std.proofs.lemmas.Str.Pattern.{contains_char}
use Rattle.path_seal.specs.Sealed.{sealed_bytes, name_iv}
use Rattle.path_seal.proofs.NameBytes.{bytes_utf8, bytes_sealed, length-sealed_bytes}
use Rattle.path_seal.proofs.Opened.{spells_bytes, cut_size, cut_iv, cut_gcm, cut_name, cut_sealed}
use Rattle.path_seal.proofs.under.NamesUnder.opened.Goals as goal

-- the test of two byte strings for a difference
same : (r : Bool) (xs ys : List ℕ) → r ≡ not (bytes_eq xs ys) → r ≡ false → xs ≡ ys
same r xs ys e f = (bytes_eq-Decides xs ys).0 (by_not (bytes_eq xs ys) (sym e ∙ f))
  where
    by_not : (b : Bool) → not b ≡ false → b ≡ true
    by_not true h = refl
    by_not false h = sym h

differ : (r : Bool) (xs ys : List ℕ) → r ≡ not (bytes_eq xs ys) → r ≡ true → xs ≢ ys
differ r xs ys e t is = false≢true (ap not (sym ((bytes_eq-Decides xs ys).1 is)) ∙ sym e ∙ t)

pub returns-then-not-branch-clause-none : goal.returns-then-not-branch-clause-none
returns-then-not-branch-clause-none c p n e g s =
    c.in_ok-read_hex.ensures.none (ap Ok c.if-not-branch.true) (sealed_bytes c.args.keys.now p n) (bytes_sealed c.args.keys.now p n c.are_keys.ensures.key_bytes (bytes_utf8 n g.utf8)) (spells_bytes c.args.keys.now p n c.args.text.now s)

pub returns-in_default-clause-none : goal.returns-in_default-clause-none
returns-in_default-clause-none c p n e g s =
    let one = c.in_ok-read_hex.ensures.one (ap Ok c.if-not-branch.false) in
    let is = one (sealed_bytes c.args.keys.now p n) (bytes_sealed c.args.keys.now p n c.are_keys.ensures.key_bytes (bytes_utf8 n g.utf8)) (spells_bytes c.args.keys.now p n c.args.text.now s) in
    omega (arith, c.in_default.ensures, ap length c.as_slice.ensures.value, ap length is, length-sealed_bytes c.args.keys.now p n)

pub unsealed-requires-clause-text : goal.unsealed-requires-clause-text
unsealed-requires-clause-text c =
    let some = c.in_ok-read_hex.ensures.spelled (ap Ok c.if-not-branch.false) in
    omega (arith, cut_size (rw c.as_slice.ensures.value at c.in-Some.ensures) some, c.requires.text)

pub returns-in_default-2-clause-none : goal.returns-in_default-2-clause-none
returns-in_default-2-clause-none c p n e g s =
    let one = c.in_ok-read_hex.ensures.one (ap Ok c.if-not-branch.false) in
    let is = c.as_slice.ensures.value ∙ one (sealed_bytes c.args.keys.now p n) (bytes_sealed c.args.keys.now p n c.are_keys.ensures.key_bytes (bytes_utf8 n g.utf8)) (spells_bytes c.args.keys.now p n c.args.text.now s) in
    (rw c.in_default-2.is at c.in_ok-name.ensures.none) p n e g.utf8 (cut_gcm c.args.keys.now p n _ _ c.in-Some.ensures is refl refl)

pub returns-then-ne-clause-none : goal.returns-then-ne-clause-none
returns-then-ne-clause-none c p n e g s =
    let one = c.in_ok-read_hex.ensures.one (ap Ok c.if-not-branch.false) in
    let is = c.as_slice.ensures.value ∙ one (sealed_bytes c.args.keys.now p n) (bytes_sealed c.args.keys.now p n c.are_keys.ensures.key_bytes (bytes_utf8 n g.utf8)) (spells_bytes c.args.keys.now p n c.args.text.now s) in
    let found = rw c.in-Some-2.is at c.in_ok-name.ensures.some in
    let name = cut_name c.args.keys.now p n _ _ (string_bytes c.in-Some-2.name) c.in-Some.ensures is refl refl (found p e) in
    let iv = c.iv_of.ensures c.args.keys.now p e ∙ ap (name_iv c.args.keys.now p) (c.as_bytes.ensures.value ∙ name) ∙ sym (cut_iv c.args.keys.now p n c.in-Some.ensures is) in
    differ _ _ _ c.ne.ensures c.if-ne.true iv

pub returns-then-contains-clause-none : goal.returns-then-contains-clause-none
returns-then-contains-clause-none c p n e g s =
    let one = c.in_ok-read_hex.ensures.one (ap Ok c.if-not-branch.false) in
    let is = c.as_slice.ensures.value ∙ one (sealed_bytes c.args.keys.now p n) (bytes_sealed c.args.keys.now p n c.are_keys.ensures.key_bytes (bytes_utf8 n g.utf8)) (spells_bytes c.args.keys.now p n c.args.text.now s) in
    let found = rw c.in-Some-2.is at c.in_ok-name.ensures.some in
    let name = cut_name c.args.keys.now p n _ _ (string_bytes c.in-Some-2.name) c.in-Some.ensures is refl refl (found p e) in
    let slash = (contains_char 47 c.as_str.result.now _ c.contains.ensures.cases (omega arith)).0 c.if-contains.true in
    let there : c.as_str.result.now ≡ n = c.as_str.ensures.value ∙ name in
    All-get_or (λ b. b ≢ 47) n slash.0 0 (omega (arith, slash.1, ap length there)) g.no_slash (ap (λ (l : List ℕ). get_or l slash.0 0) (sym there) ∙ slash.2)

pub returns-clause-some : goal.returns-clause-some
returns-clause-some c =
    let some = c.in_ok-read_hex.ensures.spelled (ap Ok c.if-not-branch.false) in
    let found = rw c.in-Some-2.is at c.in_ok-name.ensures.some in
    let pattern = (contains_char 47 c.as_str.result.now _ c.contains.ensures.cases (omega arith)).1 in (
      record {
        utf8 = subst IsUtf8 c.as_str.ensures.value c.as_str.utf8;
        no_slash = All-from_get_or (λ b. b ≢ 47) (string_bytes c.in-Some-2.name) 0 (λ k lt at. false≢true (sym c.if-contains.false ∙ pattern k (omega (arith, lt, ap length c.as_str.ensures.value)) (ap (λ (l : List ℕ). get_or l k 0) c.as_str.ensures.value ∙ at)));
      },
      λ p e. cut_sealed c.args.keys.now p _ _ (string_bytes c.in-Some-2.name) (rw c.as_slice.ensures.value at c.in-Some.ensures) some (sym (same _ _ _ c.ne.ensures c.if-ne.false) ∙ c.iv_of.ensures c.args.keys.now p e ∙ ap (name_iv c.args.keys.now p) c.as_bytes.ensures.value) refl refl (found p e),
    )
