use Rattle.std.proofs.Common.{◌≡◌, ℕ, List, [], ◌∷◌, ◌++◌, append_assoc, sym, ap, ◌∙◌, subst, arith}
use lib.Utf8.{encode}
use Rattle.std.proofs.lemmas.Str.{encode_ascii}
use Rattle.zk_path.specs.View.{components}
use Rattle.zk_path.specs.Paths.{joined}
use Rattle.zk_path.proofs.Components.{components-push}
use Rattle.zk_path.proofs.Values.{joined-push}
use Rattle.zk_path.proofs.paths.Path.under.Goals as goal

-- what three appends leave
three : (a b c d above name : List ℕ) → a ≡ [] → b ≡ a ++ above → c ≡ b ++ encode 47 → d ≡ c ++ name → d ≡ above ++ 47 ∷ name
three a b c d above name p q r s = s ∙ ap (λ (l : List ℕ). l ++ name) (r ∙ ap (λ (l : List ℕ). b ++ l) (encode_ascii 47 (omega arith)) ∙ ap (λ (l : List ℕ). l ++ 47 ∷ []) (q ∙ ap (λ (l : List ℕ). l ++ above) p)) ∙ append_assoc above (47 ∷ []) name

pub invariant_of-result : goal.invariant_of-result
invariant_of-result c =
    let e = three _ _ _ _ c.args.above.now c.args.name.now c.in_ok-held.ensures.bytes c.in_ok-push_str.ensures.bytes c.in_ok-push.ensures.bytes c.in_ok-push_str-2.ensures.bytes in
    subst (λ (t : List ℕ). joined (components t) ≡ t) (sym e) (joined-push c.args.above.now c.args.name.now c.requires.name c.requires.above)

pub returns : goal.returns
returns c =
    let e = three _ _ _ _ c.args.above.now c.args.name.now c.in_ok-held.ensures.bytes c.in_ok-push_str.ensures.bytes c.in_ok-push.ensures.bytes c.in_ok-push_str-2.ensures.bytes in
    ap components e ∙ components-push c.args.above.now c.args.name.now c.requires.name
