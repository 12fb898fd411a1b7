use Rattle.std.proofs.Common.{◌≡◌, ◌≢◌, ℕ, List, [], ◌∷◌, Option, Some, None, MatchOption, Bor, sym, ◌∙◌, arith}
use Rattle.std.specs.Prelude.{All}
use Rattle.std.proofs.lemmas.Bool.{iff_false}
use Rattle.std.proofs.lemmas.Str.Pattern.{strip_prefix_char}
use Rattle.zk_path.specs.Paths.{HasNoSlash, joined, text_of}
use Rattle.path_seal.proofs.Texts.{begins, joined_text}
use Rattle.path_seal.proofs.sealing.below_root.Goals as goal

below : (text : List ℕ) (p : List (List ℕ)) (r : Option (Bor (List ℕ))) → MatchOption r ((rest : List ℕ) → text ≢ 47 ∷ rest) (λ x. text ≡ 47 ∷ x.now) → text ≡ text_of p → p ≢ [] → All HasNoSlash p → MatchOption r (p ≡ []) (λ rest. (text_of p ≡ 47 ∷ rest.now) × (joined p ≡ text_of p) × All HasNoSlash p)
below text p None h e some plain = let g = begins p in absurd (h g.0 (e ∙ g.1))
below text p (Some x) h e some plain = (sym e ∙ h, joined_text p some, plain)

pub returns-else-is_root : goal.returns-else-is_root
returns-else-is_root c =
    below c.text.result.now c.args.path.now c.strip_prefix.result (strip_prefix_char 47 c.text.result.now c.strip_prefix.result c.strip_prefix.ensures.cases (omega arith))
    c.text.ensures.text (iff_false c.is_root.ensures c.if-is_root.false) c.text.ensures.parts
