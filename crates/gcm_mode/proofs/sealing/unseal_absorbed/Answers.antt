use Rattle.std.proofs.Common.{rules, ◌≡◌, ◌↔◌, ◌∙◌, ◌++◌, List, ℕ, false, length, IsTrue, ap, refl}
use Rattle.gcm_mode.specs.Gcm.{gcm_tag, text_under}
use Rattle.gcm_mode.proofs.Counting.{covered_behind}
use Rattle.gcm_mode.proofs.RoundTrip.{opens_exactly}
use Rattle.gcm_mode.proofs.sealing.unseal_absorbed.Goals as goal

pub returns-then-ne-clause-sealed : goal.returns-then-ne-clause-sealed
returns-then-ne-clause-sealed c = λ aad plain held sealed.
    let len : length c.args.tag.now ≡ 16 = search rules in
    let own = c.tag_of.ensures aad held in
    let answer : IsTrue false ↔ (c.args.tag.now ≡ gcm_tag c.args.key.now c.args.iv.now aad c.args.text.now) = search rules in
    let parts = (opens_exactly c.args.key.now c.args.iv.now aad plain c.args.text.now c.args.tag.now len).1 sealed in
    let no : IsTrue false = answer.1 parts.0 in
    absurd (cc)

pub returns-clause-sealed : goal.returns-clause-sealed
returns-clause-sealed c = λ aad plain held sealed.
    let len : length c.args.tag.now ≡ 16 = search rules in
    let parts = (opens_exactly c.args.key.now c.args.iv.now aad plain c.args.text.now c.args.tag.now len).1 sealed in
    let was = c.args.into.now.items in
    let start : c.len-start.result ≡ length was = search rules in
    let all : c.cover_from.new.into.items ≡ was ++ text_under c.args.key.now c.args.iv.now c.args.text.now =
    covered_behind was c.push_piece.new.into.items c.cover_from.new.into.items c.args.text.now c.args.key.now c.cipher.result.now c.args.iv.now c.len-start.result
    (rw c.reserve.ensures.items at c.push_piece.ensures.items) start c.cipher.ensures c.cover_from.ensures.items in
    (refl, all ∙ ap (λ (l : List ℕ). was ++ l) parts.1)
