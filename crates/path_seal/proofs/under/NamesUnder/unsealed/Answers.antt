use Rattle.std.proofs.Common.{ℕ, List, ◌++◌, Vec, Global, Ok, Err, sym, ap, subst, ◌∙◌}
use Rattle.gcm_mode.specs.Absorbed.{IsAbsorbed}
use Rattle.gcm_mode.specs.Gcm.{text_under}
use Rattle.gcm_mode.proofs.RoundTrip.{opens_exactly}
use Rattle.zk_path.specs.Paths.{text_of}
use Rattle.path_seal.proofs.Forms.{none_passed}
use Rattle.path_seal.proofs.under.NamesUnder.unsealed.Goals as goal

pub unreachable-requires : goal.unreachable-requires
unreachable-requires c =
    let one = c.requires.parent in
    none_passed (text_of one.path) c.args.text.now _ one.short c.requires.text
    (((rw c.key.ensures.value at c.unseal_absorbed.ensures.long) (text_of one.path) one.under.text _).0 (c.in-Err-TooLong.is ∙ ap Err c.in-Err-TooLong.field-0-is))

pub returns-in-Ok-clause-some : goal.returns-in-Ok-clause-some
returns-in-Ok-clause-some c p h =
    let key = c.key.result.now in
    let text = text_under key c.args.iv.now c.args.text.now in
    let name = sym (ap (λ (v : Vec ℕ Global). v.items) c.in-Ok.ensures.ok ∙ c.in-Ok-true.ensures.ok (ap Ok c.in-Ok-true.field-0-test) ∙ ap (λ (l : List ℕ). l ++ text) c.new-name.ensures.items) in
    let absorbed = subst (λ (l : List ℕ). IsAbsorbed l c.args.self.now.text (text_of p)) (sym c.key.ensures.value) h.text in
    rw (← c.key.ensures.value) ((opens_exactly key c.args.iv.now (text_of p) _ c.args.text.now c.args.tag.now c.told-tag).0 ((c.in-Ok-true.ensures.tag (text_of p) absorbed).0 c.in-Ok-true.field-0-test, name))
