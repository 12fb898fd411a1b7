use Rattle.std.proofs.Common.{◌≡◌, ◌++◌, ◌∙◌, ℕ, replicate, refl, sym, ap, rules, arith, append-nil, w32, FitsSigned}
use Rattle.std.proofs.lemmas.Int.{to_z-of_z}
use Rattle.zk_messages.specs.declared.reply.OpResult.TheVariants.{Error}
use Rattle.tree_state.proofs.FailedCodes.{one_pushed}
use Rattle.tree_state.proofs.multi.push_codes.Goals as goal

pub loop-init : goal.loop-init
loop-init c = sym (append-nil c.args.results.now.items)

pub loop-preserved : goal.loop-preserved
loop-preserved c = one_pushed c.args.results.now.items c.loop.results.items c.push.new.self.items _ _ c.loop.counter c.loop.invariant refl c.in_ok-push.ensures.items

pub returns : goal.returns
returns c =
    let f : FitsSigned w32 c.args.code = search rules in
    let all : c.loop.counter ≡ c.args.count = omega (arith, c.loop-test.false, c.loop.auto.counter-end) in
    (simp to_z-of_z at c.loop.invariant) ∙ ap (λ (k : ℕ). c.args.results.now.items ++ replicate k (Error c.args.code)) all
