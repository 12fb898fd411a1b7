use Rattle.std.proofs.Common.{ℤ, w64, ap}
use Rattle.std.proofs.lemmas.Int.{to_z-of_z}
use Rattle.tree_state.proofs.SessionLists.{heard_back, is_on}
use Rattle.tree_state.proofs.SessionsKept.{heard, not_heard, kept_distinct, must_be_found}
use Rattle.tree_state.proofs.session.Sessions.hear.Goals as goal

pub returns-in-Some-clause-heard : goal.returns-in-Some-clause-heard
returns-in-Some-clause-heard c = λ xs owned keeps.
    heard c.args.self.now _ _ c.args.session c.args.now c.in-Some.live.now _ xs owned (to_z-of_z w64 c.args.session c.ranges.session)
    c.in-Some.ensures.ordered c.in-Some.ensures.value (c.get_mut.follows.holds _)
    (ap (λ (z : ℤ). record c.in-Some.live.now { heard = z }) (to_z-of_z w64 c.args.now c.ranges.now)) keeps

pub returns-in-Some-clause-back : goal.returns-in-Some-clause-back
returns-in-Some-clause-back c = λ xs owned x keeps live.
    heard_back c.args.session c.args.now xs x (kept_distinct c.args.self.now xs owned keeps c.in-Some.ensures.ordered) live

pub returns-in_default-clause-heard : goal.returns-in_default-clause-heard
returns-in_default-clause-heard c = λ xs owned keeps.
    not_heard c.args.self.now _ _ c.args.session _ xs owned (to_z-of_z w64 c.args.session c.ranges.session) c.in_default.ensures.value c.get_mut.follows.holds-at-none keeps

pub returns-in_default-clause-back : goal.returns-in_default-clause-back
returns-in_default-clause-back c = λ xs owned x keeps live.
    absurd (must_be_found c.args.self.now _ c.args.session x xs owned (to_z-of_z w64 c.args.session c.ranges.session) c.in_default.ensures.value keeps live)

pub returns-in-Some-clause-on : goal.returns-in-Some-clause-on
returns-in-Some-clause-on c = λ xs owned k keeps on.
    let r = is_on k c.args.session xs (kept_distinct c.args.self.now xs owned keeps c.in-Some.ensures.ordered) on in
    record { one = r.session; live = r.live; on = r.on }

pub returns-in_default-clause-on : goal.returns-in_default-clause-on
returns-in_default-clause-on c = λ xs owned k keeps on.
    let r = is_on k c.args.session xs (kept_distinct c.args.self.now xs owned keeps c.in_default.ensures.ordered) on in
    record { one = r.session; live = r.live; on = r.on }
