use Rattle.std.proofs.Common.{FitsSigned, ◌∙◌, refl, w64}
use Rattle.std.proofs.lemmas.Int.{to_z-of_z}
use Rattle.std.proofs.lemmas.Result.{err_from_is_err_and}
use Rattle.tree_server.proofs.Cutting.{less_left}
use Rattle.tree_server.proofs.Served.{one_further, ends_further, starts_flushed, ends_unflushed, all_taken_now, of_some, of_none}
use Rattle.tree_server.proofs.server.TreeServer.take_frames.Goals as goal

pub returns-in_default-clause-ends : goal.returns-in_default-clause-ends
returns-in_default-clause-ends g c = λ limit past st admitted on empty. ends_unflushed _ _ _ _ _ _ _ c.args.connection c.args.now past _ st admitted on (c.in_default.ensures.err past st.both.lines_are).1

pub loop-count-init : goal.loop-count-init
loop-count-init g c = record {
  limit = refl;
  so_far = λ limit past st admitted on empty. starts_flushed _ _ _ _ _ _ _ c.args.connection _ past _ st admitted on (c.in-Ok.ensures.ok past st.both.lines_are);
}

pub returns-in_err-count-clause-ends : goal.returns-in_err-count-clause-ends
returns-in_err-count-clause-ends g c =
    let n : FitsSigned w64 c.args.now = c.ranges.now in
    let p = err_from_is_err_and c.from_residual.result c.from_residual.ensures.1 in
    λ limit. rw (p.1, p.2) (λ past st admitted on empty.
    ends_further _ _ _ _ _ _ _ _ _ _ _ _ c.args.connection c.args.now past st.both.machine.are_acts admitted empty _ _ _ ((simp to_z-of_z at c.loop-count.invariant.so_far) limit past st admitted on empty) ((simp to_z-of_z at c.in_err-count.ensures.ends) (c.loop-count.invariant.limit ∙ limit)))

pub loop-count-smaller : goal.loop-count-smaller
loop-count-smaller g c = less_left _ _ _ _ _ _ c.split_at.ensures.back (c.in_ok-count.ensures.some c.in-Some.count (of_some _ _ c.in-Some.is)).1

pub loop-count-preserved : goal.loop-count-preserved
loop-count-preserved g c =
    let i = c.loop-count.invariant in
    let h = c.in_ok-count.ensures.some c.in-Some.count (of_some _ _ c.in-Some.is) in
    record {
      limit = c.take_next.ensures.limit ∙ i.limit;
      so_far = λ limit past st admitted on empty.
          one_further _ _ _ _ _ _ _ _ _ _ _ _ c.args.connection _ past st.both.machine.are_acts admitted empty _ _ _ _ _ c.in-Some.count h.0 c.split_at.ensures.back (i.limit ∙ limit) (i.so_far limit past st admitted on empty) h.1 h.2;
    }

pub returns-clause-taken : goal.returns-clause-taken
returns-clause-taken g c =
    let n : FitsSigned w64 c.args.now = c.ranges.now in
    let h = c.in_ok-count.ensures.none (of_none _ c.in_default-2.is) in
    λ limit past st admitted on empty.
    let r = all_taken_now _ _ _ _ _ _ c.args.connection c.args.now past _ _ _ _ (c.loop-count.invariant.limit ∙ limit) ((simp to_z-of_z at c.loop-count.invariant.so_far) limit past st admitted on empty) h.0 in
    (r.0, r.1, r.2, r.3, h.1 r.0 r.4)
