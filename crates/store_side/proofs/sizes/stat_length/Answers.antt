use Rattle.std.proofs.Common.{rules, arith}
use Rattle.store_side.proofs.CountedReplies.{FitsStat, count_stat}
use Rattle.store_side.proofs.sizes.stat_length.Goals as goal

pub returns : goal.returns
returns c =
    let fits : FitsStat c.args.fields.now = record {
      czxid = search rules;
      mzxid = search rules;
      ctime = search rules;
      mtime = search rules;
      version = search rules;
      cversion = search rules;
      aversion = search rules;
      owner = search rules;
      length = search rules;
      children = search rules;
      pzxid = search rules;
    } in
    count_stat _ _ fits (omega arith)
