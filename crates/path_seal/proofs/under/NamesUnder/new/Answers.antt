use Rattle.std.proofs.Common.{[], ◌∙◌, arith}
use Rattle.path_seal.proofs.under.NamesUnder.new.Goals as goal

pub returns : goal.returns
returns c =
    let above = c.as_bytes-above.ensures.value ∙ c.above_of.ensures.value in
    let text = (rw (c.key.ensures.value, c.parent_text.ensures c.args.parent.now above) at c.absorb.ensures) [] (c.new-text.ensures c.args.keys.now.key) (omega (arith, c.requires)) in
    record { hashed = rw above at c.hashed_to.ensures; text = text; ahead = c.ahead_of.ensures c.args.parent.now above text }
